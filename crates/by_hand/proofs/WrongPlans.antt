-- Plans that aren't the best, refuted.
use Rattle.std.proofs.Common.{◌≤◌, ◌<◌, inl, inr, refl, lit≤, lit<, arith}
use Rattle.fb_rows.specs.declared.gap.Plan.TheVariants.{Direct, Detour}
use Rattle.fb_model.specs.Plans.{IsBest}
use Rattle.by_hand.specs.Rows.{at}
use Rattle.by_hand.specs.SmallDisk.{small_disk, quick_disk}
use Rattle.by_hand.specs.Wrong.{gap_with_three, three_blocks, gap_with_one, block_on_target, block_on_the_way}
use Rattle.by_hand.proofs.OnSmallDisks.{on_small_disks}

pub late_refuted : IsBest small_disk gap_with_three three_blocks (Direct 801) → ⊥
unfolding on_small_disks
late_refuted best = let less : 3 ≤ 2 = best.greatest (Direct 800) (lit≤ tt, lit≤ tt) in omega arith

pub soon_refuted : IsBest small_disk gap_with_three three_blocks (Direct 799) → ⊥
unfolding on_small_disks
soon_refuted best = let less : 3 ≤ 2 = best.greatest (Direct 800) (lit≤ tt, lit≤ tt) in omega arith

pub direct_refuted : IsBest quick_disk gap_with_one block_on_target (Direct 0) → ⊥
unfolding on_small_disks
direct_refuted best =
    let less : 1 ≤ 0 = best.greatest (Detour (at 1 0) 100) (record {
      on_disk = record { cylinder = lit< tt; head = lit< tt };
      not_source = refl;
      not_target = refl;
      after_arrival = lit≤ tt;
      in_time = lit≤ tt;
    }) in
    omega arith

pub equal_refuted : IsBest quick_disk gap_with_one block_on_the_way (Detour (at 1 0) 201) → ⊥
unfolding on_small_disks
equal_refuted best =
    elim (best.first (Detour (at 1 0) 200) (record {
      on_disk = record { cylinder = lit< tt; head = lit< tt };
      not_source = refl;
      not_target = refl;
      after_arrival = lit≤ tt;
      in_time = lit≤ tt;
    }) refl) [
      | inl before ↦ elim before [
        | inl lesser ↦ let less : 1 < 1 = lesser in omega arith
        | inr same ↦ let less : 0 < 0 = same.1 in omega arith
      ]
      | inr later ↦ let less : 201 ≤ 200 = later.1 in omega arith
    ]
