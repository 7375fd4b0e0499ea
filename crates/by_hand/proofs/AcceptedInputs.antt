-- The inputs of two runs are accepted.
use Rattle.std.proofs.Common.{refl, lit≤, lit<}
use Rattle.fb_model.specs.Accepted.{IsAccepted}
use Rattle.by_hand.specs.Idle.{promoted_read_carries}
use Rattle.by_hand.specs.Cleaning.{segments_by_benefit}
use Rattle.by_hand.proofs.OnSmallDisks.{on_small_disks}

pub promoted_is_accepted : IsAccepted promoted_read_carries.inputs
unfolding on_small_disks
promoted_is_accepted = record {
  latent = tt;
  requests = tt;
  names = refl;
  arrivals = tt;
  instants = ((lit≤ tt, (lit≤ tt, (lit≤ tt, tt))), ((lit≤ tt, (lit≤ tt, tt)), ((lit≤ tt, tt), (tt, tt))));
  calls = (
    lit≤ tt,
    (refl, lit≤ tt, lit≤ tt, lit≤ tt, lit≤ tt),
    (
      lit≤ tt,
      (record { opened = lit< tt; not_closed = refl }, refl, refl, record { some = lit< tt; inside = lit≤ tt }),
      (
        lit≤ tt,
        (record { opened = lit< tt; not_closed = refl }, refl, refl, record { some = lit< tt; inside = lit≤ tt }),
        (lit≤ tt, (record { opened = lit< tt; not_closed = refl }, record { some = lit< tt; inside = lit≤ tt }, lit≤ tt), tt),
      ),
    ),
  );
  few_calls = lit< tt;
  few_blocks = lit≤ tt;
  few_requests = lit≤ tt;
  until = lit≤ tt;
}

pub segments_are_accepted : IsAccepted segments_by_benefit.inputs
unfolding on_small_disks
segments_are_accepted = record {
  latent = tt;
  requests = (record { range = record { some = lit< tt; inside = lit≤ tt }; few = lit≤ tt; arrival = lit≤ tt }, tt);
  names = refl;
  arrivals = (tt, tt);
  instants = ((lit≤ tt, (lit≤ tt, tt)), ((lit≤ tt, tt), (tt, tt)));
  calls = (
    lit≤ tt,
    (refl, lit≤ tt, lit≤ tt, lit≤ tt, lit≤ tt),
    (
      lit≤ tt,
      (record { opened = lit< tt; not_closed = refl }, refl, record { some = lit< tt; inside = lit≤ tt }, lit≤ tt, lit≤ tt, refl),
      (
        lit≤ tt,
        (record { opened = lit< tt; not_closed = refl }, refl, record { some = lit< tt; inside = lit≤ tt }, lit≤ tt, lit≤ tt, refl),
        tt,
      ),
    ),
  );
  few_calls = lit< tt;
  few_blocks = lit≤ tt;
  few_requests = lit≤ tt;
  until = lit≤ tt;
}
