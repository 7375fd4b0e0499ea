use Rattle.std.specs.BTreeMap.{is_at}
use Rattle.fb_wanted.proofs.Keys.{still}
use Rattle.fb_tasks.proofs.Words.{ℕ, ◌∙◌, inl, inr, arith, cases_lt, contains, pair_cmp, refl, subst, ◌≡◌, true}
use Rattle.fb_tasks.proofs.Nearby.{at_itself}
use Rattle.fb_tasks.proofs.near.note_near.Goals as goal

pub loop-chunk-preserved : goal.loop-chunk-preserved
loop-chunk-preserved c =
    let pair : ℕ × ℕ = (c.loop-chunk.chunk, c.args.task) in
    let near = c.loop-chunk.near in
    let more = λ (k : ℕ × ℕ) (has : contains pair_cmp near k ≡ true). c.in_ok-insert.ensures.updates.0 k ∙ still (is_at (pair_cmp pair) k) (contains pair_cmp near k) has in
    record {
      stay = λ k has. more k (c.loop-chunk.invariant.stay k has);
      noted = λ s low less. elim (cases_lt s c.loop-chunk.chunk) [
        | inl before ↦ more (s, c.args.task) (c.loop-chunk.invariant.noted s low before)
        | inr last ↦
            let same : c.loop-chunk.chunk ≡ s = omega arith in
            subst (λ n. contains pair_cmp c.insert.new.self (n, c.args.task) ≡ true) same
            (c.in_ok-insert.ensures.updates.0 pair ∙ rw (at_itself pair) refl)
      ];
    }
