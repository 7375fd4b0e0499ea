use Rattle.std.specs.BTreeMap.{is_at}
use Rattle.fb_wanted.proofs.Keys.{if_taken}
use Rattle.fb_tasks.proofs.Words.{ℕ, ◌≡◌, ◌∙◌, false, inl, inr, ap, arith, cases_lt, contains, pair_cmp, refl, subst}
use Rattle.fb_tasks.proofs.Nearby.{at_itself, same_pair, stays_out}
use Rattle.fb_tasks.proofs.near.forget_near.Goals as goal

pub loop-chunk-preserved : goal.loop-chunk-preserved
loop-chunk-preserved c =
    let pair : ℕ × ℕ = (c.loop-chunk.chunk, c.args.task) in
    let near = c.loop-chunk.near in
    record {
      others = λ k has. elim (c.loop-chunk.invariant.others k has) [
        | inl gone ↦ inl gone
        | inr there ↦ elim (if_taken (is_at (pair_cmp pair) k) (contains pair_cmp near k) there) [
          | inl here ↦
              let same = same_pair pair k here in
              inl (ap (λ p. p.1) same, (omega (arith, ap (λ p. p.0) same), omega (arith, ap (λ p. p.0) same)))
          | inr rest ↦ inr (c.remove.ensures.updates.0 k ∙ rest)
        ]
      ];
      gone = λ s low less. elim (cases_lt s c.loop-chunk.chunk) [
        | inl before ↦ c.remove.ensures.updates.0 (s, c.args.task)
            ∙ stays_out (is_at (pair_cmp pair) (s, c.args.task)) (contains pair_cmp near (s, c.args.task))
            (c.loop-chunk.invariant.gone s low before)
        | inr last ↦
            let same : c.loop-chunk.chunk ≡ s = omega arith in
            subst (λ n. contains pair_cmp c.remove.new.self (n, c.args.task) ≡ false) same
            (c.remove.ensures.updates.0 pair ∙ rw (at_itself pair) refl)
      ];
    }
