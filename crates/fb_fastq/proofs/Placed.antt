-- Requests that were placed, and those behind them.
use Rattle.std.proofs.lemmas.List.{take-append-drop, take_all, take_at, length-drop}
use Rattle.fb_fastq.proofs.Words.{◌≡◌, ℕ, ◌-◌, List, [], ◌++◌, ◌∙◌, ap, take, drop, length, append_assoc, append-nil, arith, Request}

module _ (was placed arrived : List Request) (count : ℕ) (is : placed ≡ was ++ take count arrived) where
  pub all_placed : count ≡ length arrived → placed ++ [] ≡ was ++ arrived
  all_placed all = append-nil placed ∙ (is ∙ ap (λ rs. was ++ rs) (take_all count arrived (omega (arith, all))))

  pub rest_left : placed ++ drop count arrived ≡ was ++ arrived
  rest_left = ap (λ rs. rs ++ drop count arrived) is
      ∙ (append_assoc was (take count arrived) (drop count arrived) ∙ ap (λ rs. was ++ rs) (take-append-drop count arrived))

pub cut_off : (arrived : List Request) (count : ℕ) → take (length arrived - count) (drop count arrived ++ take count arrived) ≡ drop count arrived
cut_off arrived count = take_at (drop count arrived) (take count arrived) (length arrived - count) (length-drop count arrived)
