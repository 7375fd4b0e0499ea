-- What sectors hold before any write, and after one.
use Rattle.fb_store.proofs.Words.{◌≡◌, ℕ, ◌+◌, ◌-◌, ◌<◌, ◌≤◌, List, [], ◌∷◌, Option, Some, None, refl, true, false, Bool, cond, ◌==◌}
use Rattle.fb_store.proofs.Words.{arith, sym, ap, ap₂, ◌∙◌, inl, inr, nat_cmp, is_at, IsSome, unwrap_or, cases_lt, nat_tests, Content}
use Rattle.fb_store.proofs.Words.{Filled, Unreadable, ContentRun, IsRun, unwritten, is_within, after_write, held_of, begins_at, content_in}
use Rattle.std.proofs.Common.{◌||◌}
use Rattle.std.specs.List.{list_any}
use Rattle.fb_store.proofs.Held.{steady, none_there, none_held}

same_key : (lbn bad : ℕ) → is_at (nat_cmp lbn) bad ≡ (bad == lbn)
same_key lbn bad = grind (arith, nat_tests)

-- a look-up in the set of latent sectors finds what a search of their list finds
pub any_key : (keys : List ℕ) (lbn : ℕ) → list_any (is_at (nat_cmp lbn)) keys ≡ list_any (λ bad. bad == lbn) keys
any_key [] lbn = refl
any_key (bad ∷ keys) lbn = ap₂ (λ a b. a || b) (same_key lbn bad) (any_key keys lbn)

pub unwritten-is : (keys : List ℕ) (lbn : ℕ) (b : Bool) → list_any (is_at (nat_cmp lbn)) keys ≡ b
    → unwritten keys lbn ≡ cond b Unreadable (Filled 0)
unwritten-is keys lbn b e = ap (λ any. cond any Unreadable (Filled 0)) (sym (any_key keys lbn) ∙ e)

pub inside : (first n lbn : ℕ) → first ≤ lbn → lbn < first + n → is_within first n lbn ≡ true
inside first n lbn from to = grind (arith, nat_tests)

pub before : (first n lbn : ℕ) → lbn < first → is_within first n lbn ≡ false
before first n lbn less = grind (arith, nat_tests)

pub after : (first n lbn : ℕ) → first + n ≤ lbn → is_within first n lbn ≡ false
after first n lbn more = grind (arith, nat_tests)

-- the contents after a write
pub content_written : (first n writer lbn : ℕ) (was is : Option Content) (original : Content)
    → (first ≤ lbn → lbn < first + n → is ≡ Some (Filled writer)) → (lbn < first → is ≡ was) → (first + n ≤ lbn → is ≡ was)
    → unwrap_or is original ≡ after_write first n writer lbn (unwrap_or was original)
content_written first n writer lbn was is original here less more = elim (cases_lt lbn first) [
  | inl a ↦ ap (λ w. unwrap_or w original) (less a) ∙ ap (λ b. cond b (Filled writer) (unwrap_or was original)) (sym (before first n lbn a))
  | inr a ↦ elim (cases_lt lbn (first + n)) [
    | inl b ↦ ap (λ w. unwrap_or w original) (here a b)
        ∙ ap (λ b. cond b (Filled writer) (unwrap_or was original)) (sym (inside first n lbn a b))
    | inr b ↦ ap (λ w. unwrap_or w original) (more b)
        ∙ ap (λ b. cond b (Filled writer) (unwrap_or was original)) (sym (after first n lbn b))
  ]
]

-- sectors up to the next latent one hold the first fill
pub IsRun-original : (keys : List ℕ) (first end bad : ℕ) → first < bad → bad ≤ end
    → ((lbn : ℕ) → first ≤ lbn → lbn < bad → list_any (is_at (nat_cmp lbn)) keys ≡ false)
    → IsRun (unwritten keys) first end (record { first = first; count = bad - first; content = Filled 0 })
IsRun-original keys first end bad some within none = record {
  from = refl;
  some = omega arith;
  within = omega arith;
  same = λ lbn a b. unwritten-is keys lbn false (none lbn a (omega arith));
}

pub goes_on : (ranges : List (ℕ × Option Content)) (first stop lbn : ℕ)
    → ((begin : ℕ) → IsSome (begins_at ranges begin) → first < begin → stop ≤ begin) → first ≤ lbn → lbn < stop
    → held_of (begins_at ranges) lbn ≡ held_of (begins_at ranges) first
goes_on ranges first stop lbn next from to = steady (begins_at ranges) first lbn from
    (λ begin a b. none_there (begins_at ranges begin) (λ some. let past : stop ≤ begin = next begin some a in absurd (omega arith)))

-- without any range, sectors hold what was there before any write
pub content_in_empty : (ranges : List (ℕ × Option Content)) (keys latent : List ℕ) (lbn : ℕ) → ranges ≡ []
    → list_any (is_at (nat_cmp lbn)) keys ≡ list_any (is_at (nat_cmp lbn)) latent
    → content_in (record { latent = keys; ranges = ranges }) lbn ≡ unwritten latent lbn
content_in_empty ranges keys latent lbn none same =
    ap (λ w. unwrap_or w (unwritten keys lbn))
    (ap (λ rs. held_of (begins_at rs) lbn) none ∙ none_held (begins_at []) lbn (λ begin le. refl))
    ∙ ap (λ any. cond any Unreadable (Filled 0)) (sym (any_key keys lbn) ∙ (same ∙ any_key latent lbn))

-- the sectors up to the next range make a run if the range has a content
pub IsRun-written : (ranges : List (ℕ × Option Content)) (latent : List ℕ) (first end stop : ℕ) (content : Content) → first < stop
    → stop ≤ end → Some content ≡ held_of (begins_at ranges) first
    → ((begin : ℕ) → IsSome (begins_at ranges begin) → first < begin → stop ≤ begin)
    → IsRun (content_in (record { latent = latent; ranges = ranges })) first end
    (record { first = first; count = stop - first; content = content })
IsRun-written ranges latent first end stop content some within here next = record {
  from = refl;
  some = omega arith;
  within = omega arith;
  same = λ lbn a b. ap (λ w. unwrap_or w (unwritten latent lbn)) (goes_on ranges first stop lbn next a (omega arith) ∙ sym here);
}

-- if the range has no content, a run of what was there before any write is a run of the store
pub IsRun-unwritten : (ranges : List (ℕ × Option Content)) (latent : List ℕ) (first end stop : ℕ) (run : ContentRun) → stop ≤ end
    → None ≡ held_of (begins_at ranges) first
    → ((begin : ℕ) → IsSome (begins_at ranges begin) → first < begin → stop ≤ begin)
    → IsRun (unwritten latent) first stop run → IsRun (content_in (record { latent = latent; ranges = ranges })) first end run
IsRun-unwritten ranges latent first end stop run within here next is =
    let from = is.from in let to = is.within in
    record {
      from = is.from;
      some = is.some;
      within = omega arith;
      same = λ lbn a b. ap (λ w. unwrap_or w (unwritten latent lbn)) (goes_on ranges first stop lbn next (omega arith) (omega arith)
          ∙ sym here) ∙ is.same lbn a b;
    }
