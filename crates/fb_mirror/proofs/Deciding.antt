-- The event that decides, over the changes of single runs.
use Rattle.fb_mirror.proofs.Words.{◌≡◌, ℕ, List, [], ◌∷◌, ◌++◌, map, Option, Some, None, true, false, refl, sym, ap, ap₂, ◌∙◌, arith, inl}
use Rattle.fb_mirror.proofs.Words.{inr, nat_lt, option_map, cases_Bool, nat_tests, Content, ContentRun, sectors_in, sectors_of}
use Rattle.fb_mirror.proofs.Words.{after_taking, after_taking-append, Change, changes_in, changes_of, Event, later, decided}
use Rattle.fb_mirror.proofs.Taking.{over, taken_over}

abbrev pub dated : ℕ → Option Content → Option (ℕ × Content)
dated instant content = option_map (λ c. (instant, c)) content

-- what a change gives a sector, and the one of several changes that decides
abbrev pub own : ℕ → Change → Option Content
own lbn change = after_taking (sectors_in change.run) lbn None

abbrev pub latest : ℕ → List Change → Option (ℕ × Content)
latest lbn [] = None
latest lbn (change ∷ changes) = later (dated change.instant (own lbn change)) (latest lbn changes)

three : (a b c : ℕ × Content) → later (later (Some a) (Some b)) (Some c) ≡ later (Some a) (later (Some b) (Some c))
three a b c = elim (cases_Bool (nat_lt b.0 a.0)) [
  | inl ba ↦ elim (cases_Bool (nat_lt c.0 b.0)) [
    | inl cb ↦ let ca : nat_lt c.0 a.0 ≡ true = grind (arith, nat_tests) in rw (ba, cb, ca, ba) refl
    | inr cb ↦ rw (ba, cb) refl
  ]
  | inr ba ↦ elim (cases_Bool (nat_lt c.0 b.0)) [
    | inl cb ↦ rw (ba, cb, ba) refl
    | inr cb ↦ let ca : nat_lt c.0 a.0 ≡ false = grind (arith, nat_tests) in rw (ba, cb, ca) refl
  ]
]

some_later : (a b : ℕ × Content) → later (later (Some a) (Some b)) None ≡ later (Some a) (Some b)
some_later a b = elim (cases_Bool (nat_lt b.0 a.0)) [
  | inl less ↦ rw less refl
  | inr more ↦ rw more refl
]

-- of three the one that decides
pub later-assoc : (a b c : Option (ℕ × Content)) → later (later a b) c ≡ later a (later b c)
later-assoc None b c = refl
later-assoc (Some a) None c = refl
later-assoc (Some a) (Some b) None = some_later a b
later-assoc (Some a) (Some b) (Some c) = three a b c

latest-append : (lbn : ℕ) (xs ys : List Change) → latest lbn (xs ++ ys) ≡ later (latest lbn xs) (latest lbn ys)
latest-append lbn [] ys = refl
latest-append lbn (x ∷ xs) ys =
    let first = dated x.instant (own lbn x) in
    ap (later first) (latest-append lbn xs ys) ∙ sym (later-assoc first (latest lbn xs) (latest lbn ys))

-- of two at one instant the second decides
at_once : (instant : ℕ) (first second : Option Content)
    → later (dated instant first) (dated instant second) ≡ dated instant (over second first)
at_once instant None None = refl
at_once instant None (Some b) = refl
at_once instant (Some a) None = refl
at_once instant (Some a) (Some b) = let same : nat_lt instant instant ≡ false = grind (arith, nat_tests) in rw same refl

one_event : (lbn instant : ℕ) (runs : List ContentRun)
    → latest lbn (map (λ run. record { instant = instant; run = run }) runs) ≡ dated instant (after_taking (sectors_of runs) lbn None)
one_event lbn instant [] = refl
one_event lbn instant (run ∷ runs) =
    let first = after_taking (sectors_in run) lbn None in
    ap (later (dated instant first)) (one_event lbn instant runs)
    ∙ at_once instant first (after_taking (sectors_of runs) lbn None)
    ∙ ap (dated instant) (sym (after_taking-append (sectors_in run) (sectors_of runs) lbn None ∙ taken_over (sectors_of runs) lbn first))

-- what decides of the events is what decides of their changes
pub latest_decides : (lbn : ℕ) (events : List Event) → latest lbn (changes_of events) ≡ decided lbn events
latest_decides lbn [] = refl
latest_decides lbn (event ∷ events) =
    latest-append lbn (changes_in event) (changes_of events)
    ∙ ap₂ later (one_event lbn event.instant event.contents) (latest_decides lbn events)
