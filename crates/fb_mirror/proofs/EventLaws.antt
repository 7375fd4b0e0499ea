-- What events give sectors, and which event decides.
use Rattle.fb_mirror.proofs.Words.{◌≡◌, ℕ, ◌<◌, ◌≤◌, List, [], ◌∷◌, ◌++◌, Option, Some, None, Bool, true, false, cond, refl, sym, ap, ◌∙◌}
use Rattle.fb_mirror.proofs.Words.{arith, append-nil, inl, inr, subst, nat_lt, AllByRecursion, option_map, cases_Bool, nat_tests}
use Rattle.fb_mirror.proofs.Words.{none-some, same_Some, all_append, all_weaker, Content, Filled, ContentRun, sectors_in, sectors_of}
use Rattle.fb_mirror.proofs.Words.{after_taking, is_within, writer_of, taken_block, Got, DeliveryRow, ForeRow, Event, given, later}
use Rattle.fb_mirror.proofs.Words.{decided, writes_in, deliveries_in}
use Rattle.fb_store.specs.Sparse.{Gives}
use Rattle.fb_mirror.specs.Replacement.{Decides}

one_decides : (within : Bool) (instant : ℕ) (content : Content) (held : Option Content) → held ≡ cond within (Some content) None
    → later (option_map (λ c. (instant, c)) held) None ≡ cond within (Some (instant, content)) None
one_decides true instant content held is = rw is refl
one_decides false instant content held is = rw is refl

pub write_gives : (row : ForeRow) (lbn : ℕ) → row.request.write ≡ true → decided lbn (writes_in row)
    ≡ cond (is_within row.request.lbn row.request.count lbn) (Some (row.finish, Filled (writer_of row.request.name))) None
write_gives row lbn writes =
    let content = Filled (writer_of row.request.name) in
    let run : ContentRun = record { first = row.request.lbn; count = row.request.count; content = content } in
    ap (λ b. decided lbn (cond b (record { instant = row.finish; contents = run ∷ [] } ∷ []) [])) writes
    ∙ one_decides (is_within row.request.lbn row.request.count lbn) row.finish content (after_taking (sectors_of (run ∷ [])) lbn None)
    (taken_block (λ lbn. content) row.request.lbn row.request.count lbn (sectors_of (run ∷ [])) None (append-nil (sectors_in run)))

pub delivery_gives : (row : DeliveryRow) (content_of : ℕ → Content) (lbn : ℕ) → Gives row.content content_of row.block.lbn row.block.count
    → decided lbn (deliveries_in (Got row)) ≡ cond (is_within row.block.lbn row.block.count lbn) (Some (row.end, content_of lbn)) None
delivery_gives row content_of lbn gives =
    one_decides (is_within row.block.lbn row.block.count lbn) row.end (content_of lbn) (after_taking (sectors_of row.content) lbn None)
    (taken_block content_of row.block.lbn row.block.count lbn (sectors_of row.content) None gives)

one_or : (one other : ℕ × Content) (b : Bool) → cond b (Some one) (Some other) ≡ None → ⊥
one_or one other true e = none-some one (sym e)
one_or one other false e = none-some other (sym e)

none_of : (first rest : Option (ℕ × Content)) → later first rest ≡ None → (first ≡ None) × (rest ≡ None)
none_of None rest e = (refl, e)
none_of (Some one) None e = absurd (none-some one (sym e))
none_of (Some one) (Some other) e = absurd (one_or one other (nat_lt other.0 one.0) e)

-- where none decides, none concerns the sector
pub none_given : (lbn : ℕ) (events : List Event) → decided lbn events ≡ None → AllByRecursion (λ event. given lbn event ≡ None) events
none_given lbn [] is = tt
none_given lbn (event ∷ events) is = let none = none_of (given lbn event) (decided lbn events) is in (none.0, none_given lbn events none.1)

abbrev Below : ℕ → ℕ → Event → Type 0
Below lbn end other = (that : ℕ × Content) → given lbn other ≡ Some that → that.0 < end

nothing_below : (lbn end : ℕ) (events : List Event) → AllByRecursion (λ event. given lbn event ≡ None) events
    → AllByRecursion (Below lbn end) events
nothing_below lbn end events none = all_weaker (λ event. given lbn event ≡ None) (Below lbn end)
    (λ event none that is. absurd (none-some that (sym none ∙ is))) events none

below_later : (lbn instant end : ℕ) (events : List Event)
    → instant < end → AllByRecursion (λ other. (that : ℕ × Content) → given lbn other ≡ Some that → that.0 ≤ instant) events
    → AllByRecursion (Below lbn end) events
below_later lbn instant end events less all = all_weaker _ _ (λ event here that is. omega (arith, less, here that is)) events all

below_earlier : (lbn instant end : ℕ) (events : List Event) → instant < end → AllByRecursion (Below lbn instant) events
    → AllByRecursion (Below lbn end) events
below_earlier lbn instant end events less all = all_weaker _ _ (λ event here that is. omega (arith, less, here that is)) events all

-- all events are earlier than what is later than the one that decides
all_below : (lbn end : ℕ) (events : List Event) (last : ℕ × Content) → last.0 < end → Decides lbn events last
    → AllByRecursion (Below lbn end) events
all_below lbn end events last less decides =
    let here : Below lbn end decides.event =
    λ that is. let same = ap (λ p. p.0) (same_Some last that (sym decides.gives ∙ is)) in omega arith in
    subst (AllByRecursion (Below lbn end)) (sym decides.split)
    (all_append (Below lbn end) decides.before (decides.event ∷ decides.behind)
    (below_later lbn last.0 end decides.before less decides.no_later)
    (here, below_earlier lbn last.0 end decides.behind less decides.earlier))

behind_one : (lbn : ℕ) (event : Event) (events : List Event) (last : ℕ × Content)
    → ((that : ℕ × Content) → given lbn event ≡ Some that → that.0 ≤ last.0) → Decides lbn events last → Decides lbn (event ∷ events) last
behind_one lbn event events last first decides = record {
  before = event ∷ decides.before;
  event = decides.event;
  behind = decides.behind;
  split = ap (λ rest. event ∷ rest) decides.split;
  gives = decides.gives;
  no_later = (first, decides.no_later);
  earlier = decides.earlier;
}

at_front : (lbn : ℕ) (event : Event) (events : List Event) (last : ℕ × Content) → given lbn event ≡ Some last
    → AllByRecursion (Below lbn last.0) events → Decides lbn (event ∷ events) last
at_front lbn event events last gives earlier =
    record { before = []; event = event; behind = events; split = refl; gives = gives; no_later = tt; earlier = earlier }

one_more : (lbn : ℕ) (event : Event) (events : List Event) (last : ℕ × Content) (first rest : Option (ℕ × Content))
    → given lbn event ≡ first → decided lbn events ≡ rest → later first rest ≡ Some last
    → ((other : ℕ × Content) → decided lbn events ≡ Some other → Decides lbn events other) → Decides lbn (event ∷ events) last
one_more lbn event events last None rest f r e so_far =
    behind_one lbn event events last (λ that is. absurd (none-some that (sym f ∙ is))) (so_far last (r ∙ e))
one_more lbn event events last (Some one) None f r e so_far =
    at_front lbn event events last (f ∙ e) (nothing_below lbn last.0 events (none_given lbn events r))
one_more lbn event events last (Some one) (Some other) f r e so_far = elim (cases_Bool (nat_lt other.0 one.0)) [
  | inl less ↦
      let is_one = sym (ap (λ b. cond b (Some one) (Some other)) less) ∙ e in
      let same = ap (λ p. p.0) (same_Some one last is_one) in
      let before : other.0 < one.0 = grind (arith, nat_tests) in
      let under : other.0 < last.0 = omega arith in
      at_front lbn event events last (f ∙ is_one) (all_below lbn last.0 events other under (so_far other r))
  | inr more ↦
      let is_other = sym (ap (λ b. cond b (Some one) (Some other)) more) ∙ e in
      let same = ap (λ p. p.0) (same_Some other last is_other) in
      let behind : one.0 ≤ other.0 = grind (arith, nat_tests) in
      behind_one lbn event events last (λ that is. let first = ap (λ p. p.0) (same_Some one that (sym f ∙ is)) in omega arith)
      (so_far last (r ∙ is_other))
]

-- the latest of the events that concern a sector decides, and of equals the last
pub latest_decides : (lbn : ℕ) (events : List Event) (last : ℕ × Content) → decided lbn events ≡ Some last → Decides lbn events last
latest_decides lbn [] last is = absurd (none-some last is)
latest_decides lbn (event ∷ events) last is =
    one_more lbn event events last (given lbn event) (decided lbn events) refl refl is (λ other so. latest_decides lbn events other so)

-- ---- no other event decides

-- what decides among earlier events is earlier
later_below : (end : ℕ) (one other : Option (ℕ × Content)) → ((that : ℕ × Content) → one ≡ Some that → that.0 < end)
    → ((that : ℕ × Content) → other ≡ Some that → that.0 < end) → (that : ℕ × Content) → later one other ≡ Some that → that.0 < end
later_below end None other h k = k
later_below end (Some one) None h k = h
later_below end (Some one) (Some other) h k = elim (cases_Bool (nat_lt other.0 one.0)) [
  | inl first ↦ rw first h
  | inr second ↦ rw second k
]

decided_below : (lbn end : ℕ) (events : List Event) → AllByRecursion (Below lbn end) events → (that : ℕ × Content)
    → decided lbn events ≡ Some that → that.0 < end
decided_below lbn end [] all = λ that is. absurd (none-some that is)
decided_below lbn end (event ∷ events) all =
    later_below end (given lbn event) (decided lbn events) all.0 (decided_below lbn end events all.1)

stays_first : (last : ℕ × Content) (rest : Option (ℕ × Content)) → ((that : ℕ × Content) → rest ≡ Some that → that.0 < last.0)
    → later (Some last) rest ≡ Some last
stays_first last None below = refl
stays_first last (Some other) below =
    let less : nat_lt other.0 last.0 ≡ true = let k = below other refl in grind (arith, nat_tests) in
    ap (λ b. cond b (Some last) (Some other)) less

stays_last : (one : Option (ℕ × Content)) (last : ℕ × Content) → ((that : ℕ × Content) → one ≡ Some that → that.0 ≤ last.0)
    → later one (Some last) ≡ Some last
stays_last None last no_later = refl
stays_last (Some one) last no_later =
    let after : nat_lt last.0 one.0 ≡ false = let k = no_later one refl in grind (arith, nat_tests) in
    ap (λ b. cond b (Some one) (Some last)) after

decides_behind : (lbn : ℕ) (before events : List Event) (last : ℕ × Content)
    → AllByRecursion (λ other. (that : ℕ × Content) → given lbn other ≡ Some that → that.0 ≤ last.0) before
    → decided lbn events ≡ Some last → decided lbn (before ++ events) ≡ Some last
decides_behind lbn [] events last no_later is = is
decides_behind lbn (event ∷ before) events last no_later is =
    ap (later (given lbn event)) (decides_behind lbn before events last no_later.1 is) ∙ stays_last (given lbn event) last no_later.0

pub only_decides : (lbn : ℕ) (events : List Event) (last : ℕ × Content) → Decides lbn events last → decided lbn events ≡ Some last
only_decides lbn events last decides =
    ap (decided lbn) decides.split
    ∙ decides_behind lbn decides.before (decides.event ∷ decides.behind) last decides.no_later
    (ap (λ first. later first (decided lbn decides.behind)) decides.gives
    ∙ stays_first last (decided lbn decides.behind) (decided_below lbn last.0 decides.behind decides.earlier))
