-- Reads that are put behind those that arrive by their instants, one after another.
use Rattle.fb_decide.proofs.Words.{◌≡◌, ℕ, zero, suc, ◌+◌, ◌-◌, ◌≤◌, ◌<◌, List, [], ◌∷◌, ◌++◌, length, take, take_all, drop, get_or, map}
use Rattle.fb_decide.proofs.Words.{refl, sym, ap, ◌∙◌, arith, subst, append_assoc, slice_get, IfSome, AllByRecursion, fold, drop_more}
use Rattle.fb_decide.proofs.Words.{drop_all, Request, IsRising, all_append, all_weaker, all_any, all_unmapped, after_is, by_is, Call}
use Rattle.fb_decide.proofs.Words.{Action, Promote, behind}
use Rattle.std.proofs.lemmas.List.{length-drop}
use Rattle.fb_script.specs.Promoted.{read_of, promoted_from, promoted}

-- a read goes behind all of these
pub passed_by : (early later : List Request) (read : Request) → AllByRecursion (λ r. r.arrival ≤ read.arrival) early
    → behind (early ++ later) read ≡ early ++ behind later read
passed_by [] later read all = refl
passed_by (r ∷ early) later read all = rw (by_is r.arrival read.arrival all.0) (ap (λ rs. r ∷ rs) (passed_by early later read all.1))

-- and before one that arrives later
pub stops_before : (later : List Request) (read : Request) → IfSome (slice_get later 0) (λ r. read.arrival < r.arrival)
    → behind later read ≡ read ∷ later
stops_before [] read h = refl
stops_before (r ∷ later) read h = rw (after_is r.arrival read.arrival h) refl

-- the reads of calls, whose instants don't fall
abbrev pub RiseFrom : ℕ → List Request → Type 0
RiseFrom now [] = Unit {0}
RiseFrom now (r ∷ rs) = (now ≤ r.arrival) × RiseFrom r.arrival rs

rise_less : (a b : ℕ) → a ≤ b → (rs : List Request) → RiseFrom b rs → RiseFrom a rs
rise_less a b le [] rise = tt
rise_less a b le (r ∷ rs) rise = (omega (arith, rise.0), rise.1)

reads_from : (now n : ℕ) (calls : List Call) → AllByRecursion (λ (c : Call). now ≤ c.instant) calls
    → IsRising (map (λ (c : Call). c.instant) calls) → RiseFrom now (promoted_from n calls)
reads_from now n [] all rising = tt
reads_from now n (call ∷ calls) all rising = by_action (λ m. reads_from call.instant m calls
    (all_unmapped (λ later. call.instant ≤ later) (λ (c : Call). c.instant) calls rising.0) rising.1) call.action refl
  where
    by_action : ((m : ℕ) → RiseFrom call.instant (promoted_from m calls)) → (action : Action) → call.action ≡ action
        → RiseFrom now (read_of n call action ++ promoted_from (n + length (read_of n call action)) calls)
    by_action rest (Promote first count) e = (all.0, rest (n + 1))
    by_action rest _ e = rise_less now call.instant all.0 _ (rest (n + 0))

pub reads_rise : (calls : List Call) → IsRising (map (λ (c : Call). c.instant) calls) → RiseFrom 0 (promoted calls)
reads_rise calls rising = reads_from 0 1 calls (all_any _ (λ c. omega arith) calls) rising

-- the list so far, in which all have arrived by this instant, and the trace's requests to come: the next reads go behind it
pub record HasPlaced (whole reads requests trace : List Request) (i next now : ℕ) : Type 0 where
  pub within : next ≤ length trace
  pub same : fold behind (requests ++ drop next trace) (drop i reads) ≡ whole
  pub come : AllByRecursion (λ (r : Request). r.arrival ≤ now) requests
  pub rise : RiseFrom now (drop i reads)

pub placed_first : (trace : List Request) (calls : List Call) (reads requests : List Request) → reads ≡ promoted calls → requests ≡ []
    → IsRising (map (λ (c : Call). c.instant) calls)
    → HasPlaced (fold behind trace reads) reads requests trace 0 0 0
placed_first trace calls reads requests r e rising = subst (λ rs. HasPlaced (fold behind trace rs) rs requests trace 0 0 0) (sym r)
    (subst (λ qs. HasPlaced (fold behind trace (promoted calls)) (promoted calls) qs trace 0 0 0) (sym e)
    (record { within = omega arith; same = refl; come = tt; rise = reads_rise calls rising }))

first_of : (trace : List Request) (n : ℕ) → slice_get trace n ≡ slice_get (drop n trace) 0
first_of [] zero = refl
first_of [] (suc n) = refl
first_of (r ∷ rs) zero = refl
first_of (r ∷ rs) (suc n) = first_of rs n

pub placed_come : (whole reads requests trace : List Request) (i next now : ℕ) (d : Request) → i < length reads
    → HasPlaced whole reads requests trace i next now
    → AllByRecursion (λ (r : Request). r.arrival ≤ (get_or reads i d).arrival) requests
placed_come whole reads requests trace i next now d less placed =
    let rise : RiseFrom now (get_or reads i d ∷ drop (i + 1) reads) = subst (RiseFrom now) (drop_more reads i d less) placed.rise in
    all_weaker (λ (r : Request). r.arrival ≤ now) (λ r. r.arrival ≤ (get_or reads i d).arrival)
    (λ r h. omega (arith, h, rise.0)) requests placed.come

pub placed_next : (whole reads requests trace requests' requests'' : List Request) (i next next' now : ℕ) (d : Request) → i < length reads
    → HasPlaced whole reads requests trace i next now
    → requests' ++ drop next' trace ≡ requests ++ drop next trace → next' ≤ length trace
    → AllByRecursion (λ (r : Request). r.arrival ≤ (get_or reads i d).arrival) requests'
    → IfSome (slice_get trace next') (λ r. (get_or reads i d).arrival < r.arrival) → requests'' ≡ requests' ++ get_or reads i d ∷ []
    → HasPlaced whole reads requests'' trace (i + 1) next' (get_or reads i d).arrival
placed_next whole reads requests trace requests' requests'' i next next' now d less placed same within come ahead pushed =
    let read = get_or reads i d in
    let split = drop_more reads i d less in
    let step : behind (requests ++ drop next trace) read ≡ (requests' ++ read ∷ []) ++ drop next' trace =
    ap (λ rs. behind rs read) (sym same) ∙ passed_by requests' (drop next' trace) read come
    ∙ ap (λ rs. requests' ++ rs)
    (stops_before (drop next' trace) read (subst (λ o. IfSome o (λ r. read.arrival < r.arrival)) (first_of trace next') ahead))
    ∙ sym (append_assoc requests' (read ∷ []) (drop next' trace)) in
    let rise : RiseFrom now (read ∷ drop (i + 1) reads) = subst (RiseFrom now) split placed.rise in
    rw pushed (record {
      within = within;
      same = ap (λ rs. fold behind rs (drop (i + 1) reads)) (sym step) ∙ ap (fold behind (requests ++ drop next trace)) (sym split)
          ∙ placed.same;
      come = all_append (λ (r : Request). r.arrival ≤ read.arrival) requests' (read ∷ []) come (omega arith, tt);
      rise = rise.1;
    })

rest_taken : {A : Type 0} (n : ℕ) (xs : List A) → take (length xs - n) (drop n xs) ≡ drop n xs
rest_taken n xs = take_all (length xs - n) (drop n xs) (omega (arith, length-drop n xs))

pub placed_slice : (requests trace : List Request) (n : ℕ) → requests ++ take (length trace - n) (drop n trace) ≡ requests ++ drop n trace
placed_slice requests trace n = ap (λ rs. requests ++ rs) (rest_taken n trace)

pub placed_whole : (whole reads requests trace : List Request) (i next now : ℕ) → length reads ≤ i
    → HasPlaced whole reads requests trace i next now → requests ++ drop next trace ≡ whole
placed_whole whole reads requests trace i next now all placed =
    ap (fold behind (requests ++ drop next trace)) (sym (drop_all i reads all)) ∙ placed.same
