-- Lists that only grow, and what a call leaves that ran out of memory.
use Rattle.std.specs.Prelude.{Result, Ok, Err, OnOk}
use Rattle.fb_tasks.proofs.Words.{◌≡◌, ◌≤◌, ◌<◌, ◌+◌, ◌-◌, ℕ, List, [], ◌∷◌, ◌++◌, Some, map, set, slice_get, take, drop}
use Rattle.fb_tasks.proofs.Words.{append-nil, append_assoc, length-append, refl, ap, sym, ◌∙◌, subst, arith, flat_map, flat_map-append}
use Rattle.fb_tasks.proofs.Words.{range_with_len, map-set_same, map-append, append_cancel_left, take-append-drop, true}
use Rattle.fb_tasks.proofs.Words.{take-map, filter-append, get_or_from_slice_get, Cut, Block, Entry, blocks_of}
use Rattle.fb_tasks.proofs.Words.{wanted_unless, numbered, same_number, Session, new_entries, HasGrown, HasBegun}
use Rattle.fb_tasks.proofs.Words.{OnlyTouched, by_calls, take-map-range_with_len}
use Rattle.fb_tasks.proofs.{Frames.get_other, Cuts.range_split}
use Rattle.fb_wanted.specs.Numbering.{registered_count}

pub grown_not : {A : Type 0} (xs : List A) → HasGrown xs xs
grown_not xs = record { added = []; is = sym (append-nil xs) }

pub grown_more : {A : Type 0} (xs ys zs : List A) → HasGrown xs ys → HasGrown ys zs → HasGrown xs zs
grown_more xs ys zs a b = record { added = a.added ++ b.added; is = b.is ∙ (ap (λ l. l ++ b.added) a.is ∙ append_assoc xs a.added b.added) }

pub begun_not : {A : Type 0} {xs due : List A} → HasBegun xs due xs
begun_not {A} {xs} {due} = record { added = []; left = due; is = sym (append-nil xs); first = refl }

pub begun_same : {A : Type 0} {old due new : List A} → new ≡ old → HasBegun old due new
begun_same {A} {old} {due} same = subst (HasBegun old due) (sym same) begun_not

-- more is due behind it
pub begun_longer : {A : Type 0} {old due new : List A} (more : List A) → HasBegun old due new → HasBegun old (due ++ more) new
begun_longer more h =
    record { added = h.added; left = h.left ++ more; is = h.is; first = ap (λ l. l ++ more) h.first ∙ append_assoc h.added h.left more }

-- what was due first stands
pub begun_after : {A : Type 0} {old more mid new : List A} (due : List A) → mid ≡ old ++ due → HasBegun mid more new
    → HasBegun old (due ++ more) new
begun_after {A} {old} due all h = record {
  added = due ++ h.added;
  left = h.left;
  is = h.is ∙ (ap (λ l. l ++ h.added) all ∙ append_assoc old due h.added);
  first = ap (λ l. due ++ l) h.first ∙ sym (append_assoc due h.added h.left);
}

-- what stands and what is left are all that was due
pub begun_by : {A : Type 0} {old due now : List A} (rest : List A) → HasGrown old now → now ++ rest ≡ old ++ due → HasBegun old due now
begun_by {A} {old} {due} rest h all = record {
  added = h.added;
  left = rest;
  is = h.is;
  first = append_cancel_left old due (h.added ++ rest) (sym all ∙ (ap (λ l. l ++ rest) h.is ∙ append_assoc old h.added rest));
}

-- and the other way round
pub begun_whole : {A : Type 0} {old due new : List A} (h : HasBegun old due new) → old ++ due ≡ new ++ h.left
begun_whole {A} {old} {due} h = ap (λ l. old ++ l) h.first ∙ (sym (append_assoc old h.added h.left) ∙ ap (λ l. l ++ h.left) (sym h.is))

-- what follows is a first part of what was due
pub begun_between : {A : Type 0} {old due new : List A} → HasGrown old new → HasGrown new (old ++ due) → HasBegun old due new
begun_between grown rest = begun_by rest.added grown (sym rest.is)

-- some of what was due stands, and the next part of it has begun
pub begun_next : {A : Type 0} {old mid due all new : List A} (rest : List A) → HasGrown old mid → HasBegun mid due new
    → (mid ++ due) ++ rest ≡ old ++ all → HasBegun old all new
begun_next {A} {old} {mid} {due} {all} {new} rest grown h is = begun_by (h.left ++ rest)
    (grown_more old mid new grown (record { added = h.added; is = h.is }))
    (sym (append_assoc new h.left rest) ∙ (ap (λ l. l ++ rest) (sym (begun_whole h)) ∙ is))

-- what stands in front changes nothing
pub grown_behind : {A : Type 0} (before : List A) {xs ys : List A} → HasGrown xs ys → HasGrown (before ++ xs) (before ++ ys)
grown_behind before {xs} h = record { added = h.added; is = ap (λ l. before ++ l) h.is ∙ sym (append_assoc before xs h.added) }

-- what the first tasks give stands, and what the next one gives has begun
pub begun_each : {X : Type 0} (f : ℕ → List X) {before rows more : List X} (n count : ℕ) → n < count
    → rows ≡ before ++ flat_map f (range_with_len 0 n) → HasBegun rows (f n) more
    → HasBegun before (flat_map f (range_with_len 0 count)) more
begun_each f {before} {rows} {more} n count less so_far h =
    let numbers : range_with_len 0 count ≡ range_with_len 0 n ++ n ∷ range_with_len (n + 1) (count - (n + 1)) = range_split n count less in
    subst (λ due. HasBegun before due more) (sym (rw (numbers, flat_map-append) refl))
    (begun_after (flat_map f (range_with_len 0 n)) so_far (begun_longer (flat_map f (range_with_len (n + 1) (count - (n + 1)))) h))

-- the first of a list give what is due for them
begun_part : {B : Type 0} {old new : List B} (n : ℕ) (due : List B) → new ≡ old ++ take n due → HasBegun old due new
begun_part n due is = record { added = take n due; left = drop n due; is = is; first = sym (take-append-drop n due) }

pub begun_mapped : {A B : Type 0} {old new : List B} (f : A → B) (n : ℕ) (xs : List A) → new ≡ old ++ map f (take n xs)
    → HasBegun old (map f xs) new
begun_mapped f n xs is = begun_part n (map f xs) (rw take-map is)

-- the first of as many as there are
pub begun_counted : {B : Type 0} {old new : List B} (f : ℕ → B) (n all : ℕ) → n ≤ all → new ≡ old ++ map f (range_with_len 0 n)
    → HasBegun old (map f (range_with_len 0 all)) new
begun_counted f n all within is = begun_part n (map f (range_with_len 0 all)) (rw (take-map-range_with_len f 0 all n within) is)

pub touched_none : (sessions : List Session) → OnlyTouched sessions sessions
touched_none sessions = record { calls = refl; untouched = λ _ _ at _. at }

pub touched_more : (xs ys zs : List Session) → OnlyTouched xs ys → OnlyTouched ys zs → OnlyTouched xs zs
touched_more xs ys zs a b = record {
  calls = b.calls ∙ a.calls;
  untouched = λ task session at free. b.untouched task session (a.untouched task session at free) free;
}

-- a touched session changes
pub touched_set : (olds items : List Session) (n : ℕ) (session new : Session) → slice_get items n ≡ Some session → session.touched ≡ true
    → by_calls new ≡ by_calls session → OnlyTouched olds items → OnlyTouched olds (set items n new)
touched_set olds items n session new at touched same h = record {
  calls = map-set_same by_calls items n new session (same ∙ ap by_calls (sym (get_or_from_slice_get items n session session at))) ∙ h.calls;
  untouched = λ k other there free. let here = h.untouched k other there free in get_other items n k new (λ e. absurd (grind arith)) ∙ here;
}

-- the blocks that are registered and those that are left stay the same
pub cut_registered : (task number : ℕ) (session : Session) (before now : List Entry) (cut : Cut) (cuts rest : List Cut) (block : Block)
    → cuts ≡ cut ∷ rest
    → block ≡ record {
      task = task;
      index = number;
      lbn = cut.lbn;
      count = cut.count;
      track = cut.track;
      weight = session.weight;
      sweep = cut.sweep;
    } → now ≡ before ++ record { block = block; state = wanted_unless session.suspended } ∷ []
    → now ++ new_entries session (numbered task session.weight (number + 1) rest) ≡ before
    ++ new_entries session (numbered task session.weight number cuts)
cut_registered task number session before now cut cuts rest block first same is = rw (is, first, same, append_assoc) refl

pub one_counted : (task number : ℕ) (before now : List Entry) (entry : Entry) → now ≡ before ++ entry ∷ [] → entry.block.task ≡ task
    → number ≡ registered_count task (blocks_of before) → number + 1 ≡ registered_count task (blocks_of now)
one_counted task number before now entry is own next =
    rw is (simp (map-append, filter-append, length-append, same_number entry.block.task task own) (omega (arith, next)))

-- what a call says in two clauses, where it succeeds
pub on_ok_both : {T E : Type 0} (P Q : Type 0) (r : Result T E) → OnOk r P → OnOk r Q → OnOk r (P × Q)
on_ok_both P Q (Ok x) p q = (p, q)
on_ok_both P Q (Err e) p q = tt
