-- Reading a text goes on after its first line, and what was read obeys the rules.
use Rattle.fb_puts.proofs.Words.{rising_push, all_push, ◌≡◌, ℕ, ◌+◌, ◌≤◌, List, [], ◌∷◌, ◌++◌, map, length, Option, None, sym, ap, ◌∙◌}
use Rattle.fb_puts.proofs.Words.{subst, arith, Result, Ok, Err, AllByRecursion, map_push, length_push, and_parts, leb-true, nat_le}
use Rattle.fb_puts.proofs.Words.{fields_of, IsRising, all_weaker, Put, SectorRange, AreApart, Accepted, Progress, Terms, at_end}
use Rattle.fb_puts.proofs.Words.{fault_at, lines_from, next_progress, next_read, range_of, reserve_or_none, with_step, IsApart}
use Rattle.fb_puts.proofs.Words.{IsNextPut, IsNextReserve, IsReader, IsPutOf, HasTaken, IsKnown, accepted, Answers}
use Rattle.fb_units.specs.Judging.{◌>>=◌, refused_as}
use Rattle.fb_puts.specs.declared.fault.PutsFault.{PutsFault}
use Rattle.fb_units.specs.declared.read_error.ReadError.{ReadError}
use Rattle.fb_units.specs.declared.read_error.ReadError.TheVariants.{Fault, NoMemory}
use Rattle.fb_puts.specs.declared.reader.Reader.{Reader}
use Rattle.fb_puts.specs.declared.reader.Step.{Step}
use Rattle.fb_puts.specs.declared.reader.Step.TheVariants.{Blank, Reserve, Put as PutStep}
use Rattle.fb_puts.specs.declared.taken.Taken.{Taken}
use Rattle.fb_puts.specs.declared.taken.Taken.TheVariants.{Known, Unknown}
use Rattle.fb_puts.proofs.Appending.{apart_pop}

module _ (terms : Terms) (number : ℕ) (so_far : Progress) (lines : List (List ℕ)) (whole : Result Accepted PutsFault) where
  -- after one more line, the rest of the text gives the same result
  pub read_more : (next : Progress) (line : List ℕ) (rest : List (List ℕ)) → lines ≡ line ∷ rest
      → next_progress terms number so_far line ≡ Ok next
      → lines_from terms number so_far lines ≡ whole → lines_from terms (number + 1) next rest ≡ whole
  unfolding lines_from
  read_more next line rest split step read =
      sym (ap (λ r. r >>= (λ p. lines_from terms (number + 1) p rest)) step) ∙ ap (lines_from terms number so_far) (sym split) ∙ read

  -- the fault of a line is the result of the whole text
  read_fault : (line : List ℕ) (rest : List (List ℕ)) (fault : PutsFault) → lines ≡ line ∷ rest
      → next_progress terms number so_far line ≡ Err fault
      → lines_from terms number so_far lines ≡ whole → whole ≡ Err fault
  unfolding lines_from
  read_fault line rest fault split step read =
      sym read ∙ ap (lines_from terms number so_far) split ∙ ap (λ r. r >>= (λ p. lines_from terms (number + 1) p rest)) step

  -- the error of a line that wasn't read is one of the whole text
  pub read_error : (new : Progress) (line : List ℕ) (rest : List (List ℕ)) (error : ReadError PutsFault) → lines ≡ line ∷ rest
      → Answers {A = Unit {0}} (λ _. new) (Err error) (next_progress terms number so_far line) → lines_from terms number so_far lines
      ≡ whole → Answers accepted (Err error) whole
  read_error new line rest (Fault fault) split step read = read_fault line rest fault split step read
  read_error new line rest NoMemory split step read = tt

  -- if no line is left, what was read is the result
  pub read_end : lines ≡ [] → lines_from terms number so_far lines ≡ whole → whole ≡ Ok (at_end so_far)
  unfolding lines_from
  read_end none read = sym read ∙ ap (lines_from terms number so_far) none

-- no put lies in an empty reserve
nowhere : (put : Put) → IsPutOf (record { first = 0; count = 0 }) put → ⊥
nowhere put is =
    let both = and_parts (nat_le 0 put.first) (nat_le (put.first + put.count) 0) is.inside in
    let none : put.first + put.count ≤ 0 = leb-true (put.first + put.count) 0 both.1 in
    let some = is.some in
    omega arith

none_in : (reserve : Option SectorRange) (put : Put) → reserve ≡ None → IsPutOf (reserve_or_none reserve) put → ⊥
none_in reserve put none is = nowhere put (subst (λ r. IsPutOf (reserve_or_none r) put) none is)

-- one more put
pub put_kept : (terms : Terms) (old new : Reader) (put : Put) → IsReader terms old → IsNextPut terms old put → new.reserve ≡ old.reserve
    → new.instant ≡ put.instant
    → new.puts.items ≡ old.puts.items ++ put ∷ [] → HasTaken new.taken (map range_of old.puts.items
    ++ range_of put ∷ []) → IsReader terms new
put_kept terms old new put is next same_reserve instant puts taken =
    let old_puts = old.puts.items in
    let reserve = reserve_or_none old.reserve in
    let later = next.later in
    let last = all_weaker (λ i. i ≤ old.instant) (λ i. i ≤ new.instant) (λ i le. omega (arith, le, later, instant))
    (map (λ (p : Put). p.instant) old_puts) is.last in
    let instants : map (λ (p : Put). p.instant) new.puts.items ≡ map (λ (p : Put). p.instant) old_puts ++ put.instant ∷ [] =
    ap (map (λ (p : Put). p.instant)) puts ∙ map_push (λ (p : Put). p.instant) old_puts put in
    record {
      reserve = subst (λ r. IsNextReserve terms (reserve_or_none r)) (sym same_reserve) is.reserve;
      none = λ none. absurd (none_in old.reserve put (sym same_reserve ∙ none) next.is);
      each = subst (λ r. AllByRecursion (IsPutOf (reserve_or_none r)) new.puts.items) (sym same_reserve)
          (subst (AllByRecursion (IsPutOf reserve)) (sym puts) (all_push (IsPutOf reserve) old_puts put is.each next.is));
      rising = subst IsRising (sym instants) (rising_push (map (λ (p : Put). p.instant) old_puts) put.instant is.rising
          (all_weaker (λ i. i ≤ old.instant) (λ i. i ≤ put.instant) (λ i le. omega (arith, le, later))
          (map (λ (p : Put). p.instant) old_puts) is.last));
      last = subst (AllByRecursion (λ i. i ≤ new.instant)) (sym instants) (all_push (λ i. i ≤ new.instant)
          (map (λ (p : Put). p.instant) old_puts) put.instant last (omega (arith, instant)));
      few = omega (arith, next.few, ap length puts, length_push old_puts put);
      taken = subst (HasTaken new.taken) (sym (ap (map range_of) puts ∙ map_push range_of old_puts put)) taken;
    }

-- known ranges are apart
pub known_apart : (taken : Taken) (ranges : List SectorRange) → IsKnown taken → HasTaken taken ranges → AreApart ranges
known_apart (Known ends) ranges known has = has.apart
known_apart Unknown ranges known has = absurd known

-- if the puts are apart with what a line adds, it shares no sector with those before
step_apart : (old new : Progress) (step : Step) → new ≡ with_step old step → AreApart (map range_of new.puts)
    → AreApart (map range_of old.puts) × IsApart old.puts step
step_apart old new Blank is apart = (subst (λ (p : Progress). AreApart (map range_of p.puts)) is apart, tt)
step_apart old new (Reserve reserve) is apart = (subst (λ (p : Progress). AreApart (map range_of p.puts)) is apart, tt)
step_apart old new (PutStep put) is apart =
    let all = subst (λ (p : Progress). AreApart (map range_of p.puts)) is apart in
    apart_pop (map range_of old.puts) (range_of put) (subst AreApart (map_push range_of old.puts put) all)

-- so it is read as if it were judged at once
pub line_apart : (terms : Terms) (number : ℕ) (old new : Progress) (line : List ℕ) (step : Step) → new ≡ with_step old step
    → (IsApart old.puts step → next_read terms old (fields_of line) ≡ Ok (with_step old step)) → AreApart (map range_of new.puts)
    → AreApart (map range_of old.puts) × (next_progress terms number old line ≡ Ok new)
line_apart terms number old new line step is read apart =
    let both = step_apart old new step is apart in
    (both.0, ap (refused_as (fault_at number)) (read both.1) ∙ ap Ok (sym is))
