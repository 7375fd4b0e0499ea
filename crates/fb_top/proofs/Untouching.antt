-- A reserve that touches nothing that the trace and the script ask for touches no foreground row of a full run.
use Rattle.fb_top.proofs.Words.{◌≡◌, ℕ, ◌+◌, List, [], ◌∷◌, length, map, false, sym, subst, inl, inr, AllByRecursion, flat_map, cases_Bool}
use Rattle.fb_top.proofs.Words.{all_append, all_left, Request, Disk, ForeRow, Run, Medium, fore_row, fore_rows, medium_of, Decision}
use Rattle.fb_top.proofs.Words.{IsFull, Inputs, requests, Served, decisions_follow, services}
use Rattle.std.specs.Prelude.{nat_le}
use Rattle.std.specs.List.{fold}
use Rattle.fb_units.proofs.Lists.{all_right}
use Rattle.fb_units.specs.declared.types.Track.{Track}
use Rattle.fb_script.specs.Allowed.{terms_of}
use Rattle.fb_script.specs.declared.call.Action.{Action}
use Rattle.fb_script.specs.declared.call.Action.TheVariants.{Promote}
use Rattle.fb_script.specs.declared.call.Call.{Call}
use Rattle.fb_model.specs.Decisions.{serves, idles, ends, decisions}
use Rattle.fb_model.specs.Foreground.{behind, promoted_from, read_of}
use Rattle.fb_model.specs.PlainReplay.{finish, first_track, last_track}
use Rattle.fb_model.proofs.Chain.{Follow}
use Rattle.fb_puts.specs.Asked.{asked, ranges_in, request_range}
use Rattle.fb_puts.specs.Ranges.{share}
use Rattle.fb_bgwrite.specs.Spilled.{fore_ranges}
use Rattle.fb_puts.specs.declared.range.SectorRange.{SectorRange}

module _ (reserve : SectorRange) where
  -- the reserve doesn't touch the sectors of a request
  abbrev IsApart : Request → Type 0
  IsApart request = share reserve (request_range request) ≡ false

  abbrev AreApart : List SectorRange → Type 0
  AreApart ranges = AllByRecursion (λ range. share reserve range ≡ false) ranges

  traced : (requests : List Request) → AreApart (map request_range requests) → AllByRecursion IsApart requests
  traced [] apart = tt
  traced (request ∷ requests) apart = (apart.0, traced requests apart.1)

  one_call : (n block : ℕ) (call : Call) (action : Action) → AreApart (ranges_in block action)
      → AllByRecursion IsApart (read_of n call action)
  one_call n block call (Promote first count) apart = (apart.0, tt)
  one_call n block call _ apart = tt

  called : (before : List Call) (calls : List Call) (n : ℕ)
      → AreApart (flat_map (λ (call : Call). ranges_in (terms_of before call.task).block call.action) calls)
      → AllByRecursion IsApart (promoted_from n calls)
  called before [] n apart = tt
  called before (call ∷ calls) n apart =
      let ranges = ranges_in (terms_of before call.task).block call.action in
      let others = flat_map (λ (call : Call). ranges_in (terms_of before call.task).block call.action) calls in
      let reads = read_of n call call.action in
      all_append IsApart reads (promoted_from (n + length reads) calls)
      (one_call n (terms_of before call.task).block call call.action (all_left (λ range. share reserve range ≡ false) ranges others apart))
      (called before calls (n + length reads) (all_right (λ range. share reserve range ≡ false) ranges others apart))

  put_behind : (list : List Request) (read : Request) → AllByRecursion IsApart list → IsApart read
      → AllByRecursion IsApart (behind list read)
  put_behind [] read all one = (one, tt)
  put_behind (request ∷ list) read all one = elim (cases_Bool (nat_le request.arrival read.arrival)) [
    | inl first ↦ rw first (all.0, put_behind list read all.1 one)
    | inr later ↦ rw later (one, all)
  ]

  all_behind : (reads list : List Request) → AllByRecursion IsApart list → AllByRecursion IsApart reads
      → AllByRecursion IsApart (fold behind list reads)
  all_behind [] list all more = all
  all_behind (read ∷ reads) list all more = all_behind reads (behind list read) (put_behind list read all more.0) more.1

  rows_apart : (medium : Medium) (disk : Disk) (head : Track) (now : ℕ) (decisions : List Decision) → Follow IsApart disk head now decisions
      → AreApart (map (λ (row : ForeRow). request_range row.request) (map (fore_row medium) (services decisions)))
  rows_apart medium disk head now [] follow = tt
  rows_apart medium disk head now (serves served ∷ later) follow =
      (follow.1, rows_apart medium disk (last_track disk served) (finish served) later follow.2)
  rows_apart medium disk head now (idles dwell ∷ later) follow = rows_apart medium disk head dwell.end later follow.3
  rows_apart medium disk head now (ends end ∷ later) follow = rows_apart medium disk head now later follow.1

  pub untouched_rows : (inputs : Inputs) (run : Run) → IsFull inputs run → AreApart (asked inputs.trace inputs.calls)
      → AreApart (fore_ranges run)
  unfolding fore_rows
  untouched_rows inputs run full apart =
      let ranges = map request_range inputs.trace in
      let others = flat_map (λ (call : Call). ranges_in (terms_of inputs.calls call.task).block call.action) inputs.calls in
      let trace = traced inputs.trace (all_left (λ range. share reserve range ≡ false) ranges others apart) in
      let reads = called inputs.calls inputs.calls 1 (all_right (λ range. share reserve range ≡ false) ranges others apart) in
      let follow = decisions_follow IsApart inputs (all_behind (promoted_from 1 inputs.calls) inputs.trace trace reads) in
      subst (λ (rows : List ForeRow). AreApart (map (λ (row : ForeRow). request_range row.request) rows)) (sym full.sound.fore)
      (subst (λ (replay : List Served).
      AreApart (map (λ (row : ForeRow). request_range row.request) (map (fore_row (medium_of inputs)) replay))) follow.1
      (rows_apart (medium_of inputs) inputs.disk first_track 0 (decisions inputs) follow.0))
