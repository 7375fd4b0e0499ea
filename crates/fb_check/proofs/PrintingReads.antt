-- Each read has a sector.
use Rattle.fb_check.proofs.Words.{◌≡◌, ℕ, zero, suc, ◌<◌, List, [], ◌∷◌, length, sym, subst, arith, AllByRecursion, length-map, Content}
use Rattle.fb_check.proofs.Words.{Inputs, IsAccepted, Medium, medium_of, content, decisions}
use Rattle.std.specs.Prelude.{Bool, map}
use Rattle.fb_units.specs.declared.types.Track.{Track}
use Rattle.fb_units.proofs.Each.{all_map}
use Rattle.fb_service.specs.declared.disk.Disk.{Disk}
use Rattle.fb_service.specs.declared.passage.Passage.{Passage}
use Rattle.fb_service.specs.Service.{passages}
use Rattle.fb_model.specs.PlainReplay.{Served, service, finish, last_track, first_track}
use Rattle.fb_model.specs.Inputs.{served}
use Rattle.fb_model.specs.Content.{fore_row, fore_rows}
use Rattle.fb_model.specs.Decisions.{Decision, serves, idles, ends}
use Rattle.fb_model.proofs.Passages.{LiesOnDisk, requests_lie}
use Rattle.fb_model.proofs.Chain.{Follow, services, decisions_follow}
use Rattle.fb_report.specs.Printed.{ReadsSectors}
use Rattle.fb_check.proofs.PrintingSectors.{runs_have}

some_pass : (disk : Disk) (source : Track) (now : ℕ) (write : Bool) (lbn n : ℕ) → 0 < n → 0 < length (passages disk source now write lbn n)
unfolding passages
some_pass disk source now write lbn zero some = some
some_pass disk source now write lbn (suc n) some = omega arith

module _ (medium : Medium) (disk : Disk) where
  read_some : (head : Track) (now : ℕ) (served : Served) → served ≡ service disk head now served.request
      → LiesOnDisk disk.map served.request → ReadsSectors (fore_row medium served)
  read_some head now served is lies reads =
      let passed : Passage → ℕ × Content = λ passage. (passage.lbn, content medium passage.lbn passage.begin) in
      let some : 0 < length served.passages = subst (λ (served : Served). 0 < length served.passages) (sym is)
      (some_pass disk head now served.request.write served.request.lbn served.request.count lies.some) in
      rw reads (omega (arith, some, runs_have (map passed served.passages), length-map served.passages passed))

  all_read : (head : Track) (now : ℕ) (decisions : List Decision) → Follow (LiesOnDisk disk.map) disk head now decisions
      → AllByRecursion (λ (served : Served). ReadsSectors (fore_row medium served)) (services decisions)
  all_read head now [] follow = tt
  all_read head now (serves served ∷ later) follow =
      (read_some head now served follow.0 follow.1, all_read (last_track disk served) (finish served) later follow.2)
  all_read head now (idles dwell ∷ later) follow = all_read head dwell.end later follow.3
  all_read head now (ends end ∷ later) follow = all_read head now later follow.1

pub reads_have : (inputs : Inputs) → IsAccepted inputs → AllByRecursion ReadsSectors (fore_rows inputs)
unfolding fore_rows
reads_have inputs accepted =
    let follow = decisions_follow (LiesOnDisk inputs.disk.map) inputs (requests_lie inputs accepted) in
    all_map ReadsSectors (fore_row (medium_of inputs)) (served inputs)
    (subst (AllByRecursion (λ (served : Served). ReadsSectors (fore_row (medium_of inputs) served))) follow.1
    (all_read (medium_of inputs) inputs.disk first_track 0 (decisions inputs) follow.0))
