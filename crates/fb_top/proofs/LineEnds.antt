-- Texts that end with a line feed.
use Rattle.fb_top.proofs.Words.{◌≢◌, ◌++◌, ◌∷◌, [], refl, codes, decimal, Shape, Run, summary_text, Making, line_made, script_text}
use Rattle.fb_top.proofs.Words.{line_of, request_at, EndsLine, note_of, Outcome}
use Rattle.std.proofs.Common.{min}
use Rattle.fb_units.specs.Numbers.{millis_text}
use Rattle.fb_report.specs.Summary.{summary_lines}
use Rattle.fb_maker.specs.Script.{first_zone, most, script_lines}
use Rattle.fb_maker.specs.Trace.{flags_text}
use Rattle.fb_texts.proofs.LineEnds.{fields_end, joined_end}
use Rattle.fb_top.specs.Notes.{cause_text}
use Rattle.fb_top.specs.declared.outcome.Outcome.TheVariants as outcomes

pub summary_ends : (run : Run) → EndsLine (summary_text run)
unfolding summary_lines
summary_ends run = joined_end (summary_lines run) (fields_end (codes "end") (decimal run.end ∷ []))

pub script_ends : (disk : Shape) → EndsLine (script_text disk)
unfolding script_lines
script_ends disk = joined_end (script_lines disk)
    (codes "0.000000 want backup 0 " ++ decimal (min (first_zone disk disk.zones) (most disk)), refl)

pub made_line_ends : (making : Making) → EndsLine (line_made making)
unfolding line_of
made_line_ends making = let request = request_at making.number making.sectors making.made in
    fields_end (millis_text request.arrival) (decimal making.device ∷ decimal request.lbn ∷ decimal request.count
    ∷ flags_text request.write ∷ [])

-- the note is empty where a command was done
pub note_ends : (outcome : Outcome) → note_of outcome ≢ [] → EndsLine (note_of outcome)
note_ends (outcomes.Done run) some = absurd (some refl)
note_ends (outcomes.Made n) some = absurd (some refl)
note_ends (outcomes.Checked verdict) some = absurd (some refl)
note_ends (outcomes.Arrayed runs copy) some = absurd (some refl)
note_ends (outcomes.Spilled run spill) some = absurd (some refl)
note_ends outcome some = (codes "freeblock: " ++ cause_text outcome, refl)
