-- The way of the head with spills in free gaps.
use Rattle.std.specs.Prelude.{List, [], ◌∷◌, ◌++◌, true, if◌then◌else◌, map, Option, Some, None}
use Rattle.std.specs.List.{zip}
use Rattle.fb_service.specs.declared.disk.Disk.{Disk}
use Rattle.fb_rows.specs.declared.fore.ForeRow.{ForeRow}
use Rattle.fb_rows.specs.declared.gap.Gap.{Gap}
use Rattle.fb_rows.specs.declared.back.BackRow.{BackRow}
use Rattle.fb_rows.specs.declared.back.BackRow.TheVariants.{Gap as BackGap, Idle as BackIdle}
use Rattle.fb_model.specs.Timeline.{Leg, stay, way, arrival, gap_legs, service_legs}
use Rattle.fb_bgwrite.specs.declared.choice.Spill.{Spill}
use Rattle.fb_bgwrite.specs.Gaps.{RunGap, gaps}
use Rattle.fb_bgwrite.specs.Spilling.{ready}

-- the first list, if there is one
abbrev pub first_legs : List (List Leg) → List Leg
first_legs [] = []
first_legs (legs ∷ more) = legs

-- the others
abbrev pub later_legs : List (List Leg) → List (List Leg)
later_legs [] = []
later_legs (legs ∷ more) = more

-- the whole way of the head, where these are its legs in the gaps, in order: each gap row goes with the next foreground row
unfoldable pub timeline_with : Disk → List (List Leg) → List BackRow → List ForeRow → List Leg
timeline_with disk legs [] fore = []
timeline_with disk legs (BackIdle dwell ∷ back) fore = stay dwell.track dwell.begin dwell.end ∷ timeline_with disk legs back fore
timeline_with disk legs (BackGap row ∷ back) [] = first_legs legs ++ timeline_with disk (later_legs legs) back []
timeline_with disk legs (BackGap row ∷ back) (served ∷ fore) =
    first_legs legs ++ service_legs disk row.gap served ++ timeline_with disk (later_legs legs) back fore
timeline_with disk legs (_ ∷ back) fore = timeline_with disk legs back fore

-- the legs that a gap's plan gives
abbrev pub planned_legs : Disk → RunGap → List Leg
planned_legs disk gap = gap_legs disk gap.row.gap gap.row.plan

-- the head goes to a track to write, stays there, goes on to the target, and stays there
abbrev pub spill_legs : Disk → Gap → Spill → List Leg
spill_legs disk gap spill = way disk gap.source spill.track true gap.now
    ++ stay spill.track (ready disk gap spill.track) spill.leave
    ∷ (way disk spill.track gap.target gap.write spill.leave ++ arrival disk gap spill.track spill.leave ∷ [])

-- the legs of a gap: those of its spill, if it has one, and else those of its plan
abbrev pub amended_legs : Disk → RunGap × Option Spill → List Leg
amended_legs disk (gap, None) = planned_legs disk gap
amended_legs disk (gap, Some spill) = spill_legs disk gap.row.gap spill

-- the amended way of a run, with these spills in its gaps
abbrev pub amended : Disk → List BackRow → List ForeRow → List (Option Spill) → List Leg
amended disk back fore spills = timeline_with disk (map (amended_legs disk) (zip (gaps back) spills)) back fore

-- the legs outside free gaps: all foreground passages, and each stay in which a block was delivered
abbrev pub kept_legs : Disk → RunGap → List Leg
kept_legs disk gap = if gap.free then [] else planned_legs disk gap

abbrev pub kept : Disk → List BackRow → List ForeRow → List Leg
kept disk back fore = timeline_with disk (map (kept_legs disk) (gaps back)) back fore
