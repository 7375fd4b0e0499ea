-- What was judged so far, from one decision to the next and at the end.
use Rattle.fb_check.proofs.Words.{◌≡◌, ℕ, suc, ◌+◌, ◌-◌, ◌<◌, List, [], ◌∷◌, ◌++◌, Bool, true, false, length, map, refl, ap, sym, subst}
use Rattle.fb_check.proofs.Words.{◌∙◌, arith, append_assoc, length-append, inl, inr, Option, AllByRecursion, map-append, length-map}
use Rattle.fb_check.proofs.Words.{HasTaskBelow, ForeRow, BackRow, Inputs, medium_of, decisions, Step, decision_in, history, step_rows}
use Rattle.fb_check.proofs.Words.{HasMade, decisions_left, Bytes, fore_line, back_line, LineFields, spelled, lines_of, Comparison, Rule}
use Rattle.fb_check.proofs.Words.{Foreground, Mismatch, HasJudged, IsMismatch, IsVerdict, CanCompare, HasComparedOne, SoFar}
use Rattle.fb_check.proofs.Words.{HasComparedFore, HasComparedBack}
use Rattle.std.proofs.Common.{replicate}
use Rattle.std.proofs.Common.{Some, None}
use Rattle.fb_script.specs.Allowed as allowed
use Rattle.fb_desk.specs.declared.desk.Input.TheVariants.{BackReport}
use Rattle.fb_rows.specs.declared.run.Run.{Run}
use Rattle.fb_model.specs.Decisions.{run_end}
use Rattle.fb_model.specs.Steps.{decisions_in, task_rows}
use Rattle.fb_model.specs.FullRun.{IsFull}
use Rattle.fb_decide.specs.RunState.{RunState}
use Rattle.fb_decide.specs.Making.{fore_row_of, decisions_by, rest_of, HasMadeOne}
use Rattle.fb_report.specs.Fore.{fore_first, fore_last, fore_lines}
use Rattle.fb_report.specs.Back.{back_first, back_last, back_lines}
use Rattle.fb_check.specs.declared.verdict.Rule.TheVariants.{Timeline, End}
use Rattle.fb_check.specs.declared.verdict.Verdict.TheVariants.{Yes, No}
use Rattle.fb_decide.specs.FullRuns.{AreRowsOf, DecisionsMakeARun}
use Rattle.fb_check.specs.Verdict.{Reports, back_rule, fore_rules, back_rules, HasForeLines}
use Rattle.fb_check.proofs.Comparisons.{still_wrong, one_line, complete}

-- ---- lines and rules of a whole report

split_lines : {X Y : Type 0} (line : X → Y) (first last : Y) (rows rest : List X)
    → first ∷ (map line (rows ++ rest) ++ last ∷ []) ≡ (first ∷ map line rows) ++ (map line rest ++ last ∷ [])
split_lines line first last rows rest = ap (λ lines. first ∷ lines) (ap (λ lines. lines ++ last ∷ []) (map-append line rows rest)
    ∙ append_assoc (map line rows) (map line rest) (last ∷ []))

rules_behind : (rows : List ForeRow) → replicate {A = ℕ → Rule} (length rows + 1) (λ field. Foreground)
    ≡ map (λ (row : ForeRow) (field : ℕ). Foreground) rows ++ (λ field. Foreground) ∷ []
rules_behind [] = refl
rules_behind (row ∷ rows) = let next : length (row ∷ rows) + 1 ≡ suc (length rows + 1) = omega arith in
    ap (λ n. replicate {A = ℕ → Rule} n (λ field. Foreground)) next ∙ ap (λ rules. (λ field. Foreground) ∷ rules) (rules_behind rows)

rules_are : (run : Run)
    → fore_rules run ≡ (λ field. Foreground) ∷ (map (λ (row : ForeRow) (field : ℕ). Foreground) run.fore ++ (λ field. Foreground) ∷ [])
rules_are run = let next : length run.fore + 2 ≡ suc (length run.fore + 1) = omega arith in
    ap (λ n. replicate {A = ℕ → Rule} n (λ field. Foreground)) next ∙ ap (λ rules. (λ field. Foreground) ∷ rules) (rules_behind run.fore)

-- a wrong line among the first rows is one of the whole report
fore_more : (size : ℕ) (bytes : Bytes) (run : Run) (rows rest : List ForeRow) (printed : List LineFields) (mismatch : Mismatch)
    → rows ++ rest ≡ run.fore
    → IsMismatch (fore_first ∷ map (fore_line size bytes) rows) ((λ field. Foreground)
    ∷ map (λ row field. Foreground) rows) printed mismatch → IsMismatch (fore_lines size bytes run) (fore_rules run) printed mismatch
unfolding fore_lines
fore_more size bytes run rows rest printed mismatch e wrong =
    let last = fore_last (length run.fore) run.passed_over in
    let lines = ap (λ rows. fore_first ∷ (map (fore_line size bytes) rows ++ last ∷ [])) (sym e)
    ∙ split_lines (fore_line size bytes) fore_first last rows rest in
    let rules = rules_are run
    ∙ (ap (λ rows. (λ field. Foreground) ∷ (map (λ (row : ForeRow) (field : ℕ). Foreground) rows ++ (λ field. Foreground) ∷ [])) (sym e)
    ∙ split_lines {Y = ℕ → Rule} (λ (row : ForeRow) (field : ℕ). Foreground) (λ field. Foreground) (λ field. Foreground) rows rest) in
    subst (λ lines. IsMismatch lines (fore_rules run) printed mismatch) (sym lines)
    (subst (λ rules. IsMismatch ((fore_first ∷ map (fore_line size bytes) rows)
    ++ (map (fore_line size bytes) rest ++ last ∷ [])) rules printed mismatch) (sym rules)
    (still_wrong (fore_first ∷ map (fore_line size bytes) rows) (map (fore_line size bytes) rest ++ last ∷ [])
    ((λ field. Foreground) ∷ map (λ row field. Foreground) rows)
    (map (λ row field. Foreground) rest ++ (λ field. Foreground) ∷ []) printed mismatch wrong))

-- the whole report, where its last line was compared
fore_whole : (size : ℕ) (bytes : Bytes) (run : Run) (printed : List LineFields) (mismatch : Mismatch)
    → IsMismatch ((fore_first ∷ map (fore_line size bytes) run.fore) ++ fore_last (length run.fore) run.passed_over ∷ [])
    (((λ field. Foreground) ∷ map (λ (row : ForeRow) field. Foreground) run.fore) ++ (λ field. Foreground) ∷ []) printed mismatch
    → IsMismatch (fore_lines size bytes run) (fore_rules run) printed mismatch
unfolding fore_lines
fore_whole size bytes run printed mismatch wrong =
    subst (λ rules. IsMismatch (fore_lines size bytes run) rules printed mismatch) (sym (rules_are run)) wrong

-- what SoFar says of a wrong line
named : (wrong : Option Mismatch) (mismatch : Mismatch) (due : List (List ℕ)) (rules : List (ℕ → Rule)) (comparison : Comparison)
    → comparison.wrong ≡ Some mismatch
    → SoFar comparison.wrong due rules comparison.input (lines_of comparison.lines) comparison.same
    → IsMismatch due rules (lines_of comparison.lines) mismatch × (mismatch.input ≡ comparison.input)
named wrong mismatch due rules comparison e so_far =
    subst (λ w. SoFar w due rules comparison.input (lines_of comparison.lines) comparison.same) e so_far

module _ (inputs : Inputs) (printed : Reports) where
  -- before the first decision
  pub at_first : (state : RunState) (fore back : Comparison)
      → HasMade inputs true [] state → state.course.fore ≡ [] → state.course.background.rows ≡ []
      → HasComparedFore inputs.disk.sector_bytes printed.bytes printed.fore fore []
      → HasComparedBack printed.names inputs.disk.sector_bytes printed.bytes printed.back back [] → CanCompare fore → CanCompare back
      → HasJudged inputs printed true state fore back
  at_first state fore back made no_fore no_back fore_compared back_compared fore_ready back_ready = record {
    steps = [];
    made = made;
    no_fore = no_fore;
    no_back = no_back;
    fore_rows = [];
    back_rows = [];
    rows = record { each = tt; fore_so_far = refl; back_so_far = refl };
    fore_compared = fore_compared;
    back_compared = back_compared;
    fore_ready = fore_ready;
    back_ready = back_ready;
  }

  -- where another decision follows, and where none does
  pub going : (more was : Bool) (state : RunState) (fore back : Comparison)
      → was ≡ more → HasJudged inputs printed was state fore back → HasJudged inputs printed more state fore back
  going more was state fore back e judged = subst (λ b. HasJudged inputs printed b state fore back) e judged

  -- a wrong foreground line
  pub fore_wrong : DecisionsMakeARun → (more : Bool) (steps : List Step) (state : RunState)
      (rows : List ForeRow) (back : List BackRow) (fore : Comparison) (mismatch : Mismatch)
      → HasMade inputs more steps state → AreRowsOf inputs steps rows back
      → HasComparedFore inputs.disk.sector_bytes printed.bytes printed.fore fore rows → fore.wrong ≡ Some mismatch
      → IsVerdict inputs printed (No mismatch)
  fore_wrong law more steps state rows back fore mismatch made are compared wrong =
      let due : List (List ℕ) = fore_first ∷ map (fore_line inputs.disk.sector_bytes printed.bytes) rows in
      let rules : List (ℕ → Rule) = (λ field. Foreground) ∷ map (λ row field. Foreground) rows in
      let known = named fore.wrong mismatch due rules fore wrong compared.so_far in
      let rest = law.begin inputs more steps state rows back made are in inl (
        known.1 ∙ compared.input_is,
        λ run plain. fore_more inputs.disk.sector_bytes printed.bytes run rows rest.0 printed.fore mismatch
            (rest.1 ∙ sym plain.fore) (subst (λ lines. IsMismatch due rules lines mismatch) compared.lines_are known.0),
      )

-- how many decisions are left follows from those that have been made
same_left : (inputs : Inputs) (more : Bool) (steps : List Step) (state now : RunState)
    → HasMade inputs more steps state → HasMade inputs more steps now → decisions_left inputs more now ≡ decisions_left inputs more state
same_left inputs true steps state now made after =
    omega (
      arith,
      ap length made.come_to.decided,
      ap length after.come_to.decided,
      length-append (decisions_in steps) (decisions_by inputs state.course (rest_of inputs state)),
      length-append (decisions_in steps) (decisions_by inputs now.course (rest_of inputs now)),
    )
same_left inputs false steps state now made after = refl

module _ (inputs : Inputs) (printed : Reports) (more : Bool) (before after : RunState) (fore back : Comparison)
    (judged : HasJudged inputs printed true before fore back)
    (one : HasMadeOne inputs judged.steps more before after) where
  pub fore_taken : (taken : List ForeRow) → taken ≡ after.course.fore → taken ≡ fore_row_of (medium_of inputs) (decision_in one.step)
  fore_taken taken e = e ∙ (one.fore ∙ ap (λ rows. rows ++ fore_row_of (medium_of inputs) (decision_in one.step)) judged.no_fore)

  pub back_taken : (taken : List BackRow) → taken ≡ after.course.background.rows → taken ≡ step_rows inputs.disk one.step
  back_taken taken e = e ∙ (one.back ∙ ap (λ rows. rows ++ step_rows inputs.disk one.step) judged.no_back)

  pub back_named : (names : List (List ℕ)) (taken : List BackRow) → length names ≡ length (allowed.tasks inputs.calls)
      → taken ≡ after.course.background.rows → AllByRecursion (HasTaskBelow (length names)) taken
  back_named names taken n e =
      rw n (subst (AllByRecursion (HasTaskBelow (length (allowed.tasks inputs.calls)))) (sym (back_taken taken e)) one.back_fits)

  pub less : (was : Bool) → was ≡ true → (now : RunState) → HasMade inputs more (judged.steps ++ one.step ∷ []) now
      → decisions_left inputs more now < decisions_left inputs was before
  less was e now made =
      let fewer = one.fewer in
      let same = same_left inputs more (judged.steps ++ one.step ∷ []) after now one.made made in
      subst (λ n. n < decisions_left inputs was before) (sym same)
      (subst (λ b. decisions_left inputs more after < decisions_left inputs b before) (sym e) fewer)

  module _ (law : DecisionsMakeARun) where
    more_rows : AreRowsOf inputs (judged.steps ++ one.step ∷ []) (judged.fore_rows ++ fore_row_of (medium_of inputs) (decision_in one.step))
        (judged.back_rows ++ step_rows inputs.disk one.step)
    more_rows = law.go_on inputs judged.steps one.step judged.fore_rows judged.back_rows judged.rows one.is_made

    compared : (taken : List ForeRow) (fore_after : Comparison) → taken ≡ after.course.fore
        → HasComparedFore inputs.disk.sector_bytes printed.bytes printed.fore fore_after (judged.fore_rows ++ taken)
        → HasComparedFore inputs.disk.sector_bytes printed.bytes printed.fore fore_after
        (judged.fore_rows ++ fore_row_of (medium_of inputs) (decision_in one.step))
    compared taken fore_after e h =
        subst (λ rows. HasComparedFore inputs.disk.sector_bytes printed.bytes printed.fore fore_after (judged.fore_rows ++ rows))
        (fore_taken taken e) h

    -- a wrong foreground line among the rows of one more decision
    pub wrong_now : (taken : List ForeRow) (fore_after : Comparison) (mismatch : Mismatch) → taken ≡ after.course.fore
        → HasComparedFore inputs.disk.sector_bytes printed.bytes printed.fore fore_after (judged.fore_rows ++ taken)
        → fore_after.wrong ≡ Some mismatch → IsVerdict inputs printed (No mismatch)
    wrong_now taken fore_after mismatch e h wrong = fore_wrong inputs printed law more _ after _ _ fore_after
        mismatch one.made more_rows (compared taken fore_after e h) wrong

    -- one more decision
    pub next : (now : RunState) → HasMade inputs more (judged.steps ++ one.step ∷ []) now
        → now.course.fore ≡ [] → now.course.background.rows ≡ []
        → (fore_new : List ForeRow) (back_new : List BackRow) → fore_new ≡ after.course.fore → back_new ≡ after.course.background.rows
        → (fore_after back_after : Comparison)
        → HasComparedFore inputs.disk.sector_bytes printed.bytes printed.fore fore_after (judged.fore_rows ++ fore_new)
        → HasComparedBack printed.names inputs.disk.sector_bytes printed.bytes printed.back back_after (judged.back_rows ++ back_new)
        → CanCompare fore_after → CanCompare back_after
        → HasJudged inputs printed more now fore_after back_after
    next now made no_fore no_back fore_new back_new f b fore_after back_after fore_h back_h fore_ready back_ready = record {
      steps = judged.steps ++ one.step ∷ [];
      made = made;
      no_fore = no_fore;
      no_back = no_back;
      fore_rows = judged.fore_rows ++ fore_row_of (medium_of inputs) (decision_in one.step);
      back_rows = judged.back_rows ++ step_rows inputs.disk one.step;
      rows = more_rows;
      fore_compared = compared fore_new fore_after f fore_h;
      back_compared = subst (λ rows. HasComparedBack printed.names inputs.disk.sector_bytes printed.bytes printed.back back_after
          (judged.back_rows ++ rows)) (back_taken back_new b) back_h;
      fore_ready = fore_ready;
      back_ready = back_ready;
    }

-- ---- the end

pub none_by : (wrong : Option Mismatch) → ((mismatch : Mismatch) → wrong ≡ Some mismatch → ⊥) → wrong ≡ None
none_by None h = refl
none_by (Some mismatch) h = absurd (h mismatch refl)

module _ (inputs : Inputs) (printed : Reports) (state : RunState) (fore back : Comparison)
    (judged : HasJudged inputs printed false state fore back) where
  abbrev due_fore : List (List ℕ)
  due_fore = fore_first ∷ map (fore_line inputs.disk.sector_bytes printed.bytes) judged.fore_rows

  abbrev fore_kept : List (ℕ → Rule)
  fore_kept = (λ field. Foreground) ∷ map (λ (row : ForeRow) field. Foreground) judged.fore_rows

  abbrev full_run : Run
  full_run = record {
    fore = judged.fore_rows;
    back = judged.back_rows ++ task_rows (history inputs judged.steps);
    passed_over = inputs.passed_over;
    end = run_end (decisions inputs);
  }

  counted : fore.wrong ≡ None → fore.same - 1 ≡ length judged.fore_rows
  counted right =
      let so_far = subst (λ w. SoFar w due_fore fore_kept fore.input (lines_of fore.lines) fore.same) right judged.fore_compared.so_far in
      omega (arith, so_far.count, length-map judged.fore_rows (fore_line inputs.disk.sector_bytes printed.bytes))

  pub some_same : fore.wrong ≡ None → 0 < fore.same
  some_same right =
      let so_far = subst (λ w. SoFar w due_fore fore_kept fore.input (lines_of fore.lines) fore.same) right judged.fore_compared.so_far in
      omega (arith, so_far.count)

  module _ (law : DecisionsMakeARun) (right : fore.wrong ≡ None) (after : Comparison)
      (one : HasComparedOne (λ field. Foreground) (fore_last (fore.same - 1) inputs.passed_over) fore after) where
    -- the last foreground line is wrong
    pub last_wrong : (mismatch : Mismatch) → after.wrong ≡ Some mismatch → IsVerdict inputs printed (No mismatch)
    last_wrong mismatch wrong =
        let so_far = one_line due_fore fore_kept (fore_last (fore.same - 1) inputs.passed_over)
        (λ field. Foreground) fore after judged.fore_compared.so_far one in
        let known = named after.wrong mismatch (due_fore ++ fore_last (fore.same - 1) inputs.passed_over ∷ []) (fore_kept
        ++ (λ field. Foreground) ∷ []) after wrong so_far in
        let there = subst (λ lines. IsMismatch (due_fore ++ fore_last (fore.same - 1) inputs.passed_over ∷ [])
        (fore_kept ++ (λ field. Foreground) ∷ []) lines mismatch) (one.lines ∙ judged.fore_compared.lines_are) known.0 in inl (
          known.1 ∙ (one.input ∙ judged.fore_compared.input_is),
          λ run plain.
              let rows = law.end inputs judged.steps state judged.fore_rows judged.back_rows judged.made judged.rows
              ∙ sym plain.fore in
              let last = ap (λ n. fore_last n inputs.passed_over) (counted right ∙ ap length rows)
              ∙ ap (fore_last (length run.fore)) (sym plain.passed_over) in
              fore_whole inputs.disk.sector_bytes printed.bytes run printed.fore mismatch
              (subst (λ last. IsMismatch ((fore_first ∷ map (fore_line inputs.disk.sector_bytes printed.bytes) run.fore) ++ last ∷ [])
              (((λ field. Foreground) ∷ map (λ (row : ForeRow) field. Foreground) run.fore) ++ (λ field. Foreground)
              ∷ []) printed.fore mismatch) last
              (subst (λ rows. IsMismatch ((fore_first ∷ map (fore_line inputs.disk.sector_bytes printed.bytes) rows)
              ++ fore_last (fore.same - 1) inputs.passed_over ∷ []) (((λ field. Foreground)
              ∷ map (λ (row : ForeRow) field. Foreground) rows) ++ (λ field. Foreground) ∷ []) printed.fore mismatch) rows there)),
        )

    -- the foreground is right
    fore_right : after.wrong ≡ None → HasForeLines inputs printed full_run
    unfolding fore_lines
    fore_right end_right =
        ap (λ n. due_fore ++ fore_last n inputs.passed_over ∷ []) (sym (counted right))
        ∙ (complete due_fore fore_kept (fore_last (fore.same - 1) inputs.passed_over)
        (λ field. Foreground) fore after judged.fore_compared.so_far one judged.fore_ready (_, refl) end_right
        ∙ ap (map spelled) judged.fore_compared.lines_are)

    module _ (end_right : after.wrong ≡ None) (rows : List BackRow) (rows_are : rows ≡ task_rows (history inputs judged.steps))
        (between ended_back : Comparison) (end : ℕ) (end_is : end ≡ run_end (decisions inputs))
        (compared : HasComparedBack printed.names inputs.disk.sector_bytes printed.bytes printed.back between (judged.back_rows ++ rows))
        (ready : CanCompare between) (last : HasComparedOne (λ field. End) (back_last end) between ended_back) where
      abbrev due_back : List (List ℕ)
      due_back = back_first ∷ map (back_line printed.names inputs.disk.sector_bytes printed.bytes) (judged.back_rows ++ rows)

      abbrev back_kept : List (ℕ → Rule)
      back_kept = (λ field. Timeline) ∷ map back_rule (judged.back_rows ++ rows)

      is_full : IsFull inputs full_run
      is_full = law.full inputs judged.steps state judged.fore_rows judged.back_rows judged.made judged.rows

      -- the background is right too
      pub all_right : ended_back.wrong ≡ None → IsVerdict inputs printed Yes
      unfolding back_lines
      all_right back_right = record {
        run = full_run;
        full = is_full;
        fore = fore_right end_right;
        back =
            subst (λ tasks. back_first ∷ (map (back_line printed.names inputs.disk.sector_bytes printed.bytes) (judged.back_rows ++ tasks)
            ++ back_last (run_end (decisions inputs)) ∷ []) ≡ map spelled printed.back) rows_are
            (ap (λ e. due_back ++ back_last e ∷ []) (sym end_is)
            ∙ (complete due_back back_kept (back_last end) (λ field. End) between ended_back compared.so_far last ready (_, refl) back_right
            ∙ ap (map spelled) compared.lines_are));
      }

      back_mismatch : (mismatch : Mismatch) → ended_back.wrong ≡ Some mismatch → IsMismatch (back_lines printed.names
          inputs.disk.sector_bytes printed.bytes full_run) (back_rules full_run) printed.back mismatch × (mismatch.input ≡ BackReport)
      unfolding back_lines
      back_mismatch mismatch wrong =
          let so_far = one_line due_back back_kept (back_last end) (λ field. End) between ended_back compared.so_far last in
          let known =
          named ended_back.wrong mismatch (due_back ++ back_last end ∷ []) (back_kept ++ (λ field. End) ∷ []) ended_back wrong so_far in (
            subst (λ lines. IsMismatch (back_lines printed.names inputs.disk.sector_bytes printed.bytes full_run)
                (back_rules full_run) lines mismatch) (last.lines ∙ compared.lines_are)
                (subst (λ e. IsMismatch (back_first ∷ (map (back_line printed.names inputs.disk.sector_bytes printed.bytes) full_run.back
                ++ back_last e ∷ [])) (back_rules full_run) (lines_of ended_back.lines) mismatch) end_is
                (subst (λ tasks. IsMismatch (back_first
                ∷ (map (back_line printed.names inputs.disk.sector_bytes printed.bytes) (judged.back_rows ++ tasks) ++ back_last end ∷ []))
                ((λ field. Timeline) ∷ (map back_rule (judged.back_rows ++ tasks) ++ (λ field. End) ∷ [])) (lines_of ended_back.lines) mismatch)
                rows_are known.0)),
            known.1 ∙ (last.input ∙ compared.input_is),
          )

      -- a background line is wrong
      pub back_wrong : (mismatch : Mismatch) → ended_back.wrong ≡ Some mismatch → IsVerdict inputs printed (No mismatch)
      back_wrong mismatch wrong =
          let both = back_mismatch mismatch wrong in
          inr (both.1, record { run = full_run; full = is_full; fore = fore_right end_right; wrong = both.0 })

pub tasks_named : (n : ℕ) (names : List (List ℕ)) (rows tasks : List BackRow) → length names ≡ n → rows ≡ tasks
    → AllByRecursion (HasTaskBelow n) tasks → AllByRecursion (HasTaskBelow (length names)) rows
tasks_named n names rows tasks few e fits =
    rw few (subst (AllByRecursion (HasTaskBelow n)) (sym e) fits)
