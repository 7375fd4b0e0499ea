-- The counts that are kept of groups, as a block is added or comes into another state.
use Rattle.fb_wanted.proofs.Words.{◌≡◌, ℕ, ◌<◌, ◌≤◌, ◌/◌, inl, inr, List, [], ◌∷◌, ◌++◌, Some, true, length, slice_get, get_or, refl, ap}
use Rattle.fb_wanted.proofs.Words.{◌∙◌, arith, cases_Bool, cases_lt, nat_tests, get_or_past, Block, Counts, Entry, State, counted}
use Rattle.fb_wanted.proofs.Words.{counts_of, is_of, is_in_group, no_counts, sum_of, AreNoMore, Fit, AreGrouped, with_state}
use Rattle.fb_wanted.specs.Groups.{group_at, IsGroupThere, IsRecounted}
use Rattle.fb_wanted.proofs.Counted.{counts-few, counts_alike, counts_at, counts-grown, counts-grown_other, counts-with_state, counts-with_other}

in_its_group : (b : Block) → is_in_group b.task (b.index / 512) b ≡ true
in_its_group b = grind (arith, nat_tests)

-- a block adds the same to the counts of its task and of its group
alone : (e : Entry) (task group : ℕ) → is_in_group task group e.block ≡ true
    → counts_of e.block.task (e ∷ []) ≡ counted (is_in_group task group) (e ∷ [])
alone e task group here = counts_alike (is_of e.block.task) (is_in_group task group) e (grind (arith, nat_tests)) here

module _ (es : List Entry) (groups : List (List Counts)) (h : AreGrouped es groups) where
  -- the counts of the group of a registered block have the block's part, so there is a place for them
  pub group_part : (n : ℕ) (e : Entry) (lost : Counts) → slice_get es n ≡ Some e → lost ≡ counts_of e.block.task (e ∷ [])
      → AreNoMore lost (group_at groups e.block.task (e.block.index / 512))
  group_part n e lost at is =
      let task = e.block.task in
      let group = e.block.index / 512 in
      rw (is ∙ alone e task group (in_its_group e.block), h task group) (counts_at (is_in_group task group) n e es at)

  pub its_group_there : (n : ℕ) (e : Entry) → slice_get es n ≡ Some e → IsGroupThere groups e.block
  its_group_there n e at =
      let task = e.block.task in
      let group = e.block.index / 512 in
      let part = group_part n e (counts_of task (e ∷ [])) at refl in
      let own : is_of task e.block ≡ true = grind (arith, nat_tests) in
      let one : (counts_of task (e ∷ [])).registered ≡ 1 = rw own refl in
      let by_group : group < length (get_or groups task []) = elim (cases_lt group (length (get_or groups task []))) [
        | inl there ↦ there
        | inr past ↦ absurd (omega (arith, part.0, one, ap (λ n. n.registered) (get_or_past (get_or groups task []) group no_counts past)))
      ] in
      let by_task : task < length groups = elim (cases_lt task (length groups)) [
        | inl there ↦ there
        | inr past ↦ absurd (omega (arith, by_group, ap length (get_or_past groups task [] past)))
      ] in
      (by_task, by_group)

  -- the counts of a group with one more block fit in their 32 bits
  pub group_room : (task group other : ℕ) (e : Entry) (gained : Counts) → length es ≤ 16000000 → gained ≡ counts_of other (e ∷ [])
      → Fit (sum_of (group_at groups task group) gained)
  group_room task group other e gained few is =
      let one = counts-few (is_of other) (e ∷ []) in
      let all = counts-few (is_in_group task group) es in
      rw (is, h task group) (omega (arith, one.0, all.0, few), omega (arith, one.1, all.1, few), omega (arith, one.2, all.2, few))

  -- groups with the same counts hold as well
  pub grouped_still : (new : List (List Counts)) → ((task group : ℕ) → group_at new task group ≡ group_at groups task group)
      → AreGrouped es new
  grouped_still new same task group = same task group ∙ h task group

  -- a block has come into another state
  pub grouped_set : (new : List (List Counts)) (s : State) (n : ℕ) (e : Entry) (lost gained : Counts) → slice_get es n ≡ Some e
      → lost ≡ counts_of e.block.task (e ∷ []) → gained ≡ counts_of e.block.task (record { block = e.block; state = s } ∷ [])
      → IsRecounted groups new e.block lost gained → AreGrouped (with_state s n es) new
  grouped_set new s n e lost gained at loses gains changed task group = elim (cases_Bool (is_in_group task group e.block)) [
    | inl here ↦
        let changed_entry : Entry = record { block = e.block; state = s } in
        changed task group ∙ rw (here, loses ∙ alone e task group here, gains ∙ alone changed_entry task group here, h task group)
        (counts-with_state (is_in_group task group) s n e es at)
    | inr other ↦ changed task group ∙ rw other (h task group ∙ counts-with_other (is_in_group task group) s n e es at other)
  ]

  -- a block is added at the end
  pub grouped_pushed : (new : List (List Counts)) (e : Entry) (none gained : Counts) → none ≡ no_counts → gained ≡ counts_of e.block.task (e ∷ [])
      → IsRecounted groups new e.block none gained → AreGrouped (es ++ e ∷ []) new
  grouped_pushed new e none gained nothing gains changed task group = elim (cases_Bool (is_in_group task group e.block)) [
    | inl here ↦ changed task group ∙ rw (here, nothing, gains ∙ alone e task group here, h task group)
        (counts-grown (is_in_group task group) es e)
    | inr other ↦ changed task group ∙ rw other (h task group ∙ counts-grown_other (is_in_group task group) es e other)
  ]
