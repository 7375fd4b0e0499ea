use Rattle.fb_top.proofs.Words.{◌≤◌, ◌∙◌, ℕ, ◌<◌, sym, subst, inl, IfSome, array_terms, no_call, array_asks, Outcome, ArrayHasCause}
use Rattle.fb_top.proofs.Words.{EndsAs}
use Rattle.fb_top.proofs.Arrayed.{arrayed, at_texts, ran_out, runs_taken}
use Rattle.fb_top.proofs.Ends.{unwritten_ends}
use Rattle.fb_top.proofs.array.replay_array.Goals as goal

pub returns-in-Err-clause-cause : goal.returns-in-Err-clause-cause
returns-in-Err-clause-cause g c = λ first takes. inl (ran_out takes)

pub returns-in-Err-copy_survivor-clause-cause : goal.returns-in-Err-copy_survivor-clause-cause
returns-in-Err-copy_survivor-clause-cause g c = λ first takes. inl (ran_out takes)

pub copy_survivor-requires-clause-device : goal.copy_survivor-requires-clause-device
copy_survivor-requires-clause-device g c =
    subst (λ (n : ℕ). IfSome (array_terms c.args.words.now).rebuild (λ rebuild. rebuild.device < n))
    (sym (c.in-Ok.ensures.count ∙ c.requires.count)) c.requires.limits.2

pub write_array-requires-clause-few : goal.write_array-requires-clause-few
write_array-requires-clause-few g c = subst (λ (n : ℕ). n ≤ 16) (sym (c.in-Ok.ensures.count ∙ c.requires.count)) c.requires.limits.1

pub write_array-requires-clause-device : goal.write_array-requires-clause-device
write_array-requires-clause-device g c =
    subst (λ (n : ℕ). IfSome (array_terms c.args.words.now).rebuild (λ rebuild. rebuild.device < n))
    (sym (c.in-Ok.ensures.count ∙ c.requires.count)) c.requires.limits.2

pub returns-in-Ok-write_array-clause-cause : goal.returns-in-Ok-write_array-clause-cause
returns-in-Ok-write_array-clause-cause g c = λ first takes.
    let new = g.D.Desk.seen c.write_array.new.desk in
    let are_runs = runs_taken takes c.in-Ok.runs (c.in-Ok.ensures.count ∙ c.requires.count) c.in-Ok.ensures.full in
    arrayed (array_terms c.args.words.now) first _ new c.in-Ok.runs are_runs takes.account.outputs
    c.in-Ok-copy_survivor.copy c.in-Ok-copy_survivor.ensures.copied c.in-Ok-write_array.ensures.texts

pub returns-in-Err-write_array-clause-cause : goal.returns-in-Err-write_array-clause-cause
returns-in-Err-write_array-clause-cause g c = λ first takes.
    let new = g.D.Desk.seen c.write_array.new.desk in
    let are_runs = runs_taken takes c.in-Ok.runs (c.in-Ok.ensures.count ∙ c.requires.count) c.in-Ok.ensures.full in
    subst (λ (outcome : Outcome). ArrayHasCause (array_terms c.args.words.now) first new outcome) (sym c.from.ensures)
    (at_texts (array_terms c.args.words.now) first _ new c.in-Ok.runs are_runs takes.account.outputs
    c.in-Err-write_array.error c.in-Err-write_array.ensures.texts)

pub returns-in-Err-clause-calls : goal.returns-in-Err-clause-calls
returns-in-Err-clause-calls g c = no_call

pub returns-in-Err-copy_survivor-clause-calls : goal.returns-in-Err-copy_survivor-clause-calls
returns-in-Err-copy_survivor-clause-calls g c = no_call

pub returns-in-Err-write_array-clause-calls : goal.returns-in-Err-write_array-clause-calls
returns-in-Err-write_array-clause-calls g c =
    let asks = array_asks (array_terms c.args.words.now) in
    let old = (g.D.Desk.seen c.args.desk.now).calls in
    let new = (g.D.Desk.seen c.write_array.new.desk).calls in
    subst (λ (outcome : Outcome). EndsAs asks outcome old new) (sym c.from.ensures)
    (unwritten_ends asks c.in-Err-write_array.error old new c.in-Err-write_array.ensures.calls)
