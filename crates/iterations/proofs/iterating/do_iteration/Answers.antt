use Rattle.std.proofs.Common.{List, ◌∙◌, ap, subst, length, arith}
use Rattle.plan_memory.specs.Memories.{MemoryRows}
use Rattle.iterations.proofs.{Marked.can_scored, OneDay.day_failed, OneDay.day_wanting, OneDay.day_then, Outside.done_with, Outside.failed_as}
use Rattle.iterations.{proofs.Streamed.reported, proofs.Streamed.saved_then, specs.Acts.chosen_numbers}
use Rattle.iterations.specs.{Days.events_of, Days.scores_in, Days.scored, Days.memories_after, Runs.RunRows, Scored.AreObserved, Views.run_rows}
use Rattle.iterations.proofs.iterating.do_iteration.Goals as goal

pub returns-in-Err-clause-performed : goal.returns-in-Err-clause-performed
returns-in-Err-clause-performed g c =
    let R : RunRows = run_rows c.args.run.now in
    day_failed R c.args.iteration c.args.memories.items _ _ _ (ap (events_of R c.args.iteration) c.deref.ensures.value)
    (ap (scores_in R c.args.iteration) c.deref.ensures.value) (ap chosen_numbers c.deref.ensures.value) _ _ _ _ c.in-Err.ensures.performed

pub returns-in_default-clause-performed : goal.returns-in_default-clause-performed
returns-in_default-clause-performed g c =
    let R : RunRows = run_rows c.args.run.now in
    day_wanting R c.args.iteration c.args.memories.items _ _ _ (ap (events_of R c.args.iteration) c.deref.ensures.value)
    (ap (scores_in R c.args.iteration) c.deref.ensures.value) (ap chosen_numbers c.deref.ensures.value) _ _ _ _ c.in-Ok.ensures.performed

pub returns-in_default-clause-keeper : goal.returns-in_default-clause-keeper
returns-in_default-clause-keeper g c off = c.in-Ok.ensures.keeper

pub save_and_report-requires-clause-can : goal.save_and_report-requires-clause-can
save_and_report-requires-clause-can g c =
    can_scored (run_rows c.args.run.now) c.args.memories.items _ _ c.requires (c.deref-3.ensures.value ∙ c.in-Ok-scored.ensures)

pub save_and_report-requires-clause-few : goal.save_and_report-requires-clause-few
save_and_report-requires-clause-few g c = let n = c.in-Ok.ensures.seen.each in let m = c.args.run.now.town.now.sound.few_persons in omega arith

pub save_and_report-requires-clause-within : goal.save_and_report-requires-clause-within
save_and_report-requires-clause-within g c = c.in-Ok.ensures.seen.within

pub returns-in-Ok-save_and_report-clause-performed : goal.returns-in-Ok-save_and_report-clause-performed
unfolding memories_after
returns-in-Ok-save_and_report-clause-performed g c =
    let R : RunRows = run_rows c.args.run.now in
    let k = c.args.iteration in
    let seen = c.in-Ok.ensures.seen in
    done_with _ _ _ tt _ (day_then R k c.args.memories.items _ _ _ (ap (events_of R k) c.deref.ensures.value)
    (ap (scores_in R k) c.deref.ensures.value) (ap chosen_numbers c.deref.ensures.value) _ _ _ _ _ _ _
    (c.deref-3.ensures.value ∙ c.in-Ok-scored.ensures
    ∙ ap (scored c.args.memories.items) (c.deref-2.ensures.value ∙ seen.scores ∙ ap (scores_in R k) c.deref.ensures.value))
    c.in-Ok.ensures.performed
    (saved_then _ _ _ _ _ _ _ _ (reported k _ _ _ _ seen.counts seen.scores) c.in-Ok-save_and_report.ensures.performed))

pub returns-in-Err-save_and_report-clause-performed : goal.returns-in-Err-save_and_report-clause-performed
unfolding memories_after
returns-in-Err-save_and_report-clause-performed g c =
    let R : RunRows = run_rows c.args.run.now in
    let k = c.args.iteration in
    let seen = c.in-Ok.ensures.seen in
    failed_as _ _ _ _ (day_then R k c.args.memories.items _ _ _ (ap (events_of R k) c.deref.ensures.value)
    (ap (scores_in R k) c.deref.ensures.value) (ap chosen_numbers c.deref.ensures.value) _ _ _ _ _ _ _
    (c.deref-3.ensures.value ∙ c.in-Ok-scored.ensures
    ∙ ap (scored c.args.memories.items) (c.deref-2.ensures.value ∙ seen.scores ∙ ap (scores_in R k) c.deref.ensures.value))
    c.in-Ok.ensures.performed
    (saved_then _ _ _ _ _ _ _ _ (reported k _ _ _ _ seen.counts seen.scores) c.in-Err-save_and_report.ensures.performed))

pub returns-in-Ok-save_and_report-clause-observed : goal.returns-in-Ok-save_and_report-clause-observed
returns-in-Ok-save_and_report-clause-observed g c =
    subst (λ (ms : List MemoryRows). AreObserved (length c.args.run.now.town.now.network.links)
    (events_of (run_rows c.args.run.now) c.args.iteration ms) c.in-Ok.seen.known) c.deref.ensures.value c.in-Ok.ensures.seen.observed

pub returns-in-Ok-save_and_report-clause-can : goal.returns-in-Ok-save_and_report-clause-can
returns-in-Ok-save_and_report-clause-can g c =
    can_scored (run_rows c.args.run.now) c.args.memories.items _ _ c.requires c.in-Ok-scored.ensures

pub returns-in-Ok-save_and_report-clause-keeper : goal.returns-in-Ok-save_and_report-clause-keeper
returns-in-Ok-save_and_report-clause-keeper g c off = c.in-Ok-save_and_report.ensures.keeper off ∙ c.in-Ok.ensures.keeper

pub returns-in-Err-save_and_report-clause-keeper : goal.returns-in-Err-save_and_report-clause-keeper
returns-in-Err-save_and_report-clause-keeper g c off = c.in-Err-save_and_report.ensures.keeper off ∙ c.in-Ok.ensures.keeper
