use Rattle.std.proofs.Common.{[], ◌∷◌, ◌++◌, Some, length, arith, ap, ◌∙◌, subst₂}
use Rattle.std.specs.Prelude.{option_to_list}
use Rattle.scoring.specs.Tables.{scoring_rows}
use Rattle.collected_day.specs.declared.jobs.Job.TheVariants as job
use Rattle.collected_day.{proofs.Both.both_done, specs.Jobs.IsDone}
use Rattle.collected_day.proofs.jobs.go_on.Goals as goal

pub returns : goal.returns
returns g c =
    let run = c.args.run.now in
    let is_done = IsDone g.T.Part.net g.T.Part.borders g.T.Part.nothing g.T.Part.see g.T.Part.stands g.T.Part.spent g.T.Part.right run
    g.S.Stream.told_in_spans (g.T.DayPart.day run) (g.T.DayPart.owner run) c.args.progress.partitions.second
    (scoring_rows c.args.tables.now) c.args.book.now in
    let to_run = job.Run c.args.progress.partitions in
    let to_take = job.Take c.args.progress.taking in
    let first = c.as_mut_slice.ensures.value ∙ c.in_ok-push-2.ensures.items
    ∙ ap (λ l. l ++ to_take ∷ []) (c.in_ok-push.ensures.items ∙ ap (λ l. l ++ to_run ∷ []) c.new-jobs.ensures.items) in
    let same = c.for_each_mut.auto.s in
    let none = c.new-jobs.ensures.len in
    let one = c.in_ok-push.ensures.len in
    let two = c.in_ok-push-2.ensures.len in
    let long = ap length first in
    let took = c.in-Some-Take.is ∙ ap Some c.in-Some-Take.field-0-is in
    let ran = c.in-Some-Run.is ∙ ap Some c.in-Some-Run.field-0-is in
    let r = both_done is_done c.as_mut_slice.result.now c.for_each_mut.new.s _ c.pop.new.self.items c.pop-2.new.self.items to_run to_take
    (job.Run c.in-Some-Run.partitions) (job.Take c.in-Some-Take.taking) _ first (omega (arith, same))
    (omega (arith, same, none, one, two, long))
    (λ i d lt. let w = (c.for_each_mut.ensures i d lt).1 in subst₂ is_done w.argument_is w.left w.call)
    (c.pop.ensures.items ∙ ap (λ o. c.pop.new.self.items ++ option_to_list o) took)
    (c.pop-2.ensures.items ∙ ap (λ o. c.pop-2.new.self.items ++ option_to_list o) ran) in
    (r.0.0, r.0.1, r.1)
