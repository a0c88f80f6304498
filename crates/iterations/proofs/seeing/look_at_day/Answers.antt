use Rattle.traffic.proofs.Common.{List, ◌∙◌, ap, map, plan_rows, Plan}
use Rattle.town.specs.{Views.rows_of, declared.town.Town.Town}
use Rattle.iterations.{proofs.SeenDays.given, proofs.SeenDays.seen_is, specs.Views.run_rows}
use Rattle.iterations.proofs.seeing.look_at_day.Goals as goal

pub write_day-requires-clause-given : goal.write_day-requires-clause-given
write_day-requires-clause-given g c κs within =
    given (run_rows c.args.run.now) c.args.iteration c.args.memories.now c.day_of-day.result
    (ap (λ (t : Town). rows_of t) c.day_of-day.ensures.town)
    (ap (λ (ps : List Plan). map plan_rows ps) (c.day_of-day.ensures.chosen ∙ c.deref.ensures.value) ∙ c.in_ok-plans.ensures)
    c.day_of-day.ensures.iteration c.requires

pub returns-in-Ok : goal.returns-in-Ok
returns-in-Ok g c =
    seen_is (run_rows c.args.run.now) c.args.iteration c.args.memories.now c.day_of-day.result
    (ap (λ (t : Town). rows_of t) c.day_of-day.ensures.town)
    (ap (λ (ps : List Plan). map plan_rows ps) (c.day_of-day.ensures.chosen ∙ c.deref.ensures.value) ∙ c.in_ok-plans.ensures)
    c.day_of-day.ensures.iteration c.requires c.in-Ok.seen c.in-Ok.ensures.links
    c.in-Ok.ensures.seen
