use Rattle.std.proofs.Common.{ℕ, List, length, arith, ap}
use Rattle.rows.specs.PlanRows.{plan_rows}
use Rattle.town.specs.Views.{rows_of}
use Rattle.iterations.proofs.{Outside.ok_then, Places.place_there, Places.written_few, PlanLines.plan_step, PlanLines.plan_in_book, ScoredDays.town_names}
use Rattle.iterations.proofs.ends.push_plan.Goals as goal

pub overflow_cast-index : goal.overflow_cast-index
overflow_cast-index c =
    omega (arith, written_few c.args.memory.now, ap (λ (ps : List ℕ). length ps) c.requires.places, c.requires.index, c.len-count.ensures.count, c.len-count.ensures.few)

pub plan-requires : goal.plan-requires
plan-requires c =
    place_there c.args.memory.now c.args.places.now c.args.index c.requires.places (omega (arith, c.len-count.ensures.chosen, c.len-count.ensures.count)) c.requires.index

pub write_plan-requires-clause-named : goal.write_plan-requires-clause-named
write_plan-requires-clause-named c =
    plan_in_book (rows_of c.args.town.now) c.args.memory.now _ (plan_rows c.plan.result.now) (town_names c.args.town.now) c.requires.fit
    (place_there c.args.memory.now c.args.places.now c.args.index c.requires.places (omega (arith, c.len-count.ensures.chosen, c.len-count.ensures.count)) c.requires.index)
    c.plan.ensures

pub returns : goal.returns
returns c =
    ok_then _ _ c.write_plan.result c.write_plan.ensures.ok
    (plan_step c.args.town.now.book c.args.person c.args.index c.args.memory.now c.args.places.now (plan_rows c.plan.result.now) _ _ c.requires.places
    c.requires.index c.plan.ensures)
