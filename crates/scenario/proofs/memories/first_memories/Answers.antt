use Rattle.std.proofs.{Common.length, Common.map, Common.rules, lemmas.Iterator.Adapters.YieldsList-from_vec, lemmas.Iterator.Consumers.YieldsList-turn}
use Rattle.car_routes.proofs.Routing.{at_mapped}
use Rattle.rows.specs.PlanRows.{plan_rows}
use Rattle.scenario.{proofs.Remembered.few_held, specs.Fitting.are_few}
use Rattle.scenario.proofs.memories.first_memories.Goals as goal

pub of_plans-requires : goal.of_plans-requires
of_plans-requires c =
    let turn = YieldsList-turn (YieldsList-from_vec {s = c.into_iter-own-iterator.result} c.args.plans (search rules) (search rules))
    c.loop-own.yielded c.loop-own.own-iterator c.loop-own.yielded_by c.next.result c.next.new.self c.in-Some.own c.in-Some.is c.next.ensures.steps in
    let held = few_held c.in-Some.own (at_mapped (map plan_rows) are_few c.args.plans (length c.loop-own.yielded) c.in-Some.own turn.0 turn.1 c.requires) in
    record { some = held.0; few = held.1 }
