use Rattle.std.proofs.Common.{map, sym, ◌∙◌, ap}
use Rattle.rows.specs.PlanRows.{plan_rows}
use Rattle.plan_memory.{proofs.Dropping.map_remove, proofs.Dropping.without_is, specs.Views.memory_of}
use Rattle.plan_memory.proofs.memory.Memory.drop_plan.Goals as goal

pub returns : goal.returns
returns c =
    let chosen = rw c.as_slice.ensures.value at c.chosen_without-self-inside.ensures.chosen in
    rw (← c.self.view_is)
    (sym (without_is c.args.place (memory_of c.self.inside) (map plan_rows c.remove_plan.new.plans) c.remove.new.self.items
    c.chosen_without-self-inside.result (ap (map plan_rows) c.remove_plan.ensures ∙ map_remove plan_rows c.self.inside.plans c.args.place)
    c.remove.ensures.items chosen))
