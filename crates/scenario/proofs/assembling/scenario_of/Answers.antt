use Rattle.std.proofs.{Common.List, Common.◌∙◌, Common.ap, Common.length, Common.map, lemmas.List.length-map}
use Rattle.plan_memory.specs.Memories.{MemoryRows, first_memory}
use Rattle.rows.specs.PlanRows.{plan_rows, all_plan_rows}
use Rattle.town.specs.Views.{rows_of}
use Rattle.scenario.{proofs.Remembered.few_fitting, proofs.Remembered.remembered_fit, specs.Fitting.all_remember_fitting}
use Rattle.scenario.proofs.assembling.scenario_of.Goals as goal

pub first_memories-requires : goal.first_memories-requires
first_memories-requires c = few_fitting (rows_of c.args.planned.town) (all_plan_rows c.args.planned.plans) c.args.planned.fitting

pub invariant_of-result : goal.invariant_of-result
invariant_of-result c =
    let planned = c.args.planned in
    let plans = all_plan_rows planned.plans in
    let settings = c.args.file.settings in
    record {
      each = ap (λ (l : List MemoryRows). length l) c.in-Ok.ensures ∙ length-map plans first_memory ∙ length-map planned.plans (map plan_rows) ∙ planned.each;
      fitting = ap (λ (l : List MemoryRows). all_remember_fitting (rows_of planned.town) l) c.in-Ok.ensures
          ∙ remembered_fit (rows_of planned.town) plans planned.fitting;
      learning_in_range = settings.learning_in_range;
      few_iterations = settings.few_iterations;
    }
