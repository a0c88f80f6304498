use Rattle.std.proofs.Common.{◌≡◌, ◌+◌, true, length, map}
use Rattle.edge_files.specs.declared.files.OutFile.TheVariants as out
use Rattle.edge_files.specs.World.{byte_steps}
use Rattle.plan_text.specs.Lines.{persons_lines}
use Rattle.town.specs.Views.{rows_of}
use Rattle.law_replanning.specs.Memories.{all_hold_fitting}
use Rattle.iterations.{proofs.Outside.IsGoing, specs.Performed.moment, specs.Written.written_plans}
use Rattle.iterations.proofs.ends.write_plans.Given as goal

abbrev pub invariant-loop-rest : goal.invariant-loop-rest
invariant-loop-rest g l = record {
  going : IsGoing
      (moment (g.O.Outputs.written l.initial.outputs) (g.K.Keeper.kept l.initial.keeper)
      (g.O.Outputs.faults l.initial.outputs) (g.K.Keeper.faults l.initial.keeper))
      (moment (g.O.Outputs.written l.outputs) (g.K.Keeper.kept l.keeper) (g.O.Outputs.faults l.outputs) (g.K.Keeper.faults l.keeper))
      (byte_steps out.Plans (persons_lines l.town.book 0 (map written_plans l.memories)))
      (byte_steps out.Plans (persons_lines l.town.book l.first (map written_plans l.rest)));
  count : l.first + length l.rest ≡ length l.memories;
  fit : all_hold_fitting (rows_of l.town) l.rest ≡ true;
  keeper : l.keeper ≡ l.initial.keeper;
}

abbrev pub decreases-loop-rest : goal.decreases-loop-rest
decreases-loop-rest g l = length l.rest
