use Rattle.std.proofs.Common.{◌≡◌, ◌-◌, false}
use Rattle.edge_files.specs.Effects.{all_steps}
use Rattle.iterations.{proofs.Outside.IsGoing, specs.Acts.acts_behind, specs.Performed.moment, specs.Runs.CanRun, specs.Views.run_rows}
use Rattle.iterations.proofs.iterating.iterate_from.Given as goal

-- the iterations so far are done, and the memories are those with which the next one begins
abbrev pub invariant-loop-iteration : goal.invariant-loop-iteration
invariant-loop-iteration g l = record {
  going : IsGoing
      (moment (g.O.Outputs.written l.initial.outputs) (g.K.Keeper.kept l.initial.keeper)
      (g.O.Outputs.faults l.initial.outputs) (g.K.Keeper.faults l.initial.keeper))
      (moment (g.O.Outputs.written l.outputs) (g.K.Keeper.kept l.keeper) (g.O.Outputs.faults l.outputs) (g.K.Keeper.faults l.keeper))
      (all_steps (acts_behind (run_rows l.run) l.first l.initial.memories.items (l.run.last_iteration - l.first)))
      (all_steps (acts_behind (run_rows l.run) l.iteration l.memories.items (l.run.last_iteration - l.iteration)));
  can : CanRun (run_rows l.run) l.memories.items;
  keeper : l.run.keeps ≡ false → l.keeper ≡ l.initial.keeper;
}
