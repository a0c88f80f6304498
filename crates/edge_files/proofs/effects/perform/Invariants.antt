use Rattle.std.proofs.Common.{◌≡◌, ◌≤◌, drop, false}
use Rattle.edge_files.{proofs.Worlds.Performing, specs.Effects.all_steps, specs.Effects.has_save, specs.World.outside}
use Rattle.edge_files.proofs.effects.perform.Given as goal

abbrev pub invariant-loop-effect : goal.invariant-loop-effect
invariant-loop-effect g l = record {
  performing : Performing (outside (g.O.Outputs.written l.initial.outputs) (g.K.Keeper.kept l.initial.keeper)) (outside (g.O.Outputs.written l.outputs) (g.K.Keeper.kept l.keeper)) (all_steps l.effects) (all_steps (drop l.effect-index l.effects));
  write_later : g.O.Outputs.faults l.initial.outputs ≤ g.O.Outputs.faults l.outputs;
  keep_later : g.K.Keeper.faults l.initial.keeper ≤ g.K.Keeper.faults l.keeper;
  untouched : has_save l.effects ≡ false → l.keeper ≡ l.initial.keeper;
}
