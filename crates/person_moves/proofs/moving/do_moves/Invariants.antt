use Rattle.traffic.proofs.Common.{◌≡◌, ◌++◌, flat_map, run, told}
use Rattle.town.specs.Views.{setup}
use Rattle.person_moves.proofs.moving.do_moves.Given as goal

abbrev pub invariant-loop-step : goal.invariant-loop-step
invariant-loop-step l = record {
  world : l.world ≡ run (setup l.day) l.second l.yielded l.initial.world;
  told : l.said.items ≡ l.initial.said.items ++ flat_map told l.yielded;
}
