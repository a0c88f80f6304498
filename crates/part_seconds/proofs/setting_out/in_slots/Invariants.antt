use Rattle.std.{proofs.Common.◌≡◌, specs.Prelude.map}
use Rattle.part_seconds.specs.Slots.{in_slot}
use Rattle.part_seconds.proofs.setting_out.in_slots.Given as goal

abbrev pub invariant-loop-row : goal.invariant-loop-row
invariant-loop-row l = l.placed.items ≡ map (in_slot l.slots) l.yielded
