use Rattle.traffic.proofs.Common.{refl, pick, running_sums, first_above, raised, credit_per_second, storage, buffer_room, free_seconds, turns_of, turns_in}
use Rattle.traffic.proofs.Common.{world_start, keyed, through, world_from, events_from, day, end_events, told_in, turns, link_moves, leave_bay, from_queue}
use Rattle.traffic.proofs.Common.{from_wait, person_after, node_moves, draw, one_more, pass_node, waiters, landing_moves, leaving_moves, stranded}
use Rattle.traffic.proofs.Common.{departure_moves, link_of_vehicle, into, hole_seconds, stays_until, served_vehicle, boarding, left_behind, in_turn}
use Rattle.traffic.proofs.Common.{riders_after, among}
use Rattle.draws.specs.Choices.{below}
use Rattle.traffic.proofs.laws.worked_days.Goals as goal

pub returns : goal.returns
unfolding one_more free_seconds credit_per_second storage buffer_room raised pick below running_sums first_above hole_seconds into among in_turn boarding left_behind riders_after stays_until served_vehicle person_after leave_bay from_wait from_queue link_moves pass_node draw node_moves landing_moves leaving_moves departure_moves waiters link_of_vehicle stranded turns_of turns turns_in keyed through told_in world_start world_from events_from end_events day
returns c = record {
  bus = refl;
  narrow_removed = refl;
  narrow_pushed = refl;
  junction_lower = refl;
  junction_upper = refl;
  red = refl;
  jam = refl;
  jam_with_holes = refl;
}
