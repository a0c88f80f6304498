use Rattle.traffic.proofs.Common.{refl, pick, running_sums, first_above, raised, credit_per_second, storage, buffer_room}
use Rattle.traffic.proofs.Common.{free_seconds, turns_of, turns_in, world_start, keyed, through, world_from, events_from, day, end_events, told_in, turns}
use Rattle.traffic.proofs.Common.{link_moves, leave_bay, from_queue, from_wait, person_after, node_moves, draw, one_more, pass_node, waiters, landing_moves}
use Rattle.traffic.proofs.Common.{leaving_moves, stranded, departure_moves, link_of_vehicle, into, hole_seconds, stays_until, served_vehicle, boarding}
use Rattle.traffic.proofs.Common.{left_behind, in_turn, riders_after, among}
use Rattle.draws.specs.Choices.{below}
use Rattle.parts.specs.{Owners.hops, Owners.near, Owners.least, Owners.lag, Owners.link_of_rider, Parts.came_last, Parts.went_last, Parts.out, Parts.unheard}
use Rattle.law_own_worlds.specs.Making.{own_world}
use Rattle.law_partition_trials.proofs.worked_own_worlds.Goals as goal

pub returns-clause-rows : goal.returns-clause-rows
unfolding one_more free_seconds credit_per_second storage buffer_room raised pick below running_sums first_above hole_seconds into among in_turn boarding left_behind riders_after stays_until served_vehicle person_after leave_bay from_wait from_queue link_moves pass_node draw node_moves landing_moves leaving_moves departure_moves waiters link_of_vehicle stranded turns_of turns turns_in keyed through told_in world_start world_from events_from end_events day hops near least lag link_of_rider came_last went_last out unheard own_world
returns-clause-rows c = refl

pub returns-clause-holes : goal.returns-clause-holes
unfolding one_more free_seconds credit_per_second storage buffer_room raised pick below running_sums first_above hole_seconds into among in_turn boarding left_behind riders_after stays_until served_vehicle person_after leave_bay from_wait from_queue link_moves pass_node draw node_moves landing_moves leaving_moves departure_moves waiters link_of_vehicle stranded turns_of turns turns_in keyed through told_in world_start world_from events_from end_events day hops near least lag link_of_rider came_last went_last out unheard own_world
returns-clause-holes c = refl
