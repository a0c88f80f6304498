-- The names that most proofs on days cite, passed on from one place. Declares nothing.
pub use Rattle.std.proofs.Common.{set, ◌≡◌, ℕ, List, ◌∙◌, length, ap, refl, sym, [], ◌∷◌, arith, ◌<◌, true, ◌++◌, ◌+◌, Bool, inl, inr, subst, ◌≤◌, false, suc}
pub use Rattle.std.proofs.Common.{eqb, zero, ◌-◌, get_or, ◌≢◌, drop, append-nil, append_assoc, ◌/◌, ◌⊎◌, length-append, ◌*◌, take, slice_get, ◌^◌, cond}
pub use Rattle.std.proofs.Common.{add-one}
pub use Rattle.std.proofs.Math.Path.{fun_ext}
pub use Rattle.std.proofs.Math.Seq.{drop-append_seam}
pub use Rattle.std.proofs.lemmas.Bool.{not-true, leb-false, cases_Bool, eqb-true, and_parts, cases_lt, eq-eqb, eqb-false, ne_eqb, true≢false, ltb-true}
pub use Rattle.std.proofs.lemmas.Bool.{lt-ltb, leb-true, or_parts, ltb-false}
pub use Rattle.std.proofs.lemmas.Bool.Decides.{nat_tests}
pub use Rattle.std.proofs.lemmas.Fn.{filter_same}
pub use Rattle.std.proofs.lemmas.Grind.{flat_map-append}
pub use Rattle.std.proofs.lemmas.List.{get_or-set_same, length-set, length-map, get_or_past, get_or-map, map-append, get_or-set_other, length-replicate}
pub use Rattle.std.proofs.lemmas.List.Elements.{All-head, All-tail, All-append, All-map, All-from_recursion, filter-append, All-get_or, recursion_from_All}
pub use Rattle.std.proofs.lemmas.List.Elements.{All-nil, All-cons, All-filter, All-weaker}
pub use Rattle.std.proofs.lemmas.List.Sorted.{IsPermutation-refl, IsPermutation-trans}
pub use Rattle.std.proofs.lemmas.List.Sums.{sum_by_push, sum_by-append, sum_by-le-sum_by, length-filter, sum_by-cons}
pub use Rattle.std.specs.List.{remove, flat_map, list_all, list_any}
pub use Rattle.std.specs.List.Sorted.{IsSortedByKey, IsStableByKey}
pub use Rattle.std.specs.Option.{option_to_list}
pub use Rattle.std.specs.Prelude.{AllPairs, IsPermutation, sum_by, sum, reverse, map, filter, Some, None, not, Option, ◌&&◌, if◌then◌else◌, All, nat_lt}
pub use Rattle.std.specs.Prelude.{nat_le, ◌==◌, ◌||◌, nat_eq, count_by, replicate, unwrap_or, ◌%◌}
unfoldable pub use Rattle.draws.specs.Choices.{pick, running_sums, first_above}
unfoldable pub use Rattle.draws.specs.Words.{word}
pub use Rattle.events.specs.Keys.{phase_code}
pub use Rattle.events.specs.declared.event.Book.{Book}
pub use Rattle.events.specs.declared.event.Event.{Event}
pub use Rattle.events.specs.declared.event.Key.{Key}
pub use Rattle.events.specs.declared.event.Mode.{Mode}
pub use Rattle.events.specs.declared.event.More.{More}
pub use Rattle.events.specs.declared.event.Phase.{Phase}
pub use Rattle.events.specs.declared.event.VehicleId.{VehicleId}
pub use Rattle.events.specs.declared.event.Word.{Word}
pub use Rattle.events.specs.declared.lists.StopCall.{StopCall}
unfoldable pub use Rattle.fixed_flow.specs.Flow.{raised}
unfoldable pub use Rattle.fixed_flow.specs.Link.{credit_per_second, storage, buffer_room, free_seconds}
pub use Rattle.fixed_flow.specs.declared.TheConstants.{VEHICLE_COST}
unfoldable pub use Rattle.rows.specs.Joined.{ends_of}
pub use Rattle.rows.specs.Plan.{is_open, has_end, is_leg, mode_of_leg}
unfoldable pub use Rattle.rows.specs.Plan.{are_acts}
pub use Rattle.rows.specs.PlanRows.{act_in, leg_in, PlanRows, plan_rows, all_plan_rows}
pub use Rattle.rows.specs.Stops.{calls_at, stop_link}
pub use Rattle.rows.specs.declared.network.LinkRow.{LinkRow}
pub use Rattle.rows.specs.declared.plan.Act.{Act}
pub use Rattle.rows.specs.declared.plan.Leg.{Leg}
pub use Rattle.rows.specs.declared.plan.Leg.TheVariants.{Transit, Car, Teleport}
pub use Rattle.rows.specs.declared.plan.Plan.{Plan}
pub use Rattle.rows.specs.declared.schedule.DepartureRow.{DepartureRow}
pub use Rattle.rows.specs.declared.schedule.RouteRow.{RouteRow}
pub use Rattle.rows.specs.declared.schedule.StopRow.{StopRow}
pub use Rattle.rows.specs.declared.settings.Dwelling.{Dwelling}
pub use Rattle.rows.specs.declared.settings.Stuck.{Stuck}
pub use Rattle.traffic.specs.Day.{first_end, world_at, link_turns, moves_of, node_turns, after, count_of, landing_turns, leaving_turns, phases, events_in}
pub use Rattle.traffic.specs.Day.{Turn, departure_turns, second, at_home, events_of, TurnMoves, event_at}
unfoldable pub use Rattle.traffic.specs.Day.{turns_of, turns_in, world_start, keyed, through, world_from, events_from, day, end_events, told_in, turns}
pub use Rattle.traffic.specs.Frames.{IsFromBuffer, AreFromBuffers, sees, AreAfter, Ascends, IsOf, AreOf, Untouched, Apart, AreAt, IsAt, turn_of}
pub use Rattle.traffic.specs.Links.{Rules, rules, link_state, waiting, buffered, LinkState, is_last, may_pass, wait_after}
unfoldable pub use Rattle.traffic.specs.Links.{link_moves, leave_bay, from_queue, from_wait}
pub use Rattle.traffic.specs.Lists.{on_front, below, numbers, without_at, without, is_nil, with_first}
pub use Rattle.traffic.specs.Moves.{Credit, Move, Transfer, Remove, LeaveHole, Enter, SetFrontSince, persons_by, ride, person_by, credits_after, wait_at}
pub use Rattle.traffic.specs.Moves.{lose, run, done, told, person_after_all, at_after_all, at_second, start_act, touches, credit_after_all, same, told_of}
pub use Rattle.traffic.specs.Moves.{at_after, hole_after_all, credit_after, ends_at, hole_after, persons_after, rows_after}
unfoldable pub use Rattle.traffic.specs.Moves.{person_after}
pub use Rattle.traffic.specs.Nodes.{InLink, NodeView, OutLink, with_one_more, may_enter, since_of, out_links_by, pass_node_all, drawn, no_in_link, red}
pub use Rattle.traffic.specs.Nodes.{candidates, is_out_link, entered, next_link, in_link, has_room, in_force, node_view, out_link, ready, is_stuck, mark}
pub use Rattle.traffic.specs.Nodes.{out_links_after, taken_at}
unfoldable pub use Rattle.traffic.specs.Nodes.{node_moves, draw, one_more, pass_node}
pub use Rattle.traffic.specs.Persons.{landing, stuck_at, waiter, sets_out, waits_on, transit_vehicle, departs, same_vehicle, lands, car, leaving}
pub use Rattle.traffic.specs.Persons.{waits}
unfoldable pub use Rattle.traffic.specs.Persons.{waiters, landing_moves, leaving_moves, stranded, departure_moves, link_of_vehicle}
pub use Rattle.traffic.specs.Rows.{Row, Teleporting, At, Place, Waiting, Riding, Person, World, person_of, at, on, nobody, rank, holes_at, credit_of}
pub use Rattle.traffic.specs.Setup.{gain_of, Setup, act_after, leg_at, act_at, link_row, person_plan, link_of_stop, hole_of, seconds_of, departure}
pub use Rattle.traffic.specs.Setup.{storage_of, Departure}
unfoldable pub use Rattle.traffic.specs.Setup.{into, hole_seconds}
pub use Rattle.traffic.specs.Stops.{Waiter, comes_first, ComesBefore, is_egress, call_at, served_row, next_call, alighting, rider, calls_on, staying, alights}
pub use Rattle.traffic.specs.Stops.{may_board, is_person}
unfoldable pub use Rattle.traffic.specs.Stops.{stays_until, served_vehicle, boarding, left_behind, in_turn, riders_after, among}
pub use Rattle.traffic.specs.Telling.{Occurrence, boarded, told_to, told_transfer, told_removal, of_rider, mode_in, arrives, enters, leaves, starts, serves}
pub use Rattle.traffic.specs.Telling.{strands, driver, of_driver, aborts, of_person}
pub use Rattle.traffic.specs.Vehicles.{VehicleState}
pub use Rattle.traffic.specs.Worlds.{ahead, from_link, IsOnLine, leg_of, IsLeg, IsInVehicle, HasEnd, IsTeleported, IsFrom, listed, IsListed, IsSoundPerson}
pub use Rattle.traffic.specs.Worlds.{listed_in, rows_of, HasLeg, IsOwn, OnePlace, IsAlong, Sound, AreServable, HasRiders, IsSoundRow, IsSoundStage}
