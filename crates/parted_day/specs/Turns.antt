-- What a partition of the day of a town tells in a second, and what leaves it.
use Rattle.std.specs.Prelude.{◌≡◌, ℕ, false, List, ◌++◌, length, map, filter}
use Rattle.events.specs.declared.event.Event.{Event}
use Rattle.events.specs.declared.event.Phase.TheVariants as phase
use Rattle.traffic.specs.{Day.turns_in, Day.events_in, Lists.below, Rows.person_of, Setup.Setup}
use Rattle.parts.specs.Owners.{Owner}
use Rattle.law_own_worlds.specs.{Days.world_before, Days.run_turns, Days.my_node_turns, Days.my_link_turns, OwnWorlds.landed}
use Rattle.law_own_seconds.specs.Seconds.{world_early}
use Rattle.law_parcels.specs.Sending.{sent_rows, freed_over}
use Rattle.node_seconds.specs.Networks.{is_among}
use Rattle.part_nodes.specs.Phase.{entering_of}
use Rattle.part_seconds.specs.{Contents.freed_row, declared.leaving.Leaving.Leaving}

-- what all turns of second t in the own world of p tell, phase by phase
abbrev pub turns_told : Setup → Owner → ℕ → ℕ → List Event
turns_told S own p t =
    let V = world_before S own p t in
    events_in t phase.A (turns_in S t phase.A V)
    ++ (events_in t phase.B1 (turns_in S t phase.B1 (landed S t V))
    ++ (events_in t phase.B2 (run_turns S own p t)
    ++ (events_in t phase.C (my_node_turns S own p t) ++ events_in t phase.D (my_link_turns S own p t))))

-- What leaves p once these turns are over, or may leave it: the vehicles that enter links of others; of the persons those who were looked
-- at, since nobody else set out; and word of the vehicles that left the queues of links which begin elsewhere.
pub record IsLeaving (S : Setup) (own : Owner) (p t : ℕ) (leaving : Leaving) : Type 0 where
  pub entering : leaving.entering.items ≡ map entering_of (sent_rows S own p t)
  pub looked : leaving.looked.items ≡ filter (λ i. is_among i leaving.looked.items) (below (length S.persons))
  pub others :
      (i : ℕ) → is_among i leaving.looked.items ≡ false
      → person_of i (world_early S own p t) ≡ person_of i (world_before S own p t)
  pub freed : map freed_row leaving.freed.items ≡ freed_over S own p t
