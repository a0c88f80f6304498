-- The own world of a partition in a day.
use Rattle.std.specs.Prelude.{◌≡◌, ℕ, suc, ◌<◌, Bool, true, List, [], ◌∷◌, ◌++◌, length, map, filter, is_some}
use Rattle.std.specs.List.{flat_map, AllByRecursion as Each}
use Rattle.events.specs.declared.event.Phase.TheVariants as phase
use Rattle.traffic.specs.Day.{Turn, departure_turns, node_turns, link_turns, turns, turns_in, moves_of, events_in, through, world_at}
use Rattle.traffic.specs.{Lists.below, Persons.waiters, Rows.World, Rows.at, Rows.credit_of, Rows.person_of, Setup.Setup, Setup.link_of_stop}
use Rattle.traffic.specs.declared.stage.Stage.{Stage, TheVariants.Queue, TheVariants.Buffer, TheVariants.Wait, TheVariants.Bay}
use Rattle.traffic.specs.declared.world.{Place.TheVariants.Waiting, Row.Row}
use Rattle.parts.specs.Owners.{Owner, owner_of, leads, links_of}
use Rattle.parts.specs.Parts.{is_some_freed, mine, enters_queue, freed, held, ready, out, own_events}
use Rattle.law_partitions.specs.Alone.{my_nodes, my_links, my_runs, sent_out, if_stays, passed_here, flight_to}
use Rattle.law_own_worlds.specs.{Making.own_world, OwnWorlds.landed, OwnWorlds.left, OwnWorlds.set_out, OwnWorlds.crossed, OwnWorlds.driven}

-- the own world of partition p before second t of the day, and whom it has
abbrev pub world_before : Setup → Owner → ℕ → ℕ → World
world_before S own p t = own_world S t (ready S own p t)

abbrev pub is_there : Setup → Owner → ℕ → ℕ → ℕ → Bool
is_there S own p t i = is_some ((ready S own p t).person i)

-- the turns of p's departures, nodes and links in it
abbrev pub run_turns : Setup → Owner → ℕ → ℕ → List Turn
run_turns S own p t = turns S t (departure_turns S t) (my_runs S own p) (left S t (world_before S own p t))

abbrev pub my_node_turns : Setup → Owner → ℕ → ℕ → List Turn
my_node_turns S own p t = turns S t (node_turns S t) (my_nodes S own p) (set_out S own p t (world_before S own p t))

abbrev pub my_link_turns : Setup → Owner → ℕ → ℕ → List Turn
my_link_turns S own p t = turns S t (link_turns S t) (my_links S own p) (crossed S own p t (world_before S own p t))

-- The second of the own world gives what the day says of partition p: what it holds next, what it tells, and what it sends to each.
pub record FollowsTheDay (S : Setup) (own : Owner) (p t : ℕ) : Type 0 where
  pub list :
      (l : ℕ) (s : Stage) → owner_of S own l ≡ p
      → (held S own p (suc t)).list l s ≡ at l s (driven S own p t (world_before S own p t))
  pub credit :
      (l : ℕ) → l < length S.links → owner_of S own l ≡ p
      → (held S own p (suc t)).credit l ≡ credit_of l (driven S own p t (world_before S own p t))
  -- who sets out on a flight to another partition, or rides in a row that enters a link of another one, is p's no more
  pub person :
      (i : ℕ) → (held S own p (suc t)).person i
      ≡ if_stays S own p t (sent_out S own p (moves_of (my_node_turns S own p t))) i
      (mine (is_there S own p t i) (person_of i (driven S own p t (world_before S own p t))))
  pub told :
      own_events S own p (suc t) ≡ own_events S own p t
      ++ (events_in t phase.A (turns_in S t phase.A (world_before S own p t))
      ++ (events_in t phase.B1 (turns_in S t phase.B1 (landed S t (world_before S own p t)))
      ++ (events_in t phase.B2 (run_turns S own p t)
      ++ (events_in t phase.C (my_node_turns S own p t) ++ events_in t phase.D (my_link_turns S own p t)))))
  pub vehicles :
      (q : ℕ) → (out S own p q t).vehicles
      ≡ map (passed_here (ready S own p t)) (flat_map (enters_queue (leads S own p q)) (moves_of (my_node_turns S own p t)))
  pub flights :
      (q : ℕ) → (out S own p q t).flights
      ≡ flat_map (λ i. flight_to S own q t i (mine (is_there S own p t i) (person_of i (driven S own p t (world_before S own p t)))))
      (below (length S.persons))
  pub freed_places :
      (q : ℕ) → (out S own p q t).freed
      ≡ filter is_some_freed (map (λ l. record { link = l; rows = freed l (moves_of (my_link_turns S own p t)) })
      (filter (leads S own q p) (links_of S)))

-- What stands on p's own links in its own world, and who is there, is what the day has there: before the nodes have their turns and before
-- the links have theirs. Queues alone may be short of rows that are not due.
pub record IsAsInTheDay (S : Setup) (own : Owner) (p t : ℕ) (W V : World) : Type 0 where
  pub late : ℕ → List Row
  pub not_due : (l : ℕ) → Each (λ (r : Row). t < r.second) (late l)
  pub queue : (l : ℕ) → owner_of S own l ≡ p → at l Queue W ≡ at l Queue V ++ late l
  pub buffer : (l : ℕ) → owner_of S own l ≡ p → at l Buffer V ≡ at l Buffer W
  pub wait : (l : ℕ) → owner_of S own l ≡ p → at l Wait V ≡ at l Wait W
  pub bay : (l : ℕ) → owner_of S own l ≡ p → at l Bay V ≡ at l Bay W
  pub person : (i : ℕ) → is_there S own p t i ≡ true → person_of i V ≡ person_of i W
  pub waits : (l : ℕ) → owner_of S own l ≡ p → waiters S l V ≡ waiters S l W

pub record StandsAsInTheDay (S : Setup) (own : Owner) (p t : ℕ) : Type 0 where
  pub before_nodes :
      IsAsInTheDay S own p t (through S t (phase.A ∷ phase.B1 ∷ phase.B2 ∷ []) (world_at S t)) (set_out S own p t (world_before S own p t))
  pub before_links :
      IsAsInTheDay S own p t (through S t (phase.A ∷ phase.B1 ∷ phase.B2 ∷ phase.C ∷ []) (world_at S t))
      (crossed S own p t (world_before S own p t))
  -- whoever is there and waits at a stop waits at one on a link of p
  pub stops :
      (i stop since : ℕ) → is_there S own p t i ≡ true
      → (person_of i (set_out S own p t (world_before S own p t))).place ≡ Waiting stop since → owner_of S own (link_of_stop S stop) ≡ p
