-- What leaves a partition in a second, by its own world once all its turns of the second are over.
use Rattle.std.specs.Prelude.{◌≡◌, ℕ, suc, Bool, false, not, ◌&&◌, ◌||◌, List, length, map, filter, ◌==◌, if◌then◌else◌, Some}
use Rattle.std.specs.List.{flat_map}
use Rattle.traffic.specs.{Day.moves_of, Lists.below, Rows.person_of, Rows.nobody, Setup.Setup, Setup.act_after}
use Rattle.traffic.specs.declared.world.{Place.Place, Row.Row}
use Rattle.traffic.specs.declared.world.Place.TheVariants as place
use Rattle.parts.specs.Owners.{Owner, owner_of, begins_in, links_of}
use Rattle.parts.specs.Parts.{Freed, is_some_freed, freed, passed, rides_in, held, out}
use Rattle.law_partitions.specs.Alone.{sent_out, flight_to}
use Rattle.law_own_worlds.specs.{Days.world_before, Days.my_node_turns, Days.my_link_turns, Making.or_nobody, OwnWorlds.set_out}
use Rattle.law_own_seconds.specs.Seconds.{world_driven}

-- the rows that p's nodes put into queues of other partitions, in order; and whether a row is on a link of partition q
abbrev pub sent_rows : Setup → Owner → ℕ → ℕ → List Row
sent_rows S own p t = sent_out S own p (moves_of (my_node_turns S own p t))

abbrev pub goes_to : Setup → Owner → ℕ → Row → Bool
goes_to S own q r = owner_of S own r.link == q

-- whether a person at this place set out in second t on a flight to another partition
abbrev pub flies_out : Setup → Owner → ℕ → ℕ → ℕ → ℕ → Place → Bool
flies_out S own p t i element (place.Teleporting start) = (start == t) && not (owner_of S own (act_after S i element).link == p)
flies_out S own p t i element _ = false

-- whether person i is gone then: he rides in one of these rows, or set out on such a flight
abbrev pub is_gone : Setup → Owner → ℕ → ℕ → ℕ → Bool
is_gone S own p t i =
    let P = person_of i (world_driven S own p t) in
    rides_in i (sent_rows S own p t) || flies_out S own p t i P.element P.place

-- of its links that begin in other partitions those whose queues rows left, by number
abbrev pub freed_over : Setup → Owner → ℕ → ℕ → List Freed
freed_over S own p t =
    filter is_some_freed (map (λ l. record { link = l; rows = freed l (moves_of (my_link_turns S own p t)) })
    (filter (λ l. (owner_of S own l == p) && not (begins_in S own l == p)) (links_of S)))

-- What partition p sends in second t, and whom it has then, by that world.
pub record SendsParcels (S : Setup) (own : Owner) (p t : ℕ) : Type 0 where
  -- the vehicles whose links are those of the partition, with the elements that their riders have
  pub vehicles :
      (q : ℕ) → (q == p) ≡ false
      → (out S own p q t).vehicles ≡ map (passed (world_driven S own p t)) (filter (goes_to S own q) (sent_rows S own p t))
  -- the flights of those who set out, all of whom are among those whom the phases before the nodes' did not leave as they were
  pub flights :
      (q : ℕ) (acts : ℕ → Bool)
      → ((i : ℕ) → acts i ≡ false → person_of i (set_out S own p t (world_before S own p t)) ≡ person_of i (world_before S own p t))
      → (out S own p q t).flights
      ≡ flat_map (λ i. flight_to S own q t i (Some (person_of i (world_driven S own p t)))) (filter acts (below (length S.persons)))
  -- those of these links that begin there
  pub freed_places :
      (q : ℕ) → (q == p) ≡ false
      → (out S own p q t).freed ≡ filter (λ (f : Freed). begins_in S own f.link == q) (freed_over S own p t)
  -- who is not gone it has, and nobody stands for all others
  pub persons :
      (i : ℕ) → or_nobody ((held S own p (suc t)).person i)
      ≡ (if is_gone S own p t i then nobody else person_of i (world_driven S own p t))
