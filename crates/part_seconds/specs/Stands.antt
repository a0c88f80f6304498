-- That what a part has stands for what its partition holds, and for a world with the same.
use Rattle.std.specs.Prelude.{◌≡◌, ℕ, ◌<◌, ◌≤◌, false, length, get_or, ◌==◌, None}
use Rattle.calendar.specs.{Due.Due, Due.due_at, Waking.wake_of}
use Rattle.town.specs.{Views.setup, declared.day_input.DayInput.DayInput}
use Rattle.traffic.specs.{Rows.World, Rows.at, Setup.Setup, declared.stage.Stage.TheVariants.Queue}
use Rattle.parts.specs.{Owners.Owner, Parts.Held}
use Rattle.link_seconds.specs.Seconds.{AreShort}
use Rattle.part_links.specs.Links.{LinksStandAt, LinesStandAt, AreAsleep}
use Rattle.part_nodes.specs.{Phase.AreAwaitedAt, declared.network.NetworkState.NetworkState}
use Rattle.part_persons.specs.Own.{own_departs_in}
use Rattle.part_places.specs.Taking.{AreTakenOf, begins_here}
use Rattle.law_parts_of_days.specs.Persons.{PersonsStand}
use Rattle.part_seconds.specs.{Settling.places_known, declared.area.Area.Area}
use Rattle.divided_day.specs.Slots.{link_in, slot_count}

-- the departures of p of each second from second u on, before the end
abbrev pub AreOwnDepartures : Setup → Owner → ℕ → ℕ → ℕ → Due → Type 0
AreOwnDepartures S own p end u departures =
    (s : ℕ) → u ≤ s → s < end → due_at s departures ≡ own_departs_in S own p s

-- Of partition p: the links in its slots are those of world V before the turns of links in second l, and sleep from then on. The places of
-- the links that begin in p are taken as p knows by what it holds, where those that were left and come free in second n or later are taken
-- still; and of each link into an own node that is not woken in second n nobody is in the buffer, or the front waits for one of these
-- places. No other node is ever woken.
pub record NetworkStands (day : DayInput) (own : Owner) (p n l : ℕ) (N : NetworkState) (H : Held) (V : World) : Type 0 where
  pub links : LinksStandAt (link_in (setup day) own p) (slot_count (setup day) own p) (setup day) l N.links.items V
  pub asleep : AreAsleep (setup day).settings.dwell day.town.now.settings.end_second l N.links.items N.link_wakes
  pub places :
      AreTakenOf (begins_here (setup day) own p) (length (setup day).links) day.town.now.settings.end_second n (places_known (setup day) H)
      N.places
  pub nodes : length N.node_wakes ≡ (setup day).nodes
  pub awaited : AreAwaitedAt (λ k. own k == p) (setup day) day.town.now.settings.end_second n n N.node_wakes V
  pub only : (k : ℕ) → (own k == p) ≡ false → wake_of N.node_wakes k ≡ None

-- The part of p stands for what p holds and for world V, which has the same, and everything sleeps from a second on: persons and departures
-- from second u, nodes from n and links from l. All that is said of sleep is said from that second on, so it says something of second 0 as
-- well.
pub record AreaStands (day : DayInput) (own : Owner) (p u n l : ℕ) (A : Area) (H : Held) (V : World) : Type 0 where
  pub persons : PersonsStand day u A.persons V
  pub departures : AreOwnDepartures (setup day) own p day.town.now.settings.end_second u A.departures
  pub stops : length A.lines.items ≡ length (setup day).stops
  pub lines : LinesStandAt (link_in (setup day) own p) (slot_count (setup day) own p) (setup day) A.lines.items V
  pub short : AreShort A.lines.items
  pub network : NetworkStands day own p n l A.network H V
  -- how many vehicles are in the queue of each own link that begins elsewhere
  pub slots : length A.queues.items ≡ slot_count (setup day) own p
  pub queues :
      (k : ℕ) → k < slot_count (setup day) own p → begins_here (setup day) own p (link_in (setup day) own p k) ≡ false
      → get_or A.queues.items k 0 ≡ length (at (link_in (setup day) own p k) Queue V)
