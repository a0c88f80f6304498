-- What absorbing the parcels of neighbours before a second makes of a part, list by list.
use Rattle.std.specs.Prelude.{◌≡◌, ℕ, ◌+◌, ◌-◌, ◌<◌, Bool, List, ◌++◌, length, map, get_or, Some}
use Rattle.traffic.specs.{Setup.Setup, Setup.hole_of, declared.world.Row.Row}
use Rattle.parts.specs.{Owners.Owner, Parts.held, Parts.out}
use Rattle.town.specs.{Views.setup, declared.day_input.DayInput.DayInput}
use Rattle.law_partitions.specs.Alone.{person_in}
use Rattle.law_parcels.specs.Hearing.{heard_rows, heard_holes, heard_persons}
use Rattle.law_parts_of_days.specs.Settling.{queued_in}
use Rattle.step_core.specs.declared.part.Border.{Border}
use Rattle.divided_day.specs.Slots.{link_in, slot_count}
use Rattle.queue_link.specs.Links.{LinkView}
use Rattle.node_move.specs.declared.crossings.Entering.{Entering}
use Rattle.node_seconds.specs.Networks.{lane, slot_in, accepted_all, wakes_after_all}
use Rattle.part_links.specs.Links.{AreAsleep}
use Rattle.part_places.specs.Taking.{Taking, AreTakenOf, begins_here}
use Rattle.part_seconds.specs.{Arriving.Come, Arriving.entered, Contents.parcel_of, Freed.heard_all, Freed.CanHearAll, Settling.places_known}
use Rattle.part_seconds.specs.{Settling.put_queues, declared.area.Area.Area, declared.contents.Contents.Contents}

-- a parcel is the one that partition q sends to p in second s
abbrev pub IsRight : Setup → Owner → ℕ → ℕ → ℕ → Contents → Type 0
IsRight S own q p s x = parcel_of S s x ≡ out S own q p s

-- the partitions at these borders
abbrev pub neighbours_at : List Border → List ℕ
neighbours_at rows = map (λ (b : Border). b.neighbour) rows

-- ONE PARCEL
-- the slots that a table gives the links of these vehicles
abbrev pub slot_of_entering : List ℕ → Entering → ℕ
slot_of_entering slots e = get_or slots e.link 0

abbrev pub entered_slots : List ℕ → List Entering → List ℕ
entered_slots slots es = map (slot_of_entering slots) es

-- the vehicles of a parcel of second s as they come to their links
abbrev pub entering_with : DayInput → ℕ → Contents → List Entering
entering_with day s x = map entered (parcel_of (setup day) s x).vehicles

-- What a parcel of second s makes of a part, in which a table tells the slots of links: its vehicles are in the queues of their links as of
-- that second, which are woken as they have to be and counted; its persons are there; and the places that it tells of were left in that
-- second.
pub record HasAbsorbedParcel (day : DayInput) (link_slots : List ℕ) (s : ℕ) (x : Contents) (old new : Area) : Type 0 where
  pub persons : Come day (λ i. person_in i s (Some (parcel_of (setup day) s x))) old.persons new.persons
  pub departures : new.departures ≡ old.departures
  pub lines : new.lines.items ≡ old.lines.items
  pub links :
      new.network.links.items
      ≡ accepted_all (slot_in link_slots old.network.links.items) s (entering_with day s x) old.network.links.items
  pub wakes :
      new.network.link_wakes
      ≡ wakes_after_all (slot_in link_slots old.network.links.items) day.town.now.settings.end_second s (entering_with day s x)
      old.network.links.items old.network.link_wakes
  pub places :
      (begins : ℕ → Bool) (u : ℕ) (T : Taking) → CanHearAll (setup day) begins u s x.freed T
      → AreTakenOf begins (length (setup day).links) day.town.now.settings.end_second u T old.network.places
      → AreTakenOf begins (length (setup day).links) day.town.now.settings.end_second u (heard_all (setup day) s x.freed T)
      new.network.places
  pub nodes : new.network.node_wakes ≡ old.network.node_wakes
  pub queues :
      new.queues.items ≡ put_queues new.network.links.items (entered_slots link_slots (entering_with day s x)) old.queues.items

-- ALL PARCELS
-- a link with these rows at the end of its queue
abbrev pub with_rows : List Row → LinkView → LinkView
with_rows rows v = record v { lists = record v.lists { queue = v.lists.queue ++ rows } }

-- places of links, once p heard before second t from these neighbours how many vehicles left the queues, and when
abbrev pub places_heard : Setup → Owner → ℕ → ℕ → List ℕ → Taking → Taking
places_heard S own p t ns T =
    record T {
      queued = λ m. T.queued m - length (heard_holes S own p t ns m);
      frees = λ m. T.frees m ++ map (λ (s : ℕ). s + hole_of S m) (heard_holes S own p t ns m);
    }

-- What the parcels of these neighbours, which p absorbs before second t one after the other, make of its part.
pub record HasAbsorbed (day : DayInput) (own : Owner) (p t : ℕ) (ns : List ℕ) (old new : Area) : Type 0 where
  -- each person has the last of the rows that came for him, and is looked at when it is his time
  pub persons : Come day (heard_persons (setup day) own p t ns) old.persons new.persons
  pub departures : new.departures ≡ old.departures
  pub lines : new.lines.items ≡ old.lines.items
  -- each link has the rows that came to it at the end of its queue, and is as it was else
  pub count : length new.network.links.items ≡ length old.network.links.items
  pub links :
      (k : ℕ) → k < slot_count (setup day) own p
      → lane new.network.links.items k
      ≡ with_rows (heard_rows (setup day) own p t ns (link_in (setup day) own p k)) (lane old.network.links.items k)
  -- links that rest from second t on rest on
  pub asleep :
      AreAsleep (setup day).settings.dwell day.town.now.settings.end_second t old.network.links.items old.network.link_wakes
      → AreAsleep (setup day).settings.dwell day.town.now.settings.end_second t new.network.links.items new.network.link_wakes
  -- of each link that begins here as many rows fewer are known, and the places are free when the holes are over
  pub places :
      AreTakenOf (begins_here (setup day) own p) (length (setup day).links) day.town.now.settings.end_second t
      (places_known (setup day) (held (setup day) own p t)) old.network.places
      → AreTakenOf (begins_here (setup day) own p) (length (setup day).links) day.town.now.settings.end_second t
      (places_heard (setup day) own p t ns (places_known (setup day) (held (setup day) own p t))) new.network.places
  pub nodes : new.network.node_wakes ≡ old.network.node_wakes
  -- the table of queues has each as it is, where it had it so
  pub slots : length new.queues.items ≡ length old.queues.items
  pub queues :
      (k : ℕ) → k < slot_count (setup day) own p → get_or old.queues.items k 0 ≡ queued_in old.network.links.items k
      → get_or new.queues.items k 0 ≡ queued_in new.network.links.items k
