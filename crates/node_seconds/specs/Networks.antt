-- Links of a network, and what the turn of a node makes of them. Links stand in slots: those of the whole network, each in the slot of its
-- own number, or those that one of several parts has.
use Rattle.std.specs.Prelude.{◌≡◌, ℕ, ◌+◌, Bool, true, false, ◌||◌, List, [], ◌∷◌, ◌++◌, length, get_or, set, ◌==◌, nat_lt, if◌then◌else◌, Option, None, Some}
use Rattle.traffic.specs.declared.stage.Stage.TheVariants.{Queue}
use Rattle.calendar.specs.Waking.{woken_by}
use Rattle.queue_link.specs.Links.{LinkView, row_on}
use Rattle.node_move.specs.{NodeStates.no_link, declared.crossings.Entering.Entering}

-- the link in a slot
abbrev pub lane : List LinkView → ℕ → LinkView
lane links l = get_or links l no_link

-- NUMBERS
-- whether a number is one of these
abbrev pub is_among : ℕ → List ℕ → Bool
is_among l [] = false
is_among l (n ∷ ns) = (n == l) || is_among l ns

-- each of them stands once
abbrev pub AreOnce : List ℕ → Type 0
AreOnce [] = Unit {0}
AreOnce (n ∷ ns) = (is_among n ns ≡ false) × AreOnce ns

-- LINKS
-- this slot, where link m stands in it
abbrev pub if_there : List LinkView → ℕ → ℕ → Option ℕ
if_there links m k = if nat_lt k (length links) then (if (lane links k).numbers.link == m then Some k else None) else None

-- The slot of link m: the one that a table gives it, where the link stands in it.
unfoldable pub slot_in : List ℕ → List LinkView → ℕ → Option ℕ
slot_in slots links m = if nat_lt m (length slots) then if_there links m (get_or slots m 0) else None

-- the links once these are put into these slots, in order
unfoldable pub put_back : List ℕ → List LinkView → List LinkView → List LinkView
put_back [] vs links = links
put_back (k ∷ ks) [] links = links
put_back (k ∷ ks) (v ∷ vs) links = put_back ks vs (set links k v)

-- a link with one more vehicle in its queue, which came in second t
abbrev pub with_queued : ℕ → Entering → LinkView → LinkView
with_queued t e v =
    record v { lists = record v.lists { queue = v.lists.queue ++ row_on v.numbers.link Queue (t + v.numbers.seconds) e.vehicle ∷ [] } }

-- the links once a vehicle came to the one in this slot, if it has one
abbrev pub put_queued : ℕ → Entering → Option ℕ → List LinkView → List LinkView
put_queued t e None links = links
put_queued t e (Some k) links = set links k (with_queued t e (lane links k))

-- when links are woken once link l is in this second at the latest, if that is one of the day
abbrev pub wakes_within : ℕ → ℕ → ℕ → List (Option ℕ) → List (Option ℕ)
wakes_within end l u wakes = if nat_lt u end then woken_by u l wakes else wakes

-- when links are woken then: the link in this slot, if its queue was empty, is in the second of the vehicle, if that is one of the day
abbrev pub wake_queued : ℕ → ℕ → Option ℕ → List LinkView → List (Option ℕ) → List (Option ℕ)
wake_queued end t None links wakes = wakes
wake_queued end t (Some k) links wakes =
    if length (lane links k).lists.queue == 0 then wakes_within end k (t + (lane links k).numbers.seconds) wakes else wakes

-- VEHICLES
-- Vehicles enter links, which stand in slots by this rule, or in none: then they are links of other parts.
-- the links once a vehicle came to its link
abbrev pub accepted : (ℕ → Option ℕ) → ℕ → Entering → List LinkView → List LinkView
accepted place t e links = put_queued t e (place e.link) links

abbrev pub wakes_after : (ℕ → Option ℕ) → ℕ → ℕ → Entering → List LinkView → List (Option ℕ) → List (Option ℕ)
wakes_after place end t e links wakes = wake_queued end t (place e.link) links wakes

-- the same for all who come, in order
unfoldable pub accepted_all : (ℕ → Option ℕ) → ℕ → List Entering → List LinkView → List LinkView
accepted_all place t [] links = links
accepted_all place t (e ∷ es) links = accepted_all place t es (accepted place t e links)

unfoldable pub wakes_after_all : (ℕ → Option ℕ) → ℕ → ℕ → List Entering → List LinkView → List (Option ℕ) → List (Option ℕ)
wakes_after_all place end t [] links wakes = wakes
wakes_after_all place end t (e ∷ es) links wakes =
    wakes_after_all place end t es (accepted place t e links) (wakes_after place end t e links wakes)

-- whether a vehicle enters a link of another part
abbrev pub is_nowhere : Option ℕ → Bool
is_nowhere None = true
is_nowhere (Some k) = false

abbrev pub goes_out : (ℕ → Option ℕ) → Entering → Bool
goes_out place e = is_nowhere (place e.link)
