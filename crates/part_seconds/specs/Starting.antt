-- What vehicles that start make of links, and when these are woken.
use Rattle.std.specs.Prelude.{ℕ, List, [], ◌∷◌, ◌++◌, length, set, nat_lt, if◌then◌else◌, Option}
use Rattle.traffic.specs.{Vehicles.VehicleState, declared.stage.Stage.TheVariants.Wait, declared.world.Row.Row}
use Rattle.calendar.specs.Waking.{woken_by}
use Rattle.queue_link.specs.Links.{LinkView, row_on}
use Rattle.node_seconds.specs.Networks.{lane}

-- a link with one more vehicle at the end of its wait list
abbrev pub with_waiting : VehicleState → LinkView → LinkView
with_waiting c v = record v { lists = record v.lists { wait = v.lists.wait ++ row_on v.numbers.link Wait 0 c ∷ [] } }

-- the links once the vehicle of a row came to its link
abbrev pub started : Row → List LinkView → List LinkView
started r links = if nat_lt r.link (length links) then set links r.link (with_waiting r.vehicle (lane links r.link)) else links

-- so with each of these, in order
unfoldable pub all_started : List Row → List LinkView → List LinkView
all_started [] links = links
all_started (r ∷ rs) links = all_started rs (started r links)

-- when links are woken then: that of the row in second t at the latest
abbrev pub woken_for : ℕ → Row → List (Option ℕ) → List (Option ℕ)
woken_for t r wakes = if nat_lt r.link (length wakes) then woken_by t r.link wakes else wakes

unfoldable pub woken_for_all : ℕ → List Row → List (Option ℕ) → List (Option ℕ)
woken_for_all t [] wakes = wakes
woken_for_all t (r ∷ rs) wakes = woken_for_all t rs (woken_for t r wakes)
