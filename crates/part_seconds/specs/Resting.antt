-- A second in which nobody of a part has anything to do.
use Rattle.std.specs.Prelude.{◌≡◌, ℕ, []}
use Rattle.calendar.specs.{Due.due_at, Waking.woken}
use Rattle.part_seconds.specs.declared.area.Area.{Area}

-- in second t nobody of a part is woken, none of its departures starts, and no place on its links comes free
pub record IsAtRest (t : ℕ) (A : Area) : Type 0 where
  pub persons : woken t A.persons.wakes ≡ []
  pub departures : due_at t A.departures ≡ []
  pub places : due_at t A.network.places.freed ≡ []
  pub nodes : woken t A.network.node_wakes ≡ []
  pub links : woken t A.network.link_wakes ≡ []
