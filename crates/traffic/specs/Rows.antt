-- The world of a day: vehicles, persons, credits and holes, as lists of rows.
use Rattle.std.specs.Prelude.{ℕ, Bool, ◌&&◌, List, filter, map, get_or, ◌==◌}
use Rattle.traffic.specs.declared.stage.Stage.{Stage, TheVariants.Queue, TheVariants.Buffer, TheVariants.Wait, TheVariants.Bay}
pub use Rattle.traffic.specs.Vehicles.{VehicleState}
pub use Rattle.traffic.specs.declared.world.Row.{Row}
pub use Rattle.traffic.specs.declared.world.Hole.{Hole}
pub use Rattle.traffic.specs.declared.world.Place.{Place}
pub use Rattle.traffic.specs.declared.world.Place.TheVariants.{At, Teleporting, Waiting, Riding, Aborted}
pub use Rattle.traffic.specs.declared.world.Person.{Person}

-- the number of a stage
abbrev pub rank : Stage → ℕ
rank Queue = 0
rank Buffer = 1
rank Wait = 2
rank Bay = 3

pub record World : Type 0 where
  -- in the order of their last move
  pub rows : List Row
  -- one for each person
  pub persons : List Person
  -- one for each link
  pub credits : List ℕ
  -- in the order in which they were left
  pub holes : List Hole

-- whether a row stands on this link at this stage
abbrev pub on : ℕ → Stage → Row → Bool
on l s r = (rank r.stage == rank s) && (r.link == l)

-- the queue, the buffer, the wait list or the bay of a link
abbrev pub at : ℕ → Stage → World → List Row
at l s W = filter (on l s) W.rows

-- the seconds in which places in the queue of a link were left
abbrev pub holes_at : ℕ → World → List ℕ
holes_at l W = map (λ (x : Hole). x.second) (filter (λ (x : Hole). x.link == l) W.holes)

-- the credit of a link
abbrev pub credit_of : ℕ → World → ℕ
credit_of l W = get_or W.credits l 0

-- the row that stands for a person who is not there
abbrev pub nobody : Person
nobody = record { element = 0; place = Aborted 0 }

-- the row of a person
abbrev pub person_of : ℕ → World → Person
person_of i W = get_or W.persons i nobody
