-- How the persons of a part stand for those of a world.
use Rattle.std.specs.Prelude.{◌≡◌, ℕ, [], length}
use Rattle.law_in_range.specs.{Rows.IsFitWorld, Setups.counts_in}
use Rattle.town.specs.declared.day_input.DayInput.{DayInput}
use Rattle.traffic.specs.Rows.{World}
use Rattle.part_persons.specs.{Dues.AreFollowedIn, declared.persons.Persons.Persons}

-- The rows are those of world V and fit, no vehicle waits to be put on its link, and each person who has something to do by himself from
-- second u on is looked at then.
pub record PersonsStand (day : DayInput) (u : ℕ) (P : Persons) (V : World) : Type 0 where
  pub persons : P.world.persons ≡ V.persons
  pub rows : P.world.rows ≡ []
  pub fit : IsFitWorld (counts_in day) P.world
  pub followed : AreFollowedIn day u P.world.persons P.wakes
  pub looks : length P.wakes ≡ length P.world.persons
