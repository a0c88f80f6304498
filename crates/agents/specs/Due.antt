-- Which persons are due in which second.
use Rattle.std.specs.Prelude.{◌≡◌, ℕ, Option, None, Some}
use Rattle.calendar.specs.Due.{Due, HasOneMore}

-- what contracts see of the persons: whose activity ends and whose teleported leg ends in each second
pub record AgentsView : Type 0 where
  pub ends : Due
  pub flights : Due

-- in this second, where there is any, one person more is due
abbrev pub HasOneMoreWhere : Option ℕ → ℕ → Due → Due → Type 0
HasOneMoreWhere None i old new = new ≡ old
HasOneMoreWhere (Some t) i old new = HasOneMore t i old new
