-- When the end of a link is reached, by the second in which the link is entered.
use Rattle.std.specs.Prelude.{ℕ, ◌<◌, ◌≤◌}

-- the second of arrival at the end of a link, by the number of the link and the second of entry
abbrev pub Arrivals : Type 0
Arrivals = ℕ → ℕ → ℕ

-- first in, first out: a link takes a second at least, and who enters it later is at its end no earlier
pub record IsFifo (arrive : ℕ → ℕ → ℕ) : Type 0 where
  pub later : (link second : ℕ) → second < arrive link second
  pub in_order : (link earlier second : ℕ) → earlier ≤ second → arrive link earlier ≤ arrive link second
