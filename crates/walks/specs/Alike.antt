-- Links that take as long whenever they are entered, and the labels of a search that begins later.
use Rattle.std.specs.{Option.option_map, Prelude.◌≡◌, Prelude.ℕ, Prelude.◌+◌, Prelude.map}
use Rattle.walks.specs.{Arrivals.Arrivals, Rounds.Labels}

-- who enters a link later by some seconds is at its end later by as many
abbrev pub TakesAlike : Arrivals → Type 0
TakesAlike arrive = (link second later : ℕ) → arrive link (later + second) ≡ later + arrive link second

-- the labels, each later by so many seconds
abbrev pub delayed : ℕ → Labels → Labels
delayed later labels = map (option_map (λ at. later + at)) labels
