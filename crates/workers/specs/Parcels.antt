-- What goes from partition to partition over a board: a parcel, or none, which stands for the parcel with nothing in it.
use Rattle.std.specs.Prelude.{ℕ, Option, unwrap_or}

-- of a run, a sender, a receiver and a second: what goes over the board stands for a parcel that is right
abbrev pub right_or_none : {R P : Type 0} → P → (R → ℕ → ℕ → ℕ → P → Type 0) → R → ℕ → ℕ → ℕ → Option P → Type 0
right_or_none nothing right run sender receiver second x = right run sender receiver second (unwrap_or x nothing)
