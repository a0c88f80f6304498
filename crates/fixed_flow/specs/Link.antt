-- The whole numbers of a link: centimetres, seconds, vehicles and units of credit.
use Rattle.std.specs.Prelude.{ℕ, ◌+◌, ◌-◌, ◌*◌, ◌/◌, max}
use Rattle.fixed_flow.specs.declared.TheConstants.{VEHICLE_COST, CELL_PERMILLE}

-- a quotient, rounded up
abbrev pub ceiling : ℕ → ℕ → ℕ
ceiling a b = (a + (b - 1)) / b

-- the whole seconds that a link of this length (cm) takes at this speed (cm/s), at least one
unfoldable pub free_seconds : ℕ → ℕ → ℕ
free_seconds length speed = max 1 (length / speed)

-- the units of credit that a second gives: the capacity (vehicles an hour) times the flow factor (permille)
unfoldable pub credit_per_second : ℕ → ℕ → ℕ
credit_per_second capacity flow_permille = capacity * flow_permille

-- how many vehicles a link's queue holds: a vehicle to each cell of its lanes (cm), but never fewer than
-- the flow fills in the free seconds, and never none
unfoldable pub storage : ℕ → ℕ → ℕ → ℕ → ℕ → ℕ
storage length lanes storage_permille seconds per_second =
    max 1 (max (length * lanes * storage_permille / CELL_PERMILLE) (ceiling (seconds * per_second) VEHICLE_COST))

-- how many vehicles a link's buffer holds: what a second's credit pays for, rounded up, and never none
unfoldable pub buffer_room : ℕ → ℕ
buffer_room per_second = max 1 (ceiling per_second VEHICLE_COST)
