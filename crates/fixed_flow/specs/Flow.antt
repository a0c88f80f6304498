-- The credit of a link, in units, and the law of its flow.
use Rattle.std.specs.Prelude.{ℕ, zero, suc, ◌+◌, ◌-◌, ◌*◌, ◌≤◌, min, max, List, [], ◌∷◌, ◌++◌, length, sum}
use Rattle.fixed_flow.specs.declared.TheConstants.{VEHICLE_COST}

-- the most credit that a link keeps: that of one second, but enough for a vehicle
abbrev pub full_credit : ℕ → ℕ
full_credit per_second = max per_second VEHICLE_COST

-- the credit after the gain of one second
unfoldable pub raised : ℕ → ℕ → ℕ
raised per_second credit = min (credit + per_second) (full_credit per_second)

-- the credit after the gains of so many seconds, one after the other
unfoldable pub raised_times : ℕ → ℕ → ℕ → ℕ
raised_times per_second zero credit = credit
raised_times per_second (suc times) credit = raised per_second (raised_times per_second times credit)

-- the credit after one second with so many vehicles: its gain, less what they pay
abbrev pub spent : ℕ → ℕ → ℕ → ℕ
spent per_second vehicles credit = raised per_second credit - vehicles * VEHICLE_COST

-- the credit and its gains pay for all vehicles of some seconds in a row, of which the list says how many pass in each
unfoldable pub PaysFor : ℕ → ℕ → List ℕ → Type 0
PaysFor per_second credit [] = Unit {0}
PaysFor per_second credit (vehicles ∷ later) =
    (vehicles * VEHICLE_COST ≤ raised per_second credit) × PaysFor per_second (spent per_second vehicles credit) later

-- the law of flow: in any run of so many seconds, whatever passed before it, at most so many vehicles are paid for
abbrev pub Flow : ℕ → ℕ → ℕ → Type 0
Flow per_second seconds most =
    (credit : ℕ) (before passed : List ℕ) → credit ≤ full_credit per_second
    → PaysFor per_second credit (before ++ passed) → length passed ≤ seconds → sum passed ≤ most
