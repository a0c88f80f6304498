-- What contracts see of a link.
use Rattle.std.specs.Prelude.{ℕ, zero, suc, List, [], ◌∷◌, ◌++◌, drop, Option, None, Some}
use Rattle.fixed_flow.specs.declared.TheConstants.{VEHICLE_COST}
use Rattle.traffic.specs.{Links.LinkState, Lists.on_front, Moves.at_second, Vehicles.VehicleState, declared.stage.Stage.Stage, declared.world.Row.Row}
use Rattle.queue_link.specs.declared.numbers.LinkNumbers.{LinkNumbers}

-- its numbers, its four lists and its credit, and for how many seconds of the day the credit was raised
pub record LinkView : Type 0 where
  pub numbers : LinkNumbers
  pub lists : LinkState
  pub raised : ℕ

-- a link at the start of a day: no vehicle, and credit for one
abbrev pub fresh : LinkNumbers → LinkView
fresh n = record { numbers = n; lists = record { queue = []; buffer = []; wait = []; bay = []; credit = VEHICLE_COST }; raised = 0 }

-- a vehicle on a link at a stage, with the second that the stage gives a meaning to
abbrev pub row_on : ℕ → Stage → ℕ → VehicleState → Row
row_on l s second v = record { vehicle = v; link = l; stage = s; second = second }

-- the rows of a buffer once its front is gone in second t
abbrev pub behind_front : ℕ → List Row → List Row
behind_front t rows = on_front (at_second t) (drop 1 rows)

-- all rows of a link, list by list
abbrev pub all_rows : LinkState → List Row
all_rows L = L.queue ++ (L.buffer ++ (L.wait ++ L.bay))

-- the front of these rows, its vehicle and its second, where there is one
abbrev pub first_row : List Row → Option Row
first_row [] = None
first_row (r ∷ rs) = Some r

abbrev pub front_vehicle : List Row → Option VehicleState
front_vehicle [] = None
front_vehicle (r ∷ rs) = Some r.vehicle

abbrev pub front_second : List Row → Option ℕ
front_second [] = None
front_second (r ∷ rs) = Some r.second

-- the vehicle at a place of these rows
abbrev pub vehicle_at : ℕ → List Row → Option VehicleState
vehicle_at place [] = None
vehicle_at zero (r ∷ rs) = Some r.vehicle
vehicle_at (suc place) (r ∷ rs) = vehicle_at place rs
