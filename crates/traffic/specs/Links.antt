-- Phase D at one link, by its four lists, its credit, and those who wait at its stops.
use Rattle.std.specs.Prelude.{ℕ, ◌+◌, ◌-◌, Bool, true, ◌&&◌, List, [], ◌∷◌, ◌++◌, length, map, filter, ◌==◌, nat_lt, nat_le, if◌then◌else◌}
use Rattle.fixed_flow.specs.{Flow.raised, declared.TheConstants.VEHICLE_COST}
use Rattle.traffic.specs.declared.stage.Stage.TheVariants.{Queue, Buffer, Wait, Bay}
pub use Rattle.traffic.specs.declared.numbers.Rules.{Rules}
use Rattle.traffic.specs.{Moves.Move, Moves.Transfer, Moves.Remove, Moves.Credit, Moves.LeaveHole, Rows.VehicleState, Rows.Row, Rows.World, Rows.at}
use Rattle.traffic.specs.{Rows.credit_of, Setup.Setup, Setup.gain_of, Setup.room_of, Stops.Waiter, Stops.calls_on, Stops.left_behind, Stops.served_row}

-- what a link's turn sees of the world besides those who wait
pub record LinkState : Type 0 where
  pub queue : List Row
  pub buffer : List Row
  pub wait : List Row
  pub bay : List Row
  pub credit : ℕ

abbrev pub link_state : ℕ → World → LinkState
link_state l W = record { queue = at l Queue W; buffer = at l Buffer W; wait = at l Wait W; bay = at l Bay W; credit = credit_of l W }

-- the numbers of a link that its turn needs
abbrev pub rules : Setup → ℕ → Rules
rules S l = record { room = room_of S l; gain = gain_of S l; dwell = S.settings.dwell }

-- a row at the end of the wait list
abbrev pub waiting : ℕ → Row → Row
waiting l r = record r { link = l; stage = Wait; second = 0 }

-- step 1, from place k of the bay on: those whose second has come go to the end of the wait list
unfoldable pub leave_bay : ℕ → ℕ → ℕ → List Row → List Move
leave_bay t l k [] = []
leave_bay t l k (r ∷ rs) = if nat_le r.second t then Transfer l Bay k r (waiting l r) ∷ leave_bay t l k rs else leave_bay t l (k + 1) rs

-- whether a vehicle is at the last place of its route
abbrev pub is_last : VehicleState → Bool
is_last v = v.place + 1 == length v.route

-- a row at the end of a buffer of b rows: it has entered traffic, and is the front where the buffer was empty
abbrev pub buffered : ℕ → ℕ → ℕ → Row → Row
buffered t l b r =
    let v = r.vehicle in
    record { vehicle = record v { started = true }; link = l; stage = Buffer; second = if b == 0 then t else 0 }

-- whether a buffer of b rows has room and the credit pays for a vehicle
abbrev pub may_pass : Rules → ℕ → ℕ → Bool
may_pass K b credit = nat_lt b K.room && nat_le VEHICLE_COST credit

-- step 4, while b rows are in the buffer and these persons wait: the front of the wait list is served at a stop on this link,
-- or arrives at the end of its route, or pays and goes into the buffer; or the step ends
unfoldable pub from_wait : Rules → ℕ → ℕ → List Waiter → ℕ → ℕ → List Row → List Move
from_wait K t l ws b credit [] = []
from_wait K t l ws b credit (r ∷ rs) =
    if calls_on l r.vehicle
    then Transfer l Wait 0 r (served_row K.dwell t l ws r.vehicle) ∷ from_wait K t l (left_behind r.vehicle ws) b credit rs
    else if is_last r.vehicle
    then Remove l Wait 0 r ∷ from_wait K t l ws b credit rs
    else if may_pass K b credit
    then Transfer l Wait 0 r (buffered t l b r) ∷ Credit l (credit - VEHICLE_COST) ∷ from_wait K t l ws (b + 1) (credit - VEHICLE_COST) rs
    else []

-- step 3, the same for the front of the queue while its second has come, where each row that leaves frees its place; and then step 4
unfoldable pub from_queue : Rules → ℕ → ℕ → List Waiter → ℕ → ℕ → List Row → List Row → List Move
from_queue K t l ws b credit [] wait = from_wait K t l ws b credit wait
from_queue K t l ws b credit (r ∷ rs) wait =
    if nat_lt t r.second
    then from_wait K t l ws b credit wait
    else if calls_on l r.vehicle
    then Transfer l Queue 0 r (served_row K.dwell t l ws r.vehicle) ∷ LeaveHole l t ∷ from_queue K t l (left_behind r.vehicle ws) b credit rs wait
    else if is_last r.vehicle
    then Remove l Queue 0 r ∷ LeaveHole l t ∷ from_queue K t l ws b credit rs wait
    else if may_pass K b credit
    then Transfer l Queue 0 r (buffered t l b r) ∷ LeaveHole l t ∷ Credit l (credit - VEHICLE_COST) ∷ from_queue K t l ws (b + 1) (credit - VEHICLE_COST) rs wait
    else from_wait K t l ws b credit wait

-- the wait list after step 1
abbrev pub wait_after : ℕ → ℕ → LinkState → List Row
wait_after t l L = L.wait ++ map (waiting l) (filter (λ (r : Row). nat_le r.second t) L.bay)

-- phase D at link l in second t: step 1, step 2 raises the credit, steps 3 and 4
unfoldable pub link_moves : Rules → ℕ → ℕ → List Waiter → LinkState → List Move
link_moves K t l ws L =
    let credit = raised K.gain L.credit in
    leave_bay t l 0 L.bay ++ Credit l credit ∷ from_queue K t l ws (length L.buffer) credit L.queue (wait_after t l L)
