-- What holds of each move of a link's turn by the rows of its lists and by those who wait, whatever the world.
use Rattle.traffic.proofs.Common.{ℕ, List, length, [], ◌∷◌, true, ◌+◌, Bool, false, ◌-◌, map, filter, nat_lt, nat_le, VEHICLE_COST, Rules, waiting, buffered}
use Rattle.traffic.proofs.Common.{LinkState, is_last, may_pass, link_moves, leave_bay, from_queue, from_wait, wait_after, Credit, Move, Transfer, Remove}
use Rattle.traffic.proofs.Common.{LeaveHole, Row, Waiter, served_row, calls_on, left_behind}
use Rattle.traffic.{proofs.Each.each_append, proofs.Each.each_if, proofs.Each.each_kept, proofs.Each.each_map, specs.Rows.VehicleState}
use Rattle.traffic.specs.declared.stage.Stage.{Stage, TheVariants.Queue, TheVariants.Wait, TheVariants.Bay}
use Rattle.std.specs.List.{AllByRecursion as Each}

-- the queue of a link, or its wait list
abbrev pub serving_stage : Bool → Stage
serving_stage true = Wait
serving_stage false = Queue

-- What is said of each move of the front of one of these, whose vehicle is such: it is served at a stop, where such persons wait, of whom
-- those who are left behind are such; it arrives at the end of its route; or it passes into the buffer and pays.
pub record FrontMoves (K : Rules) (t l : ℕ) (R : VehicleState → Type 0) (V : List Waiter → Type 0) (P : Move → Type 0) (s : Bool) : Type 0 where
  pub serve : (ws : List Waiter) (r : Row) → R r.vehicle → V ws → P (Transfer l (serving_stage s) 0 r (served_row K.dwell t l ws r.vehicle))
  pub left : (v : VehicleState) (ws : List Waiter) → V ws → V (left_behind v ws)
  pub arrive : (r : Row) → R r.vehicle → P (Remove l (serving_stage s) 0 r)
  pub pass : (b : ℕ) (r : Row) → R r.vehicle → P (Transfer l (serving_stage s) 0 r (buffered t l b r))
  pub pay : (credit : ℕ) → P (Credit l credit)

-- all rows have such vehicles
abbrev pub Have : (VehicleState → Type 0) → List Row → Type 0
Have R xs = Each (λ (r : Row). R r.vehicle) xs

pub bay_each : (R : VehicleState → Type 0) (P : Move → Type 0) (t l : ℕ) → ((k : ℕ) (r : Row) → R r.vehicle → P (Transfer l Bay k r (waiting l r))) → (k : ℕ) (xs : List Row) → Have R xs → Each P (leave_bay t l k xs)
unfolding leave_bay
bay_each R P t l due k [] h = tt
bay_each R P t l due k (r ∷ rs) h = each_if P (nat_le r.second t) _ _ (due k r h.0, bay_each R P t l due k rs h.1) (bay_each R P t l due (k + 1) rs h.1)

pub wait_each : (K : Rules) (t l : ℕ) (R : VehicleState → Type 0) (V : List Waiter → Type 0) (P : Move → Type 0) → FrontMoves K t l R V P true → (ws : List Waiter) (b c : ℕ) (xs : List Row) → V ws → Have R xs → Each P (from_wait K t l ws b c xs)
unfolding from_wait
wait_each K t l R V P f ws b c [] w h = tt
wait_each K t l R V P f ws b c (r ∷ rs) w h =
    each_if P (calls_on l r.vehicle) _ _ (f.serve ws r h.0 w, wait_each K t l R V P f (left_behind r.vehicle ws) b c rs (f.left r.vehicle ws w) h.1)
    (each_if P (is_last r.vehicle) _ _ (f.arrive r h.0, wait_each K t l R V P f ws b c rs w h.1)
    (each_if P (may_pass K b c) _ _ (f.pass b r h.0, (f.pay (c - VEHICLE_COST), wait_each K t l R V P f ws (b + 1) (c - VEHICLE_COST) rs w h.1)) tt))

queue_each : (K : Rules) (t l : ℕ) (R : VehicleState → Type 0) (V : List Waiter → Type 0) (P : Move → Type 0) → ((s : Bool) → FrontMoves K t l R V P s) → P (LeaveHole l t) → (ws : List Waiter) (b c : ℕ) (xs ys : List Row) → V ws → Have R xs → Have R ys → Each P (from_queue K t l ws b c xs ys)
unfolding from_queue
queue_each K t l R V P f free ws b c [] ys w h g = wait_each K t l R V P (f true) ws b c ys w g
queue_each K t l R V P f free ws b c (r ∷ rs) ys w h g =
    let q = f false in
    let waits = wait_each K t l R V P (f true) ws b c ys w g in
    each_if P (nat_lt t r.second) _ _ waits
    (each_if P (calls_on l r.vehicle) _ _ (q.serve ws r h.0 w, (free, queue_each K t l R V P f free (left_behind r.vehicle ws) b c rs ys (q.left r.vehicle ws w) h.1 g))
    (each_if P (is_last r.vehicle) _ _ (q.arrive r h.0, (free, queue_each K t l R V P f free ws b c rs ys w h.1 g))
    (each_if P (may_pass K b c) _ _ (q.pass b r h.0, (free, (q.pay (c - VEHICLE_COST), queue_each K t l R V P f free ws (b + 1) (c - VEHICLE_COST) rs ys w h.1 g))) waits)))

pub link_each : (K : Rules) (t l : ℕ) (R : VehicleState → Type 0) (V : List Waiter → Type 0) (P : Move → Type 0) → ((s : Bool) → FrontMoves K t l R V P s) → ((k : ℕ) (r : Row) → R r.vehicle → P (Transfer l Bay k r (waiting l r))) → P (LeaveHole l t) →
    (ws : List Waiter) (L : LinkState) → V ws → Have R L.queue → Have R L.wait → Have R L.bay → Each P (link_moves K t l ws L)
unfolding link_moves
link_each K t l R V P f due free ws L w hq hw hb =
    let come : Row → Bool = λ r. nat_le r.second t in
    let waits = each_append (λ (r : Row). R r.vehicle) L.wait (map (waiting l) (filter come L.bay)) hw (each_map _ _ (waiting l) (λ r g. g) (filter come L.bay) (each_kept (λ (r : Row). R r.vehicle) come L.bay hb)) in
    each_append P (leave_bay t l 0 L.bay) _ (bay_each R P t l due 0 L.bay hb) ((f true).pay _, queue_each K t l R V P f free ws (length L.buffer) _ L.queue (wait_after t l L) w hq waits)
