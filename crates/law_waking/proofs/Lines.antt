-- Those who wait at the stops of a link after its turn are those whom its services left.
use Rattle.traffic.proofs.Common.{◌≡◌, ℕ, ◌+◌, ◌-◌, Bool, true, false, List, ◌∙◌, ap, refl, sym, [], ◌∷◌, inl, inr, cases_Bool, length, if◌then◌else◌, nat_lt}
use Rattle.traffic.proofs.Common.{nat_le, run, done, World, Setup, waiters, calls_on, is_last, may_pass, served_row, left_behind, buffered, waiting, wait_after}
use Rattle.traffic.proofs.Common.{from_wait, from_queue, leave_bay, link_moves, raised, VEHICLE_COST, LinkState}
use Rattle.traffic.proofs.{LeftBehind.served_line, LeftBehind.calm_line, Sublists.run-append, Waiting.gone_calm, Waiting.pass_calm}
use Rattle.traffic.specs.declared.moves.Move.{Move, TheVariants.Transfer, TheVariants.Remove, TheVariants.Credit, TheVariants.LeaveHole}
use Rattle.traffic.specs.declared.{numbers.Rules.Rules, stage.Stage.TheVariants.Queue, stage.Stage.TheVariants.Wait, stage.Stage.TheVariants.Bay}
use Rattle.traffic.specs.declared.world.{Row.Row, Waiter.Waiter}
use Rattle.link_seconds.{proofs.Leading.left_append, specs.Seconds.left_after}

if_by : (P : List Move → Type 0) (b : Bool) (xs ys : List Move) → P xs → P ys → P (if b then xs else ys)
if_by P b xs ys h g = elim (cases_Bool b) [ inl e ↦ rw e h | inr e ↦ rw e g ]

-- those who wait in the world after the moves are those whom the moves leave
abbrev Leave : Setup → ℕ → ℕ → World → List Waiter → List Move → Type 0
Leave S t l W ws ms = waiters S l (run S t ms W) ≡ left_after ms ws

wait_leaves : (S : Setup) (t l : ℕ) (K : Rules) (ws : List Waiter) (b c : ℕ) (rows : List Row) (W : World) → ws ≡ waiters S l W
    → Leave S t l W ws (from_wait K t l ws b c rows)
unfolding from_wait
wait_leaves S t l K ws b c [] W e = sym e
wait_leaves S t l K ws b c (r ∷ rs) W e =
    let P = Leave S t l W ws in
    if_by P (calls_on l r.vehicle) _ _
    (wait_leaves S t l K (left_behind r.vehicle ws) b c rs (done S t (Transfer l Wait 0 r (served_row K.dwell t l ws r.vehicle)) W)
    (served_line S t l true K.dwell r ws W e))
    (if_by P (is_last r.vehicle) _ _
    (wait_leaves S t l K ws b c rs (done S t (Remove l Wait 0 r) W) (calm_line S t l (Remove l Wait 0 r) ws W (λ Q. gone_calm Q l true r) e))
    (if_by P (may_pass K b c) _ []
    (let now = buffered t l b r in
    let V = done S t (Transfer l Wait 0 r now) W in
    let f = calm_line S t l (Transfer l Wait 0 r now) ws W (λ Q. pass_calm Q t l b true r) e in
    wait_leaves S t l K ws (b + 1) (c - VEHICLE_COST) rs (done S t (Credit l (c - VEHICLE_COST)) V)
    (calm_line S t l (Credit l (c - VEHICLE_COST)) ws V (λ Q. tt) f))
    (sym e)))

queue_leaves : (S : Setup) (t l : ℕ) (K : Rules) (ws : List Waiter) (b c : ℕ) (rows wait : List Row) (W : World) → ws ≡ waiters S l W
    → Leave S t l W ws (from_queue K t l ws b c rows wait)
unfolding from_queue
queue_leaves S t l K ws b c [] wait W e = wait_leaves S t l K ws b c wait W e
queue_leaves S t l K ws b c (r ∷ rs) wait W e =
    let P = Leave S t l W ws in
    let hole = λ (ys : List Waiter) (V : World) (f : ys ≡ waiters S l V). calm_line S t l (LeaveHole l t) ys V (λ Q. tt) f in
    if_by P (nat_lt t r.second) _ _
    (wait_leaves S t l K ws b c wait W e)
    (if_by P (calls_on l r.vehicle) _ _
    (let V = done S t (Transfer l Queue 0 r (served_row K.dwell t l ws r.vehicle)) W in
    let left = left_behind r.vehicle ws in
    queue_leaves S t l K left b c rs wait (done S t (LeaveHole l t) V) (hole left V (served_line S t l false K.dwell r ws W e)))
    (if_by P (is_last r.vehicle) _ _
    (let V = done S t (Remove l Queue 0 r) W in
    queue_leaves S t l K ws b c rs wait (done S t (LeaveHole l t) V) (hole ws V (calm_line S t l (Remove l Queue 0 r) ws W (λ Q. gone_calm Q l false r) e)))
    (if_by P (may_pass K b c) _ _
    (let now = buffered t l b r in
    let V = done S t (Transfer l Queue 0 r now) W in
    let U = done S t (LeaveHole l t) V in
    let f = hole ws V (calm_line S t l (Transfer l Queue 0 r now) ws W (λ Q. pass_calm Q t l b false r) e) in
    queue_leaves S t l K ws (b + 1) (c - VEHICLE_COST) rs wait (done S t (Credit l (c - VEHICLE_COST)) U)
    (calm_line S t l (Credit l (c - VEHICLE_COST)) ws U (λ Q. tt) f))
    (wait_leaves S t l K ws b c wait W e))))

bay_leaves : (S : Setup) (t l k : ℕ) (ws : List Waiter) (rows : List Row) (W : World) → ws ≡ waiters S l W
    → (ws ≡ waiters S l (run S t (leave_bay t l k rows) W)) × (left_after (leave_bay t l k rows) ws ≡ ws)
unfolding leave_bay
bay_leaves S t l k ws [] W e = (e, refl)
bay_leaves S t l k ws (r ∷ rs) W e =
    elim (cases_Bool (nat_le r.second t)) [
      | inl q ↦ simp q (bay_leaves S t l k ws rs (done S t (Transfer l Bay k r (waiting l r)) W)
          (calm_line S t l (Transfer l Bay k r (waiting l r)) ws W (λ Q. (tt, tt)) e))
      | inr q ↦ simp q (bay_leaves S t l (k + 1) ws rs W e)
    ]

pub turn_leaves : (S : Setup) (t l : ℕ) (K : Rules) (L : LinkState) (W : World)
    → waiters S l (run S t (link_moves K t l (waiters S l W) L) W) ≡ left_after (link_moves K t l (waiters S l W) L) (waiters S l W)
unfolding link_moves
turn_leaves S t l K L W =
    let ws = waiters S l W in
    let first = leave_bay t l 0 L.bay in
    let credit = raised K.gain L.credit in
    let later = from_queue K t l ws (length L.buffer) credit L.queue (wait_after t l L) in
    let V = run S t first W in
    let bay = bay_leaves S t l 0 ws L.bay W refl in
    let f = calm_line S t l (Credit l credit) ws V (λ Q. tt) bay.0 in
    ap (waiters S l) (run-append S t first (Credit l credit ∷ later) W)
    ∙ queue_leaves S t l K ws (length L.buffer) credit L.queue (wait_after t l L) (done S t (Credit l credit) V) f
    ∙ sym (left_append first (Credit l credit ∷ later) ws ∙ ap (left_after (Credit l credit ∷ later)) bay.1)
