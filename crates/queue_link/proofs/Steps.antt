-- One front of a queue or of a wait list goes, as a link's turn says it.
use Rattle.std.proofs.Common.{◌≡◌, ◌≢◌, ℕ, ◌+◌, ◌-◌, true, false, List, [], ◌∷◌, ◌++◌, length, refl, ap, sym, ◌∙◌, inl, inr, append-nil, append_assoc}
use Rattle.std.{proofs.Common.length-append, proofs.lemmas.Bool.cases_Bool, specs.Prelude.nat_lt}
use Rattle.fixed_flow.specs.declared.TheConstants.{VEHICLE_COST}
use Rattle.rows.specs.declared.settings.Dwelling.{Dwelling}
use Rattle.traffic.specs.Links.{LinkState, is_last, may_pass, buffered, from_wait, from_queue}
use Rattle.traffic.specs.{Stops.calls_on, Stops.left_behind, Stops.served_row, Telling.starts, Telling.arrives, Vehicles.VehicleState, declared.moves.Move.Move}
use Rattle.traffic.specs.declared.moves.Move.TheVariants.{Transfer, Remove, Credit, LeaveHole}
use Rattle.traffic.specs.declared.{moves.Occurrence.Occurrence, numbers.Rules.Rules, stage.Stage.TheVariants.Queue, stage.Stage.TheVariants.Wait}
use Rattle.traffic.specs.declared.world.{Row.Row, Waiter.Waiter}
use Rattle.law_sleeping.specs.Quiet.{link_state_after}
use Rattle.law_sleeping.proofs.Settling.{lists_with, wait_removed, wait_passed, queue_removed, queue_passed, credited}
use Rattle.queue_link.proofs.Fronts.{stops_by, arrives_by, passes_by, stays_by, due_by, still_stays}
use Rattle.queue_link.specs.{Links.LinkView, Numbers.rules_of, Numbers.no_dwelling}
use Rattle.queue_link.specs.Turns.{Outcome, fate_of, queue_fate, wait_fate, until_halt, goes_on}
use Rattle.queue_link.specs.declared.fates.Fate.TheVariants.{Stops, Arrives, Passes, Stays}
use Rattle.queue_link.specs.declared.{numbers.LinkNumbers.LinkNumbers, turns.Turn.TheVariants.Stop, turns.Turn.TheVariants.Arrive, turns.Turn.TheVariants.Done}

-- THE QUEUE
queue_moves_pass : (K : Rules) (t l : ℕ) (ws : List Waiter) (b c : ℕ) (r : Row) (rs w : List Row) → nat_lt t r.second ≡ false
    → calls_on l r.vehicle ≡ false → is_last r.vehicle ≡ false → may_pass K b c ≡ true
    → from_queue K t l ws b c (r ∷ rs) w ≡ Transfer l Queue 0 r (buffered t l b r) ∷ LeaveHole l t ∷ Credit l (c - VEHICLE_COST) ∷
    from_queue K t l ws (b + 1) (c - VEHICLE_COST) rs w
unfolding from_queue
queue_moves_pass K t l ws b c r rs w e0 e1 e2 e3 = rw (e0, e1, e2, e3) refl

queue_moves_stop : (K : Rules) (t l : ℕ) (ws : List Waiter) (b c : ℕ) (r : Row) (rs w : List Row) → nat_lt t r.second ≡ false
    → calls_on l r.vehicle ≡ true
    → from_queue K t l ws b c (r ∷ rs) w ≡ Transfer l Queue 0 r (served_row K.dwell t l ws r.vehicle) ∷ LeaveHole l t ∷ from_queue K t l
    (left_behind r.vehicle ws) b c rs w
unfolding from_queue
queue_moves_stop K t l ws b c r rs w e0 e1 = rw (e0, e1) refl

queue_moves_arrive : (K : Rules) (t l : ℕ) (ws : List Waiter) (b c : ℕ) (r : Row) (rs w : List Row) → nat_lt t r.second ≡ false
    → calls_on l r.vehicle ≡ false → is_last r.vehicle ≡ true
    → from_queue K t l ws b c (r ∷ rs) w ≡ Remove l Queue 0 r ∷ LeaveHole l t ∷ from_queue K t l ws b c rs w
unfolding from_queue
queue_moves_arrive K t l ws b c r rs w e0 e1 e2 = rw (e0, e1, e2) refl

pub queue_moves_stay : (n : LinkNumbers) (dwell : Dwelling) (t : ℕ) (ws : List Waiter) (b c : ℕ) (q w : List Row) → queue_fate n t b c q ≡ Stays
    → from_queue (rules_of n dwell) t n.link ws b c q w ≡ from_wait (rules_of n dwell) t n.link ws b c w
unfolding from_queue
queue_moves_stay n dwell t ws b c [] w e = refl
queue_moves_stay n dwell t ws b c (r ∷ rs) w e =
    elim (cases_Bool (nat_lt t r.second)) [
      | inl q ↦ rw q refl
      | inr q ↦
          let f : fate_of n b c r.vehicle ≡ Stays = rw q at e in
          let h = stays_by (calls_on n.link r.vehicle) (is_last r.vehicle) (may_pass (rules_of n no_dwelling) b c) f in
          rw (q, h.0, h.1, h.2) refl
    ]

-- moves done up to a halt
halt_pass : (l t d : ℕ) (r : Row) (ms : List Move) (rs b w y : List Row) (c : ℕ) (said : List Occurrence)
    → until_halt l (Transfer l Queue 0 r (buffered t l (length b) r) ∷ LeaveHole l t ∷ Credit l d ∷ ms) (lists_with (r ∷ rs) b w y c) said
    ≡ until_halt l ms (lists_with rs (b ++ buffered t l (length b) r ∷ []) w y d) said
unfolding until_halt
halt_pass l t d r ms rs b w y c said =
    let now = buffered t l (length b) r in
    let e : link_state_after l (Transfer l Queue 0 r now) (lists_with (r ∷ rs) b w y c)
    ≡ lists_with rs (b ++ now ∷ []) w y c = queue_passed l r now rs b w y c refl refl in
    let s : ((said ++ []) ++ []) ++ [] ≡ said = append-nil ((said ++ []) ++ []) ∙ append-nil (said ++ []) ∙ append-nil said in
    ap (λ (L : LinkState). until_halt l ms (link_state_after l (Credit l d) L) (((said ++ []) ++ []) ++ [])) e
    ∙ ap (λ (L : LinkState). until_halt l ms L (((said ++ []) ++ []) ++ [])) (credited l d rs (b ++ now ∷ []) w y c)
    ∙ ap (until_halt l ms (lists_with rs (b ++ now ∷ []) w y d)) s

halt_stop : (K : Rules) (t l : ℕ) (ws : List Waiter) (r : Row) (ms : List Move) (rs b w y : List Row) (c : ℕ) (said : List Occurrence)
    → until_halt l (Transfer l Queue 0 r (served_row K.dwell t l ws r.vehicle) ∷ ms) (lists_with (r ∷ rs) b w y c) said
    ≡ record { turn = Stop r.vehicle; lists = lists_with rs b w y c; told = said }
unfolding until_halt
halt_stop K t l ws r ms rs b w y c said =
    let e = queue_removed l r rs b w y c in
    let s = append-nil said in
    λ i. record { turn = Stop r.vehicle; lists = e i; told = s i }

halt_arrive : (l : ℕ) (r : Row) (ms : List Move) (rs b w y : List Row) (c : ℕ) (said : List Occurrence)
    → until_halt l (Remove l Queue 0 r ∷ ms) (lists_with (r ∷ rs) b w y c) said
    ≡ record { turn = Arrive r.vehicle; lists = lists_with rs b w y c; told = said ++ arrives r }
unfolding until_halt
halt_arrive l r ms rs b w y c said =
    let e = queue_removed l r rs b w y c in
    λ i. record { turn = Arrive r.vehicle; lists = e i; told = said ++ arrives r }

-- one more row is counted
pub counted : (b : List Row) (r : Row) → length (b ++ r ∷ []) ≡ length b + 1
counted b r = length-append b (r ∷ [])

passes_not_stays : Passes ≢ Stays
passes_not_stays e = cc

stops_not_stays : Stops ≢ Stays
stops_not_stays e = cc

arrives_not_stays : Arrives ≢ Stays
arrives_not_stays e = cc

pub queue_passes : (n : LinkNumbers) (dwell : Dwelling) (ws : List Waiter) (t : ℕ) (r : Row) (rs b w y : List Row) (c : ℕ)
    (said : List Occurrence) → queue_fate n t (length b) c (r ∷ rs) ≡ Passes
    → goes_on n dwell ws t (lists_with (r ∷ rs) b w y c) said ≡ goes_on n dwell ws t
    (lists_with rs (b ++ buffered t n.link (length b) r ∷ []) w y (c - VEHICLE_COST)) said
queue_passes n dwell ws t r rs b w y c said e =
    let K = rules_of n dwell in
    let d = due_by (nat_lt t r.second) (fate_of n (length b) c r.vehicle) Passes e passes_not_stays in
    let h = passes_by (calls_on n.link r.vehicle) (is_last r.vehicle) (may_pass (rules_of n no_dwelling) (length b) c) d.1 in
    let now = buffered t n.link (length b) r in
    ap (λ (ms : List Move). until_halt n.link ms (lists_with (r ∷ rs) b w y c) said)
    (queue_moves_pass K t n.link ws (length b) c r rs w d.0 h.0 h.1 h.2)
    ∙ halt_pass n.link t (c - VEHICLE_COST) r (from_queue K t n.link ws (length b + 1) (c - VEHICLE_COST) rs w) rs b w y c said
    ∙ ap (λ (k : ℕ). until_halt n.link (from_queue K t n.link ws k (c - VEHICLE_COST) rs w)
    (lists_with rs (b ++ now ∷ []) w y (c - VEHICLE_COST)) said) (sym (counted b now))

pub queue_stops : (n : LinkNumbers) (dwell : Dwelling) (ws : List Waiter) (t : ℕ) (r : Row) (rs b w y : List Row) (c : ℕ)
    (said : List Occurrence) → queue_fate n t (length b) c (r ∷ rs) ≡ Stops
    → goes_on n dwell ws t (lists_with (r ∷ rs) b w y c) said ≡ record { turn = Stop r.vehicle; lists = lists_with rs b w y c; told = said }
queue_stops n dwell ws t r rs b w y c said e =
    let K = rules_of n dwell in
    let d = due_by (nat_lt t r.second) (fate_of n (length b) c r.vehicle) Stops e stops_not_stays in
    let h = stops_by (calls_on n.link r.vehicle) (is_last r.vehicle) (may_pass (rules_of n no_dwelling) (length b) c) d.1 in
    ap (λ (ms : List Move). until_halt n.link ms (lists_with (r ∷ rs) b w y c) said)
    (queue_moves_stop K t n.link ws (length b) c r rs w d.0 h)
    ∙ halt_stop K t n.link ws r (LeaveHole n.link t ∷ from_queue K t n.link (left_behind r.vehicle ws) (length b) c rs w) rs b w y c said

pub queue_arrives : (n : LinkNumbers) (dwell : Dwelling) (ws : List Waiter) (t : ℕ) (r : Row) (rs b w y : List Row) (c : ℕ)
    (said : List Occurrence) → queue_fate n t (length b) c (r ∷ rs) ≡ Arrives
    → goes_on n dwell ws t (lists_with (r ∷ rs) b w y c) said ≡ record
    { turn = Arrive r.vehicle; lists = lists_with rs b w y c; told = said ++ arrives r }
queue_arrives n dwell ws t r rs b w y c said e =
    let K = rules_of n dwell in
    let d = due_by (nat_lt t r.second) (fate_of n (length b) c r.vehicle) Arrives e arrives_not_stays in
    let h = arrives_by (calls_on n.link r.vehicle) (is_last r.vehicle) (may_pass (rules_of n no_dwelling) (length b) c) d.1 in
    ap (λ (ms : List Move). until_halt n.link ms (lists_with (r ∷ rs) b w y c) said)
    (queue_moves_arrive K t n.link ws (length b) c r rs w d.0 h.0 h.1)
    ∙ halt_arrive n.link r (LeaveHole n.link t ∷ from_queue K t n.link ws (length b) c rs w) rs b w y c said

-- THE WAIT LIST
wait_moves_pass : (K : Rules) (t l : ℕ) (ws : List Waiter) (b c : ℕ) (r : Row) (rs : List Row) → calls_on l r.vehicle ≡ false
    → is_last r.vehicle ≡ false → may_pass K b c ≡ true
    → from_wait K t l ws b c (r ∷ rs) ≡ Transfer l Wait 0 r (buffered t l b r) ∷ Credit l (c - VEHICLE_COST) ∷ from_wait K t l ws (b + 1)
    (c - VEHICLE_COST) rs
unfolding from_wait
wait_moves_pass K t l ws b c r rs e1 e2 e3 = rw (e1, e2, e3) refl

wait_moves_stop : (K : Rules) (t l : ℕ) (ws : List Waiter) (b c : ℕ) (r : Row) (rs : List Row) → calls_on l r.vehicle ≡ true
    → from_wait K t l ws b c (r ∷ rs) ≡ Transfer l Wait 0 r (served_row K.dwell t l ws r.vehicle) ∷ from_wait K t l
    (left_behind r.vehicle ws) b c rs
unfolding from_wait
wait_moves_stop K t l ws b c r rs e1 = rw e1 refl

wait_moves_arrive : (K : Rules) (t l : ℕ) (ws : List Waiter) (b c : ℕ) (r : Row) (rs : List Row) → calls_on l r.vehicle ≡ false
    → is_last r.vehicle ≡ true
    → from_wait K t l ws b c (r ∷ rs) ≡ Remove l Wait 0 r ∷ from_wait K t l ws b c rs
unfolding from_wait
wait_moves_arrive K t l ws b c r rs e1 e2 = rw (e1, e2) refl

pub wait_moves_stay : (n : LinkNumbers) (dwell : Dwelling) (t : ℕ) (ws : List Waiter) (b c : ℕ) (w : List Row) → wait_fate n b c w ≡ Stays
    → from_wait (rules_of n dwell) t n.link ws b c w ≡ []
unfolding from_wait
wait_moves_stay n dwell t ws b c [] e = refl
wait_moves_stay n dwell t ws b c (r ∷ rs) e =
    let h = stays_by (calls_on n.link r.vehicle) (is_last r.vehicle) (may_pass (rules_of n no_dwelling) b c) e in
    rw (h.0, h.1, h.2) refl

-- the moves of a front by what comes of it
pub queue_front_moves_pass : (n : LinkNumbers) (dwell : Dwelling) (t : ℕ) (ws : List Waiter) (b c : ℕ) (r : Row) (rs w : List Row)
    → queue_fate n t b c (r ∷ rs) ≡ Passes
    → from_queue (rules_of n dwell) t n.link ws b c (r ∷ rs) w ≡ Transfer n.link Queue 0 r (buffered t n.link b r) ∷ LeaveHole n.link t
    ∷ Credit n.link (c - VEHICLE_COST) ∷ from_queue (rules_of n dwell) t n.link ws (b + 1) (c - VEHICLE_COST) rs w
queue_front_moves_pass n dwell t ws b c r rs w e =
    let d = due_by (nat_lt t r.second) (fate_of n b c r.vehicle) Passes e passes_not_stays in
    let h = passes_by (calls_on n.link r.vehicle) (is_last r.vehicle) (may_pass (rules_of n no_dwelling) b c) d.1 in
    queue_moves_pass (rules_of n dwell) t n.link ws b c r rs w d.0 h.0 h.1 h.2

pub queue_front_moves_stop : (n : LinkNumbers) (dwell : Dwelling) (t : ℕ) (ws : List Waiter) (b c : ℕ) (r : Row) (rs w : List Row)
    → queue_fate n t b c (r ∷ rs) ≡ Stops
    → from_queue (rules_of n dwell) t n.link ws b c (r ∷ rs) w ≡ Transfer n.link Queue 0 r (served_row dwell t n.link ws r.vehicle)
    ∷ LeaveHole n.link t ∷ from_queue (rules_of n dwell) t n.link (left_behind r.vehicle ws) b c rs w
queue_front_moves_stop n dwell t ws b c r rs w e =
    let d = due_by (nat_lt t r.second) (fate_of n b c r.vehicle) Stops e stops_not_stays in
    let h = stops_by (calls_on n.link r.vehicle) (is_last r.vehicle) (may_pass (rules_of n no_dwelling) b c) d.1 in
    queue_moves_stop (rules_of n dwell) t n.link ws b c r rs w d.0 h

pub queue_front_moves_arrive : (n : LinkNumbers) (dwell : Dwelling) (t : ℕ) (ws : List Waiter) (b c : ℕ) (r : Row) (rs w : List Row)
    → queue_fate n t b c (r ∷ rs) ≡ Arrives
    → from_queue (rules_of n dwell) t n.link ws b c (r ∷ rs) w ≡ Remove n.link Queue 0 r ∷ LeaveHole n.link t
    ∷ from_queue (rules_of n dwell) t n.link ws b c rs w
queue_front_moves_arrive n dwell t ws b c r rs w e =
    let d = due_by (nat_lt t r.second) (fate_of n b c r.vehicle) Arrives e arrives_not_stays in
    let h = arrives_by (calls_on n.link r.vehicle) (is_last r.vehicle) (may_pass (rules_of n no_dwelling) b c) d.1 in
    queue_moves_arrive (rules_of n dwell) t n.link ws b c r rs w d.0 h.0 h.1

pub wait_front_moves_pass : (n : LinkNumbers) (dwell : Dwelling) (t : ℕ) (ws : List Waiter) (b c : ℕ) (r : Row) (rs : List Row)
    → wait_fate n b c (r ∷ rs) ≡ Passes
    → from_wait (rules_of n dwell) t n.link ws b c (r ∷ rs) ≡ Transfer n.link Wait 0 r (buffered t n.link b r)
    ∷ Credit n.link (c - VEHICLE_COST) ∷ from_wait (rules_of n dwell) t n.link ws (b + 1) (c - VEHICLE_COST) rs
wait_front_moves_pass n dwell t ws b c r rs e =
    let h = passes_by (calls_on n.link r.vehicle) (is_last r.vehicle) (may_pass (rules_of n no_dwelling) b c) e in
    wait_moves_pass (rules_of n dwell) t n.link ws b c r rs h.0 h.1 h.2

pub wait_front_moves_stop : (n : LinkNumbers) (dwell : Dwelling) (t : ℕ) (ws : List Waiter) (b c : ℕ) (r : Row) (rs : List Row)
    → wait_fate n b c (r ∷ rs) ≡ Stops
    → from_wait (rules_of n dwell) t n.link ws b c (r ∷ rs) ≡ Transfer n.link Wait 0 r (served_row dwell t n.link ws r.vehicle)
    ∷ from_wait (rules_of n dwell) t n.link (left_behind r.vehicle ws) b c rs
wait_front_moves_stop n dwell t ws b c r rs e =
    wait_moves_stop (rules_of n dwell) t n.link ws b c r rs
    (stops_by (calls_on n.link r.vehicle) (is_last r.vehicle) (may_pass (rules_of n no_dwelling) b c) e)

pub wait_front_moves_arrive : (n : LinkNumbers) (dwell : Dwelling) (t : ℕ) (ws : List Waiter) (b c : ℕ) (r : Row) (rs : List Row)
    → wait_fate n b c (r ∷ rs) ≡ Arrives
    → from_wait (rules_of n dwell) t n.link ws b c (r ∷ rs) ≡ Remove n.link Wait 0 r ∷ from_wait (rules_of n dwell) t n.link ws b c rs
wait_front_moves_arrive n dwell t ws b c r rs e =
    let h = arrives_by (calls_on n.link r.vehicle) (is_last r.vehicle) (may_pass (rules_of n no_dwelling) b c) e in
    wait_moves_arrive (rules_of n dwell) t n.link ws b c r rs h.0 h.1

wait_halt_pass : (l t d : ℕ) (r : Row) (ms : List Move) (q rs b y : List Row) (c : ℕ) (said : List Occurrence)
    → until_halt l (Transfer l Wait 0 r (buffered t l (length b) r) ∷ Credit l d ∷ ms) (lists_with q b (r ∷ rs) y c) said
    ≡ until_halt l ms (lists_with q (b ++ buffered t l (length b) r ∷ []) rs y d) (said ++ starts r)
unfolding until_halt
wait_halt_pass l t d r ms q rs b y c said =
    let now = buffered t l (length b) r in
    let e : link_state_after l (Transfer l Wait 0 r now) (lists_with q b (r ∷ rs) y c)
    ≡ lists_with q (b ++ now ∷ []) rs y c = wait_passed l r now q b rs y c refl refl in
    let s : (said ++ (starts r ++ [])) ++ [] ≡ said ++ starts r = append-nil (said ++ (starts r ++ []))
    ∙ ap (λ (xs : List Occurrence). said ++ xs) (append-nil (starts r)) in
    ap (λ (L : LinkState). until_halt l ms (link_state_after l (Credit l d) L) ((said ++ (starts r ++ [])) ++ [])) e
    ∙ ap (λ (L : LinkState). until_halt l ms L ((said ++ (starts r ++ [])) ++ [])) (credited l d q (b ++ now ∷ []) rs y c)
    ∙ ap (until_halt l ms (lists_with q (b ++ now ∷ []) rs y d)) s

wait_halt_stop : (K : Rules) (t l : ℕ) (ws : List Waiter) (r : Row) (ms : List Move) (q rs b y : List Row) (c : ℕ) (said : List Occurrence)
    → until_halt l (Transfer l Wait 0 r (served_row K.dwell t l ws r.vehicle) ∷ ms) (lists_with q b (r ∷ rs) y c) said
    ≡ record { turn = Stop r.vehicle; lists = lists_with q b rs y c; told = said ++ starts r }
unfolding until_halt
wait_halt_stop K t l ws r ms q rs b y c said =
    let e = wait_removed l r q b rs y c in
    λ i. record { turn = Stop r.vehicle; lists = e i; told = said ++ starts r }

wait_halt_arrive : (l : ℕ) (r : Row) (ms : List Move) (q rs b y : List Row) (c : ℕ) (said : List Occurrence)
    → until_halt l (Remove l Wait 0 r ∷ ms) (lists_with q b (r ∷ rs) y c) said
    ≡ record { turn = Arrive r.vehicle; lists = lists_with q b rs y c; told = (said ++ starts r) ++ arrives r }
unfolding until_halt
wait_halt_arrive l r ms q rs b y c said =
    let e = wait_removed l r q b rs y c in
    let s = sym (append_assoc said (starts r) (arrives r)) in
    λ i. record { turn = Arrive r.vehicle; lists = e i; told = s i }

-- what is left where the queue stays
waits_on : (n : LinkNumbers) (dwell : Dwelling) (ws : List Waiter) (t : ℕ) (q b w y : List Row) (c : ℕ) (said : List Occurrence)
    → queue_fate n t (length b) c q ≡ Stays
    → goes_on n dwell ws t (lists_with q b w y c) said ≡ until_halt n.link (from_wait (rules_of n dwell) t n.link ws (length b) c w)
    (lists_with q b w y c) said
waits_on n dwell ws t q b w y c said e = ap (λ (ms : List Move). until_halt n.link ms (lists_with q b w y c) said)
    (queue_moves_stay n dwell t ws (length b) c q w e)

pub wait_stays_on : (n : LinkNumbers) (t : ℕ) (q b : List Row) (x : Row) (c : ℕ) → queue_fate n t (length b) c q ≡ Stays
    → queue_fate n t (length (b ++ x ∷ [])) (c - VEHICLE_COST) q ≡ Stays
wait_stays_on n t q b x c e = ap (λ (k : ℕ). queue_fate n t k (c - VEHICLE_COST) q) (counted b x) ∙ still_stays n t (length b) c q e

pub wait_passes : (n : LinkNumbers) (dwell : Dwelling) (ws : List Waiter) (t : ℕ) (r : Row) (q rs b y : List Row) (c : ℕ)
    (said : List Occurrence)
    → queue_fate n t (length b) c q ≡ Stays → wait_fate n (length b) c (r ∷ rs) ≡ Passes
    → goes_on n dwell ws t (lists_with q b (r ∷ rs) y c) said
    ≡ goes_on n dwell ws t (lists_with q (b ++ buffered t n.link (length b) r ∷ []) rs y (c - VEHICLE_COST)) (said ++ starts r)
wait_passes n dwell ws t r q rs b y c said s e =
    let K = rules_of n dwell in
    let h = passes_by (calls_on n.link r.vehicle) (is_last r.vehicle) (may_pass (rules_of n no_dwelling) (length b) c) e in
    let now = buffered t n.link (length b) r in
    waits_on n dwell ws t q b (r ∷ rs) y c said s
    ∙ ap (λ (ms : List Move). until_halt n.link ms (lists_with q b (r ∷ rs) y c) said)
    (wait_moves_pass K t n.link ws (length b) c r rs h.0 h.1 h.2)
    ∙ wait_halt_pass n.link t (c - VEHICLE_COST) r (from_wait K t n.link ws (length b + 1) (c - VEHICLE_COST) rs) q rs b y c said
    ∙ ap (λ (k : ℕ). until_halt n.link (from_wait K t n.link ws k (c - VEHICLE_COST) rs)
    (lists_with q (b ++ now ∷ []) rs y (c - VEHICLE_COST)) (said ++ starts r)) (sym (counted b now))
    ∙ sym (waits_on n dwell ws t q (b ++ now ∷ []) rs y (c - VEHICLE_COST) (said ++ starts r) (wait_stays_on n t q b now c s))

pub wait_stops : (n : LinkNumbers) (dwell : Dwelling) (ws : List Waiter) (t : ℕ) (r : Row) (q rs b y : List Row) (c : ℕ)
    (said : List Occurrence)
    → queue_fate n t (length b) c q ≡ Stays → wait_fate n (length b) c (r ∷ rs) ≡ Stops
    → goes_on n dwell ws t (lists_with q b (r ∷ rs) y c) said ≡ record
    { turn = Stop r.vehicle; lists = lists_with q b rs y c; told = said ++ starts r }
wait_stops n dwell ws t r q rs b y c said s e =
    let K = rules_of n dwell in
    let h = stops_by (calls_on n.link r.vehicle) (is_last r.vehicle) (may_pass (rules_of n no_dwelling) (length b) c) e in
    waits_on n dwell ws t q b (r ∷ rs) y c said s
    ∙ ap (λ (ms : List Move). until_halt n.link ms (lists_with q b (r ∷ rs) y c) said) (wait_moves_stop K t n.link ws (length b) c r rs h)
    ∙ wait_halt_stop K t n.link ws r (from_wait K t n.link (left_behind r.vehicle ws) (length b) c rs) q rs b y c said

pub wait_arrives : (n : LinkNumbers) (dwell : Dwelling) (ws : List Waiter) (t : ℕ) (r : Row) (q rs b y : List Row) (c : ℕ)
    (said : List Occurrence)
    → queue_fate n t (length b) c q ≡ Stays → wait_fate n (length b) c (r ∷ rs) ≡ Arrives
    → goes_on n dwell ws t (lists_with q b (r ∷ rs) y c) said ≡ record
    { turn = Arrive r.vehicle; lists = lists_with q b rs y c; told = (said ++ starts r) ++ arrives r }
wait_arrives n dwell ws t r q rs b y c said s e =
    let K = rules_of n dwell in
    let h = arrives_by (calls_on n.link r.vehicle) (is_last r.vehicle) (may_pass (rules_of n no_dwelling) (length b) c) e in
    waits_on n dwell ws t q b (r ∷ rs) y c said s
    ∙ ap (λ (ms : List Move). until_halt n.link ms (lists_with q b (r ∷ rs) y c) said)
    (wait_moves_arrive K t n.link ws (length b) c r rs h.0 h.1)
    ∙ wait_halt_arrive n.link r (from_wait K t n.link ws (length b) c rs) q rs b y c said

-- where both stay, nothing more is done
pub both_stay : (n : LinkNumbers) (dwell : Dwelling) (ws : List Waiter) (t : ℕ) (q b w y : List Row) (c : ℕ) (said : List Occurrence)
    → queue_fate n t (length b) c q ≡ Stays → wait_fate n (length b) c w ≡ Stays
    → goes_on n dwell ws t (lists_with q b w y c) said ≡ record { turn = Done; lists = lists_with q b w y c; told = said }
unfolding until_halt
both_stay n dwell ws t q b w y c said s e =
    waits_on n dwell ws t q b w y c said s
    ∙ ap (λ (ms : List Move). until_halt n.link ms (lists_with q b w y c) said) (wait_moves_stay n dwell t ws (length b) c w e)

-- AS THE CODE FINDS THEM
pub queue_stops_at : (n : LinkNumbers) (dwell : Dwelling) (ws : List Waiter) (t : ℕ) (q rs b w y : List Row) (r : Row) (c : ℕ)
    (said : List Occurrence) (v : VehicleState)
    → q ≡ r ∷ rs → queue_fate n t (length b) c q ≡ Stops → v ≡ r.vehicle
    → goes_on n dwell ws t (lists_with q b w y c) said ≡ record { turn = Stop v; lists = lists_with rs b w y c; told = said }
queue_stops_at n dwell ws t q rs b w y r c said v e f g = rw (e, g) (queue_stops n dwell ws t r rs b w y c said (rw e at f))

pub queue_arrives_at : (n : LinkNumbers) (dwell : Dwelling) (ws : List Waiter) (t : ℕ) (q rs b w y : List Row) (r : Row) (c : ℕ)
    (said later : List Occurrence) (v : VehicleState)
    → q ≡ r ∷ rs → queue_fate n t (length b) c q ≡ Arrives → v ≡ r.vehicle → later ≡ said ++ arrives r
    → goes_on n dwell ws t (lists_with q b w y c) said ≡ record { turn = Arrive v; lists = lists_with rs b w y c; told = later }
queue_arrives_at n dwell ws t q rs b w y r c said later v e f g h = rw (e, g, h) (queue_arrives n dwell ws t r rs b w y c said (rw e at f))

pub queue_passes_at : (n : LinkNumbers) (dwell : Dwelling) (ws : List Waiter) (t : ℕ) (q rs b w y : List Row) (r : Row) (c : ℕ)
    (said : List Occurrence) → q ≡ r ∷ rs → queue_fate n t (length b) c q ≡ Passes
    → goes_on n dwell ws t (lists_with q b w y c) said ≡ goes_on n dwell ws t
    (lists_with rs (b ++ buffered t n.link (length b) r ∷ []) w y (c - VEHICLE_COST)) said
queue_passes_at n dwell ws t q rs b w y r c said e f = rw e (queue_passes n dwell ws t r rs b w y c said (rw e at f))

pub wait_stops_at : (n : LinkNumbers) (dwell : Dwelling) (ws : List Waiter) (t : ℕ) (q w rs b y : List Row) (r : Row) (c : ℕ)
    (said later : List Occurrence) (v : VehicleState)
    → w ≡ r ∷ rs → queue_fate n t (length b) c q ≡ Stays → wait_fate n (length b) c w ≡ Stops → v ≡ r.vehicle → later ≡ said ++ starts r
    → goes_on n dwell ws t (lists_with q b w y c) said ≡ record { turn = Stop v; lists = lists_with q b rs y c; told = later }
wait_stops_at n dwell ws t q w rs b y r c said later v e s f g h = rw (e, g, h) (wait_stops n dwell ws t r q rs b y c said s (rw e at f))

pub wait_arrives_at : (n : LinkNumbers) (dwell : Dwelling) (ws : List Waiter) (t : ℕ) (q w rs b y : List Row) (r : Row) (c : ℕ)
    (said started later : List Occurrence) (v : VehicleState)
    → w ≡ r ∷ rs → queue_fate n t (length b) c q ≡ Stays → wait_fate n (length b) c w ≡ Arrives → v ≡ r.vehicle → started
    ≡ said ++ starts r → later ≡ started ++ arrives r
    → goes_on n dwell ws t (lists_with q b w y c) said ≡ record { turn = Arrive v; lists = lists_with q b rs y c; told = later }
wait_arrives_at n dwell ws t q w rs b y r c said started later v e s f g h i = rw (e, g, i, h)
    (wait_arrives n dwell ws t r q rs b y c said s (rw e at f))

pub wait_passes_at : (n : LinkNumbers) (dwell : Dwelling) (ws : List Waiter) (t : ℕ) (q w rs b y : List Row) (r : Row) (c : ℕ)
    (said later : List Occurrence)
    → w ≡ r ∷ rs → queue_fate n t (length b) c q ≡ Stays → wait_fate n (length b) c w ≡ Passes → later ≡ said ++ starts r
    → goes_on n dwell ws t (lists_with q b w y c) said ≡ goes_on n dwell ws t
    (lists_with q (b ++ buffered t n.link (length b) r ∷ []) rs y (c - VEHICLE_COST)) later
wait_passes_at n dwell ws t q w rs b y r c said later e s f h = rw (e, h) (wait_passes n dwell ws t r q rs b y c said s (rw e at f))

-- ALONG A LOOP
abbrev pub Leads : LinkView → LinkView → ℕ → List Occurrence → List Occurrence → Type 0
Leads A B t s u = (dwell : Dwelling) (ws : List Waiter) → goes_on A.numbers dwell ws t A.lists s ≡ goes_on B.numbers dwell ws t B.lists u

abbrev pub Halts : LinkView → Outcome → ℕ → List Occurrence → Type 0
Halts A o t s = (dwell : Dwelling) (ws : List Waiter) → goes_on A.numbers dwell ws t A.lists s ≡ o

pub same_numbers : (B C : LinkView) → C ≡ record B { lists = C.lists } → C.numbers ≡ B.numbers
same_numbers B C e = ap (λ (V : LinkView). V.numbers) e

pub lists_only : (A B C : LinkView) → B ≡ record A { lists = B.lists } → C ≡ record B { lists = C.lists } → C ≡ record A { lists = C.lists }
lists_only A B C e f = f ∙ ap (λ (V : LinkView). let W : LinkView = record V { lists = C.lists } in W) e

pub leads_on : (A B C : LinkView) (t : ℕ) (s u x : List Occurrence) → Leads A B t s u → C ≡ record B { lists = C.lists }
    → ((dwell : Dwelling) (ws : List Waiter) → goes_on B.numbers dwell ws t B.lists u ≡ goes_on B.numbers dwell ws t C.lists x)
    → Leads A C t s x
leads_on A B C t s u x f e g = λ dwell ws. f dwell ws ∙ g dwell ws
    ∙ ap (λ (n : LinkNumbers). goes_on n dwell ws t C.lists x) (sym (same_numbers B C e))

pub leads_to_halt : (A B : LinkView) (o : Outcome) (t : ℕ) (s u : List Occurrence) → Leads A B t s u → Halts B o t u → Halts A o t s
leads_to_halt A B o t s u f g = λ dwell ws. f dwell ws ∙ g dwell ws

pub leads_then_halt : (A B : LinkView) (o : Outcome) (t : ℕ) (s u : List Occurrence) → B ≡ record A { lists = B.lists }
    → ((dwell : Dwelling) (ws : List Waiter) → goes_on A.numbers dwell ws t A.lists s ≡ goes_on A.numbers dwell ws t B.lists u)
    → Halts B o t u → Halts A o t s
leads_then_halt A B o t s u e f g = λ dwell ws. f dwell ws ∙ ap (λ (n : LinkNumbers). goes_on n dwell ws t B.lists u)
    (sym (same_numbers A B e)) ∙ g dwell ws

pub none_goes : (A : LinkView) (t : ℕ) (s : List Occurrence) → queue_fate A.numbers t (length A.lists.buffer) A.lists.credit A.lists.queue
    ≡ Stays → wait_fate A.numbers (length A.lists.buffer) A.lists.credit A.lists.wait ≡ Stays
    → Halts A (record { turn = Done; lists = A.lists; told = s }) t s
none_goes A t s e f = λ dwell ws. both_stay A.numbers dwell ws t A.lists.queue A.lists.buffer A.lists.wait A.lists.bay A.lists.credit s e f
