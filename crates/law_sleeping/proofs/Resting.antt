-- A link that has nothing to do raises its credit alone, and what others do leaves it so unless they wake it.
use Rattle.std.proofs.Common.{◌≡◌, ℕ, suc, ◌+◌, ◌<◌, ◌≤◌, Bool, true, false, List, [], ◌∷◌, ◌++◌, length, refl, ap, ◌∙◌, arith, inl, inr, append-nil}
use Rattle.std.proofs.lemmas.Bool.{cases_Bool, or_parts, and_left, and_right, or_from, lt-leb, le-ltb, lt-ltb, leb-true, leb-false}
use Rattle.std.specs.{List.AllByRecursion as Each, Prelude.map, Prelude.filter, Prelude.◌||◌, Prelude.◌⊎◌, Prelude.nat_le, Prelude.nat_lt}
use Rattle.fixed_flow.specs.{Flow.raised, Flow.raised_times, declared.TheConstants.VEHICLE_COST}
use Rattle.traffic.{proofs.Each.each_weaker, specs.Links.LinkState, specs.Links.leave_bay}
use Rattle.traffic.specs.{Links.is_last, Links.may_pass, Links.from_wait, Links.from_queue, Links.wait_after, Links.waiting, Links.link_moves, Stops.calls_on}
use Rattle.traffic.specs.declared.{moves.Move.TheVariants.Credit, numbers.Rules.Rules, world.Row.Row, world.Waiter.Waiter}
use Rattle.law_sleeping.specs.Quiet.{can_leave, queue_goes, wait_goes, IsQuiet, IsHeld, QueueSleeps, WaitSleeps, Sleeps, rested}

-- A QUIET LINK
bay_rest : (t l k : ℕ) (rows : List Row) → Each (λ (r : Row). t < r.second) rows → leave_bay t l k rows ≡ []
unfolding leave_bay
bay_rest t l k [] h = refl
bay_rest t l k (r ∷ rs) h = let e = lt-leb r.second t h.0 in rw e (bay_rest t l (k + 1) rs h.1)

none_due : (t : ℕ) (rows : List Row) → Each (λ (r : Row). t < r.second) rows → filter (λ (r : Row). nat_le r.second t) rows ≡ []
none_due t [] h = refl
none_due t (r ∷ rs) h = let e = lt-leb r.second t h.0 in simp e (none_due t rs h.1)

wait_rest : (K : Rules) (t l : ℕ) (ws : List Waiter) (b c : ℕ) (rows : List Row) → wait_goes K l b c rows ≡ false
    → from_wait K t l ws b c rows ≡ []
unfolding from_wait
wait_rest K t l ws b c [] h = refl
wait_rest K t l ws b c (r ∷ rs) h =
    let g = or_parts (calls_on l r.vehicle) (is_last r.vehicle || may_pass K b c) h in
    let f = or_parts (is_last r.vehicle) (may_pass K b c) g.1 in
    rw (g.0, f.0, f.1) refl

queue_rest : (K : Rules) (t l : ℕ) (ws : List Waiter) (b c : ℕ) (rows wait : List Row) → queue_goes K t l b c rows ≡ false
    → from_queue K t l ws b c rows wait ≡ from_wait K t l ws b c wait
unfolding from_queue
queue_rest K t l ws b c [] wait h = refl
queue_rest K t l ws b c (r ∷ rs) wait h =
    elim (cases_Bool (nat_le r.second t)) [
      | inl q ↦
          let e : nat_lt t r.second ≡ false = le-ltb t r.second (leb-true r.second t q) in
          let p : can_leave K l b c r ≡ false = rw q at h in
          let g = or_parts (calls_on l r.vehicle) (is_last r.vehicle || may_pass K b c) p in
          let f = or_parts (is_last r.vehicle) (may_pass K b c) g.1 in
          rw (e, g.0, f.0, f.1) refl
      | inr q ↦ let e : nat_lt t r.second ≡ true = lt-ltb t r.second (leb-false r.second t q) in rw e refl
    ]

pub link_rest : (K : Rules) (t l : ℕ) (ws : List Waiter) (L : LinkState) → IsQuiet K t l L → link_moves K t l ws L
    ≡ Credit l (raised K.gain L.credit) ∷ []
unfolding link_moves
link_rest K t l ws L q =
    let c = raised K.gain L.credit in
    let b = length L.buffer in
    let e = bay_rest t l 0 L.bay q.bay in
    let w : wait_after t l L ≡ L.wait = ap (λ (rows : List Row). L.wait ++ map (waiting l) rows) (none_due t L.bay q.bay)
    ∙ append-nil L.wait in
    let f = queue_rest K t l ws b c L.queue (wait_after t l L) q.queue in
    let g : from_wait K t l ws b c (wait_after t l L) ≡ [] = ap (from_wait K t l ws b c) w ∙ wait_rest K t l ws b c L.wait q.wait in
    rw (e, f, g) refl

-- A SLEEPING LINK IS QUIET
poor_pass : (K : Rules) (b c : ℕ) → (K.room ≤ b) ⊎ (c < VEHICLE_COST) → may_pass K b c ≡ false
poor_pass K b c (inl h) = and_left (nat_lt b K.room) (nat_le VEHICLE_COST c) (le-ltb b K.room h)
poor_pass K b c (inr h) = and_right (nat_lt b K.room) (nat_le VEHICLE_COST c) (lt-leb VEHICLE_COST c h)

held_stays : (K : Rules) (blocked : Bool) (t due l b c k : ℕ) (r : Row) → IsHeld K blocked t due l b c r → t + suc k < due
    → can_leave K l b (raised_times K.gain (suc k) c) r ≡ false
held_stays K blocked t due l b c k r h lt =
    let x = raised_times K.gain (suc k) c in
    let p = poor_pass K b x (elim h.2 [ inl a ↦ inl a.1 | inr a ↦ inr (a (suc k) (omega arith) lt) ]) in
    or_from (calls_on l r.vehicle) (is_last r.vehicle || may_pass K b x) h.0 (or_from (is_last r.vehicle) (may_pass K b x) h.1 p)

queue_stays : (K : Rules) (blocked : Bool) (t due l b c k : ℕ) (rows : List Row) → QueueSleeps K blocked t due l b c rows → t + suc k < due
    → queue_goes K (t + suc k) l b (raised_times K.gain (suc k) c) rows ≡ false
queue_stays K blocked t due l b c k [] h lt = refl
queue_stays K blocked t due l b c k (r ∷ rs) (inl h) lt = and_left (nat_le r.second (t + suc k))
    (can_leave K l b (raised_times K.gain (suc k) c) r) (lt-leb r.second (t + suc k) (omega arith))
queue_stays K blocked t due l b c k (r ∷ rs) (inr h) lt = and_right (nat_le r.second (t + suc k))
    (can_leave K l b (raised_times K.gain (suc k) c) r) (held_stays K blocked t due l b c k r h lt)

wait_stays : (K : Rules) (blocked : Bool) (t due l b c k : ℕ) (rows : List Row) → WaitSleeps K blocked t due l b c rows → t + suc k < due
    → wait_goes K l b (raised_times K.gain (suc k) c) rows ≡ false
wait_stays K blocked t due l b c k [] h lt = refl
wait_stays K blocked t due l b c k (r ∷ rs) h lt = held_stays K blocked t due l b c k r h lt

pub sleeps_quiet : (K : Rules) (blocked : Bool) (t due l k : ℕ) (L : LinkState) → Sleeps K blocked t due l L → t + suc k < due
    → IsQuiet K (t + suc k) l (rested K k L)
unfolding raised_times
sleeps_quiet K blocked t due l k L s lt =
    record {
      bay = each_weaker (λ (r : Row). due ≤ r.second) (λ (r : Row). t + suc k < r.second) (λ r h. omega arith) L.bay s.bay;
      queue = queue_stays K blocked t due l (length L.buffer) L.credit k L.queue s.queue lt;
      wait = wait_stays K blocked t due l (length L.buffer) L.credit k L.wait s.wait lt;
    }

pub sleeps_moves : (K : Rules) (blocked : Bool) (t due l k : ℕ) (ws : List Waiter) (L : LinkState) → Sleeps K blocked t due l L
    → t + suc k < due → link_moves K (t + suc k) l ws (rested K k L) ≡ Credit l (raised_times K.gain (suc k) L.credit) ∷ []
unfolding raised_times
sleeps_moves K blocked t due l k ws L s lt = link_rest K (t + suc k) l ws (rested K k L) (sleeps_quiet K blocked t due l k L s lt)
