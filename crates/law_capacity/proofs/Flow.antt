-- What passes a link is paid from its credit.
use Rattle.traffic.proofs.Common.{◌≡◌, ℕ, List, ◌∙◌, length, ap, refl, sym, [], ◌∷◌, arith, ◌<◌, true, ◌++◌, ◌+◌, Bool, inl, inr, subst, ◌≤◌, suc, eqb, zero}
use Rattle.traffic.proofs.Common.{◌-◌, get_or, ◌≢◌, ◌*◌, cases_Bool, eqb-true, and_parts, eq-eqb, eqb-false, leb-true, sum_by-cons, flat_map, if◌then◌else◌}
use Rattle.traffic.proofs.Common.{nat_lt, nat_le, Phase, raised, VEHICLE_COST, link_turns, moves_of, after, turns_of, turns_in, world_start, through}
use Rattle.traffic.proofs.Common.{world_from, second, AreAt, IsAt, rules, link_state, waiting, LinkState, is_last, may_pass, link_moves, leave_bay, from_queue}
use Rattle.traffic.proofs.Common.{from_wait, wait_after, below, numbers, run, done, credit_after_all, credit_after, waiters, World, credit_of, gain_of, Setup}
use Rattle.traffic.proofs.{Common.calls_on, Common.left_behind, Common.nat_tests, Each.each_weaker, Links.link-at, Phases.phase_at_once, Sublists.credit-run}
use Rattle.traffic.proofs.{Turns.moves_of-map, Walks.credits_start, Walks.credits_day, Walks.phase_keeps}
use Rattle.traffic.specs.Worlds.{buffers_one, passing, link_turn_moves, passing_in, FlowKept}
use Rattle.traffic.specs.declared.moves.Move.{Move, TheVariants.Transfer, TheVariants.Credit}
use Rattle.traffic.specs.declared.{numbers.Rules.Rules, stage.Stage.TheVariants.Buffer, stage.Stage.TheVariants.Bay, world.Row.Row, world.Waiter.Waiter}
use Rattle.std.proofs.Common.{lit<, add-suc, add-zero, suc-mul}
use Rattle.std.{proofs.lemmas.List.get_or-replicate, proofs.lemmas.Nat.le-div, specs.List.AllByRecursion as Each}
use Rattle.events.specs.declared.event.Phase.TheVariants as phase
use Rattle.fixed_flow.{proofs.Gains.raised_within, specs.Flow.full_credit}
use Rattle.law_capacity.{proofs.Elsewhere.IsFree, proofs.Elsewhere.apart, specs.Moves.IsElsewhere}

-- CREDITS
-- THE TURN OF A LINK PAYS
-- from credit c on the moves leave of credit d what those who pass do not pay
unfoldable pub Leaves : ℕ → ℕ → ℕ → List Move → Type 0
Leaves l c d ms = credit_after_all l ms c + passing l ms * VEHICLE_COST ≡ d

leaves_none : (l c : ℕ) → Leaves l c c []
unfolding Leaves
leaves_none l c = omega arith

leaves_free : (l c d : ℕ) (m : Move) (ms : List Move) → credit_after l m c ≡ c → buffers_one l m ≡ 0 → Leaves l c d ms → Leaves l c d (m ∷ ms)
unfolding Leaves
leaves_free l c d m ms e f h = omega (arith, ap (credit_after_all l ms) e, sum_by-cons (buffers_one l) m ms)

leaves_one : (l c d : ℕ) (m : Move) (ms : List Move) → credit_after l m c ≡ c → buffers_one l m ≡ 1 → VEHICLE_COST ≤ d → Leaves l c (d - VEHICLE_COST) ms → Leaves l c d (m ∷ ms)
unfolding Leaves
leaves_one l c d m ms e f le h = omega (arith, ap (credit_after_all l ms) e, sum_by-cons (buffers_one l) m ms)

leaves_credit : (l c x d : ℕ) (ms : List Move) → Leaves l x d ms → Leaves l c d (Credit l x ∷ ms)
unfolding Leaves
leaves_credit l c x d ms h =
    let e : credit_after l (Credit l x) c ≡ x = (let f = eq-eqb l l refl in rw f refl) in
    omega (arith, ap (credit_after_all l ms) e, sum_by-cons (buffers_one l) (Credit l x) ms)

leaves_if : (l c d : ℕ) (b : Bool) (xs ys : List Move) → (b ≡ true → Leaves l c d xs) → Leaves l c d ys → Leaves l c d (if b then xs else ys)
leaves_if l c d b xs ys h g = elim (cases_Bool b) [ inl e ↦ rw e (h e) | inr e ↦ rw e g ]

one_here : (l : ℕ) → ◌≡◌ {A = ℕ} (if eqb l l then 1 else 0) 1
one_here l = let e = eq-eqb l l refl in rw e refl

can_pay : (K : Rules) (b c : ℕ) → may_pass K b c ≡ true → VEHICLE_COST ≤ c
can_pay K b c e = leb-true VEHICLE_COST c (and_parts (nat_lt b K.room) (nat_le VEHICLE_COST c) e).1

wait_pays : (K : Rules) (t l : ℕ) (ws : List Waiter) (b c : ℕ) (xs : List Row) → Leaves l c c (from_wait K t l ws b c xs)
unfolding from_wait
wait_pays K t l ws b c [] = leaves_none l c
wait_pays K t l ws b c (r ∷ rs) =
    let d = c - VEHICLE_COST in
    leaves_if l c c (calls_on l r.vehicle) _ _ (λ e. leaves_free l c c _ _ refl refl (wait_pays K t l (left_behind r.vehicle ws) b c rs))
    (leaves_if l c c (is_last r.vehicle) _ _ (λ e. leaves_free l c c _ _ refl refl (wait_pays K t l ws b c rs))
    (leaves_if l c c (may_pass K b c) _ _ (λ e. leaves_one l c c _ _ refl (one_here l) (can_pay K b c e) (leaves_credit l c d d _ (wait_pays K t l ws (b + 1) d rs))) (leaves_none l c)))

queue_pays : (K : Rules) (t l : ℕ) (ws : List Waiter) (b c : ℕ) (xs ys : List Row) → Leaves l c c (from_queue K t l ws b c xs ys)
unfolding from_queue
queue_pays K t l ws b c [] ys = wait_pays K t l ws b c ys
queue_pays K t l ws b c (r ∷ rs) ys =
    let d = c - VEHICLE_COST in
    leaves_if l c c (nat_lt t r.second) _ _ (λ e. wait_pays K t l ws b c ys)
    (leaves_if l c c (calls_on l r.vehicle) _ _ (λ e. leaves_free l c c _ _ refl refl (leaves_free l c c _ _ refl refl (queue_pays K t l (left_behind r.vehicle ws) b c rs ys)))
    (leaves_if l c c (is_last r.vehicle) _ _ (λ e. leaves_free l c c _ _ refl refl (leaves_free l c c _ _ refl refl (queue_pays K t l ws b c rs ys)))
    (leaves_if l c c (may_pass K b c) _ _ (λ e. leaves_one l c c _ _ refl (one_here l) (can_pay K b c e) (leaves_free l c d _ _ refl refl (leaves_credit l c d d _ (queue_pays K t l ws (b + 1) d rs ys))))
    (wait_pays K t l ws b c ys))))

bay_pays : (t l k c d : ℕ) (xs : List Row) (ms : List Move) → Leaves l c d ms → Leaves l c d (leave_bay t l k xs ++ ms)
unfolding leave_bay
bay_pays t l k c d [] ms h = h
bay_pays t l k c d (r ∷ rs) ms h =
    elim (cases_Bool (nat_le r.second t)) [ inl e ↦ rw e (leaves_free l c d (Transfer l Bay k r (waiting l r)) (leave_bay t l k rs ++ ms) refl refl (bay_pays t l k c d rs ms h)) | inr e ↦ rw e (bay_pays t l (k + 1) c d rs ms h) ]

link_pays : (K : Rules) (t l : ℕ) (ws : List Waiter) (L : LinkState) (c : ℕ) → Leaves l c (raised K.gain L.credit) (link_moves K t l ws L)
unfolding link_moves
link_pays K t l ws L c =
    let x = raised K.gain L.credit in
    bay_pays t l 0 c x L.bay _ (leaves_credit l c x x _ (queue_pays K t l ws (length L.buffer) x L.queue (wait_after t l L)))

-- ALL LINKS
credit_other : (l k : ℕ) (m : Move) (c : ℕ) → l ≢ k → IsAt k m → credit_after l m c ≡ c
credit_other l k (Credit a x) c ne h = grind (arith, nat_tests)
credit_other l k _ c ne h = refl

one_other : (l k : ℕ) (m : Move) → l ≢ k → IsAt k m → buffers_one l m ≡ 0
one_other l k (Transfer a s j was now) ne h = grind (arith, nat_tests, h.1)
one_other l k _ ne h = refl

-- the turn of another link pays nothing here
leaves_other : (l k c d : ℕ) (xs ys : List Move) → l ≢ k → AreAt k xs → Leaves l c d ys → Leaves l c d (xs ++ ys)
leaves_other l k c d [] ys ne h g = g
leaves_other l k c d (m ∷ xs) ys ne h g = leaves_free l c d m (xs ++ ys) (credit_other l k m c ne h.0) (one_other l k m ne h.0) (leaves_other l k c d xs ys ne h.1 g)

leaves_append : (l c d : ℕ) (xs ys : List Move) → Leaves l c d xs → ((e : ℕ) → Leaves l e e ys) → Leaves l c d (xs ++ ys)
unfolding Leaves
leaves_append l c d [] ys h g = let e = g c in omega arith
leaves_append l c d (m ∷ xs) ys h g =
    let s = sum_by-cons (buffers_one l) m xs in
    let f = sum_by-cons (buffers_one l) m (xs ++ ys) in
    omega (arith, leaves_append l (credit_after l m c) (d - buffers_one l m * VEHICLE_COST) xs ys (omega arith) g)

past_links : (S : Setup) (t l c k n : ℕ) (U : World) → l < k → Leaves l c c (flat_map (λ x. link_turns S t x U) (numbers k n))
past_links S t l c k zero U lt = leaves_none l c
past_links S t l c k (suc n) U lt = leaves_other l k c c (link_turns S t k U) _ (λ q. omega arith) (link-at S t k U) (past_links S t l c (k + 1) n U (omega arith))

all_links : (S : Setup) (t l c k n : ℕ) (U : World) → k ≤ l → l < k + n → Leaves l c (raised (gain_of S l) (credit_of l U)) (flat_map (λ x. link_turns S t x U) (numbers k n))
all_links S t l c k zero U le lt = absurd (omega arith)
all_links S t l c k (suc n) U le lt =
    let d = raised (gain_of S l) (credit_of l U) in
    elim (cases_Bool (eqb k l)) [
      | inl e ↦
          let q = eqb-true k l e in
          leaves_append l c d (link_turns S t k U) _
          (subst (λ (x : ℕ). Leaves l c d (link_turns S t x U)) (sym q) (link_pays (rules S l) t l (waiters S l U) (link_state l U) c))
          (λ x. past_links S t l x (k + 1) n U (omega arith))
      | inr e ↦
          let q : k ≢ l = eqb-false k l e in
          leaves_other l k c d (link_turns S t k U) _ (λ z. q (sym z)) (link-at S t k U) (all_links S t l c (k + 1) n U (omega arith) (omega arith))
    ]

-- SECONDS
free_run : (S : Setup) (t : ℕ) (ms : List Move) (W : World) → Each IsFree ms → (run S t ms W).credits ≡ W.credits
free_run S t [] W h = refl
free_run S t (m ∷ ms) W h = free_run S t ms (done S t m W) h.1 ∙ h.0 W.credits

phase_free : (S : Setup) (t : ℕ) (p : Phase) (W V : World) → p ≢ phase.D → V.credits ≡ W.credits → (after S t (turns_in S t p V) V).credits ≡ W.credits
phase_free S t p W V ne = phase_keeps (λ U. U.credits ≡ W.credits) S t p (λ n U lt e. free_run S t (turns_of S t p n U) U (each_weaker (λ m. IsElsewhere Buffer m × IsFree m) IsFree (λ m g. g.1) _ (apart S t n p U ne)) ∙ e) V

before_links : (S : Setup) (t : ℕ) (W : World) → (through S t (phase.A ∷ phase.B1 ∷ phase.B2 ∷ phase.C ∷ []) W).credits ≡ W.credits
unfolding through
before_links S t W = phase_free S t phase.C W _ (λ q. cc) (phase_free S t phase.B2 W _ (λ q. cc) (phase_free S t phase.B1 W _ (λ q. cc) (phase_free S t phase.A W W (λ q. cc) refl)))

turns_are : (S : Setup) (t : ℕ) (U : World) → moves_of (turns_in S t phase.D U) ≡ flat_map (λ l. link_turns S t l U) (below (length S.links))
unfolding turns_of
turns_are S t U = ap moves_of (phase_at_once S t phase.D U) ∙ moves_of-map (link_turns S t) U (below (length S.links))

pub second_pays : (S : Setup) (t l : ℕ) (W : World) → l < length S.links → length W.credits ≡ length S.links → credit_of l (second S t W) + passing l (link_turn_moves S t W) * VEHICLE_COST ≡ raised (gain_of S l) (credit_of l W)
unfolding through Leaves
second_pays S t l W lt e =
    let U = through S t (phase.A ∷ phase.B1 ∷ phase.B2 ∷ phase.C ∷ []) W in
    let ms = link_turn_moves S t W in
    let f : U.credits ≡ W.credits = before_links S t W in
    let g = ap length f in
    let within : l < length U.credits = omega arith in
    let h : Leaves l (credit_of l U) (raised (gain_of S l) (credit_of l U)) ms = subst (Leaves l (credit_of l U) (raised (gain_of S l) (credit_of l U))) (sym (turns_are S t U)) (all_links S t l (credit_of l U) 0 (length S.links) U (omega arith) (omega arith)) in
    ap (λ (c : ℕ). c + passing l ms * VEHICLE_COST) (credit-run S t l ms U within) ∙ h ∙ ap (λ (cs : List ℕ). raised (gain_of S l) (get_or cs l 0)) f

-- the credit of a link is never more than full
credit_full : (S : Setup) (l t : ℕ) → l < length S.links → credit_of l (world_from S (world_start S) t) ≤ full_credit (gain_of S l)
unfolding world_from world_start
credit_full S l zero lt = omega (arith, get_or-replicate (length S.links) l VEHICLE_COST 0 lt)
credit_full S l (suc t) lt =
    let W = world_from S (world_start S) t in
    omega (arith, raised_within (gain_of S l) (credit_of l W), second_pays S t l W lt (credits_day S (world_start S) t (credits_start S)))

raised_most : (c x : ℕ) → raised c x ≤ x + c
unfolding raised
raised_most c x = grind arith

-- seconds in a row are paid from the credit at their start and from their gains
window : (S : Setup) (W : World) (l t n : ℕ) → l < length S.links → length W.credits ≡ length S.links → passing_in S W l t n * VEHICLE_COST + credit_of l (world_from S W (t + n)) ≤ n * gain_of S l + credit_of l (world_from S W t)
unfolding passing_in world_from
window S W l t zero lt e = let f = ap (λ (k : ℕ). credit_of l (world_from S W k)) (add-zero t) in omega arith
window S W l t (suc n) lt e =
    let U = world_from S W (t + n) in
    let f : credit_of l (world_from S W (t + suc n)) ≡ credit_of l (second S (t + n) U) = ap (λ (k : ℕ). credit_of l (world_from S W k)) (add-suc t n) in
    let p = second_pays S (t + n) l U lt (credits_day S W (t + n) e) in
    omega (arith, suc-mul n (gain_of S l), window S W l t n lt e, raised_most (gain_of S l) (credit_of l U))

pub day_flow : (S : Setup) → FlowKept S (world_start S)
day_flow S l t n lt within =
    let W = world_start S in
    let w = window S W l t n lt (credits_start S) in
    le-div (passing_in S W l t n) (n * gain_of S l + full_credit (gain_of S l)) VEHICLE_COST (lit< tt) (omega (arith, credit_full S l t lt))
