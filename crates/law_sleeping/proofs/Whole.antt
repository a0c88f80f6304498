-- Whole seconds: places, buffers, lists.
use Rattle.std.proofs.Common.{◌≡◌, ◌≢◌, ℕ, zero, suc, ◌+◌, ◌-◌, ◌<◌, ◌≤◌, Bool, true, false, List, [], ◌∷◌, ◌++◌, length, refl, ap, sym, ◌∙◌, subst, arith, inl}
use Rattle.std.proofs.{Common.inr, Common.append-nil, Common.append_assoc, lemmas.Bool.cases_Bool, lemmas.Bool.ne_eqb, lemmas.Bool.eq-eqb}
use Rattle.std.specs.{List.AllByRecursion as Each, Prelude.replicate, Prelude.if◌then◌else◌, Prelude.◌⊎◌, Prelude.nat_le, Prelude.nat_lt}
use Rattle.events.specs.declared.event.Phase.TheVariants as phase
use Rattle.fixed_flow.specs.{Flow.raised, Flow.raised_times, declared.TheConstants.VEHICLE_COST}
use Rattle.traffic.proofs.{Links.untouched_all, Nodes.buffers-holes, Sublists.at_after-untouched, Sublists.holes-run}
use Rattle.traffic.specs.Day.{link_turns, turns_of, turns_in, moves_of, after, through, second, world_at, world_from, world_start}
use Rattle.traffic.specs.Frames.{IsAt, AreAt}
use Rattle.traffic.specs.Links.{LinkState, link_state, rules, leave_bay, is_last, may_pass, buffered, waiting, from_wait, from_queue, wait_after, link_moves}
use Rattle.traffic.specs.{Moves.same, Moves.at_after, Moves.at_after_all, Moves.credit_after, Nodes.next_link, Nodes.taken_at, Persons.waiters, Rows.World}
use Rattle.traffic.specs.{Rows.on, Rows.at, Rows.holes_at, Setup.Setup, Setup.link_row, Setup.hole_of, Stops.calls_on, Stops.left_behind, Stops.served_row}
use Rattle.traffic.specs.declared.moves.Move.{Move, TheVariants.Transfer, TheVariants.Remove, TheVariants.Credit, TheVariants.LeaveHole}
use Rattle.traffic.specs.declared.{numbers.Rules.Rules, stage.Stage.Stage, stage.Stage.TheVariants.Queue, stage.Stage.TheVariants.Buffer}
use Rattle.traffic.specs.declared.{stage.Stage.TheVariants.Wait, stage.Stage.TheVariants.Bay, world.Row.Row, world.Waiter.Waiter}
use Rattle.law_sleeping.proofs.{Marking.phase_behind, Marking.phase_links, OneLink.one_of, Places.links_free, Places.links_keep_places}
use Rattle.law_sleeping.proofs.{Places.nodes_keep_places, Places.run_places, Places.nodes_buffers, Resting.sleeps_moves, Sleep.link_state_run, Sleep.sleeps_on}
use Rattle.law_sleeping.proofs.{Starts.phase_moves, Starts.early_kept, Starts.early_holes, Starts.early_buffers, Waking.node_kept}
use Rattle.law_sleeping.specs.Marks.{IsBehind, Buffers, AreBehind, buffers_after, buffers_second}
use Rattle.law_sleeping.specs.Quiet.{Sleeps, link_state_after, link_state_after_all}
use Rattle.law_sleeping.specs.Waking.{NodeSleeps, SameFront, ForFront, IsRedUntil, NoneFree, NoneLeft}

-- PLACES
pub nodes_holes : (S : Setup) (t m : ℕ) (V : World) → holes_at m (after S t (turns_in S t phase.C V) V) ≡ holes_at m V
nodes_holes S t m V = holes-run S t m (moves_of (turns_in S t phase.C V)) V
    ∙ buffers-holes m (moves_of (turns_in S t phase.C V)) (holes_at m V) (nodes_buffers S t V)

pub second_places : (S : Setup) (t u m : ℕ) (W : World) → (u < t + hole_of S m) ⊎ (holes_at m (second S t W) ≡ holes_at m W)
    → taken_at S u m W ≤ taken_at S u m (second S t W)
unfolding through
second_places S t u m W why =
    let A = after S t (turns_in S t phase.A W) W in
    let B = after S t (turns_in S t phase.B1 A) A in
    let C = after S t (turns_in S t phase.B2 B) B in
    let D = after S t (turns_in S t phase.C C) C in
    let a = run_places S t u m (moves_of (turns_in S t phase.A W)) W (early_buffers S t phase.A W tt) in
    let b = run_places S t u m (moves_of (turns_in S t phase.B1 A)) A (early_buffers S t phase.B1 A tt) in
    let c = run_places S t u m (moves_of (turns_in S t phase.B2 B)) B (early_buffers S t phase.B2 B tt) in
    let d = nodes_keep_places S t u m C in
    let h : holes_at m D ≡ holes_at m W = nodes_holes S t m C ∙ early_holes S t m phase.B2 B tt ∙ early_holes S t m phase.B1 A tt
    ∙ early_holes S t m phase.A W tt in
    let e = links_keep_places S t u m D (elim why [ inl x ↦ inl x | inr x ↦ inr (x ∙ sym h) ]) in
    omega arith

-- HOLES
all_before : (t k : ℕ) (hs : List ℕ) → Each (λ (s : ℕ). s < t) hs → Each (λ (s : ℕ). s < suc t) (hs ++ replicate k t)
all_before t zero [] h = tt
all_before t (suc k) [] h = (omega arith, all_before t k [] tt)
all_before t k (s ∷ hs) h = (let z = h.0 in omega arith, all_before t k hs h.1)

pub second_holes : (S : Setup) (t m : ℕ) (W : World) → m < length S.links → Each (λ (s : ℕ). s < t) (holes_at m W)
    → Each (λ (s : ℕ). s < suc t) (holes_at m (second S t W))
unfolding through
second_holes S t m W lt h =
    let A = after S t (turns_in S t phase.A W) W in
    let B = after S t (turns_in S t phase.B1 A) A in
    let C = after S t (turns_in S t phase.B2 B) B in
    let D = after S t (turns_in S t phase.C C) C in
    let e : holes_at m D ≡ holes_at m W = nodes_holes S t m C ∙ early_holes S t m phase.B2 B tt ∙ early_holes S t m phase.B1 A tt
    ∙ early_holes S t m phase.A W tt in
    let f = links_free S t m D lt in
    let g : holes_at m (second S t W) ≡ holes_at m W ++ replicate f.0 t = f.1 ∙ ap (λ (hs : List ℕ). hs ++ replicate f.0 t) e in
    subst (λ (hs : List ℕ). Each (λ (s : ℕ). s < suc t) hs) (sym g) (all_before t f.0 (holes_at m W) h)

pub day_holes : (S : Setup) (t m : ℕ) → m < length S.links → Each (λ (s : ℕ). s < t) (holes_at m (world_at S t))
unfolding world_from world_start
day_holes S zero m lt = tt
day_holes S (suc t) m lt = second_holes S t m (world_at S t) lt (day_holes S t m lt)

-- a node sleeps on through a second
front_second : (S : Setup) (t less n : ℕ) (W : World) (xs : List Row) → ForFront (NoneLeft S (suc t) less W) xs
    → ForFront (NoneFree S (suc t) less n W (second S (suc t) W)) xs
front_second S t less n W [] h = tt
front_second S t less n W (r ∷ rs) h = λ from u low high. second_places S (suc t) u (next_link r.vehicle) W
    (elim h [ inl a ↦ inl (omega arith) | inr a ↦ inr a ])

pub node_second : (S : Setup) (t due less n : ℕ) (rows other : Buffers) (W : World) → less ≤ due
    → ((l : ℕ) → l < length S.links → (link_row S l).to ≡ n → IsRedUntil S (suc t) less l
    ⊎ (SameFront (rows l) (other l) × ForFront (NoneLeft S (suc t) less W) (rows l)))
    → NodeSleeps S t due n rows W → NodeSleeps S (suc t) less n other (second S (suc t) W)
node_second S t due less n rows other W le f h =
    node_kept S t due (suc t) less n rows other W (second S (suc t) W) (omega arith) le
    (λ l lt to. elim (f l lt to) [ inl r ↦ inl r | inr q ↦ inr (q.0, front_second S t less n W (rows l) q.1) ]) h

-- BUFFERS
wait_not : (s : Stage) → s ≡ Buffer → s ≢ Wait
wait_not s e q = cc

pub second_behind : (S : Setup) (t : ℕ) (rows : Buffers) (W : World) → ((l : ℕ) → l < length S.links → (link_row S l).to < S.nodes)
    → AreBehind S t rows W
    → AreBehind S (suc t) (buffers_second S t rows W) (second S t W)
unfolding through
second_behind S t rows W to h l lt =
    let A = after S t (turns_in S t phase.A W) W in
    let B = after S t (turns_in S t phase.B1 A) A in
    let C = after S t (turns_in S t phase.B2 B) B in
    let D = after S t (turns_in S t phase.C C) C in
    let no = wait_not Buffer refl in
    let e : (k : ℕ) → at k Buffer C ≡ at k Buffer W = λ k. early_kept S t k Buffer phase.B2 B tt no
    ∙ early_kept S t k Buffer phase.B1 A tt no ∙ early_kept S t k Buffer phase.A W tt no in
    let g : AreBehind S t rows C = λ k i. subst (λ (ys : List Row). IsBehind (S.green k) t (rows k) ys) (sym (e k)) (h k i) in
    phase_links S t l (buffers_after S t rows C l) D lt (phase_behind S t l rows C lt (to l lt) g)

-- what a link's turn puts into its buffer comes behind
record Adds (l : ℕ) (ms : List Move) : Type 0 where
  added : List Row
  behind : (xs : List Row) → at_after_all l Buffer ms xs ≡ xs ++ added

adds_none : (l : ℕ) → Adds l []
adds_none l = record { added = []; behind = λ xs. sym (append-nil xs) }

adds_if : (l : ℕ) (b : Bool) (ms ns : List Move) → Adds l ms → Adds l ns → Adds l (if b then ms else ns)
adds_if l b ms ns h g = elim b as (λ c. Adds l (if c then ms else ns)) [ true ↦ h | false ↦ g ]

adds_other : (l : ℕ) (x : Move) (ms : List Move) → ((xs : List Row) → at_after l Buffer x xs ≡ xs) → Adds l ms → Adds l (x ∷ ms)
adds_other l x ms e h = record { added = h.added; behind = λ xs. ap (at_after_all l Buffer ms) (e xs) ∙ h.behind xs }

adds_one : (l : ℕ) (x : Move) (now : Row) (ms : List Move) → ((xs : List Row) → at_after l Buffer x xs ≡ xs ++ now ∷ []) → Adds l ms
    → Adds l (x ∷ ms)
adds_one l x now ms e h = record {
  added = now ∷ h.added;
  behind = λ xs. ap (at_after_all l Buffer ms) (e xs) ∙ h.behind (xs ++ now ∷ [])
      ∙ append_assoc xs (now ∷ []) h.added;
}

into_buffer : (t l b k : ℕ) (z : Stage) (was r : Row) → same l Buffer l z ≡ false → (xs : List Row)
    → at_after l Buffer (Transfer l z k was (buffered t l b r)) xs ≡ xs ++ buffered t l b r ∷ []
into_buffer t l b k z was r e xs = let o : on l Buffer (buffered t l b r) ≡ true = eq-eqb l l refl in rw (e, o) refl

wait_adds : (K : Rules) (t l : ℕ) (ws : List Waiter) (b c : ℕ) (from : List Row) → Adds l (from_wait K t l ws b c from)
unfolding from_wait
wait_adds K t l ws b c [] = adds_none l
wait_adds K t l ws b c (r ∷ rs) =
    adds_if l (calls_on l r.vehicle) _ _ (adds_other l (Transfer l Wait 0 r (served_row K.dwell t l ws r.vehicle))
    (from_wait K t l (left_behind r.vehicle ws) b c rs) (λ xs. append-nil xs) (wait_adds K t l (left_behind r.vehicle ws) b c rs))
    (adds_if l (is_last r.vehicle) _ _ (adds_other l (Remove l Wait 0 r) (from_wait K t l ws b c rs) (λ xs. refl)
    (wait_adds K t l ws b c rs))
    (adds_if l (may_pass K b c) _ _
    (adds_one l (Transfer l Wait 0 r (buffered t l b r)) (buffered t l b r)
    (Credit l (c - VEHICLE_COST) ∷ from_wait K t l ws (b + 1) (c - VEHICLE_COST) rs) (into_buffer t l b 0 Wait r r refl)
    (adds_other l (Credit l (c - VEHICLE_COST)) (from_wait K t l ws (b + 1) (c - VEHICLE_COST) rs) (λ xs. refl)
    (wait_adds K t l ws (b + 1) (c - VEHICLE_COST) rs)))
    (adds_none l)))

queue_adds : (K : Rules) (t l : ℕ) (ws : List Waiter) (b c : ℕ) (from wait : List Row) → Adds l (from_queue K t l ws b c from wait)
unfolding from_queue
queue_adds K t l ws b c [] wait = wait_adds K t l ws b c wait
queue_adds K t l ws b c (r ∷ rs) wait =
    adds_if l (nat_lt t r.second) _ _ (wait_adds K t l ws b c wait)
    (adds_if l (calls_on l r.vehicle) _ _
    (adds_other l (Transfer l Queue 0 r (served_row K.dwell t l ws r.vehicle))
    (LeaveHole l t ∷ from_queue K t l (left_behind r.vehicle ws) b c rs wait) (λ xs. append-nil xs)
    (adds_other l (LeaveHole l t) (from_queue K t l (left_behind r.vehicle ws) b c rs wait) (λ xs. refl)
    (queue_adds K t l (left_behind r.vehicle ws) b c rs wait)))
    (adds_if l (is_last r.vehicle) _ _
    (adds_other l (Remove l Queue 0 r) (LeaveHole l t ∷ from_queue K t l ws b c rs wait) (λ xs. refl)
    (adds_other l (LeaveHole l t) (from_queue K t l ws b c rs wait) (λ xs. refl) (queue_adds K t l ws b c rs wait)))
    (adds_if l (may_pass K b c) _ _
    (adds_one l (Transfer l Queue 0 r (buffered t l b r)) (buffered t l b r)
    (LeaveHole l t ∷ Credit l (c - VEHICLE_COST) ∷ from_queue K t l ws (b + 1) (c - VEHICLE_COST) rs wait)
    (into_buffer t l b 0 Queue r r refl)
    (adds_other l (LeaveHole l t) (Credit l (c - VEHICLE_COST) ∷ from_queue K t l ws (b + 1) (c - VEHICLE_COST) rs wait) (λ xs. refl)
    (adds_other l (Credit l (c - VEHICLE_COST)) (from_queue K t l ws (b + 1) (c - VEHICLE_COST) rs wait) (λ xs. refl)
    (queue_adds K t l ws (b + 1) (c - VEHICLE_COST) rs wait))))
    (wait_adds K t l ws b c wait))))

bay_adds : (t l k : ℕ) (from : List Row) (ms : List Move) → Adds l ms → Adds l (leave_bay t l k from ++ ms)
unfolding leave_bay
bay_adds t l k [] ms h = h
bay_adds t l k (r ∷ rs) ms h =
    elim (cases_Bool (nat_le r.second t)) [
      | inl e ↦ rw e (adds_other l (Transfer l Bay k r (waiting l r)) (leave_bay t l k rs ++ ms) (λ xs. append-nil xs)
          (bay_adds t l k rs ms h))
      | inr e ↦ rw e (bay_adds t l (k + 1) rs ms h)
    ]

link_adds : (K : Rules) (t l : ℕ) (ws : List Waiter) (L : LinkState) → Adds l (link_moves K t l ws L)
unfolding link_moves
link_adds K t l ws L =
    let c = raised K.gain L.credit in
    let later = from_queue K t l ws (length L.buffer) c L.queue (wait_after t l L) in
    bay_adds t l 0 L.bay (Credit l c ∷ later) (adds_other l (Credit l c) later (λ xs. refl)
    (queue_adds K t l ws (length L.buffer) c L.queue (wait_after t l L)))

same_front : (xs ys : List Row) → xs ≢ [] → SameFront xs (xs ++ ys)
same_front [] ys ne = absurd (ne refl)
same_front (x ∷ xs) ys ne = refl

-- the front of a buffer stays in its link's turn
pub front_stays : (K : Rules) (t l : ℕ) (ws : List Waiter) (L : LinkState) (xs : List Row) → xs ≢ []
    → SameFront xs (at_after_all l Buffer (link_moves K t l ws L) xs)
front_stays K t l ws L xs ne = let a = link_adds K t l ws L in subst (SameFront xs) (sym (a.behind xs)) (same_front xs a.added ne)

-- LISTS
credit_other : (l a : ℕ) (m : Move) (c : ℕ) → a ≢ l → IsAt l m → credit_after a m c ≡ c
credit_other l a (Credit b d) c ne h = let e = ne_eqb b a (λ q. ne (sym q ∙ h)) in rw e refl
credit_other l a _ c ne h = refl

link_state_one : (l a : ℕ) (m : Move) (L : LinkState) → a ≢ l → IsAt l m → link_state_after a m L ≡ L
link_state_one l a m L ne h =
    let q = at_after-untouched a Queue m L.queue (untouched_all l a Queue (m ∷ []) ne (h, tt)).0 in
    let b = at_after-untouched a Buffer m L.buffer (untouched_all l a Buffer (m ∷ []) ne (h, tt)).0 in
    let w = at_after-untouched a Wait m L.wait (untouched_all l a Wait (m ∷ []) ne (h, tt)).0 in
    let y = at_after-untouched a Bay m L.bay (untouched_all l a Bay (m ∷ []) ne (h, tt)).0 in
    let c = credit_other l a m L.credit ne h in
    λ i. record { queue = q i; buffer = b i; wait = w i; bay = y i; credit = c i }

link_state_other : (l a : ℕ) (ms : List Move) (L : LinkState) → a ≢ l → AreAt l ms → link_state_after_all a ms L ≡ L
link_state_other l a [] L ne h = refl
link_state_other l a (m ∷ ms) L ne h = ap (link_state_after_all a ms) (link_state_one l a m L ne h.0) ∙ link_state_other l a ms L ne h.1

pub link_state_append : (l : ℕ) (xs ys : List Move) (L : LinkState) → link_state_after_all l (xs ++ ys) L
    ≡ link_state_after_all l ys (link_state_after_all l xs L)
link_state_append l [] ys L = refl
link_state_append l (x ∷ xs) ys L = link_state_append l xs ys (link_state_after l x L)

-- the lists of a link after all links had their turns is what its own turn made of it
pub links_link_state : (S : Setup) (t l : ℕ) (V : World) → l < length S.links → l < length V.credits
    → link_state l (after S t (turns_in S t phase.D V) V) ≡ link_state_after_all l (link_turns S t l V) (link_state l V)
unfolding turns_of
links_link_state S t l V lt long =
    link_state_run S t l (moves_of (turns_in S t phase.D V)) V long
    ∙ ap (λ (ms : List Move). link_state_after_all l ms (link_state l V)) (phase_moves S t phase.D V)
    ∙ one_of (link_state_after_all l) S t l V (link_state_append l) (λ a. link_state_other a l) 0 (length S.links) (link_state l V) (omega arith) (omega arith)

credit_alone : (l c : ℕ) (L : LinkState) → link_state_after_all l (Credit l c ∷ []) L ≡ record L { credit = c }
credit_alone l c L = let e = eq-eqb l l refl in rw e refl

-- a link sleeps on through the phase of links
pub link_second : (S : Setup) (blocked : Bool) (t due l : ℕ) (V : World) → l < length S.links → l < length V.credits → suc t < due
    → Sleeps (rules S l) blocked t due l (link_state l V)
    → (link_turns S (suc t) l V ≡ Credit l (raised (rules S l).gain (link_state l V).credit) ∷ [])
    × Sleeps (rules S l) blocked (suc t) due l (link_state l (after S (suc t) (turns_in S (suc t) phase.D V) V))
unfolding raised_times
link_second S blocked t due l V lt long early s =
    let K = rules S l in
    let L = link_state l V in
    let n : t + 1 ≡ suc t = omega arith in
    let m : link_moves K (t + 1) l (waiters S l V) L ≡ Credit l (raised K.gain L.credit) ∷ [] = sleeps_moves K blocked t due l 0
    (waiters S l V) L s (omega arith) in
    let e : link_turns S (suc t) l V ≡ Credit l (raised K.gain L.credit) ∷ [] = subst (λ (u : ℕ). link_moves K u l (waiters S l V) L
    ≡ Credit l (raised K.gain L.credit) ∷ []) n m in
    let f = links_link_state S (suc t) l V lt long ∙ ap (λ (ms : List Move). link_state_after_all l ms L) e
    ∙ credit_alone l (raised K.gain L.credit) L in
    (e, subst (Sleeps K blocked (suc t) due l) (sym f) (sleeps_on K blocked t due l L s))
