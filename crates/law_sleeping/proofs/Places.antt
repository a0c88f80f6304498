-- No place of a link comes free in a second but by the holes that end.
use Rattle.std.proofs.Common.{◌≡◌, ◌≢◌, ℕ, zero, suc, ◌+◌, ◌-◌, ◌<◌, ◌≤◌, Bool, true, false, List, [], ◌∷◌, ◌++◌, length, refl, ap, sym, ◌∙◌, subst, eqb, arith}
use Rattle.std.proofs.Common.{inl, inr, append-nil, length-append}
use Rattle.std.proofs.lemmas.{Bool.cases_Bool, Bool.cases_lt, Bool.eqb-false, Bool.ne_eqb, Bool.eq-eqb, Bool.lt-ltb, List.Elements.filter-append}
use Rattle.std.specs.{List.flat_map, Prelude.filter, Prelude.if◌then◌else◌, Prelude.◌⊎◌, Prelude.replicate, Prelude.nat_le, Prelude.nat_lt}
use Rattle.events.specs.declared.event.Phase.TheVariants as phase
use Rattle.fixed_flow.specs.{Flow.raised, declared.TheConstants.VEHICLE_COST}
use Rattle.traffic.proofs.{Links.link-at, Links.untouched_all, Nodes.node-buffers, Nodes.buffers-holes, Phases.links_apart, Sublists.at-run, Sublists.holes-run}
use Rattle.traffic.proofs.Turns.{Distinct-numbers, at-phase, at-phase_one}
use Rattle.traffic.specs.{Day.node_turns, Day.link_turns, Day.turns_of, Day.turns_in, Day.moves_of, Day.after, Frames.AreFromBuffers, Frames.IsAt, Frames.AreAt}
use Rattle.traffic.specs.Links.{LinkState, link_state, rules, leave_bay, is_last, may_pass, buffered, waiting, from_wait, from_queue, wait_after, link_moves}
use Rattle.traffic.specs.{Lists.numbers, Lists.below, Moves.at_after, Moves.at_after_all, Moves.hole_after, Moves.hole_after_all, Moves.run, Nodes.in_force}
use Rattle.traffic.specs.{Nodes.taken_at, Persons.waiters, Rows.World, Rows.on, Rows.at, Rows.holes_at, Setup.Setup, Setup.hole_of, Stops.calls_on}
use Rattle.traffic.specs.{Stops.left_behind, Stops.served_row, declared.moves.Move.Move}
use Rattle.traffic.specs.declared.moves.Move.TheVariants.{Transfer, Remove, Enter, SetFrontSince, Credit, LeaveHole, Report}
use Rattle.traffic.specs.declared.{numbers.Rules.Rules, stage.Stage.TheVariants.Queue, stage.Stage.TheVariants.Wait, stage.Stage.TheVariants.Bay}
use Rattle.traffic.specs.declared.world.{Row.Row, Waiter.Waiter}
use Rattle.law_sleeping.proofs.{OneLink.none_of, OneLink.one_of, Starts.phase_moves}

-- A LINK'S OWN TURN
-- rows leave this queue, each for a hole
record Frees (m t : ℕ) (ms : List Move) (xs : List Row) : Type 0 where
  count : ℕ
  left : length (at_after_all m Queue ms xs) + count ≡ length xs
  holes : (hs : List ℕ) → hole_after_all m ms hs ≡ hs ++ replicate count t

none_frees : (m t : ℕ) (ms : List Move) (xs : List Row) → at_after_all m Queue ms xs ≡ xs → ((hs : List ℕ) → hole_after_all m ms hs ≡ hs)
    → Frees m t ms xs
none_frees m t ms xs e f = record {
  count = 0;
  left = (let z = ap (λ (ys : List Row). length ys) e in omega arith);
  holes = λ hs. f hs
      ∙ sym (append-nil hs);
}

frees_if : (m t : ℕ) (b : Bool) (ms ns : List Move) (xs : List Row) → Frees m t ms xs → Frees m t ns xs
    → Frees m t (if b then ms else ns) xs
frees_if m t b ms ns xs h g = elim b as (λ c. Frees m t (if c then ms else ns) xs) [ true ↦ h | false ↦ g ]

-- a move that leaves the queue and the holes
frees_other : (m t : ℕ) (x : Move) (ms : List Move) (xs : List Row) → at_after m Queue x xs ≡ xs → ((hs : List ℕ) → hole_after m x hs ≡ hs)
    → Frees m t ms xs → Frees m t (x ∷ ms) xs
frees_other m t x ms xs e f h =
    record {
      count = h.count;
      left = (let z = ap (λ (ys : List Row). length (at_after_all m Queue ms ys)) e in let y = h.left in omega
          arith);
      holes = λ hs. ap (hole_after_all m ms) (f hs) ∙ h.holes hs;
    }

replicate_more : (hs : List ℕ) (k t : ℕ) → (hs ++ t ∷ []) ++ replicate k t ≡ hs ++ replicate (suc k) t
replicate_more [] k t = refl
replicate_more (h ∷ hs) k t = ap (λ (xs : List ℕ). h ∷ xs) (replicate_more hs k t)

frees_one : (m t : ℕ) (x : Move) (ms : List Move) (r : Row) (rs : List Row) → at_after m Queue x (r ∷ rs) ≡ rs
    → ((hs : List ℕ) → hole_after m x hs ≡ hs) → Frees m t ms rs → Frees m t (x ∷ LeaveHole m t ∷ ms) (r ∷ rs)
frees_one m t x ms r rs e f h =
    let q = eq-eqb m m refl in
    let g : (hs : List ℕ) → hole_after m (LeaveHole m t) hs ≡ hs ++ t ∷ [] = λ hs. rw q refl in
    record {
      count = suc h.count;
      left = (let z = ap (λ (ys : List Row). length (at_after_all m Queue ms ys)) e in let y = h.left in omega arith);
      holes = λ hs. ap (λ (ys : List ℕ). hole_after_all m ms (hole_after m (LeaveHole m t) ys)) (f hs) ∙ ap (hole_after_all m ms) (g hs)
          ∙ h.holes (hs ++ t ∷ []) ∙ replicate_more hs h.count t;
    }

-- a row of the queue goes to another stage
out_of_queue : (m : ℕ) (r now : Row) (rs : List Row) → on m Queue now ≡ false → at_after m Queue (Transfer m Queue 0 r now) (r ∷ rs) ≡ rs
out_of_queue m r now rs e = let q = eq-eqb m m refl in rw (q, e) (append-nil rs)

removed_from_queue : (m : ℕ) (r : Row) (rs : List Row) → at_after m Queue (Remove m Queue 0 r) (r ∷ rs) ≡ rs
removed_from_queue m r rs = let q = eq-eqb m m refl in rw q refl

wait_frees : (K : Rules) (t m : ℕ) (ws : List Waiter) (b c : ℕ) (from xs : List Row) → Frees m t (from_wait K t m ws b c from) xs
unfolding from_wait
wait_frees K t m ws b c [] xs = none_frees m t [] xs refl (λ hs. refl)
wait_frees K t m ws b c (r ∷ rs) xs =
    frees_if m t (calls_on m r.vehicle) _ _ xs (frees_other m t (Transfer m Wait 0 r (served_row K.dwell t m ws r.vehicle))
    (from_wait K t m (left_behind r.vehicle ws) b c rs) xs (append-nil xs) (λ hs. refl)
    (wait_frees K t m (left_behind r.vehicle ws) b c rs xs))
    (frees_if m t (is_last r.vehicle) _ _ xs (frees_other m t (Remove m Wait 0 r) (from_wait K t m ws b c rs) xs refl (λ hs. refl)
    (wait_frees K t m ws b c rs xs))
    (frees_if m t (may_pass K b c) _ _ xs
    (frees_other m t (Transfer m Wait 0 r (buffered t m b r))
    (Credit m (c - VEHICLE_COST) ∷ from_wait K t m ws (b + 1) (c - VEHICLE_COST) rs) xs (append-nil xs) (λ hs. refl)
    (frees_other m t (Credit m (c - VEHICLE_COST)) (from_wait K t m ws (b + 1) (c - VEHICLE_COST) rs) xs refl (λ hs. refl)
    (wait_frees K t m ws (b + 1) (c - VEHICLE_COST) rs xs)))
    (none_frees m t [] xs refl (λ hs. refl))))

queue_frees : (K : Rules) (t m : ℕ) (ws : List Waiter) (b c : ℕ) (xs wait : List Row) → Frees m t (from_queue K t m ws b c xs wait) xs
unfolding from_queue
queue_frees K t m ws b c [] wait = wait_frees K t m ws b c wait []
queue_frees K t m ws b c (r ∷ rs) wait =
    let more = wait_frees K t m ws b c wait (r ∷ rs) in
    frees_if m t (nat_lt t r.second) _ _ (r ∷ rs) more
    (frees_if m t (calls_on m r.vehicle) _ _ (r ∷ rs)
    (frees_one m t (Transfer m Queue 0 r (served_row K.dwell t m ws r.vehicle)) (from_queue K t m (left_behind r.vehicle ws) b c rs wait) r
    rs (out_of_queue m r (served_row K.dwell t m ws r.vehicle) rs refl) (λ hs. refl)
    (queue_frees K t m (left_behind r.vehicle ws) b c rs wait))
    (frees_if m t (is_last r.vehicle) _ _ (r ∷ rs)
    (frees_one m t (Remove m Queue 0 r) (from_queue K t m ws b c rs wait) r rs (removed_from_queue m r rs) (λ hs. refl)
    (queue_frees K t m ws b c rs wait))
    (frees_if m t (may_pass K b c) _ _ (r ∷ rs)
    (frees_one m t (Transfer m Queue 0 r (buffered t m b r))
    (Credit m (c - VEHICLE_COST) ∷ from_queue K t m ws (b + 1) (c - VEHICLE_COST) rs wait) r rs
    (out_of_queue m r (buffered t m b r) rs refl) (λ hs. refl)
    (frees_other m t (Credit m (c - VEHICLE_COST)) (from_queue K t m ws (b + 1) (c - VEHICLE_COST) rs wait) rs refl (λ hs. refl)
    (queue_frees K t m ws (b + 1) (c - VEHICLE_COST) rs wait)))
    more)))

bay_frees : (t m k : ℕ) (from : List Row) (ms : List Move) (xs : List Row) → Frees m t ms xs → Frees m t (leave_bay t m k from ++ ms) xs
unfolding leave_bay
bay_frees t m k [] ms xs h = h
bay_frees t m k (r ∷ rs) ms xs h =
    elim (cases_Bool (nat_le r.second t)) [
      | inl e ↦ rw e (frees_other m t (Transfer m Bay k r (waiting m r)) (leave_bay t m k rs ++ ms) xs (append-nil xs) (λ hs. refl)
          (bay_frees t m k rs ms xs h))
      | inr e ↦ rw e (bay_frees t m (k + 1) rs ms xs h)
    ]

link_frees : (K : Rules) (t m : ℕ) (ws : List Waiter) (L : LinkState) → Frees m t (link_moves K t m ws L) L.queue
unfolding link_moves
link_frees K t m ws L =
    let c = raised K.gain L.credit in
    let later = from_queue K t m ws (length L.buffer) c L.queue (wait_after t m L) in
    bay_frees t m 0 L.bay (Credit m c ∷ later) L.queue (frees_other m t (Credit m c) later L.queue refl (λ hs. refl)
    (queue_frees K t m ws (length L.buffer) c L.queue (wait_after t m L)))

-- HOLES
force_more : (u h : ℕ) (hs gs : List ℕ) → in_force u h (hs ++ gs) ≡ in_force u h hs + in_force u h gs
force_more u h hs gs = ap (λ (xs : List ℕ). length xs) (filter-append (λ s. nat_lt u (s + h)) hs gs)
    ∙ length-append (filter (λ s. nat_lt u (s + h)) hs) (filter (λ s. nat_lt u (s + h)) gs)

force_all : (u h t k : ℕ) → u < t + h → in_force u h (replicate k t) ≡ k
force_all u h t zero lt = refl
force_all u h t (suc k) lt = let q = lt-ltb u (t + h) lt in let r = force_all u h t k lt in simp q (ap suc r)

holes_append : (m : ℕ) (xs ys : List Move) (hs : List ℕ) → hole_after_all m (xs ++ ys) hs ≡ hole_after_all m ys (hole_after_all m xs hs)
holes_append m [] ys hs = refl
holes_append m (x ∷ xs) ys hs = holes_append m xs ys (hole_after m x hs)

-- the turn of another link frees nothing here
other_hole : (l m : ℕ) (x : Move) (hs : List ℕ) → m ≢ l → IsAt l x → hole_after m x hs ≡ hs
other_hole l m (LeaveHole a u) hs ne h = let e = ne_eqb a m (λ q. ne (sym q ∙ h)) in rw e refl
other_hole l m _ hs ne h = refl

other_holes : (l m : ℕ) (ms : List Move) (hs : List ℕ) → m ≢ l → AreAt l ms → hole_after_all m ms hs ≡ hs
other_holes l m [] hs ne h = refl
other_holes l m (x ∷ ms) hs ne h = ap (hole_after_all m ms) (other_hole l m x hs ne h.0) ∙ other_holes l m ms hs ne h.1

-- the holes and the queue after the phase of links
links_holes : (S : Setup) (t m : ℕ) (V : World) → m < length S.links → holes_at m (after S t (turns_in S t phase.D V) V)
    ≡ hole_after_all m (link_turns S t m V) (holes_at m V)
unfolding turns_of
links_holes S t m V lt =
    holes-run S t m (moves_of (turns_in S t phase.D V)) V
    ∙ ap (λ (ms : List Move). hole_after_all m ms (holes_at m V)) (phase_moves S t phase.D V)
    ∙ one_of (hole_after_all m) S t m V (holes_append m) (λ l. other_holes l m) 0 (length S.links) (holes_at m V) (omega arith) (omega arith)

links_queue : (S : Setup) (t m : ℕ) (V : World) → m < length S.links → at m Queue (after S t (turns_in S t phase.D V) V)
    ≡ at_after_all m Queue (link_turns S t m V) (at m Queue V)
unfolding turns_in turns_of
links_queue S t m V lt =
    at-phase_one S t (link_turns S t) (links_apart S t) m (length S.links) m Queue V lt
    (λ l q. untouched_all l m Queue (link_turns S t l V) (λ i. eqb-false l m q (sym i)) (link-at S t l V))

-- all holes that a second leaves are of that second
pub links_free : (S : Setup) (t m : ℕ) (V : World) → m < length S.links → (k : ℕ)
    × (holes_at m (after S t (turns_in S t phase.D V) V) ≡ holes_at m V ++ replicate k t)
links_free S t m V lt =
    let f = link_frees (rules S m) t m (waiters S m V) (link_state m V) in
    (f.count, links_holes S t m V lt ∙ f.holes (holes_at m V))

longer_none : (hs : List ℕ) (k t : ℕ) → hs ++ replicate k t ≡ hs → k ≡ 0
longer_none hs zero t e = refl
longer_none hs (suc k) t e = let a = length-append hs (replicate (suc k) t) in let b = ap (λ (xs : List ℕ). length xs) e in let c : length
    (replicate (suc k) t) ≡ suc (length (replicate k t)) = refl in absurd (omega arith)

links_keep_within : (S : Setup) (t u m : ℕ) (V : World) → m < length S.links → (u < t + hole_of S m)
    ⊎ (holes_at m (after S t (turns_in S t phase.D V) V) ≡ holes_at m V)
    → taken_at S u m V ≡ taken_at S u m (after S t (turns_in S t phase.D V) V)
links_keep_within S t u m V lt why =
    let f = link_frees (rules S m) t m (waiters S m V) (link_state m V) in
    let q = ap (λ (xs : List Row). length xs) (links_queue S t m V lt) in
    let n = f.left in
    let g : holes_at m (after S t (turns_in S t phase.D V) V) ≡ holes_at m V ++ replicate f.count t = links_holes S t m V lt
    ∙ f.holes (holes_at m V) in
    let i = ap (in_force u (hole_of S m)) g ∙ force_more u (hole_of S m) (holes_at m V) (replicate f.count t) in
    elim why [
      | inl lt ↦ let a = force_all u (hole_of S m) t f.count lt in omega arith
      | inr e ↦
          let z = longer_none (holes_at m V) f.count t (sym g ∙ e) in
          let a : in_force u (hole_of S m) (replicate f.count t)
          ≡ 0 = ap (λ (k : ℕ). in_force u (hole_of S m) (replicate k t)) z in omega arith
    ]

-- of a number behind all links no turn changes anything
numbers_none : (m k count : ℕ) → k + count ≤ m → filter (λ y. eqb y m) (numbers k count) ≡ []
numbers_none m k zero le = refl
numbers_none m k (suc count) le = let e = ne_eqb k m (λ q. omega arith) in simp e (numbers_none m (k + 1) count (omega arith))

beyond_holes : (S : Setup) (t m : ℕ) (V : World) → length S.links ≤ m → holes_at m (after S t (turns_in S t phase.D V) V) ≡ holes_at m V
unfolding turns_of
beyond_holes S t m V le =
    holes-run S t m (moves_of (turns_in S t phase.D V)) V
    ∙ ap (λ (ms : List Move). hole_after_all m ms (holes_at m V)) (phase_moves S t phase.D V)
    ∙ none_of (hole_after_all m) S t m V (holes_append m) (λ l. other_holes l m) 0 (length S.links) (holes_at m V) (λ l low high same. omega arith)

beyond_queue : (S : Setup) (t m : ℕ) (V : World) → length S.links ≤ m → at m Queue (after S t (turns_in S t phase.D V) V) ≡ at m Queue V
unfolding turns_in turns_of
beyond_queue S t m V le =
    at-phase S t (link_turns S t) (links_apart S t) (λ y. eqb y m) m Queue V
    (λ l q. untouched_all l m Queue (link_turns S t l V) (λ i. eqb-false l m q (sym i)) (link-at S t l V)) (below (length S.links))
    (Distinct-numbers 0 (length S.links))
    ∙ ap (λ (ns : List ℕ). at_after_all m Queue (flat_map (λ l. link_turns S t l V) ns) (at m Queue V))
    (numbers_none m 0 (length S.links) (omega arith))

pub links_keep_places : (S : Setup) (t u m : ℕ) (V : World) → (u < t + hole_of S m)
    ⊎ (holes_at m (after S t (turns_in S t phase.D V) V) ≡ holes_at m V)
    → taken_at S u m V ≡ taken_at S u m (after S t (turns_in S t phase.D V) V)
links_keep_places S t u m V why =
    elim (cases_lt m (length S.links)) [
      | inl lt ↦ links_keep_within S t u m V lt why
      | inr le ↦
          let q = ap (λ (xs : List Row). length xs) (beyond_queue S t m V le) in
          let h = ap (in_force u (hole_of S m)) (beyond_holes S t m V le) in omega arith
    ]

-- THE OTHER PHASES
move_longer : (m : ℕ) (x : Move) (ms : List Move) (xs : List Row) → AreFromBuffers (x ∷ ms) → length xs ≤ length (at_after m Queue x xs)
move_longer m (Transfer a s k was now) ms xs h = let e = h.0 in let z = length-append xs (if on m Queue now then now ∷ [] else []) in rw e
    (omega arith)
move_longer m (Remove a s k was) ms xs h = let e = h.0 in rw e (omega arith)
move_longer m (Enter now) ms xs h = let z = length-append xs (if on m Queue now then now ∷ [] else []) in omega arith
move_longer m (SetFrontSince a u) ms xs h = omega arith
move_longer m (Credit a c) ms xs h = absurd h.0
move_longer m (LeaveHole a u) ms xs h = absurd h.0
move_longer m (Report says) ms xs h = omega arith

rest_buffers : (x : Move) (ms : List Move) → AreFromBuffers (x ∷ ms) → AreFromBuffers ms
rest_buffers x ms h = h.1

moves_longer : (m : ℕ) (ms : List Move) (xs : List Row) → AreFromBuffers ms → length xs ≤ length (at_after_all m Queue ms xs)
moves_longer m [] xs h = omega arith
moves_longer m (x ∷ ms) xs h = let a = move_longer m x ms xs h in let b = moves_longer m ms (at_after m Queue x xs) (rest_buffers x ms h)
    in omega arith

pub run_places : (S : Setup) (t u m : ℕ) (ms : List Move) (V : World) → AreFromBuffers ms → taken_at S u m V ≤ taken_at S u m (run S t ms V)
run_places S t u m ms V h =
    let a = moves_longer m ms (at m Queue V) h in
    let b = ap (λ (xs : List Row). length xs) (at-run S t m Queue ms V) in
    let c = ap (in_force u (hole_of S m)) (holes-run S t m ms V ∙ buffers-holes m ms (holes_at m V) h) in omega arith

from_buffers_append : (xs ys : List Move) → AreFromBuffers xs → AreFromBuffers ys → AreFromBuffers (xs ++ ys)
from_buffers_append [] ys h g = g
from_buffers_append (x ∷ xs) ys h g = (h.0, from_buffers_append xs ys h.1 g)

nodes_flat : (S : Setup) (t : ℕ) (V : World) (ns : List ℕ) → AreFromBuffers (flat_map (λ n. node_turns S t n V) ns)
nodes_flat S t V [] = tt
nodes_flat S t V (n ∷ ns) = from_buffers_append (node_turns S t n V) _ (node-buffers S t n V) (nodes_flat S t V ns)

pub nodes_buffers : (S : Setup) (t : ℕ) (V : World) → AreFromBuffers (moves_of (turns_in S t phase.C V))
unfolding turns_of
nodes_buffers S t V = subst AreFromBuffers (sym (phase_moves S t phase.C V)) (nodes_flat S t V (below S.nodes))

pub nodes_keep_places : (S : Setup) (t u m : ℕ) (V : World) → taken_at S u m V ≤ taken_at S u m (after S t (turns_in S t phase.C V) V)
nodes_keep_places S t u m V = run_places S t u m (moves_of (turns_in S t phase.C V)) V (nodes_buffers S t V)
