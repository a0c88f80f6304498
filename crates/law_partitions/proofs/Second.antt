-- One second of a part that is short of rows which are not due: its nodes and links do what they do in the day.
use Rattle.traffic.proofs.Common.{◌≡◌, ℕ, List, ◌∙◌, length, ap, refl, sym, [], ◌∷◌, arith, ◌<◌, true, ◌++◌, ◌+◌, Bool, inl, inr, ◌≤◌, false, suc, eqb, zero}
use Rattle.traffic.proofs.Common.{◌-◌, drop, append-nil, append_assoc, length-append, take, fun_ext, cases_Bool, eqb-true, eqb-false, flat_map, map, filter}
use Rattle.traffic.proofs.Common.{Some, Event, free_seconds, link_turns, moves_of, node_turns, after, turns_of, turns_in, events_in, sees, Untouched, turn_of}
use Rattle.traffic.proofs.Common.{rules, link_state, LinkState, link_moves, below, numbers, at_after_all, credit_after_all, hole_after_all, NodeView, in_link}
use Rattle.traffic.proofs.Common.{node_view, node_moves, taken_at, waiter, waiters, World, person_of, at, credit_of, Setup, link_row, seconds_of, storage_of}
use Rattle.traffic.proofs.{Common.into, Each.each_append, Links.link-at, Links.untouched_all, Nodes.node_untouched, Nodes.buffers-credit}
use Rattle.traffic.proofs.{Sublists.Untouched-append, Sublists.at_after_all-untouched, Sublists.at-run, Turns.moves_of-map, Turns.at_after_all-filter}
use Rattle.traffic.{proofs.Turns.filter_one, proofs.Waiting.run-length, specs.declared.moves.Move.Move, specs.declared.stage.Stage.Stage}
use Rattle.traffic.specs.declared.stage.Stage.TheVariants.{Queue, Buffer, Wait, Bay}
use Rattle.traffic.specs.declared.world.{Person.Person, Row.Row}
use Rattle.std.proofs.Math.Seq.{take-append_seam}
use Rattle.events.specs.declared.event.Phase.TheVariants as phase
use Rattle.parts.specs.{Owners.Owner, Owners.owner_of, Owners.begins_in, Parts.Held, Parts.mine, Parts.freed}
use Rattle.law_partitions.proofs.Handed.{AreHanded, nodes-handed, entered, handed-adds, handed-credit, handed-from, handed-waits, handed-buffers, From-late}
use Rattle.law_partitions.proofs.{Late.Late, Late.link_moves_late, Late.link_moves-leaves, Quiet.Quiet, Quiet.person_moves, Quiet.person-run}
use Rattle.law_partitions.proofs.{Quiet.person-filter, Quiet.opt_moves, Quiet.person-held, Turns.map_mine, Turns.not_mine, Turns.eqb_turn}
use Rattle.law_partitions.{proofs.Turns.phase_events_mine, proofs.Turns.phase_moves, proofs.Turns.at-mine, specs.Alone.held_done}
use Rattle.law_partitions.specs.Alone.{held_run, taken_here, in_link_here, see, state_here, waiter_here, waiters_here, my_nodes, my_links, C_part, D_part}

-- THE DAY'S PHASES C AND D
abbrev pub C_world : Setup → ℕ → World → World
C_world S t W = after S t (turns_in S t phase.C W) W

abbrev pub D_world : Setup → ℕ → World → World
D_world S t U = after S t (turns_in S t phase.D U) U

abbrev pub C_moves : Setup → ℕ → World → List Move
C_moves S t W = moves_of (turns_in S t phase.C W)

abbrev pub D_moves : Setup → ℕ → World → List Move
D_moves S t U = moves_of (turns_in S t phase.D U)

-- what phase C puts into the queue of link l, and how many rows phase D takes out of it
abbrev pub came_in : Setup → ℕ → World → ℕ → List Row
came_in S t W l = entered l (C_moves S t W)

abbrev pub went_in : Setup → ℕ → World → ℕ → ℕ
went_in S t U l = freed l (D_moves S t U)

abbrev pub next : Setup → ℕ → World → World
next S t W = D_world S t (C_world S t W)

pub C_moves-are : (S : Setup) (t : ℕ) (W : World) → C_moves S t W ≡ flat_map (λ n. node_turns S t n W) (below S.nodes)
unfolding turns_of
C_moves-are S t W = phase_moves S t phase.C W

pub D_moves-are : (S : Setup) (t : ℕ) (U : World) → D_moves S t U ≡ flat_map (λ l. link_turns S t l U) (below (length S.links))
unfolding turns_of
D_moves-are S t U = phase_moves S t phase.D U

pub C-handed : (S : Setup) (t : ℕ) (W : World) → AreHanded S t (C_moves S t W)
C-handed S t W = rw (C_moves-are S t W) (nodes-handed S t W (below S.nodes))

-- the day's queue after phase C is the one before, and behind it what came
pub C-came : (S : Setup) (t l : ℕ) (W : World) → at l Queue (C_world S t W) ≡ at l Queue W ++ came_in S t W l
C-came S t l W = at-run S t l Queue (C_moves S t W) W ∙ handed-adds S t l (C_moves S t W) (at l Queue W) (C-handed S t W)

pub came_late : (S : Setup) (t l : ℕ) (W : World) → Late t (came_in S t W l)
unfolding free_seconds
came_late S t l W = From-late (t + seconds_of S l) t (came_in S t W l) (omega arith) (handed-from S t l (C_moves S t W) (C-handed S t W))

pub C-list : (S : Setup) (t : ℕ) (mine : ℕ → Bool) (l : ℕ) (s : Stage) (W : World) → ((n : ℕ) → mine n ≡ false → sees S n l s ≡ false) →
    at l s (C_world S t W) ≡ at_after_all l s (flat_map (λ n. node_turns S t n W) (filter mine (below S.nodes))) (at l s W)
unfolding turns_of
C-list S t mine l s W h = at-mine S t phase.C mine l s W (λ n e. node_untouched S t n l s W (h n e))

pub D_untouched : (S : Setup) (t l n : ℕ) (s : Stage) (V : World) → eqb n l ≡ false → Untouched l s (link_turns S t n V)
D_untouched S t l n s V e = untouched_all n l s (link_turns S t n V) (λ q. eqb-false n l e (sym q)) (link-at S t n V)

pub D-list : (S : Setup) (t l : ℕ) (s : Stage) (U : World) → l < length S.links → at l s (D_world S t U) ≡ at_after_all l s (link_turns S t l U) (at l s U)
unfolding turns_of
D-list S t l s U lt =
    at-mine S t phase.D (λ n. eqb n l) l s U (λ n e. D_untouched S t l n s U e)
    ∙ ap (λ ns. at_after_all l s (flat_map (λ n. link_turns S t n U) ns) (at l s U)) (filter_one l 0 (length S.links) (omega arith) (omega arith))
    ∙ ap (λ ms. at_after_all l s ms (at l s U)) (append-nil (link_turns S t l U))

pub C-credit : (S : Setup) (t l : ℕ) (W : World) → credit_of l (C_world S t W) ≡ credit_of l W
C-credit S t l W = buffers-credit S t l (C_moves S t W) W (handed-buffers S t (C_moves S t W) (C-handed S t W))

pub C-length : (S : Setup) (t : ℕ) (W : World) → length (C_world S t W).persons ≡ length W.persons
C-length S t W = run-length S t (C_moves S t W) W

-- WHAT A PART IS SHORT OF
-- H is what p has of W, short of rows that are not due in second t and stand at the end of the queues of links that begin elsewhere; it
-- knows the taken places of the links that begin here, and of the persons those that `has` names, whom no other partition's nodes tell of.
pub record Short (S : Setup) (own : Owner) (p t : ℕ) (late : ℕ → List Row) (has : ℕ → Bool) (W : World) (H : Held) : Type 0 where
  pub queue : (l : ℕ) → eqb (owner_of S own l) p ≡ true → at l Queue W ≡ H.list l Queue ++ late l
  pub here : (l : ℕ) → eqb (begins_in S own l) p ≡ true → late l ≡ []
  pub not_due : (l : ℕ) → Late t (late l)
  pub buffer : (l : ℕ) → eqb (owner_of S own l) p ≡ true → H.list l Buffer ≡ at l Buffer W
  pub wait : (l : ℕ) → eqb (owner_of S own l) p ≡ true → H.list l Wait ≡ at l Wait W
  pub bay : (l : ℕ) → eqb (owner_of S own l) p ≡ true → H.list l Bay ≡ at l Bay W
  pub credit : (l : ℕ) → eqb (owner_of S own l) p ≡ true → H.credit l ≡ credit_of l W
  pub taken : (m : ℕ) → eqb (begins_in S own m) p ≡ true → taken_here S t H m ≡ taken_at S t m W
  pub person : (i : ℕ) → H.person i ≡ mine (has i) (person_of i W)
  pub few : length W.persons ≡ length S.persons
  pub there : (i : ℕ) → has i ≡ true → i < length S.persons
  pub elsewhere : (l i : ℕ) → eqb (owner_of S own l) p ≡ true → has i ≡ false → waiter S l i (person_of i W) ≡ []
  pub quiet : (i n : ℕ) → has i ≡ true → eqb (own n) p ≡ false → Quiet S t i (node_turns S t n W)

-- what a part has of its own lists after moves
pub held_run-list : (S : Setup) (t l : ℕ) (s : Stage) (ms : List Move) (H : Held) → (held_run S t ms H).list l s ≡ at_after_all l s ms (H.list l s)
held_run-list S t l s [] H = refl
held_run-list S t l s (m ∷ ms) H = held_run-list S t l s ms (held_done S t m H)

pub held_run-credit : (S : Setup) (t l : ℕ) (ms : List Move) (H : Held) → (held_run S t ms H).credit l ≡ credit_after_all l ms (H.credit l)
held_run-credit S t l [] H = refl
held_run-credit S t l (m ∷ ms) H = held_run-credit S t l ms (held_done S t m H)

pub held_run-holes : (S : Setup) (t l : ℕ) (ms : List Move) (H : Held) → (held_run S t ms H).holes l ≡ hole_after_all l ms (H.holes l)
held_run-holes S t l [] H = refl
held_run-holes S t l (m ∷ ms) H = held_run-holes S t l ms (held_done S t m H)

same_node_view : (A B : NodeView) → A.in_links ≡ B.in_links → A.out_links ≡ B.out_links → A ≡ B
same_node_view A B e f = λ i. record { in_links = e i; out_links = f i }

pub same_state : (A B : LinkState) → A.queue ≡ B.queue → A.buffer ≡ B.buffer → A.wait ≡ B.wait → A.bay ≡ B.bay → A.credit ≡ B.credit → A ≡ B
same_state A B q b w y c = λ i. record { queue = q i; buffer = b i; wait = w i; bay = y i; credit = c i }

in_links-here : (S : Setup) (t n : ℕ) (W : World) (H : Held) → ((l : ℕ) → eqb (link_row S l).to n ≡ true → H.list l Buffer ≡ at l Buffer W) → (ls : List ℕ) →
    map (in_link_here S t H) (filter (λ l. eqb (link_row S l).to n) ls) ≡ map (in_link S t W) (filter (λ l. eqb (link_row S l).to n) ls)
in_links-here S t n W H h [] = refl
in_links-here S t n W H h (l ∷ ls) =
    elim (cases_Bool (eqb (link_row S l).to n)) [
      | inl q ↦ let e = h l q in let f = in_links-here S t n W H h ls in simp q (let g : in_link_here S t H l ≡ in_link S t W l = ap (λ rows. record { link = l; capacity = (link_row S l).capacity; green = S.green l t; rows = rows }) e in cc)
      | inr q ↦ simp q (in_links-here S t n W H h ls)
    ]

pub opt_mine : (S : Setup) (t i : ℕ) (ms : List Move) (b : Bool) (P : Person) → opt_moves S t i ms (mine b P) ≡ mine b (person_moves S t i ms P)
opt_mine S t i ms true P = refl
opt_mine S t i ms false P = refl

same_waiters : (S : Setup) (l : ℕ) (H : Held) (U : World) → ((i : ℕ) → i < length S.persons → waiter_here S l i (H.person i) ≡ waiter S l i (person_of i U)) → (k n : ℕ) → k + n ≤ length S.persons →
    flat_map (λ i. waiter_here S l i (H.person i)) (numbers k n) ≡ flat_map (λ i. waiter S l i (person_of i U)) (numbers k n)
same_waiters S l H U h k zero le = refl
same_waiters S l H U h k (suc n) le = let e = h k (omega arith) in let f = same_waiters S l H U h (k + 1) n (omega arith) in cc

-- who waits at a link's stops is known where those who are not had do not wait there
pub waiters-here : (S : Setup) (l : ℕ) (has : ℕ → Bool) (H : Held) (U : World) → length U.persons ≡ length S.persons → ((i : ℕ) → H.person i ≡ mine (has i) (person_of i U)) → ((i : ℕ) → i < length S.persons → has i ≡ false → waiter S l i (person_of i U) ≡ []) →
    waiters_here S l H ≡ waiters S l U
unfolding waiters_here waiters
waiters-here S l has H U few person none =
    let one : (i : ℕ) → i < length S.persons → waiter_here S l i (H.person i) ≡ waiter S l i (person_of i U) =
    λ i lt. ap (waiter_here S l i) (person i) ∙ elim (cases_Bool (has i)) [ inl e ↦ rw e refl | inr e ↦ rw e (sym (none i lt e)) ] in
    same_waiters S l H U one 0 (length S.persons) (omega arith) ∙ ap (λ n. flat_map (λ i. waiter S l i (person_of i U)) (below n)) (sym few)

module _ (S : Setup) (own : Owner) (p t : ℕ) (late : ℕ → List Row) (has : ℕ → Bool) (W : World) (H : Held) (h : Short S own p t late has W H) where
  -- 1. What the part's nodes see is what they see in the world.
  pub see-part : (n : ℕ) → eqb (own n) p ≡ true → see S t n H ≡ node_view S t n W
  unfolding into
  see-part n e =
      same_node_view (see S t n H) (node_view S t n W)
      (in_links-here S t n W H (λ l f. h.buffer l (ap (λ x. eqb (own x) p) (eqb-true (link_row S l).to n f) ∙ e)) (below (length S.links)))
      (fun_ext (λ m. elim (cases_Bool (eqb (link_row S m).from n)) [
        | inl f ↦ let q = h.taken m (ap (λ x. eqb (own x) p) (eqb-true (link_row S m).from n f) ∙ e) in simp f (ap (λ taken. Some (record { taken = taken; storage = storage_of S m; seconds = seconds_of S m })) q)
        | inr f ↦ simp f
      ]))

  -- 2. The part's turns of phase C are the day's turns of its nodes.
  pub C_part-is : C_part S own p t H ≡ map (turn_of (node_turns S t) W) (my_nodes S own p)
  C_part-is = map_mine _ (turn_of (node_turns S t) W) (λ n. eqb (own n) p) (λ n e. ap (λ see. record { number = n; moves = node_moves S.settings.stuck t (S.word n) see }) (see-part n e)) (below S.nodes)

  pub C_part-moves : moves_of (C_part S own p t H) ≡ flat_map (λ n. node_turns S t n W) (my_nodes S own p)
  C_part-moves = ap moves_of C_part-is ∙ moves_of-map (node_turns S t) W (my_nodes S own p)

  -- 3. Its events of phase C are the day's events of its nodes.
  pub C_part-events : events_in t phase.C (C_part S own p t H) ≡ filter (λ (e : Event). eqb (own e.key.number) p) (events_in t phase.C (turns_in S t phase.C W))
  unfolding turns_of
  C_part-events = ap (events_in t phase.C) C_part-is ∙ sym (phase_events_mine S t phase.C (λ n. eqb (own n) p) W)

  -- 4. Lists that only its nodes change are those of the day.
  pub C_mine : (l : ℕ) (s : Stage) → ((n : ℕ) → eqb (own n) p ≡ false → sees S n l s ≡ false) → at_after_all l s (moves_of (C_part S own p t H)) (at l s W) ≡ at l s (C_world S t W)
  C_mine l s un = ap (λ ms. at_after_all l s ms (at l s W)) C_part-moves ∙ sym (C-list S t (λ n. eqb (own n) p) l s W un)

  -- the part after phase C
  abbrev pub C_after : Held
  C_after = held_run S t (moves_of (C_part S own p t H)) H

  C_after-list : (l : ℕ) (s : Stage) → H.list l s ≡ at l s W → ((n : ℕ) → eqb (own n) p ≡ false → sees S n l s ≡ false) → C_after.list l s ≡ at l s (C_world S t W)
  C_after-list l s e un = held_run-list S t l s (moves_of (C_part S own p t H)) H ∙ ap (at_after_all l s (moves_of (C_part S own p t H))) e ∙ C_mine l s un

  pub C_after-buffer : (l : ℕ) → eqb (owner_of S own l) p ≡ true → C_after.list l Buffer ≡ at l Buffer (C_world S t W)
  C_after-buffer l e = C_after-list l Buffer (h.buffer l e) (λ n f. not_mine own p n (link_row S l).to e f)

  pub C_after-wait : (l : ℕ) → eqb (owner_of S own l) p ≡ true → C_after.list l Wait ≡ at l Wait (C_world S t W)
  C_after-wait l e = C_after-list l Wait (h.wait l e) (λ n f. refl)

  pub C_after-bay : (l : ℕ) → eqb (owner_of S own l) p ≡ true → C_after.list l Bay ≡ at l Bay (C_world S t W)
  C_after-bay l e = C_after-list l Bay (h.bay l e) (λ n f. refl)

  -- the queue of a link that begins here
  whole_queue : (l : ℕ) → eqb (owner_of S own l) p ≡ true → eqb (begins_in S own l) p ≡ true → H.list l Queue ≡ at l Queue W
  whole_queue l e g = sym (h.queue l e ∙ ap (λ ys. H.list l Queue ++ ys) (h.here l g) ∙ append-nil (H.list l Queue))

  pub C_after-queue_own : (l : ℕ) → eqb (owner_of S own l) p ≡ true → eqb (begins_in S own l) p ≡ true → C_after.list l Queue ≡ at l Queue (C_world S t W)
  C_after-queue_own l e g = C_after-list l Queue (whole_queue l e g) (λ n f. not_mine own p n (link_row S l).from g f)

  -- the queue of a link that begins elsewhere: what came is not there yet
  others_untouched : (l : ℕ) → eqb (begins_in S own l) p ≡ false → (ns : List ℕ) → Untouched l Queue (flat_map (λ n. node_turns S t n W) (filter (λ n. eqb (own n) p) ns))
  others_untouched l e [] = tt
  others_untouched l e (n ∷ ns) =
      elim (cases_Bool (eqb (own n) p)) [
        | inl f ↦ simp f (Untouched-append l Queue (node_turns S t n W) _ (node_untouched S t n l Queue W (eqb_turn n (link_row S l).from (not_mine own p (link_row S l).from n f e))) (others_untouched l e ns))
        | inr f ↦ simp f (others_untouched l e ns)
      ]

  pub C_after-queue_other : (l : ℕ) → eqb (begins_in S own l) p ≡ false → C_after.list l Queue ≡ H.list l Queue
  C_after-queue_other l g =
      held_run-list S t l Queue (moves_of (C_part S own p t H)) H
      ∙ ap (λ ms. at_after_all l Queue ms (H.list l Queue)) C_part-moves
      ∙ at_after_all-untouched l Queue (flat_map (λ n. node_turns S t n W) (my_nodes S own p)) (H.list l Queue) (others_untouched l g (below S.nodes))

  pub part-handed : AreHanded S t (moves_of (C_part S own p t H))
  part-handed = rw C_part-moves (nodes-handed S t W (my_nodes S own p))

  pub C_after-credit : (l : ℕ) → eqb (owner_of S own l) p ≡ true → C_after.credit l ≡ credit_of l (C_world S t W)
  C_after-credit l e =
      held_run-credit S t l (moves_of (C_part S own p t H)) H
      ∙ handed-credit S t l (moves_of (C_part S own p t H)) (H.credit l) part-handed
      ∙ h.credit l e ∙ sym (C-credit S t l W)

  -- persons
  pub C_person : (i : ℕ) → has i ≡ true → person_of i (C_world S t W) ≡ person_moves S t i (moves_of (C_part S own p t H)) (person_of i W)
  C_person i e =
      let lt = h.there i e in
      let few = h.few in
      person-run S t i (C_moves S t W) W (omega arith)
      ∙ ap (λ ms. person_moves S t i ms (person_of i W)) (C_moves-are S t W)
      ∙ person-filter S t i (λ n. node_turns S t n W) (λ n. eqb (own n) p) (λ n f. h.quiet i n e f) (below S.nodes) (person_of i W)
      ∙ ap (λ ms. person_moves S t i ms (person_of i W)) (sym C_part-moves)

  pub C_after-person : (i : ℕ) → C_after.person i ≡ mine (has i) (person_of i (C_world S t W))
  C_after-person i =
      person-held S t i (moves_of (C_part S own p t H)) H
      ∙ ap (opt_moves S t i (moves_of (C_part S own p t H))) (h.person i)
      ∙ opt_mine S t i (moves_of (C_part S own p t H)) (has i) (person_of i W)
      ∙ elim (cases_Bool (has i)) [ inl e ↦ rw e (ap Some (sym (C_person i e))) | inr e ↦ rw e refl ]

  C_elsewhere : (l i : ℕ) → eqb (owner_of S own l) p ≡ true → i < length S.persons → has i ≡ false → waiter S l i (person_of i (C_world S t W)) ≡ []
  C_elsewhere l i o lt e =
      let few = h.few in
      let q = person-run S t i (C_moves S t W) W (omega arith) in
      ap (waiter S l i) q ∙ handed-waits S t l i (C_moves S t W) (person_of i W) (C-handed S t W) (h.elsewhere l i o e)

  pub C_waiters : (l : ℕ) → eqb (owner_of S own l) p ≡ true → waiters_here S l C_after ≡ waiters S l (C_world S t W)
  C_waiters l o = waiters-here S l has C_after (C_world S t W) (C-length S t W ∙ h.few) C_after-person (λ i lt e. C_elsewhere l i o lt e)

  -- what the part is short of after phase C
  abbrev pub late_next : ℕ → List Row
  late_next l = late l ++ came_in S t W l

  pub queue_other : (l : ℕ) → eqb (owner_of S own l) p ≡ true → eqb (begins_in S own l) p ≡ false → at l Queue (C_world S t W) ≡ C_after.list l Queue ++ late_next l
  queue_other l e g =
      C-came S t l W ∙ ap (λ xs. xs ++ came_in S t W l) (h.queue l e) ∙ append_assoc (H.list l Queue) (late l) (came_in S t W l)
      ∙ ap (λ xs. xs ++ late_next l) (sym (C_after-queue_other l g))

  -- 5. The part's links do in phase D what they do in the day.
  pub link_mine : (l : ℕ) → eqb (owner_of S own l) p ≡ true → link_moves (rules S l) t l (waiters_here S l C_after) (state_here l C_after) ≡ link_turns S t l (C_world S t W)
  link_mine l e =
      let U = C_world S t W in
      let ys = late_next l in
      let ws = C_waiters l e in
      let L = state_here l C_after in
      ap (λ w. link_moves (rules S l) t l w L) ws
      ∙ elim (cases_Bool (eqb (begins_in S own l) p)) [
        | inl g ↦ ap (link_moves (rules S l) t l (waiters S l U)) (same_state L (link_state l U) (C_after-queue_own l e g) (C_after-buffer l e) (C_after-wait l e) (C_after-bay l e) (C_after-credit l e))
        | inr g ↦
            sym (link_moves_late (rules S l) t l (waiters S l U) L ys (each_append (λ (y : Row). t < y.second) (late l) (came_in S t W l) (h.not_due l) (came_late S t l W)))
            ∙ ap (link_moves (rules S l) t l (waiters S l U)) (same_state (record L { queue = L.queue ++ ys }) (link_state l U)
            (sym (queue_other l e g)) (C_after-buffer l e) (C_after-wait l e) (C_after-bay l e) (C_after-credit l e))
      ]

  pub D_part-is : D_part S own p t C_after ≡ map (turn_of (link_turns S t) (C_world S t W)) (my_links S own p)
  D_part-is = map_mine _ (turn_of (link_turns S t) (C_world S t W)) (λ l. eqb (owner_of S own l) p) (λ l e. ap (λ ms. record { number = l; moves = ms }) (link_mine l e)) (below (length S.links))

  pub D_part-events : events_in t phase.D (D_part S own p t C_after) ≡ filter (λ (e : Event). eqb (owner_of S own e.key.number) p) (events_in t phase.D (turns_in S t phase.D (C_world S t W)))
  unfolding turns_of
  D_part-events = ap (events_in t phase.D) D_part-is ∙ sym (phase_events_mine S t phase.D (λ l. eqb (owner_of S own l) p) (C_world S t W))

  pub D_part-moves : moves_of (D_part S own p t C_after) ≡ flat_map (λ l. link_turns S t l (C_world S t W)) (my_links S own p)
  D_part-moves = ap moves_of D_part-is ∙ moves_of-map (link_turns S t) (C_world S t W) (my_links S own p)

  -- 6. The part's lists after phase D
  D_one : (l : ℕ) (s : Stage) (ys : List Row) → l < length S.links → eqb (owner_of S own l) p ≡ true →
      at_after_all l s (flat_map (λ n. link_turns S t n (C_world S t W)) (my_links S own p)) ys ≡ at_after_all l s (link_turns S t l (C_world S t W)) ys
  D_one l s ys lt e =
      let V = C_world S t W in
      sym (at_after_all-filter (λ n. link_turns S t n V) (λ n. eqb (owner_of S own n) p) l s (λ n f. D_untouched S t l n s V (eqb_turn l n (not_mine (owner_of S own) p n l e f))) (below (length S.links)) ys)
      ∙ at_after_all-filter (λ n. link_turns S t n V) (λ n. eqb n l) l s (λ n f. D_untouched S t l n s V f) (below (length S.links)) ys
      ∙ ap (λ ns. at_after_all l s (flat_map (λ n. link_turns S t n V) ns) ys) (filter_one l 0 (length S.links) (omega arith) (omega arith))
      ∙ ap (λ ms. at_after_all l s ms ys) (append-nil (link_turns S t l V))

  abbrev pub D_after : Held
  D_after = held_run S t (moves_of (D_part S own p t C_after)) C_after

  D_after-list : (l : ℕ) (s : Stage) → l < length S.links → eqb (owner_of S own l) p ≡ true → D_after.list l s ≡ at_after_all l s (link_turns S t l (C_world S t W)) (C_after.list l s)
  D_after-list l s lt e =
      held_run-list S t l s (moves_of (D_part S own p t C_after)) C_after
      ∙ ap (λ ms. at_after_all l s ms (C_after.list l s)) D_part-moves
      ∙ D_one l s (C_after.list l s) lt e

  -- a list that the part had right after phase C it has right after phase D
  D_right : (l : ℕ) (s : Stage) → l < length S.links → eqb (owner_of S own l) p ≡ true → C_after.list l s ≡ at l s (C_world S t W) → D_after.list l s ≡ at l s (next S t W)
  D_right l s lt e q = D_after-list l s lt e ∙ ap (at_after_all l s (link_turns S t l (C_world S t W))) q ∙ sym (D-list S t l s (C_world S t W) lt)

  pub D_after-buffer : (l : ℕ) → l < length S.links → eqb (owner_of S own l) p ≡ true → D_after.list l Buffer ≡ at l Buffer (next S t W)
  D_after-buffer l lt e = D_right l Buffer lt e (C_after-buffer l e)

  pub D_after-wait : (l : ℕ) → l < length S.links → eqb (owner_of S own l) p ≡ true → D_after.list l Wait ≡ at l Wait (next S t W)
  D_after-wait l lt e = D_right l Wait lt e (C_after-wait l e)

  pub D_after-bay : (l : ℕ) → l < length S.links → eqb (owner_of S own l) p ≡ true → D_after.list l Bay ≡ at l Bay (next S t W)
  D_after-bay l lt e = D_right l Bay lt e (C_after-bay l e)

  pub D_after-queue_own : (l : ℕ) → l < length S.links → eqb (owner_of S own l) p ≡ true → eqb (begins_in S own l) p ≡ true → D_after.list l Queue ≡ at l Queue (next S t W)
  D_after-queue_own l lt e g = D_right l Queue lt e (C_after-queue_own l e g)

  -- a queue over a border: behind what the part has stands what it was short of, and what came
  pub D_border : (l : ℕ) → l < length S.links → eqb (owner_of S own l) p ≡ true → eqb (begins_in S own l) p ≡ false → at l Queue (next S t W) ≡ D_after.list l Queue ++ late_next l
  D_border l lt e g =
      let U = C_world S t W in
      let L = state_here l C_after in
      let ws = waiters_here S l C_after in
      let ms = link_moves (rules S l) t l ws L in
      let ys = late_next l in
      let same_moves = link_mine l e in
      let lhs : at l Queue (next S t W) ≡ drop (freed l ms) (C_after.list l Queue) ++ ys =
      D-list S t l Queue U lt
      ∙ ap (λ ns. at_after_all l Queue ns (at l Queue U)) (sym same_moves)
      ∙ ap (at_after_all l Queue ms) (queue_other l e g)
      ∙ (link_moves-leaves (rules S l) t l ws L ys).0 in
      let rhs : D_after.list l Queue ≡ drop (freed l ms) (C_after.list l Queue) =
      D_after-list l Queue lt e
      ∙ ap (λ ns. at_after_all l Queue ns (C_after.list l Queue)) (sym same_moves)
      ∙ ap (at_after_all l Queue ms) (sym (append-nil (C_after.list l Queue)))
      ∙ (link_moves-leaves (rules S l) t l ws L []).0
      ∙ append-nil (drop (freed l ms) (C_after.list l Queue)) in
      lhs ∙ ap (λ xs. xs ++ ys) (sym rhs)

pub take_front : (xs ys : List Row) → take (length (xs ++ ys) - length ys) (xs ++ ys) ≡ xs
take_front xs ys = let e = length-append xs ys in let f : length (xs ++ ys) - length ys ≡ length xs = omega arith in rw f (take-append_seam xs ys)
