-- The turns of the nodes that are woken, one after the other, are those of all nodes.
use Rattle.traffic.proofs.Common.{◌≡◌, ◌≢◌, ℕ, List, ◌∙◌, length, ap, refl, sym, [], ◌∷◌, ◌++◌, arith, ◌<◌, ◌≤◌, ◌+◌, true, false, Bool, inl, inr, suc, zero}
use Rattle.traffic.proofs.Common.{eqb, subst, flat_map, map, filter, append_assoc, append-nil, get_or, Some, None, Option, cases_Bool, eqb-true, eqb-false}
use Rattle.traffic.proofs.Common.{ne_eqb, or_parts, true≢false, node_turns, node_view, World, at, Setup, into, link_row, run, told, numbers, below, sees, mark}
use Rattle.traffic.proofs.Common.{keyed, phase_code, at_after_all, turns, turns_of, after, moves_of, events_in, events_of, Turn, Event}
use Rattle.traffic.proofs.{Nodes.node_untouched, Phases.plans_apart, Sublists.run-append, Sublists.at-run_untouched}
use Rattle.traffic.proofs.Turns.{Distinct-numbers, turns_at_once, moves_of-map, at-phase}
use Rattle.traffic.specs.{Frames.Untouched, declared.moves.Move.Move, declared.moves.Occurrence.Occurrence, declared.stage.Stage.TheVariants.Buffer}
use Rattle.std.{proofs.lemmas.Grind.flat_map-append, proofs.lemmas.List.length-map, specs.List.AllByRecursion as Each}
use Rattle.events.specs.declared.event.Phase.TheVariants as phase
use Rattle.law_in_range.specs.Rows.{Counts}
use Rattle.calendar.{proofs.Woken.woken_is, specs.Due.AreIn}
use Rattle.calendar.specs.Waking.{wake_of, is_second, is_woken, woken, slept}
use Rattle.node_seconds.specs.Networks.{is_among, AreOnce}
use Rattle.part_links.{proofs.Heard.heard_both, proofs.Numbers.among_other, proofs.Numbers.among_passed, proofs.Numbers.once_passed}
use Rattle.part_links.specs.Phase.{of_persons}
use Rattle.part_persons.proofs.Skipping.{Idle, distinct_filter, skip_world, skip_events}
use Rattle.part_nodes.{specs.declared.network.NetworkState.NetworkState, proofs.Seen.into_there, proofs.Seen.among_into, proofs.Crossings.out_both}
use Rattle.part_nodes.proofs.Held.{node_takes, waits_on, waits_next, none_able, none_red, slept_at, slept_other}
use Rattle.part_nodes.specs.Phase.{Extent, AreMine, StandsForAt, taken_before, BufferWaits, AreAwaitedAt, IsTurn, AreTurned, IsPhaseAt, going_out}
use Rattle.law_sleeping.proofs.Passing.{node_rest}
use Rattle.node_move.specs.{Spaces.holes_in, declared.crossings.Entering.Entering}

-- ONE AFTER THE OTHER
plan_is : (S : Setup) (t n : ℕ) (V : World) → turns_of S t phase.C n V ≡ node_turns S t n V
unfolding turns_of
plan_is S t n V = refl

abbrev all : Setup → ℕ → List ℕ → World → List Turn
all S t ns V = turns S t (turns_of S t phase.C) ns V

abbrev world : Setup → ℕ → List ℕ → World → World
world S t ns V = after S t (all S t ns V) V

turns_last : (S : Setup) (t n : ℕ) (ns : List ℕ) (V : World)
    → all S t (ns ++ n ∷ []) V ≡ all S t ns V ++ (record { number = n; moves = turns_of S t phase.C n (world S t ns V) }) ∷ []
unfolding turns
turns_last S t n [] V = refl
turns_last S t n (m ∷ ns) V =
    let ms = turns_of S t phase.C m V in
    let U = run S t ms V in
    let rest = turns_last S t n ns U in
    let w : world S t ns U ≡ after S t ((record { number = m; moves = ms }) ∷ all S t ns U) V = sym (run-append S t ms (moves_of (all S t ns U)) V) in
    ap (λ (us : List Turn). (record { number = m; moves = ms }) ∷ us) (rest ∙ ap (λ (X : World). all S t ns U ++ (record { number = n; moves = turns_of S t phase.C n X }) ∷ []) w)

moves_last : (us : List Turn) (u : Turn) → moves_of (us ++ u ∷ []) ≡ moves_of us ++ u.moves
moves_last [] u = append-nil u.moves
moves_last (x ∷ us) u = ap (λ (ms : List Move). x.moves ++ ms) (moves_last us u) ∙ sym (append_assoc x.moves (moves_of us) u.moves)

world_last : (S : Setup) (t n : ℕ) (ns : List ℕ) (V : World)
    → world S t (ns ++ n ∷ []) V ≡ run S t (node_turns S t n (world S t ns V)) (world S t ns V)
world_last S t n ns V =
    let u : Turn = record { number = n; moves = turns_of S t phase.C n (world S t ns V) } in
    ap (λ (us : List Turn). after S t us V) (turns_last S t n ns V)
    ∙ ap (λ (ms : List Move). run S t ms V) (moves_last (all S t ns V) u)
    ∙ run-append S t (moves_of (all S t ns V)) u.moves V
    ∙ ap (λ (ms : List Move). run S t ms (world S t ns V)) (plan_is S t n (world S t ns V))

told_last : (us : List Turn) (u : Turn) → flat_map told (moves_of (us ++ u ∷ [])) ≡ flat_map told (moves_of us) ++ flat_map told u.moves
told_last us u = ap (flat_map told) (moves_last us u) ∙ flat_map-append told (moves_of us) u.moves

events_last : (t : ℕ) (us : List Turn) (u : Turn) → events_in t phase.C (us ++ u ∷ []) ≡ events_in t phase.C us ++ events_of t phase.C u
events_last t [] u = append-nil (events_of t phase.C u)
events_last t (x ∷ us) u =
    ap (λ (es : List Event). events_of t phase.C x ++ es) (events_last t us u) ∙ sym (append_assoc (events_of t phase.C x) (events_in t phase.C us) (events_of t phase.C u))

-- no place comes free in the turns of nodes
nodes_take : (S : Setup) (t m : ℕ) (ns : List ℕ) (V : World) → taken_before S (t + 1) m V ≤ taken_before S (t + 1) m (world S t ns V)
unfolding turns
nodes_take S t m [] V = omega arith
nodes_take S t m (n ∷ ns) V =
    let ms = turns_of S t phase.C n V in
    let U = run S t ms V in
    let moved : run S t (node_turns S t n V) V ≡ U = ap (λ (xs : List Move). run S t xs V) (sym (plan_is S t n V)) in
    let w : world S t ns U ≡ after S t ((record { number = n; moves = ms }) ∷ all S t ns U) V = sym (run-append S t ms (moves_of (all S t ns U)) V) in
    let a = node_takes S t n m V in
    let b = nodes_take S t m ns U in
    let c = ap (taken_before S (t + 1) m) moved in
    let d = ap (taken_before S (t + 1) m) w in
    omega arith

-- nobody has had a turn
pub turned_none : (z : Counts) (S : Setup) (E : Extent) (end t : ℕ) (V : World) (N : NetworkState) (events : List Event) (said : List Occurrence)
    (out : List Entering) → StandsForAt z S E end t N V → AreTurned z S E end t V [] N N events events said said out out
unfolding turns
turned_none z S E end t V N events said out h = record {
  stands = h;
  holes = λ m. refl;
  freed = refl;
  others = λ m a. refl;
  awaited = λ m l a w lt to. absurd (true≢false (sym a));
  events = sym (append-nil events);
  said = sym (append-nil said);
  gone = sym (append-nil out);
}

pub turned_last : (z : Counts) (S : Setup) (E : Extent) (end t n : ℕ) (V : World) (ns : List ℕ) (old now next : NetworkState) (events out more : List Event)
    (said heard last : List Occurrence) (first_out went gone : List Entering) → is_among n ns ≡ false
    → AreTurned z S E end t V ns old now events out said heard first_out went
    → IsTurn z S E end t n (after S t (turns S t (turns_of S t phase.C) ns V) V) now next out more heard last went gone
    → AreTurned z S E end t V (ns ++ n ∷ []) old next events more said last first_out gone
turned_last z S E end t n V ns old now next events out more said heard last first_out went gone fresh h g =
    let W = world S t ns V in
    let U = run S t (node_turns S t n W) W in
    let w = world_last S t n ns V in
    let u : Turn = record { number = n; moves = turns_of S t phase.C n W } in
    let p = plan_is S t n W in
    record {
      stands = subst (StandsForAt z S E end t next) (sym w) g.stands;
      holes = λ m. g.holes m ∙ h.holes m;
      freed = g.freed ∙ h.freed;
      others = λ m a.
          let q = not_last m n ns a in
          g.others m (λ (e : m ≡ n). eqb-false n m q.1 (sym e)) ∙ h.others m q.0;
      awaited = λ m l a not_woken lt to.
          subst (λ (X : World). BufferWaits S end (t + 1) (t + 1) l (wake_of next.node_wakes m) X (at l Buffer X)) (sym w)
          (elim (cases_Bool (eqb n m)) [
            | inl e ↦
                let s = eqb-true n m e in
                subst (λ (k : ℕ). BufferWaits S end (t + 1) (t + 1) l (wake_of next.node_wakes k) U (at l Buffer U)) s
                (g.awaited l (λ (y : wake_of next.node_wakes n ≡ Some (t + 1)). not_woken (ap (wake_of next.node_wakes) (sym s) ∙ y)) lt (to ∙ sym s))
            | inr e ↦
                let ne = eqb-false n m e in
                let b : is_among m ns ≡ true = sym (among_other m n ns e) ∙ a in
                let same = g.others m (λ (y : m ≡ n). ne (sym y)) in
                let unseen : sees S n l Buffer ≡ false = ne_eqb (link_row S l).to n (λ (y : (link_row S l).to ≡ n). ne (sym y ∙ to)) in
                subst (λ (o : Option ℕ). BufferWaits S end (t + 1) (t + 1) l o U (at l Buffer U)) (sym same)
                (waits_on S end (t + 1) (t + 1) l (wake_of now.node_wakes m) W U
                (at-run_untouched S t l Buffer (node_turns S t n W) W (node_untouched S t n l Buffer W unseen)) (λ k. node_takes S t n k W)
                (h.awaited m l b (λ (y : wake_of now.node_wakes m ≡ Some (t + 1)). not_woken (same ∙ y)) lt to))
          ]);
      events =
          g.events ∙ ap (λ (xs : List Event). xs ++ keyed t (phase_code phase.C) n 0 (flat_map told (node_turns S t n W))) h.events
          ∙ append_assoc events (events_in t phase.C (all S t ns V)) (keyed t (phase_code phase.C) n 0 (flat_map told (node_turns S t n W)))
          ∙ ap (λ (xs : List Event). events ++ xs)
          (ap (λ (ms : List Move). events_in t phase.C (all S t ns V) ++ keyed t (phase_code phase.C) n 0 (flat_map told ms)) (sym p)
          ∙ sym (events_last t (all S t ns V) u) ∙ ap (events_in t phase.C) (sym (turns_last S t n ns V)));
      said =
          g.said ∙ ap (λ (xs : List Occurrence). xs ++ of_persons (flat_map told (node_turns S t n W))) h.said
          ∙ append_assoc said (of_persons (flat_map told (moves_of (all S t ns V)))) (of_persons (flat_map told (node_turns S t n W)))
          ∙ ap (λ (xs : List Occurrence). said ++ xs)
          (sym (heard_both (flat_map told (moves_of (all S t ns V))) (flat_map told (node_turns S t n W)))
          ∙ ap of_persons
          (ap (λ (ms : List Move). flat_map told (moves_of (all S t ns V)) ++ flat_map told ms) (sym p)
          ∙ sym (told_last (all S t ns V) u) ∙ ap (λ (us : List Turn). flat_map told (moves_of us)) (sym (turns_last S t n ns V))));
      gone =
          g.gone ∙ ap (λ (xs : List Entering). xs ++ going_out S E.mine (node_turns S t n W)) h.gone
          ∙ append_assoc first_out (going_out S E.mine (moves_of (all S t ns V))) (going_out S E.mine (node_turns S t n W))
          ∙ ap (λ (xs : List Entering). first_out ++ xs)
          (ap (λ (ms : List Move). going_out S E.mine (moves_of (all S t ns V)) ++ going_out S E.mine ms) (sym p)
          ∙ sym (out_both S E.mine (moves_of (all S t ns V)) u.moves) ∙ ap (going_out S E.mine) (sym (moves_last (all S t ns V) u))
          ∙ ap (λ (us : List Turn). going_out S E.mine (moves_of us)) (sym (turns_last S t n ns V)));
    }
  where
    not_last : (m n : ℕ) (ns : List ℕ) → is_among m (ns ++ n ∷ []) ≡ false → (is_among m ns ≡ false) × (eqb n m ≡ false)
    not_last m n [] a = (refl, (or_parts (eqb n m) false a).0)
    not_last m n (k ∷ ns) a =
        let q = or_parts (eqb k m) (is_among m (ns ++ n ∷ [])) a in
        let r = not_last m n ns q.1 in
        let e = q.0 in (rw e r.0, r.1)

-- WHO RESTS
not_second : (t : ℕ) (w : Option ℕ) → is_second t w ≡ false → w ≢ Some t
not_second t None h e = absurd (cc)
not_second t (Some u) h e = let q : u ≡ t = cc in eqb-false u t h q

among_in : (l count : ℕ) (ls : List ℕ) → AreIn count ls → is_among l ls ≡ true → l < count
among_in l count [] h a = absurd (true≢false (sym a))
among_in l count (k ∷ ls) h a =
    elim (cases_Bool (eqb k l)) [
      | inl q ↦ let s = eqb-true k l q in let lt = h.0 in omega arith
      | inr q ↦ let b : is_among l ls ≡ true = rw q at a in among_in l count ls h.1 b
    ]

idle_node : (mine : ℕ → Bool) (S : Setup) (end t n : ℕ) (wakes : List (Option ℕ)) (V : World) → t < end → n < S.nodes → mine n ≡ true
    → AreAwaitedAt mine S end (t + 1) t wakes V → is_woken t wakes n ≡ false → turns_of S t phase.C n V ≡ []
idle_node mine S end t n wakes V in_day lt own h w =
    let wake = wake_of wakes n in
    let waits : (l : ℕ) → is_among l (into S n) ≡ true → BufferWaits S end (t + 1) t l wake V (at l Buffer V)
    = λ l a.
    (let in_links = among_in l (length S.links) (into S n) (into_there S n) a in
    h n l lt own (not_second t wake w) in_links (eqb-true (link_row S l).to n (sym (among_into S n l in_links) ∙ a))) in
    plan_is S t n V
    ∙ node_rest S.settings.stuck t (S.word n) (node_view S t n V) (none_able S end t n wake V (into S n) in_day waits)
    ∙ ap (map (mark t)) (none_red S end (t + 1) t t wake V (into S n) waits)

idle_all : (mine : ℕ → Bool) (S : Setup) (end t : ℕ) (wakes : List (Option ℕ)) (V : World) → t < end → AreAwaitedAt mine S end (t + 1) t wakes V
    → (k count : ℕ) → k + count ≤ S.nodes → Each (Idle (is_woken t wakes) (λ (n : ℕ). turns_of S t phase.C n V)) (filter mine (numbers k count))
idle_all mine S end t wakes V in_day h k zero le = tt
idle_all mine S end t wakes V in_day h k (suc count) le =
    let rest = idle_all mine S end t wakes V in_day h (k + 1) count (omega arith) in
    elim (cases_Bool (mine k)) [
      | inl e ↦
          let lt : k < S.nodes = omega arith in
          let first : Idle (is_woken t wakes) (λ (n : ℕ). turns_of S t phase.C n V) k = λ w. idle_node mine S end t k wakes V in_day lt e h w in
          rw e (first, rest)
      | inr e ↦ rw e rest
    ]

idle_moves : (p : ℕ → Bool) (f : ℕ → List Move) (ns : List ℕ) → Each (Idle p f) ns → flat_map f ns ≡ flat_map f (filter p ns)
idle_moves p f [] h = refl
idle_moves p f (n ∷ ns) h =
    elim (cases_Bool (p n)) [
      | inl e ↦ simp e (ap (λ (xs : List Move). f n ++ xs) (idle_moves p f ns h.1))
      | inr e ↦ simp e (ap (λ (xs : List Move). xs ++ flat_map f ns) (h.0 e) ∙ idle_moves p f ns h.1)
    ]

woken_are : (t count : ℕ) (wakes : List (Option ℕ)) → length wakes ≡ count → woken t wakes ≡ filter (is_woken t wakes) (below count)
woken_are t count wakes n =
    woken_is numbers t wakes (record { none = λ k. refl; more = λ k c. refl }) ∙ ap (λ (c : ℕ). filter (is_woken t wakes) (numbers 0 c)) n

-- WHO HAS A TURN
in_below : (p : ℕ → Bool) (k count all : ℕ) → k + count ≤ all → AreIn all (filter p (numbers k count))
in_below p k zero all le = tt
in_below p k (suc count) all le =
    let rest = in_below p (k + 1) count all (omega arith) in
    elim (cases_Bool (p k)) [ inl e ↦ rw e (omega arith, rest) | inr e ↦ rw e rest ]

pub woken_there : (t count : ℕ) (wakes : List (Option ℕ)) (ns : List ℕ) → length wakes ≡ count → ns ≡ woken t wakes → AreIn count ns
woken_there t count wakes ns n e =
    subst (AreIn count) (sym (e ∙ woken_are t count wakes n)) (in_below (is_woken t wakes) 0 count count (omega arith))

pub woken_once : (t count : ℕ) (wakes : List (Option ℕ)) (ns : List ℕ) → length wakes ≡ count → ns ≡ woken t wakes → AreOnce ns
woken_once t count wakes ns n e = subst AreOnce (sym (e ∙ woken_are t count wakes n)) (once_passed (is_woken t wakes) count)

-- whoever passes one test passes another
each_passes : (p q : ℕ → Bool) (ns : List ℕ) → ((n : ℕ) → p n ≡ true → q n ≡ true) → Each (λ (n : ℕ). q n ≡ true) (filter p ns)
each_passes p q [] f = tt
each_passes p q (n ∷ ns) f =
    let rest = each_passes p q ns f in
    elim (cases_Bool (p n)) [ inl e ↦ rw e (f n e, rest) | inr e ↦ rw e rest ]

-- only own nodes are woken
wakes_mine : (t n : ℕ) (mine : ℕ → Bool) (wakes : List (Option ℕ)) → ((m : ℕ) → mine m ≡ false → wake_of wakes m ≡ None)
    → is_woken t wakes n ≡ true → mine n ≡ true
wakes_mine t n mine wakes only w =
    elim (cases_Bool (mine n)) [
      | inl e ↦ e
      | inr e ↦ let off : is_woken t wakes n ≡ false = ap (is_second t) (only n e) in absurd (true≢false (sym w ∙ off))
    ]

pub woken_mine : (E : Extent) (t count : ℕ) (wakes : List (Option ℕ)) (ns : List ℕ) → length wakes ≡ count
    → ((m : ℕ) → E.mine m ≡ false → wake_of wakes m ≡ None) → ns ≡ woken t wakes → AreMine E ns
woken_mine E t count wakes ns n only e =
    subst (AreMine E) (sym (e ∙ woken_are t count wakes n))
    (each_passes (is_woken t wakes) E.mine (below count) (λ m w. wakes_mine t m E.mine wakes only w))

pub mine_at : (E : Extent) (ns : List ℕ) (i : ℕ) → AreMine E ns → i < length ns → E.mine (get_or ns i 0) ≡ true
mine_at E [] i h lt = absurd (omega arith)
mine_at E (n ∷ ns) zero h lt = h.0
mine_at E (n ∷ ns) (suc i) h lt = mine_at E ns i h.1 (omega arith)

-- so those of all who are woken are those of the own ones
passed_twice : (p q : ℕ → Bool) (ns : List ℕ) → ((n : ℕ) → p n ≡ true → q n ≡ true) → filter p ns ≡ filter p (filter q ns)
passed_twice p q [] f = refl
passed_twice p q (n ∷ ns) f =
    let rest = passed_twice p q ns f in
    elim (cases_Bool (p n)) [
      | inl e ↦ let g = f n e in simp (e, g) (ap (λ (xs : List ℕ). n ∷ xs) rest)
      | inr e ↦
          elim (cases_Bool (q n)) [
            | inl g ↦ simp (e, g) rest
            | inr g ↦ simp (e, g) rest
          ]
    ]

none_pass : (ns : List ℕ) → filter (λ (n : ℕ). false) ns ≡ []
none_pass [] = refl
none_pass (n ∷ ns) = none_pass ns

-- a network whose nodes are woken at other times stands for the same world
pub stands_with : (z : Counts) (S : Setup) (E : Extent) (end t : ℕ) (V : World) (N M : NetworkState) (wakes : List (Option ℕ))
    → M ≡ record N { node_wakes = wakes } → wakes ≡ map (slept t) N.node_wakes → StandsForAt z S E end t N V → StandsForAt z S E end t M V
stands_with z S E end t V N M wakes e sl h =
    subst (λ (X : NetworkState). StandsForAt z S E end t X V) (sym e)
    (record {
      links = h.links;
      nodes = ap length sl ∙ length-map N.node_wakes (slept t) ∙ h.nodes;
      only = λ n foreign. ap (λ (ws : List (Option ℕ)). wake_of ws n) sl ∙ slept_at t n N.node_wakes ∙ ap (slept t) (h.only n foreign);
    })

-- THE PHASE
pub all_turned : (z : Counts) (S : Setup) (E : Extent) (end t : ℕ) (V : World) (ns : List ℕ) (old mid new : NetworkState) (events out : List Event)
    (said heard : List Occurrence) (first_out gone : List Entering)
    → t < end → StandsForAt z S E end t old V → AreAwaitedAt E.mine S end (t + 1) t old.node_wakes V → ns ≡ woken t old.node_wakes
    → mid.node_wakes ≡ map (slept t) old.node_wakes → ((m : ℕ) → holes_in mid.places.space m ≡ holes_in old.places.space m)
    → mid.places.freed ≡ old.places.freed
    → AreTurned z S E end t V ns mid new events out said heard first_out gone
    → IsPhaseAt z S E end t V old new events out said heard first_out gone
unfolding turns_of
all_turned z S E end t V ns old mid new events out said heard first_out gone in_day st aw e sl ho fr h =
    let wakes = old.node_wakes in
    let p = is_woken t wakes in
    let own : List ℕ = filter E.mine (below S.nodes) in
    let f = λ (n : ℕ). turns_of S t phase.C n V in
    let apart = plans_apart S t phase.C in
    let distinct = distinct_filter E.mine (below S.nodes) (Distinct-numbers 0 S.nodes) in
    let idle = idle_all E.mine S end t wakes V in_day aw 0 S.nodes (omega arith) in
    let ns_are : ns ≡ filter p own
    = e ∙ woken_are t S.nodes wakes st.nodes ∙ passed_twice p E.mine (below S.nodes) (λ n w. wakes_mine t n E.mine wakes st.only w) in
    let us : List Turn = turns S t (turns_of S t phase.C) own V in
    let W = after S t us V in
    let w : world S t ns V ≡ W
    = ap (λ (ks : List ℕ). world S t ks V) ns_are ∙ skip_world S t (turns_of S t phase.C) p own V apart distinct idle in
    let moves : moves_of (all S t ns V) ≡ moves_of us
    = ap (λ (ks : List ℕ). moves_of (all S t ks V)) ns_are
    ∙ ap (λ xs. moves_of xs) (turns_at_once S t (turns_of S t phase.C) apart (filter p own) V (distinct_filter p own distinct))
    ∙ moves_of-map (turns_of S t phase.C) V (filter p own) ∙ sym (idle_moves p f own idle)
    ∙ sym (moves_of-map (turns_of S t phase.C) V own)
    ∙ sym (ap (λ xs. moves_of xs) (turns_at_once S t (turns_of S t phase.C) apart own V distinct)) in
    record {
      stands = subst (StandsForAt z S E end t new) w h.stands;
      holes = λ m. h.holes m ∙ ho m;
      freed = h.freed ∙ fr;
      awaited = λ n l lt its not_woken there to.
          elim (cases_Bool (is_among n ns)) [
            | inl a ↦
                subst (λ (X : World). BufferWaits S end (t + 1) (t + 1) l (wake_of new.node_wakes n) X (at l Buffer X)) w
                (h.awaited n l a not_woken there to)
            | inr a ↦
                let q : is_woken t wakes n ≡ false
                = sym (among_passed p n 0 S.nodes (omega arith) (omega arith))
                ∙ ap (is_among n) (sym (e ∙ woken_are t S.nodes wakes st.nodes)) ∙ a in
                let waits = aw n l lt its (not_second t (wake_of wakes n) q) there to in
                let none : turns_of S t phase.C n V ≡ [] = idle_node E.mine S end t n wakes V in_day lt its aw q in
                let same : wake_of new.node_wakes n ≡ wake_of wakes n
                = h.others n a ∙ ap (λ (ws : List (Option ℕ)). wake_of ws n) sl ∙ slept_at t n wakes ∙ slept_other t (wake_of wakes n) q in
                let untouched : (m : ℕ) → false ≡ false → Untouched l Buffer (turns_of S t phase.C m V)
                = λ m yes.
                elim (cases_Bool (eqb m n)) [
                  | inl k ↦
                      subst (Untouched l Buffer) (sym (ap (λ (j : ℕ). turns_of S t phase.C j V) (eqb-true m n k) ∙ none)) tt
                  | inr k ↦
                      subst (Untouched l Buffer) (sym (plan_is S t m V))
                      (node_untouched S t m l Buffer V (ne_eqb (link_row S l).to m (λ (y : (link_row S l).to ≡ m). eqb-false m n k (sym y ∙ to))))
                ] in
                let kept : at l Buffer W ≡ at l Buffer V
                = at-phase S t (turns_of S t phase.C) apart (λ (m : ℕ). false) l Buffer V untouched own distinct
                ∙ ap (λ (ks : List ℕ). at_after_all l Buffer (flat_map f ks) (at l Buffer V)) (none_pass own) in
                subst (λ (o : Option ℕ). BufferWaits S end (t + 1) (t + 1) l o W (at l Buffer W)) (sym same)
                (waits_next S end (t + 1) t l (wake_of wakes n) W (at l Buffer W)
                (λ (y : wake_of wakes n ≡ Some (t + 1)). not_woken (same ∙ y))
                (waits_on S end (t + 1) t l (wake_of wakes n) V W kept (λ k. nodes_take S t k own V) waits))
          ];
      events =
          h.events ∙ ap (λ (xs : List Event). events ++ xs)
          (ap (λ (ks : List ℕ). events_in t phase.C (all S t ks V)) ns_are
          ∙ skip_events S t phase.C (turns_of S t phase.C) p own V apart distinct idle);
      said = h.said ∙ ap (λ (ms : List Move). said ++ of_persons (flat_map told ms)) moves;
      gone = h.gone ∙ ap (λ (ms : List Move). first_out ++ going_out S E.mine ms) moves;
    }
