-- The second of a partition is that of its own world.
use Rattle.traffic.proofs.Common.{◌≡◌, ℕ, ◌<◌, List, [], ◌∙◌, ap, refl, sym, subst, arith, inl, inr, cases_Bool, true, false, Bool, length, map, flat_map, eqb}
use Rattle.traffic.proofs.Common.{eqb-true, fun_ext, Some, None, Turn, Setup, World, at, rank, person_of, nobody, run, turns, turns_in, turns_of, turn_of}
use Rattle.traffic.proofs.Common.{after, moves_of, below, link_row, landing_moves, leaving_moves, departure_moves, landing_turns, leaving_turns}
use Rattle.traffic.proofs.Common.{departure_turns, node_turns, link_turns, node_moves, node_view, NodeView, into, taken_at, storage_of, seconds_of, link_moves}
use Rattle.traffic.proofs.{Common.link_state, Common.rules, Common.waiter, Common.waiters, Each.each_flat_all, Nodes.nodes_apart, Persons.departures_apart}
use Rattle.traffic.proofs.{Persons.landing_moves-of, Persons.leaving_moves-of, Phases.links_apart, Phases.phase_at_once, Sublists.at-run_untouched}
use Rattle.traffic.{proofs.Turns.Distinct-numbers, proofs.Turns.turns_at_once, proofs.Turns.moves_of-map, specs.declared.moves.Move.Move}
use Rattle.traffic.specs.declared.stage.Stage.{Stage, TheVariants.Queue, TheVariants.Buffer, TheVariants.Wait, TheVariants.Bay}
use Rattle.traffic.specs.declared.world.{Person.Person, Row.Row}
use Rattle.events.specs.declared.event.Phase.TheVariants as phase
use Rattle.parts.specs.{Owners.Owner, Owners.owner_of, Owners.begins_in, Parts.Held}
use Rattle.law_partitions.proofs.Begins.{of-quiet, own-turn, departures-quiet}
use Rattle.law_partitions.proofs.Early.{IsEarly, AreEarly, A_moves-are, B1_moves-are, A-early, B1-early, departures-early, early-untouched, early-rows}
use Rattle.law_partitions.proofs.{Early.early-holes, Handed.nodes-handed, Handed.handed-waits, Quiet.person_moves, Quiet.person-run, Quiet.quiet_same}
use Rattle.law_partitions.proofs.{Second.held_run-holes, Second.same_state, Second.waiters-here, Telling.landing_off, Telling.leaving_off}
use Rattle.law_partitions.specs.Alone.{held_run, taken_here, see, state_here, waiters_here, acts, first_of, my_nodes, my_links, my_runs, A_part, B1_part}
use Rattle.law_partitions.specs.Alone.{B2_part, C_part, D_part, after_A, after_B1, early, after_C}
use Rattle.law_own_worlds.specs.OwnWorlds.{IsWorldOf, IsOwnWorld, IsSecondOf, landed, left, set_out, crossed}
use Rattle.law_own_worlds.proofs.Running.{turns_keep, places_stay, distinct_passed, same_turns, same_passed}

-- WHO IS NOWHERE
none_lands : (S : Setup) (t i : ℕ) (P : Person) → P ≡ nobody → landing_moves S t i P ≡ []
none_lands S t i P e = ap (landing_moves S t i) e ∙ landing_off S t i nobody (λ start q. absurd (cc))

none_leaves : (S : Setup) (t i : ℕ) (P : Person) → P ≡ nobody → leaving_moves S t i P ≡ []
none_leaves S t i P e = ap (leaving_moves S t i) e ∙ leaving_off S t i nobody (λ end q. absurd (cc))

none_waits : (S : Setup) (l i : ℕ) (P : Person) → P ≡ nobody → waiter S l i P ≡ []
none_waits S l i P e = ap (waiter S l i) e

-- who acts by his own row does the same where the partition has him, and nothing where it lacks him
acts_alike : (S : Setup) (has : ℕ → Bool) (H : Held) (V : World) (f : ℕ → Person → List Move) (i : ℕ) → IsWorldOf S has H V
    → (has i ≡ false → f i (person_of i V) ≡ []) → acts f i (H.person i) ≡ f i (person_of i V)
acts_alike S has H V f i h none =
    elim (cases_Bool (has i)) [
      | inl e ↦ let q : H.person i ≡ Some (person_of i V) = h.person i ∙ (rw e refl) in ap (acts f i) q
      | inr e ↦ let q : H.person i ≡ None = h.person i ∙ (rw e refl) in ap (acts f i) q ∙ sym (none e)
    ]

module _ (S : Setup) (own : Owner) (p t : ℕ) (has : ℕ → Bool) (H : Held) (V : World) (h : IsOwnWorld S own p t has H V) where
  abbrev c : ℕ
  c = length S.persons

  abbrev V1 : World
  V1 = landed S t V

  abbrev V2 : World
  V2 = left S t V

  abbrev V3 : World
  V3 = set_out S own p t V

  abbrev V4 : World
  V4 = crossed S own p t V

  abbrev H1 : Held
  H1 = after_A S t H

  abbrev H2 : Held
  H2 = after_B1 S t H1

  abbrev E : Held
  E = early S own p t H

  abbrev G : Held
  G = after_C S own p t E

  -- PERSONS
  landings : A_part S t H ≡ turns_in S t phase.A V
  unfolding turns_of
  landings =
      same_turns (λ i. acts (landing_moves S t) i (H.person i)) (λ i. landing_turns S t i V) 0 c
      (λ i lt. acts_alike S has H V (landing_moves S t) i h.world (λ e. none_lands S t i (person_of i V) (h.nowhere i e)))
      ∙ sym (phase_at_once S t phase.A V)

  world1 : IsWorldOf S has H1 V1
  world1 = turns_keep S t has (A_part S t H) (turns_in S t phase.A V) H V landings h.world

  nowhere1 : (i : ℕ) → i < c → has i ≡ false → person_of i V1 ≡ nobody
  nowhere1 i lt e =
      let n = h.world.one_each in
      let there : i < length V.persons = omega arith in
      let plan : ℕ → List Move = λ k. landing_turns S t k V in
      ap (λ (ms : List Move). person_of i (run S t ms V)) (A_moves-are S t V)
      ∙ person-run S t i (flat_map plan (below c)) V there
      ∙ own-turn S t i c plan (λ k g. of-quiet S t k i (plan k) g (landing_moves-of S t k (person_of k V))) lt (person_of i V)
      ∙ ap (λ (ms : List Move). person_moves S t i ms (person_of i V)) (none_lands S t i (person_of i V) (h.nowhere i e))
      ∙ h.nowhere i e

  leavings : B1_part S t H1 ≡ turns_in S t phase.B1 V1
  unfolding turns_of
  leavings =
      same_turns (λ i. acts (leaving_moves S t) i (H1.person i)) (λ i. leaving_turns S t i V1) 0 c
      (λ i lt. acts_alike S has H1 V1 (leaving_moves S t) i world1 (λ e. none_leaves S t i (person_of i V1) (nowhere1 i (omega arith) e)))
      ∙ sym (phase_at_once S t phase.B1 V1)

  world2 : IsWorldOf S has H2 V2
  world2 = turns_keep S t has (B1_part S t H1) (turns_in S t phase.B1 V1) H1 V1 leavings world1

  nowhere2 : (i : ℕ) → i < c → has i ≡ false → person_of i V2 ≡ nobody
  nowhere2 i lt e =
      let n = world1.one_each in
      let there : i < length V1.persons = omega arith in
      let plan : ℕ → List Move = λ k. leaving_turns S t k V1 in
      ap (λ (ms : List Move). person_of i (run S t ms V1)) (B1_moves-are S t V1)
      ∙ person-run S t i (flat_map plan (below c)) V1 there
      ∙ own-turn S t i c plan (λ k g. of-quiet S t k i (plan k) g (leaving_moves-of S t k (person_of k V1))) lt (person_of i V1)
      ∙ ap (λ (ms : List Move). person_moves S t i ms (person_of i V1)) (none_leaves S t i (person_of i V1) (nowhere1 i lt e))
      ∙ nowhere1 i lt e

  -- DEPARTURES
  runs_once : turns S t (departure_turns S t) (my_runs S own p) V2 ≡ map (turn_of (departure_turns S t) V2) (my_runs S own p)
  runs_once =
      turns_at_once S t (departure_turns S t) (departures_apart S t) (my_runs S own p) V2
      (distinct_passed (λ d. eqb (owner_of S own (first_of S d)) p) (below (length S.departures)) (Distinct-numbers 0 (length S.departures)))

  departures : B2_part S own p t ≡ turns S t (departure_turns S t) (my_runs S own p) V2
  departures = sym runs_once

  world3 : IsWorldOf S has E V3
  world3 = turns_keep S t has (B2_part S own p t) (turns S t (departure_turns S t) (my_runs S own p) V2) H2 V2 departures world2

  run_moves : moves_of (turns S t (departure_turns S t) (my_runs S own p) V2) ≡ flat_map (departure_moves S t) (my_runs S own p)
  run_moves = ap moves_of runs_once ∙ moves_of-map (departure_turns S t) V2 (my_runs S own p)

  pub nowhere3 : (i : ℕ) → i < c → has i ≡ false → person_of i V3 ≡ nobody
  nowhere3 i lt e =
      let n = world2.one_each in
      let there : i < length V2.persons = omega arith in
      let ms = flat_map (departure_moves S t) (my_runs S own p) in
      ap (λ (xs : List Move). person_of i (run S t xs V2)) run_moves
      ∙ person-run S t i ms V2 there
      ∙ quiet_same S t i ms (person_of i V2) (departures-quiet S t i (my_runs S own p))
      ∙ nowhere2 i lt e

  -- WHAT STAYS
  early1 : AreEarly (moves_of (A_part S t H))
  early1 = subst (λ (us : List Turn). AreEarly (moves_of us)) (sym landings) (A-early S t V)

  early2 : AreEarly (moves_of (B1_part S t H1))
  early2 = subst (λ (us : List Turn). AreEarly (moves_of us)) (sym leavings) (B1-early S t V1)

  pub run_early : AreEarly (moves_of (turns S t (departure_turns S t) (my_runs S own p) V2))
  run_early =
      subst (λ (ms : List Move). AreEarly ms) (sym run_moves)
      (each_flat_all IsEarly (departure_moves S t) (departures-early S t) (my_runs S own p))

  early3 : AreEarly (moves_of (B2_part S own p t))
  early3 = subst (λ (us : List Turn). AreEarly (moves_of us)) (sym departures) run_early

  lists_stay : (l : ℕ) (s : Stage) → eqb 2 (rank s) ≡ false → at l s V3 ≡ at l s V
  lists_stay l s e =
      let a = moves_of (turns_in S t phase.A V) in
      let b = moves_of (turns_in S t phase.B1 V1) in
      let c = moves_of (turns S t (departure_turns S t) (my_runs S own p) V2) in
      at-run_untouched S t l s c V2 (early-untouched l s c e run_early)
      ∙ at-run_untouched S t l s b V1 (early-untouched l s b e (B1-early S t V1))
      ∙ at-run_untouched S t l s a V (early-untouched l s a e (A-early S t V))

  rows_stay : (m : ℕ) → E.rows m ≡ H.rows m
  rows_stay m =
      early-rows S t m (moves_of (B2_part S own p t)) H2 early3 ∙ early-rows S t m (moves_of (B1_part S t H1)) H1 early2
      ∙ early-rows S t m (moves_of (A_part S t H)) H early1

  holes_stay : (m : ℕ) → E.holes m ≡ H.holes m
  holes_stay m =
      let a = moves_of (A_part S t H) in
      let b = moves_of (B1_part S t H1) in
      let c = moves_of (B2_part S own p t) in
      held_run-holes S t m c H2 ∙ early-holes m c (H2.holes m) early3 ∙ held_run-holes S t m b H1 ∙ early-holes m b (H1.holes m) early2
      ∙ held_run-holes S t m a H ∙ early-holes m a (H.holes m) early1

  -- WHO WAITS
  early_lines : (l : ℕ) → waiters_here S l E ≡ waiters S l V3
  early_lines l =
      waiters-here S l has E V3 world3.one_each world3.person
      (λ i lt e. none_waits S l i (person_of i V3) (nowhere3 i lt e))

  -- PLACES
  places_of : (us vs : List Turn) (K : Held) (X : World) → us ≡ vs → AreEarly (moves_of vs) → (m : ℕ) → taken_here S t K m ≡ taken_at S t m X
      → taken_here S t (held_run S t (moves_of us) K) m ≡ taken_at S t m (after S t vs X)
  places_of us vs K X e first m q =
      ap (λ (xs : List Turn). taken_here S t (held_run S t (moves_of xs) K) m) e ∙ places_stay S t m (moves_of vs) K X first q

  taken3 : (m : ℕ) → begins_in S own m ≡ p → taken_here S t E m ≡ taken_at S t m V3
  taken3 m e =
      places_of (B2_part S own p t) (turns S t (departure_turns S t) (my_runs S own p) V2) H2 V2 departures run_early m
      (places_of (B1_part S t H1) (turns_in S t phase.B1 V1) H1 V1 leavings (B1-early S t V1) m
      (places_of (A_part S t H) (turns_in S t phase.A V) H V landings (A-early S t V) m (h.taken m e)))

  -- NODES
  same_view : (A B : NodeView) → A.in_links ≡ B.in_links → A.out_links ≡ B.out_links → A ≡ B
  same_view A B e f = λ i. record { in_links = e i; out_links = f i }

  sees : (n : ℕ) → eqb (own n) p ≡ true → see S t n E ≡ node_view S t n V3
  sees n e =
      same_view (see S t n E) (node_view S t n V3)
      (ap (λ f. map f (into S n)) (fun_ext (λ l. ap (λ (rows : List Row). record {
        link = l;
        capacity = (link_row S l).capacity;
        green = S.green l t;
        rows = rows;
      }) (world3.list l Buffer))))
      (fun_ext (λ m. elim (cases_Bool (eqb (link_row S m).from n)) [
        | inl f ↦
            let q = taken3 m (ap own (eqb-true (link_row S m).from n f) ∙ eqb-true (own n) p e) in
            simp f (ap (λ taken. Some (record { taken = taken; storage = storage_of S m; seconds = seconds_of S m })) q)
        | inr f ↦ simp f
      ]))

  pub nodes_once : turns S t (node_turns S t) (my_nodes S own p) V3 ≡ map (turn_of (node_turns S t) V3) (my_nodes S own p)
  nodes_once =
      turns_at_once S t (node_turns S t) (nodes_apart S t) (my_nodes S own p) V3
      (distinct_passed (λ n. eqb (own n) p) (below S.nodes) (Distinct-numbers 0 S.nodes))

  nodes : C_part S own p t E ≡ turns S t (node_turns S t) (my_nodes S own p) V3
  nodes =
      same_passed (λ n. node_moves S.settings.stuck t (S.word n) (see S t n E)) (λ n. node_turns S t n V3) (λ n. eqb (own n) p) 0 S.nodes
      (λ n lt e. ap (node_moves S.settings.stuck t (S.word n)) (sees n e)) ∙ sym nodes_once

  world4 : IsWorldOf S has G V4
  world4 = turns_keep S t has (C_part S own p t E) (turns S t (node_turns S t) (my_nodes S own p) V3) E V3 nodes world3

  -- LINKS
  nobody_waits : (l i : ℕ) → i < c → has i ≡ false → waiter S l i (person_of i V4) ≡ []
  nobody_waits l i lt e =
      let n = world3.one_each in
      let there : i < length V3.persons = omega arith in
      let ms = flat_map (λ n. node_turns S t n V3) (my_nodes S own p) in
      let are : moves_of (turns S t (node_turns S t) (my_nodes S own p) V3) ≡ ms
      = ap moves_of nodes_once ∙ moves_of-map (node_turns S t) V3 (my_nodes S own p) in
      ap (λ (xs : List Move). waiter S l i (person_of i (run S t xs V3))) are
      ∙ ap (waiter S l i) (person-run S t i ms V3 there)
      ∙ handed-waits S t l i ms (person_of i V3) (nodes-handed S t V3 (my_nodes S own p)) (none_waits S l i (person_of i V3) (nowhere3 i lt e))

  lines : (l : ℕ) → waiters_here S l G ≡ waiters S l V4
  lines l = waiters-here S l has G V4 world4.one_each world4.person (λ i lt e. nobody_waits l i lt e)

  states : (l : ℕ) → l < length S.links → state_here l G ≡ link_state l V4
  states l lt =
      same_state (state_here l G) (link_state l V4) (world4.list l Queue) (world4.list l Buffer) (world4.list l Wait) (world4.list l Bay)
      (world4.credit l lt)

  pub links_once : turns S t (link_turns S t) (my_links S own p) V4 ≡ map (turn_of (link_turns S t) V4) (my_links S own p)
  links_once =
      turns_at_once S t (link_turns S t) (links_apart S t) (my_links S own p) V4
      (distinct_passed (λ l. eqb (owner_of S own l) p) (below (length S.links)) (Distinct-numbers 0 (length S.links)))

  links : D_part S own p t G ≡ turns S t (link_turns S t) (my_links S own p) V4
  links =
      same_passed (λ l. link_moves (rules S l) t l (waiters_here S l G) (state_here l G)) (λ l. link_turns S t l V4)
      (λ l. eqb (owner_of S own l) p) 0 (length S.links)
      (λ l lt e.
      ap (λ ws. link_moves (rules S l) t l ws (state_here l G)) (lines l)
      ∙ ap (link_moves (rules S l) t l (waiters S l V4)) (states l (omega arith)))
      ∙ sym links_once

  pub second_of : IsSecondOf S own p t has H V
  second_of = record {
    landings = landings;
    leavings = leavings;
    departures = departures;
    nodes = nodes;
    links = links;
    after_leavings = world2;
    after_departures = world3;
    after_nodes = world4;
    waiters_before = early_lines;
    waiters_behind = lines;
    after_links = turns_keep S t has (D_part S own p t G) (turns S t (link_turns S t) (my_links S own p) V4) G V4 links world4;
    lists = lists_stay;
    rows = rows_stay;
    holes = holes_stay;
    taken = taken3;
  }
