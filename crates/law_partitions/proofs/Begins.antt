-- The phases A, B1 and B2 of a part: its persons and departures do what they do in the day.
use Rattle.traffic.proofs.Common.{◌≡◌, ℕ, List, ◌∙◌, length, ap, refl, sym, [], ◌∷◌, arith, ◌<◌, true, ◌++◌, ◌+◌, Bool, inl, inr, false, suc, eqb, zero}
use Rattle.traffic.proofs.Common.{append-nil, cases_Bool, flat_map, map, Some, None, Option, if◌then◌else◌, world_at, turns_of, turns_in, moves_of, node_turns}
use Rattle.traffic.proofs.Common.{keyed, landing_turns, leaving_turns, Turn, Untouched, below, numbers, run, told, at_after_all, in_force, taken_at, waiter}
use Rattle.traffic.proofs.Common.{landing_moves, leaving_moves, departure_moves, World, person_of, at, rank, credit_of, Setup, hole_of}
use Rattle.traffic.proofs.{Each.each_flat_all, Persons.TellOf, Persons.landing_moves-of, Persons.leaving_moves-of, Sublists.Untouched-append, Sublists.at-run}
use Rattle.traffic.proofs.{Sublists.at_after_all-untouched, Sublists.at_after_all-append, Turns.filter_one, Waiting.run-length, Walks.flight_walk}
use Rattle.traffic.{proofs.Walks.departure_walk, specs.Frames.IsOf, specs.Frames.AreOf, specs.declared.moves.Move.Move}
use Rattle.traffic.specs.declared.{moves.Occurrence.Occurrence, stage.Stage.Stage, stage.Stage.TheVariants.Queue, stage.Stage.TheVariants.Buffer}
use Rattle.traffic.specs.declared.{stage.Stage.TheVariants.Wait, stage.Stage.TheVariants.Bay, world.Person.Person, world.Row.Row}
use Rattle.events.specs.declared.event.Phase.TheVariants as phase
use Rattle.parts.specs.{Owners.Owner, Owners.owner_of, Owners.begins_in, Owners.owner_of_person, Parts.Held, Parts.mine}
use Rattle.law_partitions.proofs.Early.{IsEarly, AreEarly, landings-early, leavings-early, departures-early, early-untouched, early-holes, early-pays}
use Rattle.law_partitions.proofs.Early.{early-rows, A_world, B1_world, mid, A_moves-are, B1_moves-are, B2_moves-are, mid-list, mid-credit, mid-holes}
use Rattle.law_partitions.proofs.{Late.Late, Quiet.NotHis, Quiet.Silent, Quiet.silent_same, Quiet.IsQuiet, Quiet.Quiet, Quiet.person_moves, Quiet.person-run}
use Rattle.law_partitions.proofs.{Quiet.person-filter, Quiet.opt_moves, Quiet.person-held, Quiet.quiet_same, Second.Short, Second.held_run-list}
use Rattle.law_partitions.proofs.{Second.held_run-credit, Second.held_run-holes, Turns.not_mine, Turns.eqb_turn, Turns.at-mine}
use Rattle.law_partitions.specs.Alone.{held_run, taken_here, acts, first_of, my_runs, A_part, B1_part, B2_part, after_A, after_B1, after_B2}

pub moves_of-parts : (f : ℕ → List Move) (ns : List ℕ) → moves_of (map (λ (i : ℕ). let u : Turn = record { number = i; moves = f i } in u) ns) ≡ flat_map f ns
moves_of-parts f [] = refl
moves_of-parts f (n ∷ ns) = ap (λ ms. f n ++ ms) (moves_of-parts f ns)

-- who tells of one person tells of no other
not_his : (n i : ℕ) (o : Option ℕ) → eqb n i ≡ false → IsOf n o → NotHis i o
not_his n i None e h = tt
not_his n i (Some j) e h = ap (λ k. eqb k i) h ∙ e

of-silent : (n i : ℕ) (es : List Occurrence) → eqb n i ≡ false → AreOf n es → Silent i es
of-silent n i [] e h = tt
of-silent n i (x ∷ xs) e h = (not_his n i x.person e h.0, of-silent n i xs e h.1)

pub of-quiet : (S : Setup) (t n i : ℕ) (ms : List Move) → eqb n i ≡ false → TellOf n ms → Quiet S t i ms
of-quiet S t n i [] e h = tt
of-quiet S t n i (m ∷ ms) e h = (λ P. silent_same S t i (told m) P (of-silent n i (told m) e h.0), of-quiet S t n i ms e h.1)

-- of many turns his own alone tells of him
pub own-turn : (S : Setup) (t i c : ℕ) (plan : ℕ → List Move) → ((n : ℕ) → eqb n i ≡ false → Quiet S t i (plan n)) → i < c → (P : Person) → person_moves S t i (flat_map plan (below c)) P ≡ person_moves S t i (plan i) P
own-turn S t i c plan h lt P =
    person-filter S t i plan (λ n. eqb n i) h (below c) P
    ∙ ap (λ ns. person_moves S t i (flat_map plan ns) P) (filter_one i 0 c (omega arith) (omega arith))
    ∙ ap (λ ms. person_moves S t i ms P) (append-nil (plan i))

opt-own : (S : Setup) (t i c : ℕ) (plan : ℕ → List Move) → ((n : ℕ) → eqb n i ≡ false → Quiet S t i (plan n)) → i < c → (o : Option Person) → opt_moves S t i (flat_map plan (below c)) o ≡ opt_moves S t i (plan i) o
opt-own S t i c plan h lt None = refl
opt-own S t i c plan h lt (Some P) = ap Some (own-turn S t i c plan h lt P)

-- what holds of no moves, and of those by his row, holds where his row is known or not
acts_walk : (T : List Move → Type 0) (f : ℕ → Person → List Move) (i : ℕ) (o : Option Person) → T [] → ((P : Person) → T (f i P)) → T (acts f i o)
acts_walk T f i None none h = none
acts_walk T f i (Some P) none h = h P

-- a phase of persons, each of whom acts by his own row: the part's rows stay those of the day
persons_act : (S : Setup) (t : ℕ) (f : ℕ → Person → List Move) (has : ℕ → Bool) (W V : World) (H : Held) → ((n : ℕ) (P : Person) → TellOf n (f n P)) → length W.persons ≡ length S.persons → ((i : ℕ) → has i ≡ true → i < length S.persons) →
    V ≡ run S t (flat_map (λ i. f i (person_of i W)) (below (length S.persons))) W → ((i : ℕ) → H.person i ≡ mine (has i) (person_of i W)) →
    (i : ℕ) → (held_run S t (flat_map (λ i. acts f i (H.person i)) (below (length S.persons))) H).person i ≡ mine (has i) (person_of i V)
persons_act S t f has W V H of few there is person i =
    let c = length S.persons in
    let plan : ℕ → List Move = λ i. acts f i (H.person i) in
    person-held S t i (flat_map plan (below c)) H
    ∙ elim (cases_Bool (has i)) [
      | inl e ↦
          let lt = there i e in
          let q : H.person i ≡ Some (person_of i W) = person i ∙ (rw e refl) in
          let d : person_of i V ≡ person_moves S t i (f i (person_of i W)) (person_of i W) =
          ap (person_of i) is ∙ person-run S t i (flat_map (λ i. f i (person_of i W)) (below c)) W (omega arith)
          ∙ own-turn S t i c (λ n. f n (person_of n W)) (λ n g. of-quiet S t n i (f n (person_of n W)) g (of n (person_of n W))) lt (person_of i W) in
          rw e (opt-own S t i c plan (λ n g. acts_walk (λ ms. Quiet S t i ms) f n (H.person n) tt (λ P. of-quiet S t n i (f n P) g (of n P))) lt (H.person i)
          ∙ ap (λ o. opt_moves S t i (acts f i o) o) q
          ∙ ap Some (sym d))
      | inr e ↦ let q : H.person i ≡ None = person i ∙ (rw e refl) in rw e (ap (opt_moves S t i (flat_map plan (below c))) q)
    ]

-- lists that agree but for turns that do not touch them
lists-agree : (l : ℕ) (s : Stage) (has : ℕ → Bool) (here plan : ℕ → List Move) → ((n : ℕ) → has n ≡ true → here n ≡ plan n) → ((n : ℕ) → has n ≡ false → (here n ≡ []) × Untouched l s (plan n)) → (ns : List ℕ) (xs : List Row) →
    at_after_all l s (flat_map here ns) xs ≡ at_after_all l s (flat_map plan ns) xs
lists-agree l s has here plan same none [] xs = refl
lists-agree l s has here plan same none (n ∷ ns) xs =
    let more = lists-agree l s has here plan same none ns in
    at_after_all-append l s (here n) (flat_map here ns) xs
    ∙ elim (cases_Bool (has n)) [
      | inl e ↦ ap (λ ms. at_after_all l s (flat_map here ns) (at_after_all l s ms xs)) (same n e) ∙ more (at_after_all l s (plan n) xs)
      | inr e ↦
          let q = none n e in
          ap (λ ms. at_after_all l s (flat_map here ns) (at_after_all l s ms xs)) q.0 ∙ more xs
          ∙ ap (at_after_all l s (flat_map plan ns)) (sym (at_after_all-untouched l s (plan n) xs q.1))
    ]
    ∙ sym (at_after_all-append l s (plan n) (flat_map plan ns) xs)

-- what p has of the world after t seconds, before it does its second
pub record Ready (S : Setup) (own : Owner) (p t : ℕ) (late : ℕ → List Row) (has : ℕ → Bool) (W : World) (H : Held) : Type 0 where
  pub queue : (l : ℕ) → eqb (owner_of S own l) p ≡ true → at l Queue W ≡ H.list l Queue ++ late l
  pub here : (l : ℕ) → eqb (begins_in S own l) p ≡ true → late l ≡ []
  pub not_due : (l : ℕ) → Late t (late l)
  pub list : (l : ℕ) (s : Stage) → eqb (rank s) 0 ≡ false → eqb (owner_of S own l) p ≡ true → H.list l s ≡ at l s W
  pub credit : (l : ℕ) → eqb (owner_of S own l) p ≡ true → H.credit l ≡ credit_of l W
  pub taken : (m : ℕ) → eqb (begins_in S own m) p ≡ true → taken_here S t H m ≡ taken_at S t m W
  pub person : (i : ℕ) → H.person i ≡ mine (has i) (person_of i W)
  pub few : length W.persons ≡ length S.persons
  pub there : (i : ℕ) → has i ≡ true → i < length S.persons

-- what others do in second t does not concern the links and the persons of p
pub record Calm (S : Setup) (own : Owner) (p t : ℕ) (has : ℕ → Bool) : Type 0 where
  pub starts : (l i : ℕ) → eqb (owner_of S own l) p ≡ true → has i ≡ false → Untouched l Wait (leaving_turns S t i (A_world S t (world_at S t)))
  pub elsewhere : (l i : ℕ) → eqb (owner_of S own l) p ≡ true → has i ≡ false → waiter S l i (person_of i (mid S t)) ≡ []
  pub quiet : (i n : ℕ) → has i ≡ true → eqb (own n) p ≡ false → Quiet S t i (node_turns S t n (mid S t))

departure-untouched : (S : Setup) (t d l : ℕ) → eqb (first_of S d) l ≡ false → Untouched l Wait (departure_moves S t d)
departure-untouched S t d l e = departure_walk (λ ms. Untouched l Wait ms) S t d tt (λ f. (rw e refl, tt))

pub departures-quiet : (S : Setup) (t i : ℕ) (ds : List ℕ) → Quiet S t i (flat_map (departure_moves S t) ds)
departures-quiet S t i ds = each_flat_all (IsQuiet S t i) (departure_moves S t) (λ d. departure_walk (λ ms. Quiet S t i ms) S t d tt (λ e. ((λ P. refl), tt))) ds

each-untouched : (l : ℕ) (plan : ℕ → List Move) → ((n : ℕ) → Untouched l Wait (plan n)) → (ns : List ℕ) → Untouched l Wait (flat_map plan ns)
each-untouched l plan h [] = tt
each-untouched l plan h (n ∷ ns) = Untouched-append l Wait (plan n) _ (h n) (each-untouched l plan h ns)

landings-untouched : (S : Setup) (t i l : ℕ) (P : Person) → Untouched l Wait (landing_moves S t i P)
landings-untouched S t i l P = flight_walk (λ ms. Untouched l Wait ms) S t i P tt (λ mode seconds start p w e. (refl, tt))

module _ (S : Setup) (own : Owner) (p t : ℕ) (late : ℕ → List Row) (has : ℕ → Bool) (H : Held) (h : Ready S own p t late has (world_at S t) H) (c : Calm S own p t has) where
  abbrev W0 : World
  W0 = world_at S t

  abbrev W1 : World
  W1 = A_world S t W0

  abbrev W2 : World
  W2 = B1_world S t W1

  abbrev H1 : Held
  H1 = after_A S t H

  abbrev H2 : Held
  H2 = after_B1 S t H1

  abbrev H3 : Held
  H3 = after_B2 S own p t H2

  A_ms : moves_of (A_part S t H) ≡ flat_map (λ i. acts (landing_moves S t) i (H.person i)) (below (length S.persons))
  A_ms = moves_of-parts (λ i. acts (landing_moves S t) i (H.person i)) (below (length S.persons))

  B1_ms : moves_of (B1_part S t H1) ≡ flat_map (λ i. acts (leaving_moves S t) i (H1.person i)) (below (length S.persons))
  B1_ms = moves_of-parts (λ i. acts (leaving_moves S t) i (H1.person i)) (below (length S.persons))

  B2_ms : moves_of (B2_part S own p t) ≡ flat_map (departure_moves S t) (my_runs S own p)
  B2_ms = moves_of-parts (departure_moves S t) (my_runs S own p)

  pub few1 : length W1.persons ≡ length S.persons
  few1 = run-length S t (moves_of (turns_in S t phase.A W0)) W0 ∙ h.few

  pub few2 : length W2.persons ≡ length S.persons
  few2 = run-length S t (moves_of (turns_in S t phase.B1 W1)) W1 ∙ few1

  pub few3 : length (mid S t).persons ≡ length S.persons
  few3 = run-length S t (moves_of (turns_in S t phase.B2 W2)) W2 ∙ few2

  -- PERSONS
  pub person1 : (i : ℕ) → H1.person i ≡ mine (has i) (person_of i W1)
  person1 i =
      ap (λ ms. (held_run S t ms H).person i) A_ms
      ∙ persons_act S t (landing_moves S t) has W0 W1 H (λ n P. landing_moves-of S t n P) h.few h.there (ap (λ ms. run S t ms W0) (A_moves-are S t W0)) h.person i

  pub person2 : (i : ℕ) → H2.person i ≡ mine (has i) (person_of i W2)
  person2 i =
      ap (λ ms. (held_run S t ms H1).person i) B1_ms
      ∙ persons_act S t (leaving_moves S t) has W1 W2 H1 (λ n P. leaving_moves-of S t n P) few1 h.there (ap (λ ms. run S t ms W1) (B1_moves-are S t W1)) person1 i

  pub person3 : (i : ℕ) → H3.person i ≡ mine (has i) (person_of i (mid S t))
  person3 i =
      let ms = flat_map (departure_moves S t) (my_runs S own p) in
      let all = flat_map (departure_moves S t) (below (length S.departures)) in
      ap (λ us. (held_run S t us H2).person i) B2_ms
      ∙ person-held S t i ms H2 ∙ ap (opt_moves S t i ms) (person2 i)
      ∙ elim (cases_Bool (has i)) [
        | inl e ↦
            let lt = h.there i e in
            let f2 = few2 in
            let d : person_of i (mid S t) ≡ person_of i W2 =
            ap (λ us. person_of i (run S t us W2)) (B2_moves-are S t W2) ∙ person-run S t i all W2 (omega arith) ∙ quiet_same S t i all (person_of i W2) (departures-quiet S t i (below (length S.departures))) in
            rw e (ap Some (quiet_same S t i ms (person_of i W2) (departures-quiet S t i (my_runs S own p)) ∙ sym d))
        | inr e ↦ rw e refl
      ]

  -- LISTS
  A_early : AreEarly (moves_of (A_part S t H))
  A_early = rw A_ms (each_flat_all IsEarly (λ i. acts (landing_moves S t) i (H.person i)) (λ i. acts_walk (λ ms. AreEarly ms) (landing_moves S t) i (H.person i) tt (landings-early S t i)) (below (length S.persons)))

  B1_early : AreEarly (moves_of (B1_part S t H1))
  B1_early = rw B1_ms (each_flat_all IsEarly (λ i. acts (leaving_moves S t) i (H1.person i)) (λ i. acts_walk (λ ms. AreEarly ms) (leaving_moves S t) i (H1.person i) tt (leavings-early S t i)) (below (length S.persons)))

  B2_early : AreEarly (moves_of (B2_part S own p t))
  B2_early = rw B2_ms (each_flat_all IsEarly (departure_moves S t) (departures-early S t) (my_runs S own p))

  pub early-list : (l : ℕ) (s : Stage) → eqb 2 (rank s) ≡ false → H3.list l s ≡ H.list l s
  early-list l s e =
      held_run-list S t l s (moves_of (B2_part S own p t)) H2 ∙ at_after_all-untouched l s (moves_of (B2_part S own p t)) (H2.list l s) (early-untouched l s (moves_of (B2_part S own p t)) e B2_early)
      ∙ held_run-list S t l s (moves_of (B1_part S t H1)) H1 ∙ at_after_all-untouched l s (moves_of (B1_part S t H1)) (H1.list l s) (early-untouched l s (moves_of (B1_part S t H1)) e B1_early)
      ∙ held_run-list S t l s (moves_of (A_part S t H)) H ∙ at_after_all-untouched l s (moves_of (A_part S t H)) (H.list l s) (early-untouched l s (moves_of (A_part S t H)) e A_early)

  early_credit : (l : ℕ) → H3.credit l ≡ H.credit l
  early_credit l =
      held_run-credit S t l (moves_of (B2_part S own p t)) H2 ∙ early-pays l (moves_of (B2_part S own p t)) (H2.credit l) B2_early
      ∙ held_run-credit S t l (moves_of (B1_part S t H1)) H1 ∙ early-pays l (moves_of (B1_part S t H1)) (H1.credit l) B1_early
      ∙ held_run-credit S t l (moves_of (A_part S t H)) H ∙ early-pays l (moves_of (A_part S t H)) (H.credit l) A_early

  pub early_holes : (l : ℕ) → H3.holes l ≡ H.holes l
  early_holes l =
      held_run-holes S t l (moves_of (B2_part S own p t)) H2 ∙ early-holes l (moves_of (B2_part S own p t)) (H2.holes l) B2_early
      ∙ held_run-holes S t l (moves_of (B1_part S t H1)) H1 ∙ early-holes l (moves_of (B1_part S t H1)) (H1.holes l) B1_early
      ∙ held_run-holes S t l (moves_of (A_part S t H)) H ∙ early-holes l (moves_of (A_part S t H)) (H.holes l) A_early

  pub early_rows : (l : ℕ) → H3.rows l ≡ H.rows l
  early_rows l =
      early-rows S t l (moves_of (B2_part S own p t)) H2 B2_early
      ∙ early-rows S t l (moves_of (B1_part S t H1)) H1 B1_early
      ∙ early-rows S t l (moves_of (A_part S t H)) H A_early

  early_taken : (m : ℕ) → eqb (begins_in S own m) p ≡ true → taken_here S t H3 m ≡ taken_at S t m (mid S t)
  early_taken m e =
      let a = early_rows m in
      let b = ap (in_force t (hole_of S m)) (early_holes m) in
      let d = ap length (mid-list S t m Queue refl) in
      let f = ap (in_force t (hole_of S m)) (mid-holes S t m) in
      let g = h.taken m e in omega arith

  -- the wait lists
  wait1 : (l : ℕ) → eqb (owner_of S own l) p ≡ true → H1.list l Wait ≡ at l Wait W1
  wait1 l e =
      held_run-list S t l Wait (moves_of (A_part S t H)) H
      ∙ at_after_all-untouched l Wait (moves_of (A_part S t H)) (H.list l Wait) (rw A_ms (each-untouched l (λ i. acts (landing_moves S t) i (H.person i)) (λ i. acts_walk (λ ms. Untouched l Wait ms) (landing_moves S t) i (H.person i) tt (landings-untouched S t i l)) (below (length S.persons))))
      ∙ h.list l Wait refl e
      ∙ sym (at-run S t l Wait (moves_of (turns_in S t phase.A W0)) W0
      ∙ at_after_all-untouched l Wait (moves_of (turns_in S t phase.A W0)) (at l Wait W0) (rw (A_moves-are S t W0) (each-untouched l (λ i. landing_turns S t i W0) (λ i. landings-untouched S t i l (person_of i W0)) (below (length S.persons)))))

  wait2 : (l : ℕ) → eqb (owner_of S own l) p ≡ true → H2.list l Wait ≡ at l Wait W2
  wait2 l e =
      let N = below (length S.persons) in
      held_run-list S t l Wait (moves_of (B1_part S t H1)) H1
      ∙ ap (λ ms. at_after_all l Wait ms (H1.list l Wait)) B1_ms
      ∙ lists-agree l Wait has (λ i. acts (leaving_moves S t) i (H1.person i)) (λ i. leaving_turns S t i W1)
      (λ i f. ap (acts (leaving_moves S t) i) (person1 i) ∙ (rw f refl))
      (λ i f. (ap (acts (leaving_moves S t) i) (person1 i) ∙ (rw f refl), c.starts l i e f)) N (H1.list l Wait)
      ∙ ap (at_after_all l Wait (flat_map (λ i. leaving_turns S t i W1) N)) (wait1 l e)
      ∙ ap (λ ms. at_after_all l Wait ms (at l Wait W1)) (sym (B1_moves-are S t W1))
      ∙ sym (at-run S t l Wait (moves_of (turns_in S t phase.B1 W1)) W1)

  wait3 : (l : ℕ) → eqb (owner_of S own l) p ≡ true → H3.list l Wait ≡ at l Wait (mid S t)
  unfolding turns_of
  wait3 l e =
      held_run-list S t l Wait (moves_of (B2_part S own p t)) H2
      ∙ ap (λ ms. at_after_all l Wait ms (H2.list l Wait)) B2_ms
      ∙ ap (at_after_all l Wait (flat_map (departure_moves S t) (my_runs S own p))) (wait2 l e)
      ∙ sym (at-mine S t phase.B2 (λ d. eqb (owner_of S own (first_of S d)) p) l Wait W2 (λ d f. departure-untouched S t d l (eqb_turn l (first_of S d) (not_mine (owner_of S own) p (first_of S d) l e f))))

  -- So the part is before phase C what it is in the day.
  pub begins : Short S own p t late has (mid S t) H3
  begins = record {
    queue = λ l e. mid-list S t l Queue refl ∙ h.queue l e ∙ ap (λ xs. xs ++ late l) (sym (early-list l Queue refl));
    here = h.here;
    not_due = h.not_due;
    buffer = λ l e. early-list l Buffer refl ∙ h.list l Buffer refl e ∙ sym (mid-list S t l Buffer refl);
    wait = wait3;
    bay = λ l e. early-list l Bay refl ∙ h.list l Bay refl e ∙ sym (mid-list S t l Bay refl);
    credit = λ l e. early_credit l ∙ h.credit l e ∙ sym (mid-credit S t l);
    taken = early_taken;
    person = person3;
    few = few3;
    there = h.there;
    elsewhere = c.elsewhere;
    quiet = c.quiet;
  }

  -- EVENTS of these phases are the day's
  pub turns-agree : (f : ℕ → Person → List Move) (V : World) (G : Held) → ((i : ℕ) → G.person i ≡ mine (has i) (person_of i V)) → ((i : ℕ) → has i ≡ false → eqb (owner_of_person S own W0 i) p ≡ true → f i (person_of i V) ≡ []) → ((i : ℕ) → has i ≡ true → eqb (owner_of_person S own W0 i) p ≡ true) →
      (code : ℕ) (k n : ℕ) →
      flat_map (λ i. keyed t code i 0 (flat_map told (acts f i (G.person i)))) (numbers k n) ≡ flat_map (λ i. if eqb (owner_of_person S own W0 i) p then keyed t code i 0 (flat_map told (f i (person_of i V))) else []) (numbers k n)
  unfolding keyed
  turns-agree f V G person none owned code k zero = refl
  turns-agree f V G person none owned code k (suc n) =
      let more = turns-agree f V G person none owned code (k + 1) n in
      let one : keyed t code k 0 (flat_map told (acts f k (G.person k))) ≡ (if eqb (owner_of_person S own W0 k) p then keyed t code k 0 (flat_map told (f k (person_of k V))) else []) =
      ap (λ o. keyed t code k 0 (flat_map told (acts f k o))) (person k)
      ∙ elim (cases_Bool (has k)) [
        | inl e ↦ let q = owned k e in rw (e, q) refl
        | inr e ↦ rw e (elim (cases_Bool (eqb (owner_of_person S own W0 k) p)) [ inl q ↦ rw q (sym (ap (λ ms. keyed t code k 0 (flat_map told ms)) (none k e q))) | inr q ↦ rw q refl ])
      ] in cc
