-- What others do does not concern the persons of p, and what p does does not concern those of others.
use Rattle.traffic.proofs.Common.{◌≡◌, ℕ, List, ◌∙◌, length, ap, refl, sym, [], ◌∷◌, arith, ◌<◌, true, ◌++◌, ◌+◌, Bool, inl, inr, subst, ◌≤◌, false, eqb}
use Rattle.traffic.proofs.Common.{append-nil, append_assoc, cases_Bool, eqb-true, and_parts, cases_lt, true≢false, ltb-true, or_parts, get_or_past, flat_map}
use Rattle.traffic.proofs.Common.{filter, not, ◌&&◌, nat_lt, Act, Leg, world_at, link_turns, moves_of, node_turns, turns_in, landing_turns, leaving_turns}
use Rattle.traffic.proofs.Common.{departure_turns, sees, Untouched, rules, link_state, link_moves, below, at_after_all, touches, same, waiter, sets_out}
use Rattle.traffic.proofs.Common.{transit_vehicle, waiters, landing_moves, leaving_moves, departure_moves, car, World, person_of, at, on, nobody, rank, Setup}
use Rattle.traffic.proofs.Common.{act_after, leg_at, link_row, departure, listed, IsListed}
use Rattle.traffic.proofs.{Each.each_append, Each.each_flat_all, Sublists.at-run, Waiting.run-length, Walks.flight_walk, Walks.leave_walk, Walks.departure_walk}
use Rattle.traffic.specs.declared.{moves.Move.Move, moves.Move.TheVariants.Transfer, moves.Move.TheVariants.Enter, stage.Stage.Stage}
use Rattle.traffic.specs.declared.stage.Stage.TheVariants.{Queue, Buffer, Wait, Bay}
use Rattle.traffic.specs.declared.world.{Person.Person, Place.Place, Place.TheVariants.At, Place.TheVariants.Teleporting, Place.TheVariants.Waiting}
use Rattle.traffic.specs.declared.world.{Place.TheVariants.Riding, Place.TheVariants.Aborted, Row.Row, Waiter.Waiter}
use Rattle.std.specs.List.{AllByRecursion as Each}
use Rattle.events.specs.declared.event.Phase.TheVariants as phase
use Rattle.rows.specs.declared.plan.Leg.TheVariants as leg
use Rattle.law_one_place.proofs.{Boarding.in_line, Boarding.waits_few, Boarding.line_one, Places.listed_once as once_listed, Turns.always_kept}
use Rattle.parts.specs.{Owners.Owner, Owners.owner_of, Owners.link_at, Owners.links_of, Parts.down, Parts.late_rows, Parts.all_late, Parts.is_late, Parts.has}
use Rattle.law_partitions.proofs.{Begins.Calm, Early.A_world, Early.B1_world, Early.mid, Early.A_moves-are, Early.B1_moves-are, Early.B2_moves-are}
use Rattle.law_partitions.proofs.{Early.mid-list, Ends.less, Flights.few_mid, Handed.handed-waits, Heard.within, Heard.known_and, Heard.down_less}
use Rattle.law_partitions.proofs.{History.known, History.came_last-late, Home.Lawful, Home.has-is, Home.home_mid, Home.waiter_away, Home.leave_away, Late.Late}
use Rattle.law_partitions.proofs.{Late.link_moves_late, Listing.listed-filter, Listing.listed-two, Listing.listed_home, Listing.apart_lists, Quiet.Quiet}
use Rattle.law_partitions.proofs.{Quiet.person-run, Second.C_world, Second.C_moves, Second.C-handed, Second.C-list, Second.C-came, Second.came_in}
use Rattle.law_partitions.proofs.{Second.came_late, Spare.Spare, Spare.Brings, Spare.listed-one, Spare.brings-left}
use Rattle.law_partitions.proofs.Tells.{listed-append, node-quiet, node-spare, link-quiet, link-spare}

-- WHERE A PERSON IS LISTED AT THE START OF THE SECOND
pub listed_in_one : (S : Setup) (t i : ℕ) → i < length S.persons → IsListed i (world_at S t).rows (person_of i (world_at S t)).place
listed_in_one S t i lt = (always_kept S t).one_place i lt

pub listed_once : (S : Setup) (t i : ℕ) → i < length S.persons → listed i (world_at S t).rows ≤ 1
listed_once S t i lt = once_listed i (world_at S t).rows (person_of i (world_at S t)).place (listed_in_one S t i lt)

find_list : (i : ℕ) (f : ℕ → List Row) (ns : List ℕ) → 1 ≤ listed i (flat_map f ns) → (l : ℕ) × (1 ≤ listed i (f l))
find_list i f [] h = absurd (omega arith)
find_list i f (n ∷ ns) h =
    let a = listed-append i (f n) (flat_map f ns) in
    elim (cases_lt 0 (listed i (f n))) [ inl lt ↦ (n, omega arith) | inr ge ↦ find_list i f ns (omega arith) ]

-- of p, and riding where p knows
module _ (S : Setup) (own : Owner) (p t i : ℕ) (law : Lawful S) (lt : i < length S.persons) where
  abbrev W : World
  W = world_at S t

  abbrev P : Person
  P = person_of i W

  abbrev b : Bool
  b = has S own (less S own) p t i

  -- who is listed on a link has it as his own
  link_is : (l : ℕ) (s : Stage) → 1 ≤ listed i (at l s W) → link_at S W i P.element P.place ≡ l
  link_is l s some = listed_home S W l s i P.element P.place (listed_in_one S t i lt) some

  -- the last seconds' rows of a link stand in its queue
  pub late_in : (l : ℕ) → listed i (at l Queue W) ≡ listed i (known S t (down S own (less S own) l) l) + listed i (late_rows S own (less S own) t l)
  late_in l =
      let d = down_less S own (less S own) (within S own law.long) l in
      ap (listed i) (known_and S own (less S own) l t (omega arith)) ∙ listed-append i (known S t (down S own (less S own) l) l) (late_rows S own (less S own) t l)

  -- rides in late rows: listed in a queue, and nowhere else
  not_both : (l : ℕ) (s : Stage) (a : ℕ) (z : Stage) → (eqb (rank s) (rank z) && eqb l a) ≡ false → 1 ≤ listed i (at l s W) → 1 ≤ listed i (at a z W) → ⊥
  not_both l s a z e h g = let two = listed-two i (on l s) (on a z) (apart_lists l s a z e) W.rows in let one = listed_once S t i lt in absurd (omega arith)

  -- he is listed there, so he is late
  late_there : (l : ℕ) (s : Stage) → eqb (owner_of S own l) p ≡ true → b ≡ false → 1 ≤ listed i (at l s W) → is_late S own (less S own) p t i P.element P.place ≡ true
  late_there l s o e some =
      let home : eqb (owner_of S own (link_at S W i P.element P.place)) p ≡ true = ap (λ (x : ℕ). eqb (owner_of S own x) p) (link_is l s some) ∙ o in
      let q : (eqb (owner_of S own (link_at S W i P.element P.place)) p && not (is_late S own (less S own) p t i P.element P.place)) ≡ false = sym (has-is S own (less S own) p t i lt P.place refl) ∙ e in
      elim (cases_Bool (is_late S own (less S own) p t i P.element P.place)) [ inl f ↦ f | inr f ↦ absurd (true≢false (sym (rw (home, f) refl) ∙ q)) ]

  late_place : (l : ℕ) (s : Stage) (pl : Place) → P.place ≡ pl → 1 ≤ listed i (at l s W) → is_late S own (less S own) p t i P.element P.place ≡ true → 1 ≤ listed i (all_late S own (less S own) p t)
  late_place l s (Riding v) e some late = let q : nat_lt 0 (listed i (all_late S own (less S own) p t)) ≡ true = ap (λ (x : Place). is_late S own (less S own) p t i P.element x) (sym e) ∙ late in let z = ltb-true 0 (listed i (all_late S own (less S own) p t)) q in omega arith
  late_place l s (At end) e some late = let x : listed i W.rows ≡ 0 = subst (λ pl. IsListed i W.rows pl) e (listed_in_one S t i lt) in let le = listed-filter i (on l s) W.rows in absurd (omega arith)
  late_place l s (Teleporting start) e some late = let x : listed i W.rows ≡ 0 = subst (λ pl. IsListed i W.rows pl) e (listed_in_one S t i lt) in let le = listed-filter i (on l s) W.rows in absurd (omega arith)
  late_place l s (Waiting stop since) e some late = let x : listed i W.rows ≡ 0 = subst (λ pl. IsListed i W.rows pl) e (listed_in_one S t i lt) in let le = listed-filter i (on l s) W.rows in absurd (omega arith)
  late_place l s (Aborted a) e some late = let x : listed i W.rows ≡ 0 = subst (λ pl. IsListed i W.rows pl) e (listed_in_one S t i lt) in let le = listed-filter i (on l s) W.rows in absurd (omega arith)

  late_link : (l : ℕ) (s : Stage) → eqb (owner_of S own l) p ≡ true → b ≡ false → 1 ≤ listed i (at l s W) → (a : ℕ) × (1 ≤ listed i (late_rows S own (less S own) t a))
  late_link l s o e some = find_list i (late_rows S own (less S own) t) (filter (λ l. eqb (owner_of S own l) p) (links_of S)) (late_place l s P.place refl some (late_there l s o e some))

  -- outside of queues, a person is listed on no link of p unless p knows him
  pub unknown_list : (l : ℕ) (s : Stage) → eqb (rank s) 0 ≡ false → eqb (owner_of S own l) p ≡ true → b ≡ false → listed i (at l s W) ≡ 0
  unknown_list l s z o e = elim (cases_lt 0 (listed i (at l s W))) [
    | inl some ↦
        let f = late_link l s o e (omega arith) in
        let k = late_in f.0 in
        let g = f.1 in
        absurd (not_both l s f.0 Queue (rw z refl) (omega arith) (omega arith))
    | inr none ↦ omega arith
  ]

  pub unknown_queue : (l : ℕ) → eqb (owner_of S own l) p ≡ true → b ≡ false → listed i (known S t (down S own (less S own) l) l) ≡ 0
  unknown_queue l o e =
      let kl = late_in l in
      elim (cases_lt 0 (listed i (known S t (down S own (less S own) l) l))) [
        | inl some ↦
            let f = late_link l Queue o e (omega arith) in
            let k = late_in f.0 in
            let g = f.1 in
            elim (cases_Bool (eqb l f.0)) [
              | inl q ↦
                  let r : listed i (late_rows S own (less S own) t l) ≡ listed i (late_rows S own (less S own) t f.0) = ap (λ (x : ℕ). listed i (late_rows S own (less S own) t x)) (eqb-true l f.0 q) in
                  let le = listed-filter i (on l Queue) W.rows in
                  let one = listed_once S t i lt in absurd (omega arith)
              | inr q ↦ absurd (not_both l Queue f.0 Queue (rw q refl) (omega arith) (omega arith))
            ]
        | inr none ↦ omega arith
      ]

  -- and a person of p on no link of others
  pub others_list : (l : ℕ) (s : Stage) → eqb (owner_of S own l) p ≡ false → b ≡ true → listed i (at l s W) ≡ 0
  others_list l s o e = elim (cases_lt 0 (listed i (at l s W))) [
    | inl some ↦
        let home : eqb (owner_of S own (link_at S W i P.element P.place)) p ≡ false = ap (λ (x : ℕ). eqb (owner_of S own x) p) (link_is l s (omega arith)) ∙ o in
        let q : (eqb (owner_of S own (link_at S W i P.element P.place)) p && not (is_late S own (less S own) p t i P.element P.place)) ≡ true = sym (has-is S own (less S own) p t i lt P.place refl) ∙ e in
        absurd (true≢false (sym q ∙ (rw home refl)))
    | inr none ↦ omega arith
  ]

-- NEW VEHICLES
brings_off : (i l : ℕ) (m : Move) → touches l Wait m ≡ false → Brings i l Wait m
brings_off i l (Transfer a z k was now) h = let g = (or_parts (same l Wait a z) (on l Wait now) h).1 in rw g refl
brings_off i l (Enter now) h = rw h refl
brings_off i l _ h = tt

brings_untouched : (i l : ℕ) (ms : List Move) → Untouched l Wait ms → Each (Brings i l Wait) ms
brings_untouched i l [] h = tt
brings_untouched i l (m ∷ ms) h = (brings_off i l m h.0, brings_untouched i l ms h.1)

sets_out_brings : (S : Setup) (i l n : ℕ) (w : Leg) (next : Act) → eqb n i ≡ false → Each (Brings i l Wait) (sets_out S n w next)
sets_out_brings S i l n (leg.Car route) next e = (let r = car n route next.kind in listed-one i (on l Wait r) r (rw e refl), tt)
sets_out_brings S i l n (leg.Teleport mode seconds) next e = tt
sets_out_brings S i l n (leg.Transit line access egress) next e = (tt, tt)

leaving_brings : (S : Setup) (t i l n : ℕ) (P : Person) → eqb n i ≡ false → Each (Brings i l Wait) (leaving_moves S t n P)
leaving_brings S t i l n P e = leave_walk (λ ms. Each (Brings i l Wait) ms) S t n P tt (λ p. (tt, sets_out_brings S i l n (leg_at S n P.element) (act_after S n P.element) e))

departure_brings : (S : Setup) (t i l d : ℕ) → Each (Brings i l Wait) (departure_moves S t d)
departure_brings S t i l d = departure_walk (λ ms. Each (Brings i l Wait) ms) S t d tt (λ e. (let r = transit_vehicle d (departure S d) in listed-one i (on l Wait r) r refl, tt))

landing_brings : (S : Setup) (t i l n : ℕ) (P : Person) → Each (Brings i l Wait) (landing_moves S t n P)
landing_brings S t i l n P = flight_walk (λ ms. Each (Brings i l Wait) ms) S t n P tt (λ mode seconds start p w e. (tt, tt))

none_pass : (ns : List ℕ) → filter (λ n. false) ns ≡ []
none_pass [] = refl
none_pass (n ∷ ns) = none_pass ns

pub C-untouched : (S : Setup) (t l : ℕ) (s : Stage) (V : World) → ((n : ℕ) → sees S n l s ≡ false) → at l s (C_world S t V) ≡ at l s V
C-untouched S t l s V h = C-list S t (λ n. false) l s V (λ n e. h n) ∙ ap (λ ns. at_after_all l s (flat_map (λ n. node_turns S t n V) ns) (at l s V)) (none_pass (below S.nodes))

module _ (S : Setup) (own : Owner) (p t i : ℕ) (law : Lawful S) (lt : i < length S.persons) where
  -- in the wait list of a link of others nobody new is his
  wait_mid : (l : ℕ) → eqb (owner_of S own l) p ≡ not (has S own (less S own) p t i) → listed i (at l Wait (mid S t)) ≤ listed i (at l Wait (world_at S t))
  wait_mid l o =
      let W0 = world_at S t in
      let W1 = A_world S t W0 in
      let W2 = B1_world S t W1 in
      let a = moves_of (turns_in S t phase.A W0) in
      let b1 = moves_of (turns_in S t phase.B1 W1) in
      let b2 = moves_of (turns_in S t phase.B2 W2) in
      let N = below (length S.persons) in
      let his = brings_untouched i l (leaving_turns S t i W1) (leave_away S own p t l i law lt o) in
      let ha : Each (Brings i l Wait) a = (rw (A_moves-are S t W0) (each_flat_all (Brings i l Wait) (λ n. landing_turns S t n W0) (λ n. landing_brings S t i l n (person_of n W0)) N)) in
      let hb1 : Each (Brings i l Wait) b1 = (rw (B1_moves-are S t W1) (each_flat_all (Brings i l Wait) (λ n. leaving_turns S t n W1)
      (λ n. elim (cases_Bool (eqb n i)) [
        | inl e ↦ subst (λ (x : ℕ). Each (Brings i l Wait) (leaving_turns S t x W1)) (sym (eqb-true n i e)) his
        | inr e ↦ leaving_brings S t i l n (person_of n W1) e
      ]) N)) in
      let hb2 : Each (Brings i l Wait) b2 = (rw (B2_moves-are S t W2) (each_flat_all (Brings i l Wait) (λ d. departure_turns S t d W2) (departure_brings S t i l) (below (length S.departures)))) in
      let e2 = ap (listed i) (at-run S t l Wait b2 W2) in
      let e1 = ap (listed i) (at-run S t l Wait b1 W1) in
      let e0 = ap (listed i) (at-run S t l Wait a W0) in
      let f2 = brings-left i l Wait b2 (at l Wait W2) hb2 in
      let f1 = brings-left i l Wait b1 (at l Wait W1) hb1 in
      let f0 = brings-left i l Wait a (at l Wait W0) ha in omega arith

  -- the turn of a link whose owner does not have him tells nothing of him
  away_queue : (l : ℕ) → eqb (owner_of S own l) p ≡ not (has S own (less S own) p t i) → (xs : List Row) × ((ys : List Row) × ((at l Queue (world_at S t) ≡ xs ++ ys) × Late t ys × (listed i xs ≡ 0) × (has S own (less S own) p t i ≡ true → ys ≡ []) × (has S own (less S own) p t i ≡ false → ys ≡ late_rows S own (less S own) t l)))
  away_queue l o = elim (cases_Bool (has S own (less S own) p t i)) [
    | inl e ↦ (at l Queue (world_at S t), ([], (sym (append-nil (at l Queue (world_at S t))), tt, others_list S own p t i law lt l Queue (o ∙ ap not e) e, (λ f. refl), (λ f. absurd (true≢false (sym e ∙ f))))))
    | inr e ↦
        let d = down_less S own (less S own) (within S own law.long) l in
        (known S t (down S own (less S own) l) l, (late_rows S own (less S own) t l, (known_and S own (less S own) l t (omega arith), came_last-late S l t (down S own (less S own) l) d, unknown_queue S own p t i law lt l (o ∙ ap not e) e, (λ f. absurd (true≢false (sym f ∙ e))), (λ f. refl))))
  ]

  pub away_list : (l : ℕ) (s : Stage) → eqb (rank s) 0 ≡ false → eqb (owner_of S own l) p ≡ not (has S own (less S own) p t i) → listed i (at l s (world_at S t)) ≡ 0
  away_list l s z o = elim (cases_Bool (has S own (less S own) p t i)) [
    | inl e ↦ others_list S own p t i law lt l s (o ∙ ap not e) e
    | inr e ↦ unknown_list S own p t i law lt l s z (o ∙ ap not e) e
  ]

  away_line : (l : ℕ) → eqb (owner_of S own l) p ≡ not (has S own (less S own) p t i) → in_line i (waiters S l (C_world S t (mid S t))) ≡ 0
  unfolding waiters
  away_line l o =
      let V = mid S t in
      let U = C_world S t V in
      let f : ℕ → List Waiter = λ j. waiter S l j (person_of j U) in
      let few = few_mid S t in
      let a = line_one f i (λ j. waits_few S l j i (leg_at S j (person_of j U).element) (act_after S j (person_of j U).element) (person_of j U).place) 0 (length U.persons) in
      let h = waiter_away S own p t (has S own (less S own) p t i) l i (person_of i V) o (home_mid S own p t i law lt) in
      let none : waiter S l i (person_of i U) ≡ [] = ap (waiter S l i) (person-run S t i (C_moves S t V) V (omega arith)) ∙ handed-waits S t l i (C_moves S t V) (person_of i V) (C-handed S t V) h in
      let z = ap (in_line i) none in omega arith

  -- such a link's turn, without the rows that are not due, sees him nowhere
  pub trimmed : (l : ℕ) → eqb (owner_of S own l) p ≡ not (has S own (less S own) p t i) →
      let U = C_world S t (mid S t) in
      (xs : List Row) × ((ys : List Row) × ((at l Queue (world_at S t) ≡ xs ++ ys) × Late t ys × (listed i xs ≡ 0) × (link_turns S t l U ≡ link_moves (rules S l) t l (waiters S l U) (record (link_state l U) { queue = xs }))
      × (listed i (at l Wait U) ≡ 0) × (listed i (at l Bay U) ≡ 0) × (has S own (less S own) p t i ≡ true → ys ≡ []) × (has S own (less S own) p t i ≡ false → ys ≡ late_rows S own (less S own) t l)))
  trimmed l o =
      let V = mid S t in
      let U = C_world S t V in
      let q = away_queue l o in
      let xs = q.0 in
      let ys = q.1.0 in
      let e = q.1.1.0 in
      let late = q.1.1.1 in
      let zs = ys ++ came_in S t V l in
      let L = record (link_state l U) { queue = xs } in
      let ws = waiters S l U in
      let all : at l Queue U ≡ xs ++ zs = C-came S t l V ∙ ap (λ us. us ++ came_in S t V l) (mid-list S t l Queue refl ∙ e) ∙ append_assoc xs ys (came_in S t V l) in
      let same : link_turns S t l U ≡ link_moves (rules S l) t l ws L =
      ap (λ us. link_moves (rules S l) t l ws (record (link_state l U) { queue = us })) all ∙ link_moves_late (rules S l) t l ws L zs (each_append (λ (y : Row). t < y.second) ys (came_in S t V l) late (came_late S t l V)) in
      let wait : listed i (at l Wait U) ≡ 0 = ap (listed i) (C-untouched S t l Wait V (λ n. refl)) ∙ (let le = wait_mid l o in let z = away_list l Wait refl o in omega arith) in
      let bay : listed i (at l Bay U) ≡ 0 = ap (listed i) (C-untouched S t l Bay V (λ n. refl) ∙ mid-list S t l Bay refl) ∙ away_list l Bay refl o in
      (xs, (ys, (e, late, q.1.1.2, same, wait, bay, q.1.1.3, q.1.1.4)))

  pub link_away : (l : ℕ) → eqb (owner_of S own l) p ≡ not (has S own (less S own) p t i) → Quiet S t i (link_turns S t l (C_world S t (mid S t)))
  link_away l o =
      let U = C_world S t (mid S t) in
      let z = trimmed l o in
      let f = z.1.1 in
      rw f.3 (link-quiet S i (rules S l) t l (waiters S l U) (record (link_state l U) { queue = z.0 }) (away_line l o) f.2 f.4 f.5)

  -- and it moves no vehicle of his
  pub link_spare_away : (l : ℕ) → eqb (owner_of S own l) p ≡ not (has S own (less S own) p t i) → Spare i (link_turns S t l (C_world S t (mid S t)))
  link_spare_away l o =
      let U = C_world S t (mid S t) in
      let z = trimmed l o in
      let f = z.1.1 in
      rw f.3 (link-spare S i (rules S l) t l (waiters S l U) (record (link_state l U) { queue = z.0 }) (away_line l o) f.2 f.4 f.5)

  pub node_spare_away : (n : ℕ) → eqb (own n) p ≡ not (has S own (less S own) p t i) → Spare i (node_turns S t n (mid S t))
  node_spare_away n o = node-spare S t n i (mid S t) (λ l e. ap (listed i) (mid-list S t l Buffer refl) ∙ away_list l Buffer refl (ap (λ x. eqb (own x) p) (eqb-true (link_row S l).to n e) ∙ o))

  -- and so it is with the turns of nodes
  pub node_away : (n : ℕ) → eqb (own n) p ≡ not (has S own (less S own) p t i) → Quiet S t i (node_turns S t n (mid S t))
  node_away n o = node-quiet S t n i (mid S t) (λ l e. ap (listed i) (mid-list S t l Buffer refl) ∙ away_list l Buffer refl (ap (λ x. eqb (own x) p) (eqb-true (link_row S l).to n e) ∙ o))

-- persons that are not there
nobody_there : (S : Setup) (i : ℕ) (W : World) → length W.persons ≤ i → person_of i W ≡ nobody
nobody_there S i W h = get_or_past W.persons i nobody h

-- WHAT A PART MAY REST ON
pub calm : (S : Setup) (own : Owner) (p t : ℕ) → Lawful S → Calm S own p t (has S own (less S own) p t)
unfolding leaving_moves
calm S own p t law =
    let W0 = world_at S t in
    let W1 = A_world S t W0 in
    let few = (always_kept S t).one_row in
    let f1 = run-length S t (moves_of (turns_in S t phase.A W0)) W0 in
    let fm = few_mid S t in
    record {
      starts = λ l i o e. elim (cases_lt i (length S.persons)) [
        | inl lt ↦ leave_away S own p t l i law lt (o ∙ sym (ap not e))
        | inr past ↦ let z = nobody_there S i W1 (omega arith) in subst (λ (P : Person). Untouched l Wait (leaving_moves S t i P)) (sym z) tt
      ];
      elsewhere = λ l i o e. elim (cases_lt i (length S.persons)) [
        | inl lt ↦ waiter_away S own p t (has S own (less S own) p t i) l i (person_of i (mid S t)) (o ∙ sym (ap not e)) (home_mid S own p t i law lt)
        | inr past ↦ let z = nobody_there S i (mid S t) (omega arith) in ap (waiter S l i) z
      ];
      quiet = λ i n e o. node_away S own p t i law (ltb-true i (length S.persons) (and_parts (nat_lt i (length S.persons)) _ e).0) n (o ∙ sym (ap not e));
    }
