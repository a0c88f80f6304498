-- Nobody sets out but in the phase in which activities end: what departures, nodes and links tell lets nobody fly.
use Rattle.traffic.proofs.Common.{◌≡◌, ℕ, ◌<◌, List, [], ◌∷◌, ◌∙◌, ap, refl, sym, arith, inl, inr, cases_Bool, true, false, Bool, length, flat_map}
use Rattle.traffic.proofs.Common.{if◌then◌else◌, eqb, eqb-true, Some, None, Option, VehicleId, More, Word, LinkState, Turn, Setup, World, person_of, after}
use Rattle.traffic.proofs.Common.{moves_of, told, told_of, person_by, person_after, person_after_all, start_act, ride, wait_at, lose, link_turns, link_moves}
use Rattle.traffic.proofs.Common.{rules, waiters, link_state, leaves, enters, starts, arrives, serves, strands, boarded, alighting, next_call, served_row}
use Rattle.traffic.proofs.{Each.each_all, Each.each_append, Each.each_if, Each.each_flat_all, Each.each_weaker, LinkEach.FrontMoves, LinkEach.Have}
use Rattle.traffic.{proofs.LinkEach.link_each, specs.declared.moves.Move.Move, specs.declared.moves.Occurrence.Occurrence, specs.declared.numbers.Rules.Rules}
use Rattle.traffic.specs.declared.{riders.Rider.Rider, world.Person.Person, world.Place.Place, world.Place.TheVariants.At, world.Place.TheVariants.Teleporting}
use Rattle.traffic.specs.declared.world.{Place.TheVariants.Waiting, Place.TheVariants.Riding, Place.TheVariants.Aborted, Row.Row, Waiter.Waiter}
use Rattle.std.specs.List.{AllByRecursion as Each}
use Rattle.events.specs.declared.event.Word.TheVariants as word
use Rattle.events.specs.declared.event.More.TheVariants as more
use Rattle.law_in_range.specs.{Rows.Counts, Setups.IsFitSetup}
use Rattle.parts.specs.{Owners.Owner, Parts.mine, Parts.flight_at}
use Rattle.law_partitions.proofs.{Early.mid, Flights.flights_began, Handed.Handed, Handed.by_pass_node, Handed.nodes-handed, Quiet.person_moves}
use Rattle.law_partitions.proofs.{Quiet.person-run, Second.C_world}
use Rattle.law_partitions.specs.{Alone.my_nodes, Alone.my_links, Alone.flight_to, Premises.Lawful, Premises.Arrivals}
use Rattle.law_own_worlds.specs.{Days.is_there, Days.world_before, Days.my_node_turns, Days.my_link_turns, OwnWorlds.set_out, OwnWorlds.crossed}
use Rattle.law_own_seconds.specs.Seconds.{world_driven}
use Rattle.law_parcels.proofs.Ending.{second, before_is, node_moves_are, link_moves_are, lacked}

-- no departure of a person is told
abbrev IsOther : Word → Type 0
IsOther word.Departure = ⊥
IsOther _ = Unit {0}

abbrev AreOther : List Occurrence → Type 0
AreOther es = Each (λ (e : Occurrence). IsOther e.word) es

abbrev LetsNobodyFly : Move → Type 0
LetsNobodyFly m = AreOther (told m)

-- WHOM IT IS TOLD OF flies since then only if he did before
waits_no : (s t : ℕ) (m : More) (P : Person) → (wait_at m t P).place ≡ Teleporting s → P.place ≡ Teleporting s
waits_no s t (more.Stop stop) P q = absurd (cc)
waits_no s t _ P q = q

rides_no : (s : ℕ) (o : Option VehicleId) (P : Person) → (ride o P).place ≡ Teleporting s → P.place ≡ Teleporting s
rides_no s None P q = q
rides_no s (Some v) P q = absurd (cc)

starts_no : (S : Setup) (t i s : ℕ) (P : Person) (pl : Place) → (start_act S t i P pl).place ≡ Teleporting s → P.place ≡ Teleporting s
starts_no S t i s P (Waiting stop since) q = q
starts_no S t i s P (At end) q = absurd (cc)
starts_no S t i s P (Teleporting start) q = absurd (cc)
starts_no S t i s P (Riding v) q = absurd (cc)
starts_no S t i s P (Aborted l) q = absurd (cc)

loses_no : (s : ℕ) (o : Option ℕ) (P : Person) → (lose o P).place ≡ Teleporting s → P.place ≡ Teleporting s
loses_no s None P q = q
loses_no s (Some l) P q = absurd (cc)

by_other : (S : Setup) (t i s : ℕ) (e : Occurrence) (w : Word) (P : Person) → IsOther w → (person_by S t i e w P).place ≡ Teleporting s
    → P.place ≡ Teleporting s
by_other S t i s e word.Departure P h q = absurd h
by_other S t i s e word.WaitingForPt P h q = waits_no s t e.more P q
by_other S t i s e word.PersonEntersVehicle P h q = rides_no s e.vehicle P q
by_other S t i s e word.ActStart P h q = starts_no S t i s P P.place q
by_other S t i s e word.StuckAndAbort P h q = loses_no s e.link P q
by_other S t i s e _ P h q = q

one_other : (S : Setup) (t i s : ℕ) (e : Occurrence) (o : Option ℕ) (P : Person) → IsOther e.word
    → (told_of S t i e o P).place ≡ Teleporting s
    → P.place ≡ Teleporting s
unfolding person_after
one_other S t i s e None P h q = q
one_other S t i s e (Some j) P h q =
    elim (cases_Bool (eqb j i)) [ inl f ↦ by_other S t i s e e.word P h (rw f at q) | inr f ↦ (rw f at q) ]

all_other : (S : Setup) (t i s : ℕ) (es : List Occurrence) (P : Person) → AreOther es → (person_after_all S t i es P).place ≡ Teleporting s
    → P.place ≡ Teleporting s
all_other S t i s [] P h q = q
all_other S t i s (e ∷ es) P h q = one_other S t i s e e.person P h.0 (all_other S t i s es (told_of S t i e e.person P) h.1 q)

moves_other : (S : Setup) (t i s : ℕ) (ms : List Move) (P : Person) → Each LetsNobodyFly ms
    → (person_moves S t i ms P).place ≡ Teleporting s
    → P.place ≡ Teleporting s
moves_other S t i s [] P h q = q
moves_other S t i s (m ∷ ms) P h q =
    all_other S t i s (told m) P h.0 (moves_other S t i s ms (person_after_all S t i (told m) P) h.1 q)

-- NODES
handed_other : (S : Setup) (t : ℕ) (m : Move) → Handed S t m → LetsNobodyFly m
handed_other S t m h =
    by_pass_node S t LetsNobodyFly (λ a k was now e. (tt, (tt, tt)))
    (λ a k was. (
      tt,
      each_flat_all (λ (e : Occurrence). IsOther e.word) (strands was.vehicle.id was.link)
          (λ r. (tt, tt)) was.vehicle.riders,
    ))
    (λ a u. tt) m h

-- LINKS
leaves_other : (v : VehicleId) (l : ℕ) (rs : List Rider) → AreOther (flat_map (leaves v l) rs)
leaves_other v l rs = each_flat_all (λ (e : Occurrence). IsOther e.word) (leaves v l) (λ r. (tt, (tt, (tt, tt)))) rs

enters_other : (v : VehicleId) (rs : List Rider) → AreOther (flat_map (enters v) rs)
enters_other v rs = each_flat_all (λ (e : Occurrence). IsOther e.word) (enters v) (λ r. (tt, tt)) rs

starts_other : (r : Row) → AreOther (starts r)
starts_other r = each_if (λ (e : Occurrence). IsOther e.word) r.vehicle.started _ _ tt (tt, tt)

arrives_other : (r : Row) → AreOther (arrives r)
arrives_other r = (tt, leaves_other r.vehicle.id r.link r.vehicle.riders)

serves_other : (was now : Row) → AreOther (serves was now)
serves_other was now =
    let v = was.vehicle in
    let stop = (next_call v).stop in (
      tt,
      each_append (λ (e : Occurrence). IsOther e.word) _ _ (leaves_other v.id was.link (alighting stop v.riders))
          (enters_other v.id (boarded stop v.riders now.vehicle.riders)),
    )

fronts_other : (K : Rules) (t l : ℕ) (s : Bool) → FrontMoves K t l (λ v. Unit {0}) (λ ws. Unit {0}) LetsNobodyFly s
fronts_other K t l true = record {
  serve = λ ws r h w. each_append (λ (e : Occurrence). IsOther e.word) _ _
      (starts_other r) (serves_other r (served_row K.dwell t l ws r.vehicle));
  left = λ v ws w. tt;
  arrive = λ r h. each_append (λ (e : Occurrence). IsOther e.word) _ _ (starts_other r) (arrives_other r);
  pass = λ b r h. each_append (λ (e : Occurrence). IsOther e.word) _ _ (starts_other r) tt;
  pay = λ credit. tt;
}
fronts_other K t l false = record {
  serve = λ ws r h w. serves_other r (served_row K.dwell t l ws r.vehicle);
  left = λ v ws w. tt;
  arrive = λ r h. arrives_other r;
  pass = λ b r h. tt;
  pay = λ credit. tt;
}

have_any : (xs : List Row) → Have (λ v. Unit {0}) xs
have_any xs = each_all _ (λ r. tt) xs

link_other : (K : Rules) (t l : ℕ) (ws : List Waiter) (L : LinkState) → Each LetsNobodyFly (link_moves K t l ws L)
link_other K t l ws L =
    link_each K t l (λ v. Unit {0}) (λ us. Unit {0}) LetsNobodyFly (fronts_other K t l) (λ k r h. (tt, tt)) tt ws L tt
    (have_any L.queue) (have_any L.wait) (have_any L.bay)

-- A FLIGHT of who did not set out
no_flight : (S : Setup) (t i element : ℕ) (pl : Place) (b : Bool) → (pl ≡ Teleporting t → ⊥)
    → (if b then flight_at S t i element pl else []) ≡ []
no_flight S t i element (Teleporting start) true h =
    elim (cases_Bool (eqb start t)) [
      | inl e ↦ absurd (h (ap (λ (n : ℕ). Teleporting n) (eqb-true start t e)))
      | inr e ↦ rw e refl
    ]
no_flight S t i element (Teleporting start) false h = refl
no_flight S t i element (At end) true h = refl
no_flight S t i element (At end) false h = refl
no_flight S t i element (Waiting stop since) true h = refl
no_flight S t i element (Waiting stop since) false h = refl
no_flight S t i element (Riding v) true h = refl
no_flight S t i element (Riding v) false h = refl
no_flight S t i element (Aborted l) true h = refl
no_flight S t i element (Aborted l) false h = refl

module _ (S : Setup) (own : Owner) (p t : ℕ) (z : Counts) (law : Lawful S) (arrivals : Arrivals S) (fit : IsFitSetup z S) where
  -- turns that let nobody fly
  before_turns : (i s : ℕ) (us : List Turn) (ms : List Move) (W : World) → i < length W.persons → moves_of us ≡ ms → Each LetsNobodyFly ms
      → (person_of i (after S t us W)).place ≡ Teleporting s → (person_of i W).place ≡ Teleporting s
  before_turns i s us ms W lt e h q =
      let f : person_of i (after S t us W) ≡ person_moves S t i ms (person_of i W)
      = person-run S t i (moves_of us) W lt ∙ ap (λ (xs : List Move). person_moves S t i xs (person_of i W)) e in
      moves_other S t i s ms (person_of i W) h (ap (λ (P : Person). P.place) (sym f) ∙ q)

  -- whoever flies at the end did so before the nodes had their turns
  pub flew : (i s : ℕ) → i < length S.persons → (person_of i (world_driven S own p t)).place ≡ Teleporting s
      → (person_of i (set_out S own p t (world_before S own p t))).place ≡ Teleporting s
  flew i s lt q =
      let W = world_before S own p t in
      let now = second S own p t z law arrivals fit in
      let m3 = now.after_departures.one_each in
      let m4 = now.after_nodes.one_each in
      let q4 = before_turns i s (my_link_turns S own p t) _ (crossed S own p t W) (omega arith)
      (link_moves_are S own p t z law arrivals fit)
      (each_flat_all LetsNobodyFly (λ (l : ℕ). link_turns S t l (C_world S t (mid S t)))
      (λ l. link_other (rules S l) t l (waiters S l (C_world S t (mid S t))) (link_state l (C_world S t (mid S t))))
      (my_links S own p)) q in
      let q3 = before_turns i s (my_node_turns S own p t) _ (set_out S own p t W) (omega arith)
      (node_moves_are S own p t z law arrivals fit)
      (each_weaker (Handed S t) LetsNobodyFly (handed_other S t) _ (nodes-handed S t (mid S t) (my_nodes S own p))) q4 in
      q3

  -- and who is then as he was did not set out in this second
  pub flew_before : (i : ℕ) → i < length S.persons → is_there S own p t i ≡ true
      → person_of i (set_out S own p t (world_before S own p t)) ≡ person_of i (world_before S own p t)
      → (person_of i (world_driven S own p t)).place ≡ Teleporting t → ⊥
  flew_before i lt e same q =
      let since = flew i t lt q in
      let was = ap (λ (P : Person). P.place) (sym (before_is S own p t z law arrivals fit i e) ∙ sym same) ∙ since in
      let before = flights_began S t i t lt was in
      omega arith

  -- the flight of a person, by the world at the end
  pub one_flight : (q i : ℕ) (acts : Bool) → i < length S.persons
      → (acts ≡ false → person_of i (set_out S own p t (world_before S own p t)) ≡ person_of i (world_before S own p t))
      → flight_to S own q t i (mine (is_there S own p t i) (person_of i (world_driven S own p t)))
      ≡ (if acts then flight_to S own q t i (Some (person_of i (world_driven S own p t))) else [])
  one_flight q i acts lt h =
      let P = person_of i (world_driven S own p t) in
      let none : (Q : Person) → (Q.place ≡ Teleporting t → ⊥) → flight_to S own q t i (Some Q) ≡ []
      = λ Q off. no_flight S t i Q.element Q.place _ off in
      elim (cases_Bool (is_there S own p t i)) [
        | inl e ↦ elim (cases_Bool acts) [
          | inl a ↦ rw (e, a) refl
          | inr a ↦ rw (e, a) (none P (flew_before i lt e (h a)))
        ]
        | inr e ↦
            let gone : flight_to S own q t i (Some P) ≡ []
            = none P (λ w. let n : Aborted 0 ≡ Teleporting t =
            ap (λ (Q : Person). Q.place) (sym (lacked S own p t z law arrivals fit i e)) ∙ w in cc) in
            elim (cases_Bool acts) [ inl a ↦ rw (e, a) (sym gone) | inr a ↦ rw (e, a) refl ]
      ]
