-- Whom a partition has when its second is over, in its own world.
use Rattle.traffic.proofs.Common.{◌≡◌, ℕ, suc, ◌<◌, ◌≤◌, List, [], ◌∙◌, ap, refl, sym, subst, arith, inl, inr, cases_Bool, cases_lt, true, false, Bool, not}
use Rattle.traffic.proofs.Common.{length, flat_map, get_or_past, eqb, eqb-true, Some, None, VehicleId, Turn, Setup, World, on, person_of, nobody, world_at}
use Rattle.traffic.proofs.Common.{below, after, moves_of, turns_in, node_turns, link_turns, landing_moves, leaving_moves, departure_moves, listed, IsListed}
use Rattle.traffic.proofs.{Each.each_flat_all, Each.each_flat_where, Persons.TellOf, Persons.landing_moves-of, Persons.leaving_moves-of, Waiting.run-length}
use Rattle.traffic.specs.declared.{moves.Move.Move, stage.Stage.TheVariants.Queue, world.Person.Person, world.Place.Place, world.Place.TheVariants.At}
use Rattle.traffic.specs.declared.world.{Place.TheVariants.Teleporting, Place.TheVariants.Waiting, Place.TheVariants.Riding, Place.TheVariants.Aborted, Row.Row}
use Rattle.events.specs.declared.event.Phase.TheVariants as phase
use Rattle.law_in_range.specs.{Rows.Counts, Setups.IsFitSetup}
use Rattle.parts.specs.{Owners.Owner, Owners.owner_of, Parts.Held, Parts.mine, Parts.has, Parts.unheard, Parts.ready}
use Rattle.law_partitions.proofs.{Begins.moves_of-parts, Begins.of-quiet, Begins.departures-quiet, Calms.calm, Calms.listed_in_one, Calms.node_away}
use Rattle.law_partitions.proofs.{Calms.link_away, Carried.element_kept, Early.mid, Early.A_moves-are, Early.B1_moves-are, Enders.some_mine, Ends.less, Ends.sh}
use Rattle.law_partitions.proofs.{Heard.late_of, Listing.listed-filter, Locality.my_turns, Locality.D_after-person, Owning.sent_came, Owning.came_stays}
use Rattle.law_partitions.proofs.Quiet.{IsQuiet, Quiet, person-run, quiet_same}
use Rattle.law_partitions.proofs.{Second.C_world, Second.Short, Second.D_part-moves, Telling.landing_off, Telling.leaving_off}
use Rattle.law_partitions.specs.{Alone.my_nodes, Alone.my_links, Alone.my_runs, Alone.early, Alone.sent_out, Premises.Lawful, Premises.Arrivals}
use Rattle.law_own_worlds.proofs.{Knowing.ready_known, Making.made, Seconds.second_of}
use Rattle.law_own_worlds.specs.Days.{world_before, is_there, run_turns, my_node_turns, my_link_turns}
use Rattle.law_own_worlds.specs.OwnWorlds.{IsOwnWorld, IsSecondOf, landed, left, set_out, crossed}
use Rattle.law_own_seconds.specs.Seconds.{world_driven}
use Rattle.law_parcels.specs.Sending.{sent_rows}

-- turns that tell nothing of a person leave him as he was
untold : (S : Setup) (t i : ℕ) (us : List Turn) (ms : List Move) (W : World) → i < length W.persons → moves_of us ≡ ms → Quiet S t i ms
    → person_of i (after S t us W) ≡ person_of i W
untold S t i us ms W lt e q =
    person-run S t i (moves_of us) W lt
    ∙ quiet_same S t i (moves_of us) (person_of i W) (subst (λ (xs : List Move). Quiet S t i xs) (sym e) q)

-- of persons who act by their own rows, who does nothing is not told of
acts_off : (S : Setup) (t i c : ℕ) (f : ℕ → Person → List Move) (W : World) → ((n : ℕ) (P : Person) → TellOf n (f n P))
    → f i (person_of i W) ≡ []
    → Quiet S t i (flat_map (λ (k : ℕ). f k (person_of k W)) (below c))
acts_off S t i c f W of none =
    each_flat_all (IsQuiet S t i) (λ (k : ℕ). f k (person_of k W)) (λ k. elim (cases_Bool (eqb k i)) [
      | inl e ↦
          subst (λ (j : ℕ). Quiet S t i (f j (person_of j W))) (sym (eqb-true k i e))
          (subst (λ (ms : List Move). Quiet S t i ms) (sym none) tt)
      | inr e ↦ of-quiet S t k i (f k (person_of k W)) e (of k (person_of k W))
    ]) (below c)

module _ (S : Setup) (own : Owner) (p t : ℕ) (z : Counts) (law : Lawful S) (arrivals : Arrivals S) (fit : IsFitSetup z S) where
  abbrev H : Held
  H = ready S own p t

  abbrev V : World
  V = world_before S own p t

  abbrev V5 : World
  V5 = world_driven S own p t

  abbrev W0 : World
  W0 = world_at S t

  abbrev W1 : World
  W1 = world_at S (suc t)

  abbrev c : ℕ
  c = length S.persons

  abbrev mine_p : ℕ → Bool
  mine_p = has S own (less S own) p t

  pub owned : IsOwnWorld S own p t (is_there S own p t) H V
  owned = made S own p t H (ready_known S own p t z fit)

  pub second : IsSecondOf S own p t (is_there S own p t) H V
  second = second_of S own p t (is_there S own p t) H V owned

  pub ready_person : (i : ℕ) → H.person i ≡ mine (mine_p i) (person_of i W0)
  unfolding unheard
  ready_person i = refl

  pub there_is : (i : ℕ) → is_there S own p t i ≡ mine_p i
  unfolding unheard
  there_is i = some_mine (mine_p i) (person_of i W0)

  pub had_is : (i : ℕ) → is_there S own p t i ≡ true → H.person i ≡ Some (person_of i W0)
  had_is i e = ready_person i ∙ ap (λ (b : Bool). mine b (person_of i W0)) (sym (there_is i) ∙ e)

  pub lacks_is : (i : ℕ) → is_there S own p t i ≡ false → H.person i ≡ None
  lacks_is i e = ready_person i ∙ ap (λ (b : Bool). mine b (person_of i W0)) (sym (there_is i) ∙ e)

  -- WHOM IT HAS
  pub before_is : (i : ℕ) → is_there S own p t i ≡ true → person_of i V ≡ person_of i W0
  before_is i e =
      let a : Some (person_of i V) ≡ H.person i = ap (λ (b : Bool). mine b (person_of i V)) (sym e) ∙ sym (owned.world.person i) in
      let b : H.person i ≡ Some (person_of i W0) = had_is i e in
      cc

  pub behind_is : (i : ℕ) → is_there S own p t i ≡ true → person_of i V5 ≡ person_of i W1
  behind_is i e =
      let b : mine_p i ≡ true = sym (there_is i) ∙ e in
      let a : Some (person_of i V5) ≡ Some (person_of i W1)
      = ap (λ (x : Bool). mine x (person_of i V5)) (sym e) ∙ sym (second.after_links.person i) ∙ D_after-person S own p t law arrivals i
      ∙ ap (λ (x : Bool). mine x (person_of i W1)) b in
      cc

  -- THE TURNS are those of the day
  pub node_moves_are : moves_of (my_node_turns S own p t) ≡ flat_map (λ (n : ℕ). node_turns S t n (mid S t)) (my_nodes S own p)
  node_moves_are = ap moves_of (sym second.nodes) ∙ my_turns S own p t law arrivals

  short : Short S own p t (late_of S own (less S own) p t) mine_p (mid S t) (early S own p t H)
  short = sh S own p t law.long (calm S own p t law)

  pub link_moves_are : moves_of (my_link_turns S own p t)
      ≡ flat_map (λ (l : ℕ). link_turns S t l (C_world S t (mid S t))) (my_links S own p)
  link_moves_are =
      ap moves_of (sym second.links)
      ∙ D_part-moves S own p t (late_of S own (less S own) p t) mine_p (mid S t) (early S own p t H) short

  pub run_moves_are : moves_of (run_turns S own p t) ≡ flat_map (departure_moves S t) (my_runs S own p)
  run_moves_are = ap moves_of (sym second.departures) ∙ moves_of-parts (departure_moves S t) (my_runs S own p)

  -- WHOM IT LACKS is nobody
  pub few1 : length (landed S t V).persons ≡ c
  few1 = run-length S t (moves_of (turns_in S t phase.A V)) V ∙ owned.world.one_each

  lacked1 : (i : ℕ) → i < c → is_there S own p t i ≡ false → person_of i (landed S t V) ≡ nobody
  lacked1 i lt e =
      let n = owned.world.one_each in
      let none : landing_moves S t i (person_of i V) ≡ []
      = ap (landing_moves S t i) (owned.nowhere i e) ∙ landing_off S t i nobody (λ start q. absurd (cc)) in
      untold S t i (turns_in S t phase.A V) _ V (omega arith) (A_moves-are S t V)
      (acts_off S t i c (landing_moves S t) V (landing_moves-of S t) none) ∙ owned.nowhere i e

  lacked2 : (i : ℕ) → i < c → is_there S own p t i ≡ false → person_of i (left S t V) ≡ nobody
  lacked2 i lt e =
      let n = few1 in
      let was = lacked1 i lt e in
      let none : leaving_moves S t i (person_of i (landed S t V)) ≡ []
      = ap (leaving_moves S t i) was ∙ leaving_off S t i nobody (λ end q. absurd (cc)) in
      untold S t i (turns_in S t phase.B1 (landed S t V)) _ (landed S t V) (omega arith) (B1_moves-are S t (landed S t V))
      (acts_off S t i c (leaving_moves S t) (landed S t V) (leaving_moves-of S t) none) ∙ was

  -- departures tell of nobody
  starts_off : (i : ℕ) → i < c → person_of i (set_out S own p t V) ≡ person_of i (left S t V)
  starts_off i lt =
      let n = second.after_leavings.one_each in
      untold S t i (run_turns S own p t) _ (left S t V) (omega arith) run_moves_are (departures-quiet S t i (my_runs S own p))

  pub lacked : (i : ℕ) → is_there S own p t i ≡ false → person_of i V5 ≡ nobody
  lacked i e =
      let n : mine_p i ≡ false = sym (there_is i) ∙ e in
      let many = second.after_links.one_each in
      let m3 = second.after_departures.one_each in
      let m4 = second.after_nodes.one_each in
      elim (cases_lt i c) [
        | inl lt ↦
            untold S t i (my_link_turns S own p t) _ (crossed S own p t V) (omega arith) link_moves_are
            (each_flat_where (IsQuiet S t i) (λ (l : ℕ). link_turns S t l (C_world S t (mid S t))) (λ (l : ℕ). eqb (owner_of S own l) p)
            (λ l f. link_away S own p t i law lt l (f ∙ sym (ap not n))) (below (length S.links)))
            ∙ untold S t i (my_node_turns S own p t) _ (set_out S own p t V) (omega arith) node_moves_are
            (each_flat_where (IsQuiet S t i) (λ (n : ℕ). node_turns S t n (mid S t)) (λ (n : ℕ). eqb (own n) p)
            (λ k f. node_away S own p t i law lt k (f ∙ sym (ap not n))) (below S.nodes))
            ∙ starts_off i lt ∙ lacked2 i lt e
        | inr ge ↦ get_or_past V5.persons i nobody (omega arith)
      ]

  -- WHO RIDES IN WHAT IS SENT
  pub sent_are : sent_rows S own p t ≡ sent_out S own p (flat_map (λ (n : ℕ). node_turns S t n (mid S t)) (my_nodes S own p))
  sent_are = ap (sent_out S own p) node_moves_are

  -- came over a border in this second
  sent_over : (i : ℕ) → i < c → 1 ≤ listed i (sent_rows S own p t)
      → 1 ≤ listed i (sent_out S own p (flat_map (λ (n : ℕ). node_turns S t n (mid S t)) (my_nodes S own p)))
  sent_over i lt some = subst (λ (rows : List Row). 1 ≤ listed i rows) sent_are some

  pub rider_element : (i : ℕ) → i < c → 1 ≤ listed i (sent_rows S own p t) → (person_of i W1).element ≡ (person_of i W0).element
  rider_element i lt some =
      let g = sent_came S own p t i law arrivals lt (sent_over i lt some) in
      element_kept S own t i g.0 law arrivals lt g.1.1

  rides_by : (i : ℕ) (pl : Place) → (person_of i W1).place ≡ pl → IsListed i W1.rows pl → 1 ≤ listed i W1.rows
      → (v : VehicleId) × ((person_of i W1).place ≡ Riding v)
  rides_by i (Riding v) e h some = (v, e)
  rides_by i (At end) e h some = absurd (let n : listed i W1.rows ≡ 0 = h in omega arith)
  rides_by i (Teleporting start) e h some = absurd (let n : listed i W1.rows ≡ 0 = h in omega arith)
  rides_by i (Waiting stop since) e h some = absurd (let n : listed i W1.rows ≡ 0 = h in omega arith)
  rides_by i (Aborted l) e h some = absurd (let n : listed i W1.rows ≡ 0 = h in omega arith)

  pub rider_rides : (i : ℕ) → i < c → 1 ≤ listed i (sent_rows S own p t) → (v : VehicleId) × ((person_of i W1).place ≡ Riding v)
  rider_rides i lt some =
      let g = sent_came S own p t i law arrivals lt (sent_over i lt some) in
      let came = g.1.1 in
      let stays = came_stays S own p t i law arrivals lt g.0 in
      let among = listed-filter i (on g.0 Queue) W1.rows in
      rides_by i (person_of i W1).place refl (listed_in_one S (suc t) i lt) (omega arith)
