-- A rider who is carried over a border, and a person who flies over it, stay as they are until they are heard of.
use Rattle.traffic.proofs.Common.{◌≡◌, ℕ, List, ◌∙◌, length, ap, refl, sym, [], ◌∷◌, arith, ◌<◌, true, ◌++◌, ◌+◌, Bool, inl, inr, subst, ◌≤◌, false, suc, eqb}
use Rattle.traffic.proofs.Common.{zero, ◌-◌, ◌≢◌, cases_Bool, eqb-true, eq-eqb, eqb-false, true≢false, lt-ltb, nat_tests, filter-append, flat_map, filter, Some}
use Rattle.traffic.proofs.Common.{not, ◌&&◌, nat_le, VehicleId, world_at, link_turns, node_turns, link_moves, rules, link_state, below, run, told, person_after}
use Rattle.traffic.proofs.Common.{person_after_all, waiters, landing_moves, leaving_moves, same_vehicle, World, person_of, at, on, Setup, act_after, strands}
use Rattle.traffic.{proofs.Common.listed, proofs.Common.IsListed, proofs.Common.rows_of, proofs.Each.each_flat_all, specs.declared.moves.Move.Move}
use Rattle.traffic.specs.declared.{riders.Rider.Rider, stage.Stage.TheVariants.Queue, stage.Stage.TheVariants.Buffer, world.Person.Person, world.Place.Place}
use Rattle.traffic.specs.declared.world.Place.TheVariants.{At, Teleporting, Waiting, Riding, Aborted}
use Rattle.traffic.specs.declared.world.Row.{Row}
use Rattle.events.specs.declared.event.VehicleId.TheVariants as vehicle
use Rattle.parts.specs.Owners.{Owner, owner_of, begins_in, crosses, owner_of_person, link_at, lag}
use Rattle.parts.specs.Parts.{came, came_last, late_rows, all_late, is_late, flies_from}
use Rattle.law_partitions.proofs.{Calms.late_in, Calms.listed_in_one, Early.mid, Early.mid-list, Early.world-next, Ends.less, Flights.few_mid, Handed.Handed}
use Rattle.law_partitions.proofs.{Handed.AreHanded, Handed.by_pass_node, Handed.entered, Home.Lawful, Lags.in_range, Late.link_moves_late}
use Rattle.law_partitions.proofs.{Listing.listed-filter, Listing.listed-two, Listing.listed_home, Owning.Arrivals, Owning.in_one_C, Owning.concern_few}
use Rattle.law_partitions.proofs.{Owning.concern_alone, Owning.all_some, Quiet.IsQuiet, Quiet.Quiet, Quiet.person_moves, Quiet.person-run, Quiet.quiet_same}
use Rattle.law_partitions.proofs.Second.{C_world, C_moves, C_moves-are, D_moves-are, C-handed, C-came, C-length, came_in, came_late}
use Rattle.law_partitions.proofs.{Spare.Carries, Spare.spare-enters, Still.late_all, Still.mid_same, Still.still, Telling.landing_off, Telling.leaving_off}
use Rattle.law_partitions.proofs.{Telling.late_idle, Tells.listed-cons, Tells.listed-append, Tells.node-spare, Tells.link-quiet}

-- a node's moves keep each person's element
strands_element : (S : Setup) (t i : ℕ) (v : VehicleId) (l : ℕ) (rs : List Rider) (P : Person) → (person_after_all S t i (flat_map (strands v l) rs) P).element ≡ P.element
unfolding person_after
strands_element S t i v l [] P = refl
strands_element S t i v l (r ∷ rs) P = elim (cases_Bool (eqb r.person i)) [ inl e ↦ simp e (strands_element S t i v l rs (record P { place = Aborted l })) | inr e ↦ simp e (strands_element S t i v l rs P) ]

one_element : (S : Setup) (t i : ℕ) (m : Move) (P : Person) → Handed S t m → (person_after_all S t i (told m) P).element ≡ P.element
one_element S t i m P h = by_pass_node S t (λ m. (person_after_all S t i (told m) P).element ≡ P.element) (λ a k was now e. refl) (λ a k was. strands_element S t i was.vehicle.id was.link was.vehicle.riders P) (λ a u. refl) m h

handed_element : (S : Setup) (t i : ℕ) (ms : List Move) (P : Person) → AreHanded S t ms → (person_moves S t i ms P).element ≡ P.element
handed_element S t i [] P h = refl
handed_element S t i (m ∷ ms) P h = handed_element S t i ms (person_after_all S t i (told m) P) h.1 ∙ one_element S t i m P h.0

-- a measure of rows that is a sum over them
abbrev pub Additive : (List Row → ℕ) → Type 0
Additive f = (xs ys : List Row) → f (xs ++ ys) ≡ f xs + f ys

pub in_last : (S : Setup) (l s : ℕ) (f : List Row → ℕ) → Additive f → (t k : ℕ) → s < t → t ≤ s + k → f (came S l s) ≤ f (came_last S l t k)
unfolding came_last
in_last S l s f add zero k h g = absurd (omega arith)
in_last S l s f add (suc t) zero h g = absurd (omega arith)
in_last S l s f add (suc t) (suc k) h g =
    let a = add (came_last S l t k) (came S l t) in
    elim (cases_Bool (eqb s t)) [
      | inl e ↦ let q = ap (λ (x : ℕ). f (came S l x)) (eqb-true s t e) in omega arith
      | inr e ↦ let d : s ≢ t = eqb-false s t e in let r = in_last S l s f add t k (omega arith) (omega arith) in omega arith
    ]

pub by_rows : (i : ℕ) → Additive (listed i)
by_rows i xs ys = listed-append i xs ys

pub by_vehicle : (i : ℕ) (u : VehicleId) → Additive (λ xs. listed i (rows_of u xs))
by_vehicle i u xs ys = ap (listed i) (filter-append (λ (r : Row). same_vehicle r.vehicle.id u) xs ys) ∙ listed-append i (rows_of u xs) (rows_of u ys)

-- the vehicle of a rider
same_true : (u v : VehicleId) → same_vehicle u v ≡ true → u ≡ v
same_true (vehicle.Car a) (vehicle.Car b) e = ap (λ (x : ℕ). vehicle.Car x) (eqb-true a b e)
same_true (vehicle.Car a) (vehicle.Transit d) e = absurd (true≢false (sym e))
same_true (vehicle.Transit d) (vehicle.Car a) e = absurd (true≢false (sym e))
same_true (vehicle.Transit a) (vehicle.Transit b) e = ap (λ (x : ℕ). vehicle.Transit x) (eqb-true a b e)

pub twice_filtered : (i : ℕ) (f p : Row → Bool) (rows : List Row) → listed i (filter f (filter p rows)) ≤ listed i (filter f rows)
twice_filtered i f p [] = omega arith
twice_filtered i f p (r ∷ rs) =
    let h = twice_filtered i f p rs in
    let a = listed-cons i r (filter f rs) in
    let b = listed-cons i r (filter f (filter p rs)) in
    elim (cases_Bool (p r)) [
      | inl e ↦ elim (cases_Bool (f r)) [ inl g ↦ rw (e, g) (omega arith) | inr g ↦ rw (e, g) h ]
      | inr e ↦ elim (cases_Bool (f r)) [ inl g ↦ rw (e, g) (omega arith) | inr g ↦ rw (e, g) h ]
    ]

pub rider_of : (i : ℕ) (u v : VehicleId) (rows : List Row) → listed i rows ≡ 1 → listed i (rows_of v rows) ≡ 1 → 1 ≤ listed i (rows_of u rows) → u ≡ v
rider_of i u v rows one his some =
    elim (cases_Bool (same_vehicle u v)) [
      | inl e ↦ same_true u v e
      | inr e ↦
          let two = listed-two i (λ (r : Row). same_vehicle r.vehicle.id u) (λ (r : Row). same_vehicle r.vehicle.id v) (λ r f. ap (λ x. same_vehicle x v) (same_true r.vehicle.id u f) ∙ e) rows in absurd (omega arith)
    ]

-- SECOND s: HE IS CARRIED
module _ (S : Setup) (own : Owner) (s i l : ℕ) (law : Lawful S) (arrivals : Arrivals S) (lt : i < length S.persons) (some : 1 ≤ listed i (came_in S s (mid S s) l)) where
  abbrev W : World
  W = world_at S s

  abbrev V : World
  V = mid S s

  abbrev U : World
  U = C_world S s V

  abbrev P : Person
  P = person_of i W

  off_none_came : listed i W.rows ≡ 0 → ⊥
  off_none_came none =
      let buffers : (a : ℕ) → listed i (at a Buffer V) ≡ 0 = λ a. (let e = ap (listed i) (mid-list S s a Buffer refl) in let le = listed-filter i (on a Buffer) W.rows in omega arith) in
      let sp = each_flat_all (Carries i) (λ n. node_turns S s n V) (λ n. node-spare S s n i V (λ a e. buffers a)) (below S.nodes) in
      let z = ap (λ ms. listed i (entered l ms)) (C_moves-are S s V) ∙ spare-enters i (λ m. eqb m l) (flat_map (λ n. node_turns S s n V) (below S.nodes)) sp in absurd (omega arith)

  rides_by : (pl : Place) → P.place ≡ pl → (v : VehicleId) × (P.place ≡ Riding v)
  rides_by (Riding v) e = (v, e)
  rides_by (At end) e = absurd (off_none_came (subst (λ pl. IsListed i W.rows pl) e (listed_in_one S s i lt)))
  rides_by (Teleporting start) e = absurd (off_none_came (subst (λ pl. IsListed i W.rows pl) e (listed_in_one S s i lt)))
  rides_by (Waiting stop since) e = absurd (off_none_came (subst (λ pl. IsListed i W.rows pl) e (listed_in_one S s i lt)))
  rides_by (Aborted a) e = absurd (off_none_came (subst (λ pl. IsListed i W.rows pl) e (listed_in_one S s i lt)))

  mid_is_same : person_of i V ≡ P
  mid_is_same =
      let r = rides_by P.place refl in
      let no_land : landing_moves S s i P ≡ [] = landing_off S s i P (λ start q. let z : Riding r.0 ≡ Teleporting start = sym r.1 ∙ q in cc) in
      let no_leave : leaving_moves S s i P ≡ [] = leaving_off S s i P (λ end q. let z : Riding r.0 ≡ At (Some end) = sym r.1 ∙ q in cc) in
      mid_same S s i lt no_land no_leave

  in_U : listed i (at l Queue U) ≡ listed i (at l Queue V) + listed i (came_in S s V l)
  in_U = ap (listed i) (C-came S s l V) ∙ listed-append i (at l Queue V) (came_in S s V l)

  link_silent : (a : ℕ) → Quiet S s i (link_turns S s a U)
  link_silent a =
      let one = in_one_C S s i lt in
      let few = concern_few S own 0 s i true U one l in
      let q = in_U in
      elim (cases_Bool (eqb l a)) [
        | inl e ↦
            let xs = at l Queue V in
            let ys = came_in S s V l in
            let L = record (link_state l U) { queue = xs } in
            let ws = waiters S l U in
            let same : link_turns S s l U ≡ link_moves (rules S l) s l ws L =
            ap (λ us. link_moves (rules S l) s l ws (record (link_state l U) { queue = us })) (C-came S s l V) ∙ link_moves_late (rules S l) s l ws L ys (came_late S s l V) in
            let here : Quiet S s i (link_turns S s l U) = (rw same (link-quiet S i (rules S l) s l ws L (omega arith) (omega arith) (omega arith) (omega arith))) in
            subst (λ (x : ℕ). Quiet S s i (link_turns S s x U)) (eqb-true l a e) here
        | inr e ↦
            let z = concern_alone S own 0 s i true U one l a (eqb-false l a e) (omega arith) in
            link-quiet S i (rules S a) s a (waiters S a U) (link_state a U) (omega arith) (omega arith) (omega arith) (omega arith)
      ]

  pub element_kept : (person_of i (world_at S (suc s))).element ≡ P.element
  element_kept =
      let few = few_mid S s in
      let f2 = C-length S s V in
      let ds = flat_map (λ a. link_turns S s a U) (below (length S.links)) in
      let d : person_of i (world_at S (suc s)) ≡ person_of i U = ap (person_of i) (world-next S s) ∙ ap (λ ms. person_of i (run S s ms U)) (D_moves-are S s U) ∙ person-run S s i ds U (omega arith)
      ∙ quiet_same S s i ds (person_of i U) (each_flat_all (IsQuiet S s i) (λ a. link_turns S s a U) link_silent (below (length S.links))) in
      let c : (person_of i U).element ≡ (person_of i V).element = ap (λ (X : Person). X.element) (person-run S s i (C_moves S s V) V (omega arith)) ∙ handed_element S s i (C_moves S s V) (person_of i V) (C-handed S s V) in
      ap (λ (X : Person). X.element) d ∙ c ∙ ap (λ (X : Person). X.element) mid_is_same

-- UNTIL HE IS HEARD OF
module _ (S : Setup) (own : Owner) (i l : ℕ) (law : Lawful S) (lt : i < length S.persons) (cr : crosses S own l ≡ true) where
  abbrev p : ℕ
  p = owner_of S own l

  abbrev q : ℕ
  q = begins_in S own l

  late_is : (t : ℕ) → late_rows S own (less S own) t l ≡ came_last S l t (lag S own q p - 1)
  late_is t = (rw cr refl)

  no_ride : (t : ℕ) → listed i (world_at S t).rows ≡ 0 → 1 ≤ listed i (late_rows S own (less S own) t l) → ⊥
  no_ride t none some =
      let k = late_in S own p t i law lt l in
      let le = listed-filter i (on l Queue) (world_at S t).rows in absurd (omega arith)

  late_place : (t : ℕ) (pl : Place) → (person_of i (world_at S t)).place ≡ pl → 1 ≤ listed i (late_rows S own (less S own) t l) → is_late S own (less S own) p t i (person_of i (world_at S t)).element pl ≡ true
  late_place t (Riding v) e some =
      let inside = in_range S own l cr in
      let le = all_some i (late_rows S own (less S own) t) (λ a. eqb (owner_of S own a) p) l 0 (length S.links) (omega arith) (omega arith) (eq-eqb p p refl) in
      lt-ltb 0 (listed i (all_late S own (less S own) p t)) (omega arith)
  late_place t (At end) e some = absurd (no_ride t (subst (λ pl. IsListed i (world_at S t).rows pl) e (listed_in_one S t i lt)) some)
  late_place t (Teleporting start) e some = absurd (no_ride t (subst (λ pl. IsListed i (world_at S t).rows pl) e (listed_in_one S t i lt)) some)
  late_place t (Waiting stop since) e some = absurd (no_ride t (subst (λ pl. IsListed i (world_at S t).rows pl) e (listed_in_one S t i lt)) some)
  late_place t (Aborted a) e some = absurd (no_ride t (subst (λ pl. IsListed i (world_at S t).rows pl) e (listed_in_one S t i lt)) some)

  -- while he is late nobody moves him
  late_still : (t : ℕ) → 1 ≤ listed i (late_rows S own (less S own) t l) → person_of i (world_at S (suc t)) ≡ person_of i (world_at S t)
  late_still t some =
      let W = world_at S t in
      let P = person_of i W in
      let k = late_in S own p t i law lt l in
      let home : owner_of_person S own W i ≡ p = ap (owner_of S own) (listed_home S W l Queue i P.element P.place (listed_in_one S t i lt) (omega arith)) in
      let late = late_place t P.place refl some in
      let o : eqb (owner_of_person S own W i) p ≡ true = eq-eqb (owner_of_person S own W i) p home in
      let idle = late_idle S own p t i law lt o late in
      still S own t i law lt (late_all S own t i lt (ap (λ (x : ℕ). is_late S own (less S own) x t i P.element P.place) home ∙ late)) idle.0 idle.1

  pub carried : (s d : ℕ) → suc (s + d) ≤ s + lag S own q p → 1 ≤ listed i (came S l s) → person_of i (world_at S (suc (s + d))) ≡ person_of i (world_at S (suc s))
  carried s zero h some = let e : suc (s + zero) ≡ suc s = omega arith in ap (λ (x : ℕ). person_of i (world_at S x)) e
  carried s (suc d) h some =
      let t = suc (s + d) in
      let e : suc (s + suc d) ≡ suc t = omega arith in
      let r = carried s d (omega arith) some in
      let last = in_last S l s (listed i) (by_rows i) t (lag S own q p - 1) (omega arith) (omega arith) in
      let is = ap (listed i) (late_is t) in
      ap (λ (x : ℕ). person_of i (world_at S x)) e ∙ late_still t (omega arith) ∙ r

-- a flight that is not heard of
module _ (S : Setup) (own : Owner) (p q i s e : ℕ) (law : Lawful S) (lt : i < length S.persons) (other : eqb q p ≡ false) (from : flies_from S own i e ≡ q) (to : eqb (owner_of S own (act_after S i e).link) p ≡ true) where
  abbrev F : Person
  F = record { element = e; place = Teleporting s }

  pub flown : (d : ℕ) → suc (s + d) ≤ s + lag S own q p → person_of i (world_at S (suc s)) ≡ F → person_of i (world_at S (suc (s + d))) ≡ F
  flown zero h now = let z : suc (s + zero) ≡ suc s = omega arith in ap (λ (x : ℕ). person_of i (world_at S x)) z ∙ now
  flown (suc d) h now =
      let t = suc (s + d) in
      let z : suc (s + suc d) ≡ suc t = omega arith in
      let W = world_at S t in
      let P = person_of i W in
      let r : P ≡ F = flown d (omega arith) now in
      let le : nat_le t (s + less S own q p) ≡ true = grind (arith, nat_tests) in
      let test : is_late S own (less S own) p t i e (Teleporting s) ≡ true = ap (λ (x : ℕ). not (eqb x p) && nat_le t (s + less S own x p)) from ∙ (rw (other, le) refl) in
      let late : is_late S own (less S own) p t i P.element P.place ≡ true = ap (λ (X : Person). is_late S own (less S own) p t i X.element X.place) r ∙ test in
      let o : eqb (owner_of_person S own W i) p ≡ true = ap (λ (X : Person). eqb (owner_of S own (link_at S W i X.element X.place)) p) r ∙ to in
      let home : owner_of_person S own W i ≡ p = eqb-true (owner_of_person S own W i) p o in
      let idle = late_idle S own p t i law lt o late in
      ap (λ (x : ℕ). person_of i (world_at S x)) z
      ∙ still S own t i law lt (late_all S own t i lt (ap (λ (x : ℕ). is_late S own (less S own) x t i P.element P.place) home ∙ late)) idle.0 idle.1
      ∙ r
