-- What a part sends in its second is what the day sends.
use Rattle.traffic.proofs.Common.{◌≡◌, ℕ, List, ◌∙◌, length, ap, refl, sym, [], ◌∷◌, arith, ◌<◌, true, ◌++◌, ◌+◌, Bool, inl, inr, ◌≤◌, false, suc, eqb, zero}
use Rattle.traffic.proofs.Common.{cases_Bool, eqb-true, and_parts, cases_lt, eq-eqb, or_parts, flat_map-append, get_or_past, sum_by-cons, flat_map, map, filter}
use Rattle.traffic.proofs.Common.{not, ◌&&◌, if◌then◌else◌, world_at, moves_of, node_turns, through, Untouched, below, numbers, touches, same, World, person_of}
use Rattle.traffic.proofs.{Common.on, Common.nobody, Common.Setup, Common.act_after, Common.link_row, Common.listed, Each.each_flat_where, Nodes.node_untouched}
use Rattle.traffic.specs.declared.{moves.Move.Move, moves.Move.TheVariants.Transfer, riders.Rider.Rider, stage.Stage.TheVariants.Queue, world.Person.Person}
use Rattle.traffic.specs.declared.world.Place.{Place, TheVariants.At, TheVariants.Teleporting, TheVariants.Waiting, TheVariants.Riding, TheVariants.Aborted}
use Rattle.traffic.specs.declared.world.Row.{Row}
use Rattle.law_one_place.proofs.{Boarding.one_rider, Places.among_riders, Turns.always_kept}
use Rattle.parts.specs.Owners.{Owner, owner_of, begins_in, leads, links_of, link_at}
use Rattle.parts.specs.Parts.{Held, Passed, Flight, Freed, is_some_freed, Parcel, passed, mine, has, enters_queue, node_phase_moves, freed, went, flies_from}
use Rattle.parts.specs.Parts.{flight_at, flight_from, out, unheard, ready}
use Rattle.law_partitions.proofs.{Calms.calm, Calms.node_spare_away, Early.mid, Ends.less, Ends.frees_own, Home.Lawful, Home.IsHome}
use Rattle.law_partitions.proofs.Locality.{my_turns, D_after-person}
use Rattle.law_partitions.proofs.{Owning.Arrivals, Owning.home_next, Second.C_moves-are, Spare.Carries, Spare.spare-enters, Tells.listed-cons}
use Rattle.law_partitions.specs.Alone.{my_nodes, C_part, D_part, early, after_C, after_D, element_in, passed_here, flight_to, parcel_to}

no_row : (b : Bool) (now : Row) → (if b && false then now ∷ [] else []) ≡ []
no_row true now = refl
no_row false now = refl

-- what a node puts into a queue goes into that of a link that begins there
leads_no : (S : Setup) (own : Owner) (p q n : ℕ) (m : Move) → ((l : ℕ) → eqb (link_row S l).from n ≡ false → touches l Queue m ≡ false) → eqb (own n) p ≡ false → enters_queue (leads S own p q) m ≡ []
leads_no S own p q n (Transfer a z k was now) h e =
    let m = now.link in
    elim (cases_Bool (eqb (link_row S m).from n)) [
      | inl f ↦ let g : eqb (begins_in S own m) p ≡ false = ap (λ (x : ℕ). eqb (own x) p) (eqb-true (link_row S m).from n f) ∙ e in rw g refl
      | inr f ↦ let g = (or_parts (same m Queue a z) (on m Queue now) (h m f)).1 in rw g (no_row (leads S own p q m) now)
    ]
leads_no S own p q n _ h e = refl

leads_none : (S : Setup) (own : Owner) (p q n : ℕ) (ms : List Move) → ((l : ℕ) → eqb (link_row S l).from n ≡ false → Untouched l Queue ms) → eqb (own n) p ≡ false → flat_map (enters_queue (leads S own p q)) ms ≡ []
leads_none S own p q n [] h e = refl
leads_none S own p q n (m ∷ ms) h e = ap (λ xs. xs ++ flat_map (enters_queue (leads S own p q)) ms) (leads_no S own p q n m (λ l f. (h l f).0) e) ∙ leads_none S own p q n ms (λ l f. (h l f).1) e

leads_mine : (S : Setup) (own : Owner) (p q t : ℕ) (V : World) (ns : List ℕ) →
    flat_map (enters_queue (leads S own p q)) (flat_map (λ n. node_turns S t n V) ns) ≡ flat_map (enters_queue (leads S own p q)) (flat_map (λ n. node_turns S t n V) (filter (λ n. eqb (own n) p) ns))
leads_mine S own p q t V [] = refl
leads_mine S own p q t V (n ∷ ns) =
    let plan : ℕ → List Move = λ n. node_turns S t n V in
    let f = enters_queue (leads S own p q) in
    let r = leads_mine S own p q t V ns in
    flat_map-append f (plan n) (flat_map plan ns)
    ∙ elim (cases_Bool (eqb (own n) p)) [
      | inl e ↦ rw e (ap (λ xs. flat_map f (plan n) ++ xs) r ∙ sym (flat_map-append f (plan n) (flat_map plan (filter (λ n. eqb (own n) p) ns))))
      | inr e ↦ rw e (let z = leads_none S own p q n (plan n) (λ l g. node_untouched S t n l Queue V g) e in ap (λ xs. xs ++ flat_map f (flat_map plan ns)) z ∙ r)
    ]

-- elements of riders
same_elements : (H : Held) (W : World) (rs : List Rider) → ((j : ℕ) → 1 ≤ among_riders j rs → element_in (H.person j) ≡ (person_of j W).element) → map (λ (x : Rider). element_in (H.person x.person)) rs ≡ map (λ (x : Rider). (person_of x.person W).element) rs
same_elements H W [] h = refl
same_elements H W (x ∷ xs) h =
    let c = sum_by-cons (one_rider x.person) x xs in
    let e = eq-eqb x.person x.person refl in
    let d : one_rider x.person x ≡ 1 = (rw e refl) in
    let a = h x.person (omega arith) in
    let r = same_elements H W xs (λ j g. let k = sum_by-cons (one_rider j) x xs in h j (omega arith)) in cc

same_passed : (H : Held) (W : World) (rows : List Row) → ((j : ℕ) → 1 ≤ listed j rows → element_in (H.person j) ≡ (person_of j W).element) → map (passed_here H) rows ≡ map (passed W) rows
same_passed H W [] h = refl
same_passed H W (r ∷ rs) h =
    let a = same_elements H W r.vehicle.riders (λ j g. let c = listed-cons j r rs in h j (omega arith)) in
    let one : passed_here H r ≡ passed W r = ap (λ (es : List ℕ). let y : Passed = record { row = r; elements = es } in y) a in
    let more = same_passed H W rs (λ j g. let c = listed-cons j r rs in h j (omega arith)) in cc

same_on : (f g : ℕ → Freed) (pass : ℕ → Bool) → ((l : ℕ) → pass l ≡ true → f l ≡ g l) → (ns : List ℕ) → map f (filter pass ns) ≡ map g (filter pass ns)
same_on f g pass h [] = refl
same_on f g pass h (n ∷ ns) = elim (cases_Bool (pass n)) [ inl e ↦ simp e (let a = h n e in let b = same_on f g pass h ns in cc) | inr e ↦ simp e (same_on f g pass h ns) ]

same_numbers : (f g : ℕ → List Flight) (c : ℕ) → ((i : ℕ) → i < c → f i ≡ g i) → (k n : ℕ) → k + n ≤ c → flat_map f (numbers k n) ≡ flat_map g (numbers k n)
same_numbers f g c h k zero le = refl
same_numbers f g c h k (suc n) le = let a = h k (omega arith) in let b = same_numbers f g c h (k + 1) n (omega arith) in cc

both_tests : (b x : Bool) (fs : List Flight) → (if b then (if x then fs else []) else []) ≡ (if b && x then fs else [])
both_tests true x fs = refl
both_tests false x fs = refl

no_flight : (b : Bool) (fs : List Flight) → fs ≡ [] → (if b then fs else []) ≡ []
no_flight true fs e = e
no_flight false fs e = refl

module _ (S : Setup) (own : Owner) (p q t : ℕ) (law : Lawful S) (arrivals : Arrivals S) where
  abbrev R : Held
  R = ready S own p t

  abbrev A : Held
  A = after_C S own p t (early S own p t R)

  abbrev mine_p : ℕ → Bool
  mine_p = has S own (less S own) p t

  abbrev V : World
  V = mid S t

  abbrev W1 : World
  W1 = world_at S (suc t)

  abbrev rows : List Row
  rows = flat_map (enters_queue (leads S own p q)) (flat_map (λ n. node_turns S t n V) (my_nodes S own p))

  turns_are : node_phase_moves S t ≡ flat_map (λ n. node_turns S t n V) (below S.nodes)
  unfolding through
  turns_are = C_moves-are S t V

  ready_person : (j : ℕ) → R.person j ≡ mine (mine_p j) (person_of j (world_at S t))
  unfolding unheard
  ready_person j = refl

  elements_known : (j : ℕ) → 1 ≤ listed j rows → element_in (R.person j) ≡ (person_of j (world_at S t)).element
  elements_known j some =
      let few = (always_kept S t).one_row in
      ap element_in (ready_person j)
      ∙ elim (cases_Bool (mine_p j)) [
        | inl e ↦ rw e refl
        | inr e ↦ elim (cases_lt j (length S.persons)) [
          | inl lt ↦
              let sp = each_flat_where (Carries j) (λ n. node_turns S t n V) (λ n. eqb (own n) p) (λ n f. node_spare_away S own p t j law lt n (f ∙ sym (ap not e))) (below S.nodes) in
              let z = spare-enters j (leads S own p q) (flat_map (λ n. node_turns S t n V) (my_nodes S own p)) sp in absurd (omega arith)
          | inr past ↦ let z = get_or_past (world_at S t).persons j nobody (omega arith) in rw e (sym (ap (λ (x : Person). x.element) z))
        ]
      ]

  vehicles_same : map (passed_here R) (flat_map (enters_queue (leads S own p q)) (moves_of (C_part S own p t (early S own p t R)))) ≡ map (passed (world_at S t)) (flat_map (enters_queue (leads S own p q)) (node_phase_moves S t))
  vehicles_same =
      ap (λ ms. map (passed_here R) (flat_map (enters_queue (leads S own p q)) ms)) (my_turns S own p t law arrivals)
      ∙ same_passed R (world_at S t) rows elements_known
      ∙ ap (map (passed (world_at S t))) (sym (ap (flat_map (enters_queue (leads S own p q))) turns_are ∙ leads_mine S own p q t V (below S.nodes)))

  flights_by : (i el : ℕ) (pl : Place) (b : Bool) → IsHome S own p t b i el pl →
      (if b then (if eqb (owner_of S own (act_after S i el).link) q then flight_at S t i el pl else []) else [])
      ≡ (if eqb (flies_from S own i el) p && eqb (owner_of S own (link_at S W1 i el pl)) q then flight_at S t i el pl else [])
  flights_by i el (Teleporting start) b h =
      let x = eqb (owner_of S own (act_after S i el).link) q in
      let fs = flight_at S t i el (Teleporting start) in
      elim (cases_Bool (eqb start t)) [
        | inl e ↦ let f : eqb (flies_from S own i el) p ≡ b = h.1 (eqb-true start t e) in rw f (both_tests b x fs)
        | inr e ↦ let none : fs ≡ [] = (rw e refl) in no_flight b _ (no_flight x fs none) ∙ sym (no_flight (eqb (flies_from S own i el) p && x) fs none)
      ]
  flights_by i el (At end) b h = no_flight b _ (no_flight (eqb (owner_of S own (act_after S i el).link) q) [] refl) ∙ sym (no_flight (eqb (flies_from S own i el) p && eqb (owner_of S own (link_at S W1 i el (At end))) q) [] refl)
  flights_by i el (Waiting stop since) b h = no_flight b _ (no_flight (eqb (owner_of S own (act_after S i el).link) q) [] refl) ∙ sym (no_flight (eqb (flies_from S own i el) p && eqb (owner_of S own (link_at S W1 i el (Waiting stop since))) q) [] refl)
  flights_by i el (Riding v) b h = no_flight b _ (no_flight (eqb (owner_of S own (act_after S i el).link) q) [] refl) ∙ sym (no_flight (eqb (flies_from S own i el) p && eqb (owner_of S own (link_at S W1 i el (Riding v))) q) [] refl)
  flights_by i el (Aborted l) b h = no_flight b _ (no_flight (eqb (owner_of S own (act_after S i el).link) q) [] refl) ∙ sym (no_flight (eqb (flies_from S own i el) p && eqb (owner_of S own (link_at S W1 i el (Aborted l))) q) [] refl)

  flight_of : (i : ℕ) (b : Bool) (P : Person) → flight_to S own q t i (mine b P) ≡ (if b then (if eqb (owner_of S own (act_after S i P.element).link) q then flight_at S t i P.element P.place else []) else [])
  flight_of i true P = refl
  flight_of i false P = refl

  one_flight : (i : ℕ) → i < length S.persons → flight_to S own q t i ((after_D S own p t A).person i) ≡ flight_from S own p q t W1 i
  one_flight i lt =
      let P1 = person_of i W1 in
      ap (flight_to S own q t i) (D_after-person S own p t law arrivals i) ∙ flight_of i (mine_p i) P1
      ∙ flights_by i P1.element P1.place (mine_p i) (home_next S own p t i law arrivals lt)

  freed_same : filter is_some_freed (map (λ (l : ℕ). let f : Freed = record { link = l; rows = freed l (moves_of (D_part S own p t A)) } in f) (filter (leads S own q p) (links_of S)))
      ≡ filter is_some_freed (map (λ (l : ℕ). let f : Freed = record { link = l; rows = went S l t } in f) (filter (leads S own q p) (links_of S)))
  freed_same = ap (filter is_some_freed) (same_on _ _ (leads S own q p) (λ l e. ap (λ (n : ℕ). let f : Freed = record { link = l; rows = n } in f) (frees_own S own p t law.long (calm S own p t law) l (and_parts (eqb (begins_in S own l) q) (eqb (owner_of S own l) p) e).1)) (links_of S))

  same_parcel : (x y : Parcel) → x.vehicles ≡ y.vehicles → x.flights ≡ y.flights → x.freed ≡ y.freed → x ≡ y
  same_parcel x y e f g = λ i. record { vehicles = e i; flights = f i; freed = g i }

  -- THE PARCEL
  pub parcel_is : parcel_to S own p t R q ≡ out S own p q t
  unfolding parcel_to out
  parcel_is = same_parcel (parcel_to S own p t R q) (out S own p q t) vehicles_same
      (same_numbers (λ i. flight_to S own q t i ((after_D S own p t A).person i)) (flight_from S own p q t W1) (length S.persons) one_flight 0 (length S.persons) (omega arith))
      freed_same
