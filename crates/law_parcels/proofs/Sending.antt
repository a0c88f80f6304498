-- What a partition sends after its second, by its own world.
use Rattle.traffic.proofs.Common.{◌≡◌, ℕ, suc, ◌≤◌, List, [], ◌∙◌, ap, refl, sym, arith, inl, inr, cases_Bool, true, false, Bool, ◌||◌, length, map, filter}
use Rattle.traffic.proofs.Common.{flat_map, if◌then◌else◌, ltb-true, eqb, Some, None, VehicleId, Setup, person_of, nobody, below, moves_of, listed}
use Rattle.traffic.specs.declared.world.{Person.Person, Place.Place, Place.TheVariants.At, Place.TheVariants.Teleporting, Place.TheVariants.Waiting}
use Rattle.traffic.specs.declared.world.{Place.TheVariants.Riding, Place.TheVariants.Aborted, Row.Row}
use Rattle.law_in_range.specs.{Rows.Counts, Setups.IsFitSetup}
use Rattle.parts.specs.Owners.{Owner, begins_in, leads, links_of}
use Rattle.parts.specs.Parts.{Freed, passed, rides_in, mine, enters_queue, freed, held, ready, out}
use Rattle.law_partitions.proofs.{Early.mid, Listing.listed-filter}
use Rattle.law_partitions.specs.{Alone.element_in, Alone.passed_here, Alone.flight_to, Alone.goes_out, Alone.if_stays, Premises.Lawful, Premises.Arrivals}
use Rattle.law_own_worlds.specs.Days.{is_there, world_before, my_node_turns, my_link_turns, FollowsTheDay}
use Rattle.law_own_worlds.specs.{Making.or_nobody, OwnWorlds.set_out}
use Rattle.law_own_seconds.specs.Seconds.{world_driven}
use Rattle.law_parcels.proofs.{Flying.one_flight, Lists.same_flat, Lists.passed_flat, Crossing.nodes_ways, Crossing.same_passed, Crossing.freed_to}
use Rattle.law_parcels.proofs.Ending.{owned, had_is, lacks_is, behind_is, node_moves_are, lacked, sent_are, rider_element, rider_rides}
use Rattle.law_parcels.specs.Sending.{sent_rows, goes_to, flies_out, is_gone, freed_over, SendsParcels}

-- nobody, whatever is said of him
both_nobody : (b : Bool) (P : Person) → P ≡ nobody → nobody ≡ (if b then nobody else P)
both_nobody true P e = refl
both_nobody false P e = sym e

some_stays : (b : Bool) (P : Person) → or_nobody (if b then None else Some P) ≡ (if b then nobody else P)
some_stays true P = refl
some_stays false P = refl

or_none : (b : Bool) → b ≡ (b || false)
or_none true = refl
or_none false = refl

module _ (S : Setup) (own : Owner) (p t : ℕ) (z : Counts) (law : Lawful S) (arrivals : Arrivals S) (fit : IsFitSetup z S)
    (day : FollowsTheDay S own p t) where
  abbrev P5 : ℕ → Person
  P5 i = person_of i (world_driven S own p t)

  abbrev rows : List Row
  rows = sent_rows S own p t

  -- VEHICLES
  elements : (j : ℕ) → 1 ≤ listed j rows → element_in ((ready S own p t).person j) ≡ (P5 j).element
  elements j some =
      elim (cases_Bool (is_there S own p t j)) [
        | inl e ↦
            let lt = (owned S own p t z law arrivals fit).world.there j e in
            ap element_in (had_is S own p t z law arrivals fit j e) ∙ sym (rider_element S own p t z law arrivals fit j lt some)
            ∙ ap (λ (P : Person). P.element) (sym (behind_is S own p t z law arrivals fit j e))
        | inr e ↦
            ap element_in (lacks_is S own p t z law arrivals fit j e)
            ∙ ap (λ (P : Person). P.element) (sym (lacked S own p t z law arrivals fit j e))
      ]

  ways : (q : ℕ) → eqb q p ≡ false → flat_map (enters_queue (leads S own p q)) (moves_of (my_node_turns S own p t))
      ≡ filter (goes_to S own q) rows
  ways q other =
      ap (flat_map (enters_queue (leads S own p q))) (node_moves_are S own p t z law arrivals fit)
      ∙ nodes_ways S own p q other t (mid S t) (below S.nodes)
      ∙ ap (filter (goes_to S own q)) (sym (sent_are S own p t z law arrivals fit))

  vehicles_are : (q : ℕ) → eqb q p ≡ false → (out S own p q t).vehicles
      ≡ map (passed (world_driven S own p t)) (filter (goes_to S own q) rows)
  vehicles_are q other =
      day.vehicles q
      ∙ ap (map (passed_here (ready S own p t))) (ways q other)
      ∙ same_passed (λ j. element_in ((ready S own p t).person j)) (λ j. (P5 j).element) (filter (goes_to S own q) rows)
      (λ j some. let le = listed-filter j (goes_to S own q) rows in elements j (omega arith))

  -- FLIGHTS
  flights_are : (q : ℕ) (acts : ℕ → Bool)
      → ((i : ℕ) → acts i ≡ false → person_of i (set_out S own p t (world_before S own p t)) ≡ person_of i (world_before S own p t))
      → (out S own p q t).flights ≡ flat_map (λ i. flight_to S own q t i (Some (P5 i))) (filter acts (below (length S.persons)))
  flights_are q acts h =
      day.flights q
      ∙ same_flat (λ i. flight_to S own q t i (mine (is_there S own p t i) (P5 i)))
      (λ i. if acts i then flight_to S own q t i (Some (P5 i)) else [])
      (length S.persons) (λ i lt. one_flight S own p t z law arrivals fit q i (acts i) lt (h i)) 0 (length S.persons) (omega arith)
      ∙ passed_flat acts (λ i. flight_to S own q t i (Some (P5 i))) (below (length S.persons))

  -- PLACES
  freed_are : (q : ℕ) → eqb q p ≡ false → (out S own p q t).freed
      ≡ filter (λ (f : Freed). eqb (begins_in S own f.link) q) (freed_over S own p t)
  freed_are q other =
      day.freed_places q ∙ freed_to S own p q other (λ (l : ℕ). freed l (moves_of (my_link_turns S own p t))) (links_of S)

  -- PERSONS
  -- who rides in nothing of this
  rides_off : (i : ℕ) (pl : Place) → is_there S own p t i ≡ true → (P5 i).place ≡ pl → ((v : VehicleId) → pl ≡ Riding v → ⊥)
      → rides_in i rows ≡ false
  rides_off i pl e at_pl off =
      elim (cases_Bool (rides_in i rows)) [
        | inl r ↦
            let some = ltb-true 0 (listed i rows) r in
            let lt = (owned S own p t z law arrivals fit).world.there i e in
            let w = rider_rides S own p t z law arrivals fit i lt (omega arith) in
            absurd (off w.0 (sym at_pl ∙ ap (λ (P : Person). P.place) (behind_is S own p t z law arrivals fit i e) ∙ w.1))
        | inr r ↦ r
      ]

  gone_at : (i : ℕ) (pl : Place) → is_there S own p t i ≡ true → (P5 i).place ≡ pl
      → goes_out S own p t rows i (P5 i).element pl ≡ (rides_in i rows || flies_out S own p t i (P5 i).element pl)
  gone_at i (Riding v) e at_pl = or_none (rides_in i rows)
  gone_at i (Teleporting start) e at_pl = let r = rides_off i (Teleporting start) e at_pl (λ v q. cc) in rw r refl
  gone_at i (At end) e at_pl = let r = rides_off i (At end) e at_pl (λ v q. cc) in rw r refl
  gone_at i (Waiting stop since) e at_pl = let r = rides_off i (Waiting stop since) e at_pl (λ v q. cc) in rw r refl
  gone_at i (Aborted l) e at_pl = let r = rides_off i (Aborted l) e at_pl (λ v q. cc) in rw r refl

  persons_are : (i : ℕ) → or_nobody ((held S own p (suc t)).person i) ≡ (if is_gone S own p t i then nobody else P5 i)
  persons_are i =
      let was : (held S own p (suc t)).person i ≡ if_stays S own p t rows i (mine (is_there S own p t i) (P5 i)) = day.person i in
      elim (cases_Bool (is_there S own p t i)) [
        | inl e ↦
            let now : (held S own p (suc t)).person i
            ≡ (if goes_out S own p t rows i (P5 i).element (P5 i).place then None else Some (P5 i))
            = was ∙ (rw e refl) in
            ap or_nobody now ∙ some_stays (goes_out S own p t rows i (P5 i).element (P5 i).place) (P5 i)
            ∙ ap (λ (b : Bool). if b then nobody else P5 i) (gone_at i (P5 i).place e refl)
        | inr e ↦
            let now : (held S own p (suc t)).person i ≡ None = was ∙ (rw e refl) in
            ap or_nobody now ∙ both_nobody (is_gone S own p t i) (P5 i) (lacked S own p t z law arrivals fit i e)
      ]

  pub sends : SendsParcels S own p t
  sends = record { vehicles = vehicles_are; flights = flights_are; freed_places = freed_are; persons = persons_are }
