-- In a sound world whoever alights on a link has the next activity of his plan there.
use Rattle.traffic.proofs.Common.{◌≡◌, ℕ, List, ◌∙◌, length, ap, refl, sym, [], ◌∷◌, arith, ◌<◌, true, ◌+◌, inl, inr, subst, ◌≤◌, false, eqb, ◌-◌, get_or, drop}
use Rattle.traffic.proofs.Common.{◌/◌, cases_Bool, eqb-true, and_parts, cases_lt, eq-eqb, true≢false, ltb-true, lt-ltb, nat_tests, get_or_past, All-get_or}
use Rattle.traffic.proofs.Common.{recursion_from_All, sum_by-cons, filter, nat_lt, ◌%◌, VehicleId, StopCall, calls_at, Leg, Transit, Car, is_last, is_nil}
use Rattle.traffic.proofs.Common.{World, person_of, at, on, Setup, act_after, leg_at, act_at, person_plan, link_of_stop, Departure, is_egress, next_call}
use Rattle.traffic.proofs.Common.{alighting, calls_on, alights, VehicleState, ahead, from_link, IsOnLine, leg_of, listed, IsListed, IsSoundPerson, listed_in}
use Rattle.traffic.proofs.Common.{HasLeg, IsOwn, OnePlace, IsAlong, Sound, AreServable, HasRiders, IsSoundRow, IsSoundStage}
use Rattle.traffic.{proofs.Each.each_both, proofs.Sublists.on_is, specs.declared.riders.Rider.Rider}
use Rattle.traffic.specs.declared.{stage.Stage.Stage, stage.Stage.TheVariants.Buffer, world.Place.Place, world.Place.TheVariants.At, world.Row.Row}
use Rattle.std.{proofs.lemmas.List.drop_all, proofs.lemmas.List.drop_more, proofs.lemmas.List.length-drop, specs.List.AllByRecursion as Each}
use Rattle.events.specs.declared.event.VehicleId.TheVariants as vehicle
use Rattle.law_one_place.proofs.{Boarding.one_rider, Boarding.riders_are, Places.among_riders, Places.rides}
use Rattle.law_sound_setups.specs.Consistent.{LeadsFrom, link_of_act, IsConsistentPlan, AreAtStops, IsConsistentSetup}
use Rattle.law_sound_setups.specs.Alighting.{Alights, AlightAll}

-- one of these riders is he
pick : (i : ℕ) (Q : Rider → Type 0) (rs : List Rider) → Each Q rs → 1 ≤ among_riders i rs → (x : Rider) × ((x.person ≡ i) × Q x)
pick i Q [] h some = absurd (omega arith)
pick i Q (r ∷ rs) h some =
    elim (cases_Bool (eqb r.person i)) [ inl e ↦ (r, (eqb-true r.person i e, h.0)) | inr e ↦ pick i Q rs h.1 (grind (arith, sum_by-cons (one_rider i) r rs)) ]

alight_each : (stop : ℕ) (Q : Rider → Type 0) (rs : List Rider) → Each Q rs → Each (λ x. (alights stop x ≡ true) × Q x) (alighting stop rs)
alight_each stop Q [] h = tt
alight_each stop Q (r ∷ rs) h = elim (cases_Bool (alights stop r)) [ inl e ↦ simp e ((refl, h.0), alight_each stop Q rs h.1) | inr e ↦ simp e (alight_each stop Q rs h.1) ]

drop_calls : (d c : StopCall) (cs xs : List StopCall) (k : ℕ) → drop k xs ≡ c ∷ cs → (k < length xs) × (get_or xs k d ≡ c)
drop_calls d c cs xs k e = let lt : k < length xs = omega (arith, length-drop k xs, ap length e) in (lt, let f = drop_more xs k d lt in cc)

drop_last : (xs : List ℕ) (k : ℕ) → k + 1 ≡ length xs → drop k xs ≡ get_or xs k 0 ∷ []
drop_last xs k e = drop_more xs k 0 (omega arith) ∙ ap (λ ys. get_or xs k 0 ∷ ys) (drop_all (k + 1) xs (omega arith))

leg_in : (S : Setup) (i e : ℕ) (w : Leg) → leg_at S i e ≡ w → (Car [] ≡ w → ⊥) → e / 2 < length (person_plan S i).legs
leg_in S i e w f no_drive = elim (cases_lt (e / 2) (length (person_plan S i).legs)) [ inl lt ↦ lt | inr past ↦ absurd (no_drive (sym (get_or_past (person_plan S i).legs (e / 2) (Car []) past) ∙ f)) ]

-- one call on, as a link of the rest of the route
first_there : (c x : ℕ) → is_nil (from_link c (x ∷ [])) ≡ false → eqb x c ≡ true
first_there c x e = grind arith

module _ (S : Setup) (i : ℕ) (U : World) (consistent : IsConsistentSetup S) (sound : Sound S U) (is_listed : IsListed i U.rows (person_of i U).place) (lt : i < length S.persons) where
  -- his plan leads from activity to activity
  his : (e : ℕ) (w : Leg) → leg_at S i e ≡ w → e / 2 < length (person_plan S i).legs → LeadsFrom S (link_of_act (person_plan S i).acts (e / 2)) (link_of_act (person_plan S i).acts (e / 2 + 1)) w
  his e w f few = subst (LeadsFrom S (link_of_act (person_plan S i).acts (e / 2)) (link_of_act (person_plan S i).acts (e / 2 + 1))) f (All-get_or (IsConsistentPlan S) S.persons i (record { acts = []; legs = [] }) lt consistent.persons (e / 2) few)

  -- the activity after a leg is on this link
  next_link : (e : ℕ) → e % 2 ≡ 1 → (act_at S i (e + 1)).link ≡ link_of_act (person_plan S i).acts (e / 2 + 1)
  next_link e odd = let half : (e + 1) / 2 ≡ e / 2 + 1 = omega arith in ap (link_of_act (person_plan S i).acts) half

  abbrev el : ℕ
  el = (person_of i U).element

  -- he alights at a stop
  at_stop : (l : ℕ) (v : VehicleState) (x : Rider) (w : Leg) → leg_at S i el ≡ w → el % 2 ≡ 1 → AreAtStops S v.calls → calls_on l v ≡ true → alights (next_call v).stop x ≡ true → HasLeg x w (act_after S i el) → IsOnLine v w → (act_at S i (el + 1)).link ≡ l
  at_stop l v x (Transit n access egress) f odd called on_here al leg line =
      let g = and_parts (nat_lt v.served (length v.calls)) (eqb (next_call v).link l) on_here in
      let served = ltb-true v.served (length v.calls) g.0 in
      let c = All-get_or (λ (c : StopCall). link_of_stop S c.stop ≡ c.link) v.calls v.served (record { stop = 0; link = 0; offset = 0; wait = false }) served called in
      let stop : eqb egress (next_call v).stop ≡ true = ap (is_egress (next_call v).stop) (sym leg.0) ∙ al in
      let r = (his el (Transit n access egress) f (leg_in S i el (Transit n access egress) f (λ e. cc))).1 in
      next_link el odd ∙ sym r ∙ ap (link_of_stop S) (eqb-true egress (next_call v).stop stop) ∙ c ∙ eqb-true (next_call v).link l g.1
  at_stop l v x _ f odd called on_here al leg line = absurd line

  -- or his route ends
  at_end : (l : ℕ) (v : VehicleState) (w : Leg) → leg_at S i el ≡ w → el % 2 ≡ 1 → l ≡ get_or v.route v.place 0 → is_last v ≡ true → IsAlong v.route w → (act_at S i (el + 1)).link ≡ l
  at_end l v (Car route) f odd here last along =
      let e = eqb-true (v.place + 1) (length v.route) last in
      let n : 0 < length route = (let z = ap length along in omega arith) in
      let leg = leg_in S i el (Car route) f (λ q. let z : [] ≡ route = cc in absurd (omega (arith, ap length z))) in
      let r = (his el (Car route) f leg).1 in
      let z : length route - 1 ≡ v.place = (let z = ap length along in omega arith) in
      next_link el odd ∙ sym r ∙ ap (λ (k : ℕ). get_or route k 0) z ∙ ap (λ (xs : List ℕ). get_or xs v.place 0) along ∙ sym here
  at_end l v _ f odd here last along = absurd along

  last_link : (v : VehicleState) → is_last v ≡ true → drop v.place v.route ≡ get_or v.route v.place 0 ∷ []
  last_link v last = drop_last v.route v.place (eqb-true (v.place + 1) (length v.route) last)

  left_of : (l : ℕ) (v : VehicleState) (c : StopCall) (cs : List StopCall) → drop v.served v.calls ≡ c ∷ cs → l ≡ get_or v.route v.place 0 → AreServable (c ∷ cs) (drop v.place v.route) → is_last v ≡ true → calls_on l v ≡ true
  left_of l v c cs e here serve last =
      let d = drop_calls (record { stop = 0; link = 0; offset = 0; wait = false }) c cs v.calls v.served e in
      let x = get_or v.route v.place 0 in
      let first : is_nil (from_link c.link (x ∷ [])) ≡ false = ap (λ (ls : List ℕ). is_nil (from_link c.link ls)) (sym (last_link v last)) ∙ serve.0 in
      let at_c = eqb-true x c.link (first_there c.link x first) in
      let one : nat_lt v.served (length v.calls) ≡ true = lt-ltb v.served (length v.calls) d.0 in
      let two : eqb (next_call v).link l ≡ true = eq-eqb (next_call v).link l (ap (λ (y : StopCall). y.link) d.1 ∙ sym at_c ∙ sym here) in
      (rw (one, two) refl)

  some_left : (l : ℕ) (s : Stage) (v : VehicleState) (rest : List StopCall) → drop v.served v.calls ≡ rest → (egress : ℕ) → l ≡ get_or v.route v.place 0 → IsSoundStage s v → AreServable rest (ahead s v) → is_last v ≡ true → calls_on l v ≡ false → calls_at egress rest ≡ true → ⊥
  some_left l s v [] e egress here st serve last off line = true≢false (sym line)
  some_left l Buffer v (c ∷ cs) e egress here st serve last off line = let z = eqb-true (v.place + 1) (length v.route) last in absurd (omega arith)
  some_left l _ v (c ∷ cs) e egress here st serve last off line = true≢false (sym (left_of l v c cs e here serve last) ∙ off)

  -- a transit vehicle has no rider left there
  on_last : (l : ℕ) (s : Stage) (v : VehicleState) (w : Leg) → l ≡ get_or v.route v.place 0 → IsSoundStage s v → AreServable (drop v.served v.calls) (ahead s v) → is_last v ≡ true → calls_on l v ≡ false → IsOnLine v w → ⊥
  on_last l s v (Transit n access egress) here st serve last off line = some_left l s v (drop v.served v.calls) refl egress here st serve last off line.1
  on_last l s v _ here st serve last off line = line

  one_row : (l : ℕ) (r : Row) (id : VehicleId) → r.vehicle.id ≡ id → r.link ≡ l → (1 ≤ rides i r.vehicle → el % 2 ≡ 1) → IsSoundRow S U r → IsOwn S r.vehicle id → HasRiders S U r.vehicle id → Alights S l i el r.vehicle
  one_row l r (vehicle.Car j) e on_l odd h own riders =
      let v = r.vehicle in
      let off : nat_lt v.served (length v.calls) ≡ false = grind (arith, nat_tests, ap length own.calls) in (
        (λ on_here some. absurd (true≢false (sym on_here ∙ (rw off refl)))),
        (λ off_here last some.
            let x = pick i (λ x. x.person ≡ j) v.riders (recursion_from_All (λ (x : Rider). x.person ≡ j) v.riders riders.1) some in
            let same : j ≡ i = sym x.1.1 ∙ x.1.0 in
            at_end l v (leg_at S i el) refl (odd some) (sym on_l ∙ h.link) last (subst (λ (k : ℕ). IsAlong v.route (leg_of S U k)) same riders.2)),
      )
  one_row l r (vehicle.Transit d) e on_l odd h own riders =
      let v = r.vehicle in
      let called : AreAtStops S v.calls = rw own.calls (All-get_or (λ (D : Departure). AreAtStops S D.calls) S.departures d _ own.there consistent.departures) in
      let lines = recursion_from_All (λ (x : Rider). IsOnLine v (leg_of S U x.person)) v.riders riders in
      let legs = recursion_from_All (λ (x : Rider). HasLeg x (leg_of S U x.person) (act_after S x.person (person_of x.person U).element)) v.riders h.legs in (
        (λ on_here some.
            let stop = (next_call v).stop in
            let both = alight_each stop (λ x. IsOnLine v (leg_of S U x.person) × HasLeg x (leg_of S U x.person) (act_after S x.person (person_of x.person U).element)) v.riders (each_both (λ x. IsOnLine v (leg_of S U x.person)) (λ x. HasLeg x (leg_of S U x.person) (act_after S x.person (person_of x.person U).element)) _ (λ x a b. (a, b)) v.riders lines legs) in
            let x = pick i (λ x. (alights stop x ≡ true) × (IsOnLine v (leg_of S U x.person) × HasLeg x (leg_of S U x.person) (act_after S x.person (person_of x.person U).element))) (alighting stop v.riders) both some in
            at_stop l v x.0 (leg_at S i el) refl (odd (omega (arith, riders_are i stop v.riders))) called on_here x.1.1.0
            (subst (λ (k : ℕ). HasLeg x.0 (leg_of S U k) (act_after S k (person_of k U).element)) x.1.0 x.1.1.1.1)
            (subst (λ (k : ℕ). IsOnLine v (leg_of S U k)) x.1.0 x.1.1.1.0)),
        (λ off_here last some.
            let x = pick i (λ x. IsOnLine v (leg_of S U x.person)) v.riders lines some in
            absurd (on_last l r.stage v (leg_at S i el) (sym on_l ∙ h.link) h.stage h.calls last off_here (subst (λ (k : ℕ). IsOnLine v (leg_of S U k)) x.1.0 x.1.1))),
      )

  -- who rides is on a leg
  odd_place : (pl : Place) → (person_of i U).place ≡ pl → IsListed i U.rows pl → 1 ≤ listed i U.rows → IsSoundPerson S i el pl → el % 2 ≡ 1
  odd_place (At end) e h some s = absurd (omega arith)
  odd_place _ e h some s = s.0.0

  odd_all : 1 ≤ listed i U.rows → el % 2 ≡ 1
  odd_all some = odd_place (person_of i U).place refl is_listed some (sound.persons i lt)

  rows_alight : (l : ℕ) (s : Stage) (rows : List Row) → (1 ≤ listed i rows → el % 2 ≡ 1) → Each (IsSoundRow S U) rows → AlightAll S l i el (filter (on l s) rows)
  rows_alight l s [] odd h = tt
  rows_alight l s (r ∷ rs) odd h =
      let a : listed i (r ∷ rs) ≡ rides i r.vehicle + listed i rs = sum_by-cons (listed_in i) r rs in
      let more = rows_alight l s rs (λ k. odd (omega arith)) h.1 in
      elim (cases_Bool (on l s r)) [
        | inl e ↦ simp e (one_row l r r.vehicle.id refl (on_is l s r e).1 (λ k. odd (omega arith)) h.0 h.0.own h.0.riders, more)
        | inr e ↦ simp e more
      ]

  pub all_alight : (l : ℕ) (s : Stage) → AlightAll S l i el (at l s U)
  all_alight l s = rows_alight l s U.rows odd_all (recursion_from_All (IsSoundRow S U) U.rows sound.rows)

  -- who rides in one of these rows is on a leg
  rows_odd : (l : ℕ) (s : Stage) (rows : List Row) → (1 ≤ listed i rows → el % 2 ≡ 1) → Each (λ (r : Row). 1 ≤ rides i r.vehicle → el % 2 ≡ 1) (filter (on l s) rows)
  rows_odd l s [] odd = tt
  rows_odd l s (r ∷ rs) odd =
      let a : listed i (r ∷ rs) ≡ rides i r.vehicle + listed i rs = sum_by-cons (listed_in i) r rs in
      let more = rows_odd l s rs (λ k. odd (omega arith)) in
      elim (cases_Bool (on l s r)) [ inl e ↦ simp e ((λ k. odd (omega arith)), more) | inr e ↦ simp e more ]

  pub all_odd : (l : ℕ) (s : Stage) → Each (λ (r : Row). 1 ≤ rides i r.vehicle → el % 2 ≡ 1) (at l s U)
  all_odd l s = rows_odd l s U.rows odd_all

pub riders_alight : (S : Setup) (i l : ℕ) (s : Stage) (W : World) → IsConsistentSetup S → OnePlace S W → Sound S W → i < length S.persons → AlightAll S l i (person_of i W).element (at l s W)
riders_alight S i l s W consistent one sound lt = all_alight S i W consistent sound (one.one_place i lt) lt l s
