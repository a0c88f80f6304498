-- A plan against whose legs nothing speaks fits the town, with the town's numbers.
use Rattle.scenario.proofs.Common.{◌≡◌, List, ℕ, map, sym, length, refl, subst, None, true, Option, arith, ◌<◌, Some, [], ◌∷◌, ◌&&◌, Bool, false, not}
use Rattle.scenario.proofs.Common.{◌+◌, and_parts, nat_tests, list_all, unwrap_or, Tables, ends_of, PlanRows, Leg, AreThere, plan_in_town}
use Rattle.scenario.proofs.Common.{LegChecks, leg_in_town, plan_fault, fits, TownRows}
use Rattle.scenario.specs.Legs.{number_at, in_town, leg_reason, legs_fault}
use Rattle.std.{proofs.Common.◌||◌, specs.Prelude.nat_eq, specs.Prelude.nat_lt, specs.Prelude.is_none, specs.Prelude.if◌then◌else◌}
use Rattle.edge_files.specs.declared.reasons.Reason.{Reason}
use Rattle.records.proofs.{Sound.both_true, Unrefused.or_none, Unrefused.no_reason}
use Rattle.rows.specs.{Plan.is_known, declared.plan.Act.Act}
use Rattle.rows.specs.declared.plan.Leg.TheVariants as leg
use Rattle.plans.specs.Values.{is_act_named, is_leg_named, is_plan_named}
use Rattle.town.specs.Fits.{has_wrong_ends, has_wrong_stops, is_act_in, is_car_leg, leg_fits, first_link, legs_fit}

-- what legs are held against is the town's, and so are the names in the plans
pub record Meets (T : TownRows) (W : LegChecks) (tables : Tables) (ends : List (ℕ × ℕ)) : Type 0 where
  pub there : AreThere (length T.book.lines) W
  pub same_stops : T.stops ≡ W.stops
  pub same_routes : T.routes ≡ W.routes
  pub same_links : length T.links ≡ length tables.links
  pub same_kinds : length T.book.kinds ≡ length tables.kinds
  pub same_ends : ends_of T.links ≡ ends
  pub settled : (here : Act) (there : ℕ) → W.searched here there ≡ None

not_false : (a : Bool) → a ≡ false → not a ≡ true
not_false a h = grind arith

less : (n m : ℕ) → n < m → nat_lt n m ≡ true
less n m h = grind (arith, nat_tests)

drive_none : (empty wrong : Bool) (searched : Option (List ℕ)) (x y : Reason) → searched ≡ None
    → (if not empty && wrong then Some x else (if empty && is_none searched then Some y else None)) ≡ None → (empty ≡ false) × (wrong ≡ false)
drive_none empty wrong searched x y none h = (grind arith, grind arith)

ride_none : (l a e : Option ℕ) (wrong : Bool) (x y : Reason) → (if is_none l || is_none a || is_none e then Some x else (if wrong then Some y else None)) ≡ None
    → (l ≡ Some (unwrap_or l 0)) × ((a ≡ Some (unwrap_or a 0)) × ((e ≡ Some (unwrap_or e 0)) × (wrong ≡ false)))
ride_none l a e wrong x y h = (grind arith, (grind arith, (grind arith, grind arith)))

module _ (T : TownRows) (W : LegChecks) (tables : Tables) (ends : List (ℕ × ℕ)) (m : Meets T W tables ends) where
  leg_meets : (here : Act) (there : ℕ) (l : Leg) → is_leg_named tables ends l ≡ true → leg_reason W here there l ≡ None
      → leg_fits T here.link there (leg_in_town W.numbers l) ≡ true
  unfolding leg_fits is_car_leg leg_reason
  leg_meets here there (leg.Car route) named none =
      let free = drive_none (nat_eq (length route) 0) (has_wrong_ends here.link there route) (W.searched here there) _ _ (m.settled here there) none in
      rw (m.same_links, m.same_ends) (both_true _ _ (both_true _ _ (not_false _ free.0) named) (not_false _ free.1))
  leg_meets here there (leg.Teleport mode seconds) named none = refl
  leg_meets here there (leg.Transit line access egress) named none =
      let N = W.numbers in
      let wrong = has_wrong_stops W.stops W.routes here.link there (in_town N.lines line) (in_town N.stops access) (in_town N.stops egress) in
      let free = ride_none (number_at N.lines line) (number_at N.stops access) (number_at N.stops egress) wrong _ _ none in
      let boards = both_true _ _ (less _ _ (m.there.lines line _ free.0)) (less _ _ (m.there.stops access _ free.1.0)) in
      let rides = both_true _ _ boards (less _ _ (m.there.stops egress _ free.1.1.0)) in
      rw (m.same_stops, m.same_routes) (both_true _ _ rides (not_false _ free.1.1.1))

  legs_meet : (row : ℕ) (acts : List Act) (legs : List Leg) → list_all (is_leg_named tables ends) legs ≡ true → legs_fault W row acts legs ≡ None
      → length acts ≡ length legs + 1
      → legs_fit T acts (map (leg_in_town W.numbers) legs) ≡ true
  unfolding legs_fit legs_fault
  legs_meet row acts [] named none more = refl
  legs_meet row [] (leg ∷ legs) named none more = absurd (omega arith)
  legs_meet row (here ∷ acts) (leg ∷ legs) named none more =
      let parts = and_parts (is_leg_named tables ends leg) _ named in
      let free = or_none _ _ none in
      both_true _ _ (leg_meets here (first_link acts) leg parts.0 (no_reason row _ free.0)) (legs_meet (row + 2) acts legs parts.1 free.1 (omega arith))

  acts_meet : (acts : List Act) → list_all (is_act_named tables) acts ≡ true → list_all (is_act_in T) acts ≡ true
  acts_meet acts named =
      let one = subst (λ (n : ℕ). list_all (is_known (length tables.kinds) n) acts ≡ true) (sym m.same_links) named in
      subst (λ (n : ℕ). list_all (is_known n (length T.links)) acts ≡ true) (sym m.same_kinds) one

  -- a plan whose names are there, and against whose legs nothing speaks, fits
  pub plan_meets : (row : ℕ) (plan : PlanRows) → is_plan_named tables ends plan ≡ true → plan_fault W row plan ≡ None → length plan.acts ≡ length plan.legs + 1
      → fits T (plan_in_town W.numbers plan) ≡ true
  unfolding fits is_plan_named plan_fault
  plan_meets row plan named none more =
      let parts = and_parts (list_all (is_act_named tables) plan.acts) _ named in
      both_true _ _ (acts_meet plan.acts parts.0) (legs_meet (row + 1) plan.acts plan.legs parts.1 none more)
