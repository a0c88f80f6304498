-- Who leaves has a leg, and a car has a route.
use Rattle.traffic.proofs.Common.{◌≡◌, ℕ, List, length, refl, [], ◌∷◌, arith, ◌<◌, true, ◌+◌, subst, suc, zero, get_or, ◌/◌, and_parts, nat_tests, length-map}
use Rattle.traffic.proofs.Common.{list_all, Some, not, nat_eq, act_in, leg_in, PlanRows, plan_rows, Act, Leg, Plan, sets_out, departs, leaving, Setup}
use Rattle.traffic.proofs.Common.{person_plan}
use Rattle.traffic.specs.declared.{moves.Move.Move, moves.Move.TheVariants.Report, world.Person.Person, world.Place.Place, world.Place.TheVariants.At}
use Rattle.rows.specs.declared.plan.Leg.TheVariants as leg
use Rattle.town.specs.Fits.{first_link, leg_fits, legs_fit, is_act_in, fits}
use Rattle.town.specs.{Rows.TownRows, Setups.setup_of, Views.rows_of, Views.chosen_in, Views.setup, declared.day_input.DayInput.DayInput}
use Rattle.person_moves.{proofs.Lists.passes_at, specs.Legs.nth_leg, specs.Legs.ends_in, specs.Legs.CanLeave}
use Rattle.rows.specs.Plan.{HasRoute}
use Rattle.std.proofs.lemmas.List.{get_or_default}

routed : (T : TownRows) (here there : ℕ) (l : Leg) → leg_fits T here there l ≡ true → HasRoute l
unfolding leg_fits
routed T here there (leg.Car route) h = let e = (and_parts (not (nat_eq (length route) 0)) _ (and_parts _ _ h).0).0 in grind (arith, nat_tests, e)
routed T here there (leg.Teleport mode seconds) h = tt
routed T here there (leg.Transit line access egress) h = tt

routed_at : (T : TownRows) (acts : List Act) (legs : List Leg) (k : ℕ) → k < length legs → legs_fit T acts legs ≡ true → HasRoute (nth_leg legs k)
unfolding legs_fit
routed_at T acts [] k b h = absurd (omega arith)
routed_at T [] (l ∷ ls) k b h = absurd (cc)
routed_at T (a ∷ as') (l ∷ ls) zero b h = routed T a.link (first_link as') l (and_parts (leg_fits T a.link (first_link as') l) (legs_fit T as' ls) h).0
routed_at T (a ∷ as') (l ∷ ls) (suc k) b h = routed_at T as' ls k (omega arith) (and_parts (leg_fits T a.link (first_link as') l) (legs_fit T as' ls) h).1

pub has_route : (T : TownRows) (plan : PlanRows) (k : ℕ) → k < length plan.legs → fits T plan ≡ true → HasRoute (nth_leg plan.legs k)
unfolding fits
has_route T plan k b h = routed_at T plan.acts plan.legs k b (and_parts (list_all (is_act_in T) plan.acts) (legs_fit T plan.acts plan.legs) h).1

leaves : (S : Setup) (t i : ℕ) (here : Act) (w : Leg) (next : Act) (place : Place) → ends_in t place ≡ true → leaving S t i here w next place ≡ Report (departs i here w) ∷ sets_out S i w next
leaves S t i here w next (At (Some end)) h = rw h refl
leaves S t i here w next place h = absurd (cc)

leg_after : (legs : List Leg) (element t : ℕ) (place : Place) → ends_in t place ≡ true → ((end : ℕ) → place ≡ At (Some end) → element / 2 < length legs) → element / 2 < length legs
leg_after legs element t (At (Some end)) h g = g end refl
leg_after legs element t place h g = absurd (cc)

pub has_leg : (plan : Plan) (P : Person) (t : ℕ) → ends_in t P.place ≡ true → CanLeave (plan_rows plan) P → P.element / 2 < length plan.legs
has_leg plan P t h g = leg_after plan.legs P.element t P.place h g

pub can_leave : (S : Setup) (i : ℕ) (plan : Plan) (P : Person) → person_plan S i ≡ plan_rows plan → CanLeave (person_plan S i) P → CanLeave (plan_rows plan) P
can_leave S i plan P e h = subst (λ (x : PlanRows). CanLeave x P) e h

pub fits_at : (day : DayInput) (i : ℕ) (plan : Plan) → i < length day.chosen.now → person_plan (setup day) i ≡ plan_rows plan →
    list_all (fits (rows_of day.town.now)) (chosen_in day) ≡ true → fits (rows_of day.town.now) (plan_rows plan) ≡ true
unfolding setup_of
fits_at day i plan b e h =
    let T = rows_of day.town.now in
    let none : PlanRows = record { acts = []; legs = [] } in
    let l : i < length (chosen_in day) = rw (length-map day.chosen.now plan_rows) b in
    let own = get_or (chosen_in day) i none in
    subst (λ (x : PlanRows). fits T x ≡ true) e (passes_at (fits T) (chosen_in day) i own h l (get_or_default (chosen_in day) i none own l))

pub left_is : (S : Setup) (t i : ℕ) (plan : Plan) (P : Person) (here next : Act) (moves : List Move) → here ≡ act_in (plan_rows plan) P.element → next ≡ act_in (plan_rows plan) (P.element + 2) → ends_in t P.place ≡ true →
    moves ≡ Report (departs i here (nth_leg plan.legs (P.element / 2))) ∷ sets_out S i (nth_leg plan.legs (P.element / 2)) next →
    moves ≡ leaving S t i (act_in (plan_rows plan) P.element) (leg_in (plan_rows plan) P.element) (act_in (plan_rows plan) (P.element + 2)) P.place
left_is S t i plan P here next moves h n e m =
    rw (m, h, n, leaves S t i (act_in (plan_rows plan) P.element) (nth_leg plan.legs (P.element / 2)) (act_in (plan_rows plan) (P.element + 2)) P.place e)
