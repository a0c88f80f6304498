-- Plans with new routes are plans of the town where they were.
use Rattle.std.proofs.Common.{◌≡◌, ℕ, suc, ◌-◌, ◌<◌, Bool, true, false, cond, List, [], ◌∷◌, length, get_or, Option, None, Some, refl, ap, subst, arith}
use Rattle.std.proofs.lemmas.Bool.{and_from, and_parts, eq-eqb, ne_eqb, Decides.nat_tests}
use Rattle.std.specs.{List.list_all, Prelude.nat_eq, Prelude.nat_lt, Prelude.nat_le, Prelude.unwrap_or, Prelude.IfSome}
use Rattle.limits.specs.declared.TheConstants.{MAX_ROUTE_LINKS}
use Rattle.rows.specs.{Joined.ends_of, Plan.is_leg, PlanRows.PlanRows, declared.plan.Act.Act, declared.plan.Leg.Leg}
use Rattle.rows.specs.declared.plan.Leg.TheVariants as leg
use Rattle.town.specs.{Fits.is_act_in, Fits.is_car_leg, Fits.has_wrong_ends, Fits.leg_fits, Fits.legs_fit, Fits.fits, Rows.TownRows}
use Rattle.walks.specs.{Arrivals.Arrivals, Arrivals.IsFifo, Walks.AreWithin}
use Rattle.router.proofs.{Joining.leg_joins, LegWays.ends_count}
use Rattle.router.specs.{Legs.route_between, Legs.each_leg, Legs.Joins, Routes.leg_route, Routes.allowed}
use Rattle.replanning.specs.Legs.{rerouted_leg, rerouted_plan}
use Rattle.law_in_range.specs.Setups.{IsPlanIn}
use Rattle.law_replanning.specs.Towns.{graph_in}

below_is : (n m : ℕ) → nat_lt n m ≡ true → n < m
below_is n m e = grind (arith, nat_tests)

-- LEGS BY A RULE
pub each_count : (rule : Act → ℕ → Leg → Leg) (acts : List Act) (legs : List Leg) → length (each_leg rule acts legs) ≡ length legs
unfolding each_leg
each_count rule acts [] = refl
each_count rule [] (one ∷ legs) = refl
each_count rule (here ∷ []) (one ∷ legs) = refl
each_count rule (here ∷ there ∷ acts) (one ∷ legs) = ap suc (each_count rule (there ∷ acts) legs)

-- a rule that gives sound legs of sound legs
each_sound : (rule : Act → ℕ → Leg → Leg) → ((here : Act) (there : ℕ) (one : Leg) → is_leg one ≡ true → is_leg (rule here there one) ≡ true)
    → (acts : List Act) (legs : List Leg) → list_all is_leg legs ≡ true → list_all is_leg (each_leg rule acts legs) ≡ true
unfolding each_leg
each_sound rule sound acts [] all = all
each_sound rule sound [] (one ∷ legs) all = all
each_sound rule sound (here ∷ []) (one ∷ legs) all = all
each_sound rule sound (here ∷ there ∷ acts) (one ∷ legs) all =
    let parts = and_parts (is_leg one) (list_all is_leg legs) all in
    and_from (is_leg (rule here there.link one)) (list_all is_leg (each_leg rule (there ∷ acts) legs)) (sound here there.link one parts.0)
    (each_sound rule sound (there ∷ acts) legs parts.1)

-- a rule that gives legs that fit of legs that fit
each_fits : (T : TownRows) (rule : Act → ℕ → Leg → Leg)
    → ((here : Act) (there : ℕ) (one : Leg) → here.link < length T.links → there < length T.links → leg_fits T here.link there one ≡ true
    → leg_fits T here.link there (rule here there one) ≡ true)
    → (acts : List Act) (legs : List Leg) → list_all (is_act_in T) acts ≡ true → legs_fit T acts legs ≡ true
    → legs_fit T acts (each_leg rule acts legs) ≡ true
unfolding legs_fit each_leg
each_fits T rule again acts [] known fit = fit
each_fits T rule again [] (one ∷ legs) known fit = fit
each_fits T rule again (here ∷ []) (one ∷ legs) known fit = fit
each_fits T rule again (here ∷ there ∷ acts) (one ∷ legs) known fit =
    let first = and_parts (is_act_in T here) (list_all (is_act_in T) (there ∷ acts)) known in
    let next = and_parts (is_act_in T there) (list_all (is_act_in T) acts) first.1 in
    let here_in = below_is here.link (length T.links)
    ((and_parts (nat_lt here.kind (length T.book.kinds)) (nat_lt here.link (length T.links)) first.0).1) in
    let there_in = below_is there.link (length T.links)
    ((and_parts (nat_lt there.kind (length T.book.kinds)) (nat_lt there.link (length T.links)) next.0).1) in
    let both = and_parts (leg_fits T here.link there.link one) (legs_fit T (there ∷ acts) legs) fit in
    and_from (leg_fits T here.link there.link (rule here there.link one)) (legs_fit T (there ∷ acts) (each_leg rule (there ∷ acts) legs))
    (again here there.link one here_in there_in both.0) (each_fits T rule again (there ∷ acts) legs first.1 both.1)

-- ROUTES
short_by : (b : Bool) (route own : List ℕ) → nat_le (length route) MAX_ROUTE_LINKS ≡ b → nat_le (length own) MAX_ROUTE_LINKS ≡ true
    → nat_le (length (unwrap_or (cond b (Some route) None) own)) MAX_ROUTE_LINKS ≡ true
short_by true route own is e = is
short_by false route own is e = e

-- a route that is allowed is short enough, as the own one is
short_enough : (o : Option (List ℕ)) (own : List ℕ) → nat_le (length own) MAX_ROUTE_LINKS ≡ true
    → nat_le (length (unwrap_or (allowed o) own)) MAX_ROUTE_LINKS ≡ true
short_enough None own e = e
short_enough (Some route) own e = short_by (nat_le (length route) MAX_ROUTE_LINKS) route own refl e

module _ (T : TownRows) (arrive : Arrivals) where
  sound_again : (here : Act) (there : ℕ) (one : Leg) → is_leg one ≡ true → is_leg (rerouted_leg (graph_in T) arrive here there one) ≡ true
  unfolding rerouted_leg
  sound_again here there (leg.Car own) e = short_enough (leg_route (graph_in T) arrive (unwrap_or here.end 0) here.link there) own e
  sound_again here there (leg.Teleport mode seconds) e = e
  sound_again here there (leg.Transit line access egress) e = e

  module _ (fifo : IsFifo arrive) (inside : AreWithin (length T.nodes) (ends_of T.links)) where
    -- a route that leads from the one link to the other fits
    joins_fits : (here there : ℕ) (route : List ℕ) → Joins (ends_of T.links) here there route → leg_fits T here there (leg.Car route) ≡ true
    unfolding leg_fits is_car_leg has_wrong_ends
    joins_fits here there route joins =
        let some = joins.some in
        let has_links : nat_eq (length route) 0 ≡ false = ne_eqb (length route) 0 (λ none. omega arith) in
        let within : list_all (λ l. nat_lt l (length T.links)) route ≡ true =
        subst (λ (n : ℕ). list_all (λ l. nat_lt l n) route ≡ true) (ends_count T.links) joins.within in
        let first : nat_eq (get_or route 0 0) here ≡ true = eq-eqb (get_or route 0 0) here joins.first in
        let last : nat_eq (get_or route (length route - 1) 0) there ≡ true = eq-eqb (get_or route (length route - 1) 0) there joins.last in
        rw (has_links, within, joins.joined, first, last) refl

    taken : (here there : ℕ) (own : List ℕ) (o : Option (List ℕ)) → IfSome o (Joins (ends_of T.links) here there)
        → leg_fits T here there (leg.Car own) ≡ true → leg_fits T here there (leg.Car (unwrap_or o own)) ≡ true
    taken here there own None joins fit = fit
    taken here there own (Some route) joins fit = joins_fits here there route joins

    fits_again : (here : Act) (there : ℕ) (one : Leg) → here.link < length T.links → there < length T.links
        → leg_fits T here.link there one ≡ true → leg_fits T here.link there (rerouted_leg (graph_in T) arrive here there one) ≡ true
    unfolding rerouted_leg
    fits_again here there (leg.Car own) here_in there_in fit =
        let count = ends_count T.links in
        let here_there : here.link < length (ends_of T.links) = omega arith in
        let there_there : there < length (ends_of T.links) = omega arith in
        taken here.link there own (route_between (graph_in T) arrive here there)
        (leg_joins (graph_in T) arrive fifo inside (unwrap_or here.end 0) here.link there here_there there_there) fit
    fits_again here there (leg.Teleport mode seconds) here_in there_in fit = fit
    fits_again here there (leg.Transit line access egress) here_in there_in fit = fit

    pub rerouted_fits : (plan : PlanRows) → fits T plan ≡ true → fits T (rerouted_plan (graph_in T) arrive plan) ≡ true
    unfolding fits
    rerouted_fits plan fit =
        let parts = and_parts (list_all (is_act_in T) plan.acts) (legs_fit T plan.acts plan.legs) fit in
        and_from (list_all (is_act_in T) plan.acts) (legs_fit T plan.acts (each_leg (rerouted_leg (graph_in T) arrive) plan.acts plan.legs))
        parts.0 (each_fits T (rerouted_leg (graph_in T) arrive) fits_again plan.acts plan.legs parts.0 parts.1)

    pub rerouted_in : (plan : PlanRows) → IsPlanIn T plan → IsPlanIn T (rerouted_plan (graph_in T) arrive plan)
    rerouted_in plan own =
        let count = each_count (rerouted_leg (graph_in T) arrive) plan.acts plan.legs in
        let more = own.one_more in
        let few = own.few in
        record {
          one_more = omega arith;
          few = omega arith;
          ends = own.ends;
          legs = each_sound (rerouted_leg (graph_in T) arrive) sound_again plan.acts plan.legs own.legs;
          fit = rerouted_fits plan own.fit;
        }
