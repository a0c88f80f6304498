-- Plans whose routes are filled: their numbers still have names, and the reasons against their legs are those against the legs as they were read.
use Rattle.scenario.proofs.{AllFit.plans_fault-append, Common.◌≡◌, Common.List, Common.ℕ, Common.map, Common.◌∙◌}
use Rattle.scenario.proofs.Common.{ap, length, refl, None, true, Option, arith, ◌<◌, Some, ◌≤◌, [], ◌∷◌, ◌&&◌, Bool, false, not, ◌+◌, drop, get_or, and_parts}
use Rattle.scenario.proofs.Common.{nat_tests, list_all, length-map, nat_le, flat_map, unwrap_or, PlanFileRows, Tables, IsSound, ends_of, PlanRows, Leg, is_leg}
use Rattle.scenario.proofs.Common.{in_file, NetworkRows, ScheduleRows, leg_checks_in, plans_cross_fault, plans_fault, plan_fault, LegChecks, all_plans_fault}
use Rattle.scenario.specs.FilesToScenario.{free_arrivals, with_search, filled_in, graph_between}
use Rattle.scenario.specs.Legs.{settled, leg_reason, legs_fault}
use Rattle.std.proofs.{Common.cond, Common.◌-◌, lemmas.Bool.and_from, lemmas.Bool.eq-eqb}
use Rattle.std.specs.{List.AllByRecursion as Each, Prelude.nat_eq, Prelude.nat_lt, Prelude.is_none}
use Rattle.edge_files.specs.declared.files.InFile.TheVariants as file
use Rattle.edge_files.specs.declared.reasons.Reason.{Reason}
use Rattle.edge_files.specs.declared.reasons.Reason.TheVariants as reason
use Rattle.records.specs.Faults.{least}
use Rattle.limits.specs.declared.TheConstants.{MAX_ROUTE_LINKS}
use Rattle.rows.specs.{Joined.is_joined, declared.plan.Act.Act}
use Rattle.rows.specs.declared.plan.Leg.TheVariants as leg
use Rattle.plans.{proofs.Shapes.IsPlan, specs.Values.is_act_named, specs.Values.is_leg_named, specs.Values.is_plan_named, specs.Values.are_plans}
use Rattle.travel_times.{proofs.Arriving.arrivals_are_fifo, specs.Times.free_times}
use Rattle.walks.specs.Walks.{AreWithin}
use Rattle.router.proofs.{Joining.allowed_joins, LegWays.ends_count, Walking.below_is, Walking.leg_count, Walking.leg_kept}
use Rattle.router.specs.Legs.{route_between, each_leg, are_on, Joins}
use Rattle.car_routes.specs.Plans.{routed_leg, routed_plan, all_routed, own_are_on, all_are_on}
use Rattle.town.specs.Fits.{has_wrong_ends}

is_at_most : (m n : ℕ) → m ≤ n → nat_le m n ≡ true
is_at_most m n h = grind (arith, nat_tests)

is_some_links : (n : ℕ) → 1 ≤ n → nat_eq n 0 ≡ false
is_some_links n h = grind (arith, nat_tests)

-- ACTIVITIES ARE ON LINKS
acts_on : (tables : Tables) (acts : List Act) → list_all (is_act_named tables) acts ≡ true → are_on (length tables.links) acts ≡ true
acts_on tables [] named = refl
acts_on tables (act ∷ acts) named = grind (arith, acts_on tables acts)

own_on : (tables : Tables) (ends : List (ℕ × ℕ)) (own : List PlanRows) → list_all (is_plan_named tables ends) own ≡ true
    → own_are_on (length tables.links) own ≡ true
unfolding is_plan_named
own_on tables ends [] named = refl
own_on tables ends (plan ∷ own) named = grind (arith, acts_on tables plan.acts, own_on tables ends own)

all_on : (tables : Tables) (ends : List (ℕ × ℕ)) (plans : List (List PlanRows)) → list_all (are_plans tables ends) plans ≡ true
    → all_are_on (length tables.links) plans ≡ true
unfolding are_plans
all_on tables ends [] named = refl
all_on tables ends (own ∷ plans) named = grind (arith, own_on tables ends own, all_on tables ends plans)

-- the activities of the plans of a file that was read are on links
pub file_on : (names : List (List ℕ)) (links : ℕ) (ends : List (ℕ × ℕ)) (P : PlanFileRows) → length names ≡ links → IsSound names ends P
    → all_are_on links P.plans ≡ true
file_on names links ends P each sound =
    rw (← each) (all_on (record { kinds = P.kinds; lines = P.lines; stops = P.stops; links = names }) ends P.plans sound.sound)

-- ONE LEG
-- what is told of a car leg: whether it has no link, whether its ends are wrong, and whether no route is found
abbrev told_of : Bool → Bool → Bool → Option Reason
told_of empty wrong lacks = least (
    (false, reason.Unknown) ∷ (not empty && wrong, reason.EndWrong) ∷ (false, reason.StopsWrong) ∷ (empty && lacks, reason.NoRoute) ∷ [])

-- a route that has a link and the right ends
record IsRight (here there : ℕ) (route : List ℕ) : Type 0 where
  some : nat_eq (length route) 0 ≡ false
  ends : has_wrong_ends here there route ≡ false

joins_right : (ends : List (ℕ × ℕ)) (here there : ℕ) (route : List ℕ) → Joins ends here there route → IsRight here there route
unfolding has_wrong_ends
joins_right ends here there route joins = record {
  some = is_some_links (length route) joins.some;
  ends = rw (eq-eqb (get_or route 0 0) here joins.first, eq-eqb (get_or route (length route - 1) 0) there joins.last) refl;
}

same_told : (here there : ℕ) (route : List ℕ) (empty : Bool) (o : Option (List ℕ)) → nat_eq (length route) 0 ≡ empty
    → ((found : List ℕ) → o ≡ Some found → IsRight here there found)
    → told_of (nat_eq (length (cond empty (unwrap_or o []) route)) 0) (has_wrong_ends here there (cond empty (unwrap_or o []) route)) true
    ≡ told_of (nat_eq (length route) 0) (has_wrong_ends here there route) (is_none o)
same_told here there route false o is right = rw is
same_told here there route true None is right = rw is
same_told here there route true (Some found) is right = let own = right found refl in rw (is, own.some, own.ends)

-- what holds of a route and of one that is found holds of the one that is taken
taken : (test : List ℕ → Bool) (route : List ℕ) (empty : Bool) (o : Option (List ℕ)) → test [] ≡ true → test route ≡ true
    → ((found : List ℕ) → o ≡ Some found → test found ≡ true)
    → test (cond empty (unwrap_or o []) route) ≡ true
taken test route false o none own gives = own
taken test route true None none own gives = none
taken test route true (Some found) none own gives = gives found refl

module _ (R : NetworkRows) (inside : AreWithin (length R.nodes) (ends_of R.links)) where
  -- by searches at free speed: the route that is found, and a leg, a plan and all plans with their routes filled; and the checks that look for no route
  abbrev found_between : Act → ℕ → Option (List ℕ)
  found_between = route_between (graph_between R) (free_arrivals R)

  abbrev routed : Act → ℕ → Leg → Leg
  routed = routed_leg (graph_between R) (free_arrivals R)

  abbrev filled_plan : PlanRows → PlanRows
  filled_plan = routed_plan (graph_between R) (free_arrivals R)

  abbrev filled_plans : List (List PlanRows) → List (List PlanRows)
  filled_plans = all_routed (graph_between R) (free_arrivals R)

  abbrev settled_checks : LegChecks → LegChecks
  settled_checks W = settled W.numbers W.stops W.routes

  -- the route at free speed leads from the one link to the other
  free_joins : (here : Act) (there : ℕ) (route : List ℕ) → here.link < length R.links → there < length R.links
      → found_between here there ≡ Some route → Joins (ends_of R.links) here.link there route
  free_joins here there route here_in there_in is =
      allowed_joins (graph_between R) (free_arrivals R) (arrivals_are_fifo (free_times R.links)) inside (unwrap_or here.end 0) here.link there
      (rw (ends_count R.links) here_in) (rw (ends_count R.links) there_in) route is

  -- the reasons against a leg with its route filled are those against the leg
  leg_same : (W : LegChecks) (here : Act) (there : ℕ) (l : Leg) → here.link < length R.links → there < length R.links
      → leg_reason (settled_checks W) here there (routed here there l) ≡ leg_reason (with_search R W) here there l
  unfolding leg_reason routed_leg
  leg_same W here there (leg.Car route) here_in there_in =
      same_told here.link there route (nat_eq (length route) 0) (found_between here there) refl
      (λ found is. joins_right (ends_of R.links) here.link there found (free_joins here there found here_in there_in is))
  leg_same W here there l here_in there_in = refl

  -- a leg with its route filled still has names
  leg_named : (tables : Tables) → length tables.links ≡ length R.links → (here : Act) (there : ℕ) (l : Leg)
      → here.link < length R.links → there < length R.links → is_leg_named tables (ends_of R.links) l ≡ true
      → is_leg_named tables (ends_of R.links) (routed here there l) ≡ true
  unfolding routed_leg is_joined
  leg_named tables each here there (leg.Car route) here_in there_in named =
      taken (λ route. is_leg_named tables (ends_of R.links) (leg.Car route)) route (nat_eq (length route) 0) (found_between here there) refl named
      (λ found is.
      let joins = free_joins here there found here_in there_in is in
      and_from (list_all (λ link. nat_lt link (length tables.links)) found) _ (rw (each, ← ends_count R.links) joins.within) joins.joined)
  leg_named tables each here there l here_in there_in named = named

  -- and is still a leg
  leg_short : (here : Act) (there : ℕ) (l : Leg) → here.link < length R.links → there < length R.links → is_leg l ≡ true
      → is_leg (routed here there l) ≡ true
  unfolding routed_leg
  leg_short here there (leg.Car route) here_in there_in short =
      taken (λ route. is_leg (leg.Car route)) route (nat_eq (length route) 0) (found_between here there) refl short
      (λ found is. is_at_most (length found) MAX_ROUTE_LINKS (free_joins here there found here_in there_in is).short)
  leg_short here there l here_in there_in short = short

  -- THE REASONS OF ALL LEGS
  legs_same : (W : LegChecks) (row : ℕ) (acts : List Act) (legs : List Leg) → are_on (length R.links) acts ≡ true → length acts ≡ length legs + 1
      → legs_fault (settled_checks W) row acts (each_leg routed acts legs) ≡ legs_fault (with_search R W) row acts legs
  unfolding legs_fault each_leg
  legs_same W row [] [] on more = refl
  legs_same W row [] (l ∷ legs) on more = absurd (omega arith)
  legs_same W row (a ∷ []) [] on more = refl
  legs_same W row (a ∷ b ∷ acts) [] on more = absurd (omega arith)
  legs_same W row (a ∷ []) (l ∷ legs) on more = absurd (omega arith)
  legs_same W row (a ∷ b ∷ acts) (l ∷ legs) on more =
      let here = and_parts (nat_lt a.link (length R.links)) _ on in
      let there = and_parts (nat_lt b.link (length R.links)) _ here.1 in
      let same = leg_same W a b.link l (below_is a.link (length R.links) here.0) (below_is b.link (length R.links) there.0) in
      rw (same, legs_same W (row + 2) (b ∷ acts) legs here.1 (omega arith))

  own_same : (W : LegChecks) (rows : List ℕ) (plans : List PlanRows) → own_are_on (length R.links) plans ≡ true → Each IsPlan plans
      → plans_fault (settled_checks W) rows (map filled_plan plans) ≡ plans_fault (with_search R W) rows plans
  unfolding plans_fault plan_fault
  own_same W rows [] on whole = refl
  own_same W rows (plan ∷ plans) on whole =
      let parts = and_parts (are_on (length R.links) plan.acts) _ on in
      rw (legs_same W (get_or rows 0 0 + 1) plan.acts plan.legs parts.0 whole.0.one_more, own_same W (drop 1 rows) plans parts.1 whole.1)

  all_same : (W : LegChecks) (rows : List ℕ) (plans : List (List PlanRows)) → all_are_on (length R.links) plans ≡ true → Each (Each IsPlan) plans
      → all_plans_fault (settled_checks W) rows (filled_plans plans) ≡ all_plans_fault (with_search R W) rows plans
  unfolding plans_fault
  all_same W rows [] on whole = refl
  all_same W rows (own ∷ plans) on whole =
      let parts = and_parts (own_are_on (length R.links) own) _ on in
      rw (plans_fault-append (settled_checks W) rows (map filled_plan own) (flat_map (λ own. own) (filled_plans plans)), own_same W rows own parts.0 whole.0)
      (rw (length-map own filled_plan, all_same W (drop (length own) rows) plans parts.1 whole.1, plans_fault-append (with_search R W) rows own) refl)

  -- the first leg that does not fit, of plans whose routes are filled, is the first that does not fit as it was read
  pub filled_crossing : (P : PlanFileRows) (S : ScheduleRows) → length R.link_names ≡ length R.links → IsSound R.link_names (ends_of R.links) P
      → Each (Each IsPlan) P.plans
      → plans_cross_fault (filled_in R P) S ≡ in_file file.Plans (all_plans_fault (with_search R (leg_checks_in P S)) P.starts P.plans)
  unfolding plans_cross_fault filled_in leg_checks_in
  filled_crossing P S each sound whole =
      ap (in_file file.Plans) (all_same (leg_checks_in P S) P.starts P.plans (file_on R.link_names (length R.links) (ends_of R.links) P each sound) whole)

  -- THE NUMBERS OF ALL PLANS
  plan_named : (tables : Tables) → length tables.links ≡ length R.links → (plan : PlanRows)
      → is_plan_named tables (ends_of R.links) plan ≡ true → is_plan_named tables (ends_of R.links) (filled_plan plan) ≡ true
  unfolding is_plan_named
  plan_named tables each plan named =
      let parts = and_parts (list_all (is_act_named tables) plan.acts) _ named in
      and_from (list_all (is_act_named tables) plan.acts) _ parts.0
      (leg_kept routed (is_leg_named tables (ends_of R.links)) (length R.links) (leg_named tables each) plan.acts plan.legs
      (rw (← each) (acts_on tables plan.acts parts.0)) parts.1)

  own_named : (tables : Tables) → length tables.links ≡ length R.links → (plans : List PlanRows)
      → list_all (is_plan_named tables (ends_of R.links)) plans ≡ true → list_all (is_plan_named tables (ends_of R.links)) (map filled_plan plans) ≡ true
  own_named tables each [] named = refl
  own_named tables each (plan ∷ plans) named = grind (arith, plan_named tables each plan, own_named tables each plans)

  person_named : (tables : Tables) → length tables.links ≡ length R.links → (own : List PlanRows) → are_plans tables (ends_of R.links) own ≡ true
      → are_plans tables (ends_of R.links) (map filled_plan own) ≡ true
  unfolding are_plans
  person_named tables each own named =
      let parts = and_parts (nat_le 1 (length own) && nat_le (length own) 5) _ named in
      rw (length-map own filled_plan) (and_from (nat_le 1 (length own) && nat_le (length own) 5) _ parts.0 (own_named tables each own parts.1))

  all_named : (tables : Tables) → length tables.links ≡ length R.links → (plans : List (List PlanRows))
      → list_all (are_plans tables (ends_of R.links)) plans ≡ true → list_all (are_plans tables (ends_of R.links)) (filled_plans plans) ≡ true
  all_named tables each [] named = refl
  all_named tables each (own ∷ plans) named = grind (arith, person_named tables each own, all_named tables each plans)

  -- a file stays sound when its routes are filled
  pub filled_sound : (P : PlanFileRows) → length R.link_names ≡ length R.links → IsSound R.link_names (ends_of R.links) P
      → IsSound R.link_names (ends_of R.links) (filled_in R P)
  unfolding filled_in
  filled_sound P each sound = record {
    each = length-map P.plans (map filled_plan) ∙ sound.each;
    few = sound.few;
    sound = all_named (record { kinds = P.kinds; lines = P.lines; stops = P.stops; links = R.link_names }) each P.plans sound.sound;
  }

  -- THE FORM OF ALL PLANS
  plan_kept : (plan : PlanRows) → are_on (length R.links) plan.acts ≡ true → IsPlan plan → IsPlan (filled_plan plan)
  plan_kept plan on whole =
      let count = leg_count routed plan.acts plan.legs in
      record {
        one_more = rw count whole.one_more;
        few = rw count whole.few;
        ends = whole.ends;
        legs = leg_kept routed is_leg (length R.links) leg_short plan.acts plan.legs on whole.legs;
      }

  own_kept : (own : List PlanRows) → own_are_on (length R.links) own ≡ true → Each IsPlan own → Each IsPlan (map filled_plan own)
  own_kept [] on whole = tt
  own_kept (plan ∷ own) on whole =
      let parts = and_parts (are_on (length R.links) plan.acts) _ on in (plan_kept plan parts.0 whole.0, own_kept own parts.1 whole.1)

  all_kept : (plans : List (List PlanRows)) → all_are_on (length R.links) plans ≡ true → Each (Each IsPlan) plans → Each (Each IsPlan) (filled_plans plans)
  all_kept [] on whole = tt
  all_kept (own ∷ plans) on whole =
      let parts = and_parts (own_are_on (length R.links) own) _ on in (own_kept own parts.0 whole.0, all_kept plans parts.1 whole.1)

  -- the plans of a file are still plans when their routes are filled
  pub filled_kept : (P : PlanFileRows) → length R.link_names ≡ length R.links → IsSound R.link_names (ends_of R.links) P → Each (Each IsPlan) P.plans
      → Each (Each IsPlan) (filled_in R P).plans
  unfolding filled_in
  filled_kept P each sound whole = all_kept P.plans (file_on R.link_names (length R.links) (ends_of R.links) P each sound) whole
