-- Every number stays one that has a name, and no limit is passed, as an activity is read.
use Rattle.records.proofs.Common.{◌≡◌, List, ℕ, length, arith, [], None, Some, ◌++◌, ◌∷◌, refl, true, Bool, Option, ◌+◌, false, cond, ◌&&◌}
use Rattle.records.proofs.Common.{◌≤◌, length-append, nat_tests, list_all-append, list_all, nat_le, option_to_list, number_of}
use Rattle.records.proofs.Common.{field, Row, with_name, unwrap_or, are_digits, value_of, number_in}
use Rattle.std.{proofs.lemmas.Bool.and_parts, specs.Cmp.Derive.both_true}
use Rattle.events.proofs.NameLists.{no_number-absent}
use Rattle.rows.specs.declared.plan.Act.{Act}
use Rattle.plans.specs.{Kinds.plan_number, Progress.Progress, Progress.closed_acts, Progress.closed_of, Progress.with_kind, Progress.new_person}
use Rattle.plans.specs.{Progress.new_plan, Progress.same_plan_act, Progress.Sound, Refusals.begins_person, Refusals.comes_again, Refusals.is_one_too_many}
use Rattle.plans.specs.{Values.Tables, Values.endless, Values.is_act_named, Values.is_plan_named, Values.are_plans, declared.kinds.ElementKind.ElementKind}

-- one more item that passes a test
pub all_push : {X : Type 0} (test : X → Bool) (xs : List X) (x : X) → list_all test xs ≡ true → test x ≡ true → list_all test (xs ++ x ∷ []) ≡ true
all_push test xs x h one = rw (list_all-append test xs (x ∷ []), h, one)

all_front : {X : Type 0} (test : X → Bool) (xs ys : List X) → list_all test (xs ++ ys) ≡ true → (list_all test xs ≡ true) × (list_all test ys ≡ true)
all_front test xs ys h = and_parts _ _ (rw (list_all-append test xs ys) at h)

-- the activity goes on with the opened plan
pub sound_in_plan : (tables : Tables) (ends : List (ℕ × ℕ)) (p : Progress) (row : Row) (act : Act) → Sound tables ends p → p.last ≡ None → is_act_named tables act ≡ true → Sound tables ends (same_plan_act (with_kind p row) act)
sound_in_plan tables ends p row act s opened named = record {
  in_plans = s.in_plans;
  in_own = s.in_own;
  in_acts = all_push (is_act_named tables) p.acts act (all_front (is_act_named tables) p.acts (option_to_list p.last) s.in_acts).0 named;
  in_legs = s.in_legs;
  each = s.each;
  few = s.few;
}

closed_named : (tables : Tables) (acts : List Act) (last : Option Act) → list_all (is_act_named tables) (acts ++ option_to_list last) ≡ true → list_all (is_act_named tables) (closed_acts acts last) ≡ true
closed_named tables acts None h = (all_front (is_act_named tables) acts [] h).0
closed_named tables acts (Some last) h =
    let parts = all_front (is_act_named tables) acts (last ∷ []) h in
    all_push (is_act_named tables) acts (endless last) parts.0 (and_parts (is_act_named tables last) true parts.1).0

-- the opened plan, closed, names nothing that has no name
closed_sound : (tables : Tables) (ends : List (ℕ × ℕ)) (p : Progress) → Sound tables ends p → is_plan_named tables ends (closed_of p) ≡ true
unfolding is_plan_named
closed_sound tables ends p s = both_true (closed_named tables p.acts p.last s.in_acts) s.in_legs

-- it begins a further plan
pub sound_new_plan : (tables : Tables) (ends : List (ℕ × ℕ)) (p : Progress) (row : Row) (number : ℕ) (act : Act) → Sound tables ends p → is_act_named tables act ≡ true → Sound tables ends (new_plan (with_kind p row) number act)
sound_new_plan tables ends p row number act s named = record {
  in_plans = s.in_plans;
  in_own = all_push (is_plan_named tables ends) p.own (closed_of p) s.in_own (closed_sound tables ends p s);
  in_acts = rw named refl;
  in_legs = refl;
  each = s.each;
  few = s.few;
}

-- a person has one plan to five
pub own_plans : (tables : Tables) (ends : List (ℕ × ℕ)) (p : Progress) → Sound tables ends p → length p.own ≤ 4 → are_plans tables ends (p.own ++ closed_of p ∷ []) ≡ true
unfolding are_plans
own_plans tables ends p s few =
    let all = all_push (is_plan_named tables ends) p.own (closed_of p) s.in_own (closed_sound tables ends p s) in
    let count = length-append p.own (closed_of p ∷ []) in
    grind (arith, nat_tests)

small : (b : Bool) (v : ℕ) → unwrap_or (cond (b && nat_le v 4) (Some v) None) 0 ≤ 4
small b v = grind (arith, nat_tests)

-- a plan's number is at most 4, and so is the count of the plans that are closed
pub few_own : (row : Row) (p : Progress) → plan_number row ≡ length p.own → length p.own ≤ 4
unfolding plan_number number_in
few_own row p numbered = rw (← numbered) (small (are_digits (field row 1) && nat_le 0 (value_of (field row 1))) (value_of (field row 1)))

-- it begins a person
pub sound_new_person : (tables : Tables) (ends : List (ℕ × ℕ)) (p : Progress) (before : Option Row) (kind : ElementKind) (row : Row) (legs : ℕ) (number : ℕ) (act : Act) → Sound tables ends p → is_act_named tables act ≡ true
    → length p.own ≤ 4 → begins_person before row ≡ true → comes_again p.persons before row ≡ false → is_one_too_many p.persons legs before kind row ≡ false
    → Sound tables ends (new_person (with_kind p row) row number act)
sound_new_person tables ends p before kind row legs number act s named few begins again room =
    let fresh : number_of (field row 0) p.persons ≡ None = grind arith in
    let absent = no_number-absent p.persons (field row 0) fresh in
    let count : length (with_name p.persons (field row 0)) ≡ length p.persons + 1 = rw absent (length-append p.persons (field row 0 ∷ [])) in
    let plans_count = length-append p.plans ((p.own ++ closed_of p ∷ []) ∷ []) in
    let each = s.each in
    record {
      in_plans = all_push (are_plans tables ends) p.plans (p.own ++ closed_of p ∷ []) s.in_plans (own_plans tables ends p s few);
      in_own = refl;
      in_acts = rw named refl;
      in_legs = refl;
      each = omega (arith, count, plans_count, each);
      few = grind (arith, nat_tests);
    }
