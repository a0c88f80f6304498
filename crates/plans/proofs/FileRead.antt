-- The first row and the end of the file.
use Rattle.records.proofs.Common.{◌≡◌, List, ℕ, length, ◌∙◌, arith, [], ◌<◌, sym, None, Some, ◌++◌, ◌∷◌, refl, true, Bool, Option, ◌+◌, false, cond}
use Rattle.records.proofs.Common.{get_or, suc, take, zero, length-append, nat_tests, take_more, take_all, is_some, Reason, firsts, field, Row}
use Rattle.records.proofs.Faulty.{none_of_none, one_more, fault_here}
use Rattle.std.{proofs.lemmas.List.drop_all, proofs.lemmas.List.Elements.All-append, proofs.lemmas.List.Elements.All-from_recursion, specs.List.All}
use Rattle.plans.specs.declared.kinds.ElementKind.TheVariants as element
use Rattle.plans.proofs.{ActCases.act_same, ActCases.act_named, ActCases.act_names, ActCases.act_behind, ActSteps.among_act, ActSteps.plans_closed}
use Rattle.plans.proofs.{Naming.named_none, Naming.held_there, Passing.passed, Passing.read_on, RunsMore.runs_one, Soundness.all_push, Soundness.own_plans}
use Rattle.plans.{proofs.Soundness.few_own, specs.Kinds.kind_of, specs.Kinds.is_act, specs.Kinds.plan_number}
use Rattle.plans.specs.Progress.{Progress, step_first, finish, closed_of, Named, IsReadTo, IsSound}
use Rattle.plans.specs.Refusals.{same_person, same_plan, ends_plan, row_reason}
use Rattle.plans.specs.Values.{tables_of, named_by, plan_lists, row_before, row_behind, legs_to, starts_to, reason_at, values_of, rows_fault, are_plans}

-- the reason at the first place
pub first_reason : (links : List (List ℕ)) (ends : List (ℕ × ℕ)) (rows : List Row) → reason_at links ends rows 0 ≡ row_reason links ends [] 0 None (get_or rows 0 []) (row_behind rows 0)
unfolding reason_at row_before legs_to
first_reason links ends rows = rw named_none

-- the reason at a place that is read up to
pub reason_is : (links : List (List ℕ)) (ends : List (ℕ × ℕ)) (rows : List Row) (n : ℕ) (p : Progress) → IsReadTo links ends rows n p
    → reason_at links ends rows n ≡ row_reason links ends p.persons (length p.legs) (row_before rows n) (get_or rows n []) (row_behind rows n)
unfolding reason_at
reason_is links ends rows n p r = rw (r.names.persons_are, r.names.legs_count)

-- a row with a reason is the first fault
pub row_fault : (links : List (List ℕ)) (ends : List (ℕ × ℕ)) (rows : List Row) (n : ℕ) (p : Progress) (why : Reason) → IsReadTo links ends rows n p → n < length rows
    → row_reason links ends p.persons (length p.legs) (row_before rows n) (get_or rows n []) (row_behind rows n) ≡ Some why → rows_fault None links ends rows ≡ Some (record { row = n + 1; reason = why })
unfolding rows_fault
row_fault links ends rows n p why r less h = fault_here (reason_at links ends rows) n (length rows) why less r.none (reason_is links ends rows n p r ∙ h)

pub first_row_fault : (links : List (List ℕ)) (ends : List (ℕ × ℕ)) (rows : List Row) (why : Reason) → 0 < length rows → row_reason links ends [] 0 None (get_or rows 0 []) (row_behind rows 0) ≡ Some why
    → rows_fault None links ends rows ≡ Some (record { row = 1; reason = why })
unfolding rows_fault
first_row_fault links ends rows why less h = fault_here (reason_at links ends rows) 0 (length rows) why less (none_of_none (reason_at links ends rows)) (first_reason links ends rows ∙ h)

-- the first row is an activity of plan 0
pub first_is : (links : List (List ℕ)) (ends : List (ℕ × ℕ)) (row : Row) (next : Option Row) → row_reason links ends [] 0 None row next ≡ None
    → (kind_of row ≡ element.Act) × (plan_number row ≡ 0)
first_is links ends row next h = let ordered = (passed links ends [] 0 None row next h).ordered in (grind arith, grind (arith, nat_tests))

-- before it nothing is read
abbrev nothing : Progress
nothing = record { persons = []; kinds = []; lines = []; stops = []; plans = []; own = []; starts = []; acts = []; legs = []; last = None }

none_named : (rows : List Row) → Named rows 0 nothing
unfolding named_by firsts starts_to legs_to
none_named rows = record { persons_are = refl; kinds_are = refl; lines_are = refl; stops_are = refl; starts_are = refl; legs_count = refl }

-- the first row is read
pub first_read : (links : List (List ℕ)) (ends : List (ℕ × ℕ)) (rows : List Row) → 0 < length rows
    → row_reason links ends [] 0 None (get_or rows 0 []) (row_behind rows 0) ≡ None
    → IsReadTo links ends rows 1 (step_first links (get_or rows 0 []))
unfolding step_first row_before
first_read links ends rows less h =
    let y = get_or rows 0 [] in
    let tables = tables_of links rows in
    let first = first_is links ends y (row_behind rows 0) h in
    let named = act_named links rows 0 nothing less (none_named rows) first.0 (passed links ends [] 0 None y (row_behind rows 0) h).linked in
    let among = among_act tables [] y first.0 in
    read_on links ends rows 0 _ (one_more (reason_at links ends rows) 0 (none_of_none (reason_at links ends rows)) (first_reason links ends rows ∙ h))
    (act_names links rows 0 nothing less (none_named rows) first.0 true refl _ refl refl refl refl refl refl)
    (act_behind links rows 0 nothing less (none_named rows) first.0 _ (held_there [] (field y 0)) first.1 refl)
    (record {
      earlier = [];
      others = [];
      front = [];
      begun = [];
      split = rw (take_more rows 0 [] less) (runs_one same_person y);
      split_own = runs_one same_plan y;
      plans_are = refl;
      own_are = refl;
      acts_are = rw (among.0, act_same links rows 0 nothing less (none_named rows) first.0);
      legs_are = sym among.1;
    })
    (record { in_plans = refl; in_own = refl; in_acts = rw named refl; in_legs = refl; each = refl; few = omega arith })

-- at the end the last plan ends with an activity
pub last_there : (links : List (List ℕ)) (ends : List (ℕ × ℕ)) (rows : List Row) (p : Progress) → IsReadTo links ends rows (length rows) p → is_some p.last ≡ true
unfolding ends_plan
last_there links ends rows p r = by (is_act (kind_of r.latest)) refl
  where
    by : (b : Bool) → is_act (kind_of r.latest) ≡ b → is_some p.last ≡ true
    by true act = rw (r.behind.last_is, act) refl
    by false leg = let goes_on = rw (drop_all (length rows) rows (omega arith)) at (r.behind.goes_on leg) in cc

-- at the end all is as the rows say
pub finish_is : (links : List (List ℕ)) (ends : List (ℕ × ℕ)) (rows : List Row) (p : Progress) → IsReadTo links ends rows (length rows) p → finish p ≡ values_of links rows
unfolding finish values_of plan_lists
finish_is links ends rows p r =
    let whole = take_all (length rows) rows (omega arith) in
    let names = r.names in
    let closed = plans_closed (tables_of links rows) (take (length rows) rows) r.latest p r.groups (last_there links ends rows p r) in
    let plans = rw (← r.groups.split, whole) at closed in cc

-- and every number has a name
pub finish_sound : (links : List (List ℕ)) (ends : List (ℕ × ℕ)) (rows : List Row) (p : Progress) → IsReadTo links ends rows (length rows) p → IsSound links ends (finish p)
unfolding finish tables_of
finish_sound links ends rows p r =
    let whole = take_all (length rows) rows (omega arith) in
    let names = r.names in
    let same : tables_of links rows ≡ record { kinds = p.kinds; lines = p.lines; stops = p.stops; links = links } = cc in
    let own = own_plans (tables_of links rows) ends p r.sound (few_own r.latest p r.behind.numbered) in
    record {
      each = length-append p.plans ((p.own ++ closed_of p ∷ []) ∷ []) ∙ r.sound.each;
      few = r.sound.few;
      sound = rw (← same) (all_push (are_plans (tables_of links rows) ends) p.plans (p.own ++ closed_of p ∷ []) r.sound.in_plans own);
    }

begun_within : (b : Bool) (place limit : ℕ) → suc place < limit → All (λ (row : ℕ). row < limit) (cond b (suc place ∷ []) [])
begun_within true place limit less = All-from_recursion (λ (row : ℕ). row < limit) (suc place ∷ []) (less, tt)
begun_within false place limit less = All-from_recursion (λ (row : ℕ). row < limit) [] tt

-- plans begin in rows that are there
starts_within : (rows : List Row) (n limit : ℕ) → n < limit → All (λ (row : ℕ). row < limit) (starts_to rows n)
unfolding starts_to
starts_within rows zero limit less = All-from_recursion (λ (row : ℕ). row < limit) [] tt
starts_within rows (suc place) limit less =
    All-append (λ (row : ℕ). row < limit) (starts_to rows place) _ (starts_within rows place limit (omega arith)) (begun_within _ place limit less)

pub starts_early : (links : List (List ℕ)) (ends : List (ℕ × ℕ)) (rows : List Row) (p : Progress) (limit : ℕ) → IsReadTo links ends rows (length rows) p → length rows < limit → All (λ (row : ℕ). row < limit) (finish p).starts
unfolding finish
starts_early links ends rows p limit r less = rw r.names.starts_are (starts_within rows (length rows) limit less)
