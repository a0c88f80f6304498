-- The rows of plans.csv read one after the other, and what is known of those that are read.
use Rattle.std.specs.{List.list_all, Prelude.◌≡◌, Prelude.◌≤◌, Prelude.◌<◌, Prelude.ℕ}
use Rattle.std.specs.Prelude.{◌+◌, Bool, true, false, if◌then◌else◌, List, [], ◌∷◌, ◌++◌, length, map, drop, take, Option, None, Some, is_some, option_to_list}
use Rattle.limits.specs.declared.TheConstants.{MAX_LEGS, MAX_PERSONS, MAX_ROUTE_LINKS}
use Rattle.plans.specs.declared.kinds.ElementKind.TheVariants as element
use Rattle.events.specs.{Names.is_name, Names.is_held, Names.number_of, Names.with_name, declared.event.Mode.Mode}
use Rattle.records.specs.{Faults.first_fault, Fields.field, Rows.Row}
use Rattle.rows.specs.{Plan.has_end, PlanRows.PlanRows, declared.plan.Act.Act, declared.plan.Leg.Leg}
use Rattle.plans.specs.Kinds.{kind_of, is_act, is_car, is_transit, plan_number, items_of, item}
use Rattle.plans.specs.Refusals.{is_misfit, lacks_element_name, lacks_name, has_bad_time, has_bad_number, comes_again, lacks_link, is_out_of_order, is_broken}
use Rattle.plans.specs.Refusals.{lacks_mode, is_one_too_many, begins_person, begins_plan, is_neither, ends_plan, same_person, same_plan}
use Rattle.plans.specs.{Runs.runs, Values.Tables, Values.PlanFileRows}
use Rattle.plans.specs.Values.{tables_of, person_in, kind_in, line_in, stops_in, named_by, act_of, leg_by, endless, acts_among, legs_among, plan_among}
use Rattle.plans.specs.Values.{plans_among, row_before, first_row, legs_to, starts_to, reason_at, is_act_named, is_leg_named, is_plan_named, are_plans}

-- what the rows so far give: the plans of the persons before the last one, his plans before the open one, and that one's activities and legs
pub record Progress : Type 0 where
  pub persons : List (List ℕ)
  pub kinds : List (List ℕ)
  pub lines : List (List ℕ)
  pub stops : List (List ℕ)
  pub plans : List (List PlanRows)
  pub own : List PlanRows
  pub starts : List ℕ
  pub acts : List Act
  pub legs : List Leg
  pub last : Option Act

abbrev pub closed_acts : List Act → Option Act → List Act
closed_acts acts None = acts
closed_acts acts (Some last) = acts ++ endless last ∷ []

-- the open plan, closed
abbrev pub closed_of : Progress → PlanRows
closed_of p = record { acts = closed_acts p.acts p.last; legs = p.legs }

abbrev pub with_kind : Progress → Row → Progress
with_kind p row = record p { kinds = with_name p.kinds (field row 3) }

-- the row begins a person, with this activity
abbrev pub new_person : Progress → Row → ℕ → Act → Progress
new_person p row number act = record p {
  persons = with_name p.persons (field row 0);
  plans = p.plans ++ (p.own ++ closed_of p ∷ []) ∷ [];
  own = [];
  starts = p.starts ++ number ∷ [];
  acts = [];
  legs = [];
  last = Some act;
}

-- the row begins a further plan of the last person
abbrev pub new_plan : Progress → ℕ → Act → Progress
new_plan p number act = record p { own = p.own ++ closed_of p ∷ []; starts = p.starts ++ number ∷ []; acts = []; legs = []; last = Some act }

-- the row goes on with the open plan
abbrev pub same_plan_act : Progress → Act → Progress
same_plan_act p act = record p { last = Some act }

unfoldable pub put_act : Progress → Bool → Bool → Row → ℕ → Act → Progress
put_act p plan person row number act =
    if plan then (if person then new_person p row number act else new_plan p number act) else same_plan_act p act

-- an activity is read
unfoldable pub step_act : List (List ℕ) → Progress → Option Row → Row → ℕ → Progress
step_act links p before row number =
    put_act (with_kind p row) (begins_plan before row) (begins_person before row) row number (act_of (with_name p.kinds (field row 3)) links row)

abbrev pub lines_with : Bool → List (List ℕ) → List (List ℕ) → List (List ℕ)
lines_with transit lines items = if transit then with_name lines (item items 0) else lines

abbrev pub stops_with : Bool → List (List ℕ) → List (List ℕ) → List (List ℕ)
stops_with transit stops items = if transit then with_name (with_name stops (item items 1)) (item items 2) else stops

abbrev pub put_leg : Progress → List (List ℕ) → List (List ℕ) → Leg → Progress
put_leg p lines stops leg = record p { lines = lines; stops = stops; acts = p.acts ++ option_to_list p.last; legs = p.legs ++ leg ∷ []; last = None }

-- a leg of a mode is read
unfoldable pub step_leg : List (List ℕ) → Progress → Mode → Row → Progress
step_leg links p mode row =
    let lines = lines_with (is_transit (element.Leg (Some mode))) p.lines (items_of row) in
    let stops = stops_with (is_transit (element.Leg (Some mode))) p.stops (items_of row) in
    put_leg p lines stops (leg_by lines stops links mode row)

-- the first row is read
unfoldable pub step_first : List (List ℕ) → Row → Progress
step_first links row = record {
  persons = with_name [] (field row 0);
  kinds = with_name [] (field row 3);
  lines = [];
  stops = [];
  plans = [];
  own = [];
  starts = 1 ∷ [];
  acts = [];
  legs = [];
  last = Some (act_of (with_name [] (field row 3)) links row);
}

-- the open plan and its person are closed at the end of the file
unfoldable pub finish : Progress → PlanFileRows
finish p = record {
  persons = p.persons;
  kinds = p.kinds;
  lines = p.lines;
  stops = p.stops;
  plans = p.plans ++ (p.own ++ closed_of p ∷ []) ∷ [];
  starts = p.starts;
}

-- every person has one plan to five, every number of them has a name, each car route is unbroken, and there are at most 65,536 persons
pub record IsSound (links : List (List ℕ)) (ends : List (ℕ × ℕ)) (file : PlanFileRows) : Type 0 where
  pub each : length file.plans ≡ length file.persons
  pub few : length file.persons ≤ MAX_PERSONS
  pub sound : list_all (are_plans (record { kinds = file.kinds; lines = file.lines; stops = file.stops; links = links }) ends) file.plans ≡ true

abbrev pub ends_well : Option Act → Bool
ends_well None = false
ends_well (Some act) = has_end act

-- nothing speaks against a row
pub record Passed (links : List (List ℕ)) (ends : List (ℕ × ℕ)) (persons : List (List ℕ)) (legs : ℕ) (before : Option Row) (row : Row) (next : Option Row) : Type 0 where
  pub fits : is_misfit (kind_of row) row ≡ false
  pub named : lacks_name (kind_of row) row ≡ false
  pub numbered : has_bad_number (kind_of row) row ≡ false
  pub together : comes_again persons before row ≡ false
  pub linked : lacks_link links (kind_of row) row ≡ false
  pub ordered : is_out_of_order before (kind_of row) row next ≡ false
  pub joined : is_broken links ends (kind_of row) row ≡ false
  pub moded : lacks_mode (kind_of row) ≡ false
  pub few : is_one_too_many persons legs before (kind_of row) row ≡ false

-- what reading an activity asks for
pub record ActAble (links : List (List ℕ)) (row : Row) : Type 0 where
  pub person : is_name (field row 0) ≡ true
  pub kind : is_name (field row 3) ≡ true
  pub found : is_some (number_of (field row 4) links) ≡ true

-- what reading a leg asks for
pub record LegAble (links : List (List ℕ)) (legs : ℕ) (mode : Mode) (row : Row) : Type 0 where
  pub names : lacks_element_name (element.Leg (Some mode)) row ≡ false
  pub times : has_bad_time (element.Leg (Some mode)) row ≡ false
  pub found : lacks_link links (element.Leg (Some mode)) row ≡ false
  pub few_legs : legs < MAX_LEGS
  pub few_links : is_car (element.Leg (Some mode)) ≡ true → length (items_of row) ≤ MAX_ROUTE_LINKS

-- what reading a row asks for: the open plan takes it, or is closed by it
pub record RowAble (links : List (List ℕ)) (p : Progress) (before : Option Row) (row : Row) : Type 0 where
  pub act : kind_of row ≡ element.Act → ActAble links row
  pub closes : begins_plan before row ≡ true → is_some p.last ≡ true
  pub leg : (mode : Mode) → kind_of row ≡ element.Leg (Some mode) → LegAble links (length p.legs) mode row
  pub ended : (mode : Mode) → kind_of row ≡ element.Leg (Some mode) → ends_well p.last ≡ true
  pub kinded : kind_of row ≡ element.Neither → ⊥
  pub moded : kind_of row ≡ element.Leg None → ⊥

-- the rows so far, split into persons and the last person's plans
pub record Grouped (tables : Tables) (rows : List Row) (last : Row) (p : Progress) : Type 0 where
  pub earlier : List (List Row)
  pub others : List (List Row)
  pub front : List Row
  pub begun : List Row
  pub split : runs same_person rows ≡ earlier ++ (front ++ last ∷ []) ∷ []
  pub split_own : runs same_plan (front ++ last ∷ []) ≡ others ++ (begun ++ last ∷ []) ∷ []
  pub plans_are : p.plans ≡ map (plans_among tables) earlier
  pub own_are : p.own ≡ map (plan_among tables) others
  pub acts_are : p.acts ++ option_to_list p.last ≡ acts_among tables (begun ++ last ∷ [])
  pub legs_are : p.legs ≡ legs_among tables (begun ++ last ∷ [])

-- every number has a name, and no limit is passed
pub record Sound (tables : Tables) (ends : List (ℕ × ℕ)) (p : Progress) : Type 0 where
  pub in_plans : list_all (are_plans tables ends) p.plans ≡ true
  pub in_own : list_all (is_plan_named tables ends) p.own ≡ true
  pub in_acts : list_all (is_act_named tables) (p.acts ++ option_to_list p.last) ≡ true
  pub in_legs : list_all (is_leg_named tables ends) p.legs ≡ true
  pub each : length p.plans + 1 ≡ length p.persons
  pub few : length p.persons ≤ MAX_PERSONS

-- the names are those of the rows so far, and so are the places where plans begin
pub record Named (rows : List Row) (n : ℕ) (p : Progress) : Type 0 where
  pub persons_are : p.persons ≡ named_by person_in (take n rows)
  pub kinds_are : p.kinds ≡ named_by kind_in (take n rows)
  pub lines_are : p.lines ≡ named_by line_in (take n rows)
  pub stops_are : p.stops ≡ named_by stops_in (take n rows)
  pub starts_are : p.starts ≡ starts_to rows n
  pub legs_count : length p.legs ≡ legs_to rows n

-- the row read last, and what it leaves open
pub record Behind (tables : Tables) (last : Row) (next : Option Row) (p : Progress) : Type 0 where
  pub held : is_held (field last 0) p.persons ≡ true
  pub numbered : plan_number last ≡ length p.own
  pub last_is : p.last ≡ (if is_act (kind_of last) then Some (act_of tables.kinds tables.links last) else None)
  pub kinded : is_neither (kind_of last) ≡ false
  pub goes_on : is_act (kind_of last) ≡ false → ends_plan last next ≡ false

-- the first n rows are read, and none of them is refused
pub record IsReadTo (links : List (List ℕ)) (ends : List (ℕ × ℕ)) (rows : List Row) (n : ℕ) (p : Progress) : Type 0 where
  pub none : first_fault None (reason_at links ends rows) n ≡ None
  pub latest : Row
  pub is_latest : row_before rows n ≡ Some latest
  pub names : Named rows n p
  pub behind : Behind (tables_of links rows) latest (first_row (drop n rows)) p
  pub groups : Grouped (tables_of links rows) (take n rows) latest p
  pub sound : Sound (tables_of links rows) ends p
