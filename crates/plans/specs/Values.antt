-- What plans.csv gives where no row is refused: names, and each person's plans.
use Rattle.std.specs.{List.flat_map, List.filter, List.list_all, Prelude.ℕ, Prelude.suc, Prelude.zero, Prelude.◌+◌, Prelude.Bool}
use Rattle.std.specs.Prelude.{true, ◌&&◌, nat_lt, nat_le, if◌then◌else◌, List, [], ◌∷◌, ◌++◌, length, map, drop, take, get_or, Option, None, Some, unwrap_or}
use Rattle.edge_files.specs.declared.reasons.{Reason.Reason, RowFault.RowFault}
use Rattle.limits.specs.declared.TheConstants.{MAX_PLANS}
use Rattle.events.specs.{Names.number_of, Names.firsts, declared.event.Mode.Mode}
use Rattle.events.specs.declared.event.Mode.TheVariants as mode
use Rattle.records.specs.{Faults.first_fault, Fields.field, Files.head_reason, Files.body_of, Rows.Row}
use Rattle.plans.specs.Kinds.{kind_of, is_act, is_leg, is_transit, end_in, seconds_in, items_of, item, plans_header}
use Rattle.plans.specs.Refusals.{row_reason, same_person, same_plan, begins_plan, route_of}
use Rattle.plans.specs.{Runs.runs, declared.kinds.ElementKind.ElementKind}
use Rattle.plans.specs.declared.kinds.ElementKind.TheVariants as element
use Rattle.rows.specs.{Joined.is_joined, PlanRows.PlanRows, declared.plan.Act.Act, declared.plan.Leg.Leg}
use Rattle.rows.specs.declared.plan.Leg.TheVariants as leg

-- the names that numbers stand for
pub record Tables : Type 0 where
  pub kinds : List (List ℕ)
  pub lines : List (List ℕ)
  pub stops : List (List ℕ)
  pub links : List (List ℕ)

-- the names of a row, by what they name
abbrev pub person_in : Row → List (List ℕ)
person_in row = field row 0 ∷ []

unfoldable pub kind_in : Row → List (List ℕ)
kind_in row = if is_act (kind_of row) then field row 3 ∷ [] else []

unfoldable pub line_in : Row → List (List ℕ)
line_in row = if is_transit (kind_of row) then item (items_of row) 0 ∷ [] else []

-- the stop of access, and that of egress
unfoldable pub stops_in : Row → List (List ℕ)
stops_in row = if is_transit (kind_of row) then item (items_of row) 1 ∷ item (items_of row) 2 ∷ [] else []

-- names in rows, numbered by first appearance
unfoldable pub named_by : (Row → List (List ℕ)) → List Row → List (List ℕ)
named_by names rows = firsts (flat_map names rows)

unfoldable pub tables_of : List (List ℕ) → List Row → Tables
tables_of links rows = record { kinds = named_by kind_in rows; lines = named_by line_in rows; stops = named_by stops_in rows; links = links }

-- the number of a name
abbrev pub number_in_table : List ℕ → List (List ℕ) → ℕ
number_in_table name names = unwrap_or (number_of name names) 0

-- the activity that a row is
unfoldable pub act_of : List (List ℕ) → List (List ℕ) → Row → Act
act_of kinds links row = record { kind = number_in_table (field row 3) kinds; link = number_in_table (field row 4) links; end = end_in row }

-- the transit leg of a line and of the stops of access and egress
abbrev pub transit_of : List (List ℕ) → List (List ℕ) → List (List ℕ) → Leg
transit_of lines stops items = leg.Transit (number_in_table (item items 0) lines) (number_in_table (item items 1) stops) (number_in_table (item items 2) stops)

-- the leg of a mode that a row is
unfoldable pub leg_by : List (List ℕ) → List (List ℕ) → List (List ℕ) → Mode → Row → Leg
leg_by lines stops links mode.Car row = leg.Car (route_of links row)
leg_by lines stops links mode.Pt row = transit_of lines stops (items_of row)
leg_by lines stops links mode row = leg.Teleport mode (unwrap_or (seconds_in row) 0)

abbrev pub leg_of_kind : List (List ℕ) → List (List ℕ) → List (List ℕ) → ElementKind → Row → Leg
leg_of_kind lines stops links (element.Leg (Some mode)) row = leg_by lines stops links mode row
leg_of_kind lines stops links (element.Leg None) row = leg.Car []
leg_of_kind lines stops links element.Act row = leg.Car []
leg_of_kind lines stops links element.Neither row = leg.Car []

-- the leg that a row is
abbrev pub leg_of : List (List ℕ) → List (List ℕ) → List (List ℕ) → Row → Leg
leg_of lines stops links row = leg_of_kind lines stops links (kind_of row) row

-- the activities among rows
abbrev pub acts_among : Tables → List Row → List Act
acts_among tables rows = map (act_of tables.kinds tables.links) (filter (λ row. is_act (kind_of row)) rows)

-- the legs among rows
abbrev pub legs_among : Tables → List Row → List Leg
legs_among tables rows = map (leg_of tables.lines tables.stops tables.links) (filter (λ row. is_leg (kind_of row)) rows)

-- an activity that never ends
abbrev pub endless : Act → Act
endless act = record { kind = act.kind; link = act.link; end = None }

-- activities of which the last one's end is not kept
abbrev pub last_endless : List Act → List Act
last_endless [] = []
last_endless (act ∷ []) = endless act ∷ []
last_endless (act ∷ next ∷ acts) = act ∷ last_endless (next ∷ acts)

-- the plan that rows are
unfoldable pub plan_among : Tables → List Row → PlanRows
plan_among tables rows = record { acts = last_endless (acts_among tables rows); legs = legs_among tables rows }

-- a person's plans: the rows, split where the plan's number changes
unfoldable pub plans_among : Tables → List Row → List PlanRows
plans_among tables rows = map (plan_among tables) (runs same_plan rows)

-- each person's plans: the rows, split where the person changes
unfoldable pub plan_lists : Tables → List Row → List (List PlanRows)
plan_lists tables rows = map (plans_among tables) (runs same_person rows)

-- the row before a place
unfoldable pub row_before : List Row → ℕ → Option Row
row_before rows zero = None
row_before rows (suc place) = Some (get_or rows place [])

abbrev pub first_row : List Row → Option Row
first_row [] = None
first_row (row ∷ rows) = Some row

-- the row behind a place
unfoldable pub row_behind : List Row → ℕ → Option Row
row_behind rows place = first_row (drop (place + 1) rows)

abbrev pub begins_at : List Row → ℕ → Bool
begins_at rows place = begins_plan (row_before rows place) (get_or rows place [])

-- how many legs the plan with which the first rows end has: it counts from 0 again where a plan begins
unfoldable pub legs_to : List Row → ℕ → ℕ
legs_to rows zero = 0
legs_to rows (suc place) =
    (if begins_at rows place then 0 else legs_to rows place) + (if is_leg (kind_of (get_or rows place [])) then 1 else 0)

-- the rows, counted from 1, in which the plans among the first rows begin
unfoldable pub starts_to : List Row → ℕ → List ℕ
starts_to rows zero = []
starts_to rows (suc place) = starts_to rows place ++ (if begins_at rows place then suc place ∷ [] else [])

-- why the row at a place is refused, by the rows beside and before it
unfoldable pub reason_at : List (List ℕ) → List (ℕ × ℕ) → List Row → ℕ → Option Reason
reason_at links ends rows place =
    row_reason links ends (named_by person_in (take place rows)) (legs_to rows place) (row_before rows place) (get_or rows place []) (row_behind rows place)

-- what plans.csv gives
pub record PlanFileRows : Type 0 where
  pub persons : List (List ℕ)
  pub kinds : List (List ℕ)
  pub lines : List (List ℕ)
  pub stops : List (List ℕ)
  pub plans : List (List PlanRows)
  pub starts : List ℕ

-- what its rows behind the header give
unfoldable pub values_of : List (List ℕ) → List Row → PlanFileRows
values_of links rows = record {
  persons = named_by person_in rows;
  kinds = named_by kind_in rows;
  lines = named_by line_in rows;
  stops = named_by stops_in rows;
  plans = plan_lists (tables_of links rows) rows;
  starts = starts_to rows (length rows);
}

-- the first fault of the rows behind the header
unfoldable pub rows_fault : Option Reason → List (List ℕ) → List (ℕ × ℕ) → List Row → Option RowFault
rows_fault head links ends rows = first_fault head (reason_at links ends rows) (length rows)

-- the first fault of plans.csv
abbrev pub plans_fault : List (List ℕ) → List (ℕ × ℕ) → List ℕ → Option RowFault
plans_fault links ends bytes = rows_fault (head_reason plans_header bytes) links ends (body_of bytes)

-- what plans.csv gives
abbrev pub file_rows : List (List ℕ) → List ℕ → PlanFileRows
file_rows links bytes = values_of links (body_of bytes)

-- an activity's kind and link have names
abbrev pub is_act_named : Tables → Act → Bool
is_act_named tables act = nat_lt act.kind (length tables.kinds) && nat_lt act.link (length tables.links)

-- a leg's links, or its line and stops, have names, and each link of a car route begins where the one before it ends
abbrev pub is_leg_named : Tables → List (ℕ × ℕ) → Leg → Bool
is_leg_named tables ends (leg.Car route) = list_all (λ link. nat_lt link (length tables.links)) route && is_joined ends route
is_leg_named tables ends (leg.Teleport mode seconds) = true
is_leg_named tables ends (leg.Transit line access egress) =
    nat_lt line (length tables.lines) && nat_lt access (length tables.stops) && nat_lt egress (length tables.stops)

-- every number of a plan has a name, and its car routes are unbroken
unfoldable pub is_plan_named : Tables → List (ℕ × ℕ) → PlanRows → Bool
is_plan_named tables ends parts = list_all (is_act_named tables) parts.acts && list_all (is_leg_named tables ends) parts.legs

-- one to five plans, and every number of them has a name
unfoldable pub are_plans : Tables → List (ℕ × ℕ) → List PlanRows → Bool
are_plans tables ends plans = nat_le 1 (length plans) && nat_le (length plans) MAX_PLANS && list_all (is_plan_named tables ends) plans
