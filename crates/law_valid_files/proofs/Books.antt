-- The book of files without a fault has names alone, one for each link and one for each stop.
use Rattle.records.proofs.Common.{◌≡◌, List, ℕ, length, arith, [], ◌<◌, ◌≤◌, ◌^◌, None, Some, ◌∷◌, refl, true, false, Bool, Option, cond, get_or, not, ◌&&◌}
use Rattle.records.proofs.Common.{length-map, list_all, flat_map, nat_eq, is_some, number_of, is_name, holds_name, field, column, Reason, Row, body_of}
use Rattle.records.proofs.{Common.body_fault, Common.head_reason, Common.optional_head_reason, Unrefused.none_applies, Unrefused.head_none, Unrefused.each_none}
use Rattle.records.{proofs.Unrefused.or_none, specs.Files.is_too_long, specs.Lists.are_names, specs.Reading.reason_after}
use Rattle.std.proofs.lemmas.Bool.{or_parts}
use Rattle.edge_files.specs.declared.files.InFile.TheVariants as file
use Rattle.edge_files.specs.declared.reasons.Reason.TheVariants as reason
use Rattle.events.specs.Names.{AreNames}
use Rattle.rows.specs.{Greens.Phases, Joined.ends_of, declared.network.LinkRow.LinkRow, declared.schedule.StopRow.StopRow}
use Rattle.network.specs.Nodes.{node_names}
use Rattle.network.specs.Links.{link_header, link_of, lacks_name, has_bad_measure, link_reason, links_fault, link_names}
use Rattle.schedule.specs.Routes.{route_header, link_items, call_texts, route_of, route_reason, parts_reason, routes_fault, lines_of}
use Rattle.schedule.specs.{Stops.stop_header, Stops.stop_of, Stops.stop_reason, Stops.stops_fault, declared.calls.CallText.CallText}
use Rattle.plans.specs.{Kinds.kind_of, Kinds.is_act, Kinds.plans_header, Refusals.is_misfit, Refusals.lacks_name as lacks_plan_name}
use Rattle.plans.specs.{Refusals.lacks_element_name, Refusals.row_reason, Values.person_in, Values.kind_in, Values.named_by, Values.reason_at}
use Rattle.plans.specs.{Values.rows_fault, Values.plans_fault, Values.values_of, declared.kinds.ElementKind.ElementKind}
use Rattle.plans.specs.declared.kinds.ElementKind.TheVariants as element
use Rattle.settings.specs.{Faults.file_of, Values.Values}
use Rattle.scenario.proofs.{Free.free_files, FreeSchedules.schedule_free, Told.bytes_free}
use Rattle.scenario.specs.FilesToScenario.{NetworkRows, ScheduleRows, stop_names, stop_rows, town_of, schedule_rows_of, signals_on, planned_of, filled_in}
use Rattle.scenario.specs.FilesToScenario.{on_network, network_rows_of, schedule_fault, scenario_fault, scenario_rows}
use Rattle.scenario.specs.Texts.{Texts, bytes_in}
use Rattle.law_valid_files.proofs.{NetworkRows.network_free, RowNames.names_of_rows, RowNames.first_names, RowNames.names_among, RowNames.few_among}
use Rattle.law_valid_files.{proofs.RowNames.names_in_column, proofs.RowNames.room_for, specs.Valid.IsNamed}

holds : (b : Bool) → not b ≡ false → b ≡ true
holds true h = refl
holds false h = absurd (cc)

none_is : (o : Option ℕ) → is_some o ≡ false → o ≡ None
none_is None h = refl
none_is (Some n) h = absurd (cc)

first_two : (a b : Bool) → (a && b) ≡ true → a ≡ true
first_two a b h = grind arith

first_three : (a b c : Bool) → (a && b && c) ≡ true → a ≡ true
first_three a b c h = grind arith

first_four : (a b c d : Bool) → (a && b && c && d) ≡ true → a ≡ true
first_four a b c d h = grind arith

with_true : (a : Bool) → a ≡ true → (a && true) ≡ true
with_true a h = grind arith

-- a file whose row 0 has no reason is not too long
short_file : (names : List (List ℕ)) (bytes : List ℕ) → head_reason names bytes ≡ None → is_too_long bytes ≡ false
unfolding head_reason
short_file names bytes none = (none_applies (is_too_long bytes) reason.TooLong _ none).0

short_if_there : (names : List (List ℕ)) (bytes : List ℕ) → optional_head_reason names bytes ≡ None → is_too_long bytes ≡ false
unfolding optional_head_reason
short_if_there names bytes none = (none_applies (is_too_long bytes) reason.TooLong _ none).0

head_of : {X : Type 0} (head : Option Reason) (key : ℕ) (value : Row → X) (reason : List (List ℕ) → List X → Row → Option Reason) (rows : List Row)
    → body_fault head key value reason rows ≡ None → head ≡ None
unfolding body_fault
head_of head key value reason rows none = head_none head (reason_after key value reason rows) (length rows) none

row_of : {X : Type 0} (head : Option Reason) (key : ℕ) (value : Row → X) (reason : List (List ℕ) → List X → Row → Option Reason) (rows : List Row)
    → body_fault head key value reason rows ≡ None → (i : ℕ) → i < length rows → reason_after key value reason rows i ≡ None
unfolding body_fault
row_of head key value reason rows none i less = each_none head (reason_after key value reason rows) (length rows) i less none

-- LINKS
link_named : (nodes names : List (List ℕ)) (links : List LinkRow) (row : Row) → link_reason nodes names links row ≡ None
    → (is_name (field row 0) ≡ true) × (number_of (field row 0) names ≡ None)
unfolding link_reason
link_named nodes names links row none =
    let a = none_applies (not (nat_eq (length row) 7)) reason.FieldCount _ none in
    let b = none_applies (lacks_name row) reason.BadName _ a.1 in
    let c = none_applies (has_bad_measure row) reason.BadNumber _ b.1 in
    let d = none_applies (is_some (number_of (field row 0) names)) reason.Twice _ c.1 in (
      first_three (holds_name row 0) (holds_name row 1) (holds_name row 2) (holds (holds_name row 0 && holds_name row 1 && holds_name row 2) b.0),
      none_is (number_of (field row 0) names) d.0,
    )

links_named : (nodes : List (List ℕ)) (bytes : List ℕ) → links_fault nodes bytes ≡ None → AreNames (link_names bytes)
links_named nodes bytes none =
    let head = head_of (head_reason link_header bytes) 0 (link_of nodes) (link_reason nodes) (body_of bytes) none in
    names_of_rows (head_reason link_header bytes) 0 (link_of nodes) (link_reason nodes) (body_of bytes) none (link_named nodes)
    (room_for bytes (short_file link_header bytes head))

-- STOPS
stop_named : (links names : List (List ℕ)) (stops : List StopRow) (row : Row) → stop_reason links names row ≡ None
    → (is_name (field row 0) ≡ true) × (number_of (field row 0) names ≡ None)
unfolding stop_reason
stop_named links names stops row none =
    let a = none_applies (not (nat_eq (length row) 2)) reason.FieldCount _ none in
    let b = none_applies (not (holds_name row 0 && holds_name row 1)) reason.BadName _ a.1 in
    let c = none_applies (is_some (number_of (field row 0) names)) reason.Twice _ b.1 in (
      first_two (holds_name row 0) (holds_name row 1) (holds (holds_name row 0 && holds_name row 1) b.0),
      none_is (number_of (field row 0) names) c.0,
    )

stops_named : (links : List (List ℕ)) (bytes : List ℕ) → stops_fault links bytes ≡ None → AreNames (stop_names bytes)
stops_named links bytes none =
    let why : List (List ℕ) → List StopRow → Row → Option Reason = λ names _ row. stop_reason links names row in
    let head = head_of (optional_head_reason stop_header bytes) 0 (stop_of links) why (body_of bytes) none in
    names_of_rows (optional_head_reason stop_header bytes) 0 (stop_of links) why (body_of bytes) none (stop_named links)
    (room_for bytes (short_if_there stop_header bytes head))

-- LINES
full_row : (b : Bool) (why : Reason) (parts : Option Reason) → cond b parts (Some why) ≡ None → parts ≡ None
full_row true why parts h = h
full_row false why parts h = absurd (cc)

line_named : (links : List (List ℕ)) (ends : List (ℕ × ℕ)) (stops : List (List ℕ)) (rows : List StopRow) (names : List (List ℕ)) (row : Row)
    → route_reason links ends stops rows names row ≡ None → holds_name row 0 ≡ true
unfolding route_reason parts_reason
line_named links ends stops rows names row none =
    let calls : Bool = list_all (λ (t : CallText). t.is_call) (call_texts stops row) in
    let a = none_applies _ _ _ (full_row _ _ _ none) in
    first_four (holds_name row 0) (holds_name row 1) (are_names (link_items row)) calls
    (holds (holds_name row 0 && holds_name row 1 && are_names (link_items row) && calls) a.0)

lines_named : (links : List (List ℕ)) (ends : List (ℕ × ℕ)) (stops : List (List ℕ)) (rows : List StopRow) (bytes : List ℕ)
    → routes_fault links ends stops rows bytes ≡ None → AreNames (lines_of (body_of bytes))
lines_named links ends stops rows bytes none =
    let body : List Row = body_of bytes in
    let head = head_of (optional_head_reason route_header bytes) 1 (route_of links stops rows (lines_of body)) (λ names _ row. route_reason links ends stops rows names row) body none in
    let room = room_for bytes (short_if_there route_header bytes head) in
    let count = length-map body (λ (row : Row). field row 0) in
    first_names (column 0 body)
    (names_in_column 0 body (λ i less. line_named links ends stops rows _ (get_or body i [])
    (row_of (optional_head_reason route_header bytes) 1 (route_of links stops rows (lines_of body)) (λ names _ row. route_reason links ends stops rows names row) body none i less)))
    (omega arith)

-- PERSONS AND KINDS OF ACTIVITIES
person_named : (k : ElementKind) (row : Row) → lacks_plan_name k row ≡ false → list_all is_name (person_in row) ≡ true
person_named k row none =
    with_true (is_name (field row 0)) (holds (holds_name row 0) (or_parts (not (holds_name row 0)) (lacks_element_name k row) none).0)

kind_names : (k : ElementKind) (row : Row) → lacks_element_name k row ≡ false → list_all is_name (cond (is_act k) (field row 3 ∷ []) []) ≡ true
unfolding lacks_element_name
kind_names element.Act row none =
    with_true (is_name (field row 3)) (first_two (holds_name row 3) (holds_name row 4) (holds (holds_name row 3 && holds_name row 4) none))
kind_names (element.Leg mode) row none = refl
kind_names element.Neither row none = refl

kind_named : (row : Row) → lacks_plan_name (kind_of row) row ≡ false → list_all is_name (kind_in row) ≡ true
unfolding kind_in
kind_named row none = kind_names (kind_of row) row (or_parts (not (holds_name row 0)) (lacks_element_name (kind_of row) row) none).1

one_or_none : (b : Bool) (name : List ℕ) → length (cond b (name ∷ []) []) ≤ 1
one_or_none true name = omega arith
one_or_none false name = omega arith

few_kinds : (row : Row) → length (kind_in row) ≤ 1
unfolding kind_in
few_kinds row = one_or_none (is_act (kind_of row)) (field row 3)

module _ (links : List (List ℕ)) (ends : List (ℕ × ℕ)) (bytes : List ℕ) (none : plans_fault links ends bytes ≡ None) where
  abbrev rows : List Row
  rows = body_of bytes

  plan_row_named : (i : ℕ) → i < length rows → lacks_plan_name (kind_of (get_or rows i [])) (get_or rows i []) ≡ false
  unfolding rows_fault reason_at row_reason
  plan_row_named i less =
      let row : Row = get_or rows i [] in
      let free = each_none (head_reason plans_header bytes) (reason_at links ends rows) (length rows) i less none in
      let a = none_applies (is_misfit (kind_of row) row) reason.FieldCount _ free in
      (none_applies (lacks_plan_name (kind_of row) row) reason.BadName _ a.1).0

  plans_room : length rows ≤ 2 ^ 31
  unfolding rows_fault
  plans_room =
      room_for bytes (short_file plans_header bytes (head_none (head_reason plans_header bytes) (reason_at links ends rows) (length rows) none))

  persons_named : AreNames (named_by person_in rows)
  unfolding named_by
  persons_named =
      let few = few_among person_in rows (λ row. omega arith) in
      let room = plans_room in
      first_names (flat_map person_in rows)
      (names_among person_in rows (λ i less. person_named (kind_of (get_or rows i [])) (get_or rows i []) (plan_row_named i less))) (omega arith)

  kinds_named : AreNames (named_by kind_in rows)
  unfolding named_by
  kinds_named =
      let few = few_among kind_in rows few_kinds in
      let room = plans_room in
      first_names (flat_map kind_in rows) (names_among kind_in rows (λ i less. kind_named (get_or rows i []) (plan_row_named i less))) (omega arith)

-- ALL FILES
town_named : (v : Values) (network : NetworkRows) (persons kinds : List (List ℕ)) (t : ScheduleRows) (greens : List Phases)
    → AreNames persons → AreNames kinds → AreNames network.link_names → AreNames t.stop_names → AreNames t.lines
    → length network.link_names ≡ length network.links → length t.stop_names ≡ length t.stops
    → IsNamed (town_of v network persons kinds t greens)
unfolding town_of
town_named v network persons kinds t greens persons_are kinds_are links_are stops_are lines_are each_link each_stop = record {
  book = record { persons = persons_are; kinds = kinds_are; links = links_are; stops = stops_are; lines = lines_are };
  each_link = each_link;
  each_stop = each_stop;
}

links_are : (T : Texts) → links_fault (node_names (bytes_in T file.Nodes)) (bytes_in T file.Links) ≡ None → AreNames (network_rows_of T).link_names
unfolding network_rows_of
links_are T none = links_named (node_names (bytes_in T file.Nodes)) (bytes_in T file.Links) none

stops_are : (links : List (List ℕ)) (ends : List (ℕ × ℕ)) (T : Texts) → schedule_fault links ends T ≡ None → AreNames (schedule_rows_of links T).stop_names
unfolding schedule_fault schedule_rows_of
stops_are links ends T none = stops_named links (bytes_in T file.Stops) (bytes_free T file.Stops (stops_fault links) (or_none _ _ none).0)

lines_are : (links : List (List ℕ)) (ends : List (ℕ × ℕ)) (T : Texts) → schedule_fault links ends T ≡ None → AreNames (schedule_rows_of links T).lines
unfolding schedule_fault schedule_rows_of
lines_are links ends T none =
    let stops = bytes_in T file.Stops in
    let names = stop_names stops in
    let rows = stop_rows links stops in
    lines_named links ends names rows (bytes_in T file.Routes)
    (bytes_free T file.Routes (routes_fault links ends names rows) (or_none _ _ (or_none _ _ none).1).0)

pub scenario_named : (texts : Texts) → scenario_fault texts ≡ None → IsNamed (scenario_rows texts).town
unfolding scenario_rows on_network planned_of filled_in values_of
scenario_named T none =
    let free = free_files T none in
    let network = network_rows_of T in
    let ends = ends_of network.links in
    let t = schedule_rows_of network.link_names T in
    let plans = bytes_in T file.Plans in
    let no_links = bytes_free T file.Links (links_fault (node_names (bytes_in T file.Nodes))) free.links in
    let no_plans = bytes_free T file.Plans (plans_fault network.link_names ends) free.others.persons in
    town_named (file_of (bytes_in T file.Settings)).day network (named_by person_in (body_of plans)) (named_by kind_in (body_of plans)) t
    (signals_on network.link_names T).greens (persons_named network.link_names ends plans no_plans) (kinds_named network.link_names ends plans no_plans)
    (links_are T no_links) (stops_are network.link_names ends T free.others.schedule) (lines_are network.link_names ends T free.others.schedule)
    (network_free T no_links).each_link (schedule_free network.link_names ends T free.others.schedule).each_stop
