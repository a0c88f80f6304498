-- The rows of routes.csv: `line,route,links,stops`.
use Rattle.std.specs.{List.list_all, Prelude.ℕ, Prelude.Bool, Prelude.not}
use Rattle.std.specs.Prelude.{◌&&◌, ◌||◌, nat_le, nat_lt, nat_eq, is_none, is_some, codes, unwrap_or, List, [], ◌∷◌, length, map, Option, Some, if◌then◌else◌}
use Rattle.limits.specs.declared.TheConstants.{MAX_CALLS, MAX_ROUTES, MAX_ROUTE_LINKS}
use Rattle.edge_files.specs.declared.reasons.{Reason.Reason, RowFault.RowFault}
use Rattle.edge_files.specs.declared.reasons.Reason.TheVariants as reason
use Rattle.events.specs.{Names.number_of, Names.firsts, declared.lists.StopCall.StopCall}
use Rattle.records.specs.{Faults.least, Fields.field, Fields.holds_name, Fields.column, Files.optional_head_reason, Files.body_of, Lists.items_in}
use Rattle.records.specs.{Lists.are_names, Lists.numbers_of, Reading.file_fault, Rows.Row}
use Rattle.rows.specs.{Schedules.is_way, Schedules.is_unserved, declared.schedule.RouteRow.RouteRow, declared.schedule.StopRow.StopRow}
use Rattle.schedule.specs.{Calls.call_text, Calls.call_of, declared.calls.CallText.CallText, declared.route_lists.RouteLists.RouteLists}

abbrev pub route_header : List (List ℕ)
route_header = codes "line" ∷ codes "route" ∷ codes "links" ∷ codes "stops" ∷ []

-- the names in the field of links
abbrev pub link_items : Row → List (List ℕ)
link_items row = items_in (field row 2)

-- the texts in the field of stop calls
abbrev pub call_texts : List (List ℕ) → Row → List CallText
call_texts stops row = map (call_text stops) (items_in (field row 3))

-- the numbers of the links, or none where one does not exist
abbrev pub links_of : List (List ℕ) → Row → List ℕ
links_of links row = unwrap_or (numbers_of (link_items row) links) []

-- the line, the route or a link has no name, or a stop call is none
abbrev pub has_bad_name : Row → List (List ℕ) → List CallText → Bool
has_bad_name row items texts = not (holds_name row 0 && holds_name row 1 && are_names items && list_all (λ t. t.is_call) texts)

-- an offset is no number, or out of its range
abbrev pub has_bad_offset : List CallText → Bool
has_bad_offset texts = not (list_all (λ t. is_some t.offset) texts)

-- a stop does not exist
abbrev pub lacks_stop : List CallText → Bool
lacks_stop texts = not (list_all (λ t. is_some t.stop) texts)

-- with this row there are more than 4,096 routes, or it has more than 1,000 links or 200 calls
abbrev pub is_too_much : List (List ℕ) → List ℕ → List StopCall → Bool
is_too_much names numbers calls = nat_le MAX_ROUTES (length names) || nat_lt MAX_ROUTE_LINKS (length numbers) || nat_lt MAX_CALLS (length calls)

-- why a row is refused that has all its fields, by its items, the texts of its stop calls, the numbers of its links and its stop calls
unfoldable pub parts_reason : List (ℕ × ℕ) → List (List ℕ) → Row → List (List ℕ) → List CallText → Option (List ℕ) → List StopCall → Option Reason
parts_reason ends names row items texts numbers calls = least (
    (has_bad_name row items texts, reason.BadName)
    ∷ (has_bad_offset texts, reason.BadNumber)
    ∷ (is_some (number_of (field row 1) names), reason.Twice)
    ∷ (is_none numbers || lacks_stop texts, reason.Unknown)
    ∷ (not (is_way ends (unwrap_or numbers [])), reason.RouteBroken)
    ∷ (is_too_much names (unwrap_or numbers []) calls, reason.TooMany)
    ∷ (is_unserved calls (unwrap_or numbers []), reason.StopLink)
    ∷ [])

-- why a row of routes.csv is refused, by the names of the routes in the rows before it
unfoldable pub route_reason : List (List ℕ) → List (ℕ × ℕ) → List (List ℕ) → List StopRow → List (List ℕ) → Row → Option Reason
route_reason links ends stops rows names row =
    if nat_eq (length row) 4 then
    parts_reason ends names row (link_items row) (call_texts stops row) (numbers_of (link_items row) links) (map (call_of rows) (call_texts stops row))
    else Some reason.FieldCount

-- the links and the stop calls of a row
unfoldable pub lists_of : List (List ℕ) → List (List ℕ) → List StopRow → Row → RouteLists
lists_of links stops rows row = record { links = links_of links row; calls = map (call_of rows) (call_texts stops row) }

-- the route of a row, with the number that its line has among all lines
unfoldable pub route_of : List (List ℕ) → List (List ℕ) → List StopRow → List (List ℕ) → Row → RouteRow
route_of links stops rows lines row = record {
  line = unwrap_or (number_of (field row 0) lines) 0;
  links = (lists_of links stops rows row).links;
  calls = (lists_of links stops rows row).calls;
}

-- the lines of the rows, numbered as they first appear
abbrev pub lines_of : List Row → List (List ℕ)
lines_of rows = firsts (column 0 rows)

-- the routes of the rows
abbrev pub routes_of : List (List ℕ) → List (List ℕ) → List StopRow → List Row → List RouteRow
routes_of links stops rows body = map (route_of links stops rows (lines_of body)) body

-- the first fault of routes.csv
abbrev pub routes_fault : List (List ℕ) → List (ℕ × ℕ) → List (List ℕ) → List StopRow → List ℕ → Option RowFault
routes_fault links ends stops rows bytes =
    file_fault (optional_head_reason route_header bytes) 1 (route_of links stops rows (lines_of (body_of bytes))) (λ names _. route_reason links ends stops rows names) bytes
