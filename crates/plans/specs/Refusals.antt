-- Why a row of plans.csv is refused: one definition for each reason, and the least reason of a row.
use Rattle.std.specs.Prelude.{ℕ, ◌+◌, Bool, true, false, not, ◌&&◌, ◌||◌, nat_eq, nat_le, nat_lt, bytes_eq, is_none, is_some, List, [], ◌∷◌, length, Option}
use Rattle.std.specs.Prelude.{None, Some, unwrap_or}
use Rattle.limits.specs.declared.TheConstants.{MAX_LEGS, MAX_PERSONS, MAX_ROUTE_LINKS}
use Rattle.edge_files.specs.declared.reasons.Reason.{Reason}
use Rattle.edge_files.specs.declared.reasons.Reason.TheVariants as reason
use Rattle.events.specs.declared.event.Mode.TheVariants as mode
use Rattle.events.specs.Names.{number_of}
use Rattle.records.specs.{Faults.least, Fields.field, Fields.holds_name, Fields.is_blank, Lists.are_names, Lists.numbers_of, Rows.Row}
use Rattle.rows.specs.Joined.{is_joined}
use Rattle.plans.specs.declared.kinds.ElementKind.{ElementKind}
use Rattle.plans.specs.Kinds.{kind_of, is_act, is_leg, is_car, plan_in, plan_number, end_in, seconds_in, items_of}
use Rattle.plans.specs.declared.kinds.ElementKind.TheVariants as element

-- a field has bytes that is empty for such an element: the route of an activity; the link and the time of a leg by car or transit; the link and the route of a teleported leg
unfoldable pub has_surplus : ElementKind → Row → Bool
has_surplus element.Act row = not (is_blank row 6)
has_surplus (element.Leg (Some mode.Car)) row = not (is_blank row 4 && is_blank row 5)
has_surplus (element.Leg (Some mode.Pt)) row = not (is_blank row 4 && is_blank row 5)
has_surplus (element.Leg (Some mode)) row = not (is_blank row 4 && is_blank row 6)
has_surplus (element.Leg None) row = false
has_surplus element.Neither row = false

-- the row has not seven fields, or one that is to be empty is not
abbrev pub is_misfit : ElementKind → Row → Bool
is_misfit kind row = not (nat_eq (length row) 7) || has_surplus kind row

-- the kind or the link of an activity, a link of a car route, or the line or a stop of a transit leg is no name, or these are not three
unfoldable pub lacks_element_name : ElementKind → Row → Bool
lacks_element_name element.Act row = not (holds_name row 3 && holds_name row 4)
lacks_element_name (element.Leg (Some mode.Car)) row = not (are_names (items_of row))
lacks_element_name (element.Leg (Some mode.Pt)) row = not (nat_eq (length (items_of row)) 3 && are_names (items_of row))
lacks_element_name (element.Leg (Some mode)) row = false
lacks_element_name (element.Leg None) row = false
lacks_element_name element.Neither row = false

-- the person or another name of the row is none
abbrev pub lacks_name : ElementKind → Row → Bool
lacks_name kind row = not (holds_name row 0) || lacks_element_name kind row

-- the end of an activity, where it has one, or the seconds of a teleported leg are no number, or out of range
unfoldable pub has_bad_time : ElementKind → Row → Bool
has_bad_time element.Act row = not (is_blank row 5) && is_none (end_in row)
has_bad_time (element.Leg (Some mode.Car)) row = false
has_bad_time (element.Leg (Some mode.Pt)) row = false
has_bad_time (element.Leg (Some mode)) row = is_none (seconds_in row)
has_bad_time (element.Leg None) row = false
has_bad_time element.Neither row = false

-- the plan's number or the time is none, or out of range
abbrev pub has_bad_number : ElementKind → Row → Bool
has_bad_number kind row = is_none (plan_in row) || has_bad_time kind row

-- two rows of one person
unfoldable pub same_person : Row → Row → Bool
same_person row other = bytes_eq (field row 0) (field other 0)

-- two rows of one plan
unfoldable pub same_plan : Row → Row → Bool
same_plan row other = same_person row other && nat_eq (plan_number row) (plan_number other)

-- the row before is of another person, or there is none
abbrev pub begins_person : Option Row → Row → Bool
begins_person None row = true
begins_person (Some before) row = not (same_person before row)

-- the row before is of another plan, or there is none
abbrev pub begins_plan : Option Row → Row → Bool
begins_plan None row = true
begins_plan (Some before) row = not (same_plan before row)

-- the person has earlier rows with another person's row between
abbrev pub comes_again : List (List ℕ) → Option Row → Row → Bool
comes_again persons before row = begins_person before row && is_some (number_of (field row 0) persons)

-- the link of an activity or one of a car route does not exist
unfoldable pub lacks_link : List (List ℕ) → ElementKind → Row → Bool
lacks_link links element.Act row = is_none (number_of (field row 4) links)
lacks_link links (element.Leg (Some mode.Car)) row = is_none (numbers_of (items_of row) links)
lacks_link links (element.Leg (Some mode)) row = false
lacks_link links (element.Leg None) row = false
lacks_link links element.Neither row = false

-- the kind is neither `act` nor `leg`
abbrev pub is_neither : ElementKind → Bool
is_neither kind = not (is_act kind || is_leg kind)

-- a new person's plan has a number other than 0
abbrev pub starts_late : Option Row → Row → Bool
starts_late before row = begins_person before row && not (nat_eq (plan_number row) 0)

-- the plan's number is neither that of the person's row before nor one more
abbrev pub jumps : Option Row → Row → Bool
jumps None row = false
jumps (Some before) row = same_person before row && not (nat_eq (plan_number row) (plan_number before) || nat_eq (plan_number row) (plan_number before + 1))

-- a plan begins with a leg
abbrev pub begins_with_leg : Option Row → ElementKind → Row → Bool
begins_with_leg before kind row = begins_plan before row && is_leg kind

-- an activity behind an activity of the plan, or a leg behind a leg
abbrev pub repeats : Option Row → ElementKind → Row → Bool
repeats None kind row = false
repeats (Some before) kind row = same_plan before row && ((is_act kind && is_act (kind_of before)) || (is_leg kind && is_leg (kind_of before)))

-- a leg behind an activity of the plan that has no planned end
abbrev pub follows_endless : Option Row → ElementKind → Row → Bool
follows_endless None kind row = false
follows_endless (Some before) kind row = is_leg kind && same_plan before row && is_act (kind_of before) && is_none (end_in before)

-- the next row is of another person, or of another plan of this person
abbrev pub is_of_other_plan : Row → Row → Bool
is_of_other_plan row next =
    (holds_name next 0 && not (same_person row next)) || (same_person row next && is_some (plan_in next) && not (nat_eq (plan_number row) (plan_number next)))

-- no row of the plan follows: the file ends, or the next row has seven fields and shows that it is of another plan
unfoldable pub ends_plan : Row → Option Row → Bool
ends_plan row None = true
ends_plan row (Some next) = nat_eq (length next) 7 && is_of_other_plan row next

-- a leg that no row of the plan follows
abbrev pub ends_with_leg : ElementKind → Row → Option Row → Bool
ends_with_leg kind row next = is_leg kind && ends_plan row next

-- the row breaks the order of persons, plans and elements
abbrev pub is_out_of_order : Option Row → ElementKind → Row → Option Row → Bool
is_out_of_order before kind row next =
    is_neither kind || starts_late before row || jumps before row || begins_with_leg before kind row || repeats before kind row
    || follows_endless before kind row || ends_with_leg kind row next

-- the links of a car route, by their numbers
abbrev pub route_of : List (List ℕ) → Row → List ℕ
route_of links row = unwrap_or (numbers_of (items_of row) links) []

-- a link of a car route does not begin where the link before it ends
abbrev pub is_broken : List (List ℕ) → List (ℕ × ℕ) → ElementKind → Row → Bool
is_broken links ends kind row = is_car kind && not (is_joined ends (route_of links row))

-- a leg of no known mode
abbrev pub lacks_mode : ElementKind → Bool
lacks_mode (element.Leg None) = true
lacks_mode (element.Leg (Some mode)) = false
lacks_mode element.Act = false
lacks_mode element.Neither = false

-- the 65,537th person, the ninth leg of a plan, or a car route of more than 1,000 links
abbrev pub is_one_too_many : List (List ℕ) → ℕ → Option Row → ElementKind → Row → Bool
is_one_too_many persons legs before kind row =
    (begins_person before row && nat_le MAX_PERSONS (length persons)) || (is_leg kind && nat_le MAX_LEGS legs) || (is_car kind && nat_lt MAX_ROUTE_LINKS (length (items_of row)))

-- the least reason against a row, by its kind, the persons and the legs of the plan before it, and the rows beside it
abbrev pub kind_reason : List (List ℕ) → List (ℕ × ℕ) → List (List ℕ) → ℕ → Option Row → ElementKind → Row → Option Row → Option Reason
kind_reason links ends persons legs before kind row next = least (
    (is_misfit kind row, reason.FieldCount)
    ∷ (lacks_name kind row, reason.BadName)
    ∷ (has_bad_number kind row, reason.BadNumber)
    ∷ (comes_again persons before row, reason.Twice)
    ∷ (lacks_link links kind row, reason.Unknown)
    ∷ (is_out_of_order before kind row next, reason.Order)
    ∷ (is_broken links ends kind row, reason.RouteBroken)
    ∷ (lacks_mode kind, reason.ModeUnknown)
    ∷ (is_one_too_many persons legs before kind row, reason.TooMany)
    ∷ [])

unfoldable pub row_reason : List (List ℕ) → List (ℕ × ℕ) → List (List ℕ) → ℕ → Option Row → Row → Option Row → Option Reason
row_reason links ends persons legs before row next = kind_reason links ends persons legs before (kind_of row) row next
