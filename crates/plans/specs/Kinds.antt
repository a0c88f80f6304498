-- What a row of plans.csv is, and its fields: `person,plan,kind,name,link,time,route`.
use Rattle.std.specs.Prelude.{ℕ, ◌-◌, Bool, true, false, bytes_eq, codes, if◌then◌else◌, List, [], ◌∷◌, get_or, Option, None, Some, unwrap_or}
use Rattle.limits.specs.declared.TheConstants.{LAST_SECOND, MAX_PLANS}
use Rattle.events.specs.declared.event.Mode.TheVariants as mode
use Rattle.events.specs.Words.{mode_of}
use Rattle.records.specs.{Fields.field, Lists.items_in, Numbers.number_in, Rows.Row}
use Rattle.plans.specs.declared.kinds.ElementKind.{ElementKind}
use Rattle.plans.specs.declared.kinds.ElementKind.TheVariants as element

-- the names of the fields, which stand in row 0
abbrev pub plans_header : List (List ℕ)
plans_header = codes "person" ∷ codes "plan" ∷ codes "kind" ∷ codes "name" ∷ codes "link" ∷ codes "time" ∷ codes "route" ∷ []

-- an activity, a leg of a mode, a leg of no known mode, or neither
unfoldable pub kind_of : Row → ElementKind
kind_of row =
    if bytes_eq (field row 2) (codes "act") then element.Act else
    if bytes_eq (field row 2) (codes "leg") then element.Leg (mode_of (field row 3)) else element.Neither

abbrev pub is_act : ElementKind → Bool
is_act element.Act = true
is_act (element.Leg mode) = false
is_act element.Neither = false

abbrev pub is_leg : ElementKind → Bool
is_leg element.Act = false
is_leg (element.Leg mode) = true
is_leg element.Neither = false

-- a leg by car
abbrev pub is_car : ElementKind → Bool
is_car element.Act = false
is_car (element.Leg (Some mode.Car)) = true
is_car (element.Leg (Some mode)) = false
is_car (element.Leg None) = false
is_car element.Neither = false

-- a leg by a vehicle of a line
abbrev pub is_transit : ElementKind → Bool
is_transit element.Act = false
is_transit (element.Leg (Some mode.Pt)) = true
is_transit (element.Leg (Some mode)) = false
is_transit (element.Leg None) = false
is_transit element.Neither = false

-- the number of the plan, from 0 on
abbrev pub plan_in : Row → Option ℕ
plan_in row = number_in 0 (MAX_PLANS - 1) (field row 1)

unfoldable pub plan_number : Row → ℕ
plan_number row = unwrap_or (plan_in row) 0

-- the planned end of an activity, 0 to 172,800 s
abbrev pub end_in : Row → Option ℕ
end_in row = number_in 0 LAST_SECOND (field row 5)

-- how long a teleported leg takes, 1 to 172,800 s
abbrev pub seconds_in : Row → Option ℕ
seconds_in row = number_in 1 LAST_SECOND (field row 5)

-- the items of the route
abbrev pub items_of : Row → List (List ℕ)
items_of row = items_in (field row 6)

abbrev pub item : List (List ℕ) → ℕ → List ℕ
item items place = get_or items place []
