-- The lines of a plan in plans.csv: `person,plan,kind,name,link,time,route`.
use Rattle.std.specs.Prelude.{◌≡◌, ℕ, ◌+◌, Bool, true, ◌&&◌, nat_eq, nat_le, nat_lt, List, [], ◌∷◌, ◌++◌, length, map, codes, decimal, Option, None, Some}
use Rattle.std.specs.List.{list_all, flat_map, enumerate_from, join_with_byte}
use Rattle.limits.specs.declared.TheConstants.{MAX_LEGS, MAX_PLANS}
use Rattle.events.specs.{Names.name_at, Names.AreNames, Words.mode_text, declared.event.Book.Book}
use Rattle.records.specs.Rows.{Row}
use Rattle.plans.specs.Kinds.{plans_header}
use Rattle.rows.specs.{Plan.is_leg, Plan.are_acts, Plan.mode_of_leg, Plan.is_known, PlanRows.PlanRows, declared.plan.Act.Act, declared.plan.Leg.Leg}
use Rattle.rows.specs.declared.plan.Leg.TheVariants as leg

-- the line of a row: its fields with commas between them, and a line feed
unfoldable pub row_line : Row → List ℕ
row_line row = join_with_byte 44 row ++ codes "\n"

-- a planned end in its field, and nothing where there is none
abbrev pub end_text : Option ℕ → List ℕ
end_text None = []
end_text (Some second) = decimal second

-- the row of an activity
unfoldable pub act_row : Book → ℕ → ℕ → Act → Row
act_row book person index act =
    name_at book.persons person ∷ decimal index ∷ codes "act" ∷ name_at book.kinds act.kind ∷ name_at book.links act.link ∷ end_text act.end ∷ [] ∷ []

-- how long a teleported leg takes, in its field
abbrev pub seconds_text : Leg → List ℕ
seconds_text (leg.Car route) = []
seconds_text (leg.Teleport mode seconds) = decimal seconds
seconds_text (leg.Transit line access egress) = []

-- what the route of a leg names: the links of a car's way, or a line and the stops of access and egress
abbrev pub route_names : Book → Leg → List (List ℕ)
route_names book (leg.Car route) = map (name_at book.links) route
route_names book (leg.Teleport mode seconds) = []
route_names book (leg.Transit line access egress) = name_at book.lines line ∷ name_at book.stops access ∷ name_at book.stops egress ∷ []

-- the names of the route, with single spaces between them
unfoldable pub route_text : Book → Leg → List ℕ
route_text book leg = join_with_byte 32 (route_names book leg)

-- the row of a leg
unfoldable pub leg_row : Book → ℕ → ℕ → Leg → Row
leg_row book person index leg =
    name_at book.persons person ∷ decimal index ∷ codes "leg" ∷ mode_text (mode_of_leg leg) ∷ [] ∷ seconds_text leg ∷ route_text book leg ∷ []

-- the rows of activities, with the legs between them
unfoldable pub element_rows : Book → ℕ → ℕ → List Act → List Leg → List Row
element_rows book person index [] legs = []
element_rows book person index (act ∷ acts) [] = act_row book person index act ∷ element_rows book person index acts []
element_rows book person index (act ∷ acts) (leg ∷ legs) =
    act_row book person index act ∷ leg_row book person index leg ∷ element_rows book person index acts legs

-- the lines of activities and legs
unfoldable pub element_lines : Book → ℕ → ℕ → List Act → List Leg → List ℕ
element_lines book person index acts legs = flat_map row_line (element_rows book person index acts legs)

-- the lines of the plan of this number of a person
abbrev pub plan_lines : ℕ → ℕ → PlanRows → Book → List ℕ
plan_lines person index parts book = element_lines book person index parts.acts parts.legs

-- the book's lists are lists of names
pub record IsBook (book : Book) : Type 0 where
  pub persons : AreNames book.persons
  pub kinds : AreNames book.kinds
  pub links : AreNames book.links
  pub stops : AreNames book.stops
  pub lines : AreNames book.lines

-- an activity's kind and link have names in the book
abbrev pub is_act_in_book : Book → Act → Bool
is_act_in_book book act = is_known (length book.kinds) (length book.links) act

-- a leg's links, or its line and stops, have names in the book
abbrev pub is_leg_in_book : Book → Leg → Bool
is_leg_in_book book (leg.Car route) = list_all (λ link. nat_lt link (length book.links)) route
is_leg_in_book book (leg.Teleport mode seconds) = true
is_leg_in_book book (leg.Transit line access egress) = nat_lt line (length book.lines) && nat_lt access (length book.stops) && nat_lt egress (length book.stops)

-- every number of the activities and legs has a name in the book
unfoldable pub are_in_book : Book → List Act → List Leg → Bool
are_in_book book acts legs = list_all (is_act_in_book book) acts && list_all (is_leg_in_book book) legs

-- activities and legs that a plan may have: one activity more than legs, of which there are at most 8, each such as a plan keeps it
unfoldable pub are_plan : List Act → List Leg → Bool
are_plan acts legs = nat_eq (length acts) (length legs + 1) && nat_le (length legs) MAX_LEGS && are_acts acts && list_all is_leg legs

-- a plan whose numbers have names in the book
abbrev pub is_plan_in : Book → PlanRows → Bool
is_plan_in book parts = are_plan parts.acts parts.legs && are_in_book book parts.acts parts.legs

-- the bytes are the lines of this plan, and its numbers have names in the book
pub record IsTextOf (person index : ℕ) (book : Book) (bytes : List ℕ) (plan : PlanRows) : Type 0 where
  pub fits : is_plan_in book plan ≡ true
  pub lines : plan_lines person index plan book ≡ bytes

-- the lines of the plans of a person, numbered from a number on
abbrev pub own_lines : Book → ℕ → ℕ → List PlanRows → List ℕ
own_lines book person index plans = flat_map (λ (p : ℕ × PlanRows). plan_lines person p.0 p.1 book) (enumerate_from index plans)

-- the same of persons, numbered from a number on
abbrev pub persons_lines : Book → ℕ → List (List PlanRows) → List ℕ
persons_lines book person plans = flat_map (λ (own : ℕ × List PlanRows). own_lines book own.0 0 own.1) (enumerate_from person plans)

-- a file of plans: the header, and the lines of each person's plans
unfoldable pub plans_text : List (List PlanRows) → Book → List ℕ
plans_text plans book = row_line plans_header ++ persons_lines book 0 plans

-- every number of each of a person's plans has a name in the book, and no person has more plans than a file may have of him
abbrev pub are_own_in : Book → List PlanRows → Bool
are_own_in book plans = nat_le (length plans) MAX_PLANS && list_all (λ (p : PlanRows). are_in_book book p.acts p.legs) plans

-- the same of all persons
abbrev pub are_all_in : Book → List (List PlanRows) → Bool
are_all_in book plans = list_all (are_own_in book) plans
