-- How kept rows are read, one after the other: what is read so far, and what one more row makes of it.
use Rattle.std.specs.Prelude.{ℕ, ◌&&◌, Bool, not, nat_eq, nat_lt, bytes_eq, if◌then◌else◌, List, [], ◌∷◌, ◌++◌, length, map, Option, None, Some}
use Rattle.std.specs.Prelude.{option_and_then, is_some, is_none, ℤ}
use Rattle.events.specs.Names.{name_at}
use Rattle.rows.specs.PlanRows.{PlanRows, plan_rows}
use Rattle.edge_files.specs.declared.keeping.KeptRow.{KeptRow}
use Rattle.plan_text.specs.{Elements.rows_in, Elements.acts_in, Elements.legs_in, Lines.is_plan_in, Lines.plan_lines}
use Rattle.plan_memory.specs.{Memories.MemoryRows, declared.TheConstants.MAX_HELD}
use Rattle.town.specs.{Fits.fits, Rows.TownRows}
use Rattle.keep.specs.declared.progress.{Begun.Begun, Reading.Reading}

-- the plans of a person of whom more rows may come, with their scores, and the number of the chosen one, where it is among them
pub record BegunRows : Type 0 where
  pub plans : List PlanRows
  pub scores : List (Option ℤ)
  pub chosen : Option ℕ

-- the memories of the persons whose rows are all read, and what is read of the next one
pub record Progress : Type 0 where
  pub done : List MemoryRows
  pub begun : BegunRows

-- nothing is read of the next person
abbrev pub nothing : BegunRows
nothing = record { plans = []; scores = []; chosen = None }

abbrev pub start : Progress
start = record { done = []; begun = nothing }

-- what the code has read
abbrev pub begun_of : Begun → BegunRows
begun_of b = record { plans = map plan_rows b.plans; scores = b.scores; chosen = b.chosen }

abbrev pub progress_of : Reading → Progress
progress_of r = record { done = r.done; begun = begun_of r.begun }

-- the activities and legs are those of a plan whose numbers have names, and which fits the town
abbrev pub is_fitting : TownRows → PlanRows → Bool
is_fitting T plan = is_plan_in T.book plan && fits T plan

-- the plan whose lines these are, where it fits the town
abbrev pub parts_in : TownRows → List ℕ → PlanRows
parts_in T bytes = record { acts = acts_in T.book (rows_in bytes); legs = legs_in T.book (rows_in bytes) }

unfoldable pub plan_in : TownRows → ℕ → ℕ → List ℕ → Option PlanRows
plan_in T person index bytes =
    if is_fitting T (parts_in T bytes) && bytes_eq (plan_lines person index (parts_in T bytes) T.book) bytes then Some (parts_in T bytes) else None

-- the person whose plans are begun is done with, and his memory stands behind those that are; at the start there is none
abbrev pub closed_by : Progress → Option ℕ → Option Progress
closed_by s None = None
closed_by s (Some chosen) = Some (record {
  done = s.done ++ (record { plans = s.begun.plans; scores = s.begun.scores; chosen = chosen }) ∷ [];
  begun = nothing;
})

unfoldable pub closed : Progress → Option Progress
closed s = if nat_eq (length s.begun.plans) 0 then Some s else closed_by s s.begun.chosen

-- the name is that of the person of this number
abbrev pub is_of : List (List ℕ) → ℕ → List ℕ → Bool
is_of persons person name = nat_lt person (length persons) && bytes_eq name (name_at persons person)

-- the row has the number of the next plan, of six at most, and is no second chosen one
abbrev pub is_numbered : BegunRows → KeptRow → Bool
is_numbered b row = nat_eq row.plan (length b.plans) && nat_lt (length b.plans) MAX_HELD && not (row.chosen && is_some b.chosen)

-- the row is the next one of the person whose plans are begun
unfoldable pub is_next : TownRows → Progress → KeptRow → Bool
is_next T s row = is_of T.book.persons (length s.done) row.person && is_numbered s.begun row

-- one more plan
abbrev pub choice_with : Option ℕ → KeptRow → Option ℕ
choice_with chosen row = if row.chosen then Some row.plan else chosen

abbrev pub begun_with : BegunRows → KeptRow → PlanRows → BegunRows
begun_with b row plan = record {
  plans = b.plans ++ plan ∷ [];
  scores = b.scores ++ row.score ∷ [];
  chosen = choice_with b.chosen row;
}

-- there are as many plans as there may be, and none is chosen
abbrev pub lacks_choice : BegunRows → Bool
lacks_choice b = nat_eq (length b.plans) MAX_HELD && is_none b.chosen

unfoldable pub grown : Progress → KeptRow → PlanRows → Option Progress
grown s row plan =
    if lacks_choice (begun_with s.begun row plan) then None else Some (record { done = s.done; begun = begun_with s.begun row plan })

-- one more row of the person whose plans are begun
unfoldable pub extended : TownRows → KeptRow → Progress → Option Progress
extended T row s = if is_next T s row then option_and_then (grown s row) (plan_in T (length s.done) row.plan row.body) else None

-- one more row: a row of plan 0 is the next person's
unfoldable pub step : TownRows → Progress → KeptRow → Option Progress
step T s row = option_and_then (extended T row) (if nat_eq row.plan 0 then closed s else Some s)

-- many rows
unfoldable pub run : TownRows → Progress → List KeptRow → Option Progress
run T s [] = Some s
run T s (row ∷ rows) = option_and_then (λ next. run T next rows) (step T s row)

-- the memories at the end, where there is one of each person
abbrev pub if_all : TownRows → Progress → Option (List MemoryRows)
if_all T s = if nat_eq (length s.done) (length T.book.persons) then Some s.done else None

unfoldable pub ended : TownRows → Progress → Option (List MemoryRows)
ended T s = option_and_then (if_all T) (closed s)
