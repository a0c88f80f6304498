-- Memories as kept rows: a row for each plan.
use Rattle.std.specs.Prelude.{ℕ, nat_eq, Bool, false, List, map, Option, None, Some, ℤ}
use Rattle.std.specs.List.{flat_map, enumerate_from, zip}
use Rattle.events.specs.{Names.name_at, declared.event.Book.Book}
use Rattle.rows.specs.PlanRows.{PlanRows}
use Rattle.edge_files.specs.declared.keeping.KeptRow.{KeptRow}
use Rattle.plan_text.specs.Lines.{plan_lines}
use Rattle.plan_memory.specs.Memories.{MemoryRows}

-- the row of a plan: whose it is, its number among his plans, whether it is the chosen one, its score, and its lines in plans.csv
abbrev pub row_of : Book → ℕ → ℕ → Bool → PlanRows → Option ℤ → KeptRow
row_of book person index is_chosen plan score = record {
  person = name_at book.persons person;
  plan = index;
  chosen = is_chosen;
  score = score;
  body = plan_lines person index plan book;
}

-- whether the plan of this number is the chosen one, where one is chosen
abbrev pub is_choice : Option ℕ → ℕ → Bool
is_choice None index = false
is_choice (Some chosen) index = nat_eq index chosen

-- the rows of plans of a person with their scores, numbered from a number on
abbrev pub rows_from : Book → ℕ → Option ℕ → ℕ → List PlanRows → List (Option ℤ) → List KeptRow
rows_from book person chosen index plans scores =
    map (λ (e : ℕ × (PlanRows × Option ℤ)). row_of book person e.0 (is_choice chosen e.0) e.1.0 e.1.1) (enumerate_from index (zip plans scores))

-- the rows of a person's memory: his plans in order, numbered from 0
abbrev pub own_rows : Book → ℕ → MemoryRows → List KeptRow
own_rows book person m = rows_from book person (Some m.chosen) 0 m.plans m.scores

-- the rows of persons in order, numbered from a number on
abbrev pub persons_rows : Book → ℕ → List MemoryRows → List KeptRow
persons_rows book person memories = flat_map (λ (own : ℕ × MemoryRows). own_rows book own.0 own.1) (enumerate_from person memories)

-- the kept rows of the memories of all persons, by number
unfoldable pub kept_rows : Book → List MemoryRows → List KeptRow
kept_rows book memories = persons_rows book 0 memories
