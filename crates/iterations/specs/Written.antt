-- The plans that are written at the end of a run, so that they can be read again.
use Rattle.std.specs.Prelude.{ℕ, not, nat_eq, nat_lt, List, [], ◌∷◌, length, map, filter, remove, slice_index_or, Option, None, ℤ, if◌then◌else◌}
use Rattle.std.specs.List.{range_with_len}
use Rattle.limits.specs.declared.TheConstants.{MAX_PLANS}
use Rattle.rows.specs.PlanRows.{PlanRows}
use Rattle.plan_memory.specs.{Memories.MemoryRows, Scores.worst}

-- the places of the plans that are not chosen
abbrev pub other_places : MemoryRows → List ℕ
other_places m = filter (λ place. not (nat_eq place m.chosen)) (range_with_len 0 (length m.plans))

-- the scores of the plans at these places
abbrev pub scores_at : MemoryRows → List ℕ → List (Option ℤ)
scores_at m places = map (λ place. slice_index_or m.scores place None) places

-- those of the others that a file may have beside the chosen one: of as many as a file may have of a person, the worst is left out
abbrev pub kept_places : MemoryRows → List ℕ → List ℕ
kept_places m others = if nat_lt (length others) MAX_PLANS then others else remove others (worst (scores_at m others))

-- the places of the plans that are written: first the chosen one, and then the others in their order
unfoldable pub written_places : MemoryRows → List ℕ
written_places m = m.chosen ∷ kept_places m (other_places m)

abbrev pub plan_at : MemoryRows → ℕ → PlanRows
plan_at m place = slice_index_or m.plans place (record { acts = []; legs = [] })

-- these plans
unfoldable pub written_plans : MemoryRows → List PlanRows
written_plans m = map (plan_at m) (written_places m)
