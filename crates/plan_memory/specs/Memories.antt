-- What a person remembers: plans, each with a score or none, of which one is chosen.
use Rattle.std.specs.Prelude.{ℕ, zero, suc, ◌-◌, nat_eq, nat_lt, List, [], ◌∷◌, ◌++◌, length, replicate, remove, slice_set, slice_index_or, Option, None, Some}
use Rattle.std.specs.Prelude.{ℤ, if◌then◌else◌}
use Rattle.rows.specs.PlanRows.{PlanRows}
use Rattle.plan_memory.specs.{Choices.place_chosen, Scores.worst, Scores.best, declared.choices.Choice.Choice}

-- the plans and their scores, in the same order, and the place of the chosen plan
pub record MemoryRows : Type 0 where
  pub plans : List PlanRows
  pub scores : List (Option ℤ)
  pub chosen : ℕ

-- at first: the plans of the person's file in its order, none with a score, and the first one chosen
abbrev pub first_memory : List PlanRows → MemoryRows
first_memory plans = record { plans = plans; scores = replicate (length plans) None; chosen = 0 }

-- the plan that is chosen
abbrev pub chosen_plan : MemoryRows → PlanRows
chosen_plan m = slice_index_or m.plans m.chosen (record { acts = []; legs = [] })

-- a score for the chosen plan
abbrev pub with_score : MemoryRows → ℤ → MemoryRows
with_score m score = record { plans = m.plans; scores = slice_set m.scores m.chosen (Some score); chosen = m.chosen }

-- one more plan: it goes last, has no score, and is chosen
abbrev pub with_plan : MemoryRows → PlanRows → MemoryRows
with_plan m plan = record { plans = m.plans ++ plan ∷ []; scores = m.scores ++ None ∷ []; chosen = length m.plans }

-- another choice among the plans
abbrev pub with_choice : Choice → ℕ → ℕ → MemoryRows → MemoryRows
with_choice how unit word m = record { plans = m.plans; scores = m.scores; chosen = place_chosen how unit word m.scores }

-- the place of the chosen plan when a plan is dropped: where that was the chosen one, the best of those that are left is chosen
abbrev pub chosen_without : List (Option ℤ) → ℕ → ℕ → ℕ
chosen_without left place chosen = if nat_eq chosen place then best left else (if nat_lt place chosen then chosen - 1 else chosen)

-- the plan at a place dropped
abbrev pub without : ℕ → MemoryRows → MemoryRows
without place m = record {
  plans = remove m.plans place;
  scores = remove m.scores place;
  chosen = chosen_without (remove m.scores place) place m.chosen;
}

-- the worst plan dropped, so many times
unfoldable pub after_drops : ℕ → MemoryRows → MemoryRows
after_drops zero m = m
after_drops (suc drops) m = after_drops drops (without (worst m.scores) m)

-- no more plans than a size: while there are more, the worst one is dropped
abbrev pub reduced : ℕ → MemoryRows → MemoryRows
reduced size m = after_drops (length m.plans - size) m
