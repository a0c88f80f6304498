-- What a run of several days does outside.
use Rattle.std.specs.Prelude.{ℕ, zero, suc, ◌+◌, List, [], ◌∷◌, ◌++◌, map, if◌then◌else◌}
use Rattle.std.specs.List.{flat_map, range_with_len}
use Rattle.edge_files.specs.declared.effects.Effect.{Effect}
use Rattle.edge_files.specs.declared.effects.Effect.TheVariants as effect
use Rattle.edge_files.specs.declared.files.OutFile.TheVariants as out
use Rattle.day_scores.specs.Texts.{scores_text}
use Rattle.plan_text.specs.Lines.{plans_text}
use Rattle.plan_memory.specs.Memories.{MemoryRows}
use Rattle.keep.specs.Kept.{kept_rows}
use Rattle.iterations.specs.Days.{events_of, scores_in, memories_after, next_memories}
use Rattle.iterations.specs.{Runs.RunRows, Texts.events_text, Texts.iteration_line, Texts.done_line, Written.written_plans}

-- the numbers of the chosen plans
abbrev pub chosen_numbers : List MemoryRows → List ℕ
chosen_numbers memories = map (λ (m : MemoryRows). m.chosen) memories

-- what is remembered after an iteration is kept, where the run keeps anything
unfoldable pub saves : RunRows → ℕ → List MemoryRows → List Effect
saves R iteration after = if R.keeps then effect.Save iteration (kept_rows R.town.book after) ∷ [] else []

-- an iteration is written: its events, and the scores of the plans that were followed; then what is remembered of it is kept, and its line
-- of the report is written
unfoldable pub iteration_effects : RunRows → ℕ → List MemoryRows → List Effect
iteration_effects R iteration memories =
    effect.Write out.Events (events_text iteration (events_of R iteration memories) R.town.book)
    ∷ effect.Write out.Scores (scores_text iteration R.town.book.persons (chosen_numbers memories) (scores_in R iteration memories))
    ∷ (saves R iteration (memories_after R iteration memories)
    ++ effect.Write out.Report (iteration_line iteration (events_of R iteration memories) (scores_in R iteration memories)) ∷ [])

-- the end is written: the plans that may be read again, and the last line of the report
unfoldable pub end_effects : RunRows → List MemoryRows → List Effect
end_effects R memories =
    effect.Write out.Plans (plans_text (map written_plans memories) R.town.book)
    ∷ effect.Write out.Report (done_line R.last_iteration)
    ∷ []

-- what is remembered so many iterations behind one that begins with these memories
unfoldable pub memories_behind : RunRows → ℕ → List MemoryRows → ℕ → List MemoryRows
memories_behind R from memories zero = memories
memories_behind R from memories (suc n) = next_memories R (from + n) (memories_behind R from memories n)

-- what is remembered when an iteration of a run begins, whose first one, with the number 0, begins with these memories: before that nobody
-- replans
abbrev pub memories_at : RunRows → List MemoryRows → ℕ → List MemoryRows
memories_at R first iteration = memories_behind R 0 first iteration

-- so many iterations, of which the first one has this number and begins with these memories
unfoldable pub iterations_effects : RunRows → ℕ → List MemoryRows → ℕ → List Effect
iterations_effects R from memories count =
    flat_map (λ n. iteration_effects R (from + n) (memories_behind R from memories n)) (range_with_len 0 count)

-- an iteration that begins with these memories and so many behind it, and the end
unfoldable pub acts_behind : RunRows → ℕ → List MemoryRows → ℕ → List Effect
acts_behind R from memories count =
    iterations_effects R from memories (suc count) ++ end_effects R (memories_after R (from + count) (memories_behind R from memories count))

-- a run that begins with these memories: all iterations from 0 to the last, and the end
abbrev pub acts : RunRows → List MemoryRows → List Effect
acts R first = acts_behind R 0 first R.last_iteration
