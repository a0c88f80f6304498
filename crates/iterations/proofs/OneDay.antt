-- The day of an iteration is written, then what is remembered of it is kept, and then comes its line of the report.
use Rattle.std.proofs.Common.{◌≡◌, ℕ, Bool, List, ◌++◌, Result, Ok, Err, ℤ, refl, ◌∙◌, ap}
use Rattle.edge_files.specs.{Effects.all_steps, World.Step, World.byte_steps, declared.effects.EffectError.EffectError}
use Rattle.edge_files.specs.declared.effects.EffectError.TheVariants as error
use Rattle.edge_files.specs.declared.files.OutFile.TheVariants as out
use Rattle.events.specs.declared.event.Event.{Event}
use Rattle.day_scores.specs.Texts.{scores_text}
use Rattle.plan_memory.specs.Memories.{MemoryRows}
use Rattle.iterations.proofs.{Going.iteration_steps, Outside.written, Outside.done_but, Outside.same_steps, Outside.first_failed, Outside.one_then}
use Rattle.iterations.specs.{Acts.chosen_numbers, Acts.saves, Acts.iteration_effects, Days.events_of, Days.scores_in, Days.memories_after, Performed.Moment}
use Rattle.iterations.specs.{Performed.IsPerformed, Performed.IsWritten, Runs.RunRows, Texts.events_text, Texts.iteration_line}

-- what is written of a day
unfoldable pub day_steps : RunRows → ℕ → List Event → List ℤ → List ℕ → List Step
day_steps R k events scores chosen =
    byte_steps out.Events (events_text k events R.town.book) ++ byte_steps out.Scores (scores_text k R.town.book.persons chosen scores)

-- what comes behind it
unfoldable pub later_steps : RunRows → ℕ → List Event → List ℤ → List MemoryRows → List Step
later_steps R k events scores after = all_steps (saves R k after) ++ byte_steps out.Report (iteration_line k events scores)

module _ (R : RunRows) (k : ℕ) (memories : List MemoryRows) (events : List Event) (scores : List ℤ) (chosen : List ℕ)
    (events_are : events ≡ events_of R k memories) (scores_are : scores ≡ scores_in R k memories) (chosen_are : chosen ≡ chosen_numbers memories) where
  whole : (after : List MemoryRows) → after ≡ memories_after R k memories
      → day_steps R k events scores chosen ++ later_steps R k events scores after ≡ all_steps (iteration_effects R k memories)
  unfolding day_steps later_steps
  whole after is =
      ap (λ (es : List Event). day_steps R k es scores chosen ++ later_steps R k es scores after) events_are
      ∙ ap (λ (own : List ℤ). day_steps R k (events_of R k memories) own chosen ++ later_steps R k (events_of R k memories) own after) scores_are
      ∙ ap (λ (ns : List ℕ). day_steps R k (events_of R k memories) (scores_in R k memories) ns
      ++ later_steps R k (events_of R k memories) (scores_in R k memories) after) chosen_are
      ∙ ap (λ (ms : List MemoryRows). day_steps R k (events_of R k memories) (scores_in R k memories) (chosen_numbers memories)
      ++ later_steps R k (events_of R k memories) (scores_in R k memories) ms) is
      ∙ iteration_steps R k memories

  pub day_failed : {A B : Type 0} (keeps : Bool) (a b : Moment) (e : EffectError)
      → IsWritten {T = A} a b (byte_steps out.Events (events_text k events R.town.book)
      ++ byte_steps out.Scores (scores_text k R.town.book.persons chosen scores)) (Err e)
      → IsPerformed {T = B} keeps a b (all_steps (iteration_effects R k memories)) (Err e)
  unfolding day_steps
  day_failed {A} {B} keeps a b e did =
      let rest : List Step = later_steps R k events scores (memories_after R k memories) in
      same_steps a b (day_steps R k events scores chosen ++ rest) (all_steps (iteration_effects R k memories)) (Err e)
      (whole (memories_after R k memories) refl)
      (first_failed {A = A} {B = B} a b (day_steps R k events scores chosen) rest e (written keeps a b (day_steps R k events scores chosen) (Err e) did))

  pub day_then : {A B : Type 0} (keeps : Bool) (a b c : Moment) (x : A) (after : List MemoryRows) (r : Result B EffectError)
      → after ≡ memories_after R k memories
      → IsWritten a b (byte_steps out.Events (events_text k events R.town.book)
      ++ byte_steps out.Scores (scores_text k R.town.book.persons chosen scores)) (Ok x)
      → IsPerformed keeps b c (all_steps (saves R k after) ++ byte_steps out.Report (iteration_line k events scores)) r
      → IsPerformed keeps a c (all_steps (iteration_effects R k memories)) r
  unfolding day_steps later_steps
  day_then keeps a b c x after r is first second =
      same_steps a c (day_steps R k events scores chosen ++ later_steps R k events scores after) (all_steps (iteration_effects R k memories)) r
      (whole after is) (one_then a b c (day_steps R k events scores chosen) (later_steps R k events scores after) x r first second)

  pub day_wanting : {A B : Type 0} (keeps : Bool) (a b : Moment) (x : A)
      → IsWritten a b (byte_steps out.Events (events_text k events R.town.book)
      ++ byte_steps out.Scores (scores_text k R.town.book.persons chosen scores)) (Ok x)
      → IsPerformed {T = B} keeps a b (all_steps (iteration_effects R k memories)) (Err error.NoMemory)
  unfolding day_steps
  day_wanting {A} {B} keeps a b x did =
      let rest : List Step = later_steps R k events scores (memories_after R k memories) in
      same_steps a b (day_steps R k events scores chosen ++ rest) (all_steps (iteration_effects R k memories)) (Err error.NoMemory)
      (whole (memories_after R k memories) refl)
      (first_failed {A = B} {B = B} a b (day_steps R k events scores chosen) rest error.NoMemory
      (written keeps a b (day_steps R k events scores chosen) (Err error.NoMemory) (done_but a b (day_steps R k events scores chosen) x did)))
