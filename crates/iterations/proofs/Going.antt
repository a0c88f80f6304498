-- The acts of a run, iteration by iteration.
use Rattle.std.proofs.Common.{◌≡◌, ℕ, zero, suc, ◌+◌, ◌-◌, List, [], ◌∷◌, ◌++◌, refl, sym, ◌∙◌, ap, subst, arith, append_assoc, append-nil, add-zero, zero-add}
use Rattle.std.{proofs.lemmas.Grind.flat_map-append, specs.List.flat_map, specs.List.range_with_len}
use Rattle.edge_files.{proofs.Worlds.all_steps-append, specs.Effects.all_steps, specs.World.Step, specs.World.byte_steps, specs.declared.effects.Effect.Effect}
use Rattle.edge_files.specs.declared.effects.Effect.TheVariants as effect
use Rattle.edge_files.specs.declared.files.OutFile.TheVariants as out
use Rattle.events.specs.declared.event.Event.{Event}
use Rattle.day_scores.specs.Texts.{scores_text}
use Rattle.plan_memory.specs.Memories.{MemoryRows}
use Rattle.replanning.specs.Persons.{all_replanned}
use Rattle.town.specs.Rows.{IsTown}
use Rattle.law_replanning.{proofs.Remembered.all_fit_again, proofs.Remembered.replanned_count, specs.Towns.IsBasisIn}
use Rattle.iterations.{proofs.Seen.seen_fifo, specs.Acts.chosen_numbers, specs.Acts.saves, specs.Acts.iteration_effects, specs.Acts.end_effects}
use Rattle.iterations.specs.{Acts.memories_behind, Acts.iterations_effects, Acts.acts_behind, Continued.begun_after, Days.events_of, Days.scores_in}
use Rattle.iterations.specs.{Days.memories_after, Days.basis_after, Days.next_memories, Runs.RunRows, Runs.CanRun, Texts.events_text, Texts.iteration_line}

-- SOME ITERATIONS, AND THOSE BEHIND THEM
split_range : (a n m : ℕ) → range_with_len a (n + m) ≡ range_with_len a n ++ range_with_len (a + n) m
split_range a zero m = ap (range_with_len a) (zero-add m) ∙ ap (λ (k : ℕ). range_with_len k m) (sym (add-zero a))
split_range a (suc n) m =
    let next : a + 1 + n ≡ a + suc n = omega arith in
    let count : suc n + m ≡ suc (n + m) = omega arith in
    ap (range_with_len a) count
    ∙ ap (λ (l : List ℕ). a ∷ l) (split_range (a + 1) n m ∙ ap (λ (k : ℕ). range_with_len (a + 1) n ++ range_with_len k m) next)

shifted : (f : ℕ → List Effect) (a b n : ℕ) → flat_map f (range_with_len (a + b) n) ≡ flat_map (λ k. f (a + k)) (range_with_len b n)
shifted f a b zero = refl
shifted f a b (suc n) =
    let next : a + b + 1 ≡ a + (b + 1) = omega arith in
    ap (λ (l : List Effect). f (a + b) ++ l) (ap (λ (k : ℕ). flat_map f (range_with_len k n)) next ∙ shifted f a (b + 1) n)

pub alike : (f g : ℕ → List Effect) → ((k : ℕ) → f k ≡ g k) → (ks : List ℕ) → flat_map f ks ≡ flat_map g ks
alike f g same [] = refl
alike f g same (k ∷ ks) = ap (λ (l : List Effect). l ++ flat_map f ks) (same k) ∙ ap (λ (l : List Effect). g k ++ l) (alike f g same ks)

module _ (R : RunRows) (from : ℕ) (memories : List MemoryRows) where
  pub memories_split : (n m : ℕ) → memories_behind R from memories (n + m) ≡ memories_behind R (from + n) (memories_behind R from memories n) m
  unfolding memories_behind
  memories_split n zero = ap (memories_behind R from memories) (add-zero n)
  memories_split n (suc m) =
      let count : n + suc m ≡ suc (n + m) = omega arith in
      let place : from + (n + m) ≡ from + n + m = omega arith in
      ap (memories_behind R from memories) count
      ∙ ap (next_memories R (from + (n + m))) (memories_split n m)
      ∙ ap (λ (k : ℕ). next_memories R k (memories_behind R (from + n) (memories_behind R from memories n) m)) place

  iterations_split : (n m : ℕ) → iterations_effects R from memories (n + m)
      ≡ iterations_effects R from memories n ++ iterations_effects R (from + n) (memories_behind R from memories n) m
  unfolding iterations_effects
  iterations_split n m =
      let f : ℕ → List Effect = λ i. iteration_effects R (from + i) (memories_behind R from memories i) in
      let g : ℕ → List Effect = λ i. iteration_effects R (from + n + i) (memories_behind R (from + n) (memories_behind R from memories n) i) in
      let place : 0 + n ≡ n + 0 = omega arith in
      let same : (i : ℕ) → f (n + i) ≡ g i = λ i.
      let number : from + (n + i) ≡ from + n + i = omega arith in
      ap (iteration_effects R (from + (n + i))) (memories_split n i)
      ∙ ap (λ (k : ℕ). iteration_effects R k (memories_behind R (from + n) (memories_behind R from memories n) i)) number in
      ap (flat_map f) (split_range 0 n m) ∙ flat_map-append f (range_with_len 0 n) (range_with_len (0 + n) m)
      ∙ ap (λ (l : List Effect). flat_map f (range_with_len 0 n) ++ l)
      (ap (λ (k : ℕ). flat_map f (range_with_len k m)) place ∙ shifted f n 0 m ∙ alike (λ i. f (n + i)) g same (range_with_len 0 m))

  pub acts_split : (n m : ℕ) → acts_behind R from memories (n + m)
      ≡ iterations_effects R from memories n ++ acts_behind R (from + n) (memories_behind R from memories n) m
  unfolding acts_behind
  acts_split n m =
      let count : suc (n + m) ≡ n + suc m = omega arith in
      let place : from + (n + m) ≡ from + n + m = omega arith in
      let later : List MemoryRows = memories_behind R from memories n in
      let last : memories_after R (from + (n + m)) (memories_behind R from memories (n + m)) ≡ memories_after R (from + n + m) (memories_behind R (from + n) later m) =
      ap (memories_after R (from + (n + m))) (memories_split n m)
      ∙ ap (λ (k : ℕ). memories_after R k (memories_behind R (from + n) later m)) place in
      ap (λ (l : List Effect). l ++ end_effects R (memories_after R (from + (n + m)) (memories_behind R from memories (n + m))))
      (ap (iterations_effects R from memories) count ∙ iterations_split n (suc m))
      ∙ ap (λ (ms : List MemoryRows). (iterations_effects R from memories n ++ iterations_effects R (from + n) later (suc m)) ++ end_effects R ms) last
      ∙ append_assoc (iterations_effects R from memories n) (iterations_effects R (from + n) later (suc m))
      (end_effects R (memories_after R (from + n + m) (memories_behind R (from + n) later m)))

  one_iteration : iterations_effects R from memories 1 ≡ iteration_effects R from memories
  unfolding iterations_effects memories_behind
  one_iteration =
      append-nil (iteration_effects R (from + 0) memories) ∙ ap (λ (k : ℕ). iteration_effects R k memories) (add-zero from)

  one_behind : memories_behind R from memories 1 ≡ next_memories R from memories
  unfolding memories_behind
  one_behind = ap (λ (k : ℕ). next_memories R k memories) (add-zero from)

  -- one iteration, and those behind it
  acts_more : (n : ℕ) → acts_behind R from memories (suc n)
      ≡ iteration_effects R from memories ++ acts_behind R (from + 1) (next_memories R from memories) n
  acts_more n =
      let count : suc n ≡ 1 + n = omega arith in
      ap (acts_behind R from memories) count ∙ acts_split 1 n
      ∙ ap (λ (l : List Effect). l ++ acts_behind R (from + 1) (memories_behind R from memories 1) n) one_iteration
      ∙ ap (λ (ms : List MemoryRows). iteration_effects R from memories ++ acts_behind R (from + 1) ms n) one_behind

  pub steps_more : (left n : ℕ) → left ≡ suc n → all_steps (acts_behind R from memories left)
      ≡ all_steps (iteration_effects R from memories) ++ all_steps (acts_behind R (from + 1) (next_memories R from memories) n)
  steps_more left n is =
      ap (λ (k : ℕ). all_steps (acts_behind R from memories k)) is ∙ ap all_steps (acts_more n)
      ∙ all_steps-append (iteration_effects R from memories) (acts_behind R (from + 1) (next_memories R from memories) n)

  -- an iteration, and the end
  acts_last : acts_behind R from memories 0 ≡ iteration_effects R from memories ++ end_effects R (memories_after R from memories)
  unfolding acts_behind memories_behind
  acts_last =
      ap (λ (l : List Effect). l ++ end_effects R (memories_after R (from + 0) memories)) one_iteration
      ∙ ap (λ (k : ℕ). iteration_effects R from memories ++ end_effects R (memories_after R k memories)) (add-zero from)

  pub steps_last : (left : ℕ) → left ≡ 0 → all_steps (acts_behind R from memories left)
      ≡ all_steps (iteration_effects R from memories) ++ all_steps (end_effects R (memories_after R from memories))
  steps_last left is =
      ap (λ (k : ℕ). all_steps (acts_behind R from memories k)) is ∙ ap all_steps acts_last
      ∙ all_steps-append (iteration_effects R from memories) (end_effects R (memories_after R from memories))

-- THE STEPS OF AN ITERATION
pub iteration_steps : (R : RunRows) (k : ℕ) (memories : List MemoryRows)
    → (byte_steps out.Events (events_text k (events_of R k memories) R.town.book)
    ++ byte_steps out.Scores (scores_text k R.town.book.persons (chosen_numbers memories) (scores_in R k memories)))
    ++ (all_steps (saves R k (memories_after R k memories))
    ++ byte_steps out.Report (iteration_line k (events_of R k memories) (scores_in R k memories)))
    ≡ all_steps (iteration_effects R k memories)
unfolding iteration_effects
iteration_steps R k memories =
    let events : List Step = byte_steps out.Events (events_text k (events_of R k memories) R.town.book) in
    let scores : List Step = byte_steps out.Scores (scores_text k R.town.book.persons (chosen_numbers memories) (scores_in R k memories)) in
    let line : List ℕ = iteration_line k (events_of R k memories) (scores_in R k memories) in
    let kept : List Effect = saves R k (memories_after R k memories) in
    append_assoc events scores (all_steps kept ++ byte_steps out.Report line)
    ∙ ap (λ (l : List Step). events ++ (scores ++ l))
    (ap (λ (l : List Step). all_steps kept ++ l) (sym (append-nil (byte_steps out.Report line)))
    ∙ sym (all_steps-append kept (effect.Write out.Report line ∷ [])))

-- MEMORIES FROM ITERATION TO ITERATION
pub next_is : (R : RunRows) (k : ℕ) (memories after new : List MemoryRows) (events : List Event) → events ≡ events_of R k memories
    → after ≡ memories_after R k memories → new ≡ all_replanned (basis_after R (k + 1) events) after → new ≡ next_memories R k memories
unfolding next_memories
next_is R k memories after new events events_are after_is is =
    is ∙ ap (λ (es : List Event). all_replanned (basis_after R (k + 1) es) after) events_are
    ∙ ap (all_replanned (basis_after R (k + 1) (events_of R k memories))) after_is

pub begun_is : (R : RunRows) (k : ℕ) (kept new : List MemoryRows) (events : List Event) → events ≡ events_of R k kept
    → new ≡ all_replanned (basis_after R (k + 1) events) kept → new ≡ begun_after R k kept
begun_is R k kept new events events_are is = is ∙ ap (λ (es : List Event). all_replanned (basis_after R (k + 1) es) kept) events_are

-- what persons of the town replan by
pub basis_in : (R : RunRows) (k : ℕ) (events : List Event) → IsTown R.town → (memories : List MemoryRows) → CanRun R memories
    → IsBasisIn R.town (basis_after R k events)
basis_in R k events town memories can = record {
  graph = refl;
  fifo = seen_fifo R.town.links events;
  ranges = record { learning = can.learning; end_second = town.settings.ends };
}

-- a run can go on with memories of persons who have replanned
pub can_again : (R : RunRows) (k : ℕ) (events : List Event) (memories new : List MemoryRows) → IsTown R.town → CanRun R memories
    → new ≡ all_replanned (basis_after R k events) memories → CanRun R new
can_again R k events memories new town can is =
    let basis = basis_after R k events in
    subst (CanRun R) (sym is) (record {
      learning = can.learning;
      each = replanned_count basis memories ∙ can.each;
      fit = all_fit_again R.town town basis (basis_in R k events town memories can) memories can.fit;
    })
