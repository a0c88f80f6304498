-- In every iteration the memories are memories of the town, and a day of it can be made of the plans that are followed.
use Rattle.std.proofs.Common.{◌≡◌, ℕ, zero, suc, ◌+◌, List, [], ◌∷◌, length, map, Option, None, Some, ℤ, refl, ◌∙◌}
use Rattle.std.proofs.{Math.ListN.length-set, lemmas.List.Elements.All-from_recursion, lemmas.List.Elements.recursion_from_All}
use Rattle.std.specs.{List.enumerate_from, List.AllByRecursion as Each, Prelude.All, Prelude.slice_get}
use Rattle.events.specs.declared.event.Event.{Event}
use Rattle.learning.specs.Ranges.{AreInRange}
use Rattle.plan_memory.specs.Memories.{MemoryRows, chosen_plan}
use Rattle.town.specs.Rows.{TownRows, IsTown}
use Rattle.law_in_range.specs.Setups.{IsPlanIn}
use Rattle.law_replanning.proofs.Remembered.{all_in, chosen_in, replanned_count}
use Rattle.law_replanning.specs.{Memories.IsMemoryIn, Towns.IsBasisIn}
use Rattle.iterations.{proofs.Marked.scored_count, proofs.Seen.seen_fifo, specs.Acts.memories_behind, specs.Acts.memories_at}
use Rattle.iterations.specs.Days.{followed_plans, events_of, scores_in, with_own_score, scored, memories_after, basis_after, next_memories}
use Rattle.iterations.specs.Runs.{RunRows}

own_score_in : (T : TownRows) (m : MemoryRows) (o : Option ℤ) → IsMemoryIn T m → IsMemoryIn T (with_own_score m o)
own_score_in T m None is = is
own_score_in T m (Some score) is = record {
  few = is.few;
  each = length-set m.scores m.chosen (Some score) ∙ is.each;
  chosen = is.chosen;
  plans = is.plans;
}

scores_from : (T : TownRows) (k : ℕ) (memories : List MemoryRows) (scores : List ℤ) → Each (IsMemoryIn T) memories
    → Each (IsMemoryIn T) (map (λ (own : ℕ × MemoryRows). with_own_score own.1 (slice_get scores own.0)) (enumerate_from k memories))
scores_from T k [] scores all = tt
scores_from T k (m ∷ memories) scores all = (own_score_in T m (slice_get scores k) all.0, scores_from T (k + 1) memories scores all.1)

scored_in : (T : TownRows) (memories : List MemoryRows) (scores : List ℤ) → All (IsMemoryIn T) memories → All (IsMemoryIn T) (scored memories scores)
unfolding scored
scored_in T memories scores all =
    All-from_recursion (IsMemoryIn T) (map (λ (own : ℕ × MemoryRows). with_own_score own.1 (slice_get scores own.0)) (enumerate_from 0 memories))
    (scores_from T 0 memories scores (recursion_from_All (IsMemoryIn T) memories all))

plans_from : (T : TownRows) (memories : List MemoryRows) → Each (IsMemoryIn T) memories → Each (IsPlanIn T) (map chosen_plan memories)
plans_from T [] all = tt
plans_from T (m ∷ memories) all = (chosen_in T m all.0, plans_from T memories all.1)

pub followed_in : (T : TownRows) (memories : List MemoryRows) → All (IsMemoryIn T) memories → All (IsPlanIn T) (followed_plans memories)
followed_in T memories all =
    All-from_recursion (IsPlanIn T) (map chosen_plan memories) (plans_from T memories (recursion_from_All (IsMemoryIn T) memories all))

module _ (R : RunRows) (town : IsTown R.town) (learning : AreInRange R.learning) where
  next_in : (k : ℕ) (memories : List MemoryRows) → All (IsMemoryIn R.town) memories → All (IsMemoryIn R.town) (next_memories R k memories)
  unfolding next_memories memories_after
  next_in k memories all =
      let events : List Event = events_of R k memories in
      let own : IsBasisIn R.town (basis_after R (k + 1) events) = record {
        graph = refl;
        fifo = seen_fifo R.town.links events;
        ranges = record { learning = learning; end_second = town.settings.ends };
      } in
      all_in R.town town (basis_after R (k + 1) events) own (scored memories (scores_in R k memories))
      (scored_in R.town memories (scores_in R k memories) all)

  always_behind : (from : ℕ) (memories : List MemoryRows) → All (IsMemoryIn R.town) memories → (n : ℕ)
      → All (IsMemoryIn R.town) (memories_behind R from memories n)
  unfolding memories_behind
  always_behind from memories all zero = all
  always_behind from memories all (suc n) = next_in (from + n) (memories_behind R from memories n) (always_behind from memories all n)

  pub always_in : (first : List MemoryRows) → All (IsMemoryIn R.town) first → (k : ℕ) → All (IsMemoryIn R.town) (memories_at R first k)
  always_in first all k = always_behind 0 first all k

  -- and with their scores
  pub after_in : (first : List MemoryRows) → All (IsMemoryIn R.town) first → (k : ℕ)
      → All (IsMemoryIn R.town) (memories_after R k (memories_at R first k))
  unfolding memories_after
  after_in first all k = scored_in R.town (memories_at R first k) (scores_in R k (memories_at R first k)) (always_in first all k)

next_count : (R : RunRows) (k : ℕ) (memories : List MemoryRows) → length (next_memories R k memories) ≡ length memories
unfolding next_memories memories_after
next_count R k memories =
    replanned_count (basis_after R (k + 1) (events_of R k memories)) (scored memories (scores_in R k memories))
    ∙ scored_count memories (scores_in R k memories)

behind_count : (R : RunRows) (from : ℕ) (memories : List MemoryRows) (n : ℕ) → length (memories_behind R from memories n) ≡ length memories
unfolding memories_behind
behind_count R from memories zero = refl
behind_count R from memories (suc n) = next_count R (from + n) (memories_behind R from memories n) ∙ behind_count R from memories n

pub always_count : (R : RunRows) (first : List MemoryRows) (k : ℕ) → length (memories_at R first k) ≡ length first
always_count R first k = behind_count R 0 first k
