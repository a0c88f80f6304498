-- A run that goes on from what was kept does the rest of the whole run.
use Rattle.std.proofs.Common.{◌≡◌, ℕ, zero, suc, ◌+◌, ◌-◌, ◌<◌, ◌≤◌, Bool, true, false, cond, List, ◌++◌, refl, sym, ◌∙◌, ap, arith, zero-add}
use Rattle.std.{proofs.lemmas.Bool.Decides.nat_tests, specs.List.range_with_len, specs.Prelude.nat_lt}
use Rattle.edge_files.specs.{Keeping.kept_of, declared.effects.Effect.Effect}
use Rattle.events.specs.declared.event.Event.{Event}
use Rattle.keep.{proofs.Either.one_list, specs.Kept.kept_rows}
use Rattle.plan_memory.specs.Memories.{MemoryRows}
use Rattle.replanning.specs.Persons.{all_replanned}
use Rattle.iterations.proofs.{Going.alike, Going.acts_split, Marked.same_events, ReadBack.run_back}
use Rattle.iterations.specs.Acts.{saves, iteration_effects, end_effects, memories_behind, memories_at, iterations_effects, acts_behind, acts}
use Rattle.iterations.specs.Continued.{begun_after, continued, GoesOn}
use Rattle.iterations.specs.{Days.events_of, Days.scores_in, Days.memories_after, Days.basis_after, Days.next_memories, Runs.RunRows, Runs.until, Runs.IsRun}

less : (a b : ℕ) → nat_lt a b ≡ true → a < b
less a b e = grind (arith, nat_tests)

last_one : (a b : ℕ) → nat_lt a b ≡ false → a ≤ b → a ≡ b
last_one a b e h = grind (arith, nat_tests)

module _ (R : RunRows) (first : List MemoryRows) where
  -- the next iteration begins with what persons make of what they remember
  begun_at : (k : ℕ) → begun_after R k (memories_after R k (memories_at R first k)) ≡ memories_at R first (suc k)
  unfolding memories_behind next_memories
  begun_at k =
      ap (λ (events : List Event). all_replanned (basis_after R (k + 1) events) (memories_after R k (memories_at R first k)))
      (same_events R k (memories_at R first k))
      ∙ ap (λ (n : ℕ). next_memories R n (memories_at R first k)) (sym (zero-add k))

  -- the end, behind the last iteration
  ended : (k : ℕ) → k ≡ R.last_iteration → acts R first
      ≡ iterations_effects R 0 first (suc k) ++ end_effects R (memories_after R k (memories_at R first k))
  unfolding acts_behind
  ended k last =
      ap (acts_behind R 0 first) (sym last)
      ∙ ap (λ (n : ℕ). iterations_effects R 0 first (suc k) ++ end_effects R (memories_after R n (memories_at R first k))) (zero-add k)

  going_by : (k : ℕ) (b : Bool) → nat_lt k R.last_iteration ≡ b → k ≤ R.last_iteration → acts R first
      ≡ iterations_effects R 0 first (suc k)
      ++ cond b (acts_behind R (k + 1) (begun_after R k (memories_after R k (memories_at R first k))) (R.last_iteration - (k + 1)))
      (end_effects R (memories_after R k (memories_at R first k)))
  going_by k true is within =
      let below : k < R.last_iteration = less k R.last_iteration is in
      let count : R.last_iteration ≡ suc k + (R.last_iteration - (k + 1)) = omega arith in
      let next : 0 + suc k ≡ k + 1 = omega arith in
      ap (acts_behind R 0 first) count
      ∙ acts_split R 0 first (suc k) (R.last_iteration - (k + 1))
      ∙ ap (λ (n : ℕ). iterations_effects R 0 first (suc k) ++ acts_behind R n (memories_at R first (suc k)) (R.last_iteration - (k + 1))) next
      ∙ ap (λ (ms : List MemoryRows). iterations_effects R 0 first (suc k) ++ acts_behind R (k + 1) ms (R.last_iteration - (k + 1))) (sym (begun_at k))
  going_by k false is within = ended k (last_one k R.last_iteration is within)

  pub goes_on : (k : ℕ) → k ≤ R.last_iteration
      → acts R first ≡ iterations_effects R 0 first (suc k) ++ continued R k (memories_after R k (memories_at R first k))
  unfolding continued
  goes_on k within = going_by k (nat_lt k R.last_iteration) refl within

  -- what is done behind an iteration: the next one and those behind it, and the end
  pub continues : (k : ℕ) → continued R k (memories_after R k (memories_at R first k))
      ≡ cond (nat_lt k R.last_iteration) (acts_behind R (k + 1) (memories_at R first (k + 1)) (R.last_iteration - (k + 1)))
      (end_effects R (memories_after R k (memories_at R first k)))
  unfolding continued
  continues k =
      let next : suc k ≡ k + 1 = omega arith in
      ap (λ (ms : List MemoryRows). cond (nat_lt k R.last_iteration) (acts_behind R (k + 1) ms (R.last_iteration - (k + 1)))
      (end_effects R (memories_after R k (memories_at R first k)))) (begun_at k ∙ ap (λ (n : ℕ). memories_at R first n) next)

-- ANOTHER LAST ITERATION CHANGES NOTHING OF AN ITERATION
module _ (R : RunRows) (last : ℕ) where
  after_until : (k : ℕ) (memories : List MemoryRows) → memories_after (until R last) k memories ≡ memories_after R k memories
  unfolding memories_after scores_in events_of
  after_until k memories = refl

  next_until : (k : ℕ) (memories : List MemoryRows) → next_memories (until R last) k memories ≡ next_memories R k memories
  unfolding next_memories memories_after scores_in events_of
  next_until k memories = refl

  effects_until : (k : ℕ) (memories : List MemoryRows) → iteration_effects (until R last) k memories ≡ iteration_effects R k memories
  unfolding iteration_effects saves memories_after scores_in events_of
  effects_until k memories = refl

  behind_until : (from : ℕ) (memories : List MemoryRows) (n : ℕ) → memories_behind (until R last) from memories n ≡ memories_behind R from memories n
  unfolding memories_behind
  behind_until from memories zero = refl
  behind_until from memories (suc n) =
      next_until (from + n) (memories_behind (until R last) from memories n) ∙ ap (next_memories R (from + n)) (behind_until from memories n)

  pub kept_until : (first : List MemoryRows) (k : ℕ)
      → memories_after (until R last) k (memories_at (until R last) first k) ≡ memories_after R k (memories_at R first k)
  kept_until first k = after_until k (memories_at (until R last) first k) ∙ ap (memories_after R k) (behind_until 0 first k)

  all_until : (from : ℕ) (memories : List MemoryRows) (count : ℕ)
      → iterations_effects (until R last) from memories count ≡ iterations_effects R from memories count
  unfolding iterations_effects
  all_until from memories count =
      alike (λ n. iteration_effects (until R last) (from + n) (memories_behind (until R last) from memories n))
      (λ n. iteration_effects R (from + n) (memories_behind R from memories n))
      (λ n. effects_until (from + n) (memories_behind (until R last) from memories n) ∙ ap (iteration_effects R (from + n)) (behind_until from memories n))
      (range_with_len 0 count)

  pub goes_further : (first : List MemoryRows) (k : ℕ) → k ≤ last → acts (until R last) first
      ≡ iterations_effects R 0 first (suc k) ++ continued (until R last) k (memories_after R k (memories_at R first k))
  goes_further first k within =
      goes_on (until R last) first k within
      ∙ ap (λ (l : List Effect). l ++ continued (until R last) k (memories_after (until R last) k (memories_at (until R last) first k))) (all_until 0 first (suc k))
      ∙ ap (λ (ms : List MemoryRows). iterations_effects R 0 first (suc k) ++ continued (until R last) k ms)
      (kept_until first k)

  -- what was kept is read back, and so what is done is the rest
  pub rest_of : (first : List MemoryRows) (k : ℕ) (effects : List Effect) → IsRun R first
      → GoesOn (until R last) (kept_of k (kept_rows R.town.book (memories_after R k (memories_at R first k)))) effects
      → effects ≡ continued (until R last) k (memories_after (until R last) k (memories_at (until R last) first k))
  rest_of first k effects is goes =
      let after : List MemoryRows = memories_after R k (memories_at R first k) in
      let same : goes.0 ≡ after = one_list R.town is.book (kept_rows R.town.book after) after goes.0 (run_back R first is k) goes.1 in
      goes.2 ∙ ap (continued (until R last) k) (same ∙ sym (kept_until first k))

  -- so does a run that goes on from what was kept
  pub resumes : (first : List MemoryRows) (k : ℕ) (effects : List Effect) → IsRun R first → k ≤ last
      → GoesOn (until R last) (kept_of k (kept_rows R.town.book (memories_after R k (memories_at R first k)))) effects
      → acts (until R last) first ≡ iterations_effects R 0 first (suc k) ++ effects
  resumes first k effects is within goes =
      goes_further first k within
      ∙ ap (λ (ms : List MemoryRows). iterations_effects R 0 first (suc k) ++ continued (until R last) k ms) (sym (kept_until first k))
      ∙ ap (λ (l : List Effect). iterations_effects R 0 first (suc k) ++ l) (sym (rest_of first k effects is goes))
