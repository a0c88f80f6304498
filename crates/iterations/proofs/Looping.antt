-- The loop, iteration by iteration.
use Rattle.std.proofs.Common.{◌≡◌, ℕ, suc, ◌+◌, ◌-◌, ◌<◌, Bool, List, ◌++◌, Result, Ok, Err, refl, sym, ◌∙◌, ap, subst, arith}
use Rattle.edge_files.specs.{Effects.all_steps, World.Step, declared.effects.EffectError.EffectError}
use Rattle.edge_files.specs.declared.effects.EffectError.TheVariants as error
use Rattle.plan_memory.specs.Memories.{MemoryRows}
use Rattle.iterations.proofs.{Going.steps_more, Going.steps_last, Outside.IsGoing, Outside.going_on, Outside.going_failed, Outside.going_wanting}
use Rattle.iterations.{proofs.Outside.going_last, specs.Acts.iteration_effects}
use Rattle.iterations.specs.{Acts.end_effects, Acts.acts_behind, Days.memories_after, Days.next_memories, Performed.Moment, Performed.IsPerformed, Runs.RunRows}

module _ (R : RunRows) (k : ℕ) (memories : List MemoryRows) (a b : Moment) (all : List Step) where
  split : k < R.last_iteration → IsGoing a b all (all_steps (acts_behind R k memories (R.last_iteration - k)))
      → IsGoing a b all (all_steps (iteration_effects R k memories)
      ++ all_steps (acts_behind R (k + 1) (next_memories R k memories) (R.last_iteration - (k + 1))))
  split less going =
      let count : R.last_iteration - k ≡ suc (R.last_iteration - (k + 1)) = omega arith in
      subst (λ (l : List Step). IsGoing a b all l) (steps_more R k memories (R.last_iteration - k) (R.last_iteration - (k + 1)) count) going

  pub loop_on : {A : Type 0} {keeps : Bool} (c : Moment) (x : A) (new : List MemoryRows) → k < R.last_iteration
      → IsGoing a b all (all_steps (acts_behind R k memories (R.last_iteration - k)))
      → IsPerformed keeps b c (all_steps (iteration_effects R k memories)) (Ok x) → new ≡ next_memories R k memories
      → IsGoing a c all (all_steps (acts_behind R (k + 1) new (R.last_iteration - (k + 1))))
  loop_on c x new less going did is =
      subst (λ (ms : List MemoryRows). IsGoing a c all (all_steps (acts_behind R (k + 1) ms (R.last_iteration - (k + 1))))) (sym is)
      (going_on a b c all (all_steps (iteration_effects R k memories))
      (all_steps (acts_behind R (k + 1) (next_memories R k memories) (R.last_iteration - (k + 1)))) x (split less going) did)

  pub loop_failed : {A B : Type 0} {keeps : Bool} (c : Moment) (e : EffectError) → k < R.last_iteration
      → IsGoing a b all (all_steps (acts_behind R k memories (R.last_iteration - k)))
      → IsPerformed {T = A} keeps b c (all_steps (iteration_effects R k memories)) (Err e) → IsPerformed {T = B} keeps a c all (Err e)
  loop_failed {A} {B} c e less going did =
      going_failed {A = A} {B = B} a b c all (all_steps (iteration_effects R k memories))
      (all_steps (acts_behind R (k + 1) (next_memories R k memories) (R.last_iteration - (k + 1)))) e (split less going) did

  pub loop_wanting : {A B : Type 0} {keeps : Bool} (c : Moment) (x : A) → k < R.last_iteration
      → IsGoing a b all (all_steps (acts_behind R k memories (R.last_iteration - k)))
      → IsPerformed keeps b c (all_steps (iteration_effects R k memories)) (Ok x) → IsPerformed {T = B} keeps a c all (Err error.NoMemory)
  loop_wanting c x less going did =
      going_wanting a c all (all_steps (acts_behind R (k + 1) (next_memories R k memories) (R.last_iteration - (k + 1))))
      (loop_on c x (next_memories R k memories) less going did refl)

  pub loop_last : {A : Type 0} {keeps : Bool} (c : Moment) (r : Result A EffectError) → k ≡ R.last_iteration
      → IsGoing a b all (all_steps (acts_behind R k memories (R.last_iteration - k)))
      → IsPerformed keeps b c (all_steps (iteration_effects R R.last_iteration memories)
      ++ all_steps (end_effects R (memories_after R R.last_iteration memories))) r
      → IsPerformed keeps a c all r
  loop_last c r last going did =
      let none : R.last_iteration - k ≡ 0 = omega arith in
      let steps = steps_last R k memories (R.last_iteration - k) none
      ∙ ap (λ (n : ℕ). all_steps (iteration_effects R n memories) ++ all_steps (end_effects R (memories_after R n memories))) last in
      going_last a b c all (all_steps (iteration_effects R R.last_iteration memories)
      ++ all_steps (end_effects R (memories_after R R.last_iteration memories))) r
      (subst (λ (l : List Step). IsGoing a b all l) steps going) did
