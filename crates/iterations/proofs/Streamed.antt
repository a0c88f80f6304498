-- Events that are written as they come are written as effects are.
use Rattle.std.proofs.Common.{◌≡◌, ℕ, ℤ, List, ◌++◌, Result, Ok, Err, refl, sym, ◌∙◌, subst, arith, ap, length}
use Rattle.std.specs.Prelude.{Bool, None, Some}
use Rattle.edge_files.{proofs.Worlds.writes_does, proofs.Worlds.writes_part_does, specs.Effects.all_steps, specs.Keeping.Told}
use Rattle.edge_files.specs.{Keeping.StaysTold, World.Written, World.byte_steps, declared.effects.EffectError.EffectError, declared.files.OutFile.OutFile}
use Rattle.events.specs.declared.event.Event.{Event}
use Rattle.event_handler.specs.{Counts.stuck_count, Counts.AreCounted, declared.counts.EventCounts.EventCounts}
use Rattle.plan_memory.specs.Memories.{MemoryRows}
use Rattle.scoring.specs.Score.{total}
use Rattle.iterations.{proofs.Outside.all_done, specs.Acts.saves, specs.Performed.Moment, specs.Performed.moment}
use Rattle.iterations.specs.{Performed.IsPerformed, Performed.IsWritten, Performed.effect_error, Runs.RunRows, Texts.iteration_counts, Texts.iteration_line}
use Rattle.edge_files.specs.declared.files.OutFile.TheVariants as out
use Rattle.event_writer.specs.declared.writing.StreamError.{StreamError}
use Rattle.event_writer.specs.declared.writing.StreamError.TheVariants as stream
use Rattle.event_writer.specs.Writing as writer

stays : (kept : Told) → StaysTold kept kept
stays None = tt
stays (Some before) = tt

module _ (a b : Written) (kept : Told) (n m keeps : ℕ) (text : List ℕ) where
  pub streamed : {T : Type 0} (x : T) → writer.IsWritten a b n m text (Ok x)
      → IsWritten (moment a kept n keeps) (moment b kept m keeps) (byte_steps out.Events text) (Ok x)
  streamed x did =
      all_done (moment a kept n keeps) (moment b kept m keeps) (byte_steps out.Events text) x
      (writes_does a b kept out.Events text did.done) did.later (omega arith)

  pub not_streamed : {T U : Type 0} (e : StreamError) → writer.IsWritten {T = T} a b n m text (Err e)
      → IsWritten {T = U} (moment a kept n keeps) (moment b kept m keeps) (byte_steps out.Events text) (Err (effect_error e))
  not_streamed stream.WriteFailed did = record {
    done = tt;
    part = writes_part_does a b kept out.Events text did.part;
    write_later = did.later;
    keep_later = omega arith;
    write_failed = λ is. did.failed refl;
    keep_failed = λ is. absurd (cc);
    told = λ is. stays kept;
  }
  not_streamed stream.NoMemory did = record {
    done = tt;
    part = writes_part_does a b kept out.Events text did.part;
    write_later = did.later;
    keep_later = omega arith;
    write_failed = λ is. absurd (cc);
    keep_failed = λ is. absurd (cc);
    told = λ is. stays kept;
  }

  -- and why it was not is told as the error of an effect
  pub not_streamed_as : {T U : Type 0} (e : StreamError) (why : EffectError) → why ≡ effect_error e
      → writer.IsWritten {T = T} a b n m text (Err e)
      → IsWritten {T = U} (moment a kept n keeps) (moment b kept m keeps) (byte_steps out.Events text) (Err why)
  not_streamed_as {T} {U} e why is did =
      subst (λ (x : EffectError). IsWritten {T = U} (moment a kept n keeps) (moment b kept m keeps) (byte_steps out.Events text) (Err x))
      (sym is) (not_streamed {T = T} {U = U} e did)

-- another text that is the same
pub other_text : {T : Type 0} {k : Bool} (a b : Moment) (file : OutFile) (one other : List ℕ) (r : Result T EffectError) → one ≡ other
    → IsPerformed k a b (byte_steps file one) r → IsPerformed k a b (byte_steps file other) r
other_text {T} {k} a b file one other r same did = subst (λ (l : List ℕ). IsPerformed k a b (byte_steps file l) r) same did

-- the line of the report, by what was counted
pub reported : (k : ℕ) (counts : EventCounts) (events : List Event) (own scores : List ℤ) → AreCounted counts events → own ≡ scores
    → iteration_counts k counts.events counts.stuck (total own) ≡ iteration_line k events scores
reported k counts events own scores counted same =
    ap (λ (n : ℕ). iteration_counts k n counts.stuck (total own)) counted.all
    ∙ ap (λ (n : ℕ). iteration_counts k (length events) n (total own)) counted.stuck
    ∙ ap (λ (l : List ℤ). iteration_counts k (length events) (stuck_count events) (total l)) same

-- behind what was kept
pub saved_then : {T : Type 0} {keeps : Bool} (R : RunRows) (k : ℕ) (after : List MemoryRows) (a b : Moment) (one other : List ℕ)
    (r : Result T EffectError) → one ≡ other → IsPerformed keeps a b (all_steps (saves R k after) ++ byte_steps out.Report one) r
    → IsPerformed keeps a b (all_steps (saves R k after) ++ byte_steps out.Report other) r
saved_then {T} {keeps} R k after a b one other r same did =
    subst (λ (l : List ℕ). IsPerformed keeps a b (all_steps (saves R k after) ++ byte_steps out.Report l) r) same did
