-- What came of effects that were to be done outside.
use Rattle.std.specs.Prelude.{◌≡◌, ℕ, ◌≤◌, Bool, true, false, List, Result, Err, OnOk, OnErr}
use Rattle.edge_files.specs.{Causes.Rose, Keeping.Told, Keeping.StaysTold, World.World, World.Written, World.Step, World.outside, World.Does, World.DoesPart}
use Rattle.edge_files.specs.declared.effects.EffectError.{EffectError}
use Rattle.edge_files.specs.declared.effects.EffectError.TheVariants as error
use Rattle.event_writer.specs.declared.writing.StreamError.{StreamError}
use Rattle.event_writer.specs.declared.writing.StreamError.TheVariants as stream

-- the outside at a moment: what outputs and a keeper tell, and how often a write and a call of the keeper have failed
pub record Moment : Type 0 where
  pub world : World
  pub writes : ℕ
  pub keeps : ℕ

abbrev pub moment : Written → Told → ℕ → ℕ → Moment
moment written kept writes keeps = record { world = outside written kept; writes = writes; keeps = keeps }

-- All steps were done, or a front of them where a write or the keeper failed or memory was wanting; a count of faults shows which of them
-- failed. The keeper may fail only where it may be called, and only its refusal, or want of memory, lets it stop telling.
pub record IsPerformed {T : Type 0} (may_keep : Bool) (old new : Moment) (steps : List Step) (result : Result T EffectError) : Type 0 where
  pub done : OnOk result (Does old.world new.world steps)
  pub part : OnErr result (DoesPart old.world new.world steps)
  pub write_later : old.writes ≤ new.writes
  pub keep_later : old.keeps ≤ new.keeps
  pub write_failed : result ≡ Err error.WriteFailed → Rose old.writes new.writes
  pub keep_failed : result ≡ Err error.KeepFailed → (may_keep ≡ true) × Rose old.keeps new.keeps
  pub told : result ≡ Err error.WriteFailed → StaysTold old.world.kept new.world.kept

-- the same where the keeper is not called
abbrev pub IsWritten : {T : Type 0} → Moment → Moment → List Step → Result T EffectError → Type 0
IsWritten old new steps result = IsPerformed false old new steps result

-- why events were not written, as the error of an effect
abbrev pub effect_error : StreamError → EffectError
effect_error stream.WriteFailed = error.WriteFailed
effect_error stream.NoMemory = error.NoMemory
