-- What a keeper holds, and what comes of going on from it.
use Rattle.std.specs.Prelude.{◌≡◌, true, Option, Some}
use Rattle.edge_files.specs.Keeping.{Kept, Told, kept_of}
use Rattle.iterations.specs.Performed.{Moment}
use Rattle.scenario.specs.FilesToScenario.{ScenarioRows}
use Rattle.command_line.specs.declared.commands.Command.TheVariants as command
use Rattle.qsim_top.specs.{Answer.Resumes, Answer.Answers, Came.is_of_work, Came.HasCauses}
use Rattle.qsim_top.specs.declared.{answers.Answer.Answer, answers.Status.Status, resuming.Held.Held}

abbrev pub held_view : Held → Kept
held_view held = kept_of held.iteration held.rows.items

-- this is what is kept, where that is told
abbrev pub IsHeld : Told → Option Kept → Type 0
IsHeld told held = (kept : Option Kept) → told ≡ Some kept → held ≡ kept

-- what came of going on from this
pub record IsResumed (S : ScenarioRows) (kept : Option Kept) (came : Status) (old new : Moment) : Type 0 where
  pub acts : (a : Answer) → Resumes S kept a → Answers a came old.world new.world
  pub of_work : is_of_work command.Resume came ≡ true
  pub causes : HasCauses came old new
