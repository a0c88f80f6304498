-- What came of the words of a command line.
use Rattle.std.specs.Prelude.{◌≡◌, ◌⊎◌, ◌≤◌, ℕ, Bool, true, false, List, Option, None, Some, Result, Ok, Err}
use Rattle.edge_files.specs.{Causes.Rose, Inputs.Left, Keeping.Kept, Keeping.Told, Keeping.StaysTold, World.World, declared.effects.EffectError.EffectError}
use Rattle.edge_files.specs.declared.effects.EffectError.TheVariants as error
use Rattle.iterations.specs.Performed.{Moment}
use Rattle.scenario.specs.{FilesToScenario.ScenarioRows, FilesToScenario.scenario_fault, Texts.Texts}
use Rattle.workload.specs.Texts.{grid_texts}
use Rattle.command_line.specs.{Cases.Case, Cases.Work, Cases.Help, Cases.Refused, declared.commands.Command.Command}
use Rattle.command_line.specs.declared.commands.Command.TheVariants as command
use Rattle.qsim_top.specs.Answer.{IsAnswerTo, Works, report, reports_alone, Answers, OnlyReports}
use Rattle.qsim_top.specs.{Contents.Contents, Contents.AreLeft, Contents.texts_in, declared.answers.Answer.Answer, declared.answers.Status.Status}
use Rattle.qsim_top.specs.declared.answers.Status.TheVariants as status

-- these are the files that are read, whose bytes are told
abbrev pub AreRead : Left → Texts → Type 0
AreRead left texts = (contents : Contents) × AreLeft left contents × (texts ≡ texts_in contents)

-- the files of a command: those of the grid that it makes, or those that it reads
abbrev pub HasFiles : Command → Left → Texts → Type 0
HasFiles (command.Generate size seed last_iteration) left texts = texts ≡ grid_texts size seed last_iteration
HasFiles _ left texts = AreRead left texts

-- what is kept, which is told, where the command goes on from it
abbrev pub HasKept : Command → Told → Option Kept → Type 0
HasKept command.Resume told kept = told ≡ Some kept
HasKept _ told kept = Unit {0}

-- what a command does
pub record Traits : Type 0 where
  -- it reads files
  pub reads : Bool
  -- it calls the keeper
  pub keeps : Bool
  -- it goes on from what is kept
  pub resumes : Bool
  -- it looks for a way
  pub searches : Bool

abbrev pub traits_of : Command → Traits
traits_of command.Run = record { reads = true; keeps = true; resumes = false; searches = false }
traits_of command.Resume = record { reads = true; keeps = true; resumes = true; searches = false }
traits_of command.Check = record { reads = true; keeps = false; resumes = false; searches = false }
traits_of (command.Route from to second) = record { reads = true; keeps = false; resumes = false; searches = true }
traits_of (command.Generate size seed last_iteration) = record { reads = false; keeps = false; resumes = false; searches = false }

-- each by itself
abbrev pub reads_files : Command → Bool
reads_files c = (traits_of c).reads

abbrev pub uses_keeper : Command → Bool
uses_keeper c = (traits_of c).keeps

abbrev pub goes_on : Command → Bool
goes_on c = (traits_of c).resumes

abbrev pub looks_for_way : Command → Bool
looks_for_way c = (traits_of c).searches

-- the statuses with which the work of a command may end: the usage is told of refused words alone
abbrev pub is_of_work : Command → Status → Bool
is_of_work c status.Done = true
is_of_work c status.Usage = false
is_of_work c status.Refused = true
is_of_work c status.ReadFault = reads_files c
is_of_work c status.WriteFault = true
is_of_work c status.NoMemory = true
is_of_work c status.KeepFault = uses_keeper c
is_of_work c status.NothingKept = goes_on c
is_of_work c status.Foreign = goes_on c
is_of_work c status.NoWay = looks_for_way c

-- What came of a command's work is what its answer says, by its files, where these are told, and by what is kept, where it goes on from that:
-- of files with a fault, also where that is not told.
abbrev pub AnswersWork : Command → Left → Status → World → World → Type 0
AnswersWork c left came old new =
    (texts : Texts) (kept : Option Kept) (a : Answer) → HasFiles c left texts
    → (scenario_fault texts ≡ None → HasKept c old.kept kept) → IsAnswerTo c texts kept a → Answers a came old new

-- Help and refused words are told some text of the program's own, whatever the files hold; and only refused words have the usage told. In how
-- many partitions, and by how many workers, days are computed plays no part, nor does whether their events are written while they run.
abbrev pub AnswersCase : Case → Left → Status → World → World → Type 0
AnswersCase (Work c partitions workers streams) left came old new = AnswersWork c left came old new × (is_of_work c came ≡ true)
AnswersCase Help left came old new = (text : List ℕ) × Answers (report status.Done text) came old new
AnswersCase Refused left came old new = (text : List ℕ) × Answers (report status.Usage text) came old new

-- the same work, in so many partitions, by so many workers, and with the events of days written while they run or not
abbrev pub computed_so : ℕ → ℕ → Bool → Case → Case
computed_so partitions workers streams (Work c others more before) = Work c partitions workers streams
computed_so partitions workers streams Help = Help
computed_so partitions workers streams Refused = Refused

-- the words ask for work that calls the keeper
abbrev pub may_keep : Case → Bool
may_keep (Work c partitions workers streams) = uses_keeper c
may_keep Help = false
may_keep Refused = false

-- the status at the end: this one where all was done, or why it was not
abbrev pub status_after : Status → Result (Unit {0}) EffectError → Status
status_after whole (Ok done) = whole
status_after whole (Err error.WriteFailed) = status.WriteFault
status_after whole (Err error.KeepFailed) = status.KeepFault
status_after whole (Err error.NoMemory) = status.NoMemory

-- Why it ended so, by the counts of faults before and now: a write that failed and a keeper that did show in their counts; nothing was read; a
-- write that failed lets no keeper stop telling; and why nothing was done is told in the report alone.
pub record HasCauses (came : Status) (old new : Moment) : Type 0 where
  pub write_later : old.writes ≤ new.writes
  pub keep_later : old.keeps ≤ new.keeps
  pub write : came ≡ status.WriteFault → Rose old.writes new.writes
  pub keep : came ≡ status.KeepFault → Rose old.keeps new.keeps
  pub read : came ≡ status.ReadFault → ⊥
  pub told : came ≡ status.WriteFault → StaysTold old.world.kept new.world.kept
  pub reports : reports_alone came ≡ true → OnlyReports old.world.written new.world.written

-- the statuses which say that not all was done, where the keeper may be called or may not
abbrev pub is_fault : Bool → Status → Bool
is_fault keeps status.WriteFault = true
is_fault keeps status.NoMemory = true
is_fault keeps status.KeepFault = keeps
is_fault keeps _ = false

-- what came of an answer: it was done as the status says, which is its own where nothing failed
pub record IsCarriedOut (keeps : Bool) (a : Answer) (came : Status) (old new : Moment) : Type 0 where
  pub acts : Answers a came old.world new.world
  pub ends : (is_fault keeps came ≡ true) ⊎ (came ≡ a.status)
  pub causes : HasCauses came old new

-- what came of a command's work on a valid scenario
pub record IsWorked (c : Command) (S : ScenarioRows) (came : Status) (old new : Moment) : Type 0 where
  pub acts : (kept : Option Kept) (a : Answer) → HasKept c old.world.kept kept → Works c S kept a → Answers a came old.world new.world
  pub of_work : is_of_work c came ≡ true
  pub causes : HasCauses came old new
