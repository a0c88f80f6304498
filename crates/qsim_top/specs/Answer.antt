-- What a run answers and does outside.
use Rattle.std.specs.{Io.KnownBytes.Appends, List.list_all}
use Rattle.std.specs.Prelude.{◌≡◌, ◌≢◌, ◌⊎◌, ℕ, Bool, true, false, List, [], ◌∷◌, Option, None, Some}
use Rattle.edge_files.specs.{Effects.all_steps, Effects.has_save, Keeping.Kept, World.World, World.Written, World.is_same, World.Does, World.DoesPart}
use Rattle.edge_files.specs.declared.{effects.Effect.Effect, files.OutFile.OutFile}
use Rattle.edge_files.specs.declared.files.OutFile.TheVariants as out
use Rattle.edge_files.specs.declared.effects.Effect.TheVariants as effect
use Rattle.keep.specs.Fitting.{AreRowsOf, IsForeignAt}
use Rattle.plan_memory.specs.Memories.{MemoryRows}
use Rattle.iterations.specs.{Acts.acts, Continued.continued, Runs.RunRows}
use Rattle.route_report.specs.Report.{RoadMap, route_text}
use Rattle.town.specs.declared.town.Town.{Town}
use Rattle.scenario.specs.FilesToScenario.{ScenarioRows, scenario_fault, scenario_rows}
use Rattle.scenario.specs.{Texts.Texts, declared.faults.ScenarioFault.ScenarioFault}
use Rattle.command_line.specs.declared.commands.Command.{Command}
use Rattle.command_line.specs.declared.commands.Command.TheVariants as command
use Rattle.qsim_top.specs.Texts.{grid_line, no_way_line, nothing_kept_line, foreign_line, refused_line, valid_line}
use Rattle.qsim_top.specs.declared.answers.{Answer.Answer, Status.Status}
use Rattle.qsim_top.specs.declared.answers.Status.TheVariants as status

-- a text goes to the report, and nothing else is done
abbrev pub report : Status → List ℕ → Answer
report status text = record { status = status; effects = effect.Write out.Report text ∷ [] }

-- what a run of a scenario is made from, beside what its persons remember at first: whether what they remember after each iteration is kept
abbrev pub run_rows_of : Bool → ScenarioRows → RunRows
run_rows_of keeps S = record {
  town = S.town;
  scoring = S.scoring;
  learning = S.learning;
  last_iteration = S.last_iteration;
  keeps = keeps;
}

-- all iterations of a scenario are done, and its end
abbrev pub run_answer : ScenarioRows → Answer
run_answer S = record { status = status.Done; effects = acts (run_rows_of true S) S.memories }

-- a grid of this size and seed is told, and all iterations of its scenario are done, and its end; nothing is kept
abbrev pub grid_answer : ℕ → ℕ → ScenarioRows → Answer
grid_answer size seed S = record {
  status = status.Done;
  effects = effect.Write out.Report (grid_line size seed) ∷ acts (run_rows_of false S) S.memories;
}

-- the iterations behind one after which these memories were kept are done, and the end
abbrev pub resumed_answer : ScenarioRows → ℕ → List MemoryRows → Answer
resumed_answer S iteration memories = record { status = status.Done; effects = continued (run_rows_of true S) iteration memories }

-- A run goes on from what is kept, if anything is: from the memories whose rows these are, or the first row that is foreign is told.
abbrev pub Resumes : ScenarioRows → Option Kept → Answer → Type 0
Resumes S None a = a ≡ report status.NothingKept nothing_kept_line
Resumes S (Some kept) a =
    ((memories : List MemoryRows) × AreRowsOf S.town kept.rows memories × (a ≡ resumed_answer S kept.iteration memories))
    ⊎ ((place : ℕ) × IsForeignAt S.town kept.rows place × (a ≡ report status.Foreign (foreign_line place)))

-- the nodes and the links of a scenario, with their names
abbrev pub road_map : ScenarioRows → RoadMap
road_map S = record { node_names = S.node_names; link_names = S.town.book.links; links = S.town.links }

-- the same of a town
abbrev pub roads_of : Town → RoadMap
roads_of town = record { node_names = town.network.node_names; link_names = town.book.links; links = town.network.links }

-- the report of a route, or that no way joins the two nodes
abbrev pub route_or_none : Option (List ℕ) → Answer
route_or_none None = report status.NoWay no_way_line
route_or_none (Some text) = report status.Done text

-- the route of least arrival between nodes of these names, which is left in this second, is told
abbrev pub route_answer : List ℕ → List ℕ → ℕ → ScenarioRows → Answer
route_answer from to second S = route_or_none (route_text (road_map S) from to second)

-- what the work of a command on a valid scenario is, by what is kept, on which `resume` alone depends
abbrev pub Works : Command → ScenarioRows → Option Kept → Answer → Type 0
Works command.Run S kept a = a ≡ run_answer S
Works command.Resume S kept a = Resumes S kept a
Works command.Check S kept a = a ≡ report status.Done (valid_line S)
Works (command.Route from to second) S kept a = a ≡ route_answer from to second S
Works (command.Generate size seed last_iteration) S kept a = a ≡ grid_answer size seed S

-- a scenario with a fault is refused by its first one
abbrev pub WorksOrRefused : Command → Option ScenarioFault → ScenarioRows → Option Kept → Answer → Type 0
WorksOrRefused c None S kept a = Works c S kept a
WorksOrRefused c (Some fault) S kept a = a ≡ report status.Refused (refused_line fault)

-- the answer to a command with these files, by what is kept
unfoldable pub IsAnswerTo : Command → Texts → Option Kept → Answer → Type 0
IsAnswerTo c texts kept a = WorksOrRefused c (scenario_fault texts) (scenario_rows texts) kept a

-- With a status of an answer all its effects were done, in order and nothing else; with any other a front of their steps.
-- A failed read comes before all of them.
abbrev pub Answers : Answer → Status → World → World → Type 0
Answers a status.Done old new = (a.status ≡ status.Done) × Does old new (all_steps a.effects)
Answers a status.Usage old new = (a.status ≡ status.Usage) × Does old new (all_steps a.effects)
Answers a status.Refused old new = (a.status ≡ status.Refused) × Does old new (all_steps a.effects)
Answers a status.NothingKept old new = (a.status ≡ status.NothingKept) × Does old new (all_steps a.effects)
Answers a status.Foreign old new = (a.status ≡ status.Foreign) × Does old new (all_steps a.effects)
Answers a status.NoWay old new = (a.status ≡ status.NoWay) × Does old new (all_steps a.effects)
Answers a status.ReadFault old new = Does old new []
Answers a status.WriteFault old new = DoesPart old new (all_steps a.effects)
Answers a status.NoMemory old new = DoesPart old new (all_steps a.effects)
Answers a status.KeepFault old new = DoesPart old new (all_steps a.effects)

-- the statuses of an answer, which say that all its effects were done
abbrev pub is_whole : Status → Bool
is_whole status.Done = true
is_whole status.Usage = true
is_whole status.Refused = true
is_whole status.NothingKept = true
is_whole status.Foreign = true
is_whole status.NoWay = true
is_whole status.ReadFault = false
is_whole status.WriteFault = false
is_whole status.NoMemory = false
is_whole status.KeepFault = false

-- the statuses with which the words alone are answered: help was asked for, or they are refused
abbrev pub is_of_words : Status → Bool
is_of_words status.Done = true
is_of_words status.Usage = true
is_of_words _ = false

-- the statuses with which the report tells why nothing was done, and nothing else is written
abbrev pub reports_alone : Status → Bool
reports_alone status.Usage = true
reports_alone status.Refused = true
reports_alone status.NothingKept = true
reports_alone status.Foreign = true
reports_alone status.NoWay = true
reports_alone _ = false

-- an effect that writes to the report
abbrev pub is_report : Effect → Bool
is_report (effect.Write file text) = is_same file out.Report
is_report (effect.Save iteration rows) = false

-- what holds of every answer whose effects are there as a list: its status says that all is done, nothing is kept, and one that tells why
-- nothing was done writes to the report alone
pub record IsSound (a : Answer) : Type 0 where
  pub whole : is_whole a.status ≡ true
  pub kept : has_save a.effects ≡ false
  pub alone : reports_alone a.status ≡ true → list_all is_report a.effects ≡ true

-- it is this answer, which is sound
pub record IsAnswer (told a : Answer) : Type 0 where
  pub same : a ≡ told
  pub sound : IsSound a

-- no file but the report has grown, where that is told
abbrev pub OnlyReports : Written → Written → Type 0
OnlyReports old new = (file : OutFile) → file ≢ out.Report → Appends (old file) (new file) []

-- the number with which the program ends
unfoldable pub status_code : Status → ℕ
status_code status.Done = 0
status_code status.Usage = 2
status_code status.Refused = 3
status_code status.ReadFault = 4
status_code status.WriteFault = 5
status_code status.NoMemory = 6
status_code status.KeepFault = 7
status_code status.NothingKept = 8
status_code status.Foreign = 9
status_code status.NoWay = 10
