-- What comes of the work of a command is its answer, with a status of its work.
use Rattle.std.proofs.Common.{◌≡◌, ◌⊎◌, ℕ, Bool, true, false, List, Option, None, Some, Result, Err, refl, sym, ◌∙◌, ap, subst, inl, inr}
use Rattle.edge_files.specs.Keeping.{Kept}
use Rattle.iterations.specs.Performed.{Moment}
use Rattle.scenario.specs.FilesToScenario.{ScenarioRows, scenario_fault, scenario_rows}
use Rattle.scenario.specs.{Texts.Texts, declared.faults.ScenarioFault.ScenarioFault, declared.scenario.Scenario.Scenario}
use Rattle.scenario.specs.declared.faults.Stop.TheVariants as stop
use Rattle.qsim_top.specs.Answer.{report, run_answer, grid_answer, route_answer, route_or_none, road_map, Works, WorksOrRefused, IsAnswerTo, Answers}
use Rattle.qsim_top.specs.{Came.HasKept, Came.uses_keeper, Came.is_of_work, Came.is_fault, Came.IsCarriedOut, Came.IsWorked, Reading.IsRead, Texts.refused_line}
use Rattle.qsim_top.specs.{Texts.valid_line, declared.answers.Answer.Answer, declared.answers.Status.Status, declared.reading.NoScenario.NoScenario}
use Rattle.qsim_top.specs.declared.reading.NoScenario.TheVariants as no_scenario
use Rattle.command_line.specs.declared.commands.Command.{Command}
use Rattle.command_line.specs.declared.commands.Command.TheVariants as command
use Rattle.route_report.specs.Report.{route_text}
use Rattle.qsim_top.specs.declared.answers.Status.TheVariants as status

-- a fault is a status of the work of each command that may call the keeper if that may be called
fault_of_work : (c : Command) (keeps : Bool) (came : Status) → (keeps ≡ true → uses_keeper c ≡ true) → is_fault keeps came ≡ true
    → is_of_work c came ≡ true
fault_of_work c keeps status.WriteFault uses is = refl
fault_of_work c keeps status.NoMemory uses is = refl
fault_of_work c keeps status.KeepFault uses is = uses is
fault_of_work c keeps status.Done uses is = refl
fault_of_work c keeps status.Refused uses is = refl
fault_of_work c keeps status.Usage uses is = absurd (cc)
fault_of_work c keeps status.ReadFault uses is = absurd (cc)
fault_of_work c keeps status.NothingKept uses is = absurd (cc)
fault_of_work c keeps status.Foreign uses is = absurd (cc)
fault_of_work c keeps status.NoWay uses is = absurd (cc)

pub ends_of_work : (c : Command) (keeps : Bool) (came whole : Status) → (keeps ≡ true → uses_keeper c ≡ true) → is_of_work c whole ≡ true
    → (is_fault keeps came ≡ true) ⊎ (came ≡ whole) → is_of_work c came ≡ true
ends_of_work c keeps came whole uses of (inl fault) = fault_of_work c keeps came uses fault
ends_of_work c keeps came whole uses of (inr same) = ap (is_of_work c) same ∙ of

-- work that has one answer
worked : (c : Command) (S : ScenarioRows) (keeps : Bool) (told : Answer) (came : Status) (old new : Moment)
    → ((kept : Option Kept) (a : Answer) → Works c S kept a → a ≡ told) → (keeps ≡ true → uses_keeper c ≡ true)
    → is_of_work c told.status ≡ true → IsCarriedOut keeps told came old new → IsWorked c S came old new
worked c S keeps told came old new one uses of did = record {
  acts = λ kept a held works. subst (λ (b : Answer). Answers b came old.world new.world) (sym (one kept a works)) did.acts;
  of_work = ends_of_work c keeps came told.status uses of did.ends;
  causes = did.causes;
}

-- the same of the work of this command
pub work_of : (c d : Command) (S : ScenarioRows) (came : Status) (old new : Moment) → c ≡ d → IsWorked d S came old new → IsWorked c S came old new
work_of c d S came old new is did = subst (λ (e : Command). IsWorked e S came old new) (sym is) did

pub run_worked : (c : Command) (S : ScenarioRows) (came : Status) (old new : Moment) → c ≡ command.Run → IsCarriedOut true (run_answer S) came old new
    → IsWorked c S came old new
run_worked c S came old new is did =
    work_of c command.Run S came old new is (worked command.Run S true (run_answer S) came old new (λ kept a works. works) (λ uses. refl) refl did)

pub check_worked : (c : Command) (S : ScenarioRows) (came : Status) (old new : Moment) → c ≡ command.Check
    → IsCarriedOut false (report status.Done (valid_line S)) came old new → IsWorked c S came old new
check_worked c S came old new is did =
    work_of c command.Check S came old new is
    (worked command.Check S false (report status.Done (valid_line S)) came old new (λ kept a works. works) (λ uses. cc) refl did)

-- a route is told, or that there is none
route_of_work : (from to : List ℕ) (second : ℕ) (text : Option (List ℕ)) → is_of_work (command.Route from to second) (route_or_none text).status ≡ true
route_of_work from to second None = refl
route_of_work from to second (Some text) = refl

pub route_worked : (c : Command) (from to : List ℕ) (second : ℕ) (S : ScenarioRows) (came : Status) (old new : Moment)
    → c ≡ command.Route from to second → IsCarriedOut false (route_answer from to second S) came old new → IsWorked c S came old new
route_worked c from to second S came old new is did =
    work_of c (command.Route from to second) S came old new is
    (worked (command.Route from to second) S false (route_answer from to second S) came old new (λ kept a works. works) (λ uses. cc)
    (route_of_work from to second (route_text (road_map S) from to second)) did)

pub grid_worked : (c : Command) (size seed last_iteration : ℕ) (S : ScenarioRows) (came : Status) (old new : Moment)
    → c ≡ command.Generate size seed last_iteration → IsCarriedOut false (grid_answer size seed S) came old new → IsWorked c S came old new
grid_worked c size seed last_iteration S came old new is did =
    work_of c (command.Generate size seed last_iteration) S came old new is
    (worked (command.Generate size seed last_iteration) S false (grid_answer size seed S) came old new (λ kept a works. works) (λ uses. cc) refl did)

-- a command that does not call the keeper does not end with its failure
pub unkept_by : (c : Command) (came : Status) → is_of_work c came ≡ true → uses_keeper c ≡ false → came ≡ status.KeepFault → ⊥
unkept_by c came of off is = let bad : true ≡ false = sym of ∙ ap (is_of_work c) is ∙ off in absurd (cc)

pub uses_it : (c d : Command) → c ≡ d → uses_keeper d ≡ true → uses_keeper c ≡ false → ⊥
uses_it c d is uses off = let bad : true ≡ false = sym uses ∙ ap uses_keeper (sym is) ∙ off in absurd (cc)

-- WHOLE ANSWERS
worked_or_refused : (c : Command) (S : ScenarioRows) (fault : Option ScenarioFault) (rows : ScenarioRows) (came : Status) (old new : Moment)
    → fault ≡ None → S ≡ rows → IsWorked c S came old new
    → (kept : Option Kept) (a : Answer) → HasKept c old.world.kept kept → WorksOrRefused c fault rows kept a → Answers a came old.world new.world
worked_or_refused c S fault rows came old new none same did kept a held is =
    let works : Works c rows kept a = subst (λ (f : Option ScenarioFault). WorksOrRefused c f rows kept a) none is in
    did.acts kept a held (subst (λ (T : ScenarioRows). Works c T kept a) (sym same) works)

-- the work on the scenario that files give is the answer to these files
pub answered : (c : Command) (texts : Texts) (S : ScenarioRows) (came : Status) (old new : Moment) → scenario_fault texts ≡ None
    → S ≡ scenario_rows texts → IsWorked c S came old new
    → (kept : Option Kept) (a : Answer) → HasKept c old.world.kept kept → IsAnswerTo c texts kept a → Answers a came old.world new.world
unfolding IsAnswerTo
answered c texts S came old new none same did kept a held is =
    worked_or_refused c S (scenario_fault texts) (scenario_rows texts) came old new none same did kept a held is

refused_by : (c : Command) (fault : Option ScenarioFault) (rows : ScenarioRows) (told : ScenarioFault) (kept : Option Kept) (a : Answer)
    → fault ≡ Some told → WorksOrRefused c fault rows kept a → a ≡ report status.Refused (refused_line told)
refused_by c fault rows told kept a some is = subst (λ (f : Option ScenarioFault). WorksOrRefused c f rows kept a) some is

-- and so is a refusal
pub refused : (c : Command) (texts : Texts) (fault : ScenarioFault) (came : Status) (old new : Moment) → scenario_fault texts ≡ Some fault
    → IsCarriedOut false (report status.Refused (refused_line fault)) came old new
    → (kept : Option Kept) (a : Answer) → IsAnswerTo c texts kept a → Answers a came old.world new.world
unfolding IsAnswerTo
refused c texts fault came old new some did kept a is =
    subst (λ (b : Answer). Answers b came old.world new.world)
    (sym (refused_by c (scenario_fault texts) (scenario_rows texts) fault kept a some is)) did.acts

pub refused_of_work : (c : Command) (told came : Status) → told ≡ status.Refused → (is_fault false came ≡ true) ⊎ (came ≡ told) → is_of_work c came ≡ true
refused_of_work c told came is ends = ends_of_work c false came told (λ bad. cc) (ap (is_of_work c) is) ends

-- the fault that was told is the first one of the files
pub stopped_at : (r : Result Scenario NoScenario) (fault : ScenarioFault) (texts : Texts) → r ≡ Err (no_scenario.Stopped (stop.Fault fault)) → IsRead r texts
    → scenario_fault texts ≡ Some fault
stopped_at r fault texts same read = subst (λ (q : Result Scenario NoScenario). IsRead q texts) same read
