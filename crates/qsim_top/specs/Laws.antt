-- What holds of the day of every iteration of a scenario.
use Rattle.std.specs.Prelude.{◌≡◌, ◌≢◌, ◌↔◌, ◌⊎◌, ◌<◌, ◌≤◌, ℕ, suc, Bool, true, List, ◌∷◌, ◌++◌, length, All, Option, Some}
use Rattle.edge_files.specs.{Effects.all_steps, Keeping.Kept, Keeping.kept_of, World.Step, World.kept_after}
use Rattle.events.specs.declared.event.{Event.Event, Phase.Phase}
use Rattle.events.specs.declared.event.Phase.TheVariants as phase
use Rattle.traffic.specs.{Day.turns_of, Day.world_start, Day.world_at, Day.day, Frames.Ascends, Moves.run, Rows.World, Setup.Setup, Worlds.OnePlace}
use Rattle.traffic.specs.{Worlds.Storage, Worlds.FlowKept, Worlds.Sound, declared.moves.Move.Move, declared.stage.Stage.TheVariants.Buffer}
use Rattle.law_capacity.specs.Moves.{IsElsewhere, second_moves, KeepsRule}
use Rattle.law_matches_plans.specs.Planned.{IsToldAsPlanned}
use Rattle.law_partitions.specs.Laws.{IsOwner, GoesInParts}
use Rattle.law_signals.specs.Signals.{KeepsSignals, NeverTogether}
use Rattle.parts.specs.Owners.{Owner}
use Rattle.scenario.specs.{FilesToScenario.ScenarioRows, FilesToScenario.conflicts_in, Texts.Texts}
use Rattle.signals.specs.declared.conflict.Conflict.{Conflict}
use Rattle.day_scores.specs.Standing.{AreScored}
use Rattle.route_report.specs.Reported.{NoWay, IsReport}
use Rattle.qsim_top.specs.declared.answers.Status.TheVariants as status
use Rattle.town.specs.Rows.{TownRows}
use Rattle.keep.specs.Kept.{kept_rows}
use Rattle.iterations.specs.{Acts.memories_at, Acts.iterations_effects, Acts.acts, Days.day_in, Days.memories_after}
use Rattle.qsim_top.specs.{Answer.run_rows_of, Answer.road_map, Answer.report, Answer.route_answer, Answer.Resumes, declared.answers.Answer.Answer}

-- the setup of the day of an iteration of a run that keeps what is remembered or does not, on which each person follows the plan that he has
-- chosen by then
abbrev pub day_of : Bool → ScenarioRows → ℕ → Setup
day_of keeps scenario k = day_in (run_rows_of keeps scenario) k (memories_at (run_rows_of keeps scenario) scenario.memories k)

-- The laws of a day: in every second each person is in exactly one place; no queue has more rows that were not pushed in than its storage;
-- at the moment when a vehicle enters a queue there is room, or it is stuck and is pushed in; no more vehicles pass than the flow allows, and
-- only the turns of links, which these are counted of, bring a vehicle to a buffer; a vehicle leaves a link, or is removed from its buffer, only
-- where the link is green; and the events are in the order of their keys, none of a second past the end.
pub record IsLawful (S : Setup) : Type 0 where
  pub one_place : (t : ℕ) → OnePlace S (world_at S t)
  pub storage : (t : ℕ) → Storage S (world_at S t)
  pub entering : (t : ℕ) (before later : List Move) (m : Move)
      → second_moves S t (world_at S t) ≡ before ++ m ∷ later → KeepsRule S t (run S t before (world_at S t)) m
  pub flow : FlowKept S (world_start S)
  pub flow_elsewhere : (t n : ℕ) (p : Phase) (W : World) → p ≢ phase.D → All (IsElsewhere Buffer) (turns_of S t p n W)
  pub green : All (KeepsSignals S) (day S)
  pub order : Ascends (day S)
  pub in_time : All (λ (e : Event). e.key.second ≤ S.settings.end_second) (day S)

-- The laws of a day in a town of which each plan that is followed fits the town: it has each person that the town names; in every second each
-- person and each vehicle fits the plans and the timetable that it comes from; what is told of a person comes as his plan has it, in at most
-- eight events for each leg; and so the events of each can be scored one after the other.
pub record FollowsPlans (town : TownRows) (S : Setup) : Type 0 where
  pub everybody : length S.persons ≡ length town.book.persons
  pub sound : (t : ℕ) → Sound S (world_at S t)
  pub told : (i : ℕ) → i < length S.persons → IsToldAsPlanned S i
  pub scored : AreScored (length S.persons) (day S)

-- in no second of the day do vehicles leave both links of a conflict of signals.csv
abbrev pub KeepsConflicts : Texts → Setup → Type 0
KeepsConflicts texts S = All (λ (conflict : Conflict). NeverTogether S conflict.link conflict.other) (conflicts_in texts)

-- The laws of a day in parts, however many partitions there are and whichever of them owns which node: a partition's second is what the day does
-- there; in whatever order the lags allow partitions advance, each holds, has told and has sent what the day says, and each person is in exactly
-- one of them or in one parcel that is not absorbed; some may advance while any has seconds left, and as many steps as all have seconds bring all
-- to the end; and what they tell, merged by the keys, is the day.
abbrev pub GoesInAnyParts : Setup → Type 0
GoesInAnyParts S = (own : Owner) (parts : ℕ) → IsOwner own parts → GoesInParts S own parts

-- The laws of what is reported of routes: there is no way exactly where no walk joins a node of the one name to a node of the other; and any
-- other report tells a walk between such nodes, with the second in which it arrives, than which none arrives earlier, and the least arrivals
-- at all nodes.
pub record ReportsRoutes (scenario : ScenarioRows) : Type 0 where
  pub no_way : (from to : List ℕ) (second : ℕ)
      → ((route_answer from to second scenario).status ≡ status.NoWay) ↔ NoWay (road_map scenario) from to
  pub least : (from to : List ℕ) (second : ℕ) (text : List ℕ) → route_answer from to second scenario ≡ report status.Done text
      → IsReport (road_map scenario) from to second text

-- the same scenario with another last iteration
abbrev pub until : ScenarioRows → ℕ → ScenarioRows
until scenario last = record {
  town = scenario.town;
  node_names = scenario.node_names;
  memories = scenario.memories;
  scoring = scenario.scoring;
  learning = scenario.learning;
  last_iteration = last;
}

-- what a run of a scenario keeps after an iteration
abbrev pub kept_by : ScenarioRows → ℕ → Kept
kept_by scenario k =
    kept_of k (kept_rows scenario.town.book
    (memories_after (run_rows_of true scenario) k (memories_at (run_rows_of true scenario) scenario.memories k)))

-- The laws of what is kept: however far a run has come, what is kept is what was kept before it or what it keeps after one of its iterations;
-- whatever is kept, going on from it has one answer; from what a run keeps after an iteration the rest of the run is done, and nothing
-- else, also of the same run to another last iteration; and however far that has come, what is kept is what it went on from or what the run
-- keeps after a later iteration, so that a run may be stopped and resumed any number of times.
pub record ResumesRuns (scenario : ScenarioRows) : Type 0 where
  pub kept : (before : Option Kept) (done rest : List Step) → done ++ rest ≡ all_steps (acts (run_rows_of true scenario) scenario.memories)
      → (kept_after before done ≡ before)
      ⊎ ((k : ℕ) × (k ≤ scenario.last_iteration) × (kept_after before done ≡ Some (kept_by scenario k)))
  pub answered : (kept : Option Kept) → (a : Answer) × Resumes scenario kept a
  pub one_answer : (kept : Option Kept) (a b : Answer) → Resumes scenario kept a → Resumes scenario kept b → a ≡ b
  pub tail : (last k : ℕ) (a : Answer) → k ≤ last → Resumes (until scenario last) (Some (kept_by scenario k)) a
      → (a.status ≡ status.Done) × (acts (run_rows_of true (until scenario last)) scenario.memories
      ≡ iterations_effects (run_rows_of true scenario) 0 scenario.memories (suc k) ++ a.effects)
  pub kept_again : (last k : ℕ) (a : Answer) → k ≤ last → Resumes (until scenario last) (Some (kept_by scenario k)) a
      → (done rest : List Step) → done ++ rest ≡ all_steps a.effects
      → (kept_after (Some (kept_by scenario k)) done ≡ Some (kept_by scenario k))
      ⊎ ((j : ℕ) × (k < j) × (j ≤ last) × (kept_after (Some (kept_by scenario k)) done ≡ Some (kept_by scenario j)))
