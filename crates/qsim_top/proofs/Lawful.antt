-- Every day is lawful, and those of files without a fault follow the plans and go in parts.
use Rattle.scenario.proofs.Common.{scenario_fault, scenario_rows, ScenarioRows, Texts}
use Rattle.scenario.specs.FilesToScenario.{conflicts_in}
use Rattle.traffic.proofs.Common.{◌≡◌, ℕ, List, ◌∙◌, length, sym, ◌<◌, subst, All-from_recursion, None, PlanRows, world_at, turns_of, Setup, day}
use Rattle.traffic.{proofs.Order.day-ascends, specs.declared.stage.Stage.TheVariants.Buffer}
use Rattle.law_one_place.proofs.Turns.{always_kept}
use Rattle.law_capacity.{proofs.Elsewhere.in_time, proofs.Elsewhere.no_buffer, proofs.Flow.day_flow, proofs.Queues.day_storage, specs.Moves.IsElsewhere}
use Rattle.law_signals.{proofs.Days.day_keeps, proofs.Days.never_together, specs.Signals.NeverTogether}
use Rattle.law_matches_plans.proofs.{InTime.day_until, ScoredTowns.rows_scored, Towns.persons_are, Towns.rows_sound, Towns.rows_told}
use Rattle.law_sound_setups.proofs.Laws.{day_sound}
use Rattle.law_partitions_of_towns.proofs.Towns.{rows_go}
use Rattle.town.specs.{Rows.IsTown, Setups.setup_of}
use Rattle.law_in_range.specs.Setups.{IsPlanIn}
use Rattle.law_replanning.specs.Memories.{IsMemoryIn}
use Rattle.plan_memory.specs.Memories.{MemoryRows, chosen_plan}
use Rattle.iterations.proofs.Staying.{always_in, followed_in, always_count}
use Rattle.iterations.specs.{Acts.memories_at, Days.followed_plans, Days.day_in, Runs.RunRows}
use Rattle.law_valid_files.{proofs.Conflicts.conflicts_kept, proofs.Valid.scenario_valid, specs.Valid.IsScenario}
use Rattle.signals.specs.{Signals.AreNeverGreen, declared.conflict.Conflict.Conflict}
use Rattle.day_scores.specs.Standing.{AreScored}
use Rattle.std.{proofs.lemmas.List.length-map, proofs.lemmas.List.Elements.All-weaker, specs.Prelude.All, specs.Prelude.Bool}
use Rattle.qsim_top.specs.{Answer.run_rows_of, Laws.day_of, Laws.IsLawful, Laws.FollowsPlans, Laws.KeepsConflicts, Laws.GoesInAnyParts}

pub lawful : (S : Setup) → IsLawful S
lawful S = record {
  one_place = always_kept S;
  storage = day_storage S;
  entering = λ t. in_time S t (world_at S t);
  flow = day_flow S;
  flow_elsewhere = λ t n p W other. All-from_recursion (IsElsewhere Buffer) (turns_of S t p n W) (no_buffer S t n p W other);
  green = day_keeps S;
  order = day-ascends S;
  in_time = day_until S;
}

-- the day of an iteration on which as many persons as the town has follow plans of the town
pub follows : (R : RunRows) (k : ℕ) (memories : List MemoryRows) → IsTown R.town → length memories ≡ length R.town.book.persons
    → All (IsMemoryIn R.town) memories → FollowsPlans R.town (day_in R k memories)
follows R k memories town each all =
    let plans : List PlanRows = followed_plans memories in
    let fit : All (IsPlanIn R.town) plans = followed_in R.town memories all in
    let S : Setup = setup_of R.town plans k in
    let persons : length S.persons ≡ length plans = persons_are R.town plans k in
    record {
      everybody = persons ∙ length-map memories chosen_plan ∙ each;
      sound = λ t. day_sound S t (rows_sound R.town plans k town fit);
      told = λ i less. rows_told R.town plans k i town fit (subst (λ (n : ℕ). i < n) persons less);
      scored = subst (λ (n : ℕ). AreScored n (day S)) (sym persons) (λ i less. rows_scored R.town plans k i town fit less);
    }

-- the same of every iteration of a valid scenario
scenario_follows : (keeps : Bool) (S : ScenarioRows) (k : ℕ) → IsScenario S → FollowsPlans S.town (day_of keeps S k)
scenario_follows keeps S k valid =
    let R : RunRows = run_rows_of keeps S in
    follows R k (memories_at R S.memories k) valid.town (always_count R S.memories k ∙ valid.each)
    (always_in R valid.town valid.learning S.memories valid.memories k)

pub files_follow : (keeps : Bool) (texts : Texts) (k : ℕ) → scenario_fault texts ≡ None
    → FollowsPlans (scenario_rows texts).town (day_of keeps (scenario_rows texts) k)
files_follow keeps texts k none = scenario_follows keeps (scenario_rows texts) k (scenario_valid texts none)

-- the day of an iteration on which plans of the town are followed, whoever owns which node
goes : (R : RunRows) (k : ℕ) (memories : List MemoryRows) → IsTown R.town → All (IsMemoryIn R.town) memories → GoesInAnyParts (day_in R k memories)
goes R k memories town all =
    λ own parts shares. rows_go R.town (followed_plans memories) k own parts town (followed_in R.town memories all) shares

-- the same of every iteration of a valid scenario
scenario_goes : (keeps : Bool) (S : ScenarioRows) (k : ℕ) → IsScenario S → GoesInAnyParts (day_of keeps S k)
scenario_goes keeps S k valid =
    let R : RunRows = run_rows_of keeps S in
    goes R k (memories_at R S.memories k) valid.town (always_in R valid.town valid.learning S.memories valid.memories k)

pub files_go : (keeps : Bool) (texts : Texts) (k : ℕ) → scenario_fault texts ≡ None → GoesInAnyParts (day_of keeps (scenario_rows texts) k)
files_go keeps texts k none = scenario_goes keeps (scenario_rows texts) k (scenario_valid texts none)

-- the links of a conflict are never green together, so no vehicles leave them in one second
pub files_keep : (keeps : Bool) (texts : Texts) (k : ℕ) → scenario_fault texts ≡ None → KeepsConflicts texts (day_of keeps (scenario_rows texts) k)
unfolding setup_of
files_keep keeps texts k none =
    let S = day_of keeps (scenario_rows texts) k in
    All-weaker (AreNeverGreen (scenario_rows texts).town.greens) (λ (conflict : Conflict). NeverTogether S conflict.link conflict.other)
    (λ conflict kept. never_together S conflict.link conflict.other kept) (conflicts_in texts) (conflicts_kept texts none)
