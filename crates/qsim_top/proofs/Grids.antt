-- A grid is told, and then its scenario is run.
use Rattle.std.proofs.Common.{◌≡◌, ℕ, false, Result, Ok, Err, refl}
use Rattle.edge_files.specs.{Effects.all_steps, World.byte_steps, declared.effects.EffectError.EffectError}
use Rattle.edge_files.specs.declared.files.OutFile.TheVariants as out
use Rattle.iterations.{proofs.Outside.first_failed, proofs.Outside.one_then, specs.Acts.acts, specs.Performed.Moment, specs.Performed.IsPerformed}
use Rattle.scenario.specs.FilesToScenario.{ScenarioRows}
use Rattle.qsim_top.proofs.Ending.{ended_as}
use Rattle.qsim_top.specs.{Answer.run_rows_of, Answer.grid_answer, Came.status_after, Came.IsCarriedOut, Texts.grid_line, declared.answers.Status.Status}
use Rattle.qsim_top.specs.declared.answers.Status.TheVariants as status

pub grid_done : (size seed : ℕ) (S : ScenarioRows) (came : Status) (a b c : Moment) (r : Result (Unit {0}) EffectError)
    → came ≡ status_after status.Done r → IsPerformed {T = Unit {0}} false a b (byte_steps out.Report (grid_line size seed)) (Ok tt)
    → IsPerformed false b c (all_steps (acts (run_rows_of false S) S.memories)) r → IsCarriedOut false (grid_answer size seed S) came a c
grid_done size seed S came a b c r is first second =
    ended_as false (grid_answer size seed S) came a c r is refl (λ bad. cc)
    (one_then {k = false} a b c (byte_steps out.Report (grid_line size seed)) (all_steps (acts (run_rows_of false S) S.memories)) tt r first second)

pub grid_failed : (size seed : ℕ) (S : ScenarioRows) (came : Status) (a b : Moment) (e : EffectError)
    → came ≡ status_after status.Done (Err e) → IsPerformed {T = Unit {0}} false a b (byte_steps out.Report (grid_line size seed)) (Err e)
    → IsCarriedOut false (grid_answer size seed S) came a b
grid_failed size seed S came a b e is first =
    ended_as false (grid_answer size seed S) came a b (Err e) is refl (λ bad. cc)
    (first_failed {A = Unit {0}} {B = Unit {0}} {k = false} a b (byte_steps out.Report (grid_line size seed))
    (all_steps (acts (run_rows_of false S) S.memories)) e first)
