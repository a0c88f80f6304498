-- From what a run keeps the rest of it is done.
use Rattle.std.proofs.Common.{◌≡◌, ◌⊎◌, ℕ, ◌<◌, ◌≤◌, suc, true, List, ◌++◌, Option, None, Some, refl, sym, ◌∙◌, ap, inl, inr}
use Rattle.edge_files.specs.{Effects.all_steps, Keeping.Kept, World.Step, World.kept_after}
use Rattle.keep.proofs.Either.{fit_or_foreign, one_list, one_place}
use Rattle.plan_text.specs.Lines.{IsBook}
use Rattle.iterations.proofs.{ReadBack.run_back, Tails.resumes, Tails.rest_of}
use Rattle.iterations.specs.{Acts.memories_at, Acts.iterations_effects, Acts.acts, Days.memories_after, Runs.RunRows, Runs.HasNames, Runs.IsRun}
use Rattle.law_valid_files.{proofs.Books.scenario_named, proofs.Valid.scenario_valid, specs.Valid.IsScenario}
use Rattle.scenario.specs.{FilesToScenario.ScenarioRows, FilesToScenario.scenario_fault, FilesToScenario.scenario_rows, Texts.Texts}
use Rattle.qsim_top.specs.{declared.answers.Answer.Answer, Answer.run_rows_of, Answer.report, Answer.resumed_answer, Answer.Resumes, Laws.until, Laws.kept_by}
use Rattle.qsim_top.{specs.Laws.ResumesRuns, specs.Texts.nothing_kept_line, specs.Texts.foreign_line, proofs.Stopped.kept_of_run, proofs.Stopped.kept_of_rest}
use Rattle.qsim_top.specs.declared.answers.Status.TheVariants as status

module _ (S : ScenarioRows) (book : IsBook S.town.book) where
  answered : (kept : Option Kept) → (a : Answer) × Resumes S kept a
  answered None = (report status.NothingKept nothing_kept_line, refl)
  answered (Some kept) = elim (fit_or_foreign S.town book kept.rows) [
    | inl fit ↦ (resumed_answer S kept.iteration fit.0, inl (fit.0, fit.1, refl))
    | inr foreign ↦ (report status.Foreign (foreign_line foreign.0), inr (foreign.0, foreign.1, refl))
  ]

  one_of : (kept : Kept) (a b : Answer) → Resumes S (Some kept) a → Resumes S (Some kept) b → a ≡ b
  one_of kept a b (inl (memories, rows, is)) (inl (others, also, same)) =
      is ∙ ap (resumed_answer S kept.iteration) (one_list S.town book kept.rows others memories also rows) ∙ sym same
  one_of kept a b (inl (memories, rows, is)) (inr (place, foreign, same)) = absurd (foreign.unfit memories rows)
  one_of kept a b (inr (place, foreign, is)) (inl (others, also, same)) = absurd (foreign.unfit others also)
  one_of kept a b (inr (place, foreign, is)) (inr (other, also, same)) =
      is ∙ ap (λ (n : ℕ). report status.Foreign (foreign_line n)) (one_place S.town kept.rows place other foreign also) ∙ sym same

  one_answer : (kept : Option Kept) (a b : Answer) → Resumes S kept a → Resumes S kept b → a ≡ b
  one_answer None a b is same = is ∙ sym same
  one_answer (Some kept) a b is same = one_of kept a b is same

-- a run of a valid scenario whose names are such
run_of : (S : ScenarioRows) → IsScenario S → IsBook S.town.book → HasNames S.town → IsRun (run_rows_of true S) S.memories
run_of S valid book names = record {
  town = valid.town;
  names = names;
  book = book;
  learning = valid.learning;
  each = valid.each;
  memories = valid.memories;
}

tail : (S : ScenarioRows) → IsRun (run_rows_of true S) S.memories → (last k : ℕ) (a : Answer) → k ≤ last
    → Resumes (until S last) (Some (kept_by S k)) a
    → (a.status ≡ status.Done) × (acts (run_rows_of true (until S last)) S.memories
    ≡ iterations_effects (run_rows_of true S) 0 S.memories (suc k) ++ a.effects)
tail S run last k a within (inl (memories, rows, is)) = (
  ap (λ (one : Answer). one.status) is,
  resumes (run_rows_of true S) last S.memories k a.effects run within (memories, rows, ap (λ (one : Answer). one.effects) is),
)
tail S run last k a within (inr (place, foreign, is)) =
    let R : RunRows = run_rows_of true S in
    absurd (foreign.unfit (memories_after R k (memories_at R S.memories k)) (run_back R S.memories run k))

again : (S : ScenarioRows) → IsRun (run_rows_of true S) S.memories → (last k : ℕ) (a : Answer) → k ≤ last
    → Resumes (until S last) (Some (kept_by S k)) a → (done rest : List Step) → done ++ rest ≡ all_steps a.effects
    → (kept_after (Some (kept_by S k)) done ≡ Some (kept_by S k))
    ⊎ ((j : ℕ) × (k < j) × (j ≤ last) × (kept_after (Some (kept_by S k)) done ≡ Some (kept_by S j)))
again S run last k a within (inl (memories, rows, is)) done rest split =
    kept_of_rest S last k a.effects
    (rest_of (run_rows_of true S) last S.memories k a.effects run (memories, rows, ap (λ (one : Answer). one.effects) is)) done rest split
again S run last k a within (inr (place, foreign, is)) done rest split =
    let R : RunRows = run_rows_of true S in
    absurd (foreign.unfit (memories_after R k (memories_at R S.memories k)) (run_back R S.memories run k))

resumes_runs : (S : ScenarioRows) → IsScenario S → IsBook S.town.book → HasNames S.town → ResumesRuns S
resumes_runs S valid book names = record {
  kept = kept_of_run S;
  answered = answered S book;
  one_answer = one_answer S book;
  tail = tail S (run_of S valid book names);
  kept_again = again S (run_of S valid book names);
}

-- what is kept of files without a fault
pub files_resume : (texts : Texts) → scenario_fault texts ≡ None → ResumesRuns (scenario_rows texts)
files_resume texts none =
    let named = scenario_named texts none in
    resumes_runs (scenario_rows texts) (scenario_valid texts none) named.book (record { links = named.each_link; stops = named.each_stop })
