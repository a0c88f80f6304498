-- What is kept of a run, however far it has come.
use Rattle.std.proofs.Common.{◌≡◌, ◌⊎◌, ◌<◌, ◌≤◌, ◌+◌, ◌-◌, ℕ, zero, suc, Bool, true, false, cond, List, [], ◌∷◌, ◌++◌, map, Option, Some, refl, zero-add, sym}
use Rattle.std.proofs.Common.{◌∙◌, ap, subst, inl, inr, arith}
use Rattle.std.{proofs.lemmas.Bool.Decides.nat_tests, specs.List.flat_map, specs.List.range_with_len, specs.Prelude.nat_lt}
use Rattle.edge_files.{proofs.Worlds.all_steps-append, specs.Effects.all_steps, specs.Keeping.Kept, specs.Keeping.kept_of, specs.World.Step}
use Rattle.edge_files.specs.{World.Byte, World.Saved, World.byte_steps, World.kept_after, declared.effects.Effect.Effect, declared.files.OutFile.OutFile}
use Rattle.edge_files.specs.declared.files.OutFile.TheVariants as out
use Rattle.day_scores.specs.Texts.{scores_text}
use Rattle.keep.specs.Kept.{kept_rows}
use Rattle.plan_memory.specs.Memories.{MemoryRows}
use Rattle.plan_text.specs.Lines.{plans_text}
use Rattle.iterations.{proofs.Going.memories_split, proofs.Tails.continues, proofs.Tails.kept_until, specs.Continued.continued, specs.Days.events_of}
use Rattle.iterations.specs.{Days.scores_in, Days.memories_after, Runs.RunRows, Texts.events_text, Texts.iteration_line, Texts.done_line, Written.written_plans}
use Rattle.iterations.specs.Acts.{chosen_numbers, saves, iteration_effects, end_effects, memories_behind, memories_at, iterations_effects, acts_behind, acts}
use Rattle.scenario.specs.FilesToScenario.{ScenarioRows}
use Rattle.qsim_top.specs.{Answer.run_rows_of, Laws.until, Laws.kept_by}

-- of each save among steps, or among effects, this holds
abbrev SavesAre : (Kept → Type 0) → List Step → Type 0
SavesAre P [] = Unit {0}
SavesAre P (Byte file b ∷ steps) = SavesAre P steps
SavesAre P (Saved kept ∷ steps) = P kept × SavesAre P steps

module _ (P : Kept → Type 0) where
  both : (xs ys : List Step) → SavesAre P xs → SavesAre P ys → SavesAre P (xs ++ ys)
  both [] ys first second = second
  both (Byte file b ∷ xs) ys first second = both xs ys first second
  both (Saved kept ∷ xs) ys first second = (first.0, both xs ys first.1 second)

  front : (xs ys : List Step) → SavesAre P (xs ++ ys) → SavesAre P xs
  front [] ys all = tt
  front (Byte file b ∷ xs) ys all = front xs ys all
  front (Saved kept ∷ xs) ys all = (all.0, front xs ys all.1)

  no_saves : (file : OutFile) (bytes : List ℕ) → SavesAre P (byte_steps file bytes)
  no_saves file [] = tt
  no_saves file (b ∷ bytes) = no_saves file bytes

  each_of : (f : ℕ → List Effect) (a n : ℕ) → ((i : ℕ) → i < a + n → SavesAre P (all_steps (f i)))
      → SavesAre P (all_steps (flat_map f (range_with_len a n)))
  each_of f a zero each = tt
  each_of f a (suc n) each =
      subst (SavesAre P) (sym (all_steps-append (f a) (flat_map f (range_with_len (a + 1) n))))
      (both (all_steps (f a)) (all_steps (flat_map f (range_with_len (a + 1) n))) (each a (omega arith))
      (each_of f (a + 1) n (λ i less. each i (omega arith))))

  -- what is kept behind such steps
  kept_of_steps : (steps : List Step) (before : Option Kept) → SavesAre P steps
      → (kept_after before steps ≡ before) ⊎ ((kept : Kept) × P kept × (kept_after before steps ≡ Some kept))
  kept_of_steps [] before all = inl refl
  kept_of_steps (Byte file b ∷ steps) before all = kept_of_steps steps before all
  kept_of_steps (Saved kept ∷ steps) before all = elim (kept_of_steps steps (Some kept) all.1) [
    | inl same ↦ inr (kept, all.0, same)
    | inr later ↦ inr later
  ]

  -- of a text, another one, a save and a last text; and of two texts
  one_kept : (file other last : OutFile) (text more line : List ℕ) (kept : Kept) → P kept
      → SavesAre P (byte_steps file text ++ (byte_steps other more ++ (Saved kept ∷ (byte_steps last line ++ []))))
  one_kept file other last text more line kept held =
      both (byte_steps file text) (byte_steps other more ++ (Saved kept ∷ (byte_steps last line ++ []))) (no_saves file text)
      (both (byte_steps other more) (Saved kept ∷ (byte_steps last line ++ [])) (no_saves other more)
      (held, both (byte_steps last line) [] (no_saves last line) tt))

  none_kept : (file last : OutFile) (text line : List ℕ) → SavesAre P (byte_steps file text ++ (byte_steps last line ++ []))
  none_kept file last text line =
      both (byte_steps file text) (byte_steps last line ++ []) (no_saves file text) (both (byte_steps last line) [] (no_saves last line) tt)

-- it is what the run keeps after one of its iterations, from this one on
abbrev IsKeptBy : ScenarioRows → ℕ → Kept → Type 0
IsKeptBy S from kept = (k : ℕ) × (from ≤ k) × (k ≤ S.last_iteration) × (kept ≡ kept_by S k)

module _ (S : ScenarioRows) (from : ℕ) where
  one_save : (k : ℕ) (memories : List MemoryRows) → from ≤ k → k ≤ S.last_iteration → memories ≡ memories_at (run_rows_of true S) S.memories k
      → SavesAre (IsKeptBy S from) (all_steps (iteration_effects (run_rows_of true S) k memories))
  unfolding iteration_effects saves
  one_save k memories behind within is =
      let R : RunRows = run_rows_of true S in
      one_kept (IsKeptBy S from) out.Events out.Scores out.Report (events_text k (events_of R k memories) S.town.book)
      (scores_text k S.town.book.persons (chosen_numbers memories) (scores_in R k memories))
      (iteration_line k (events_of R k memories) (scores_in R k memories))
      (kept_of k (kept_rows S.town.book (memories_after R k memories)))
      (k, behind, within, ap (λ (ms : List MemoryRows). kept_of k (kept_rows S.town.book (memories_after R k ms))) is)

  end_saves : (memories : List MemoryRows) → SavesAre (IsKeptBy S from) (all_steps (end_effects (run_rows_of true S) memories))
  unfolding end_effects
  end_saves memories =
      none_kept (IsKeptBy S from) out.Plans out.Report (plans_text (map written_plans memories) S.town.book) (done_line S.last_iteration)

  begun_behind : (n : ℕ) → memories_behind (run_rows_of true S) from (memories_at (run_rows_of true S) S.memories from) n
      ≡ memories_at (run_rows_of true S) S.memories (from + n)
  begun_behind n =
      let R : RunRows = run_rows_of true S in
      sym (memories_split R 0 S.memories from n
      ∙ ap (λ (k : ℕ). memories_behind R k (memories_at R S.memories from) n) (zero-add from))

  -- this iteration and those behind it
  behind_saves : (count : ℕ) → from + count ≡ S.last_iteration
      → SavesAre (IsKeptBy S from) (all_steps (acts_behind (run_rows_of true S) from (memories_at (run_rows_of true S) S.memories from) count))
  unfolding acts_behind iterations_effects
  behind_saves count last =
      let R : RunRows = run_rows_of true S in
      let begun : List MemoryRows = memories_at R S.memories from in
      let f : ℕ → List Effect = λ n. iteration_effects R (from + n) (memories_behind R from begun n) in
      let after : List MemoryRows = memories_after R (from + count) (memories_behind R from begun count) in
      let each : (i : ℕ) → i < 0 + suc count → SavesAre (IsKeptBy S from) (all_steps (f i)) = λ i less.
      one_save (from + i) (memories_behind R from begun i) (omega arith) (omega arith) (begun_behind i) in
      subst (SavesAre (IsKeptBy S from)) (sym (all_steps-append (flat_map f (range_with_len 0 (suc count))) (end_effects R after)))
      (both (IsKeptBy S from) (all_steps (flat_map f (range_with_len 0 (suc count)))) (all_steps (end_effects R after))
      (each_of (IsKeptBy S from) f 0 (suc count) each) (end_saves after))

-- A WHOLE RUN
run_saves : (S : ScenarioRows) → SavesAre (IsKeptBy S 0) (all_steps (acts (run_rows_of true S) S.memories))
unfolding memories_behind
run_saves S = behind_saves S 0 S.last_iteration (zero-add S.last_iteration)

pub kept_of_run : (S : ScenarioRows) (before : Option Kept) (done rest : List Step) → done ++ rest ≡ all_steps (acts (run_rows_of true S) S.memories)
    → (kept_after before done ≡ before) ⊎ ((k : ℕ) × (k ≤ S.last_iteration) × (kept_after before done ≡ Some (kept_by S k)))
kept_of_run S before done rest is =
    elim (kept_of_steps (IsKeptBy S 0) done before (front (IsKeptBy S 0) done rest (subst (SavesAre (IsKeptBy S 0)) (sym is) (run_saves S)))) [
      | inl same ↦ inl same
      | inr later ↦ inr (later.1.0, later.1.2, later.2 ∙ ap (λ (one : Kept). Some one) later.1.3)
    ]

-- A RUN THAT GOES ON
below : (a b : ℕ) → nat_lt a b ≡ true → a < b
below a b is = grind (arith, nat_tests)

rest_saves : (S : ScenarioRows) (k : ℕ) (b : Bool) → nat_lt k S.last_iteration ≡ b
    → SavesAre (IsKeptBy S (k + 1)) (all_steps (cond b
    (acts_behind (run_rows_of true S) (k + 1) (memories_at (run_rows_of true S) S.memories (k + 1)) (S.last_iteration - (k + 1)))
    (end_effects (run_rows_of true S) (memories_after (run_rows_of true S) k (memories_at (run_rows_of true S) S.memories k)))))
rest_saves S k true is =
    let less : k < S.last_iteration = below k S.last_iteration is in
    behind_saves S (k + 1) (S.last_iteration - (k + 1)) (omega arith)
rest_saves S k false is =
    end_saves S (k + 1) (memories_after (run_rows_of true S) k (memories_at (run_rows_of true S) S.memories k))

-- what is kept does not hang on the last iteration
same_kept : (S : ScenarioRows) (last k : ℕ) → kept_by (until S last) k ≡ kept_by S k
same_kept S last k =
    ap (λ (ms : List MemoryRows). kept_of k (kept_rows S.town.book ms)) (kept_until (run_rows_of true S) last S.memories k)

-- what is kept of the rest of a run, behind an iteration
pub kept_of_rest : (S : ScenarioRows) (last k : ℕ) (effects : List Effect)
    → effects ≡ continued (run_rows_of true (until S last)) k
    (memories_after (run_rows_of true (until S last)) k (memories_at (run_rows_of true (until S last)) S.memories k))
    → (done rest : List Step) → done ++ rest ≡ all_steps effects
    → (kept_after (Some (kept_by S k)) done ≡ Some (kept_by S k))
    ⊎ ((j : ℕ) × (k < j) × (j ≤ last) × (kept_after (Some (kept_by S k)) done ≡ Some (kept_by S j)))
kept_of_rest S last k effects is done rest split =
    let T : ScenarioRows = until S last in
    let P : Kept → Type 0 = IsKeptBy T (k + 1) in
    let saved : SavesAre P (all_steps effects) =
    subst (λ (l : List Effect). SavesAre P (all_steps l)) (sym (is ∙ continues (run_rows_of true T) S.memories k))
    (rest_saves T k (nat_lt k last) refl) in
    elim (kept_of_steps P done (Some (kept_by S k)) (front P done rest (subst (SavesAre P) (sym split) saved))) [
      | inl same ↦ inl same
      | inr later ↦
          let behind : k + 1 ≤ later.1.0 = later.1.1 in
          inr (later.1.0, omega (arith, behind), later.1.2, later.2 ∙ ap (λ (one : Kept). Some one) (later.1.3 ∙ same_kept S last later.1.0))
    ]
