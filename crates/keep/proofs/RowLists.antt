-- The kept rows of plans and of persons: one more, two lists of them, and how many there are.
use Rattle.std.proofs.Common.{◌≡◌, ℕ, ◌+◌, ◌*◌, ◌<◌, ◌≤◌, Bool, List, [], ◌∷◌, ◌++◌, length, Option, Some, refl, sym, ap, ◌∙◌, arith, append_assoc, append-nil}
use Rattle.std.{proofs.Common.length-append, specs.List.AllByRecursion, specs.Prelude.ℤ}
use Rattle.events.specs.declared.event.Book.{Book}
use Rattle.rows.specs.PlanRows.{PlanRows}
use Rattle.edge_files.specs.declared.keeping.KeptRow.{KeptRow}
use Rattle.plan_memory.specs.Memories.{MemoryRows}
use Rattle.keep.specs.Kept.{row_of, is_choice, rows_from, own_rows, persons_rows}

module _ (book : Book) (person : ℕ) where
  -- one more plan
  pub rows_from-push : (chosen : Option ℕ) (i : ℕ) (plans : List PlanRows) (scores : List (Option ℤ)) (plan : PlanRows) (score : Option ℤ) (n : ℕ)
      → length scores ≡ length plans → n ≡ i + length plans
      → rows_from book person chosen i (plans ++ plan ∷ []) (scores ++ score ∷ [])
      ≡ rows_from book person chosen i plans scores ++ row_of book person n (is_choice chosen n) plan score ∷ []
  rows_from-push chosen i [] [] plan score n same at =
      let there : i ≡ n = omega arith in
      ap (λ (k : ℕ). row_of book person k (is_choice chosen k) plan score ∷ []) there
  rows_from-push chosen i [] (s ∷ ss) plan score n same at = absurd (omega arith)
  rows_from-push chosen i (p ∷ ps) [] plan score n same at = absurd (omega arith)
  rows_from-push chosen i (p ∷ ps) (s ∷ ss) plan score n same at =
      ap (λ (l : List KeptRow). row_of book person i (is_choice chosen i) p s ∷ l) (rows_from-push chosen (i + 1) ps ss plan score n (omega arith) (omega arith))

  -- which plan is the chosen one matters as far as there are plans
  pub rows_from-choice : (a b : Option ℕ) (i : ℕ) (plans : List PlanRows) (scores : List (Option ℤ))
      → ((k : ℕ) → i ≤ k → k < i + length plans → is_choice a k ≡ is_choice b k)
      → rows_from book person a i plans scores ≡ rows_from book person b i plans scores
  rows_from-choice a b i [] scores same = refl
  rows_from-choice a b i (p ∷ ps) [] same = refl
  rows_from-choice a b i (p ∷ ps) (s ∷ ss) same =
      ap (λ (c : Bool). row_of book person i c p s ∷ rows_from book person a (i + 1) ps ss) (same i (omega arith) (omega arith))
      ∙ ap (λ (l : List KeptRow). row_of book person i (is_choice b i) p s ∷ l)
      (rows_from-choice a b (i + 1) ps ss (λ k low high. same k (omega arith) (omega arith)))

  pub rows_from-none : (chosen : Option ℕ) (i : ℕ) (plans : List PlanRows) (scores : List (Option ℤ)) → length plans ≡ 0
      → rows_from book person chosen i plans scores ≡ []
  rows_from-none chosen i [] scores none = refl
  rows_from-none chosen i (p ∷ ps) scores none = absurd (omega arith)

  pub rows_from-few : (chosen : Option ℕ) (i : ℕ) (plans : List PlanRows) (scores : List (Option ℤ))
      → length (rows_from book person chosen i plans scores) ≤ length plans
  rows_from-few chosen i [] scores = omega arith
  rows_from-few chosen i (p ∷ ps) [] = omega arith
  rows_from-few chosen i (p ∷ ps) (s ∷ ss) = omega (arith, rows_from-few chosen (i + 1) ps ss)

module _ (book : Book) where
  pub persons_rows-append : (q : ℕ) (ms ns : List MemoryRows) (n : ℕ) → n ≡ q + length ms
      → persons_rows book q (ms ++ ns) ≡ persons_rows book q ms ++ persons_rows book n ns
  persons_rows-append q [] ns n at = let there : q ≡ n = omega arith in ap (λ (k : ℕ). persons_rows book k ns) there
  persons_rows-append q (m ∷ ms) ns n at =
      ap (λ (l : List KeptRow). own_rows book q m ++ l) (persons_rows-append (q + 1) ms ns n (omega arith))
      ∙ sym (append_assoc (own_rows book q m) (persons_rows book (q + 1) ms) (persons_rows book n ns))

  pub persons_rows-push : (q : ℕ) (ms : List MemoryRows) (m : MemoryRows) (n : ℕ) → n ≡ q + length ms
      → persons_rows book q (ms ++ m ∷ []) ≡ persons_rows book q ms ++ own_rows book n m
  persons_rows-push q ms m n at =
      persons_rows-append q ms (m ∷ []) n at ∙ ap (λ (l : List KeptRow). persons_rows book q ms ++ l) (append-nil (own_rows book n m))

  -- a person has at most six rows
  pub persons_rows-few : (q : ℕ) (ms : List MemoryRows) → AllByRecursion (λ (m : MemoryRows). length m.plans ≤ 6) ms
      → length (persons_rows book q ms) ≤ 6 * length ms
  persons_rows-few q [] each = omega arith
  persons_rows-few q (m ∷ ms) each =
      let own = rows_from-few book q (Some m.chosen) 0 m.plans m.scores in
      omega (arith, own, each.0, persons_rows-few (q + 1) ms each.1, length-append (own_rows book q m) (persons_rows book (q + 1) ms))
