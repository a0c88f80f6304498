-- What is read so far can be completed: more rows may come with which all fit the town.
use Rattle.std.proofs.Common.{◌≡◌, ℕ, ◌+◌, ◌-◌, ◌<◌, ◌≤◌, Bool, true, false, ◌&&◌, List, [], ◌∷◌, ◌++◌, length, Option, None, Some, refl, sym, ap, ◌∙◌, arith}
use Rattle.std.proofs.{Common.append_assoc, Common.append-nil, Common.length-append, lemmas.List.length-replicate}
use Rattle.std.proofs.lemmas.List.{Elements.All-from_recursion, Elements.All-append, Elements.All-replicate, Elements.All-cons, Folds.list_all-append}
use Rattle.std.specs.{List.list_all, List.AllByRecursion, Prelude.ℤ, Prelude.nat_eq, Prelude.replicate}
use Rattle.rows.specs.PlanRows.{PlanRows}
use Rattle.edge_files.specs.declared.keeping.KeptRow.{KeptRow}
use Rattle.plan_text.proofs.Joins.{both, and_true}
use Rattle.plan_memory.specs.Memories.{MemoryRows}
use Rattle.town.specs.Rows.{TownRows}
use Rattle.keep.proofs.{RowLists.rows_from-push, RowLists.rows_from-choice, RowLists.persons_rows-append, Tests.eq_true, Tests.less_ne, Told.IsFit}
use Rattle.keep.{proofs.Told.each_weaker, proofs.Told.memory_fits, proofs.Told.Says, specs.Fitting.IsKeptMemory, specs.Fitting.Begin}
use Rattle.keep.specs.{Kept.row_of, Kept.is_choice, Kept.rows_from, Kept.own_rows, Kept.persons_rows, Kept.kept_rows, Reading.Progress, Reading.is_fitting}

module _ (T : TownRows) where
  -- a person who remembers one plan, which he has not tried
  abbrev of_one : PlanRows → MemoryRows
  of_one p = record { plans = p ∷ []; scores = None ∷ []; chosen = 0 }

  one_fits : (p : PlanRows) → is_fitting T p ≡ true → IsFit T (of_one p)
  one_fits p fit = record { few = omega arith; each = refl; chosen = omega arith; plans = and_true (is_fitting T p) true fit refl }

  -- the persons who are still missing may all remember a plan that fits
  completed : (xs extra : List KeptRow) (done : List MemoryRows) (m : MemoryRows) (p : PlanRows)
      → xs ++ extra ≡ persons_rows T.book 0 done ++ own_rows T.book (length done) m
      → AllByRecursion (IsFit T) done → IsFit T m → is_fitting T p ≡ true → length done < length T.book.persons → Begin T xs
  unfolding kept_rows
  completed xs extra done m p rows each fit some person =
      let missing : ℕ = length T.book.persons - (length done + 1) in
      let others = replicate missing (of_one p) in
      let more : List KeptRow = persons_rows T.book (length done + 1) others in
      let front : List KeptRow = persons_rows T.book 0 done in
      let own : List KeptRow = own_rows T.book (length done) m in
      let P : MemoryRows → Type 0 = IsKeptMemory T in
      let all = All-append P done (m ∷ others) (All-from_recursion P done (each_weaker (IsFit T) P (memory_fits T) done each))
      (All-cons P m others (memory_fits T m fit) (All-replicate P missing (of_one p) (memory_fits T (of_one p) (one_fits p some)))) in
      record {
        more = extra ++ more;
        memories = done ++ m ∷ others;
        whole = record {
          fit = record { count = omega (arith, length-append done (m ∷ others), length-replicate missing (of_one p)); each = all };
          are = sym (append_assoc xs extra more)
              ∙ ap (λ (l : List KeptRow). l ++ more) rows
              ∙ append_assoc front own more
              ∙ sym (persons_rows-append T.book 0 done (m ∷ others) (length done) (omega arith));
        };
      }

  not_full : (n : ℕ) → (nat_eq n 6 && true) ≡ false → n ≤ 6 → n < 6
  not_full n h few = below n few (not_six n h)
    where
      not_six : (n : ℕ) → (nat_eq n 6 && true) ≡ false → n ≡ 6 → ⊥
      not_six n h is = let e : true ≡ false = sym (ap (λ (b : Bool). b && true) (eq_true n 6 is)) ∙ h in cc

      below : (n : ℕ) → n ≤ 6 → (n ≡ 6 → ⊥) → n < 6
      below n few not = omega (arith, not)

  by_choice : (xs : List KeptRow) (done : List MemoryRows) (p : PlanRows) (ps : List PlanRows) (scores : List (Option ℤ)) (chosen : Option ℕ)
      → Says T xs (record { done = done; begun = record { plans = p ∷ ps; scores = scores; chosen = chosen } }) → Begin T xs
  by_choice xs done p ps scores (Some c) says =
      let fit = (both (is_fitting T p) (list_all (is_fitting T) ps) says.plans).0 in
      completed xs [] done (record { plans = p ∷ ps; scores = scores; chosen = c }) p (append-nil xs ∙ says.are) says.each_done
      (record { few = says.few; each = says.each; chosen = says.within c refl; plans = says.plans }) fit (says.room (omega arith))
  by_choice xs done p ps scores None says =
      let plans = p ∷ ps in
      let n : ℕ = length plans in
      let q : ℕ = length done in
      let few = not_full n says.choosable says.few in
      let each = says.each in
      let fit = (both (is_fitting T p) (list_all (is_fitting T) ps) says.plans).0 in
      let last : KeptRow = row_of T.book q n (is_choice (Some n) n) p None in
      let front : List KeptRow = persons_rows T.book 0 done in
      let before : rows_from T.book q None 0 plans scores ≡ rows_from T.book q (Some n) 0 plans scores =
      rows_from-choice T.book q None (Some n) 0 plans scores (λ k low high. sym (less_ne k n (omega arith))) in
      let pushed = rows_from-push T.book q (Some n) 0 plans scores p None n each (omega arith) in
      let plans_count = length-append plans (p ∷ []) in
      let scores_count = length-append scores (None ∷ []) in
      completed xs (last ∷ []) done (record { plans = plans ++ p ∷ []; scores = scores ++ None ∷ []; chosen = n }) p
      (ap (λ (l : List KeptRow). l ++ last ∷ []) says.are
      ∙ append_assoc front (rows_from T.book q None 0 plans scores) (last ∷ [])
      ∙ ap (λ (l : List KeptRow). front ++ (l ++ last ∷ [])) before
      ∙ ap (λ (l : List KeptRow). front ++ l) (sym pushed))
      says.each_done
      (record {
        few = omega (arith, plans_count);
        each = omega (arith, plans_count, scores_count);
        chosen = omega (arith, plans_count);
        plans = list_all-append (is_fitting T) plans (p ∷ [])
            ∙ and_true (list_all (is_fitting T) plans) (list_all (is_fitting T) (p ∷ [])) says.plans (and_true (is_fitting T p) true fit refl);
      })
      fit (says.room (omega arith))

  by_plans : (xs : List KeptRow) (done : List MemoryRows) (plans : List PlanRows) (scores : List (Option ℤ)) (chosen : Option ℕ)
      → Says T xs (record { done = done; begun = record { plans = plans; scores = scores; chosen = chosen } }) → 0 < length plans → Begin T xs
  by_plans xs done [] scores chosen says some = absurd (omega arith)
  by_plans xs done (p ∷ ps) scores chosen says some = by_choice xs done p ps scores chosen says

  pub begins : (xs : List KeptRow) (s : Progress) → Says T xs s → 0 < length s.begun.plans → Begin T xs
  begins xs s says some = by_plans xs s.done s.begun.plans s.begun.scores s.begun.chosen says some
