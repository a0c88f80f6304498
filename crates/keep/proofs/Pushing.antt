-- The row of one plan, and the rows of one person, come off the front of those that are still to be kept.
use Rattle.std.proofs.Common.{◌≡◌, ℕ, zero, suc, subst, ◌+◌, ◌<◌, Bool, true, List, [], ◌∷◌, ◌++◌, length, get_or, take, drop, Option, Some, refl, sym, ap}
use Rattle.std.proofs.{Common.◌∙◌, Common.arith, Common.append_assoc, lemmas.List.drop_more, lemmas.List.take_more}
use Rattle.std.{proofs.lemmas.List.Folds.list_all-append, specs.List.list_all, specs.Prelude.ℤ, specs.Prelude.slice_get}
use Rattle.events.specs.declared.event.Book.{Book}
use Rattle.rows.specs.PlanRows.{PlanRows}
use Rattle.edge_files.specs.declared.keeping.KeptRow.{KeptRow}
use Rattle.plan_text.proofs.Joins.{both, and_true}
use Rattle.plan_memory.specs.Memories.{MemoryRows}
use Rattle.keep.proofs.Tests.{none_some, same_some}
use Rattle.keep.specs.Kept.{row_of, is_choice, rows_from, own_rows, persons_rows}

module _ (book : Book) (person : ℕ) (chosen : Option ℕ) (plans : List PlanRows) (scores : List (Option ℤ)) (i : ℕ) where
  abbrev left : ℕ → List KeptRow
  left n = rows_from book person chosen n (drop n plans) (drop n scores)

  pub own-more : (plan : PlanRows) (score : Option ℤ) (before more all : List KeptRow) → i < length plans → length scores ≡ length plans
      → more ≡ before ++ row_of book person i (is_choice chosen i) (get_or plans i plan) (get_or scores i score) ∷ []
      → before ++ left i ≡ all → more ++ left (i + 1) ≡ all
  own-more plan score before more all here each pushed so_far =
      let row : KeptRow = row_of book person i (is_choice chosen i) (get_or plans i plan) (get_or scores i score) in
      let there : i < length scores = omega arith in
      let first : left i ≡ row ∷ left (i + 1) =
      ap (λ (l : List PlanRows). rows_from book person chosen i l (drop i scores)) (drop_more plans i plan here)
      ∙ ap (λ (l : List (Option ℤ)). rows_from book person chosen i (get_or plans i plan ∷ drop (i + 1) plans) l) (drop_more scores i score there) in
      ap (λ (l : List KeptRow). l ++ left (i + 1)) pushed
      ∙ append_assoc before (row ∷ []) (left (i + 1))
      ∙ ap (λ (l : List KeptRow). before ++ l) (sym first)
      ∙ so_far

pub each-more : {X : Type 0} (p : X → Bool) (xs : List X) (i : ℕ) (d : X) → i < length xs → list_all p (take i xs) ≡ true → p (get_or xs i d) ≡ true
    → list_all p (take (i + 1) xs) ≡ true
each-more p xs i d here before now =
    ap (list_all p) (take_more xs i d here) ∙ list_all-append p (take i xs) (get_or xs i d ∷ [])
    ∙ and_true (list_all p (take i xs)) (list_all p (get_or xs i d ∷ [])) before (and_true (p (get_or xs i d)) true now refl)

module _ (book : Book) (memories : List MemoryRows) (i : ℕ) where
  pub persons-more : (m : MemoryRows) (before more all : List KeptRow) → i < length memories
      → more ≡ before ++ own_rows book i (get_or memories i m)
      → before ++ persons_rows book i (drop i memories) ≡ all → more ++ persons_rows book (i + 1) (drop (i + 1) memories) ≡ all
  persons-more m before more all here pushed so_far =
      let own : List KeptRow = own_rows book i (get_or memories i m) in
      let later : List KeptRow = persons_rows book (i + 1) (drop (i + 1) memories) in
      ap (λ (l : List KeptRow). l ++ later) pushed
      ∙ append_assoc before own later
      ∙ ap (λ (ms : List MemoryRows). before ++ persons_rows book i ms) (sym (drop_more memories i m here))
      ∙ so_far

-- what holds of each holds of the one at a place
pub at_place : {X : Type 0} (p : X → Bool) (xs : List X) (i : ℕ) (x : X) → list_all p xs ≡ true → slice_get xs i ≡ Some x → p x ≡ true
at_place p [] i x all at = absurd (none_some x at)
at_place p (y ∷ ys) zero x all at = subst (λ z. p z ≡ true) (same_some y x at) (both (p y) (list_all p ys) all).0
at_place p (y ∷ ys) (suc i) x all at = at_place p ys i x (both (p y) (list_all p ys) all).1 at
