-- The rows of one activity, and of the leg behind it, come off the front of those that are still to be written.
use Rattle.records.proofs.Common.{◌≡◌, List, ℕ, length, arith, [], ◌<◌, ◌++◌, ◌∷◌, true, Bool, ◌+◌, get_or, ◌≤◌, drop, suc, zero, append_assoc, list_all, Book}
use Rattle.std.proofs.lemmas.List.{drop_more, drop_all}
use Rattle.rows.specs.declared.plan.{Act.Act, Leg.Leg}
use Rattle.plan_text.specs.Lines.{row_line, act_row, leg_row, element_rows, element_lines, is_act_in_book, is_leg_in_book, are_in_book}
use Rattle.plan_text.proofs.Joins.{both}

-- what holds of each holds of the one at a place
pub all_at : {X : Type 0} (p : X → Bool) (xs : List X) (i : ℕ) (x : X) → list_all p xs ≡ true → i < length xs → p (get_or xs i x) ≡ true
all_at p [] i x all less = absurd (omega arith)
all_at p (y ∷ ys) zero x all less = (both (p y) (list_all p ys) all).0
all_at p (y ∷ ys) (suc i) x all less = all_at p ys i x (both (p y) (list_all p ys) all).1 (omega arith)

module _ (book : Book) (person index : ℕ) (acts : List Act) (legs : List Leg) (place : ℕ) where
  pub act_in_book : (act : Act) → are_in_book book acts legs ≡ true → place < length acts → is_act_in_book book (get_or acts place act) ≡ true
  unfolding are_in_book
  act_in_book act all less = all_at (is_act_in_book book) acts place act (both (list_all (is_act_in_book book) acts) _ all).0 less

  pub leg_in_book : (leg : Leg) → are_in_book book acts legs ≡ true → place < length legs → is_leg_in_book book (get_or legs place leg) ≡ true
  unfolding are_in_book
  leg_in_book leg all less = all_at (is_leg_in_book book) legs place leg (both (list_all (is_act_in_book book) acts) _ all).1 less

  abbrev lines : List Act → List Leg → List ℕ
  lines a l = element_lines book person index a l

  abbrev later : List ℕ
  later = lines (drop (place + 1) acts) (drop (place + 1) legs)

  -- an activity behind which there is no leg
  pub act_alone : (act : Act) (text more : List ℕ) → place < length acts → length legs ≤ place → more ≡ text ++ row_line (act_row book person index (get_or acts place act))
      → more ++ later ≡ text ++ lines (drop place acts) (drop place legs)
  unfolding element_lines element_rows
  act_alone act text more less few pushed =
      rw (pushed, append_assoc, drop_all (place + 1) legs (omega arith), drop_more acts place act less, drop_all place legs few)

  -- an activity and the leg behind it
  pub act_and_leg : (act : Act) (leg : Leg) (text some more : List ℕ) → place < length acts → place < length legs → some ≡ text ++ row_line (act_row book person index (get_or acts place act))
      → more ≡ some ++ row_line (leg_row book person index (get_or legs place leg)) → more ++ later ≡ text ++ lines (drop place acts) (drop place legs)
  unfolding element_lines element_rows
  act_and_leg act leg text some more less here pushed_act pushed_leg =
      rw (pushed_leg, pushed_act, append_assoc, append_assoc, drop_more acts place act less, drop_more legs place leg here)

  -- nothing is left behind the last activity
  pub all_written : length acts ≤ place → lines (drop place acts) (drop place legs) ≡ []
  unfolding element_lines element_rows
  all_written few = rw (drop_all place acts few)
