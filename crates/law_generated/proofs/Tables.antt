-- Files without a fault: their header, and rows of which none has a reason.
use Rattle.records.proofs.Common.{◌≡◌, List, ap, ℕ, length, ◌∙◌, arith, [], ◌<◌, None, Some, ◌∷◌, refl, true, Bool, false, ◌≤◌, ◌&&◌, not, suc, zero, map}
use Rattle.records.proofs.Common.{nat_tests, list_all, flat_map, Option, cond, Row, Reason, rows_of, body_of, head_reason, optional_head_reason, first_below}
use Rattle.records.{proofs.Common.first_fault, proofs.Common.nat_lt, proofs.Common.nat_eq, proofs.Common.body_fault, specs.Faults.behind_head}
use Rattle.records.specs.{Faults.fault_at, Faults.least, Faults.or_else, Fields.is_header, Files.begins_with, Files.is_too_long, Reading.reason_after}
use Rattle.std.specs.List.{AllByRecursion as Each}
use Rattle.edge_files.specs.declared.reasons.Reason.TheVariants as reason
use Rattle.edge_files.specs.declared.reasons.RowFault.{RowFault}
use Rattle.limits.specs.declared.TheConstants.{MAX_FILE_BYTES}
use Rattle.plan_text.{proofs.Joins.and_true, specs.Lines.row_line}
use Rattle.law_generated.proofs.Lines.{is_row, is_short_row, body_back, lines_short, rows_back}

-- none of these tests holds
abbrev pub NoneHolds : List (Bool × Reason) → Type 0
NoneHolds [] = Unit {0}
NoneHolds (test ∷ tests) = (test.0 ≡ false) × NoneHolds tests

-- so there is no reason
pub no_reason : (tests : List (Bool × Reason)) → NoneHolds tests → least tests ≡ None
no_reason [] none = refl
no_reason (test ∷ tests) none = ap (λ (b : Bool). cond b (Some test.1) (least tests)) none.0 ∙ no_reason tests none.1

none_below : (reasons : ℕ → Option Reason) (n : ℕ) → ((i : ℕ) → i < n → reasons i ≡ None) → first_below reasons n ≡ None
none_below reasons zero none = refl
none_below reasons (suc n) none =
    ap (λ (o : Option RowFault). or_else o (fault_at n (reasons n))) (none_below reasons n (λ i less. none i (omega (arith, less))))
    ∙ ap (λ (why : Option Reason). fault_at n why) (none n (omega arith))

-- a file of which no row has a reason has no fault
pub no_fault : (head : Option Reason) (reasons : ℕ → Option Reason) (count : ℕ) → head ≡ None → ((i : ℕ) → i < count → reasons i ≡ None)
    → first_fault head reasons count ≡ None
unfolding first_fault
no_fault head reasons count at_head none = none_below (behind_head head reasons) (suc count) each
  where
    each : (i : ℕ) → i < suc count → behind_head head reasons i ≡ None
    each zero less = at_head
    each (suc i) less = none i (omega (arith, less))

-- the same of rows that are read one by one
pub no_body_fault : {X : Type 0} (head : Option Reason) (key : ℕ) (value : Row → X) (why : List (List ℕ) → List X → Row → Option Reason) (rows : List Row)
    → head ≡ None → ((i : ℕ) → i < length rows → reason_after key value why rows i ≡ None) → body_fault head key value why rows ≡ None
unfolding body_fault
no_body_fault head key value why rows at_head none = no_fault head (reason_after key value why rows) (length rows) at_head none

-- bytes that are read as a header and rows behind it, and are not too many
pub record IsFile (header : Row) (rows : List Row) (bytes : List ℕ) : Type 0 where
  pub read : rows_of bytes ≡ header ∷ rows
  pub body : body_of bytes ≡ rows
  pub short : length bytes ≤ MAX_FILE_BYTES

-- lines of plain fields are such
pub lines_are_file : (b : ℕ) (x y : List ℕ) (ys : Row) (rows : List Row) → nat_eq b 239 ≡ false → list_all is_row (((b ∷ x) ∷ y ∷ ys) ∷ rows) ≡ true
    → list_all is_short_row (((b ∷ x) ∷ y ∷ ys) ∷ rows) ≡ true → length rows ≤ 300000
    → IsFile ((b ∷ x) ∷ y ∷ ys) rows (flat_map row_line (((b ∷ x) ∷ y ∷ ys) ∷ rows))
lines_are_file b x y ys rows none plain short few = record {
  read = rows_back b x y ys rows none plain;
  body = body_back b x y ys rows none plain;
  short = omega (arith, lines_short (((b ∷ x) ∷ y ∷ ys) ∷ rows) short, few);
}

not_long : (n : ℕ) → n ≤ MAX_FILE_BYTES → nat_lt MAX_FILE_BYTES n ≡ false
not_long n few = grind (arith, nat_tests)

not_alone : (n : ℕ) → 1 ≤ n → nat_eq (suc n) 1 ≡ false
not_alone n some = grind (arith, nat_tests)

-- nothing is wrong with row 0 of a file that must have rows
pub head_passes : (header : Row) (rows : List Row) (bytes : List ℕ) → IsFile header rows bytes → is_header header header ≡ true → 1 ≤ length rows
    → head_reason header bytes ≡ None
unfolding head_reason
head_passes header rows bytes is named some =
    no_reason (
    (is_too_long bytes, reason.TooLong)
    ∷ (not (begins_with header (rows_of bytes)), reason.Header)
    ∷ (nat_eq (length (rows_of bytes)) 1, reason.Empty)
    ∷ []) (
      not_long (length bytes) is.short,
      (
        ap (λ (l : List Row). not (begins_with header l)) is.read ∙ ap not named,
        (ap (λ (l : List Row). nat_eq (length l) 1) is.read ∙ not_alone (length rows) some, tt),
      ),
    )

both_false : (a b : Bool) → b ≡ false → (a && b) ≡ false
both_false a b h = grind arith

-- the same where it may be left out
pub optional_head_passes : (header : Row) (rows : List Row) (bytes : List ℕ) → IsFile header rows bytes → is_header header header ≡ true
    → optional_head_reason header bytes ≡ None
unfolding optional_head_reason
optional_head_passes header rows bytes is named =
    no_reason (
    (is_too_long bytes, reason.TooLong)
    ∷ (not (nat_eq (length bytes) 0) && not (begins_with header (rows_of bytes)), reason.Header)
    ∷ []) (
      not_long (length bytes) is.short,
      (
        both_false (not (nat_eq (length bytes) 0)) (not (begins_with header (rows_of bytes)))
            (ap (λ (l : List Row). not (begins_with header l)) is.read ∙ ap not named),
        tt,
      ),
    )

-- every row that a rule makes passes a test
pub rows_pass : {A : Type 0} (p : Row → Bool) (row : A → Row) (P : A → Type 0) → ((x : A) → P x → p (row x) ≡ true) → (xs : List A) → Each P xs
    → list_all p (map row xs) ≡ true
rows_pass p row P each [] all = refl
rows_pass p row P each (x ∷ xs) all = and_true (p (row x)) (list_all p (map row xs)) (each x all.0) (rows_pass p row P each xs all.1)
