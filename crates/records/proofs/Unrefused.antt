-- In a file without a fault no row has a reason; and what is then known of its numbers and names.
use Rattle.records.proofs.Common.{◌≡◌, List, ap, ℕ, length, ◌∙◌, arith, map, [], ◌<◌, None, Some, ◌∷◌, refl, true, Bool, Option, false, cond, get_or, ◌&&◌, ◌≤◌}
use Rattle.records.proofs.Common.{suc, take, zero, inl, inr, nat_tests, length-map, list_all, nat_lt, nat_le, unwrap_or, is_none, Reason, number_of}
use Rattle.records.proofs.Common.{first_fault, first_below, field, column, are_digits, number_in, value_of, body_fault, Row}
use Rattle.records.proofs.Sound.{both_true, number_known}
use Rattle.records.specs.{Faults.or_else, Faults.fault_at, Faults.behind_head, Reading.reason_after}
use Rattle.std.proofs.lemmas.{Bool.cases_lt, List.length-take-le}

pub less_than : (limit n : ℕ) → nat_le limit n ≡ false → n < limit
less_than limit n h = grind (arith, nat_tests)

pub or_none : {A : Type 0} (a b : Option A) → or_else a b ≡ None → (a ≡ None) × (b ≡ None)
or_none a b h = (grind arith, grind arith)

pub no_reason : (row : ℕ) (why : Option Reason) → fault_at row why ≡ None → why ≡ None
no_reason row why h = grind arith

-- of tests in their order none applies
pub none_applies : (b : Bool) (why : Reason) (rest : Option Reason) → cond b (Some why) rest ≡ None → (b ≡ false) × (rest ≡ None)
none_applies b why rest h = (grind arith, grind arith)

-- no place below has a reason where there is no fault
none_at : (reasons : ℕ → Option Reason) (n i : ℕ) → i < n → first_below reasons n ≡ None → reasons i ≡ None
none_at reasons zero i less none = absurd (omega arith)
none_at reasons (suc n) i less none =
    let parts = or_none (first_below reasons n) (fault_at n (reasons n)) none in
    elim (cases_lt i n) [
      | inl before ↦ none_at reasons n i before parts.0
      | inr last ↦ let same : i ≡ n = omega arith in ap reasons same ∙ no_reason n (reasons n) parts.1
    ]

-- row 0 has none
pub head_none : (head : Option Reason) (reasons : ℕ → Option Reason) (count : ℕ) → first_fault head reasons count ≡ None → head ≡ None
unfolding first_fault
head_none head reasons count none = none_at (behind_head head reasons) (suc count) 0 (omega arith) none

-- and no row behind it
pub each_none : (head : Option Reason) (reasons : ℕ → Option Reason) (count i : ℕ) → i < count → first_fault head reasons count ≡ None → reasons i ≡ None
unfolding first_fault
each_none head reasons count i less none = none_at (behind_head head reasons) (suc count) (suc i) (omega arith) none

all_by : {X : Type 0} (p : X → Bool) (value : Row → X) (rows : List Row) → ((i : ℕ) → i < length rows → p (value (get_or rows i [])) ≡ true) → list_all p (map value rows) ≡ true
all_by p value [] each = refl
all_by p value (row ∷ rows) each = both_true (p (value row)) (list_all p (map value rows)) (each 0 (omega arith)) (all_by p value rows (λ i less. each (suc i) (omega arith)))

-- where each row without a reason gives a value that passes, all values of the file do
pub values_pass : {X : Type 0} (head : Option Reason) (key : ℕ) (value : Row → X) (reason : List (List ℕ) → List X → Row → Option Reason) (rows : List Row) (p : X → Bool) → body_fault head key value reason rows ≡ None
    → ((i : ℕ) (names : List (List ℕ)) (values : List X) → i < length rows → reason names values (get_or rows i []) ≡ None → p (value (get_or rows i [])) ≡ true) → list_all p (map value rows) ≡ true
unfolding body_fault
values_pass head key value reason rows p none passes =
    all_by p value rows
    (λ i less. passes i (column key (take i rows)) (map value (take i rows)) less (each_none head (reason_after key value reason rows) (length rows) i less none))

-- where no row has a reason that has so many names before it, there are no more rows
pub few_rows : {X : Type 0} (head : Option Reason) (key : ℕ) (value : Row → X) (reason : List (List ℕ) → List X → Row → Option Reason) (rows : List Row) (limit : ℕ) → body_fault head key value reason rows ≡ None
    → ((names : List (List ℕ)) (values : List X) (row : Row) → reason names values row ≡ None → length names < limit) → length rows ≤ limit
unfolding body_fault
few_rows {X = X} head key value reason rows limit none room = by (length rows) refl
  where
    by : (n : ℕ) → length rows ≡ n → length rows ≤ limit
    by zero is = omega arith
    by (suc i) is =
        let less : i < length rows = omega arith in
        let last = room (column key (take i rows)) (map value (take i rows)) (get_or rows i []) (each_none head (reason_after key value reason rows) (length rows) i less none) in
        let count = length-map (take i rows) (λ (row : Row). field row key) in
        let before = length-take-le i rows (omega arith) in
        omega arith

in_range : (a : Bool) (low high v : ℕ) → is_none (cond (a && nat_le low v && nat_le v high) (Some v) None) ≡ false
    → (nat_le low (unwrap_or (cond (a && nat_le low v && nat_le v high) (Some v) None) 0) && nat_le (unwrap_or (cond (a && nat_le low v && nat_le v high) (Some v) None) 0) high) ≡ true
in_range a low high v some = grind (arith, nat_tests)

-- a number that is read of a field is in its range
pub number_in_range : (low high : ℕ) (bytes : List ℕ) → is_none (number_in low high bytes) ≡ false
    → (nat_le low (unwrap_or (number_in low high bytes) 0) && nat_le (unwrap_or (number_in low high bytes) 0) high) ≡ true
unfolding number_in
number_in_range low high bytes some = in_range (are_digits bytes) low high (value_of bytes) some

some_below : (names : List (List ℕ)) (name : List ℕ) (o : Option ℕ) → number_of name names ≡ o → is_none o ≡ false → nat_lt (unwrap_or o 0) (length names) ≡ true
some_below names name None held some = cc
some_below names name (Some n) held some = number_known names name n held

-- the number of a name that exists is below how many names there are
pub found_below : (names : List (List ℕ)) (name : List ℕ) → is_none (number_of name names) ≡ false → nat_lt (unwrap_or (number_of name names) 0) (length names) ≡ true
found_below names name some = some_below names name (number_of name names) refl some
