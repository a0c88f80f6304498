-- Names in the rows of a file none of whose rows is refused.
use Rattle.records.proofs.{Columns.map_more, Common.◌≡◌, Common.List, Common.ℕ, Common.length}
use Rattle.records.proofs.Common.{◌∙◌, arith, map, [], ◌<◌, sym, None, Some, ◌++◌, ◌∷◌, refl, true, Bool, Option, ◌+◌, false, cond, ◌^◌, get_or, ◌&&◌, ◌≤◌, suc}
use Rattle.records.proofs.Common.{zero, take, subst, length-append, length-map, take_all, list_all, list_all-append, flat_map, fold, nat_lt, with_name, is_held}
use Rattle.records.proofs.Common.{number_of, firsts, is_name, field, column, holds_name, body_of, rows_of, Row, Reason, strip_bom, body_fault}
use Rattle.records.{proofs.Records.length-strip_bom, proofs.Sound.both_true, proofs.Unrefused.each_none, specs.Files.is_too_long, specs.Reading.reason_after}
use Rattle.std.proofs.{Common.length-drop, lemmas.Bool.Decides.nat_tests, lemmas.List.length-take-le}
use Rattle.limits.specs.declared.TheConstants.{MAX_FILE_BYTES}
use Rattle.csv.specs.{Machine.Read, Machine.next_record, Reading.default_config, Reading.records_from, Reading.records_next}
use Rattle.csv.specs.declared.parser.{Config.Config, State.State}
use Rattle.csv.specs.declared.parser.State.TheVariants as st
use Rattle.events.{proofs.NameLists.AreNames-push, proofs.NameLists.no_number-absent, specs.Names.AreNames}

pub no_names : AreNames []
no_names = record { each = refl; distinct = refl; few = omega arith }

-- A COLUMN WHOSE NAMES COME ONCE
-- a row that is not refused has a name in this column, and none that a row before it has
abbrev pub Names : {X : Type 0} → ℕ → (List (List ℕ) → List X → Row → Option Reason) → Type 0
Names {X} key reason = (names : List (List ℕ)) (values : List X) (row : Row) → reason names values row ≡ None
    → (is_name (field row key) ≡ true) × (number_of (field row key) names ≡ None)

names_to : {X : Type 0} (head : Option Reason) (key : ℕ) (value : Row → X) (reason : List (List ℕ) → List X → Row → Option Reason) (rows : List Row)
    → body_fault head key value reason rows ≡ None → Names key reason → length rows ≤ 2 ^ 31
    → (n : ℕ) → n ≤ length rows → AreNames (column key (take n rows))
unfolding body_fault
names_to head key value reason rows none named few zero within = no_names
names_to head key value reason rows none named few (suc n) within =
    let less : n < length rows = omega arith in
    let one : n + 1 ≡ suc n = omega arith in
    let row : Row = get_or rows n [] in
    let own = named (column key (take n rows)) (map value (take n rows)) row (each_none head (reason_after key value reason rows) (length rows) n less none) in
    let count = length-map (take n rows) (λ (r : Row). field r key) in
    let before = length-take-le n rows (omega arith) in
    let room : length (column key (take n rows)) < 2 ^ 31 = omega arith in
    subst (λ (m : ℕ). AreNames (column key (take m rows))) one
    (subst AreNames (sym (map_more (λ (r : Row). field r key) rows n less))
    (AreNames-push (column key (take n rows)) (field row key) (names_to head key value reason rows none named few n (omega arith)) own.0
    (no_number-absent (column key (take n rows)) (field row key) own.1) room))

pub names_of_rows : {X : Type 0} (head : Option Reason) (key : ℕ) (value : Row → X) (reason : List (List ℕ) → List X → Row → Option Reason) (rows : List Row)
    → body_fault head key value reason rows ≡ None → Names key reason → length rows ≤ 2 ^ 31 → AreNames (column key rows)
names_of_rows head key value reason rows none named few =
    subst (λ (l : List Row). AreNames (column key l)) (take_all (length rows) rows (omega arith))
    (names_to head key value reason rows none named few (length rows) (omega arith))

-- NAMES BY FIRST APPEARANCE
pushed : (names : List (List ℕ)) (name : List ℕ) → AreNames names → is_name name ≡ true → length names < 2 ^ 31 → (b : Bool) → is_held name names ≡ b
    → AreNames (cond b names (names ++ name ∷ []))
pushed names name are named room true is = are
pushed names name are named room false is = AreNames-push names name are named is room

with_length : (names : List (List ℕ)) (name : List ℕ) (b : Bool) → length (cond b names (names ++ name ∷ [])) ≤ length names + 1
with_length names name true = omega arith
with_length names name false = omega (arith, length-append names (name ∷ []))

all_parts : (b c : Bool) → (b && c) ≡ true → (b ≡ true) × (c ≡ true)
all_parts true c h = (refl, h)
all_parts false c h = absurd (cc)

fold_names : (more names : List (List ℕ)) → AreNames names → list_all is_name more ≡ true → length names + length more ≤ 2 ^ 31
    → AreNames (fold with_name names more)
fold_names [] names are named few = are
fold_names (name ∷ more) names are named few =
    let parts = all_parts (is_name name) (list_all is_name more) named in
    let length_is = with_length names name (is_held name names) in
    fold_names more (with_name names name) (pushed names name are parts.0 (omega arith) (is_held name names) refl) parts.1 (omega arith)

pub first_names : (names : List (List ℕ)) → list_all is_name names ≡ true → length names ≤ 2 ^ 31 → AreNames (firsts names)
unfolding firsts
first_names names named few = fold_names names [] no_names named (omega (arith, few))

-- names of rows, of which each has such names
pub names_among : (names : Row → List (List ℕ)) (rows : List Row) → ((i : ℕ) → i < length rows → list_all is_name (names (get_or rows i [])) ≡ true)
    → list_all is_name (flat_map names rows) ≡ true
names_among names [] each = refl
names_among names (row ∷ rows) each =
    list_all-append is_name (names row) (flat_map names rows)
    ∙ both_true (list_all is_name (names row)) (list_all is_name (flat_map names rows)) (each 0 (omega arith))
    (names_among names rows (λ i less. each (suc i) (omega arith)))

pub few_among : (names : Row → List (List ℕ)) (rows : List Row) → ((row : Row) → length (names row) ≤ 1) → length (flat_map names rows) ≤ length rows
few_among names [] one = omega arith
few_among names (row ∷ rows) one =
    let own = one row in
    let later = few_among names rows one in
    omega (arith, length-append (names row) (flat_map names rows))

pub names_in_column : (key : ℕ) (rows : List Row) → ((i : ℕ) → i < length rows → holds_name (get_or rows i []) key ≡ true)
    → list_all is_name (column key rows) ≡ true
names_in_column key [] each = refl
names_in_column key (row ∷ rows) each =
    both_true (is_name (field row key)) (list_all is_name (column key rows)) (each 0 (omega arith))
    (names_in_column key rows (λ i less. each (suc i) (omega arith)))

-- HOW MANY ROWS
not_less : (limit n : ℕ) → nat_lt limit n ≡ false → n ≤ limit
not_less limit n h = grind (arith, nat_tests)

few_next : (more : State → List ℕ → List Row) (o : Option Read) (n : ℕ) → ((s : State) (xs : List ℕ) → length (more s xs) ≤ n)
    → length (records_next more o) ≤ suc n
few_next more None n few = omega arith
few_next more (Some p) n few = let later = few p.1 p.2 in omega (arith, later)

few_from : (cfg : Config) (n : ℕ) (s : State) (xs : List ℕ) → length (records_from cfg n s xs) ≤ n
unfolding records_from
few_from cfg zero s xs = omega arith
few_from cfg (suc n) s xs = few_next (records_from cfg n) (next_record cfg s [] [] xs) n (λ t ys. few_from cfg n t ys)

-- a file has at most one row more than bytes
pub few_rows_of : (bytes : List ℕ) → length (rows_of bytes) ≤ length bytes + 1
unfolding rows_of
few_rows_of bytes =
    let most = few_from default_config (length (strip_bom bytes) + 1) st.StartRecord (strip_bom bytes) in
    omega (arith, most, length-strip_bom bytes)

pub few_body : (bytes : List ℕ) → length (body_of bytes) ≤ length bytes + 1
unfolding body_of
few_body bytes =
    let most = few_rows_of bytes in
    omega (arith, most, length-drop 1 (rows_of bytes))

-- a file that is not too long has few enough rows for names
pub room_for : (bytes : List ℕ) → is_too_long bytes ≡ false → length (body_of bytes) ≤ 2 ^ 31
room_for bytes short =
    let most = few_body bytes in
    let less : length bytes ≤ MAX_FILE_BYTES = not_less MAX_FILE_BYTES (length bytes) short in
    omega arith
