-- Lines of plain fields, as they are read back.
use Rattle.records.proofs.Common.{◌≡◌, List, ap, ℕ, length, ◌∙◌, arith, [], ◌<◌, Some, ◌++◌, ◌∷◌, refl, true, Bool, ◌+◌, false, ◌≤◌, suc, zero, ◌||◌}
use Rattle.records.proofs.Common.{sym, length-append, nat_tests, list_all, flat_map, nat_lt, nat_le, nat_eq, Row, ◌&&◌, join_with_byte, drop, rows_of, body_of}
use Rattle.std.{proofs.Common.◌*◌, specs.List.list_any, specs.Prelude.◌==◌}
use Rattle.csv.{proofs.RoundTrip.read-write-many, specs.Machine.next_record}
use Rattle.csv.specs.Reading.{default_config, records_from, records_next, strip_bom}
use Rattle.csv.specs.Writing.{default_writer, field_text, fields_text, is_blank, needs_byte, row_text}
use Rattle.csv.specs.declared.parser.State.TheVariants as st
use Rattle.plan_text.{proofs.Joins.behind_each, proofs.Joins.both, proofs.Joins.join_first, specs.Lines.row_line}

-- a byte that stands for itself in a field: a space, or one behind the comma
abbrev pub is_plain_byte : ℕ → Bool
is_plain_byte b = nat_lt 44 b || nat_eq b 32

-- such bytes, at most so many
abbrev pub is_plain : List ℕ → Bool
is_plain bytes = list_all is_plain_byte bytes

-- two fields or more, of such bytes
abbrev pub is_row : Row → Bool
is_row [] = false
is_row (x ∷ []) = false
is_row (x ∷ y ∷ ys) = list_all is_plain (x ∷ y ∷ ys)

plain_byte : (b : ℕ) → is_plain_byte b ≡ true → needs_byte default_writer b ≡ false
plain_byte b h = grind (arith, nat_tests)

neither : (a b : Bool) → a ≡ false → b ≡ false → (a || b) ≡ false
neither a b p q = grind arith

no_quotes : (x : List ℕ) → is_plain x ≡ true → list_any (needs_byte default_writer) x ≡ false
no_quotes [] h = refl
no_quotes (b ∷ bs) h =
    let parts = both (is_plain_byte b) (is_plain bs) h in
    neither (needs_byte default_writer b) (list_any (needs_byte default_writer) bs) (plain_byte b parts.0) (no_quotes bs parts.1)

field_is : (x : List ℕ) → is_plain x ≡ true → field_text default_writer x ≡ x
field_is x h = rw (no_quotes x h) refl

fields_are : (ys : Row) → list_all is_plain ys ≡ true → fields_text default_writer ys ≡ behind_each 44 ys
unfolding fields_text
fields_are [] h = refl
fields_are (y ∷ ys) h =
    let parts = both (is_plain y) (list_all is_plain ys) h in
    ap (λ (t : List ℕ). 44 ∷ (t ++ fields_text default_writer ys)) (field_is y parts.0)
    ∙ ap (λ (t : List ℕ). 44 ∷ (y ++ t)) (fields_are ys parts.1)

-- the line of a row is what the default writer writes
row_is : (x y : List ℕ) (ys : Row) → list_all is_plain (x ∷ y ∷ ys) ≡ true → row_line (x ∷ y ∷ ys) ≡ row_text default_writer (x ∷ y ∷ ys)
unfolding row_line is_blank
row_is x y ys h =
    let parts = both (is_plain x) (list_all is_plain (y ∷ ys)) h in
    ap (λ (t : List ℕ). t ++ 10 ∷ []) (join_first 44 x (y ∷ ys)
    ∙ ap (λ (t : List ℕ). x ++ t) (sym (fields_are (y ∷ ys) parts.1))
    ∙ ap (λ (t : List ℕ). t ++ fields_text default_writer (y ∷ ys)) (sym (field_is x parts.0)))

read_row : (row : Row) (tail : List ℕ) → is_row row ≡ true
    → next_record default_config st.StartRecord [] [] (row_line row ++ tail) ≡ Some (row, st.StartRecord, tail)
read_row [] tail h = absurd (cc h)
read_row (x ∷ []) tail h = absurd (cc h)
read_row (x ∷ y ∷ ys) tail h =
    ap (λ (t : List ℕ). next_record default_config st.StartRecord [] [] (t ++ tail)) (row_is x y ys h) ∙ read-write-many x y ys tail

lines_read : (rows : List Row) (n : ℕ) → list_all is_row rows ≡ true → length rows < n
    → records_from default_config n st.StartRecord (flat_map row_line rows) ≡ rows
unfolding records_from next_record
lines_read rows zero h less = absurd (omega (arith, less))
lines_read [] (suc n) h less = refl
lines_read (row ∷ rows) (suc n) h less =
    let parts = both (is_row row) (list_all is_row rows) h in
    ap (records_next (records_from default_config n)) (read_row row (flat_map row_line rows) parts.0)
    ∙ ap (λ (l : List Row). row ∷ l) (lines_read rows n parts.1 (omega (arith, less)))

length_line : (row : Row) → 1 ≤ length (row_line row)
unfolding row_line
length_line row = omega (arith, length-append (join_with_byte 44 row) (10 ∷ []))

lines_long : (rows : List Row) → length rows ≤ length (flat_map row_line rows)
lines_long [] = omega arith
lines_long (row ∷ rows) =
    omega (arith, length-append (row_line row) (flat_map row_line rows), length_line row, lines_long rows)

-- a text that does not begin with a byte order mark
no_mark : (b : ℕ) (bs : List ℕ) → (b == 239) ≡ false → strip_bom (b ∷ bs) ≡ b ∷ bs
unfolding strip_bom
no_mark b [] h = refl
no_mark b (c ∷ []) h = refl
no_mark b (c ∷ d ∷ rest) h = rw h refl

-- a file of lines is read as its rows, where its first byte is none of a mark
pub rows_back : (b : ℕ) (x y : List ℕ) (ys : Row) (rows : List Row) → (b == 239) ≡ false → list_all is_row (((b ∷ x) ∷ y ∷ ys) ∷ rows) ≡ true
    → rows_of (flat_map row_line (((b ∷ x) ∷ y ∷ ys) ∷ rows)) ≡ ((b ∷ x) ∷ y ∷ ys) ∷ rows
unfolding rows_of row_line
rows_back b x y ys rows none h =
    let all : List Row = ((b ∷ x) ∷ y ∷ ys) ∷ rows in
    let text : List ℕ = flat_map row_line all in
    ap (λ (t : List ℕ). records_from default_config (length t + 1) st.StartRecord t)
    (no_mark b ((x ++ 44 ∷ join_with_byte 44 (y ∷ ys)) ++ 10 ∷ [] ++ flat_map row_line rows) none)
    ∙ lines_read all (length text + 1) h (omega (arith, lines_long all))

-- and the rows behind the header are those behind the first line
pub body_back : (b : ℕ) (x y : List ℕ) (ys : Row) (rows : List Row) → (b == 239) ≡ false → list_all is_row (((b ∷ x) ∷ y ∷ ys) ∷ rows) ≡ true
    → body_of (flat_map row_line (((b ∷ x) ∷ y ∷ ys) ∷ rows)) ≡ rows
unfolding body_of
body_back b x y ys rows none h = ap (λ (l : List Row). drop 1 l) (rows_back b x y ys rows none h)

at_most : (a b : ℕ) → nat_le a b ≡ true → a ≤ b
at_most a b h = grind (arith, nat_tests)

-- at most 64 bytes
abbrev pub is_short : List ℕ → Bool
is_short bytes = nat_le (length bytes) 64

-- at most seven such fields
abbrev pub is_short_row : Row → Bool
is_short_row row = nat_le (length row) 7 && list_all is_short row

pub length_joined : (c : ℕ) (row : Row) → list_all is_short row ≡ true → length (join_with_byte c row) ≤ 65 * length row
length_joined c [] h = omega arith
length_joined c (x ∷ []) h =
    let parts = both (is_short x) true h in
    omega (arith, at_most (length x) 64 parts.0)
length_joined c (x ∷ y ∷ ys) h =
    let parts = both (is_short x) (list_all is_short (y ∷ ys)) h in
    omega (arith, at_most (length x) 64 parts.0, length_joined c (y ∷ ys) parts.1, length-append x (c ∷ join_with_byte c (y ∷ ys)))

line_short : (row : Row) → is_short_row row ≡ true → length (row_line row) ≤ 456
unfolding row_line
line_short row h =
    let parts = both (nat_le (length row) 7) (list_all is_short row) h in
    omega (arith, at_most (length row) 7 parts.0, length_joined 44 row parts.1, length-append (join_with_byte 44 row) (10 ∷ []))

-- the lines of such rows
pub lines_short : (rows : List Row) → list_all is_short_row rows ≡ true → length (flat_map row_line rows) ≤ 456 * length rows
lines_short [] h = omega arith
lines_short (row ∷ rows) h =
    let parts = both (is_short_row row) (list_all is_short_row rows) h in
    omega (arith, line_short row parts.0, lines_short rows parts.1, length-append (row_line row) (flat_map row_line rows))
