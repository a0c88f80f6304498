-- What stands in the fields of a plan's rows: no comma, and no line feed.
use Rattle.records.proofs.Common.{◌≡◌, List, ℕ, length, arith, map, [], ◌<◌, None, Some, ◌++◌, ◌∷◌, refl, true, Bool, Option, false, ◌&&◌, ◌||◌, append_assoc}
use Rattle.records.proofs.Common.{◌^◌, nat_tests, list_all-append, list_all, join_with_byte, flat_map, nat_eq, nat_lt, nat_le, decimal, is_name, name_at, Book}
use Rattle.records.{proofs.Common.Mode, proofs.Common.LAST_SECOND, proofs.Common.parts_of, proofs.Common.Row, specs.Numbers.is_digit}
use Rattle.events.specs.declared.event.Mode.TheVariants as mode
use Rattle.events.{proofs.NameLists.is_name-name_at, specs.Names.is_name_byte, specs.Names.AreNames, specs.Words.mode_text}
use Rattle.rows.specs.{Plan.is_leg, Plan.is_teleported, Plan.mode_of_leg, declared.plan.Act.Act, declared.plan.Leg.Leg}
use Rattle.rows.specs.declared.plan.Leg.TheVariants as leg
use Rattle.plan_text.proofs.{Decimals.decimal_writes, Joins.both, Joins.and_true, Joins.parts_back, Joins.part_off}
use Rattle.plan_text.specs.Elements.{rows_in}
use Rattle.plan_text.specs.Lines.{IsBook, row_line, end_text, act_row, seconds_text, route_names, route_text, leg_row, is_act_in_book, is_leg_in_book}

-- a byte of a name, or a space
abbrev pub is_field_byte : ℕ → Bool
is_field_byte b = is_name_byte b || nat_eq b 32

-- such a byte, or a comma
abbrev pub is_line_byte : ℕ → Bool
is_line_byte b = is_field_byte b || nat_eq b 44

abbrev pub is_clean : List ℕ → Bool
is_clean bytes = list_all is_field_byte bytes

-- at least one field, and no bytes in any but those of names and spaces
abbrev pub is_row : Row → Bool
is_row [] = false
is_row (x ∷ xs) = list_all is_clean (x ∷ xs)

pub all_weaker : {X : Type 0} (p q : X → Bool) → ((b : X) → p b ≡ true → q b ≡ true) → (xs : List X) → list_all p xs ≡ true → list_all q xs ≡ true
all_weaker p q more [] h = refl
all_weaker p q more (x ∷ xs) h = let parts = both (p x) (list_all p xs) h in and_true (q x) _ (more x parts.0) (all_weaker p q more xs parts.1)

-- the bytes of a name
pub name_bytes : (bytes : List ℕ) → is_name bytes ≡ true → list_all is_name_byte bytes ≡ true
unfolding is_name
name_bytes bytes h = grind arith

clean_bytes : (bytes : List ℕ) → list_all is_name_byte bytes ≡ true → is_clean bytes ≡ true
clean_bytes bytes h = all_weaker is_name_byte is_field_byte (λ b one. grind arith) bytes h

clean_name : (names : List (List ℕ)) (n : ℕ) → AreNames names → nat_lt n (length names) ≡ true → is_clean (name_at names n) ≡ true
clean_name names n are less =
    let within : n < length names = grind (arith, nat_tests) in clean_bytes (name_at names n) (name_bytes (name_at names n) (is_name-name_at names n are within))

digit_in_field : (b : ℕ) → is_digit b ≡ true → is_field_byte b ≡ true
digit_in_field b h = grind arith

clean_number : (n : ℕ) → n < 2 ^ 64 → is_clean (decimal n) ≡ true
clean_number n less = all_weaker is_digit is_field_byte digit_in_field (decimal n) (decimal_writes n less).0

-- joined pieces of bytes of a kind to which the byte between them belongs
joined_all : (p : ℕ → Bool) (c : ℕ) → p c ≡ true → (pieces : List (List ℕ)) → list_all (list_all p) pieces ≡ true → list_all p (join_with_byte c pieces) ≡ true
joined_all p c one [] h = refl
joined_all p c one (x ∷ []) h = (both (list_all p x) true h).0
joined_all p c one (x ∷ y ∷ ys) h =
    let parts = both (list_all p x) (list_all (list_all p) (y ∷ ys)) h in
    rw (list_all-append p x (c ∷ join_with_byte c (y ∷ ys)), parts.0, one) (joined_all p c one (y ∷ ys) parts.1)

pub below : (n m : ℕ) → nat_lt n m ≡ true → n < m
below n m h = grind (arith, nat_tests)

-- the names of numbers that are below the length
pub names_named : (names : List (List ℕ)) (numbers : List ℕ) → AreNames names → list_all (λ n. nat_lt n (length names)) numbers ≡ true → list_all is_name (map (name_at names) numbers) ≡ true
names_named names [] are h = refl
names_named names (n ∷ numbers) are h =
    let parts = both (nat_lt n (length names)) _ h in
    and_true (is_name (name_at names n)) _ (is_name-name_at names n are (below n (length names) parts.0)) (names_named names numbers are parts.1)

pub three_parts : (a b c : Bool) → (a && b && c) ≡ true → (a ≡ true) × (b ≡ true) × (c ≡ true)
three_parts a b c h = (grind arith, grind arith, grind arith)

-- what a route names are names
pub route_named : (book : Book) (leg : Leg) → IsBook book → is_leg_in_book book leg ≡ true → list_all is_name (route_names book leg) ≡ true
route_named book (leg.Car route) are in_book = names_named book.links route are.links in_book
route_named book (leg.Teleport mode seconds) are in_book = refl
route_named book (leg.Transit line access egress) are in_book =
    let parts = three_parts _ _ _ in_book in
    and_true _ _ (is_name-name_at book.lines line are.lines (below line _ parts.0))
    (and_true _ _ (is_name-name_at book.stops access are.stops (below access _ parts.1)) (and_true _ _ (is_name-name_at book.stops egress are.stops (below egress _ parts.2)) refl))

clean_route : (book : Book) (leg : Leg) → IsBook book → is_leg_in_book book leg ≡ true → is_clean (route_text book leg) ≡ true
unfolding route_text
clean_route book leg are in_book =
    joined_all is_field_byte 32 refl (route_names book leg) (all_weaker is_name is_clean (λ bytes h. clean_bytes bytes (name_bytes bytes h)) (route_names book leg) (route_named book leg are in_book))

clean_mode : (mode : Mode) → is_clean (mode_text mode) ≡ true
clean_mode mode.Car = refl
clean_mode mode = refl

-- an end that is none, or at most 172,800
abbrev pub is_time : Option ℕ → Bool
is_time None = true
is_time (Some second) = nat_le second LAST_SECOND

short : (n : ℕ) → nat_le n LAST_SECOND ≡ true → n < 2 ^ 64
short n h = grind (arith, nat_tests)

clean_end : (end : Option ℕ) → is_time end ≡ true → is_clean (end_text end) ≡ true
clean_end None h = refl
clean_end (Some second) h = clean_number second (short second h)

clean_seconds : (leg : Leg) → is_leg leg ≡ true → is_clean (seconds_text leg) ≡ true
clean_seconds (leg.Teleport mode seconds) h = clean_number seconds (short seconds (three_parts (is_teleported mode) (nat_le 1 seconds) (nat_le seconds LAST_SECOND) h).2)
clean_seconds leg h = refl

module _ (book : Book) (person index : ℕ) (are : IsBook book) (there : person < length book.persons) (small : index < 2 ^ 32) where
  clean_person : is_clean (name_at book.persons person) ≡ true
  clean_person = clean_bytes (name_at book.persons person) (name_bytes (name_at book.persons person) (is_name-name_at book.persons person are.persons there))

  clean_index : is_clean (decimal index) ≡ true
  clean_index = clean_number index (omega arith)

  pub act_is_row : (act : Act) → is_act_in_book book act ≡ true → is_time act.end ≡ true → is_row (act_row book person index act) ≡ true
  unfolding act_row
  act_is_row act in_book time =
      let parts = both (nat_lt act.kind (length book.kinds)) (nat_lt act.link (length book.links)) in_book in
      rw (clean_person, clean_index, clean_name book.kinds act.kind are.kinds parts.0, clean_name book.links act.link are.links parts.1, clean_end act.end time)

  pub leg_is_row : (leg : Leg) → is_leg_in_book book leg ≡ true → is_leg leg ≡ true → is_row (leg_row book person index leg) ≡ true
  unfolding leg_row
  leg_is_row leg in_book sound =
      rw (clean_person, clean_index, clean_mode (mode_of_leg leg), clean_seconds leg sound, clean_route book leg are in_book)

line_clean : (row : Row) → is_row row ≡ true → list_all is_line_byte (join_with_byte 44 row) ≡ true
line_clean [] h = absurd (cc h)
line_clean (x ∷ xs) h =
    let more : (bytes : List ℕ) → is_clean bytes ≡ true → list_all is_line_byte bytes ≡ true = all_weaker is_field_byte is_line_byte (λ b two. grind arith) in
    joined_all is_line_byte 44 refl (x ∷ xs) (all_weaker is_clean (list_all is_line_byte) more (x ∷ xs) h)

fields_back : (row : Row) → is_row row ≡ true → parts_of 44 (join_with_byte 44 row) ≡ row
fields_back [] h = absurd (cc h)
fields_back (x ∷ xs) h = parts_back is_field_byte 44 refl x xs h

-- the lines of rows, cut into rows again: they, and a last one of one empty field
pub rows_back : (rows : List Row) → list_all is_row rows ≡ true → rows_in (flat_map row_line rows) ≡ rows ++ ([] ∷ []) ∷ []
unfolding rows_in row_line parts_of
rows_back [] h = refl
rows_back (row ∷ rows) h =
    let parts = both (is_row row) (list_all is_row rows) h in
    rw (append_assoc (join_with_byte 44 row), part_off is_line_byte 10 refl (join_with_byte 44 row) (flat_map row_line rows) (line_clean row parts.0))
    (rw (fields_back row parts.0, rows_back rows parts.1) refl)
