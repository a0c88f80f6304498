-- Numbers and names in fields: what they are made of, and what is read from them.
use Rattle.records.proofs.Common.{◌≡◌, List, ap, ℕ, length, ◌∙◌, arith, [], ◌<◌, Some, ◌++◌, ◌∷◌, refl, true, Bool, false, ◌≤◌, ◌^◌, ◌&&◌, ◌||◌, sym}
use Rattle.records.proofs.Common.{append_assoc, length-append, nat_tests, list_all-append, list_all, nat_le, nat_eq, is_name, decimal, option_map, parts_of}
use Rattle.records.specs.Numbers.{is_digit, number_in, signed_in}
use Rattle.std.specs.Prelude.{pos, get_or}
use Rattle.std.proofs.lemmas.Fmt.{decimal_injective, decimal_nonempty, length-decimal-le}
use Rattle.events.specs.Names.{is_name_byte}
use Rattle.plan_text.proofs.{Clean.all_weaker, Clean.name_bytes, Decimals.decimal_writes, Decimals.number_back, Joins.and_true, Joins.both, Joins.parts_back}
use Rattle.workload.specs.Rows.{link_name}
use Rattle.law_generated.proofs.Lines.{is_plain, is_plain_byte, is_short}

digit_plain : (b : ℕ) → is_digit b ≡ true → is_plain_byte b ≡ true
digit_plain b h = grind (arith, nat_tests)

name_plain_byte : (b : ℕ) → is_name_byte b ≡ true → is_plain_byte b ≡ true
name_plain_byte b h = grind (arith, nat_tests)

pub digit_named : (b : ℕ) → is_digit b ≡ true → is_name_byte b ≡ true
digit_named b h = by (nat_le 48 b && nat_le b 57) h
  where
    by : (d : Bool) → d ≡ true → ((nat_le 65 b && nat_le b 90) || (nat_le 97 b && nat_le b 122) || d || nat_eq b 95 || nat_eq b 46 || nat_eq b 45) ≡ true
    by d is = grind arith

at_most : (a b : ℕ) → a ≤ b → nat_le a b ≡ true
at_most a b h = grind (arith, nat_tests)

-- the digits of a number that is small
pub digits_of : (n : ℕ) → n < 2 ^ 32 → list_all is_digit (decimal n) ≡ true
digits_of n less = (decimal_writes n (omega arith)).0

pub number_plain : (n : ℕ) → n < 2 ^ 32 → is_plain (decimal n) ≡ true
number_plain n less = all_weaker is_digit is_plain_byte digit_plain (decimal n) (digits_of n less)

pub few_digits : (n : ℕ) → n < 2 ^ 32 → length (decimal n) ≤ 10
few_digits n less = length-decimal-le 10 n (omega arith) (omega arith) (omega arith)

pub number_short : (n : ℕ) → n < 2 ^ 32 → is_short (decimal n) ≡ true
number_short n less = at_most (length (decimal n)) 64 (omega (arith, few_digits n less))

-- a name is plain and short
pub name_plain : (name : List ℕ) → is_name name ≡ true → is_plain name ≡ true
name_plain name h = all_weaker is_name_byte is_plain_byte name_plain_byte name (name_bytes name h)

pub name_short : (name : List ℕ) → is_name name ≡ true → is_short name ≡ true
unfolding is_name
name_short name h = middle (nat_le 1 (length name)) (nat_le (length name) 64) (list_all is_name_byte name) h
  where
    middle : (a b c : Bool) → (a && b && c) ≡ true → b ≡ true
    middle a b c h = grind arith

three : (a b c : Bool) → a ≡ true → b ≡ true → c ≡ true → (a && b && c) ≡ true
three a b c p q r = grind arith

-- a letter and digits are a name
pub lettered : (letter n : ℕ) → is_name_byte letter ≡ true → n < 2 ^ 32 → is_name (letter ∷ decimal n) ≡ true
unfolding is_name
lettered letter n named less =
    three (nat_le 1 (length (letter ∷ decimal n))) (nat_le (length (letter ∷ decimal n)) 64) (list_all is_name_byte (letter ∷ decimal n))
    (at_most 1 (length (letter ∷ decimal n)) (omega arith)) (at_most (length (letter ∷ decimal n)) 64 (omega (arith, few_digits n less)))
    (and_true (is_name_byte letter) (list_all is_name_byte (decimal n)) named
    (all_weaker is_digit is_name_byte digit_named (decimal n) (digits_of n less)))

-- and so are a letter, digits, `_` and digits
pub lettered_twice : (letter a b : ℕ) → is_name_byte letter ≡ true → a < 2 ^ 32 → b < 2 ^ 32 → is_name (letter ∷ (decimal a ++ 95 ∷ decimal b)) ≡ true
unfolding is_name
lettered_twice letter a b named first second =
    let count = length-append (decimal a) (95 ∷ decimal b) in
    three (nat_le 1 (length (letter ∷ (decimal a ++ 95 ∷ decimal b)))) (nat_le (length (letter ∷ (decimal a ++ 95 ∷ decimal b))) 64)
    (list_all is_name_byte (letter ∷ (decimal a ++ 95 ∷ decimal b)))
    (at_most 1 (length (letter ∷ (decimal a ++ 95 ∷ decimal b))) (omega arith))
    (at_most (length (letter ∷ (decimal a ++ 95 ∷ decimal b))) 64 (omega (arith, count, few_digits a first, few_digits b second)))
    (and_true (is_name_byte letter) (list_all is_name_byte (decimal a ++ 95 ∷ decimal b)) named
    (list_all-append is_name_byte (decimal a) (95 ∷ decimal b)
    ∙ and_true (list_all is_name_byte (decimal a)) (list_all is_name_byte (95 ∷ decimal b))
    (all_weaker is_digit is_name_byte digit_named (decimal a) (digits_of a first))
    (all_weaker is_digit is_name_byte digit_named (decimal b) (digits_of b second))))

-- the name of a link, with its pieces joined the other way
pub link_name_is : (link : ℕ × ℕ) → link_name link ≡ 108 ∷ (decimal link.0 ++ 95 ∷ decimal link.1)
link_name_is link = ap (λ (t : List ℕ). 108 ∷ t) (append_assoc (decimal link.0) (95 ∷ []) (decimal link.1))

-- numbers that are read back
no_minus : (b : ℕ) (bs : List ℕ) → list_all is_digit (b ∷ bs) ≡ true → nat_eq b 45 ≡ false
no_minus b bs h = let one = both (is_digit b) (list_all is_digit bs) h in grind (arith, nat_tests)

signed_cons : (limit b : ℕ) (bs : List ℕ) → nat_eq b 45 ≡ false → signed_in limit (b ∷ bs) ≡ option_map pos (number_in 0 limit (b ∷ bs))
unfolding signed_in
signed_cons limit b bs h = rw h refl

pub signed_back : (limit n : ℕ) → n ≤ limit → n < 2 ^ 32 → signed_in limit (decimal n) ≡ Some (pos n)
signed_back limit n within small = by (decimal n) refl
  where
    by : (ds : List ℕ) → decimal n ≡ ds → signed_in limit ds ≡ Some (pos n)
    by [] is = absurd (omega (arith, decimal_nonempty n (omega arith), ap length is))
    by (b ∷ bs) is =
        let digits : list_all is_digit (b ∷ bs) ≡ true = sym (ap (list_all is_digit) is) ∙ digits_of n small in
        let number : number_in 0 limit (b ∷ bs) ≡ Some n = sym (ap (number_in 0 limit) is) ∙ number_back 0 limit n (omega arith) within small in
        signed_cons limit b bs (no_minus b bs digits) ∙ ap (option_map pos) number

-- names of numbers that differ
second_first : (x y z w : List ℕ) → ◌≡◌ {A = List (List ℕ)} (x ∷ y ∷ []) (z ∷ w ∷ []) → (x ≡ z) × (y ≡ w)
second_first x y z w same = (ap (λ (l : List (List ℕ)). get_or l 0 []) same, ap (λ (l : List (List ℕ)). get_or l 1 []) same)

-- two pieces of digits with `_` between them, cut there
two_parts : (a b : ℕ) → a < 2 ^ 32 → b < 2 ^ 32 → parts_of 95 (decimal a ++ 95 ∷ decimal b) ≡ decimal a ∷ decimal b ∷ []
two_parts a b first second =
    parts_back is_digit 95 refl (decimal a) (decimal b ∷ [])
    (and_true (list_all is_digit (decimal a)) (list_all (list_all is_digit) (decimal b ∷ [])) (digits_of a first)
    (and_true (list_all is_digit (decimal b)) true (digits_of b second) refl))

tail_of : List ℕ → List ℕ
tail_of [] = []
tail_of (x ∷ xs) = xs

-- a link's name tells its nodes
pub link_of_name : (a b c d : ℕ) → a < 2 ^ 32 → b < 2 ^ 32 → c < 2 ^ 32 → d < 2 ^ 32 → link_name (a, b) ≡ link_name (c, d) → (a ≡ c) × (b ≡ d)
unfolding tail_of
link_of_name a b c d pa pb pc pd same =
    let pieces : decimal a ++ 95 ∷ decimal b ≡ decimal c ++ 95 ∷ decimal d =
    ap tail_of (sym (link_name_is (a, b)) ∙ same ∙ link_name_is (c, d)) in
    let parts = second_first (decimal a) (decimal b) (decimal c) (decimal d) (sym (two_parts a b pa pb) ∙ ap (parts_of 95) pieces ∙ two_parts c d pc pd) in
    (decimal_injective a c (omega arith) (omega arith) parts.0, decimal_injective b d (omega arith) (omega arith) parts.1)

-- a letter and digits tell the number
pub number_of_name : (letter a b : ℕ) → a < 2 ^ 32 → b < 2 ^ 32 → letter ∷ decimal a ≡ letter ∷ decimal b → a ≡ b
unfolding tail_of
number_of_name letter a b pa pb same = decimal_injective a b (omega arith) (omega arith) (ap tail_of same)
