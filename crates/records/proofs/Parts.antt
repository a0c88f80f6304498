-- The parts between separators, one more part taken off.
use Rattle.records.proofs.Common.{◌≡◌, List, ap, ℕ, length, arith, map, [], ◌<◌, None, Some, ◌++◌, ◌∷◌, refl, true, Bool, ◌+◌, false, cond, ◌≤◌}
use Rattle.records.proofs.Common.{drop, not, take, append_assoc, Bor, nat_tests, map-append, nat_lt, parts_of}
use Rattle.std.proofs.lemmas.List.Splits.{slice_split_first}
use Rattle.std.specs.{List.slice_split, List.onto_first, List.position_or_len, Prelude.position, Prelude.◌==◌}

one_part_step : (b : Bool) (x : ℕ) (xs : List ℕ) (parts : List (List ℕ)) (n : ℕ) → length (x ∷ xs) ≤ cond (not b) (1 + n) 0 → (length xs ≤ n → parts ≡ xs ∷ [])
    → cond b ([] ∷ parts) (onto_first x parts) ≡ (x ∷ xs) ∷ []
one_part_step true x xs parts n h more = absurd (omega arith)
one_part_step false x xs parts n h more = ap (onto_first x) (more (omega arith))

-- where no element passes, the list is the one part
one_part : (p : ℕ → Bool) (xs : List ℕ) → length xs ≤ position_or_len p xs → slice_split p xs ≡ xs ∷ []
one_part p [] h = refl
one_part p (x ∷ xs) h = one_part_step (p x) x xs (slice_split p xs) (position_or_len p xs) h (one_part p xs)

first_place : (m l n : ℕ) → cond (nat_lt m l) (Some m) None ≡ Some n → (m ≡ n) × (m < l)
first_place m l n h = (grind (arith, nat_tests), grind (arith, nat_tests))

no_place : (m l : ℕ) → cond (nat_lt m l) (Some m) None ≡ None → l ≤ m
no_place m l h = grind (arith, nat_tests)

-- a part goes from the rest to the parts
pub parts_more : (separator : ℕ) (rest bytes : List ℕ) (parts parts' : List (Bor (List ℕ))) (part : Bor (List ℕ)) (n : ℕ) → position (λ b. b == separator) rest ≡ Some n
    → part.now ≡ take n rest → parts' ≡ parts ++ part ∷ [] → map (λ p. p.now) parts ++ parts_of separator rest ≡ parts_of separator bytes
    → map (λ p. p.now) parts' ++ parts_of separator (drop (n + 1) rest) ≡ parts_of separator bytes
unfolding parts_of
parts_more separator rest bytes parts parts' part n place cut pushed before =
    let test : ℕ → Bool = λ b. b == separator in
    let at = first_place (position_or_len test rest) (length rest) n place in
    let first = slice_split_first test rest 0 at.1 in
    let same = rw at.0 at first in
    rw (pushed, map-append, append_assoc, cut) (rw same at before)

-- the rest is the last part
pub parts_last : (separator : ℕ) (bytes : List ℕ) (rest : Bor (List ℕ)) (parts parts' : List (Bor (List ℕ))) → position (λ b. b == separator) rest.now ≡ None
    → parts' ≡ parts ++ rest ∷ [] → map (λ p. p.now) parts ++ parts_of separator rest.now ≡ parts_of separator bytes → map (λ p. p.now) parts' ≡ parts_of separator bytes
unfolding parts_of
parts_last separator bytes rest parts parts' none pushed before =
    let test : ℕ → Bool = λ b. b == separator in
    let last = one_part test rest.now (no_place (position_or_len test rest.now) (length rest.now) none) in
    rw (pushed, map-append) (rw last at before)
