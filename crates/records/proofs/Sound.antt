-- What passes a test, one after the other.
use Rattle.records.proofs.Common.{◌≡◌, List, ℕ, length, arith, [], sym, None, Some, ◌∷◌, refl, true, Bool, Option, ◌&&◌, nat_tests, list_all, nat_lt, number_of}
use Rattle.records.proofs.{Common.numbers_of, Common.with_number, Numbering.numbered_within}

pub both_true : (a b : Bool) → a ≡ true → b ≡ true → (a && b) ≡ true
both_true a b p q = grind arith

-- the number of a name is one of the list
pub number_known : (names : List (List ℕ)) (name : List ℕ) (n : ℕ) → number_of name names ≡ Some n → nat_lt n (length names) ≡ true
number_known names name n held = let less = numbered_within names name n held in grind (arith, nat_tests)

known_step : (names : List (List ℕ)) (item ns : List ℕ) (o : Option ℕ) (p : Option (List ℕ)) → number_of item names ≡ o → ((ms : List ℕ) → p ≡ Some ms → list_all (λ n. nat_lt n (length names)) ms ≡ true)
    → with_number o p ≡ Some ns → list_all (λ n. nat_lt n (length names)) ns ≡ true
known_step names item ns None p held more h = cc
known_step names item ns (Some n) None held more h = cc
known_step names item ns (Some n) (Some ms) held more h =
    let same : ns ≡ n ∷ ms = cc in rw same (both_true (nat_lt n (length names)) _ (number_known names item n held) (more ms refl))

-- the numbers of items are numbers of the names
pub numbers_known : (items : List (List ℕ)) (names : List (List ℕ)) (ns : List ℕ) → Some ns ≡ numbers_of items names → list_all (λ n. nat_lt n (length names)) ns ≡ true
unfolding numbers_of
numbers_known [] names ns h = let same : ns ≡ [] = cc in rw same refl
numbers_known (item ∷ items) names ns h = known_step names item ns (number_of item names) (numbers_of items names) refl (λ ms is. numbers_known items names ms (sym is)) (sym h)
