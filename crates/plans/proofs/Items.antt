-- The items of a list of names, and their numbers.
use Rattle.records.proofs.Common.{◌≡◌, List, ap, ℕ, length, arith, map, [], ◌<◌, None, Some, ◌++◌, ◌∷◌, refl, true, Bool, Option, false, cond}
use Rattle.records.proofs.Common.{get_or, suc, zero, Bor, list_all, number_of, with_name, is_held, is_name, numbers_of, with_number}
use Rattle.std.proofs.lemmas.Bool.{and_parts}
use Rattle.events.proofs.NameLists.{number_of-kept}

pub item_is_name : (items : List (Bor (List ℕ))) (place : ℕ) (none : Bor (List ℕ)) → list_all is_name (map (λ item. item.now) items) ≡ true → place < length items → is_name (get_or items place none).now ≡ true
item_is_name [] place none all less = absurd (omega arith)
item_is_name (item ∷ items) zero none all less = (and_parts (is_name item.now) _ all).0
item_is_name (item ∷ items) (suc place) none all less = item_is_name items place none (and_parts (is_name item.now) _ all).1 (omega arith)

-- a number stays as a name is added
pub number_kept : (names : List (List ℕ)) (name other : List ℕ) (n : ℕ) → number_of other names ≡ Some n → number_of other (with_name names name) ≡ Some n
number_kept names name other n is = by (is_held name names)
  where
    by : (held : Bool) → number_of other (cond held names (names ++ name ∷ [])) ≡ Some n
    by true = is
    by false = number_of-kept names name other n is

count_by : (number : Option ℕ) (others : Option (List ℕ)) (numbers : List ℕ) (n : ℕ) → ((more : List ℕ) → others ≡ Some more → length more ≡ n)
    → with_number number others ≡ Some numbers → length numbers ≡ suc n
count_by None others numbers n more is = cc
count_by (Some number) None numbers n more is = cc
count_by (Some number) (Some others) numbers n more is = let whole : numbers ≡ number ∷ others = cc in rw (whole, ← more others refl) refl

-- a list of names has as many numbers
pub count_numbers : (items names : List (List ℕ)) (numbers : List ℕ) → numbers_of items names ≡ Some numbers → length numbers ≡ length items
unfolding numbers_of
count_numbers [] names numbers is = let none : numbers ≡ [] = cc in ap length none
count_numbers (item ∷ items) names numbers is = count_by (number_of item names) (numbers_of items names) numbers (length items) (count_numbers items names) is
