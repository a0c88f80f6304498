-- Rows that a rule makes, one for each element of a list, each with a name of its own.
use Rattle.records.proofs.Common.{◌≡◌, List, ap, ℕ, length, ◌∙◌, arith, [], ◌<◌, None, ◌∷◌, refl, true, false, ◌≤◌, map, sym, take, suc, zero}
use Rattle.records.proofs.Common.{subst, nat_tests, Row, column, field, get_or-map, length-map, is_some, nat_le, number_of, name_at, Option}
use Rattle.std.{proofs.Common.ap₂, proofs.lemmas.List.length-take-le, proofs.lemmas.List.take-map, specs.List.AllByRecursion as Each, specs.Prelude.get_or}
use Rattle.events.specs.Names.{are_distinct}
use Rattle.law_generated.proofs.Names.{new_at}

-- what holds of all holds at each place
pub each_at : {A : Type 0} (P : A → Type 0) (xs : List A) (place : ℕ) (d : A) → Each P xs → place < length xs → P (get_or xs place d)
each_at P [] place d all less = absurd (omega (arith, less))
each_at P (x ∷ xs) zero d all less = all.0
each_at P (x ∷ xs) (suc place) d all less = each_at P xs place d all.1 (omega (arith, less))

pub each_first : {A : Type 0} (P : A → Type 0) (xs : List A) (count : ℕ) → Each P xs → Each P (take count xs)
each_first P xs zero all = tt
each_first P [] (suc count) all = tt
each_first P (x ∷ xs) (suc count) all = (all.0, each_first P xs count all.1)

pub too_few : (limit n : ℕ) → n < limit → nat_le limit n ≡ false
too_few limit n less = grind (arith, nat_tests)

module _ {A : Type 0} (row : A → Row) (name : A → List ℕ) (key : ℕ) (keyed : (x : A) → field (row x) key ≡ name x) where
  -- the names of the rows
  pub column_is : (xs : List A) → column key (map row xs) ≡ map name xs
  column_is [] = refl
  column_is (x ∷ xs) = ap₂ (λ (n : List ℕ) (l : List (List ℕ)). n ∷ l) (keyed x) (column_is xs)

  module _ (xs : List A) (d : A) (place : ℕ) (less : place < length xs) where
    pub row_at : get_or (map row xs) place [] ≡ row (get_or xs place d)
    row_at = get_or-map row xs place d [] less

    -- how many rows stand before a place
    pub count_before : length (column key (take place (map row xs))) ≡ place
    count_before =
        let within : place ≤ length (map row xs) = omega (arith, less, length-map xs row) in
        length-map (take place (map row xs)) (λ (r : Row). field r key) ∙ length-take-le place (map row xs) within

    -- none of them has the name of the row at the place
    pub none_before : are_distinct (map name xs) ≡ true → number_of (name (get_or xs place d)) (column key (take place (map row xs))) ≡ None
    none_before distinct =
        let here : name_at (map name xs) place ≡ name (get_or xs place d) = get_or-map name xs place d [] less in
        let before : take place (map name xs) ≡ column key (take place (map row xs)) =
        ap (take place) (sym (column_is xs)) ∙ take-map (λ (r : Row). field r key) place (map row xs) in
        subst (λ (l : List (List ℕ)). number_of (name (get_or xs place d)) l ≡ None) before
        (subst (λ (n : List ℕ). number_of n (take place (map name xs)) ≡ None) here
        (new_at (map name xs) place distinct (omega (arith, less, length-map xs name))))

    pub not_twice : are_distinct (map name xs) ≡ true → is_some (number_of (name (get_or xs place d)) (column key (take place (map row xs)))) ≡ false
    not_twice distinct = ap (λ (o : Option ℕ). is_some o) (none_before distinct)

    -- they are not so many
    pub no_more : (limit : ℕ) → length xs ≤ limit → nat_le limit (length (column key (take place (map row xs)))) ≡ false
    no_more limit few = too_few limit (length (column key (take place (map row xs)))) (omega (arith, count_before, less, few))
