-- Among scores there is one that stands to all as the worst does, and one that stands to all as the best does.
use Rattle.std.proofs.Common.{◌≡◌, ℕ, zero, suc, ◌<◌, Bool, true, false, List, [], ◌∷◌, length, get_or, ltb, Option, None, Some, ℤ, inl, inr, refl, sym, ◌∙◌}
use Rattle.std.proofs.{Common.arith, lemmas.Bool.and_from}
use Rattle.std.proofs.lemmas.{Bool.and_parts, Bool.cases_lt, Bool.Decides.nat_tests, Int.ints, List.Sums.fails_before_first, List.Sums.passes_at_first}
use Rattle.std.specs.{List.list_all, List.position_or_len, Prelude.int_le, Prelude.position, Prelude.unwrap_or}
use Rattle.plan_memory.specs.Scores.{is_at_most, is_at_least, is_lowest, is_highest, worst, best}

-- one score stands to itself, one of two stands to the other, and what stands to one that stands to a third stands to the third
pub record IsOrder (stands : Option ℤ → Option ℤ → Bool) : Type 0 where
  pub itself : (x : Option ℤ) → stands x x ≡ true
  pub total : (x y : Option ℤ) → stands x y ≡ false → stands y x ≡ true
  pub along : (x y z : Option ℤ) → stands x y ≡ true → stands y z ≡ true → stands x z ≡ true

-- an order of numbers is one of scores, where none stands to all and no number to none
module _ (stands : Option ℤ → Option ℤ → Bool) (on : ℤ → ℤ → Bool)
    (none : (y : Option ℤ) → stands None y ≡ true) (one : (a : ℤ) → stands (Some a) None ≡ false)
    (both : (a b : ℤ) → stands (Some a) (Some b) ≡ on a b) (same : (a : ℤ) → on a a ≡ true)
    (other : (a b : ℤ) → on a b ≡ false → on b a ≡ true) (joined : (a b c : ℤ) → on a b ≡ true → on b c ≡ true → on a c ≡ true) where
  order_itself : (x : Option ℤ) → stands x x ≡ true
  order_itself None = none None
  order_itself (Some a) = both a a ∙ same a

  order_total : (x y : Option ℤ) → stands x y ≡ false → stands y x ≡ true
  order_total None y e = let no : true ≡ false = sym (none y) ∙ e in cc
  order_total (Some a) None e = none (Some a)
  order_total (Some a) (Some b) e = both b a ∙ other a b (sym (both a b) ∙ e)

  order_along : (x y z : Option ℤ) → stands x y ≡ true → stands y z ≡ true → stands x z ≡ true
  order_along None y z p q = none z
  order_along (Some a) None z p q = let no : false ≡ true = sym (one a) ∙ p in cc
  order_along (Some a) (Some b) None p q = let no : false ≡ true = sym (one b) ∙ q in cc
  order_along (Some a) (Some b) (Some c) p q = both a c ∙ joined a b c (sym (both a b) ∙ p) (sym (both b c) ∙ q)

  order_of : IsOrder stands
  order_of = record { itself = order_itself; total = order_total; along = order_along }

at_most : IsOrder is_at_most
at_most = order_of is_at_most (λ a b. int_le a b) (λ y. refl) (λ a. refl) (λ a b. refl)
    (λ a. grind (arith, ints)) (λ a b e. grind (arith, ints)) (λ a b c p q. grind (arith, ints))

at_least : IsOrder is_at_least
at_least = order_of is_at_least (λ a b. int_le b a) (λ y. refl) (λ a. refl) (λ a b. refl)
    (λ a. grind (arith, ints)) (λ a b e. grind (arith, ints)) (λ a b c p q. grind (arith, ints))

-- the first place at which a test passes, where there is one
at_first : (p : Option ℤ → Bool) (xs : List (Option ℤ)) → position_or_len p xs < length xs
    → unwrap_or (position p xs) 0 ≡ position_or_len p xs
at_first p xs there = let is : ltb (position_or_len p xs) (length xs) ≡ true = grind (arith, nat_tests) in rw is refl

-- where a test passes at some place, it passes at the first one
first_passes : (p : Option ℤ → Bool) (xs : List (Option ℤ)) (i : ℕ) → i < length xs → p (get_or xs i None) ≡ true
    → p (get_or xs (unwrap_or (position p xs) 0) None) ≡ true
first_passes p xs i within passes = elim (cases_lt (position_or_len p xs) (length xs)) [
  | inl there ↦ rw (at_first p xs there) (passes_at_first p xs None there)
  | inr none ↦ let fails = fails_before_first p xs i None (omega arith) in cc
]

-- a score of a list that stands to all of it
record First (stands : Option ℤ → Option ℤ → Bool) (scores : List (Option ℤ)) : Type 0 where
  place : ℕ
  within : place < length scores
  to_all : list_all (stands (get_or scores place None)) scores ≡ true

module _ (stands : Option ℤ → Option ℤ → Bool) (order : IsOrder stands) where
  along_all : (x m : Option ℤ) → stands x m ≡ true → (ys : List (Option ℤ)) → list_all (stands m) ys ≡ true → list_all (stands x) ys ≡ true
  along_all x m e [] all = refl
  along_all x m e (y ∷ ys) all =
      and_from (stands x y) (list_all (stands x) ys) (order.along x m y e ((and_parts (stands m y) (list_all (stands m) ys) all).0))
      (along_all x m e ys ((and_parts (stands m y) (list_all (stands m) ys) all).1))

  one_more : (x : Option ℤ) (ys : List (Option ℤ)) → (rest : First stands ys) → (b : Bool) → stands x (get_or ys rest.place None) ≡ b
      → First stands (x ∷ ys)
  one_more x ys rest true e = record {
    place = zero;
    within = omega arith;
    to_all = and_from (stands x x) (list_all (stands x) ys) (order.itself x) (along_all x (get_or ys rest.place None) e ys rest.to_all);
  }
  one_more x ys rest false e = record {
    place = suc rest.place;
    within = omega (arith, rest.within);
    to_all =
        and_from (stands (get_or ys rest.place None) x) (list_all (stands (get_or ys rest.place None)) ys)
        (order.total x (get_or ys rest.place None) e) rest.to_all;
  }

  first : (x : Option ℤ) (xs : List (Option ℤ)) → First stands (x ∷ xs)
  first x [] = record { place = zero; within = omega arith; to_all = and_from (stands x x) true (order.itself x) refl }
  first x (y ∷ ys) = one_more x (y ∷ ys) (first y ys) (stands x (get_or (y ∷ ys) (first y ys).place None)) refl

  pub stands_first : (scores : List (Option ℤ)) → 0 < length scores
      → list_all (stands (get_or scores (unwrap_or (position (λ score. list_all (stands score) scores) scores) 0) None)) scores ≡ true
  stands_first [] some = absurd (omega arith)
  stands_first (x ∷ xs) some =
      let f = first x xs in
      first_passes (λ score. list_all (stands score) (x ∷ xs)) (x ∷ xs) f.place f.within f.to_all

pub worst_is_lowest : (scores : List (Option ℤ)) → 0 < length scores → is_lowest scores (get_or scores (worst scores) None) ≡ true
unfolding worst is_lowest
worst_is_lowest scores some = stands_first is_at_most at_most scores some

pub best_is_highest : (scores : List (Option ℤ)) → 0 < length scores → is_highest scores (get_or scores (best scores) None) ≡ true
unfolding best is_highest
best_is_highest scores some = stands_first is_at_least at_least scores some
