-- Lists of names that a rule gives to numbers, or to pairs of them.
use Rattle.records.proofs.Common.{◌≡◌, List, ℕ, length, ◌∙◌, arith, [], ◌<◌, None, Some, ◌++◌, ◌∷◌, refl, true, Bool, ◌+◌, false, ◌≤◌, ◌||◌, ◌&&◌, not, suc}
use Rattle.records.proofs.Common.{zero, take, map, sym, subst, inl, inr, bytes_eq, is_held, name_at, number_of, get_or-map, length-map, map-append, flat_map}
use Rattle.std.proofs.lemmas.{Bool.cases_eq, List.Folds.list_any-append, Slice.Eq.bytes_eq-Decides}
use Rattle.std.specs.{List.AllByRecursion as Each, List.range_with_len, Prelude.get_or}
use Rattle.events.{proofs.NameLists.number_of-absent, proofs.NameLists.number_of-name_at, specs.Names.are_distinct}

-- no two of them are the same
abbrev pub AreApart : {A : Type 0} → List A → Type 0
AreApart [] = Unit {0}
AreApart (x ∷ xs) = Each (λ y. x ≡ y → ⊥) xs × AreApart xs

neither : (a b : Bool) → a ≡ false → b ≡ false → (a || b) ≡ false
neither a b p q = grind arith

distinct_step : (a b : Bool) → a ≡ false → b ≡ true → (not a && b) ≡ true
distinct_step a b p q = grind arith

pub differ : (a b : List ℕ) → (a ≡ b → ⊥) → bytes_eq a b ≡ false
differ a b apart = by (bytes_eq a b) refl
  where
    by : (t : Bool) → bytes_eq a b ≡ t → bytes_eq a b ≡ false
    by false is = is
    by true is = absurd (apart ((bytes_eq-Decides a b).0 is))

pub same : (a : List ℕ) → bytes_eq a a ≡ true
same a = (bytes_eq-Decides a a).1 refl

-- names that tell what they name
module _ {A : Type 0} (name : A → List ℕ) (P : A → Type 0) (tells : (x y : A) → P x → P y → name x ≡ name y → x ≡ y) where
  not_held : (x : A) → P x → (xs : List A) → Each P xs → Each (λ y. x ≡ y → ⊥) xs → is_held (name x) (map name xs) ≡ false
  not_held x good [] all apart = refl
  not_held x good (y ∷ ys) all apart =
      neither (bytes_eq (name x) (name y)) (is_held (name x) (map name ys)) (differ (name x) (name y) (λ e. apart.0 (tells x y good all.0 e)))
      (not_held x good ys all.1 apart.1)

  -- names of things that are apart are distinct
  pub names_distinct : (xs : List A) → Each P xs → AreApart xs → are_distinct (map name xs) ≡ true
  names_distinct [] all apart = refl
  names_distinct (x ∷ xs) all apart =
      distinct_step (is_held (name x) (map name xs)) (are_distinct (map name xs)) (not_held x all.0 xs all.1 apart.0) (names_distinct xs all.1 apart.1)

-- the number of a name is the place of what it names
pub number_at : {A : Type 0} (name : A → List ℕ) (xs : List A) (place : ℕ) (d : A) → are_distinct (map name xs) ≡ true → place < length xs
    → number_of (name (get_or xs place d)) (map name xs) ≡ Some place
number_at name xs place d distinct less =
    subst (λ (n : List ℕ). number_of n (map name xs) ≡ Some place) (get_or-map name xs place d [] less)
    (number_of-name_at (map name xs) place distinct (subst (λ (n : ℕ). place < n) (sym (length-map xs name)) less))

-- the name at a place is none of those before it
not_or : (a b : Bool) → (not a && b) ≡ true → (a ≡ false) × (b ≡ true)
not_or a b h = (grind arith, grind arith)

or_parts : (a b : Bool) → (a || b) ≡ false → (a ≡ false) × (b ≡ false)
or_parts a b h = (grind arith, grind arith)

flipped : (a b : List ℕ) → bytes_eq a b ≡ false → bytes_eq b a ≡ false
flipped a b h = differ b a (λ e. let bad : true ≡ false = sym ((bytes_eq-Decides a b).1 (sym e)) ∙ h in absurd (cc bad))

not_at : (x : List ℕ) (names : List (List ℕ)) (place : ℕ) → is_held x names ≡ false → place < length names → bytes_eq x (name_at names place) ≡ false
not_at x [] place none less = absurd (omega (arith, less))
not_at x (y ∷ ys) zero none less = (or_parts (bytes_eq x y) (is_held x ys) none).0
not_at x (y ∷ ys) (suc place) none less = not_at x ys place (or_parts (bytes_eq x y) (is_held x ys) none).1 (omega (arith, less))

not_before : (names : List (List ℕ)) (place : ℕ) → are_distinct names ≡ true → place < length names → is_held (name_at names place) (take place names) ≡ false
not_before [] place distinct less = absurd (omega (arith, less))
not_before (x ∷ xs) zero distinct less = refl
not_before (x ∷ xs) (suc place) distinct less =
    let parts = not_or (is_held x xs) (are_distinct xs) distinct in
    neither (bytes_eq (name_at xs place) x) (is_held (name_at xs place) (take place xs))
    (flipped x (name_at xs place) (not_at x xs place parts.0 (omega (arith, less)))) (not_before xs place parts.1 (omega (arith, less)))

pub new_at : (names : List (List ℕ)) (place : ℕ) → are_distinct names ≡ true → place < length names → number_of (name_at names place) (take place names) ≡ None
new_at names place distinct less = number_of-absent (name_at names place) (take place names) (not_before names place distinct less)

-- numbers in a row are apart
above : (k a n : ℕ) → k < a → Each (λ y. k ≡ y → ⊥) (range_with_len a n)
above k a zero less = tt
above k a (suc n) less = ((λ e. omega (arith, e, less)), above k (a + 1) n (omega (arith, less)))

pub range_apart : (a n : ℕ) → AreApart (range_with_len a n)
range_apart a zero = tt
range_apart a (suc n) = (above a (a + 1) n (omega arith), range_apart (a + 1) n)

pub range_below : (a n limit : ℕ) → a + n ≤ limit → Each (λ k. k < limit) (range_with_len a n)
range_below a zero limit within = tt
range_below a (suc n) limit within = (omega (arith, within), range_below (a + 1) n limit (omega (arith, within)))

-- a name that is held among the first, or among the later ones
pub held_first : (x : List ℕ) (xs ys : List (List ℕ)) → is_held x xs ≡ true → is_held x (xs ++ ys) ≡ true
held_first x xs ys h = list_any-append (bytes_eq x) xs ys ∙ left (is_held x xs) (is_held x ys) h
  where
    left : (a b : Bool) → a ≡ true → (a || b) ≡ true
    left a b p = grind arith

pub held_later : (x : List ℕ) (xs ys : List (List ℕ)) → is_held x ys ≡ true → is_held x (xs ++ ys) ≡ true
held_later x xs ys h = list_any-append (bytes_eq x) xs ys ∙ right (is_held x xs) (is_held x ys) h
  where
    right : (a b : Bool) → b ≡ true → (a || b) ≡ true
    right a b p = grind arith

-- a name of what one of the numbers gives
pub held_among : {A : Type 0} (name : A → List ℕ) (f : ℕ → List A) (x : List ℕ) (k a n : ℕ) → a ≤ k → k < a + n → is_held x (map name (f k)) ≡ true
    → is_held x (map name (flat_map f (range_with_len a n))) ≡ true
held_among name f x k a zero least less held = absurd (omega (arith, least, less))
held_among name f x k a (suc n) least less held =
    subst (λ (names : List (List ℕ)). is_held x names ≡ true) (sym (map-append name (f a) (flat_map f (range_with_len (a + 1) n)))) (elim (cases_eq a k) [
      | inl here ↦ held_first x (map name (f a)) (map name (flat_map f (range_with_len (a + 1) n)))
          (subst (λ (j : ℕ). is_held x (map name (f j)) ≡ true) (sym here) held)
      | inr later ↦ held_later x (map name (f a)) (map name (flat_map f (range_with_len (a + 1) n)))
          (held_among name f x k (a + 1) n (omega (arith, least, later)) (omega (arith, less)) held)
    ])
