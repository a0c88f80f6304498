-- Lists of which some pass a test.
use Rattle.traffic.proofs.Common.{◌≡◌, ◌⊎◌, ℕ, Bool, true, false, List, [], ◌∷◌, ◌++◌, sym, refl, inl, inr, cases_Bool, true≢false, list_any}

pub any_front : {X : Type 0} (f : X → Bool) (xs ys : List X) → list_any f xs ≡ true → list_any f (xs ++ ys) ≡ true
any_front f [] ys e = absurd (true≢false (sym e))
any_front f (x ∷ xs) ys e =
    elim (cases_Bool (f x)) [
      | inl y ↦ rw y refl
      | inr n ↦ let h : list_any f xs ≡ true = simp n at e in rw n (any_front f xs ys h)
    ]

pub any_behind : {X : Type 0} (f : X → Bool) (xs ys : List X) → list_any f ys ≡ true → list_any f (xs ++ ys) ≡ true
any_behind f [] ys e = e
any_behind f (x ∷ xs) ys e =
    elim (cases_Bool (f x)) [
      | inl y ↦ rw y refl
      | inr n ↦ rw n (any_behind f xs ys e)
    ]

pub front_or_behind : {X : Type 0} (f : X → Bool) (xs ys : List X) → list_any f (xs ++ ys) ≡ true
    → (list_any f xs ≡ true) ⊎ (list_any f ys ≡ true)
front_or_behind f [] ys e = inr e
front_or_behind f (x ∷ xs) ys e =
    elim (cases_Bool (f x)) [
      | inl y ↦ inl (rw y refl)
      | inr n ↦
          let h : list_any f (xs ++ ys) ≡ true = simp n at e in
          elim (front_or_behind f xs ys h) [ inl g ↦ inl (rw n g) | inr g ↦ inr g ]
    ]

pub only_one : {X : Type 0} (f : X → Bool) (x : X) → list_any f (x ∷ []) ≡ true → f x ≡ true
only_one f x e =
    elim (cases_Bool (f x)) [
      | inl y ↦ y
      | inr n ↦ let h : false ≡ true = simp n at e in absurd (true≢false (sym h))
    ]

pub some_of : (f : ℕ → Bool) (ns : List ℕ) → list_any f ns ≡ true → (q : ℕ) × (f q ≡ true)
some_of f [] e = absurd (true≢false (sym e))
some_of f (n ∷ ns) e =
    elim (cases_Bool (f n)) [
      | inl y ↦ (n, y)
      | inr y ↦ let h : list_any f ns ≡ true = simp y at e in some_of f ns h
    ]
