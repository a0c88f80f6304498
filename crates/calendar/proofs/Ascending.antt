-- Ascending numbers are given by which numbers are among them.
use Rattle.std.proofs.Common.{◌≡◌, ℕ, zero, suc, ◌<◌, Bool, true, false, ◌⊎◌, inl, inr, List, [], ◌∷◌, length, get_or, refl, ap, sym, ◌∙◌, subst, arith}
use Rattle.std.proofs.lemmas.{Bool.cases_Bool, List.Kept.AllPairs-from_increasing}
use Rattle.std.specs.{List.Contains, List.Sorted.IsStrictlyIncreasing, Prelude.filter}

-- a number is among these
abbrev pub In : ℕ → List ℕ → Type 0
In n [] = ⊥
In n (x ∷ xs) = (n ≡ x) ⊎ In n xs

in_place : (xs : List ℕ) (n k : ℕ) → k < length xs → get_or xs k n ≡ n → In n xs
in_place [] n k lt e = absurd (omega arith)
in_place (x ∷ xs) n zero lt e = inl (sym e)
in_place (x ∷ xs) n (suc k) lt e = inr (in_place xs n k (omega arith) e)

pub in_from : (xs : List ℕ) (n : ℕ) → Contains xs n → In n xs
in_from xs n h = in_place xs n h.0 h.1 h.2

-- a number is below all of these; and each is below all later ones
abbrev pub IsBelow : ℕ → List ℕ → Type 0
IsBelow n [] = Unit {0}
IsBelow n (x ∷ xs) = (n < x) × IsBelow n xs

abbrev pub Asc : List ℕ → Type 0
Asc [] = Unit {0}
Asc (x ∷ xs) = IsBelow x xs × Asc xs

below_all : (n : ℕ) (xs : List ℕ) → ((k : ℕ) → k < length xs → n < get_or xs k 0) → IsBelow n xs
below_all n [] h = tt
below_all n (x ∷ xs) h = (h 0 (omega arith), below_all n xs (λ k lt. h (suc k) (omega arith)))

pub asc_from : (xs : List ℕ) → IsStrictlyIncreasing xs → Asc xs
asc_from xs h = by_pairs xs (λ i j lt l. AllPairs-from_increasing xs h i j 0 lt l)
  where
    by_pairs : (ys : List ℕ) → ((i j : ℕ) → i < j → j < length ys → get_or ys i 0 < get_or ys j 0) → Asc ys
    by_pairs [] g = tt
    by_pairs (y ∷ ys) g =
        (below_all y ys (λ k lt. g 0 (suc k) (omega arith) (omega arith)), by_pairs ys (λ i j lt l. g (suc i) (suc j) (omega arith) (omega arith)))

below_in : (n m : ℕ) (xs : List ℕ) → IsBelow n xs → In m xs → n < m
below_in n m [] b h = absurd h
below_in n m (x ∷ xs) b (inl e) = let lt = b.0 in omega arith
below_in n m (x ∷ xs) b (inr h) = below_in n m xs b.1 h

pub same_members : (xs ys : List ℕ) → Asc xs → Asc ys → ((n : ℕ) → In n xs → In n ys) → ((n : ℕ) → In n ys → In n xs) → xs ≡ ys
same_members [] [] a b f g = refl
same_members [] (y ∷ ys) a b f g = absurd (g y (inl refl))
same_members (x ∷ xs) [] a b f g = absurd (f x (inl refl))
same_members (x ∷ xs) (y ∷ ys) a b f g =
    let e : x ≡ y = first_is (f x (inl refl)) (g y (inl refl)) in
    let r : xs ≡ ys = same_members xs ys a.1 b.1 (λ n h. later_in n ys y (below_in x n xs a.0 h) e (f n (inr h)))
    (λ n h. later_in n xs x (below_in y n ys b.0 h) (sym e) (g n (inr h))) in
    ap (λ (z : ℕ). z ∷ xs) e ∙ ap (λ (zs : List ℕ). y ∷ zs) r
  where
    first_is : In x (y ∷ ys) → In y (x ∷ xs) → x ≡ y
    first_is (inl e) q = e
    first_is (inr h) (inl e) = sym e
    first_is (inr h) (inr q) = absurd (let p = below_in y x ys b.0 h in let r = below_in x y xs a.0 q in omega arith)

    later_in : (n : ℕ) (zs : List ℕ) (z : ℕ) {w : ℕ} → w < n → w ≡ z → In n (z ∷ zs) → In n zs
    later_in n zs z lt e (inl q) = absurd (omega arith)
    later_in n zs z lt e (inr q) = q

-- a part of ascending numbers
below_filter : (p : ℕ → Bool) (n : ℕ) (xs : List ℕ) → IsBelow n xs → IsBelow n (filter p xs)
below_filter p n [] h = tt
below_filter p n (x ∷ xs) h = elim (cases_Bool (p x)) [ inl e ↦ rw e (h.0, below_filter p n xs h.1) | inr e ↦ rw e (below_filter p n xs h.1) ]

pub asc_filter : (p : ℕ → Bool) (xs : List ℕ) → Asc xs → Asc (filter p xs)
asc_filter p [] h = tt
asc_filter p (x ∷ xs) h =
    elim (cases_Bool (p x)) [ inl e ↦ rw e (below_filter p x xs h.0, asc_filter p xs h.1) | inr e ↦ rw e (asc_filter p xs h.1) ]

pub in_filter : (p : ℕ → Bool) (n : ℕ) (xs : List ℕ) → In n xs → p n ≡ true → In n (filter p xs)
in_filter p n [] h t = absurd h
in_filter p n (x ∷ xs) (inl e) t = let q : p x ≡ true = subst (λ (m : ℕ). p m ≡ true) e t in rw q (inl e)
in_filter p n (x ∷ xs) (inr h) t =
    elim (cases_Bool (p x)) [ inl q ↦ rw q (inr (in_filter p n xs h t)) | inr q ↦ rw q (in_filter p n xs h t) ]

filter_in_by : (p : ℕ → Bool) (n x : ℕ) (xs : List ℕ) → (In n (filter p xs) → In n xs × (p n ≡ true)) → (p x ≡ true) ⊎ (p x ≡ false)
    → In n (filter p (x ∷ xs)) → In n (x ∷ xs) × (p n ≡ true)
filter_in_by p n x xs r (inl q) g = first_or (rw q at g)
  where
    first_or : In n (x ∷ filter p xs) → In n (x ∷ xs) × (p n ≡ true)
    first_or (inl e) = (inl e, subst (λ (m : ℕ). p m ≡ true) (sym e) q)
    first_or (inr k) = let s = r k in (inr s.0, s.1)
filter_in_by p n x xs r (inr q) g = let s = r (rw q at g) in (inr s.0, s.1)

pub filter_in : (p : ℕ → Bool) (n : ℕ) (xs : List ℕ) → In n (filter p xs) → In n xs × (p n ≡ true)
filter_in p n [] h = absurd h
filter_in p n (x ∷ xs) h = filter_in_by p n x xs (filter_in p n xs) (cases_Bool (p x)) h
