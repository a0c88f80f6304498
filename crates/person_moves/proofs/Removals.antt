-- What the place of the k-th element that passes says of the list without it, and of the list with the first one changed.
use Rattle.traffic.proofs.Common.{set, ◌≡◌, ℕ, List, ◌∙◌, ap, refl, sym, [], ◌∷◌, arith, ◌+◌, Bool, inl, inr, subst, false, suc, zero, ◌-◌, get_or}
use Rattle.traffic.proofs.Common.{cases_Bool, ne_eqb, remove, Some, None, Option, nat_eq, without, with_first}
use Rattle.person_moves.specs.Places.{place_from}

-- the list without the element of this place, where the first one has place i
abbrev IsOut : {X : Type 0} → (X → Bool) → ℕ → ℕ → List X → Option ℕ → Type 0
IsOut p k i xs None = xs ≡ without p k xs
IsOut p k i xs (Some j) = (n : ℕ) × ((j ≡ i + n) × (remove xs n ≡ without p k xs))

out_later : {X : Type 0} → (p : X → Bool) (k m i : ℕ) (x : X) (xs : List X) (o : Option ℕ) → x ∷ without p k xs ≡ without p m (x ∷ xs) → IsOut p k (i + 1) xs o → IsOut p m i (x ∷ xs) o
out_later p k m i x xs None e h = ap (λ ys. x ∷ ys) h ∙ e
out_later p k m i x xs (Some j) e h = (suc h.0, (omega (arith, h.1.0), ap (λ ys. x ∷ ys) h.1.1 ∙ e))

goes_by : {X : Type 0} → (p : X → Bool) (k : ℕ) (x : X) (xs : List X) → p x ≡ false → x ∷ without p k xs ≡ without p k (x ∷ xs)
goes_by p zero x xs q = rw q refl
goes_by p (suc k) x xs q = rw q refl

is_out : {X : Type 0} → (p : X → Bool) (k i : ℕ) (xs : List X) → IsOut p k i xs (place_from p k i xs)
unfolding place_from
is_out p k i [] = refl
is_out p zero i (x ∷ xs) = elim (cases_Bool (p x)) [
  | inl q ↦ rw q (0, (omega arith, rw q refl))
  | inr q ↦ rw q (out_later p zero zero i x xs (place_from p zero (i + 1) xs) (goes_by p zero x xs q) (is_out p zero (i + 1) xs))
]
is_out p (suc k) i (x ∷ xs) =
    let e : suc k - 1 ≡ k = omega arith in let z : nat_eq (suc k) 0 ≡ false = ne_eqb (suc k) 0 (λ h. omega arith) in
    elim (cases_Bool (p x)) [
      | inl q ↦ rw (q, z, e) (out_later p k (suc k) i x xs (place_from p k (i + 1) xs) (rw q refl) (is_out p k (i + 1) xs))
      | inr q ↦ rw q (out_later p (suc k) (suc k) i x xs (place_from p (suc k) (i + 1) xs) (goes_by p (suc k) x xs q) (is_out p (suc k) (i + 1) xs))
    ]

out_in : {X : Type 0} → (p : X → Bool) (k : ℕ) (xs : List X) (o : Option ℕ) → o ≡ place_from p k 0 xs → IsOut p k 0 xs o
out_in p k xs o e = let P : Option ℕ → Type 0 = λ z. IsOut p k 0 xs z in subst P (sym e) (is_out p k 0 xs)

pub taken_out : {X : Type 0} → (p : X → Bool) (k : ℕ) (xs : List X) (j : ℕ) → Some j ≡ place_from p k 0 xs → remove xs j ≡ without p k xs
taken_out p k xs j e = let h = out_in p k xs (Some j) e in let q : j ≡ h.0 = omega (arith, h.1.0) in ap (λ n. remove xs n) q ∙ h.1.1

pub none_out : {X : Type 0} → (p : X → Bool) (k : ℕ) (xs : List X) → None ≡ place_from p k 0 xs → xs ≡ without p k xs
none_out p k xs e = out_in p k xs None e

-- the list with the element of this place changed
abbrev IsDone : {X : Type 0} → (X → Bool) → (X → X) → ℕ → List X → Option ℕ → Type 0
IsDone p f i xs None = xs ≡ with_first p f xs
IsDone p f i xs (Some j) = (n : ℕ) × ((j ≡ i + n) × ((x : _) → x ≡ get_or xs n x → set xs n (f x) ≡ with_first p f xs))

done_later : {X : Type 0} → (p : X → Bool) (f : X → X) (i : ℕ) (x : X) (xs : List X) (o : Option ℕ) → p x ≡ false → IsDone p f (i + 1) xs o → IsDone p f i (x ∷ xs) o
done_later p f i x xs None q h = rw q (ap (λ ys. x ∷ ys) h)
done_later p f i x xs (Some j) q h = (suc h.0, (omega (arith, h.1.0), λ y e. rw q (ap (λ ys. x ∷ ys) (h.1.1 y e))))

is_done : {X : Type 0} → (p : X → Bool) (f : X → X) (i : ℕ) (xs : List X) → IsDone p f i xs (place_from p 0 i xs)
unfolding place_from
is_done p f i [] = refl
is_done p f i (x ∷ xs) = elim (cases_Bool (p x)) [
  | inl q ↦ rw q (0, (omega arith, λ y e. rw q (ap (λ z. f z ∷ xs) e)))
  | inr q ↦ rw q (done_later p f i x xs (place_from p 0 (i + 1) xs) q (is_done p f (i + 1) xs))
]

done_in : {X : Type 0} → (p : X → Bool) (f : X → X) (xs : List X) (o : Option ℕ) → o ≡ place_from p 0 0 xs → IsDone p f 0 xs o
done_in p f xs o e = let P : Option ℕ → Type 0 = λ z. IsDone p f 0 xs z in subst P (sym e) (is_done p f 0 xs)

pub first_done : {X : Type 0} → (p : X → Bool) (f : X → X) (xs : List X) (j : ℕ) (x : X) → Some j ≡ place_from p 0 0 xs → x ≡ get_or xs j x → set xs j (f x) ≡ with_first p f xs
first_done p f xs j x e h =
    let d = done_in p f xs (Some j) e in let q : d.0 ≡ j = omega (arith, d.1.0) in
    rw q at (d.1.1 x) h

pub none_done : {X : Type 0} → (p : X → Bool) (f : X → X) (xs : List X) → None ≡ place_from p 0 0 xs → xs ≡ with_first p f xs
none_done p f xs e = done_in p f xs None e
