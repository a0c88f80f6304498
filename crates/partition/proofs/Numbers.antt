-- Numbers, one more.
use Rattle.std.proofs.Common.{◌≡◌, ℕ, zero, suc, ◌+◌, ◌-◌, ◌<◌, List, [], ◌∷◌, ◌++◌, arith, refl, sym, ◌∙◌, ap, append-nil, append_assoc}
use Rattle.std.specs.List.{flat_map}
use Rattle.traffic.specs.Lists.{below, numbers}

numbers_more : (k n : ℕ) → numbers k (n + 1) ≡ numbers k n ++ (k + n) ∷ []
numbers_more k zero = let e : k + 0 ≡ k = omega arith in rw e refl
numbers_more k (suc n) =
    let e : suc n + 1 ≡ suc (n + 1) = omega arith in
    let f : k + 1 + n ≡ k + suc n = omega arith in
    ap (numbers k) e ∙ ap (λ ns. k ∷ ns) (numbers_more (k + 1) n ∙ ap (λ m. numbers (k + 1) n ++ m ∷ []) f)

pub below_more : (n : ℕ) → below (n + 1) ≡ below n ++ n ∷ []
below_more n = let e : 0 + n ≡ n = omega arith in numbers_more 0 n ∙ ap (λ m. below n ++ m ∷ []) e

flat_append : {X Y : Type 0} (f : X → List Y) (xs ys : List X) → flat_map f (xs ++ ys) ≡ flat_map f xs ++ flat_map f ys
flat_append f [] ys = refl
flat_append f (x ∷ xs) ys = ap (λ zs. f x ++ zs) (flat_append f xs ys) ∙ sym (append_assoc (f x) (flat_map f xs) (flat_map f ys))

-- a list for each number below n, and for n
pub flat_more : {Y : Type 0} (f : ℕ → List Y) (n : ℕ) → flat_map f (below (n + 1)) ≡ flat_map f (below n) ++ f n
flat_more f n = ap (flat_map f) (below_more n) ∙ flat_append f (below n) (n ∷ []) ∙ ap (λ zs. flat_map f (below n) ++ zs) (append-nil (f n))

pub flat_push : {X Y : Type 0} (f : X → List Y) (xs : List X) (x : X) → flat_map f (xs ++ x ∷ []) ≡ flat_map f xs ++ f x
flat_push f xs x = flat_append f xs (x ∷ []) ∙ ap (λ zs. flat_map f xs ++ zs) (append-nil (f x))

-- the first of some numbers
pub numbers_from : (k n : ℕ) → k < n → numbers k (n - k) ≡ k ∷ numbers (k + 1) (n - (k + 1))
numbers_from k n h = let e : n - k ≡ suc (n - (k + 1)) = omega arith in ap (numbers k) e
