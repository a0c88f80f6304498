-- Lists whose items are paired one by one, of which the first may be one longer, and sums over them.
use Rattle.std.proofs.Common.{◌≡◌, ◌+◌, List, [], ◌∷◌, ◌++◌, map, length, drop, ℤ, ◌+ℤ◌, refl, ap, arith, length-append, drop_of_length-le}
use Rattle.std.{proofs.Math.Seq.drop-append_seam, proofs.lemmas.Int.ints, specs.List.zip}
use Rattle.scoring.specs.Score.{total}

-- the one item without a partner gets one
pub zip-close : {A B : Type 0} (xs : List A) (ys : List B) (x : A) (y : B) → drop (length ys) xs ≡ x ∷ [] → zip xs (ys ++ y ∷ []) ≡ zip xs ys ++ (x, y) ∷ []
zip-close [] [] x y e = cc
zip-close [] (b ∷ ys) x y e = cc
zip-close (a ∷ xs) [] x y e =
    let none : xs ≡ [] = cc in
    let same : a ≡ x = cc in
    rw (none, same)
zip-close (a ∷ xs) (b ∷ ys) x y e = ap (λ zs. (a, b) ∷ zs) (zip-close xs ys x y e)

-- an item that comes to a list whose items all have partners has none
pub zip-open : {A B : Type 0} (xs : List A) (ys : List B) (x : A) → length ys ≡ length xs → zip (xs ++ x ∷ []) ys ≡ zip xs ys
zip-open [] [] x e = refl
zip-open [] (b ∷ ys) x e = absurd (omega arith)
zip-open (a ∷ xs) [] x e = absurd (omega arith)
zip-open (a ∷ xs) (b ∷ ys) x e = ap (λ zs. (a, b) ∷ zs) (zip-open xs ys x (omega arith))

pub drop-close : {A B : Type 0} (xs : List A) (ys : List B) (y : B) → length ys + 1 ≡ length xs → drop (length (ys ++ y ∷ [])) xs ≡ []
drop-close xs ys y e = drop_of_length-le xs (omega (arith, length-append ys (y ∷ [])))

pub drop-open : {A B : Type 0} (xs : List A) (ys : List B) (x : A) → length ys ≡ length xs → drop (length ys) (xs ++ x ∷ []) ≡ x ∷ []
drop-open xs ys x e = rw e (drop-append_seam xs (x ∷ []))

pub zip-nil : {A B : Type 0} (xs : List A) → zip {K = A} {X = B} xs [] ≡ []
zip-nil [] = refl
zip-nil (x ∷ xs) = refl

-- one more number in a sum
pub total-push : {A : Type 0} (f : A → ℤ) (xs : List A) (x : A) → total (map f (xs ++ x ∷ [])) ≡ total (map f xs) +ℤ f x
unfolding total
total-push f [] x = omega (arith, ints)
total-push f (y ∷ xs) x = let e = total-push f xs x in omega (arith, ints)
