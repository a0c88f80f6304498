-- Lists with the numbers of their items.
use Rattle.std.proofs.Common.{◌≡◌, ℕ, zero, suc, ◌+◌, ◌<◌, Bool, true, List, [], ◌∷◌, ◌++◌, length, map, take, get_or, refl, sym, ◌∙◌, ap, arith, add-zero}
use Rattle.std.proofs.lemmas.{Bool.and_parts, List.map-append, List.take_more, List.length-take-le}
use Rattle.std.specs.List.{All, enumerate_from, list_all}

-- one item more
pub numbered_more : {A : Type 0} (k : ℕ) (xs : List A) (x : A) → enumerate_from k (xs ++ x ∷ []) ≡ enumerate_from k xs ++ (k + length xs, x) ∷ []
numbered_more k [] x = ap (λ (n : ℕ). (n, x) ∷ []) (sym (add-zero k))
numbered_more k (y ∷ ys) x =
    let next : k + 1 + length ys ≡ k + suc (length ys) = omega arith in
    ap (λ zs. (k, y) ∷ zs) (numbered_more (k + 1) ys x ∙ ap (λ (n : ℕ). enumerate_from (k + 1) ys ++ (n, x) ∷ []) next)

-- the same of a front of a list
pub numbered_at : {A B : Type 0} (f : ℕ × A → B) (xs : List A) (i : ℕ) (d : A) → i < length xs
    → map f (enumerate_from 0 (take (i + 1) xs)) ≡ map f (enumerate_from 0 (take i xs)) ++ f (i, get_or xs i d) ∷ []
numbered_at f xs i d within =
    let place : 0 + length (take i xs) ≡ i = omega (arith, length-take-le i xs (omega arith)) in
    ap (λ ys. map f (enumerate_from 0 ys)) (take_more xs i d within)
    ∙ ap (map f) (numbered_more 0 (take i xs) (get_or xs i d))
    ∙ map-append f (enumerate_from 0 (take i xs)) ((0 + length (take i xs), get_or xs i d) ∷ [])
    ∙ ap (λ (n : ℕ). map f (enumerate_from 0 (take i xs)) ++ f (n, get_or xs i d) ∷ []) place

-- what holds of all items holds of those with their numbers
pub all_numbered : {A N : Type 0} (pair : N → ℕ × A) (p : A → Bool) (k : ℕ) (xs : List A) (ns : List N)
    → map pair ns ≡ enumerate_from k xs → list_all p xs ≡ true → All (λ n. p (pair n).1 ≡ true) ns
all_numbered pair p k [] [] e all i d within = absurd (omega arith)
all_numbered pair p k [] (n ∷ ns) e all i d within = cc
all_numbered pair p k (x ∷ xs) [] e all i d within = absurd (omega arith)
all_numbered {A} pair p k (x ∷ xs) (n ∷ ns) e all zero d within =
    let head : pair n ≡ (k, x) = cc in
    ap (λ (m : ℕ × A). p m.1) head ∙ (and_parts (p x) (list_all p xs) all).0
all_numbered pair p k (x ∷ xs) (n ∷ ns) e all (suc i) d within =
    let tail : map pair ns ≡ enumerate_from (k + 1) xs = cc in
    all_numbered pair p (k + 1) xs ns tail (and_parts (p x) (list_all p xs) all).1 i d (omega arith)

both : {A B N : Type 0} (pair : N → ℕ × A) (f : ℕ × A → B) (ns : List N) → map (λ n. f (pair n)) ns ≡ map f (map pair ns)
both pair f [] = refl
both pair f (n ∷ ns) = ap (λ bs. f (pair n) ∷ bs) (both pair f ns)

-- a function of items with their numbers
pub by_pairs : {A B N : Type 0} (pair : N → ℕ × A) (f : ℕ × A → B) (xs : List A) (ns : List N) → map pair ns ≡ enumerate_from 0 xs
    → map (λ n. f (pair n)) ns ≡ map f (enumerate_from 0 xs)
by_pairs pair f xs ns e = both pair f ns ∙ ap (map f) e
