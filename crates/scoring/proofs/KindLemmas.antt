-- Keys of rows, as the kinds of tables: whether one comes again behind its place.
use Rattle.std.proofs.Common.{◌≡◌, ℕ, suc, ◌+◌, ◌-◌, ◌<◌, ◌&&◌, ◌||◌, not, Bool, true, false, List, [], ◌∷◌, map, length, get_or, take, drop, drop-cons}
use Rattle.std.proofs.Common.{add-one, take_all, length-drop, refl, sym, ap, ◌∙◌, subst, arith}
use Rattle.std.specs.List.{list_any}

-- the rows from a place on, as code cuts them
rest_is : {X : Type 0} (xs : List X) (i : ℕ) → take (length xs - i) (drop i xs) ≡ drop i xs
rest_is xs i = take_all (length xs - i) (drop i xs) (omega (arith, length-drop i xs))

any_key : {X K : Type 0} (key : X → K) (p : K → Bool) (xs : List X) → list_any (λ (x : X). p (key x)) xs ≡ list_any p (map key xs)
any_key key p [] = refl
any_key key p (x ∷ xs) = ap (λ (b : Bool). p (key x) || b) (any_key key p xs)

-- whether a key behind a place passes a test, as code asks it
later_is : {X K : Type 0} (key : X → K) (p : K → Bool) (xs : List X) (i : ℕ) (b : Bool)
    → list_any (λ (x : X). p (key x)) (take (length xs - (i + 1)) (drop (i + 1) xs)) ≡ b → list_any p (map key (drop (suc i) xs)) ≡ b
later_is {X} key p xs i b e =
    subst (λ (m : ℕ). list_any p (map key (drop m xs)) ≡ b) (add-one i)
    (sym (any_key key p (drop (i + 1) xs)) ∙ subst (λ (ys : List X). list_any (λ (x : X). p (key x)) ys ≡ b) (rest_is xs (i + 1)) e)

-- what tells whether keys are distinct: the first one does not come again, and the others are distinct
abbrev pub TellsDistinct : {K : Type 0} → (K → K → Bool) → (List K → Bool) → Type 0
TellsDistinct {K} same distinct = (k : K) (ks : List K) → distinct (k ∷ ks) ≡ (not (list_any (same k) ks) && distinct ks)

-- a key comes again
pub key_again : {X K : Type 0} (key : X → K) (same : K → K → Bool) (distinct : List K → Bool) → TellsDistinct same distinct → (xs : List X) (i : ℕ) (d : X) → i < length xs
    → list_any (λ (x : X). same (key (get_or xs i d)) (key x)) (take (length xs - (i + 1)) (drop (i + 1) xs)) ≡ true → distinct (map key (drop i xs)) ≡ false
key_again {X} key same distinct tells xs i d here again =
    let k = key (get_or xs i d) in
    let later = distinct (map key (drop (suc i) xs)) in
    let e = later_is key (same k) xs i true again in
    ap (λ (ys : List X). distinct (map key ys)) (drop-cons xs i d here) ∙ tells k (map key (drop (suc i) xs)) ∙ ap (λ (b : Bool). not b && later) e

-- or it does not
pub key_alone : {X K : Type 0} (key : X → K) (same : K → K → Bool) (distinct : List K → Bool) → TellsDistinct same distinct → (xs : List X) (i : ℕ) (d : X) → i < length xs
    → list_any (λ (x : X). same (key (get_or xs i d)) (key x)) (take (length xs - (i + 1)) (drop (i + 1) xs)) ≡ false
    → distinct (map key (drop i xs)) ≡ distinct (map key (drop (i + 1) xs))
key_alone {X} key same distinct tells xs i d here alone =
    let k = key (get_or xs i d) in
    let later = distinct (map key (drop (suc i) xs)) in
    let e = later_is key (same k) xs i false alone in
    ap (λ (ys : List X). distinct (map key ys)) (drop-cons xs i d here) ∙ tells k (map key (drop (suc i) xs)) ∙ ap (λ (b : Bool). not b && later) e
    ∙ ap (λ (m : ℕ). distinct (map key (drop m xs))) (sym (add-one i))
