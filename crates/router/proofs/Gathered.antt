-- What is gathered of items that were computed side by side.
use Rattle.std.proofs.Common.{◌≡◌, List, [], ◌∷◌, map, Result, Ok, Err, IfOk, refl, ◌∙◌, ap, subst}
use Rattle.std.specs.{List.AllZip, List.Contains, Result.MatchResult}

oks : {I A : Type 0} (E : Type 0) (P : I → A → Type 0) (ks : List I) (ys : List A)
    → AllZip (λ k (r : Result A E). IfOk r (P k)) ks (map Ok ys) → AllZip P ks ys
oks E P [] [] h = h
oks E P [] (y ∷ ys) h = h
oks E P (k ∷ ks) [] h = h
oks E P (k ∷ ks) (y ∷ ys) h = (h.0, oks E P ks ys h.1)

-- what all give
gives_all : {I A : Type 0} (f : I → A) (ks : List I) (ys : List A) → AllZip (λ k y. y ≡ f k) ks ys → ys ≡ map f ks
gives_all f [] [] h = refl
gives_all f [] (y ∷ ys) h = absurd h
gives_all f (k ∷ ks) [] h = absurd h
gives_all f (k ∷ ks) (y ∷ ys) h = ap (λ z. z ∷ ys) h.0 ∙ ap (λ zs. f k ∷ zs) (gives_all f ks ys h.1)

-- a gathered list of results, where each result is what a function gives of its item
pub gathered : {I A E V : Type 0} (items : V → List A) (f : I → A) (ks : List I) (xs : List (Result A E)) (r : Result V E)
    → MatchResult r (λ c. (ys : List A) × (xs ≡ map Ok ys) × (items c ≡ ys)) (λ e. Contains xs (Err e))
    → AllZip (λ k (x : Result A E). IfOk x (λ y. y ≡ f k)) ks xs → IfOk r (λ v. items v ≡ map f ks)
gathered {E} items f ks xs (Ok c) h z =
    h.2 ∙ gives_all f ks h.0 (oks E (λ k y. y ≡ f k) ks h.0 (subst (AllZip (λ k x. IfOk x (λ y. y ≡ f k)) ks) h.1 z))
gathered items f ks xs (Err x) h z = tt
