-- The only link into a node in whose buffer somebody is.
use Rattle.std.proofs.Common.{◌≡◌, ℕ, zero, suc, ◌+◌, ◌<◌, Bool, true, false, List, [], ◌∷◌, ◌++◌, length, get_or, take, refl, ap, sym, ◌∙◌, inl, inr, arith}
use Rattle.std.proofs.lemmas.{Bool.cases_Bool, List.take_more, List.append-nil, List.Elements.filter-append}
use Rattle.std.specs.Prelude.{filter, Option, None, Some}
use Rattle.part_nodes.specs.Turns.{only_of}

abbrev pub as_list : Option ℕ → List ℕ
as_list None = []
as_list (Some n) = n ∷ []

next_one : (p : ℕ → Bool) (ns : List ℕ) (i : ℕ) → i < length ns → filter p (take (i + 1) ns) ≡ filter p (take i ns) ++ filter p (get_or ns i 0 ∷ [])
next_one p ns i lt = ap (filter p) (take_more ns i 0 lt) ∙ filter-append p (take i ns) (get_or ns i 0 ∷ [])

pub found_next : (p : ℕ → Bool) (ns : List ℕ) (i : ℕ) (only next : Option ℕ) → i < length ns → p (get_or ns i 0) ≡ true → only ≡ None
    → next ≡ Some (get_or ns i 0) → filter p (take i ns) ≡ as_list only → filter p (take (i + 1) ns) ≡ as_list next
found_next p ns i only next lt e none some h =
    let here : filter p (get_or ns i 0 ∷ []) ≡ get_or ns i 0 ∷ [] = rw e refl in
    next_one p ns i lt ∙ ap (λ (xs : List ℕ). xs ++ filter p (get_or ns i 0 ∷ [])) (h ∙ ap as_list none) ∙ here ∙ sym (ap as_list some)

pub skipped_next : (p : ℕ → Bool) (ns : List ℕ) (i : ℕ) (only next : Option ℕ) → i < length ns → p (get_or ns i 0) ≡ false → next ≡ only
    → filter p (take i ns) ≡ as_list only → filter p (take (i + 1) ns) ≡ as_list next
skipped_next p ns i only next lt e same h =
    let here : filter p (get_or ns i 0 ∷ []) ≡ [] = rw e refl in
    next_one p ns i lt ∙ ap (λ (xs : List ℕ). filter p (take i ns) ++ xs) here ∙ append-nil (filter p (take i ns)) ∙ h ∙ sym (ap as_list same)

has_more : (p : ℕ → Bool) (ns : List ℕ) (i : ℕ) → i < length ns → p (get_or ns i 0) ≡ true
    → (n : ℕ) × (rest : List ℕ) × (filter p ns ≡ filter p (take i ns) ++ n ∷ rest)
has_more p [] i lt e = absurd (omega arith)
has_more p (x ∷ xs) zero lt e = (x, filter p xs, rw e refl)
has_more p (x ∷ xs) (suc i) lt e =
    let r = has_more p xs i (omega arith) e in
    elim (cases_Bool (p x)) [ inl q ↦ (r.0, r.1, rw q (ap (λ (ys : List ℕ). x ∷ ys) r.2)) | inr q ↦ (r.0, r.1, rw q r.2) ]

pub two_found : (p : ℕ → Bool) (ns : List ℕ) (i k : ℕ) → i < length ns → p (get_or ns i 0) ≡ true → filter p (take i ns) ≡ k ∷ []
    → None ≡ only_of (filter p ns)
two_found p ns i k lt e h =
    let m = has_more p ns i lt e in
    sym (ap only_of (m.2 ∙ ap (λ (xs : List ℕ). xs ++ m.0 ∷ m.1) h))

pub only_found : (only : Option ℕ) (xs : List ℕ) → xs ≡ as_list only → only ≡ only_of xs
only_found None xs e = sym (ap only_of e)
only_found (Some n) xs e = sym (ap only_of e)

pub alone_is : (n : ℕ) (xs : List ℕ) → Some n ≡ only_of xs → n ∷ [] ≡ xs
alone_is n [] e = absurd (cc)
alone_is n (x ∷ []) e = ap (λ (k : ℕ). k ∷ []) (cc)
alone_is n (x ∷ y ∷ xs) e = absurd (cc)
