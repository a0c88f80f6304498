-- Lists of values that are all there, or not.
use Rattle.std.proofs.Common.{◌≡◌, ◌≢◌, ℕ, zero, suc, ◌+◌, ◌<◌, List, [], ◌∷◌, ◌++◌, map, length, get_or, take, Option, None, Some, refl, sym, ap, ◌∙◌, arith}
use Rattle.std.proofs.lemmas.List.{map-append, take_more}
use Rattle.serde_json.specs.{View.items_view, declared.value.Value.Value}
use Rattle.settings.specs.{Looking.list_of, Looking.with_all, Looking.all_of, NamedTables.point_of}

with_all-push : {A : Type 0} (x : Option A) (r : Option (List A)) (s : Option (List A)) (ys : List A) (y : A) → with_all x r ≡ Some ys
    → ((zs : List A) → r ≡ Some zs → s ≡ Some (zs ++ y ∷ [])) → with_all x s ≡ Some (ys ++ y ∷ [])
with_all-push (Some x) (Some zs) s ys y e next =
    let same : ys ≡ x ∷ zs = cc in
    rw (next zs refl, same)
with_all-push (Some x) None s ys y e next = cc
with_all-push None r s ys y e next = cc

-- one more value that is there
pub all_of-push : {A : Type 0} (xs : List (Option A)) (ys : List A) (y : A) → all_of xs ≡ Some ys → all_of (xs ++ Some y ∷ []) ≡ Some (ys ++ y ∷ [])
all_of-push [] ys y e = let none : ys ≡ [] = cc in rw none
all_of-push (x ∷ xs) ys y e = with_all-push x (all_of xs) (all_of (xs ++ Some y ∷ [])) ys y e (λ zs is. all_of-push xs zs y is)

with_none : {A : Type 0} (x : Option A) → with_all x None ≡ None
with_none None = refl
with_none (Some x) = refl

-- one that is not
pub all_of-none : {V A : Type 0} (f : V → Option A) (vs : List V) (i : ℕ) (d : V) → i < length vs → None ≡ f (get_or vs i d) → all_of (map f vs) ≡ None
all_of-none f [] i d here none = absurd (omega arith)
all_of-none f (v ∷ vs) zero d here none = rw (← none)
all_of-none f (v ∷ vs) (suc i) d here none = let rest = all_of-none f vs i d (omega arith) none in rw rest (with_none (f v))

-- a step along values of which each was there so far
pub all_of-more : {V A : Type 0} (f : V → Option A) (vs : List V) (i : ℕ) (d : V) (ys : List A) (y : A) → i < length vs
    → all_of (map f (take i vs)) ≡ Some ys → Some y ≡ f (get_or vs i d) → all_of (map f (take (i + 1) vs)) ≡ Some (ys ++ y ∷ [])
all_of-more f vs i d ys y here so_far next =
    ap (λ xs. all_of (map f xs)) (take_more vs i d here) ∙ ap all_of (map-append f (take i vs) (get_or vs i d ∷ []))
    ∙ ap (λ x. all_of (map f (take i vs) ++ x ∷ [])) (sym next) ∙ all_of-push (map f (take i vs)) ys y so_far

-- a list of another length is no point
pub no_point : (vs : List Value) → length vs ≢ 2 → point_of (list_of (items_view vs)) ≡ None
no_point [] other = refl
no_point (v ∷ []) other = refl
no_point (v ∷ w ∷ []) other = absurd (other refl)
no_point (v ∷ w ∷ x ∷ vs) other = refl
