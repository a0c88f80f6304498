-- The places of the plans that are written are there.
use Rattle.std.proofs.Common.{◌≡◌, ℕ, zero, suc, ◌+◌, ◌<◌, ◌≤◌, Bool, true, false, cond, not, List, [], ◌∷◌, length, get_or, Some, sym, ap, subst, arith}
use Rattle.std.{proofs.lemmas.Bool.and_parts, proofs.lemmas.List.FromFn.length-range_with_len, specs.List.list_all}
use Rattle.std.specs.{List.range_with_len, List.AllByRecursion as Each, Prelude.filter, Prelude.remove, Prelude.nat_eq, Prelude.nat_lt, Prelude.slice_get}
use Rattle.limits.specs.declared.TheConstants.{MAX_PLANS}
use Rattle.plan_memory.specs.{Memories.MemoryRows, Scores.worst}
use Rattle.iterations.specs.Written.{other_places, scores_at, written_places}

-- what is found at a place
pub found : {A : Type 0} (xs : List A) (i : ℕ) (x d : A) → slice_get xs i ≡ Some x → get_or xs i d ≡ x
found [] i x d e = cc
found (y ∷ xs) zero x d e = cc
found (y ∷ xs) (suc i) x d e = found xs i x d e

pub each_at : {A : Type 0} (P : A → Type 0) (xs : List A) (i : ℕ) (d : A) → Each P xs → i < length xs → P (get_or xs i d)
each_at P [] i d all within = absurd (omega arith)
each_at P (x ∷ xs) zero d all within = all.0
each_at P (x ∷ xs) (suc i) d all within = each_at P xs i d all.1 (omega arith)

pub passes_at : {A : Type 0} (p : A → Bool) (xs : List A) (i : ℕ) (d : A) → list_all p xs ≡ true → i < length xs → p (get_or xs i d) ≡ true
passes_at p [] i d all within = absurd (omega arith)
passes_at p (x ∷ xs) zero d all within = (and_parts (p x) (list_all p xs) all).0
passes_at p (x ∷ xs) (suc i) d all within = passes_at p xs i d (and_parts (p x) (list_all p xs) all).1 (omega arith)

below_range : (count a n : ℕ) → a + n ≤ count → Each (λ p. p < count) (range_with_len a n)
below_range count a zero within = tt
below_range count a (suc n) within = (omega arith, below_range count (a + 1) n (omega arith))

filtered_by : {A : Type 0} (P : A → Type 0) (b : Bool) (x : A) (xs : List A) → P x → Each P xs → Each P (cond b (x ∷ xs) xs)
filtered_by P true x xs own all = (own, all)
filtered_by P false x xs own all = all

filtered : {A : Type 0} (P : A → Type 0) (p : A → Bool) (xs : List A) → Each P xs → Each P (filter p xs)
filtered P p [] all = tt
filtered P p (x ∷ xs) all = filtered_by P (p x) x (filter p xs) all.0 (filtered P p xs all.1)

left_over : {A : Type 0} (P : A → Type 0) (xs : List A) (i : ℕ) → Each P xs → Each P (remove xs i)
left_over P [] zero all = all
left_over P [] (suc i) all = all
left_over P (x ∷ xs) zero all = all.1
left_over P (x ∷ xs) (suc i) all = (all.0, left_over P xs i all.1)

kept_by : {A : Type 0} (P : A → Type 0) (b : Bool) (xs ys : List A) → Each P xs → Each P ys → Each P (cond b xs ys)
kept_by P true xs ys all others = all
kept_by P false xs ys all others = others

pub written_there : (m : MemoryRows) → m.chosen < length m.plans → Each (λ p. p < length m.plans) (written_places m)
unfolding written_places
written_there m chosen =
    let P : ℕ → Type 0 = λ p. p < length m.plans in
    let others = filtered P (λ place. not (nat_eq place m.chosen)) (range_with_len 0 (length m.plans)) (below_range (length m.plans) 0 (length m.plans) (omega arith)) in (
      chosen,
      kept_by P (nat_lt (length (other_places m)) MAX_PLANS) (other_places m) (remove (other_places m) (worst (scores_at m (other_places m))))
          others (left_over P (other_places m) (worst (scores_at m (other_places m))) others),
    )

fewer_by : {A : Type 0} (b : Bool) (x : A) (xs : List A) (n : ℕ) → length xs ≤ n → length (cond b (x ∷ xs) xs) ≤ suc n
fewer_by true x xs n few = omega arith
fewer_by false x xs n few = omega arith

fewer : {A : Type 0} (p : A → Bool) (xs : List A) → length (filter p xs) ≤ length xs
fewer p [] = omega arith
fewer p (x ∷ xs) = fewer_by (p x) x (filter p xs) (length xs) (fewer p xs)

no_more : {A : Type 0} (xs : List A) (i : ℕ) → length (remove xs i) ≤ length xs
no_more [] zero = omega arith
no_more [] (suc i) = omega arith
no_more (x ∷ xs) zero = omega arith
no_more (x ∷ xs) (suc i) = let rest = no_more xs i in omega arith

few_by : {A : Type 0} (b : Bool) (xs ys : List A) (n : ℕ) → length xs ≤ n → length ys ≤ n → length (cond b xs ys) ≤ n
few_by true xs ys n first second = first
few_by false xs ys n first second = second

pub written_few : (m : MemoryRows) → length (written_places m) ≤ length m.plans + 1
unfolding written_places
written_few m =
    let others = fewer (λ place. not (nat_eq place m.chosen)) (range_with_len 0 (length m.plans)) in
    let count = length-range_with_len 0 (length m.plans) in
    let left = no_more (other_places m) (worst (scores_at m (other_places m))) in
    let both = few_by (nat_lt (length (other_places m)) MAX_PLANS) (other_places m) (remove (other_places m) (worst (scores_at m (other_places m))))
    (length m.plans) (omega arith) (omega arith) in
    omega arith

pub place_there : (m : MemoryRows) (places : List ℕ) (i : ℕ) → places ≡ written_places m → m.chosen < length m.plans → i < length places
    → get_or places i 0 < length m.plans
place_there m places i are chosen within =
    let P : ℕ → Type 0 = λ p. p < length m.plans in
    let count = ap (λ (ps : List ℕ). length ps) are in
    subst (λ (ps : List ℕ). get_or ps i 0 < length m.plans) (sym are)
    (each_at P (written_places m) i 0 (written_there m chosen) (omega arith))
