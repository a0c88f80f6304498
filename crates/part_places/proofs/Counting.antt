-- How many seconds are late, and how often a number stands in a list.
use Rattle.std.proofs.Common.{◌≡◌, ℕ, zero, suc, ◌+◌, Bool, cond, true, false, List, [], ◌∷◌, ◌++◌, refl, ap, sym, ◌∙◌, eqb, inl, inr, arith}
use Rattle.std.proofs.lemmas.{Bool.cases_Bool, Bool.ne_eqb, Bool.true≢false, Bool.Decides.nat_tests, List.Sums.sum_by-cons}
use Rattle.std.specs.Prelude.{count_by, filter, map, nat_le, nat_lt, replicate, ◌==◌}
use Rattle.traffic.specs.Nodes.{in_force}
use Rattle.part_places.specs.Taking.{still, times}

abbrev pub one : (ℕ → Bool) → ℕ → ℕ
one p n = cond (p n) 1 0

pub count_cons : (p : ℕ → Bool) (x : ℕ) (xs : List ℕ) → count_by p (x ∷ xs) ≡ one p x + count_by p xs
count_cons p x xs = sum_by-cons (one p) x xs

one_split : (t u : ℕ) → one (λ (x : ℕ). nat_le t x) u ≡ one (λ (x : ℕ). x == t) u + one (λ (x : ℕ). nat_le (t + 1) x) u
one_split t u = grind (arith, nat_tests)

-- those that are not before second t are those of it and those that are not before the next one
pub still_split : (t : ℕ) (us : List ℕ) → still t us ≡ times t us + still (t + 1) us
still_split t [] = refl
still_split t (u ∷ us) =
    let a = count_cons (λ (x : ℕ). nat_le t x) u us in
    let b = count_cons (λ (x : ℕ). x == t) u us in
    let c = count_cons (λ (x : ℕ). nat_le (t + 1) x) u us in
    let d = one_split t u in
    let i = still_split t us in
    omega arith

-- a number stands as often among those that pass a test which it passes
pub times_passed : (p : ℕ → Bool) (m : ℕ) (ns : List ℕ) → p m ≡ true → times m (filter p ns) ≡ times m ns
times_passed p m [] e = refl
times_passed p m (n ∷ ns) e =
    let i = times_passed p m ns e in
    let a = count_cons (λ (x : ℕ). x == m) n ns in
    elim (cases_Bool (p n)) [
      | inl q ↦ let b = count_cons (λ (x : ℕ). x == m) n (filter p ns) in rw q (omega arith)
      | inr q ↦
          let ne : eqb n m ≡ false = ne_eqb n m (λ (z : n ≡ m). true≢false (sym e ∙ ap p (sym z) ∙ q)) in
          let none : one (λ (x : ℕ). x == m) n ≡ 0 = rw ne refl in
          rw q (omega arith)
    ]

-- a hole that is not over in the second after t counts in second t
pub still_is : (t h : ℕ) (hs : List ℕ) → still (t + 1) (map (λ (s : ℕ). s + h) hs) ≡ in_force t h hs
still_is t h [] = refl
still_is t h (s ∷ hs) =
    let i = still_is t h hs in
    let c = sum_by-cons (one (λ (x : ℕ). nat_le (t + 1) x)) (s + h) (map (λ (x : ℕ). x + h) hs) in
    let q : nat_le (t + 1) (s + h) ≡ nat_lt t (s + h) = grind (arith, nat_tests) in
    let d = c ∙ ap (λ (b : Bool). cond b 1 0 + still (t + 1) (map (λ (x : ℕ). x + h) hs)) q in
    elim (cases_Bool (nat_lt t (s + h))) [
      | inl e ↦
          let f = d ∙ ap (λ (b : Bool). cond b 1 0 + still (t + 1) (map (λ (x : ℕ). x + h) hs)) e in
          rw e (f ∙ (omega (i, arith)))
      | inr e ↦
          let f = d ∙ ap (λ (b : Bool). cond b 1 0 + still (t + 1) (map (λ (x : ℕ). x + h) hs)) e in
          rw e (f ∙ (omega (i, arith)))
    ]

-- SO MANY MORE
all_of : (p : ℕ → Bool) (k s : ℕ) → p s ≡ true → count_by p (replicate k s) ≡ k
all_of p zero s h = refl
all_of p (suc k) s h =
    let a = count_cons p s (replicate k s) in
    let one_is : one p s ≡ 1 = rw h refl in
    let i = all_of p k s h in
    omega arith

none_of : (p : ℕ → Bool) (k s : ℕ) → p s ≡ false → count_by p (replicate k s) ≡ 0
none_of p zero s h = refl
none_of p (suc k) s h =
    let a = count_cons p s (replicate k s) in
    let one_is : one p s ≡ 0 = rw h refl in
    let i = none_of p k s h in
    omega arith

count_both : (p : ℕ → Bool) (xs ys : List ℕ) → count_by p (xs ++ ys) ≡ count_by p xs + count_by p ys
count_both p [] ys = (let e : count_by p ys ≡ 0 + count_by p ys = omega arith in e)
count_both p (x ∷ xs) ys =
    let a = count_cons p x (xs ++ ys) in
    let b = count_cons p x xs in
    let i = count_both p xs ys in
    omega arith

pub count_more : (p : ℕ → Bool) (k s : ℕ) (xs : List ℕ) → p s ≡ true → count_by p (xs ++ replicate k s) ≡ count_by p xs + k
count_more p k s xs h = count_both p xs (replicate k s) ∙ ap (λ (n : ℕ). count_by p xs + n) (all_of p k s h)

pub count_same : (p : ℕ → Bool) (k s : ℕ) (xs : List ℕ) → p s ≡ false → count_by p (xs ++ replicate k s) ≡ count_by p xs
count_same p k s xs h =
    let a = count_both p xs (replicate k s) in
    let b = none_of p k s h in
    omega arith
