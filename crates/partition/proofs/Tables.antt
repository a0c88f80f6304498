-- Tables of ordered pairs, written place by place.
use Rattle.std.proofs.Common.{◌≡◌, ℕ, ◌+◌, ◌<◌, Bool, true, false, List, [], ◌∷◌, ◌++◌, arith, refl, sym, ◌∙◌, ap, subst, length, get_or, set, min, inl, inr}
use Rattle.std.proofs.Common.{map}
use Rattle.std.proofs.lemmas.List.{get_or-set_same, get_or-set_other, map-append, length-set, Elements.filter-append}
use Rattle.std.specs.{List.list_any, Prelude.◌==◌, Prelude.◌&&◌, Prelude.◌||◌, Prelude.filter, Prelude.if◌then◌else◌}
use Rattle.traffic.proofs.Common.{cases_Bool, eqb-true, eq-eqb, and_parts, eqb}
use Rattle.parts.specs.Owners.{least}
use Rattle.partition.specs.Neighbours.{place_of, joined_in, lag_in, AreJoined, is_either, AreShorter, shortest, shortened}

-- TESTS
or_true : (b : Bool) → (b || true) ≡ true
or_true true = refl
or_true false = refl

pub or_false : (b : Bool) → (b || false) ≡ b
or_false true = refl
or_false false = refl

or_assoc : (a b c : Bool) → ((a || b) || c) ≡ (a || (b || c))
or_assoc true b c = refl
or_assoc false b c = refl

pub and_comm : (a b : Bool) → (a && b) ≡ (b && a)
and_comm true true = refl
and_comm true false = refl
and_comm false true = refl
and_comm false false = refl

not_both : (a p b q : ℕ) → (eqb a p && eqb b q) ≡ false → a ≡ p → b ≡ q → ⊥
not_both a p b q h e f = true_is_not_false (sym (both a p b q e f) ∙ h)
  where
    true_is_not_false : true ≡ false → ⊥
    true_is_not_false e = cc

    both : (a p b q : ℕ) → a ≡ p → b ≡ q → (eqb a p && eqb b q) ≡ true
    both a p b q e f = let x = eq-eqb a p e in let y = eq-eqb b q f in (rw (x, y) refl)

-- PLACES
same_place : (a b p q : ℕ) → b < 64 → q < 64 → place_of p q ≡ place_of a b → (a ≡ p) × (b ≡ q)
same_place a b p q h g e = (omega arith, omega arith)

set_joined : (table : List Bool) (a b p q : ℕ) → a < 64 → b < 64 → q < 64 → length table ≡ 4096
    → joined_in (set table (place_of a b) true) p q ≡ (joined_in table p q || ((a == p) && (b == q)))
set_joined table a b p q la lb lq long =
    elim (cases_Bool (eqb a p && eqb b q)) [
      | inl e ↦
          let g = and_parts (eqb a p) (eqb b q) e in
          let ea = eqb-true a p g.0 in
          let eb = eqb-true b q g.1 in
          let at : place_of a b ≡ place_of p q = ap (λ x. place_of x b) ea ∙ ap (λ y. place_of p y) eb in
          let inside : place_of a b < length table = omega arith in
          let one : get_or (set table (place_of a b) true) (place_of p q) false ≡ true =
          subst (λ k. get_or (set table (place_of a b) true) k false ≡ true) at (get_or-set_same table (place_of a b) true false inside) in
          one ∙ sym (ap (λ z. joined_in table p q || z) e ∙ or_true (joined_in table p q))
      | inr e ↦
          get_or-set_other table (place_of a b) (place_of p q) true false (λ k. let s = same_place a b p q lb lq k in not_both a p b q e s.0 s.1)
          ∙ sym (ap (λ z. joined_in table p q || z) e ∙ or_false (joined_in table p q))
    ]

pub joined_once : (from to : ℕ) (table : List Bool) → from < 64 → to < 64 → length table ≡ 4096
    → AreJoined (is_either from to) table (set (set table (place_of from to) true) (place_of to from) true)
joined_once from to table lf lt long p q lp lq =
    let one = set_joined table from to p q lf lt lq long in
    let two = set_joined (set table (place_of from to) true) to from p q lt lf lq (length-set table (place_of from to) true ∙ long) in
    two ∙ ap (λ z. z || ((to == p) && (from == q))) one ∙ or_assoc (joined_in table p q) ((from == p) && (to == q)) ((to == p) && (from == q))
    ∙ ap (λ z. joined_in table p q || (((from == p) && (to == q)) || z)) (and_comm (to == p) (from == q))

any_append : {X : Type 0} (f : X → Bool) (xs ys : List X) → list_any f (xs ++ ys) ≡ (list_any f xs || list_any f ys)
any_append f [] ys = refl
any_append f (x ∷ xs) ys = ap (λ z. f x || z) (any_append f xs ys) ∙ sym (or_assoc (f x) (list_any f xs) (list_any f ys))

-- those that some of xs join, and then those that some of ys join
pub joined_more : {X : Type 0} (f : ℕ → ℕ → X → Bool) (xs ys : List X) (old mid new : List Bool) → AreJoined (λ p q. list_any (f p q) xs) old mid
    → AreJoined (λ p q. list_any (f p q) ys) mid new → AreJoined (λ p q. list_any (f p q) (xs ++ ys)) old new
joined_more f xs ys old mid new h g p q lp lq =
    g p q lp lq ∙ ap (λ z. z || list_any (f p q) ys) (h p q lp lq) ∙ or_assoc (joined_in old p q) (list_any (f p q) xs) (list_any (f p q) ys)
    ∙ ap (λ z. joined_in old p q || z) (sym (any_append (f p q) xs ys))

pub joined_by_one : {X : Type 0} (f : ℕ → ℕ → X → Bool) (x : X) (old new : List Bool) → AreJoined (λ p q. f p q x) old new → AreJoined (λ p q. list_any (f p q) (x ∷ [])) old new
joined_by_one f x old new h p q lp lq = h p q lp lq ∙ ap (λ z. joined_in old p q || z) (sym (or_false (f p q x)))

-- LAGS
pub shortened_once : (from to seconds : ℕ) (table : List ℕ) → from < 64 → to < 64 → length table ≡ 4096
    → AreShorter (shortened from to seconds) table (set table (place_of from to) (min seconds (get_or table (place_of from to) 0)))
shortened_once from to seconds table lf lt long p q lp lq =
    elim (cases_Bool (eqb from p && eqb to q)) [
      | inl e ↦
          let g = and_parts (eqb from p) (eqb to q) e in
          let ea = eqb-true from p g.0 in
          let eb = eqb-true to q g.1 in
          let at : place_of from to ≡ place_of p q = ap (λ x. place_of x to) ea ∙ ap (λ y. place_of p y) eb in
          let new = min seconds (get_or table (place_of from to) 0) in
          let inside : place_of from to < length table = omega arith in
          let one : get_or (set table (place_of from to) new) (place_of p q) 0 ≡ new =
          subst (λ k. get_or (set table (place_of from to) new) k 0 ≡ new) at (get_or-set_same table (place_of from to) new 0 inside) in
          let two : shortened from to seconds p q (lag_in table p q) ≡ min seconds (lag_in table p q) = (rw e refl) in
          one ∙ ap (λ k. min seconds (get_or table k 0)) at ∙ sym two
      | inr e ↦
          let two : shortened from to seconds p q (lag_in table p q) ≡ lag_in table p q = (rw e refl) in
          get_or-set_other table (place_of from to) (place_of p q) (min seconds (get_or table (place_of from to) 0)) 0
          (λ k. let s = same_place from to p q lt lq k in not_both from p to q e s.0 s.1) ∙ sym two
    ]

min_turn : (x y n : ℕ) → min x (min y n) ≡ min y (min x n)
min_turn x y n = omega arith

least_min : (x n : ℕ) (ys : List ℕ) → least (min x n) ys ≡ min x (least n ys)
unfolding least
least_min x n [] = refl
least_min x n (y ∷ ys) = ap (λ z. min y z) (least_min x n ys) ∙ min_turn y x (least n ys)

pub least_append : (n : ℕ) (xs ys : List ℕ) → least n (xs ++ ys) ≡ least (least n ys) xs
unfolding least
least_append n [] ys = refl
least_append n (x ∷ xs) ys = ap (λ z. min x z) (least_append n xs ys)

least_turn : (n : ℕ) (xs ys : List ℕ) → least (least n xs) ys ≡ least (least n ys) xs
unfolding least
least_turn n [] ys = refl
least_turn n (x ∷ xs) ys = least_min x (least n xs) ys ∙ ap (λ z. min x z) (least_turn n xs ys)

shortest_append : {X : Type 0} (f : X → ℕ) (g : X → Bool) (xs ys : List X) (n : ℕ) → shortest f g (xs ++ ys) n ≡ shortest f g xs (shortest f g ys n)
shortest_append f g xs ys n =
    ap (least n) (ap (map f) (filter-append g xs ys) ∙ map-append f (filter g xs) (filter g ys)) ∙ least_append n (map f (filter g xs)) (map f (filter g ys))

-- what xs make of the lags, and then ys
pub shorter_more : {X : Type 0} (f : X → ℕ) (g : ℕ → ℕ → X → Bool) (xs ys : List X) (old mid new : List ℕ)
    → AreShorter (λ p q n. shortest f (g p q) xs n) old mid → AreShorter (λ p q n. shortest f (g p q) ys n) mid new
    → AreShorter (λ p q n. shortest f (g p q) (xs ++ ys) n) old new
shorter_more f g xs ys old mid new h k p q lp lq =
    k p q lp lq ∙ ap (shortest f (g p q) ys) (h p q lp lq) ∙ least_turn (lag_in old p q) (map f (filter (g p q) xs)) (map f (filter (g p q) ys))
    ∙ sym (shortest_append f (g p q) xs ys (lag_in old p q))

pub shorter_none : {X : Type 0} (f : X → ℕ) (g : ℕ → ℕ → X → Bool) (table : List ℕ) → AreShorter (λ p q n. shortest f (g p q) [] n) table table
unfolding least
shorter_none f g table p q lp lq = refl

by_one : {X : Type 0} (f : X → ℕ) (g : X → Bool) (x : X) (n : ℕ) → shortest f g (x ∷ []) n ≡ (if g x then min (f x) n else n)
unfolding least
by_one f g x n = elim (cases_Bool (g x)) [ inl e ↦ (rw e refl) | inr e ↦ (rw e refl) ]

pub shorter_by_one : {X : Type 0} (f : X → ℕ) (g : ℕ → ℕ → X → Bool) (x : X) (old new : List ℕ) → AreShorter (λ p q n. if g p q x then min (f x) n else n) old new
    → AreShorter (λ p q n. shortest f (g p q) (x ∷ []) n) old new
shorter_by_one f g x old new h p q lp lq = h p q lp lq ∙ sym (by_one f (g p q) x (lag_in old p q))

-- the same with two kinds of seconds at once
pub shorter_both : {X : Type 0} (f h : X → ℕ) (g k : ℕ → ℕ → X → Bool) (xs : List X) (x : X) (old mid one new : List ℕ)
    → AreShorter (λ p q n. shortest f (g p q) xs (shortest h (k p q) xs n)) old mid
    → AreShorter (λ p q n. if g p q x then min (f x) n else n) mid one → AreShorter (λ p q n. if k p q x then min (h x) n else n) one new
    → AreShorter (λ p q n. shortest f (g p q) (xs ++ x ∷ []) (shortest h (k p q) (xs ++ x ∷ []) n)) old new
shorter_both f h g k xs x old mid one new a b c p q lp lq =
    let n = lag_in old p q in
    let F = map f (filter (g p q) xs) in
    let H = map h (filter (k p q) xs) in
    let F1 = map f (filter (g p q) (x ∷ [])) in
    let H1 = map h (filter (k p q) (x ∷ [])) in
    let start : lag_in new p q ≡ least (least (least (least n H) F) F1) H1 =
    c p q lp lq ∙ sym (by_one h (k p q) x (lag_in one p q)) ∙ ap (λ z. least z H1) (b p q lp lq ∙ sym (by_one f (g p q) x (lag_in mid p q)) ∙ ap (λ z. least z F1) (a p q lp lq)) in
    start
    ∙ least_turn (least (least n H) F) F1 H1
    ∙ ap (λ z. least z F1) (least_turn (least n H) F H1 ∙ ap (λ z. least z F) (least_turn n H H1))
    ∙ least_turn (least (least n H1) H) F F1
    ∙ sym (shortest_append f (g p q) xs (x ∷ []) (shortest h (k p q) (xs ++ x ∷ []) n) ∙ ap (λ z. least (least z F1) F) (shortest_append h (k p q) xs (x ∷ []) n))

pub shorter_none_both : {X : Type 0} (f h : X → ℕ) (g k : ℕ → ℕ → X → Bool) (table : List ℕ) → AreShorter (λ p q n. shortest f (g p q) [] (shortest h (k p q) [] n)) table table
unfolding least
shorter_none_both f h g k table p q lp lq = refl
