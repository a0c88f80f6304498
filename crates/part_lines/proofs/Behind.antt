-- Who comes later stands behind all who wait.
use Rattle.traffic.proofs.Common.{◌≡◌, ℕ, zero, suc, ◌+◌, ◌<◌, ◌≤◌, true, false, List, [], ◌∷◌, ◌++◌, ◌∙◌, ap, refl, sym, subst, arith, inl, inr, cases_Bool}
use Rattle.traffic.proofs.Common.{nat_tests, flat_map, numbers, comes_first, among, in_turn}
use Rattle.traffic.{proofs.Each.each_append, specs.declared.world.Waiter.Waiter}
use Rattle.std.specs.{List.AllByRecursion as Each, Prelude.◌⊎◌}

-- he waits since before second t; since second t, and his number is no lower than this one
abbrev pub IsEarlier : ℕ → Waiter → Type 0
IsEarlier t w = w.since < t

abbrev pub IsNew : ℕ → ℕ → Waiter → Type 0
IsNew t n w = (w.since ≡ t) × (n ≤ w.person)

earlier_first : (t n : ℕ) (w x : Waiter) → IsEarlier t w → IsNew t n x → comes_first w x ≡ true
earlier_first t n w x h g = grind (arith, nat_tests)

new_later : (t n : ℕ) (w x : Waiter) → IsNew t n w → IsEarlier t x → comes_first w x ≡ false
new_later t n w x h g = grind (arith, nat_tests)

lower_first : (t n : ℕ) (w x : Waiter) → w.since ≡ t → w.person ≡ n → IsNew t (n + 1) x → comes_first w x ≡ true
lower_first t n w x s p g = grind (arith, nat_tests)

First : Waiter → List Waiter → Type 0
First w xs = Each (λ (x : Waiter). comes_first w x ≡ true) xs

Later : Waiter → List Waiter → Type 0
Later w xs = Each (λ (x : Waiter). comes_first w x ≡ false) xs

earlier_all : (t n : ℕ) (w : Waiter) (fs : List Waiter) → IsEarlier t w → Each (IsNew t n) fs → First w fs
unfolding First
earlier_all t n w [] h g = tt
earlier_all t n w (f ∷ fs) h g = (earlier_first t n w f h g.0, earlier_all t n w fs h g.1)

later_all : (t n : ℕ) (w : Waiter) (xs : List Waiter) → IsNew t n w → Each (IsEarlier t) xs → Later w xs
unfolding Later
later_all t n w [] h g = tt
later_all t n w (x ∷ xs) h g = (new_later t n w x h g.0, later_all t n w xs h g.1)

lower_all : (t n : ℕ) (w : Waiter) (fs : List Waiter) → w.since ≡ t → w.person ≡ n → Each (IsNew t (n + 1)) fs → First w fs
unfolding First
lower_all t n w [] s p g = tt
lower_all t n w (f ∷ fs) s p g = (lower_first t n w f s p g.0, lower_all t n w fs s p g.1)

-- ONE MORE
among_front : (w : Waiter) (fs : List Waiter) → First w fs → among w fs ≡ w ∷ fs
unfolding among First
among_front w [] h = refl
among_front w (f ∷ fs) h = let e = h.0 in rw e refl

among_before : (w : Waiter) (xs fs : List Waiter) → First w fs → among w (xs ++ fs) ≡ among w xs ++ fs
unfolding among
among_before w [] fs h = among_front w fs h
among_before w (x ∷ xs) fs h =
    elim (cases_Bool (comes_first w x)) [ inl e ↦ rw e refl | inr e ↦ rw e (ap (λ (ys : List Waiter). x ∷ ys) (among_before w xs fs h)) ]

among_behind : (w : Waiter) (xs fs : List Waiter) → Later w xs → among w (xs ++ fs) ≡ xs ++ among w fs
unfolding among Later
among_behind w [] fs h = refl
among_behind w (x ∷ xs) fs h = let e = h.0 in rw e (ap (λ (ys : List Waiter). x ∷ ys) (among_behind w xs fs h.1))

among_early : (t : ℕ) (w : Waiter) (xs : List Waiter) → IsEarlier t w → Each (IsEarlier t) xs → Each (IsEarlier t) (among w xs)
unfolding among
among_early t w [] h g = (h, tt)
among_early t w (x ∷ xs) h g =
    elim (cases_Bool (comes_first w x)) [ inl e ↦ rw e (h, g) | inr e ↦ rw e (g.0, among_early t w xs h g.1) ]

turn_early : (t : ℕ) (xs : List Waiter) → Each (IsEarlier t) xs → Each (IsEarlier t) (in_turn xs)
unfolding in_turn
turn_early t [] h = tt
turn_early t (x ∷ xs) h = among_early t x (in_turn xs) h.0 (turn_early t xs h.1)

-- those who wait already, and then one who is new
with_earlier : (t n : ℕ) (xs ys zs fs : List Waiter) → Each (IsEarlier t) xs → Each (IsNew t n) fs → in_turn ys ≡ in_turn zs ++ fs
    → in_turn (xs ++ ys) ≡ in_turn (xs ++ zs) ++ fs
unfolding in_turn
with_earlier t n [] ys zs fs h g e = e
with_earlier t n (x ∷ xs) ys zs fs h g e =
    ap (among x) (with_earlier t n xs ys zs fs h.1 g e) ∙ among_before x (in_turn (xs ++ zs)) fs (earlier_all t n x fs h.0 g)

with_new : (t n : ℕ) (w : Waiter) (ys zs fs : List Waiter) → w.since ≡ t → w.person ≡ n → Each (IsEarlier t) zs → Each (IsNew t (n + 1)) fs
    → in_turn ys ≡ in_turn zs ++ fs → in_turn (w ∷ ys) ≡ in_turn zs ++ (w ∷ fs)
unfolding in_turn
with_new t n w ys zs fs s p h g e =
    let new : IsNew t n w = (s, omega arith) in
    ap (among w) e ∙ among_behind w (in_turn zs) fs (later_all t n w (in_turn zs) new (turn_early t zs h))
    ∙ ap (λ (xs : List Waiter). in_turn zs ++ xs) (among_front w fs (lower_all t n w fs s p g))

-- PERSONS BY NUMBER
-- of person i those who waited, who wait, and who came in second t: nobody came and all is as before, or nobody waited before
pub record Stayed (t : ℕ) (old new came : List Waiter) : Type 0 where
  pub same : new ≡ old
  pub none : came ≡ []
  pub early : Each (IsEarlier t) old

pub record Came (t i : ℕ) (old new came : List Waiter) (w : Waiter) : Type 0 where
  pub none : old ≡ []
  pub now : new ≡ w ∷ []
  pub is : came ≡ w ∷ []
  pub since : w.since ≡ t
  pub person : w.person ≡ i

abbrev pub Joins : ℕ → ℕ → List Waiter → List Waiter → List Waiter → Type 0
Joins t i old new came = Stayed t old new came ⊎ ((w : Waiter) × Came t i old new came w)

weaker : (t n : ℕ) (fs : List Waiter) → Each (IsNew t (n + 1)) fs → Each (IsNew t n) fs
weaker t n [] h = tt
weaker t n (f ∷ fs) h = ((h.0.0, let le = h.0.1 in omega arith), weaker t n fs h.1)

all_early : (t : ℕ) (old new came : ℕ → List Waiter) (k n : ℕ) → ((i : ℕ) → i < k + n → Joins t i (old i) (new i) (came i))
    → Each (IsEarlier t) (flat_map old (numbers k n))
all_early t old new came k zero h = tt
all_early t old new came k (suc n) h =
    let rest = all_early t old new came (k + 1) n (λ i lt. h i (omega arith)) in
    each_append (IsEarlier t) (old k) (flat_map old (numbers (k + 1) n))
    (elim (h k (omega arith)) [ inl s ↦ s.early | inr c ↦ subst (λ (xs : List Waiter). Each (IsEarlier t) xs) (sym c.1.none) tt ]) rest

all_new : (t : ℕ) (old new came : ℕ → List Waiter) (k n : ℕ) → ((i : ℕ) → i < k + n → Joins t i (old i) (new i) (came i))
    → Each (IsNew t k) (flat_map came (numbers k n))
all_new t old new came k zero h = tt
all_new t old new came k (suc n) h =
    let rest = weaker t k (flat_map came (numbers (k + 1) n)) (all_new t old new came (k + 1) n (λ i lt. h i (omega arith))) in
    each_append (IsNew t k) (came k) (flat_map came (numbers (k + 1) n))
    (elim (h k (omega arith)) [
      | inl s ↦ subst (λ (xs : List Waiter). Each (IsNew t k) xs) (sym s.none) tt
      | inr c ↦
          let p = c.1.person in
          let le : k ≤ c.0.person = omega arith in
          subst (λ (xs : List Waiter). Each (IsNew t k) xs) (sym c.1.is) ((c.1.since, le), tt)
    ]) rest

-- those who wait now are those who waited, and behind them those who came
pub come_behind : (t : ℕ) (old new came : ℕ → List Waiter) (k n : ℕ) → ((i : ℕ) → i < k + n → Joins t i (old i) (new i) (came i))
    → in_turn (flat_map new (numbers k n)) ≡ in_turn (flat_map old (numbers k n)) ++ flat_map came (numbers k n)
unfolding in_turn
come_behind t old new came k zero h = refl
come_behind t old new came k (suc n) h =
    let ys = flat_map new (numbers (k + 1) n) in
    let zs = flat_map old (numbers (k + 1) n) in
    let fs = flat_map came (numbers (k + 1) n) in
    let later : (i : ℕ) → i < (k + 1) + n → Joins t i (old i) (new i) (came i) = λ i lt. h i (omega arith) in
    let rest : in_turn ys ≡ in_turn zs ++ fs = come_behind t old new came (k + 1) n later in
    let fresh = all_new t old new came (k + 1) n later in
    elim (h k (omega arith)) [
      | inl s ↦
          ap (λ (xs : List Waiter). in_turn (xs ++ ys)) s.same
          ∙ with_earlier t (k + 1) (old k) ys zs fs s.early fresh rest
          ∙ ap (λ (xs : List Waiter). in_turn (old k ++ zs) ++ (xs ++ fs)) (sym s.none)
      | inr c ↦
          ap (λ (xs : List Waiter). in_turn (xs ++ ys)) c.1.now
          ∙ with_new t k c.0 ys zs fs c.1.since c.1.person (all_early t old new came (k + 1) n later) fresh rest
          ∙ ap (λ (xs : List Waiter). in_turn (xs ++ zs) ++ (c.0 ∷ fs)) (sym c.1.none)
          ∙ ap (λ (xs : List Waiter). in_turn (old k ++ zs) ++ (xs ++ fs)) (sym c.1.is)
    ]
