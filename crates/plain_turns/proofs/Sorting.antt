-- A stable sort of those who wait, the last one first, is the order in which they come.
use Rattle.traffic.proofs.Common.{◌≡◌, ℕ, List, ◌∙◌, length, ap, refl, sym, [], ◌∷◌, arith, ◌<◌, true, ◌++◌, Bool, inl, inr, subst, false, suc, get_or, cond}
use Rattle.traffic.proofs.Common.{fun_ext, cases_Bool, nat_tests, filter-append, IsSortedByKey, IsStableByKey, AllPairs, reverse, filter, ◌&&◌, nat_lt, ◌==◌}
use Rattle.traffic.proofs.Common.{◌||◌, comes_first, ComesBefore, in_turn, among}
use Rattle.traffic.specs.declared.world.Waiter.{Waiter}
use native.Mathlib.Numerals.{unary_clauses}
use Rattle.std.proofs.lemmas.{Cmp.nat_cmp_total, Cmp.on_total, Cmp.then_total, List.append-nil, List.reverse-append, List.Sorted.sorted_far}
use Rattle.std.{proofs.lemmas.List.Sorted.ranks_by, specs.Cmp.IsStrictWeakOrder}
use Rattle.std.specs.{List.Sorted.IsSortedBy, List.Sorted.IsStableBy, List.Sorted.ties, Ordering.nat_cmp, Ordering.ordering_then, Ordering.is_lt}
use Rattle.std.specs.declared.cmp.Ordering.{Ordering, TheVariants.Less, TheVariants.Equal, TheVariants.Greater}
use Rattle.traffic.proofs.ComeInTurn.{turn-order}

-- nobody in the list comes before x
abbrev Behind : {X : Type 0} → (X → X → Bool) → X → List X → Type 0
Behind lt x [] = Unit {0}
Behind lt x (y ∷ ys) = (lt y x ≡ false) × Behind lt x ys

abbrev Rises : {X : Type 0} → (X → X → Bool) → List X → Type 0
Rises lt [] = Unit {0}
Rises lt (x ∷ xs) = Behind lt x xs × Rises lt xs

behind_all : {X : Type 0} (lt : X → X → Bool) (x : X) (ys : List X) → ((k : ℕ) (d : X) → k < length ys → lt (get_or ys k d) x ≡ false) → Behind lt x ys
behind_all lt x [] h = tt
behind_all lt x (y ∷ ys) h = (h 0 y (omega arith), behind_all lt x ys (λ k d p. h (suc k) d (omega arith)))

rises_sorted : {X : Type 0} (lt : X → X → Bool) → IsStrictWeakOrder lt → (xs : List X) → IsSortedBy lt xs → Rises lt xs
rises_sorted lt o [] h = tt
rises_sorted lt o (x ∷ xs) h = (
  behind_all lt x xs (λ k d p. sorted_far lt o (x ∷ xs) h 0 (suc k) d (omega arith) (omega arith)),
  rises_sorted lt o xs (λ k d p q. simp unary_clauses (simp unary_clauses at (h (suc k) d (omega arith) (omega arith)))),
)

never_before_itself : {X : Type 0} (lt : X → X → Bool) → IsStrictWeakOrder lt → (x : X) → lt x x ≡ false
never_before_itself lt o x = grind (arith, o.one_way x x)

ties_itself : {X : Type 0} (lt : X → X → Bool) → IsStrictWeakOrder lt → (x : X) → ties lt x x ≡ true
ties_itself lt o x = rw (never_before_itself lt o x) refl

-- who comes before x ties with nobody behind x
not_behind : {X : Type 0} (lt : X → X → Bool) → IsStrictWeakOrder lt → (a x e : X) → lt a x ≡ true → lt e x ≡ false → ties lt a e ≡ false
not_behind lt o a x e p q = grind (arith, o.chain a e x)

none_behind : {X : Type 0} (lt : X → X → Bool) → IsStrictWeakOrder lt → (a x : X) (ys : List X) → lt a x ≡ true → Behind lt x ys → filter (ties lt a) ys ≡ []
none_behind lt o a x [] p h = refl
none_behind lt o a x (y ∷ ys) p h = rw (not_behind lt o a x y p h.0) (none_behind lt o a x ys p h.1)

-- a list that begins with x has, of those who tie with x, x first
first_tie : {X : Type 0} (lt : X → X → Bool) → IsStrictWeakOrder lt → (x : X) (xs : List X) → filter (ties lt x) (x ∷ xs) ≡ x ∷ filter (ties lt x) xs
first_tie lt o x xs = rw (ties_itself lt o x) refl

-- two lists that rise begin alike where those who tie stand alike
not_before : {X : Type 0} (lt : X → X → Bool) → IsStrictWeakOrder lt → (y z : X) (ys zs : List X) → Behind lt z zs
    → filter (ties lt y) (y ∷ ys) ≡ filter (ties lt y) (z ∷ zs) → lt y z ≡ false
not_before lt o y z ys zs h e = elim (cases_Bool (lt y z)) [
  | inl p ↦ absurd (let n : filter (ties lt y) (z ∷ zs) ≡ [] = none_behind lt o y z (z ∷ zs) p (never_before_itself lt o z, h) in let f = first_tie lt o y ys in cc)
  | inr q ↦ q
]

tie_of : {X : Type 0} (lt : X → X → Bool) (y z : X) → lt y z ≡ false → lt z y ≡ false → ties lt y z ≡ true
tie_of lt y z p q = rw (p, q) refl

same_later : {X : Type 0} (p : X → Bool) (y : X) (ys zs : List X) → filter p (y ∷ ys) ≡ filter p (y ∷ zs) → filter p ys ≡ filter p zs
same_later p y ys zs e = grind arith

-- lists that rise and in which those who tie stand alike are one
pub rises_once : {X : Type 0} (lt : X → X → Bool) → IsStrictWeakOrder lt → (ys zs : List X) → Rises lt ys → Rises lt zs
    → ((x : X) → filter (ties lt x) ys ≡ filter (ties lt x) zs) → ys ≡ zs
rises_once lt o [] [] g h e = refl
rises_once lt o [] (z ∷ zs) g h e = absurd (let f = first_tie lt o z zs in let q = e z in cc)
rises_once lt o (y ∷ ys) [] g h e = absurd (let f = first_tie lt o y ys in let q = e y in cc)
rises_once lt o (y ∷ ys) (z ∷ zs) g h e =
    let t : ties lt y z ≡ true = tie_of lt y z (not_before lt o y z ys zs h.0 (e y)) (not_before lt o z y zs ys g.0 (sym (e z))) in
    let f : y ∷ filter (ties lt y) ys ≡ z ∷ filter (ties lt y) zs = sym (first_tie lt o y ys) ∙ e y ∙ rw t refl in
    let q : y ≡ z = cc in
    ap (λ x. x ∷ ys) q ∙ ap (λ xs. z ∷ xs) (rises_once lt o ys zs g.1 h.1 (λ x. same_later (ties lt x) z ys zs (rw q at (e x))))

-- those who wait come in turn
not_first : (a b : Waiter) → ComesBefore a b → comes_first b a ≡ false
not_first a b h = grind (arith, nat_tests)

rises_pairs : (ws : List Waiter) → AllPairs ComesBefore ws → Rises comes_first ws
rises_pairs [] h = tt
rises_pairs (w ∷ ws) h = (
  behind_all comes_first w ws (λ k d p. not_first w (get_or ws k d) (h 0 (suc k) d (omega arith) (omega arith))),
  rises_pairs ws (λ i j d p q. h (suc i) (suc j) d (omega arith) (omega arith)),
)

rises_in_turn : (ws : List Waiter) → Rises comes_first (in_turn ws)
rises_in_turn ws = rises_pairs (in_turn ws) (turn-order ws)

-- one more keeps the order of those who tie with somebody, and stands last among them
right_of_tie : {X : Type 0} (lt : X → X → Bool) (x w : X) → ties lt x w ≡ true → lt w x ≡ false
right_of_tie lt x w t = grind arith

before_both : {X : Type 0} (lt : X → X → Bool) → IsStrictWeakOrder lt → (x w y : X) → ties lt x w ≡ true → lt w y ≡ true → lt x y ≡ true
before_both lt o x w y t p = grind (arith, o.chain w x y, right_of_tie lt x w t)

ties_before : IsStrictWeakOrder comes_first → (x w y : Waiter) (ys : List Waiter) → comes_first w y ≡ true → Behind comes_first y ys
    → filter (ties comes_first x) (w ∷ y ∷ ys) ≡ filter (ties comes_first x) (y ∷ ys) ++ filter (ties comes_first x) (w ∷ [])
ties_before o x w y ys q h = elim (cases_Bool (ties comes_first x w)) [
  | inl t ↦
      let n : filter (ties comes_first x) (y ∷ ys) ≡ [] = none_behind comes_first o x y (y ∷ ys) (before_both comes_first o x w y t q) (never_before_itself comes_first o y, h) in
      rw (t, n) refl
  | inr t ↦ rw t (sym (append-nil (filter (ties comes_first x) (y ∷ ys))))
]

ties_among : IsStrictWeakOrder comes_first → (x w : Waiter) (ys : List Waiter) → Rises comes_first ys
    → filter (ties comes_first x) (among w ys) ≡ filter (ties comes_first x) ys ++ filter (ties comes_first x) (w ∷ [])
unfolding among
ties_among o x w [] h = refl
ties_among o x w (y ∷ ys) h = elim (cases_Bool (comes_first w y)) [
  | inl q ↦ rw q (ties_before o x w y ys q h.0)
  | inr q ↦ rw q (elim (cases_Bool (ties comes_first x y)) [
    | inl t ↦ rw t (ap (λ xs. y ∷ xs) (ties_among o x w ys h.1))
    | inr t ↦ rw t (ties_among o x w ys h.1)
  ])
]

ties_in_turn : IsStrictWeakOrder comes_first → (x : Waiter) (ws : List Waiter) → filter (ties comes_first x) (in_turn ws) ≡ filter (ties comes_first x) (reverse ws)
unfolding in_turn
ties_in_turn o x [] = refl
ties_in_turn o x (w ∷ ws) =
    rw (ties_among o x w (in_turn ws) (rises_in_turn ws), ties_in_turn o x ws, reverse-append (w ∷ []) ws, filter-append) refl

-- who comes first is less by the second and then by the number
less_by : (p q r s : Bool) → (p || (q && r)) ≡ is_lt (ordering_then (cond p Less (cond q Equal Greater)) (cond r Less (cond s Equal Greater)))
less_by p q r s = grind arith

abbrev pub key_of : Waiter → ℕ × ℕ
key_of w = (w.since, w.person)

abbrev pub key_cmp : ℕ × ℕ → ℕ × ℕ → Ordering
key_cmp x y = ordering_then (nat_cmp x.0 y.0) (nat_cmp x.1 y.1)

abbrev less_key : Waiter → Waiter → Bool
less_key a b = is_lt (key_cmp (key_of a) (key_of b))

comes_is : comes_first ≡ less_key
comes_is = fun_ext (λ a. fun_ext (λ b. less_by (nat_lt a.since b.since) (a.since == b.since) (nat_lt a.person b.person) (a.person == b.person)))

less_in_order : IsStrictWeakOrder less_key
less_in_order = ranks_by {R = key_cmp} (then_total (on_total (λ (x : ℕ × ℕ). x.0) nat_cmp_total) (on_total (λ (x : ℕ × ℕ). x.1) nat_cmp_total)) key_of

comes_in_order : IsStrictWeakOrder comes_first
comes_in_order = let P : (Waiter → Waiter → Bool) → Type 0 = λ lt. IsStrictWeakOrder lt in subst P (sym comes_is) less_in_order

pub sorted_in_turn : (ws ys : List Waiter) → IsSortedByKey key_of key_cmp ys → IsStableByKey key_of key_cmp (reverse ws) ys → ys ≡ in_turn ws
sorted_in_turn ws ys up alike =
    let o = comes_in_order in
    let P : (Waiter → Waiter → Bool) → Type 0 = λ lt. IsSortedBy lt ys × IsStableBy lt (reverse ws) ys in
    let h : IsSortedBy comes_first ys × IsStableBy comes_first (reverse ws) ys = subst P (sym comes_is) (up, alike) in
    rises_once comes_first o ys (in_turn ws) (rises_sorted comes_first o ys h.0) (rises_in_turn ws) (λ x. h.1 x ∙ sym (ties_in_turn o x ws))
