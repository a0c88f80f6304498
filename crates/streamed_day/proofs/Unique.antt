-- Two lists of events that ascend and have the same events are one.
use Rattle.std.proofs.Common.{◌≡◌, zero, suc, true, List, [], ◌∷◌, arith, refl, sym, ◌∙◌, ap, subst, inl, inr, ◌⊎◌, All}
use Rattle.std.proofs.lemmas.List.Elements.{All-nil, All-cons, All-contains, Contains-append_cases, Contains-append_right}
use Rattle.std.proofs.lemmas.List.Sorted.{IsPermutation-sym, Contains-permutation}
use Rattle.std.specs.List.{Contains, Sorted.IsPermutation}
use Rattle.traffic.{proofs.Common.nat_tests, specs.Frames.Ascends, specs.Frames.AreAfter, specs.Frames.IsBefore}
use Rattle.events.specs.{Keys.key_before, declared.event.Event.Event, declared.event.Key.Key}

-- no key comes before one that comes before it
never : (a b : Key) → key_before a b ≡ true → key_before b a ≡ true → ⊥
unfolding key_before
never a b h g = grind (arith, nat_tests)

each_after : (x : Event) (xs : List Event) → AreAfter x xs → All (IsBefore x) xs
each_after x [] h = All-nil (IsBefore x)
each_after x (y ∷ ys) h = All-cons (IsBefore x) y ys h.0 (each_after x ys h.1)

only : (x a : Event) → Contains (x ∷ []) a → x ≡ a
only x a (zero, lt, is) = is
only x a (suc k, lt, is) = absurd (omega (arith, lt))

none : (a : Event) → Contains [] a → ⊥
none a c = let l = c.1 in omega arith

-- an event of a list that ascends is its first, or comes after it
first_or_after : (x : Event) (xs : List Event) (a : Event) → AreAfter x xs → Contains (x ∷ xs) a → (x ≡ a) ⊎ IsBefore x a
first_or_after x xs a up c = elim (Contains-append_cases (x ∷ []) xs a c) [
  | inl h ↦ inl (only x a h)
  | inr h ↦ inr (All-contains (IsBefore x) xs a (each_after x xs up) h)
]

same_first : (x y : Event) (xs ys : List Event) → AreAfter x xs → AreAfter y ys → Contains (y ∷ ys) x → Contains (x ∷ xs) y → x ≡ y
same_first x y xs ys up climb there back = elim (first_or_after y ys x climb there) [
  | inl e ↦ sym e
  | inr b ↦ elim (first_or_after x xs y up back) [ inl e ↦ e | inr c ↦ absurd (never x.key y.key c b) ]
]

-- what comes after the first of the one list comes after the first of the other
behind : (x y : Event) (xs ys : List Event) (a : Event) → x ≡ y → AreAfter x xs → Contains xs a → Contains (y ∷ ys) a → Contains ys a
behind x y xs ys a e up c there = elim (Contains-append_cases (y ∷ []) ys a there) [
  | inl h ↦
      let before : key_before x.key a.key ≡ true = All-contains (IsBefore x) xs a (each_after x xs up) c in
      let itself : key_before a.key a.key ≡ true = subst (λ (z : Event). key_before z.key a.key ≡ true) (e ∙ only y a h) before in
      absurd (never a.key a.key itself itself)
  | inr h ↦ h
]

same_events : (xs ys : List Event) → Ascends xs → Ascends ys → ((a : Event) → Contains xs a → Contains ys a)
    → ((a : Event) → Contains ys a → Contains xs a) → xs ≡ ys
same_events [] [] up climb there back = refl
same_events [] (y ∷ ys) up climb there back = absurd (none y (back y (0, (omega arith), refl)))
same_events (x ∷ xs) [] up climb there back = absurd (none x (there x (0, (omega arith), refl)))
same_events (x ∷ xs) (y ∷ ys) up climb there back =
    let e : x ≡ y = same_first x y xs ys up.0 climb.0 (there x (0, (omega arith), refl)) (back y (0, (omega arith), refl)) in
    let rest : xs ≡ ys = same_events xs ys up.1 climb.1
    (λ a c. behind x y xs ys a e up.0 c (there a (Contains-append_right (x ∷ []) xs a c)))
    (λ a c. behind y x ys xs a (sym e) climb.0 c (back a (Contains-append_right (y ∷ []) ys a c))) in
    ap (λ z. z ∷ xs) e ∙ ap (λ zs. y ∷ zs) rest

pub one_order : (xs ys : List Event) → Ascends xs → Ascends ys → IsPermutation xs ys → xs ≡ ys
one_order xs ys up climb same =
    same_events xs ys up climb (λ a c. Contains-permutation xs ys a same c)
    (λ a c. Contains-permutation ys xs a (IsPermutation-sym xs ys same) c)
