-- Two merges of the same lists are one.
use Rattle.std.proofs.Common.{◌≡◌, ℕ, zero, suc, ◌<◌, true, false, true≢false, List, [], ◌∷◌, arith, refl, sym, ◌∙◌, ap, subst, length, get_or, inl, inr, ◌⊎◌}
use Rattle.std.proofs.lemmas.List.Sorted.{IsPermutation-sym, IsPermutation-trans, Contains-permutation}
use Rattle.std.specs.{List.Contains, Prelude.flat_map}
use Rattle.traffic.{proofs.Common.nat_tests, specs.Frames.Ascends, specs.Frames.AreAfter}
use Rattle.events.specs.{Keys.key_before, declared.event.Event.Event, declared.event.Key.Key}
use Rattle.parts.specs.Merge.{Merges}

one_way : (a b : Key) → key_before a b ≡ true → key_before b a ≡ false
unfolding key_before
one_way a b h = grind (arith, nat_tests)

never_both : (a b : Key) → key_before a b ≡ true → key_before b a ≡ true → ⊥
never_both a b h g = true≢false (sym g ∙ one_way a b h)

-- an event of a list is its first, or one of the others
first_or_later : (x : Event) (xs : List Event) (a : Event) (k : ℕ) → k < length (x ∷ xs) → get_or (x ∷ xs) k a ≡ a → (x ≡ a) ⊎ Contains xs a
first_or_later x xs a zero lt is = inl is
first_or_later x xs a (suc k) lt is = inr (k, (omega arith), is)

-- and each of the others comes after the first
after_at : (x : Event) (xs : List Event) (a : Event) (k : ℕ) → AreAfter x xs → k < length xs → get_or xs k a ≡ a
    → key_before x.key a.key ≡ true
after_at x [] a k h lt is = absurd (omega arith)
after_at x (y ∷ ys) a zero h lt is = subst (λ (e : Event). key_before x.key e.key ≡ true) is h.0
after_at x (y ∷ ys) a (suc k) h lt is = after_at x ys a k h.1 (omega arith) is

later : (x : Event) (xs : List Event) (a : Event) → Contains xs a → Contains (x ∷ xs) a
later x xs a c = (suc c.0, (let l = c.1 in omega arith), c.2)

same_first : (x y : Event) (xs ys : List Event) → AreAfter x xs → AreAfter y ys → Contains (y ∷ ys) x → Contains (x ∷ xs) y → x ≡ y
same_first x y xs ys up climb there back =
    elim (first_or_later y ys x there.0 there.1 there.2) [
      | inl e ↦ sym e
      | inr c ↦ elim (first_or_later x xs y back.0 back.1 back.2) [
        | inl e ↦ e
        | inr d ↦ absurd (never_both x.key y.key (after_at x xs y d.0 up d.1 d.2) (after_at y ys x c.0 climb c.1 c.2))
      ]
    ]

-- what comes after x in the one list comes after y in the other
in_rest : (x y : Event) (xs ys : List Event) (a : Event) → x ≡ y → AreAfter x xs → Contains xs a → Contains (y ∷ ys) a → Contains ys a
in_rest x y xs ys a e up c there =
    elim (first_or_later y ys a there.0 there.1 there.2) [
      | inl f ↦
          let before : key_before x.key a.key ≡ true = after_at x xs a c.0 up c.1 c.2 in
          let itself : key_before a.key a.key ≡ true = subst (λ (z : Event). key_before z.key a.key ≡ true) (e ∙ f) before in
          absurd (never_both a.key a.key itself itself)
      | inr d ↦ d
    ]

same_members : (xs ys : List Event) → Ascends xs → Ascends ys → ((a : Event) → Contains xs a → Contains ys a)
    → ((a : Event) → Contains ys a → Contains xs a) → xs ≡ ys
same_members [] [] up climb there back = refl
same_members [] (y ∷ ys) up climb there back = let c = back y (0, (omega arith), refl) in absurd (let l = c.1 in omega arith)
same_members (x ∷ xs) [] up climb there back = let c = there x (0, (omega arith), refl) in absurd (let l = c.1 in omega arith)
same_members (x ∷ xs) (y ∷ ys) up climb there back =
    let e : x ≡ y = same_first x y xs ys up.0 climb.0 (there x (0, (omega arith), refl)) (back y (0, (omega arith), refl)) in
    let rest : xs ≡ ys = same_members xs ys up.1 climb.1 (λ a c. in_rest x y xs ys a e up.0 c (there a (later x xs a c)))
    (λ a c. in_rest y x ys xs a (sym e) climb.0 c (back a (later y ys a c))) in
    ap (λ z. z ∷ xs) e ∙ ap (λ zs. y ∷ zs) rest

pub one_merge : (lists : List (List Event)) (xs ys : List Event) → Merges lists xs → Merges lists ys → xs ≡ ys
one_merge lists xs ys h g =
    let all = flat_map (λ (events : List Event). events) lists in
    let there = IsPermutation-trans xs all ys (IsPermutation-sym all xs h.same) g.same in
    same_members xs ys h.ascends g.ascends (λ a c. Contains-permutation xs ys a there c)
    (λ a c. Contains-permutation ys xs a (IsPermutation-sym xs ys there) c)
