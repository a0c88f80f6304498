-- Those who wait come in turn.
use Rattle.traffic.proofs.Common.{List, [], ◌∷◌, arith, inl, inr, cases_Bool, nat_tests, All-nil, All-cons, All-weaker, IsPermutation-refl}
use Rattle.traffic.proofs.Common.{IsPermutation-trans, AllPairs, IsPermutation, All, Waiter, comes_first, ComesBefore, in_turn, among}
use Rattle.std.proofs.lemmas.List.{Kept.AllPairs-cons, Sorted.IsPermutation-sym, Sorted.IsPermutation-cons, Sorted.IsPermutation-middle, Sorted.All-permutation}

-- THE SAME PERSONS
among-same : (w : Waiter) (ws : List Waiter) → IsPermutation (w ∷ ws) (among w ws)
unfolding among
among-same w [] = IsPermutation-refl (w ∷ [])
among-same w (x ∷ xs) =
    elim (cases_Bool (comes_first w x)) [
      | inl e ↦ rw e (IsPermutation-refl (w ∷ x ∷ xs))
      | inr e ↦ rw e (IsPermutation-trans (w ∷ x ∷ xs) (x ∷ w ∷ xs) (x ∷ among w xs)
          (IsPermutation-sym (x ∷ w ∷ xs) (w ∷ x ∷ xs) (IsPermutation-middle (x ∷ []) w xs)) (IsPermutation-cons x (w ∷ xs) (among w xs) (among-same w xs)))
    ]

pub turn-same : (ws : List Waiter) → IsPermutation ws (in_turn ws)
unfolding in_turn
turn-same [] = IsPermutation-refl []
turn-same (w ∷ ws) = IsPermutation-trans (w ∷ ws) (w ∷ in_turn ws) (among w (in_turn ws)) (IsPermutation-cons w ws (in_turn ws) (turn-same ws)) (among-same w (in_turn ws))

-- IN ORDER
-- each comes before all after him
abbrev Follow : List Waiter → Type 0
Follow [] = Unit {0}
Follow (w ∷ ws) = All (ComesBefore w) ws × Follow ws

among-follow : (w : Waiter) (ws : List Waiter) → Follow ws → Follow (among w ws)
unfolding among
among-follow w [] h = (All-nil (ComesBefore w), tt)
among-follow w (x ∷ xs) h =
    elim (cases_Bool (comes_first w x)) [
      | inl e ↦
          let f : ComesBefore w x = grind (arith, nat_tests) in
          rw e (All-cons (ComesBefore w) x xs f (All-weaker (ComesBefore x) (ComesBefore w) (λ y g. grind arith) xs h.0), h)
      | inr e ↦
          rw e (All-permutation (ComesBefore x) (w ∷ xs) (among w xs) (among-same w xs) (All-cons (ComesBefore x) w xs (grind (arith, nat_tests)) h.0), among-follow w xs h.1)
    ]

turn-follow : (ws : List Waiter) → Follow (in_turn ws)
unfolding in_turn
turn-follow [] = tt
turn-follow (w ∷ ws) = among-follow w (in_turn ws) (turn-follow ws)

follow-pairs : (ws : List Waiter) → Follow ws → AllPairs ComesBefore ws
follow-pairs [] h = λ i j d lt le. absurd (omega arith)
follow-pairs (w ∷ ws) h = AllPairs-cons ComesBefore w ws h.0 (follow-pairs ws h.1)

pub turn-order : (ws : List Waiter) → AllPairs ComesBefore (in_turn ws)
turn-order ws = follow-pairs (in_turn ws) (turn-follow ws)
