-- Where running sums first exceed a target.
use Rattle.std.proofs.Common.{◌≡◌, ℕ, zero, suc, ◌+◌, ◌<◌, ◌≤◌, List, [], ◌∷◌, length, take, arith, add-one}
use Rattle.std.{proofs.lemmas.Bool.Decides.nat_tests, proofs.lemmas.List.Sums.sum_by-cons, specs.List.sum}
use Rattle.draws.specs.Choices.{below, running_sums, first_above, pick}

-- the sum before the place is within the target, and the one with it is not
first_at : (t a : ℕ) (ws : List ℕ) (i : ℕ) → i < length ws → a + sum (take i ws) ≤ t → t < a + sum (take (suc i) ws)
    → first_above t (running_sums a ws) ≡ i
unfolding running_sums first_above
first_at t a [] i h low high = absurd (omega arith)
first_at t a (w ∷ ws) zero h low high =
    let here : t < a + w = omega arith in
    grind (arith, nat_tests)
first_at t a (w ∷ ws) (suc i) h low high =
    let one : (n : ℕ) → sum (take (suc n) (w ∷ ws)) ≡ w + sum (take n ws) = λ n. sum_by-cons (λ (x : ℕ). x) w (take n ws) in
    let low_later : sum (take (suc i) (w ∷ ws)) ≡ w + sum (take i ws) = one i in
    let high_later : sum (take (suc (suc i)) (w ∷ ws)) ≡ w + sum (take (suc i) ws) = one (suc i) in
    let before : a + w ≤ t = omega arith in
    let rest : first_above t (running_sums (a + w) ws) ≡ i = first_at t (a + w) ws i (omega arith) (omega arith) (omega arith) in
    grind (arith, nat_tests)

pub pick_is : (ws : List ℕ) (word i : ℕ) → i < length ws → sum (take i ws) ≤ below (sum ws) word
    → below (sum ws) word < sum (take (i + 1) ws) → pick ws word ≡ i
unfolding pick
pick_is ws word i h low high =
    let with : below (sum ws) word < sum (take (suc i) ws) = rw add-one at high in
    first_at (below (sum ws) word) 0 ws i h (omega arith) (omega arith)
