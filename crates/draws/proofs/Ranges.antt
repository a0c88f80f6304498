-- The ranges of words and choices.
use Rattle.std.proofs.Common.{◌≡◌, ℕ, ◌+◌, ◌*◌, ◌^◌, ◌<◌, List, [], ◌∷◌, ◌≤◌, length, inl, inr, arith}
use Rattle.std.proofs.{Math.Nat.mul-lt-mul_of_pos_right, lemmas.Bool.cases_lt, lemmas.Bool.Decides.nat_tests, lemmas.List.Sums.sum_by-cons}
use Rattle.std.{proofs.lemmas.Nat.div_below, proofs.lemmas.Nat.mod_below, specs.List.sum}
use Rattle.draws.specs.{Choices.below, Choices.running_sums, Choices.first_above, Choices.pick, Words.Source, Words.word}

pub word_fits : (s : Source) (place : ℕ) → word s place < 2 ^ 32
unfolding word
word_fits s place = mod_below _ (2 ^ 32) (omega arith)

pub below_within : (count word : ℕ) → 0 < count → word < 2 ^ 32 → below count word < count
unfolding below
below_within count word some fits =
    let product : word * count < 2 ^ 32 * count = mul-lt-mul_of_pos_right fits some in
    div_below (word * count) (2 ^ 32) count (omega arith) (omega arith)

-- a target between what came before and the whole sum is exceeded somewhere
first_above_within : (t a : ℕ) (ws : List ℕ) → a ≤ t → t < a + sum ws → first_above t (running_sums a ws) < length ws
unfolding running_sums first_above
first_above_within t a [] low high = absurd (omega arith)
first_above_within t a (w ∷ ws) low high =
    let whole : sum (w ∷ ws) ≡ w + sum ws = sum_by-cons (λ (x : ℕ). x) w ws in
    elim (cases_lt t (a + w)) [
      | inl here ↦ grind (arith, nat_tests)
      | inr passed ↦
          let rest : first_above t (running_sums (a + w) ws) < length ws = first_above_within t (a + w) ws passed (omega arith) in
          grind (arith, nat_tests)
    ]

pub pick_within : (ws : List ℕ) (word : ℕ) → 0 < sum ws → word < 2 ^ 32 → pick ws word < length ws
unfolding pick
pick_within ws word some fits =
    let target : below (sum ws) word < sum ws = below_within (sum ws) word some fits in
    first_above_within (below (sum ws) word) 0 ws (omega arith) (omega arith)
