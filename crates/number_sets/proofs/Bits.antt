-- What is in a set once a number was put into it or taken out of it, and which is the next one.
use Rattle.std.proofs.Common.{◌≡◌, ℕ, ◌-◌, ◌*◌, ◌%◌, ◌<◌, ◌≤◌, true, false, refl, ap, sym, ◌∙◌, arith, inl, inr, bit_and, bit_or, w64, if◌then◌else◌}
use Rattle.std.proofs.Math.Nat.{min-zero}
use Rattle.std.proofs.lemmas.Bool.{cases_Bool, cases_lt, eqb-true, eqb-false}
use Rattle.std.proofs.lemmas.Nat.{and_le_l}
use Rattle.std.proofs.lemmas.Nat.Bits.{bit_at_set_same, bit_at_set_other, bit_at_clear_same, bit_at_clear_other, bit_at_above, bit_at-lt, bit_at-zero}
use Rattle.std.proofs.lemmas.Nat.Bits.{bit_at-trailing_zeros, bit_at_and, bit_at_mask_inside, bit_at_mask_below, ones_shl}
use Rattle.std.specs.Prelude.{◌==◌, ◌^◌, min, zero, suc}
use Rattle.std.specs.Int.{bit_at, trailing_zeros}
use Rattle.number_sets.specs.Sets.{IsSet, has, IsNext}

pub inserted : (bits number k : ℕ) → number < 64
    → has (bit_or bits (1 * 2 ^ number % 18446744073709551616)) k ≡ (if k == number then true else has bits k)
inserted bits number k within =
    elim (cases_Bool (k == number)) [
      | inl q ↦ rw q (ap (λ x. x == 1) (ap (bit_at (bit_or bits (1 * 2 ^ number % 18446744073709551616))) (eqb-true k number q) ∙ bit_at_set_same w64 bits number within))
      | inr q ↦ rw q (ap (λ x. x == 1) (bit_at_set_other w64 bits number within k (eqb-false k number q)))
    ]

pub removed : (bits number k : ℕ) → number < 64 → IsSet bits
    → has (bit_and bits (18446744073709551615 - 1 * 2 ^ number % 18446744073709551616)) k ≡ (if k == number then false else has bits k)
removed bits number k within set =
    let new : ℕ = bit_and bits (18446744073709551615 - 1 * 2 ^ number % 18446744073709551616) in
    let le : new ≤ bits = and_le_l bits (18446744073709551615 - 1 * 2 ^ number % 18446744073709551616) in
    let less : new < 2 ^ 64 = omega arith in
    elim (cases_Bool (k == number)) [
      | inl q ↦ rw q (ap (λ x. x == 1) (ap (bit_at new) (eqb-true k number q) ∙ bit_at_clear_same w64 bits number within))
      | inr q ↦
          rw q (elim (cases_lt k 64) [
            | inl lt ↦ ap (λ x. x == 1) (bit_at_clear_other w64 bits number within k lt (eqb-false k number q))
            | inr ge ↦ ap (λ x. x == 1) (bit_at_above new 64 k less ge ∙ sym (bit_at_above bits 64 k set ge))
          ])
    ]

-- the numbers of a set from this one on
abbrev rest_of : ℕ → ℕ → ℕ
rest_of bits from = bit_and bits (18446744073709551615 * 2 ^ from % 18446744073709551616)

min_one : (n : ℕ) → n < 2 → min n 1 ≡ n
min_one zero lt = refl
min_one (suc zero) lt = refl
min_one (suc (suc n)) lt = absurd (omega arith)

rest_at : (bits from k : ℕ) → from < 64 → from ≤ k → k < 64 → bit_at (rest_of bits from) k ≡ bit_at bits k
rest_at bits from k within le lt =
    ap (λ m. bit_at (bit_and bits m) k) (ones_shl 64 from (omega arith)) ∙ bit_at_and bits (2 ^ 64 - 2 ^ from) k
    ∙ ap (min (bit_at bits k)) (bit_at_mask_inside from 64 k le lt)
    ∙ min_one (bit_at bits k) (bit_at-lt bits k)

rest_below : (bits from k : ℕ) → from < 64 → k < from → bit_at (rest_of bits from) k ≡ 0
rest_below bits from k within lt =
    ap (λ m. bit_at (bit_and bits m) k) (ones_shl 64 from (omega arith)) ∙ bit_at_and bits (2 ^ 64 - 2 ^ from) k
    ∙ ap (min (bit_at bits k)) (bit_at_mask_below from 64 k lt)
    ∙ min-zero (bit_at bits k)

-- no number is past 63
pub none_past : (bits from k : ℕ) → IsSet bits → 64 ≤ from → from ≤ k → has bits k ≡ false
none_past bits from k set past le = ap (λ x. x == 1) (bit_at_above bits 64 k set (omega arith))

pub none_left : (bits from k : ℕ) → IsSet bits → from < 64 → rest_of bits from ≡ 0 → from ≤ k → has bits k ≡ false
none_left bits from k set within none le =
    elim (cases_lt k 64) [
      | inl lt ↦ ap (λ x. x == 1) (sym (rest_at bits from k within le lt) ∙ ap (λ m. bit_at m k) none ∙ bit_at-zero k)
      | inr ge ↦ ap (λ x. x == 1) (bit_at_above bits 64 k set ge)
    ]

pub next_is : (bits from : ℕ) → IsSet bits → from < 64 → 0 < rest_of bits from → IsNext bits from (trailing_zeros w64 (rest_of bits from))
next_is bits from set within some =
    let rest : ℕ = rest_of bits from in
    let le : rest ≤ bits = and_le_l bits (18446744073709551615 * 2 ^ from % 18446744073709551616) in
    let t : ℕ = trailing_zeros w64 rest in
    let found = bit_at-trailing_zeros w64 rest some (omega arith) in
    let least : from ≤ t = elim (cases_lt t from) [
      | inl lt ↦
          let one : bit_at rest t ≡ 1 = found.1 in
          let none : bit_at rest t ≡ 0 = rest_below bits from t within lt in
          absurd (omega arith)
      | inr ge ↦ ge
    ] in
    record {
      least = least;
      small = found.0;
      there = ap (λ x. x == 1) (sym (rest_at bits from t within least found.0) ∙ found.1);
      none = λ k ge lt. ap (λ x. x == 1) (sym (rest_at bits from k within ge (omega arith)) ∙ found.2 k lt);
    }

-- no number is in the set without a bit
pub none_in : (bits k : ℕ) → (bits == 0) ≡ true → has bits k ≡ false
none_in bits k empty = ap (λ n. has n k) (eqb-true bits 0 empty) ∙ ap (λ x. x == 1) (bit_at-zero k)

-- a set without a number has no bit
pub bare : (bits : ℕ) → IsSet bits → ((k : ℕ) → has bits k ≡ false) → (bits == 0) ≡ true
bare zero set none = refl
bare (suc n) set none =
    let found = bit_at-trailing_zeros w64 (suc n) (omega arith) (omega arith) in
    let one : has (suc n) (trailing_zeros w64 (suc n)) ≡ true = ap (λ x. x == 1) found.1 in
    absurd (let e : true ≡ false = sym one ∙ none (trailing_zeros w64 (suc n)) in cc)
