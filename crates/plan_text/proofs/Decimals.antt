-- A decimal number, read back.
use Rattle.records.proofs.Common.{◌≡◌, List, ap, ℕ, length, ◌∙◌, arith, [], ◌<◌, None, Some, ◌++◌, ◌∷◌, true, Bool, ◌+◌, cond, ◌&&◌, ◌≤◌, ◌^◌, ◌-◌, nat_tests}
use Rattle.records.proofs.Common.{list_all-append, fold-append, list_all, nat_le, decimal, are_digits, number_in, value_of}
use Rattle.records.specs.Numbers.{is_digit, more_digits}
use Rattle.std.proofs.{Common.◌*◌, Common.◌/◌, Common.◌%◌, lemmas.Fmt.decimal_by_steps, lemmas.Fmt.decimal_nonempty, lemmas.Fmt.length-decimal-le}

-- digits that write a number
abbrev Writes : ℕ → List ℕ → Type 0
Writes n ds = (list_all is_digit ds ≡ true) × (value_of ds ≡ n)

digit_is : (n : ℕ) → n < 10 → (nat_le 48 (48 + n) && nat_le (48 + n) 57) ≡ true
digit_is n less = grind (arith, nat_tests)

writes_one : (n : ℕ) → n < 10 → Writes n ((48 + n) ∷ [])
writes_one n less = (rw (digit_is n less), omega arith)

writes_more : (n : ℕ) (ds : List ℕ) → 10 ≤ n → Writes (n / 10) ds → Writes n (ds ++ ((48 + n % 10) ∷ []))
writes_more n ds long before =
    let low : n % 10 < 10 = omega arith in (
      rw (list_all-append is_digit ds ((48 + n % 10) ∷ []), before.0, digit_is (n % 10) low),
      fold-append more_digits 0 ds ((48 + n % 10) ∷ []) ∙ ap (λ (v : ℕ). 10 * v + ((48 + n % 10) - 48)) before.1 ∙ last n,
    )
  where
    last : (n : ℕ) → 10 * (n / 10) + ((48 + n % 10) - 48) ≡ n
    last n = omega arith

pub decimal_writes : (n : ℕ) → n < 2 ^ 64 → Writes n (decimal n)
decimal_writes n less = decimal_by_steps Writes writes_one writes_more n less

number_step : (l low high v n : ℕ) (digits : Bool) → 1 ≤ l → l ≤ 20 → digits ≡ true → v ≡ n → low ≤ n → n ≤ high
    → cond ((nat_le 1 l && nat_le l 20 && digits) && nat_le low v && nat_le v high) (Some v) None ≡ Some n
number_step l low high v n digits some few are is above below = grind (arith, nat_tests)

-- a number of a range is read from what `decimal` writes of it
pub number_back : (low high n : ℕ) → low ≤ n → n ≤ high → n < 2 ^ 32 → number_in low high (decimal n) ≡ Some n
unfolding number_in are_digits
number_back low high n above below small =
    let less : n < 2 ^ 64 = omega arith in
    let writes = decimal_writes n less in
    number_step (length (decimal n)) low high (value_of (decimal n)) n (list_all is_digit (decimal n)) (omega (arith, decimal_nonempty n less))
    (length-decimal-le 20 n (omega arith) (omega arith) less) writes.0 writes.1 above below
