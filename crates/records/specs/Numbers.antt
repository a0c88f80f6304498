-- Decimal numbers in a field: 1 to 20 digits, leading zeros allowed, in a range.
use Rattle.std.specs.{List.list_all, Prelude.ℕ, Prelude.ℤ}
use Rattle.std.specs.Prelude.{pos, neg_ℤ, ◌+◌, ◌*◌, ◌-◌, Bool, ◌&&◌, nat_le, nat_eq, if◌then◌else◌, List, [], ◌∷◌, length, fold, Option, None, Some, option_map}

-- a decimal digit, `0` to `9`
abbrev pub is_digit : ℕ → Bool
is_digit b = nat_le 48 b && nat_le b 57

-- one more digit behind a number
abbrev pub more_digits : ℕ → ℕ → ℕ
more_digits n b = 10 * n + (b - 48)

-- the number that the digits write
abbrev pub value_of : List ℕ → ℕ
value_of bytes = fold more_digits 0 bytes

-- 1 to 20 digits
unfoldable pub are_digits : List ℕ → Bool
are_digits bytes = nat_le 1 (length bytes) && nat_le (length bytes) 20 && list_all is_digit bytes

-- a number of the range from low to high, without a sign
unfoldable pub number_in : ℕ → ℕ → List ℕ → Option ℕ
number_in low high bytes =
    if are_digits bytes && nat_le low (value_of bytes) && nat_le (value_of bytes) high then Some (value_of bytes) else None

-- a number from -limit to limit, with a leading `-` where it is negative
unfoldable pub signed_in : ℕ → List ℕ → Option ℤ
signed_in limit [] = None
signed_in limit (b ∷ bytes) =
    if nat_eq b 45 then option_map (λ n. neg_ℤ (pos n)) (number_in 0 limit bytes) else option_map pos (number_in 0 limit (b ∷ bytes))
