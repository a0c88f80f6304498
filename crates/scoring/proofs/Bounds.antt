-- Products of what a second is worth with seconds.
use Rattle.std.proofs.Common.{◌≡◌, ℕ, suc, ◌+◌, ◌*◌, ◌≤◌, ℤ, pos, negsuc, ◌*ℤ◌, mul-le-mul, w64, to_z, of_z, ◌+ℤ◌, arith}
use Rattle.std.proofs.lemmas.Int.{ints}
use Rattle.scoring.specs.Ranges.{IsWithin}

-- a number from -m to m, so many times
pub product-within : (z : ℤ) (k m n : ℕ) → IsWithin (pos m) z → k ≤ n → IsWithin (pos (m * n)) (z *ℤ pos k)
product-within (pos a) k m n within few =
    let high = within.1 in
    let g : a * k ≤ m * n = mul-le-mul (omega (arith, ints)) few in (omega (arith, ints), omega (arith, ints))
product-within (negsuc a) k m n within few =
    let low = within.0 in
    let g : suc a * k ≤ m * n = mul-le-mul (omega (arith, ints)) few in (omega (arith, ints), omega (arith, ints))

-- what the code's sum of two numbers is, where both are far from the ends of 64 bits
pub code_sum : (x y : ℤ) → IsWithin (pos 2000000000000000000) x → IsWithin (pos 2000000000000000000) y
    → to_z w64 (of_z w64 (to_z w64 (of_z w64 x) +ℤ to_z w64 (of_z w64 y))) ≡ x +ℤ y
code_sum x y f g = let f0 = f.0 in let f1 = f.1 in let g0 = g.0 in let g1 = g.1 in omega (arith, ints)

-- a number that is far from the ends comes back from its bits
pub code_same : (x : ℤ) → IsWithin (pos 2000000000000000000) x → to_z w64 (of_z w64 x) ≡ x
code_same x f = let f0 = f.0 in let f1 = f.1 in omega (arith, ints)

pub wider : (m n : ℕ) (z : ℤ) → m ≤ n → IsWithin (pos m) z → IsWithin (pos n) z
wider m n z h g = let g0 = g.0 in let g1 = g.1 in (omega (arith, ints), omega (arith, ints))
