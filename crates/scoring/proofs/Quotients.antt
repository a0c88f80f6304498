-- Quotients of whole numbers, rounded down.
use Rattle.std.proofs.Common.{ℕ, suc, ◌-◌, ◌*◌, ◌/◌, ◌<◌, ◌≤◌, ℤ, pos, negsuc, ◌*ℤ◌, ◌≤ℤ◌, suc-mul, mul_comm, div-lt_iff_lt-mul, div-mul-le_self, arith}
use Rattle.std.{proofs.Math.Nat.div-le_of_le-mul, proofs.lemmas.Int.ints, proofs.lemmas.Nat.le-div, specs.Int.int_div_euclid}
use borrow.Author.Differences.{neg_is}

below_product : (a m d : ℕ) → 0 < d → a < suc m * d → a / d ≤ m
below_product a m d some h = let e : a / d < suc m = (div-lt_iff_lt-mul some).1 h in omega arith

-- a number that is a multiple at least has a quotient at least so large
pub quotient-least : (m x : ℤ) (d : ℕ) → 0 < d → (m *ℤ pos d) ≤ℤ x → m ≤ℤ int_div_euclid x (pos d)
quotient-least (pos m) (pos a) d some h = let e : m ≤ a / d = le-div m a d some (omega (arith, ints)) in omega (arith, ints)
quotient-least (pos m) (negsuc a) d some h = absurd (omega (arith, ints))
quotient-least (negsuc m) (pos a) d some h = omega (arith, ints)
quotient-least (negsuc m) (negsuc a) d some h =
    let g : a < suc m * d = omega (arith, ints, neg_is (pos (suc m * d))) in
    let e : a / d ≤ m = below_product a m d some g in omega (arith, ints)

-- a number that is a multiple at most has a quotient at most so large
pub quotient-most : (m x : ℤ) (d : ℕ) → 0 < d → x ≤ℤ (m *ℤ pos d) → int_div_euclid x (pos d) ≤ℤ m
quotient-most (pos m) (pos a) d some h =
    let g : a ≤ d * m = omega (arith, ints, mul_comm d m) in
    let e : a / d ≤ m = div-le_of_le-mul d g in omega (arith, ints)
quotient-most (pos m) (negsuc a) d some h = omega (arith, ints)
quotient-most (negsuc m) (pos a) d some h = absurd (omega (arith, ints, neg_is (pos (suc m * d)), suc-mul m d))
quotient-most (negsuc m) (negsuc a) d some h =
    let g : m * d ≤ a = omega (arith, ints, neg_is (pos (suc m * d)), suc-mul m d) in
    let e : m ≤ a / d = le-div m a d some g in omega (arith, ints)

quotient_up : (a b d : ℕ) → 0 < d → a ≤ b → a / d ≤ b / d
quotient_up a b d some h = le-div (a / d) b d some (omega (arith, div-mul-le_self a d))

-- of a larger number the quotient is no smaller
pub quotient-mono : (x y : ℤ) (d : ℕ) → 0 < d → x ≤ℤ y → int_div_euclid x (pos d) ≤ℤ int_div_euclid y (pos d)
quotient-mono (pos a) (pos b) d some h = let e : a / d ≤ b / d = quotient_up a b d some (omega (arith, ints)) in omega (arith, ints)
quotient-mono (pos a) (negsuc b) d some h = absurd (omega (arith, ints))
quotient-mono (negsuc a) (pos b) d some h = omega (arith, ints)
quotient-mono (negsuc a) (negsuc b) d some h = let e : b / d ≤ a / d = quotient_up b a d some (omega (arith, ints)) in omega (arith, ints)
