-- Shares of nodes: which place belongs to which partition.
use Rattle.std.proofs.Common.{◌≡◌, ℕ, ◌+◌, ◌-◌, ◌*◌, ◌/◌, ◌<◌, ◌≤◌, zero, suc, arith, ◌∙◌, ap, subst, mul_comm, le-div_iff_mul-le, div-lt_iff_lt-mul}
use Rattle.std.proofs.Common.{mul-div_cancel, mul-le-mul_right, zero-mul, suc-mul}
use Rattle.partition.specs.{Cuts.nodes_before, Halves.partition_at}

le_le : (x y z : ℕ) → x ≤ y → y ≤ z → x ≤ z
le_le x y z h g = omega arith

from_below : (i n : ℕ) → n < i + 1 → n ≤ i
from_below i n h = omega arith

pub shares_rise : (n k p q : ℕ) → 0 < k → p ≤ q → nodes_before n k p ≤ nodes_before n k q
shares_rise n k p q pos h =
    let a : p * n / k * k ≤ p * n = ((le-div_iff_mul-le {k = k} {x = p * n / k} {y = p * n} pos).0 (le_self (p * n / k))) in
    (le-div_iff_mul-le {k = k} {x = p * n / k} {y = q * n} pos).1 (le_le (p * n / k * k) (p * n) (q * n) a (mul-le-mul_right n h))
  where
    le_self : (x : ℕ) → x ≤ x
    le_self x = omega arith

pub no_share : (n k : ℕ) → 0 < k → nodes_before n k 0 ≡ 0
no_share n k pos =
    let z : 0 * n < 1 * k = (let a = zero-mul n in let b = one_times k in omega arith) in
    below_one (0 * n / k) ((div-lt_iff_lt-mul {k = k} {x = 0 * n} {y = 1} pos).1 z)
  where
    one_times : (x : ℕ) → 1 * x ≡ x
    one_times x = omega arith

    below_one : (x : ℕ) → x < 1 → x ≡ 0
    below_one x h = omega arith

pub all_shares : (n k : ℕ) → 0 < k → nodes_before n k k ≡ n
all_shares n k pos = ap (λ x. x / k) (mul_comm k n) ∙ mul-div_cancel n pos

-- the place belongs to p or a later partition
pub from_partition : (n k i p : ℕ) → 0 < n → 0 < k → p ≤ partition_at n k i → nodes_before n k p ≤ i
from_partition n k i p some pos h =
    let a : p * n ≤ (i + 1) * k - 1 = (le-div_iff_mul-le {k = n} {x = p} {y = (i + 1) * k - 1} some).0 h in
    let b : 0 < (i + 1) * k = grows i k pos in
    let c : p * n < (i + 1) * k = short (p * n) ((i + 1) * k) a b in
    from_below i (p * n / k) ((div-lt_iff_lt-mul {k = k} {x = p * n} {y = i + 1} pos).1 c)
  where
    grows : (x y : ℕ) → 0 < y → 0 < (x + 1) * y
    grows x y h = let e : (x + 1) * y ≡ x * y + y = grind arith in omega arith

    short : (x y : ℕ) → x ≤ y - 1 → 0 < y → x < y
    short x y h g = omega arith

-- the place belongs to a partition before p
pub before_partition : (n k i p : ℕ) → 0 < n → 0 < k → partition_at n k i < p → i < nodes_before n k p
before_partition n k i p some pos h =
    let a : (i + 1) * k - 1 < p * n = (div-lt_iff_lt-mul {k = n} {x = (i + 1) * k - 1} {y = p} some).0 h in
    let b : (i + 1) * k ≤ p * n = long ((i + 1) * k) (p * n) a in
    above i (p * n / k) ((le-div_iff_mul-le {k = k} {x = i + 1} {y = p * n} pos).1 b)
  where
    long : (x y : ℕ) → x - 1 < y → x ≤ y
    long x y h = omega arith

    above : (x y : ℕ) → x + 1 ≤ y → x < y
    above x y h = omega arith

-- each place belongs to one of them
pub some_partition : (n k i : ℕ) → 0 < k → i < n → partition_at n k i < k
some_partition n k i pos h =
    let a : (i + 1) * k ≤ n * k = mul-le-mul_right k (next i n h) in
    let b : 0 < n * k = (mul_pos n k (there i n h) pos) in
    let c : (i + 1) * k - 1 < k * n = subst (λ x. (i + 1) * k - 1 < x) (mul_comm n k) (less ((i + 1) * k) (n * k) a b) in
    (div-lt_iff_lt-mul {k = n} {x = (i + 1) * k - 1} {y = k} (there i n h)).1 c
  where
    next : (x y : ℕ) → x < y → x + 1 ≤ y
    next x y h = omega arith

    there : (x y : ℕ) → x < y → 0 < y
    there x y h = omega arith

    less : (x y : ℕ) → x ≤ y → 0 < y → x - 1 < y
    less x y h g = omega arith

    mul_pos : (x y : ℕ) → 0 < x → 0 < y → 0 < x * y
    mul_pos zero y h g = absurd (omega arith)
    mul_pos (suc x) y h g = let e = suc-mul x y in omega arith
