-- The straight line between two points, rounded down.
use Rattle.std.proofs.Common.{◌≡◌, ℕ, suc, ◌+◌, ◌-◌, ◌*◌, ◌<◌, ◌≤◌, true, nat_le, int_le, ℤ, pos, negsuc, ◌+ℤ◌, ◌-ℤ◌, ◌*ℤ◌, ◌≤ℤ◌, neg_ℤ, FitsSigned, w64, to_z}
use Rattle.std.proofs.Common.{of_z, mul-le-mul_left, leb-true, ap, ◌∙◌, arith}
use Rattle.std.{proofs.lemmas.Bool.and_parts, proofs.lemmas.Int.ints, proofs.lemmas.Int.by_lt_z, specs.Int.int_div_euclid}
use Rattle.scoring.proofs.{Bounds.product-within, Bounds.code_same, Quotients.quotient-least, Quotients.quotient-most, Quotients.quotient-mono}
use Rattle.scoring.specs.{Points.Point, Points.is_point, Points.on_line, Ranges.is_within, Ranges.IsWithin}
use Rattle.scoring.specs.declared.TheConstants.{MAX_POINT_SECOND, MAX_WORTH}

-- a point is within the limits of a table
pub point-within : (p : Point) → is_point p ≡ true → IsWithin MAX_WORTH p.1
point-within p h =
    let g = and_parts (nat_le p.0 MAX_POINT_SECOND) (is_within MAX_WORTH p.1) h in
    let f = and_parts (int_le (neg_ℤ MAX_WORTH) p.1) (int_le p.1 MAX_WORTH) g.1 in
    let low = f.0 in let high = f.1 in (omega (arith, ints), omega (arith, ints))

-- what is added to the start of a line that does not fall lies between nothing and all that it rises
rise-between : (r : ℤ) (k d : ℕ) → 0 < d → k ≤ d → pos 0 ≤ℤ r
    → (pos 0 ≤ℤ int_div_euclid (r *ℤ pos k) (pos d)) × (int_div_euclid (r *ℤ pos k) (pos d) ≤ℤ r)
rise-between (pos n) k d some part up =
    let g : n * k ≤ n * d = mul-le-mul_left n part in
    (quotient-least (pos 0) (pos n *ℤ pos k) d some (omega (arith, ints)), quotient-most (pos n) (pos n *ℤ pos k) d some (omega (arith, ints)))
rise-between (negsuc n) k d some part up = absurd (omega (arith, ints))

-- and of one that does not rise between all that it falls and nothing
fall-between : (r : ℤ) (k d : ℕ) → 0 < d → k ≤ d → r ≤ℤ pos 0
    → (r ≤ℤ int_div_euclid (r *ℤ pos k) (pos d)) × (int_div_euclid (r *ℤ pos k) (pos d) ≤ℤ pos 0)
fall-between (pos n) k d some part down =
    let none : n ≡ 0 = omega (arith, ints) in
    (quotient-least (pos n) (pos n *ℤ pos k) d some (rw none (omega (arith, ints))), quotient-most (pos 0) (pos n *ℤ pos k) d some (rw none (omega (arith, ints))))
fall-between (negsuc n) k d some part down =
    let g : suc n * k ≤ suc n * d = mul-le-mul_left (suc n) part in
    (quotient-least (negsuc n) (negsuc n *ℤ pos k) d some (omega (arith, ints)), quotient-most (pos 0) (negsuc n *ℤ pos k) d some (omega (arith, ints)))

-- a line between two points stays where both are
pub on_line-between : (a b : Point) (s : ℕ) (low high : ℤ) → a.0 ≤ s → s < b.0
    → low ≤ℤ a.1 → a.1 ≤ℤ high → low ≤ℤ b.1 → b.1 ≤ℤ high → (low ≤ℤ on_line a b s) × (on_line a b s ≤ℤ high)
on_line-between a b s low high from to la ha lb hb =
    let some : 0 < b.0 - a.0 = omega arith in
    let part : s - a.0 ≤ b.0 - a.0 = omega arith in
    by_lt_z b.1 a.1
    (λ down. let g = fall-between (b.1 -ℤ a.1) (s - a.0) (b.0 - a.0) some part (omega (arith, ints)) in
    let g0 = g.0 in let g1 = g.1 in (omega (arith, ints), omega (arith, ints)))
    (λ up. let g = rise-between (b.1 -ℤ a.1) (s - a.0) (b.0 - a.0) some part (omega (arith, ints)) in
    let g0 = g.0 in let g1 = g.1 in (omega (arith, ints), omega (arith, ints)))

-- a part of what is not negative is no more than a larger part
part-mono : (r : ℤ) (k l : ℕ) → pos 0 ≤ℤ r → k ≤ l → (r *ℤ pos k) ≤ℤ (r *ℤ pos l)
part-mono (pos n) k l up later = let g : n * k ≤ n * l = mul-le-mul_left n later in omega (arith, ints)
part-mono (negsuc n) k l up later = absurd (omega (arith, ints))

-- a line that does not fall is nowhere lower at a later second
pub on_line-mono : (a b : Point) (s t : ℕ) → a.0 < b.0 → a.1 ≤ℤ b.1 → s ≤ t → on_line a b s ≤ℤ on_line a b t
on_line-mono a b s t apart up later =
    let some : 0 < b.0 - a.0 = omega arith in
    let more : s - a.0 ≤ t - a.0 = omega arith in
    let rising : pos 0 ≤ℤ (b.1 -ℤ a.1) = omega (arith, ints) in
    let g = quotient-mono ((b.1 -ℤ a.1) *ℤ pos (s - a.0)) ((b.1 -ℤ a.1) *ℤ pos (t - a.0)) (b.0 - a.0) some (part-mono (b.1 -ℤ a.1) (s - a.0) (t - a.0) rising more) in
    omega (arith, ints)

-- ---- what the code computes, where numbers go through 64 bits

-- the rise of a line
pub rise_same : (a b : Point) → is_point a ≡ true → is_point b ≡ true
    → to_z w64 (of_z w64 (to_z w64 (of_z w64 b.1) -ℤ to_z w64 (of_z w64 a.1))) ≡ b.1 -ℤ a.1
rise_same a b a_in b_in =
    let f = point-within a a_in in let f0 = f.0 in let f1 = f.1 in
    let g = point-within b b_in in let g0 = g.0 in let g1 = g.1 in
    omega (arith, ints)

-- seconds, none of which is beyond the last one of a table
pub seconds_same : (n : ℕ) (z : ℤ) → n ≤ 1000000 → z ≡ pos n → to_z w64 (of_z w64 z) ≡ pos n
seconds_same n z few e = ap (λ (x : ℤ). to_z w64 (of_z w64 x)) e ∙ code_same (pos n) (omega (arith, ints), omega (arith, ints))

-- the rise times the seconds of a part
product_in : (a b : Point) (k : ℕ) → is_point a ≡ true → is_point b ≡ true → k ≤ 1000000
    → IsWithin (pos 2000000000000000000) ((b.1 -ℤ a.1) *ℤ pos k)
product_in a b k a_in b_in few =
    let f = point-within a a_in in let f0 = f.0 in let f1 = f.1 in
    let g = point-within b b_in in let g0 = g.0 in let g1 = g.1 in
    product-within (b.1 -ℤ a.1) k 2000000000000 1000000 (omega (arith, ints), omega (arith, ints)) few

pub product_fits : (a b : Point) (k : ℕ) → is_point a ≡ true → is_point b ≡ true → k ≤ 1000000 → FitsSigned w64 ((b.1 -ℤ a.1) *ℤ pos k)
product_fits a b k a_in b_in few = let h = product_in a b k a_in b_in few in let h0 = h.0 in let h1 = h.1 in omega (arith, ints)

pub product_same : (a b : Point) (k : ℕ) → is_point a ≡ true → is_point b ≡ true → k ≤ 1000000
    → to_z w64 (of_z w64 ((b.1 -ℤ a.1) *ℤ pos k)) ≡ (b.1 -ℤ a.1) *ℤ pos k
product_same a b k a_in b_in few = code_same ((b.1 -ℤ a.1) *ℤ pos k) (product_in a b k a_in b_in few)

-- no second of a point is beyond the last one of a table
pub point_second : (p : Point) → is_point p ≡ true → p.0 ≤ 1000000
point_second p h = leb-true p.0 1000000 (and_parts (nat_le p.0 MAX_POINT_SECOND) (is_within MAX_WORTH p.1) h).0

line_in : (a b : Point) (s : ℕ) → is_point a ≡ true → is_point b ≡ true → a.0 ≤ s → s < b.0 → IsWithin MAX_WORTH (on_line a b s)
line_in a b s a_in b_in from to =
    let f = point-within a a_in in let g = point-within b b_in in
    on_line-between a b s (neg_ℤ MAX_WORTH) MAX_WORTH from to f.0 f.1 g.0 g.1

-- the start of a line and what is added to it
pub line_fits : (a b : Point) (s : ℕ) (q : ℤ) → is_point a ≡ true → is_point b ≡ true → a.0 ≤ s → s < b.0
    → q ≡ int_div_euclid ((b.1 -ℤ a.1) *ℤ pos (s - a.0)) (pos (b.0 - a.0)) → FitsSigned w64 (to_z w64 (of_z w64 a.1) +ℤ to_z w64 (of_z w64 q))
line_fits a b s q a_in b_in from to e =
    let f = point-within a a_in in let f0 = f.0 in let f1 = f.1 in
    let h = line_in a b s a_in b_in from to in let h0 = h.0 in let h1 = h.1 in
    omega (arith, ints)

pub line_same : (a b : Point) (s : ℕ) (q : ℤ) → is_point a ≡ true → is_point b ≡ true → a.0 ≤ s → s < b.0
    → q ≡ int_div_euclid ((b.1 -ℤ a.1) *ℤ pos (s - a.0)) (pos (b.0 - a.0)) → to_z w64 (of_z w64 (to_z w64 (of_z w64 a.1) +ℤ to_z w64 (of_z w64 q))) ≡ on_line a b s
line_same a b s q a_in b_in from to e =
    let f = point-within a a_in in let f0 = f.0 in let f1 = f.1 in
    let h = line_in a b s a_in b_in from to in let h0 = h.0 in let h1 = h.1 in
    omega (arith, ints)
