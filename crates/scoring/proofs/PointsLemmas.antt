-- The value of a table along its points.
use Rattle.std.proofs.Common.{◌≡◌, ℕ, ◌+◌, ◌-◌, ◌<◌, ◌≤◌, inl, inr, true, nat_lt, List, [], ◌∷◌, zero, suc, length, get_or, take, drop, to_z, of_z, w64, neg_ℤ}
use Rattle.std.proofs.Common.{refl, sym, ◌∙◌, le-leb, lt-ltb, le-ltb, ltb-true, add-one, drop-cons, drop_of_length-le, take_all, arith}
use Rattle.std.{proofs.lemmas.Bool.and_parts, proofs.lemmas.Bool.cases_lt, proofs.lemmas.Bool.lt-leb, proofs.lemmas.Int.ints, specs.List.list_all}
use Rattle.scoring.{proofs.Bounds.code_same, proofs.Lines.point-within, proofs.Lines.on_line-between, specs.Points.Point, specs.Points.is_point}
use Rattle.scoring.specs.{Points.are_rising, Points.up_to, Points.on_line, Points.value, Points.along, Ranges.IsWithin, declared.TheConstants.MAX_WORTH}

-- the first two points of a table, and those behind the first
pub rising_tail : (a b : Point) (points : List Point) → are_rising (a ∷ b ∷ points) ≡ true → (a.0 < b.0) × (are_rising (b ∷ points) ≡ true)
rising_tail a b points h = let g = and_parts (nat_lt a.0 b.0) (are_rising (b ∷ points)) h in (ltb-true a.0 b.0 g.0, g.1)

-- before its first point a table has no point up to a second
none_up_to : (s : ℕ) (b : Point) (points : List Point) → are_rising (b ∷ points) ≡ true → s < b.0 → up_to s (b ∷ points) ≡ []
none_up_to s b [] rising before = rw (lt-leb b.0 s before)
none_up_to s b (c ∷ points) rising before =
    let g = rising_tail b c points rising in
    let later : s < c.0 = omega arith in
    rw (lt-leb b.0 s before) (none_up_to s c points g.1 later)

-- and none of its points lies behind
pub value-before : (a : Point) (points : List Point) (s : ℕ) → are_rising (a ∷ points) ≡ true → s < a.0 → value (a ∷ points) s ≡ a.1
unfolding value
value-before a points s rising before = rw (none_up_to s a points rising before, lt-ltb s a.0 before)

-- a point before one that is reached does not matter
pub value-skip : (a b : Point) (points : List Point) (s : ℕ) → a.0 ≤ s → b.0 ≤ s → value (a ∷ b ∷ points) s ≡ value (b ∷ points) s
unfolding value
value-skip a b points s here after = rw (le-leb a.0 s here, le-ltb s a.0 here, le-leb b.0 s after, le-ltb s b.0 after)

-- from its first point on the value goes by the points behind it
pub value-along : (a : Point) (points : List Point) (s : ℕ) → are_rising (a ∷ points) ≡ true → a.0 ≤ s → value (a ∷ points) s ≡ along a points s
unfolding value along
value-along a [] s rising here = rw (le-leb a.0 s here, le-ltb s a.0 here)
value-along a (b ∷ points) s rising here =
    let g = rising_tail a b points rising in
    elim (cases_lt s b.0) [
      | inl before ↦ rw (le-leb a.0 s here, le-ltb s a.0 here, none_up_to s b points g.1 before, lt-ltb s b.0 before)
      | inr after ↦ value-skip a b points s here after ∙ value-along b points s g.1 after ∙ rw (le-ltb s b.0 after)
    ]

-- the height of each point is within the limit of a table, so the value is
pub along-within : (a : Point) (points : List Point) (s : ℕ) → list_all is_point (a ∷ points) ≡ true → are_rising (a ∷ points) ≡ true → a.0 ≤ s → IsWithin MAX_WORTH (along a points s)
unfolding along
along-within a [] s all rising here = point-within a (and_parts (is_point a) true all).0
along-within a (b ∷ points) s all rising here =
    let g = rising_tail a b points rising in
    let f = and_parts (is_point a) (list_all is_point (b ∷ points)) all in
    let e = and_parts (is_point b) (list_all is_point points) f.1 in
    elim (cases_lt s b.0) [
      | inl before ↦ rw (lt-ltb s b.0 before) (
          let l = point-within a f.0 in let r = point-within b e.0 in
          on_line-between a b s (neg_ℤ MAX_WORTH) MAX_WORTH here before l.0 l.1 r.0 r.1)
      | inr after ↦ rw (le-ltb s b.0 after) (along-within b points s f.1 g.1 after)
    ]

pub value-within : (points : List Point) (s : ℕ) → 1 ≤ length points → list_all is_point points ≡ true → are_rising points ≡ true → IsWithin MAX_WORTH (value points s)
value-within [] s some all rising = absurd (omega arith)
value-within (a ∷ points) s some all rising =
    let f = and_parts (is_point a) (list_all is_point points) all in
    elim (cases_lt s a.0) [
      | inl before ↦ rw (value-before a points s rising before) (point-within a f.0)
      | inr here ↦ rw (value-along a points s rising here) (along-within a points s all rising here)
    ]

-- ---- along a slice of points, by places

-- each point of a table passes its test
all_at : (points : List Point) (i : ℕ) (d : Point) → list_all is_point points ≡ true → i < length points → is_point (get_or points i d) ≡ true
all_at [] i d all few = absurd (omega arith)
all_at (a ∷ points) zero d all few = (and_parts (is_point a) (list_all is_point points) all).0
all_at (a ∷ points) (suc i) d all few = all_at points i d (and_parts (is_point a) (list_all is_point points) all).1 (omega arith)

pub point_at : (points : List Point) (i : ℕ) (d : Point) → list_all is_point points ≡ true → i < length points → is_point (get_or points i d) ≡ true
point_at points i d all few = all_at points i d all few

pub along-stop : (a : Point) (later : List Point) (i s : ℕ) (d : Point) → i < length later → s < (get_or later i d).0
    → along a (drop i later) s ≡ on_line a (get_or later i d) s
unfolding along
along-stop a later i s d few before = rw (drop-cons later i d, lt-ltb s (get_or later i d).0 before)

pub along-go : (a : Point) (later : List Point) (i s : ℕ) (d : Point) → i < length later → (get_or later i d).0 ≤ s
    → along a (drop i later) s ≡ along (get_or later i d) (drop (i + 1) later) s
unfolding along
along-go a later i s d few after = rw (add-one, drop-cons later i d, le-ltb s (get_or later i d).0 after)

pub along-end : (a : Point) (later : List Point) (i s : ℕ) → length later ≤ i → along a (drop i later) s ≡ a.1
unfolding along
along-end a later i s done = rw (drop_of_length-le later done)

-- ---- a table by its first point and the others

pub others_are : (points : List Point) → take (length points - 1) (drop 1 points) ≡ drop 1 points
others_are [] = refl
others_are (a ∷ points) = take_all (length (a ∷ points) - 1) points (omega arith)

pub others_in : (points : List Point) → list_all is_point points ≡ true → list_all is_point (take (length points - 1) (drop 1 points)) ≡ true
others_in [] all = refl
others_in (a ∷ points) all = rw (others_are (a ∷ points)) ((and_parts (is_point a) (list_all is_point points) all).1)

pub before_first : (points : List Point) (d : Point) (s : ℕ) → 1 ≤ length points → list_all is_point points ≡ true → are_rising points ≡ true → s < (get_or points 0 d).0
    → to_z w64 (of_z w64 (get_or points 0 d).1) ≡ value points s
before_first [] d s some all rising before = absurd (omega arith)
before_first (a ∷ points) d s some all rising before =
    let f = point-within a (and_parts (is_point a) (list_all is_point points) all).0 in let f0 = f.0 in let f1 = f.1 in
    code_same a.1 (omega (arith, ints), omega (arith, ints)) ∙ sym (value-before a points s rising before)

pub from_first : (points : List Point) (d : Point) (s : ℕ) → 1 ≤ length points → are_rising points ≡ true → (get_or points 0 d).0 ≤ s
    → along (get_or points 0 d) (take (length points - 1) (drop 1 points)) s ≡ value points s
from_first [] d s some rising after = absurd (omega arith)
from_first (a ∷ points) d s some rising after = rw (others_are (a ∷ points)) (sym (value-along a points s rising after))
