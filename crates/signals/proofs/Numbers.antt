-- What two cycles leave over of their greatest common divisor.
use Rattle.std.proofs.Common.{◌≡◌, ℕ, ◌+◌, ◌-◌, ◌*◌, ◌/◌, ◌<◌, ◌≤◌, refl, sym, ◌∙◌, ap, arith, inl, inr, ◌⊎◌}
use Rattle.std.proofs.Math.Nat.{div-add-mod, add-mul-mod_self_left, mod-add-mod, add-mod_right, mod-eq_of_lt, mod-eq-sub-mod, mod-mod_of_dvd}
use Rattle.std.{proofs.lemmas.Bool.cases_lt, specs.Int.IsGcd, specs.Prelude.◌%◌}
use Rattle.signals.specs.Arcs.{IsOver, IsBetween}

-- A STEP OF EUCLID'S
step : (a b u v x y k r p q : ℕ) → a * u ≡ b * v + x → x ≡ y * k + r → b * p ≡ a * q + y → a * (u + q * k) ≡ b * (v + p * k) + r
step a b u v x y k r p q h e g = let m : b * p * k ≡ (a * q + y) * k = ap (λ (n : ℕ). n * k) g in omega (arith, h, e, m)

over_rest : (a b x y : ℕ) → IsOver a b x → IsOver b a y → IsOver a b (x % y)
over_rest a b x y (u, v, h) (p, q, g) = (u + q * (x / y), v + p * (x / y), step a b u v x y (x / y) (x % y) p q h (sym (div-add-mod x y)) g)

-- what the division leaves over lies between the cycles, as both of its numbers do
pub between_rest : (a b x y : ℕ) → IsBetween a b x → IsBetween a b y → IsBetween a b (x % y)
between_rest a b x y h g = record { first = over_rest a b x y h.first g.second; second = over_rest b a x y h.second g.first }

turned : (a b n : ℕ) → b ≡ n + 1 → b * a ≡ a * n + a
turned a b n is = let m : b * a ≡ (n + 1) * a = ap (λ (i : ℕ). i * a) is in omega (arith, m)

first_is : (a b : ℕ) → 0 < b → IsOver b a a
first_is a b some = (a, b - 1, turned a b (b - 1) (omega (arith, some)))

-- each cycle does
pub between_first : (a b : ℕ) → 0 < b → IsBetween a b a
between_first a b some = record { first = (1, 0, omega arith); second = first_is a b some }

pub between_second : (a b : ℕ) → 0 < a → IsBetween a b b
between_second a b some = record { first = first_is b a some; second = (1, 0, omega arith) }

-- SECONDS THAT LEAVE THE SAME OVER
along : (p q g x y k u v : ℕ) → y ≡ x + g * k → p * u ≡ q * v + g → x + p * (u * k) ≡ y + q * (v * k)
along p q g x y k u v h e = let m : p * u * k ≡ (q * v + g) * k = ap (λ (n : ℕ). n * k) e in omega (arith, h, m)

farther : (g a b k x y r : ℕ) → g * a + r ≡ x → g * b + r ≡ y → b ≡ a + k → y ≡ x + g * k
farther g a b k x y r h e n = let m : g * b ≡ g * (a + k) = ap (λ (i : ℕ). g * i) n in omega (arith, h, e, m)

gap_is : (g x y : ℕ) → x % g ≡ y % g → x / g ≤ y / g → y ≡ x + g * (y / g - x / g)
gap_is g x y same le =
    let h : g * (x / g) + y % g ≡ x = ap (λ (n : ℕ). g * (x / g) + n) (sym same) ∙ div-add-mod x g in
    farther g (x / g) (y / g) (y / g - x / g) x y (y % g) h (div-add-mod y g) (omega arith)

-- A second that is so many cycles behind the one and behind the other.
pub record IsBehindBoth (p q x y t : ℕ) : Type 0 where
  pub i : ℕ
  pub j : ℕ
  pub first : t ≡ x + p * i
  pub second : t ≡ y + q * j

-- there is one, where both leave the same over
pub behind_both : (p q g x y : ℕ) → IsBetween p q g → x % g ≡ y % g → (t : ℕ) × IsBehindBoth p q x y t
behind_both p q g x y between same =
    elim (cases_lt (y / g) (x / g)) [
      | inl later ↦
          let k = x / g - y / g in
          let (u, v, e) = between.second in
          (y + q * (u * k), record { i = v * k; j = u * k; first = along q p g y x k u v (gap_is g y x (sym same) (omega arith)) e; second = refl })
      | inr earlier ↦
          let k = y / g - x / g in
          let (u, v, e) = between.first in
          (x + p * (u * k), record { i = u * k; j = v * k; first = refl; second = along p q g x y k u v (gap_is g x y same earlier) e })
    ]

-- THE SECOND OF A CYCLE
-- the second of the cycle that it is, so many cycles behind it
pub place_is : (c o p i t : ℕ) → p < c → o < c → t ≡ p + o + c * i → (t + c - o) % c ≡ p
place_is c o p i t less below is =
    let e : t + c - o ≡ p + c * (i + 1) = omega (arith, is) in ap (λ (n : ℕ). n % c) e ∙ add-mul-mod_self_left p c (i + 1) ∙ mod-eq_of_lt less

-- and back
place_back : (c o t : ℕ) → o < c → ((t + c - o) % c + o) % c ≡ t % c
place_back c o t below =
    let e : t + c - o + o ≡ t + c = omega arith in mod-add-mod (t + c - o) c o ∙ ap (λ (n : ℕ). n % c) e ∙ add-mod_right t c

pub same_over : (c d g o t : ℕ) → IsGcd c d g → o < c → ((t + c - o) % c + o) % g ≡ t % g
same_over c d g o t divisor below =
    let a = (t + c - o) % c + o in
    sym (mod-mod_of_dvd g a divisor.0) ∙ ap (λ (n : ℕ). n % g) (place_back c o t below) ∙ mod-mod_of_dvd g t divisor.0

-- after whole cycles it is the same
pub place_again : (c d o t : ℕ) → o < c → (t % (c * d) + c - o) % c ≡ (t + c - o) % c
place_again c d o t below =
    let r = t % (c * d) in
    let n = d * (t / (c * d)) in
    let whole : c * d * (t / (c * d)) + r ≡ t = div-add-mod t (c * d) in
    let e : t + c - o ≡ (r + c - o) + c * n = omega (arith, whole) in
    sym (ap (λ (m : ℕ). m % c) e ∙ add-mul-mod_self_left (r + c - o) c n)

-- ROUND A CIRCLE
-- equal seconds may be left out
pub without_both : (g a b j : ℕ) → (a + j) % g ≡ (b + j) % g → a % g ≡ b % g
without_both g a b j same =
    let m = (a + j) / g in
    let n = (b + j) / g in
    let h : g * m + (b + j) % g ≡ a + j = ap (λ (r : ℕ). g * m + r) (sym same) ∙ div-add-mod (a + j) g in
    let e : g * n + (b + j) % g ≡ b + j = div-add-mod (b + j) g in
    let sum : a + g * n ≡ b + g * m = omega (arith, h, e) in
    sym (add-mul-mod_self_left a g n) ∙ ap (λ (i : ℕ). i % g) sum ∙ add-mul-mod_self_left b g m

-- what is reached after s seconds is there, or one time round
pub around : (g x y s : ℕ) → x < g → s < g → (x + s) % g ≡ y → (x + s ≡ y) ⊎ (x + s ≡ y + g)
around g x y s less few is =
    elim (cases_lt (x + s) g) [
      | inl below ↦ inl (sym (mod-eq_of_lt below) ∙ is)
      | inr beyond ↦
          let rest : x + s - g < g = omega arith in
          let e : y ≡ x + s - g = sym is ∙ mod-eq-sub-mod beyond ∙ mod-eq_of_lt rest in
          inr (omega (arith, e))
    ]
