-- Arcs that meet have a second in common.
use Rattle.std.proofs.Common.{◌≡◌, ℕ, ◌+◌, ◌-◌, ◌*◌, ◌/◌, ◌<◌, ◌≤◌, refl, sym, ◌∙◌, ap, arith, inl, inr, true, ◌&&◌, ◌||◌}
use Rattle.std.proofs.Math.Nat.{div-add-mod, add-mul-mod_self_left, mod-add-mod, mod-eq_of_lt}
use Rattle.std.proofs.lemmas.Bool.{cases_lt, and_parts, and_from, or_cases, or_left, or_right, lt-ltb, ltb-true, le-leb, lt-leb, Decides.nat_tests}
use Rattle.std.{proofs.lemmas.Nat.mod_below, specs.Prelude.◌%◌, specs.Prelude.nat_lt}
use Rattle.signals.{proofs.Numbers.without_both, proofs.Numbers.around, specs.Arcs.seconds_to, specs.Arcs.meet, specs.declared.arcs.Arc.Arc}

-- so many seconds from a on, on a circle of g
abbrev pub arc : ℕ → ℕ → ℕ → Arc
arc g a m = record { start = a % g; seconds = m }

below_circle : (g x y : ℕ) → x < g → y < g → seconds_to g x y < g
below_circle g x y less also = grind (arith, nat_tests)

once_round : (g x y s : ℕ) → y < g → s < g → x + s ≡ y + g → seconds_to g x y ≤ s
once_round g x y s less few is = grind (arith, nat_tests)

straight_on : (g x y s : ℕ) → x + s ≡ y → seconds_to g x y ≤ s
straight_on g x y s is = grind (arith, nat_tests)

-- no fewer seconds lead there
least_seconds : (g x y s : ℕ) → x < g → y < g → (x + s) % g ≡ y → seconds_to g x y ≤ s
least_seconds g x y s less also is =
    elim (cases_lt s g) [
      | inl few ↦ elim (around g x y s less few is) [ inl e ↦ straight_on g x y s e | inr e ↦ once_round g x y s also few e ]
      | inr many ↦ let k = below_circle g x y less also in omega (arith, k, many)
    ]

-- and so many do
leads_there : (g a y : ℕ) → 0 < g → y < g → (a + seconds_to g (a % g) y) % g ≡ y
leads_there g a y some less =
    let x = a % g in
    let n = a / g in
    let below : x < g = mod_below a g some in
    let whole : g * n + x ≡ a = div-add-mod a g in
    elim (cases_lt y x) [
      | inl before ↦
          let far : seconds_to g x y ≡ y + g - x = rw (lt-leb x y before) refl in
          let e : a + (y + g - x) ≡ y + g * (n + 1) = omega (arith, whole, below, before) in
          ap (λ (s : ℕ). (a + s) % g) far ∙ ap (λ (i : ℕ). i % g) e ∙ add-mul-mod_self_left y g (n + 1) ∙ mod-eq_of_lt less
      | inr behind ↦
          let near : seconds_to g x y ≡ y - x = rw (le-leb x y behind) refl in
          let e : a + (y - x) ≡ y + g * n = omega (arith, whole, behind) in
          ap (λ (s : ℕ). (a + s) % g) near ∙ ap (λ (i : ℕ). i % g) e ∙ add-mul-mod_self_left y g n ∙ mod-eq_of_lt less
    ]

-- the arc reaches where the other one begins
reached : (g a b m i j : ℕ) → 0 < g → i < m → j ≤ i → (a + i) % g ≡ (b + j) % g → seconds_to g (a % g) (b % g) < m
reached g a b m i j some less le same =
    let s = i - j in
    let e : a + s + j ≡ a + i = omega (arith, le) in
    let far : (a + s) % g ≡ b % g = without_both g (a + s) b j (ap (λ (n : ℕ). n % g) e ∙ same) in
    let k = least_seconds g (a % g) (b % g) s (mod_below a g some) (mod_below b g some) (mod-add-mod a g s ∙ far) in
    omega (arith, k, less)

-- two arcs with a second in common meet
pub meet_where : (g a m b n i j : ℕ) → 0 < g → i < m → j < n → (a + i) % g ≡ (b + j) % g → meet g (arc g a m) (arc g b n) ≡ true
unfolding meet
meet_where g a m b n i j some in_first in_second same =
    let first : nat_lt 0 m ≡ true = lt-ltb 0 m (omega arith) in
    let second : nat_lt 0 n ≡ true = lt-ltb 0 n (omega arith) in
    let near : (nat_lt (seconds_to g (a % g) (b % g)) m || nat_lt (seconds_to g (b % g) (a % g)) n) ≡ true =
    elim (cases_lt i j) [
      | inl before ↦ or_right _ _ (lt-ltb _ n (reached g b a n j i some in_second (omega arith) (sym same)))
      | inr behind ↦ or_left _ _ (lt-ltb _ m (reached g a b m i j some in_first behind same))
    ] in
    and_from _ _ (and_from _ _ first second) near

-- a second that two arcs have in common
pub record HaveInCommon (g a m b n : ℕ) : Type 0 where
  pub i : ℕ
  pub j : ℕ
  pub in_first : i < m
  pub in_second : j < n
  pub same : (a + i) % g ≡ (b + j) % g

-- and those that meet have one
pub meet_there : (g a m b n : ℕ) → 0 < g → meet g (arc g a m) (arc g b n) ≡ true → HaveInCommon g a m b n
unfolding meet
meet_there g a m b n some h =
    let parts = and_parts (nat_lt 0 m && nat_lt 0 n) _ h in
    let both = and_parts (nat_lt 0 m) (nat_lt 0 n) parts.0 in
    let first = ltb-true 0 m both.0 in
    let second = ltb-true 0 n both.1 in
    let a_is : a ≡ a + 0 = omega arith in
    let b_is : b ≡ b + 0 = omega arith in
    elim (or_cases (nat_lt (seconds_to g (a % g) (b % g)) m) (nat_lt (seconds_to g (b % g) (a % g)) n) parts.1) [
      | inl e ↦
          let k = ltb-true (seconds_to g (a % g) (b % g)) m e in
          record { i = seconds_to g (a % g) (b % g); j = 0; in_first = k; in_second = second; same = leads_there g a (b % g) some (mod_below b g some) ∙ ap (λ (n : ℕ). n % g) b_is }
      | inr e ↦
          let k = ltb-true (seconds_to g (b % g) (a % g)) n e in
          record { i = 0; j = seconds_to g (b % g) (a % g); in_first = first; in_second = k; same = sym (leads_there g b (a % g) some (mod_below a g some) ∙ ap (λ (n : ℕ). n % g) a_is) }
    ]
