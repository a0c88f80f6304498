-- Partitions in a row are a net, and their neighbours are those of the net.
use Rattle.std.proofs.Common.{◌≡◌, ℕ, zero, suc, ◌+◌, ◌-◌, ◌*◌, ◌<◌, ◌≤◌, Bool, true, false, List, [], ◌∷◌, ◌++◌, length, ◌==◌, ◌&&◌, nat_lt, if◌then◌else◌}
use Rattle.std.proofs.Common.{sym, ap, ◌∙◌, refl, subst, inl, inr, ⊎_elim, ◌⊎◌, arith, Some, None}
use Rattle.std.{proofs.Math.Nat.mod-lt, proofs.lemmas.Bool.Decides.nat_tests, specs.Option.option_to_list}
use mathlib.Core.Logic.{dite}
use native.Mathlib.Decide.{dec_lt}
use Rattle.step_core.specs.{Nets.IsNet, Nets.AreBorders, Nets.border_at, declared.part.Border.Border}
use Rattle.step_tests.specs.Rows.{IsRow, near_in, lag_in, net_of, border_from, neighbours}

near_true : (count q p : ℕ) → near_in count q p ≡ true → ((q - p) + (p - q) ≡ 1) × (q + p < 2 * count - 1)
near_true count q p h = grind (arith, nat_tests)

near_is : (count q p : ℕ) → (q - p) + (p - q) ≡ 1 → q + p < 2 * count - 1 → near_in count q p ≡ true
near_is count q p e lt = grind (arith, nat_tests)

near_not : (count q p : ℕ) → (near_in count q p ≡ true → ⊥) → near_in count q p ≡ false
near_not count q p away = by_bool (near_in count q p) away
  where
    by_bool : (x : Bool) → (x ≡ true → ⊥) → x ≡ false
    by_bool true away = absurd (away refl)
    by_bool false away = refl

pub net_is : (count longest end : ℕ) → IsRow count longest end → IsNet (net_of count longest end)
net_is count longest end is = record {
  few = is.few;
  short = is.short;
  there = λ q p h. let n = near_true count q p h in let e = n.0 in let lt = n.1 in ((omega arith), (omega arith));
  others = λ p. near_not count p p (λ h. let e = (near_true count p p h).0 in absurd (omega arith));
  both = λ q p.
      let e : (q - p) + (p - q) ≡ (p - q) + (q - p) = omega arith in
      let f : q + p ≡ p + q = omega arith in
      ap (λ z. (z == 1) && nat_lt (q + p) (2 * count - 1)) e ∙ ap (λ z. ((p - q) + (q - p) == 1) && nat_lt z (2 * count - 1)) f;
  some = λ q p h. omega arith;
  most = λ q p h. let some = is.some in let most = is.most in let m = mod-lt (3 * q + p) {m = longest} (omega arith) in omega arith;
}

one_each : (F : Border → Type 0) (a : Border) → F a → (k : ℕ) → k < 1 → F (border_at (a ∷ []) k)
one_each F a h zero lt = h
one_each F a h (suc k) lt = absurd (omega arith)

two_each : (F : Border → Type 0) (a b : Border) → F a → F b → (k : ℕ) → k < 2 → F (border_at (a ∷ b ∷ []) k)
two_each F a b ha hb zero lt = ha
two_each F a b ha hb (suc zero) lt = hb
two_each F a b ha hb (suc (suc k)) lt = absurd (omega arith)

module _ (count longest end : ℕ) (is : IsRow count longest end) (p : ℕ) (there : p < count) where
  abbrev rows : Bool → Bool → List Border
  rows x y = option_to_list (if x then Some (border_from longest (p - 1) p) else None)
      ++ option_to_list (if y then Some (border_from longest (p + 1) p) else None)

  abbrev Near : Border → Type 0
  Near r = near_in count r.neighbour p ≡ true

  abbrev Lag : Border → Type 0
  Lag r = r.lag ≡ lag_in longest r.neighbour p

  near_left : 0 < p → near_in count (p - 1) p ≡ true
  near_left lt = near_is count (p - 1) p (omega arith) (omega arith)

  near_right : p + 1 < count → near_in count (p + 1) p ≡ true
  near_right lt = near_is count (p + 1) p (omega arith) (omega arith)

  -- a neighbour is the one before or the one behind
  beside : (q : ℕ) → near_in count q p ≡ true → (q ≡ p - 1) × (0 < p) ⊎ (q ≡ p + 1) × (p + 1 < count)
  beside q h = let n = near_true count q p h in let e = n.0 in let lt = n.1 in dite (dec_lt q p)
      (λ l. inl ((omega arith), (omega arith)))
      (λ ge. inr ((omega arith), (omega arith)))

  are : (x y : Bool) → (x ≡ true → 0 < p) → (x ≡ false → p ≡ 0) → (y ≡ true → p + 1 < count)
      → (y ≡ false → count ≤ p + 1)
      → AreBorders (net_of count longest end) p (rows x y)
  are true true a na b nb = record {
    each = two_each Near (border_from longest (p - 1) p) (border_from longest (p + 1) p) (near_left (a refl)) (near_right (b refl));
    lags = two_each Lag (border_from longest (p - 1) p) (border_from longest (p + 1) p) refl refl;
    all = λ q h. ⊎_elim (λ e. (0, (omega arith), sym e.0)) (λ e. (1, (omega arith), sym e.0)) (beside q h);
    ascend = λ j k lt lk. let ej : j ≡ 0 = omega arith in let ek : k ≡ 1 = omega arith in
        subst (λ z. (border_at (rows true true) z).neighbour < (border_at (rows true true) k).neighbour) (sym ej)
        (subst (λ z. p - 1 < (border_at (rows true true) z).neighbour) (sym ek) (let l = a refl in omega arith));
  }
  are true false a na b nb = record {
    each = one_each Near (border_from longest (p - 1) p) (near_left (a refl));
    lags = one_each Lag (border_from longest (p - 1) p) refl;
    all = λ q h. ⊎_elim (λ e. (0, (omega arith), sym e.0)) (λ e. let l = e.1 in let n = nb refl in absurd (omega arith)) (beside q h);
    ascend = λ j k lt lk. absurd (omega arith);
  }
  are false true a na b nb = record {
    each = one_each Near (border_from longest (p + 1) p) (near_right (b refl));
    lags = one_each Lag (border_from longest (p + 1) p) refl;
    all = λ q h. ⊎_elim (λ e. let l = e.1 in let n = na refl in absurd (omega arith)) (λ e. (0, (omega arith), sym e.0)) (beside q h);
    ascend = λ j k lt lk. absurd (omega arith);
  }
  are false false a na b nb = record {
    each = λ k lt. absurd (omega arith);
    lags = λ k lt. absurd (omega arith);
    all = λ q h. absurd (⊎_elim (λ e. let l = e.1 in let n = na refl in omega arith)
        (λ e. let l = e.1 in let n = nb refl in omega arith) (beside q h));
    ascend = λ j k lt lk. absurd (omega arith);
  }

  pub borders_are : AreBorders (net_of count longest end) p (neighbours count longest p)
  borders_are = are (nat_lt 0 p) (nat_lt (p + 1) count) (λ h. grind (arith, nat_tests)) (λ h. grind (arith, nat_tests))
      (λ h. grind (arith, nat_tests)) (λ h. grind (arith, nat_tests))

  pub all_few : (k : ℕ) → k < length (neighbours count longest p) → (border_at (neighbours count longest p) k).neighbour < 64
  all_few k lt = let n = near_true count (border_at (neighbours count longest p) k).neighbour p (borders_are.each k lt) in
      let e = n.0 in let l = n.1 in let few = is.few in omega arith
