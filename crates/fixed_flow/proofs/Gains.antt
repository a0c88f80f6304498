-- The gains of many seconds are one gain, up to the full credit.
use Rattle.std.proofs.Common.{◌≡◌, ℕ, zero, suc, ◌+◌, ◌*◌, ◌<◌, ◌≤◌, min, arith, ap, refl, sym, ◌∙◌}
use Rattle.std.proofs.Math.Nat.{mul-suc}
use Rattle.fixed_flow.specs.Flow.{full_credit, raised, raised_times}

pub raised_within : (c x : ℕ) → raised c x ≤ full_credit c
unfolding raised
raised_within c x = grind arith

-- one gain after many
raised_more : (c x a : ℕ) → raised c (min (x + a) (full_credit c)) ≡ min (x + (a + c)) (full_credit c)
unfolding raised
raised_more c x a = grind arith

gains_suc : (c x n : ℕ) → raised_times c (suc n) x ≡ min (x + c * suc n) (full_credit c)
unfolding raised raised_times
gains_suc c x zero = grind arith
gains_suc c x (suc n) =
    ap (raised c) (gains_suc c x n) ∙ raised_more c x (c * suc n)
    ∙ ap (λ (a : ℕ). min (x + a) (full_credit c)) (sym (mul-suc c (suc n)))

pub gains_none : (c x n : ℕ) → n ≡ 0 → raised_times c n x ≡ x
unfolding raised_times
gains_none c x zero e = refl
gains_none c x (suc n) e = cc

pub gains_at_once : (c x n : ℕ) → 0 < n → raised_times c n x ≡ min (x + c * n) (full_credit c)
gains_at_once c x zero h = grind arith
gains_at_once c x (suc n) h = gains_suc c x n
