-- Numbers from one on, in two pieces.
use Rattle.std.proofs.Common.{◌≡◌, ℕ, zero, suc, ◌+◌, ◌-◌, ◌<◌, [], ◌∷◌, ◌++◌, arith, ◌∙◌, ap}
use Rattle.traffic.specs.Lists.{below, numbers}

split : (k m n : ℕ) → numbers k (m + n) ≡ numbers k m ++ numbers (k + m) n
split k zero n =
    let e : 0 + n ≡ n = omega arith in
    let f : k ≡ k + 0 = omega arith in
    ap (numbers k) e ∙ ap (λ j. numbers j n) f
split k (suc m) n =
    let e : suc m + n ≡ suc (m + n) = omega arith in
    let f : k + 1 + m ≡ k + suc m = omega arith in
    ap (numbers k) e ∙ ap (λ ns. k ∷ ns) (split (k + 1) m n ∙ ap (λ j. numbers (k + 1) m ++ numbers j n) f)

-- those below p, p, and those above it
pub parted : (p n : ℕ) → p < n → below n ≡ numbers 0 p ++ (p ∷ numbers (p + 1) (n - (p + 1)))
parted p n lt =
    let rest = n - (p + 1) in
    let e : n ≡ p + suc rest = omega arith in
    let f : 0 + p ≡ p = omega arith in
    ap (numbers 0) e ∙ split 0 p (suc rest) ∙ ap (λ j. numbers 0 p ++ numbers j (suc rest)) f

pub below_more : (n : ℕ) → below (n + 1) ≡ below n ++ n ∷ []
below_more n = let e : 0 + n ≡ n = omega arith in split 0 n 1 ∙ ap (λ j. below n ++ numbers j 1) e
