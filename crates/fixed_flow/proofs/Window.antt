-- What the credit pays for in a run of seconds.
use Rattle.std.proofs.Common.{◌≡◌, ℕ, suc, ◌+◌, ◌-◌, ◌*◌, ◌/◌, ◌≤◌, List, [], ◌∷◌, ◌++◌, length, arith, lit<}
use Rattle.std.{proofs.Math.Nat.suc-mul, proofs.Math.Nat.mul-le-mul_right, proofs.lemmas.List.Sums.sum_by-cons, proofs.lemmas.Nat.le-div, specs.List.sum}
use Rattle.fixed_flow.proofs.Gains.{raised_within}
use Rattle.fixed_flow.specs.{Flow.full_credit, Flow.raised, Flow.spent, Flow.PaysFor, Flow.Flow, declared.TheConstants.VEHICLE_COST}

raised_most : (c x : ℕ) → raised c x ≤ x + c
unfolding raised
raised_most c x = grind arith

-- one second more
one_more : (k a c x r n : ℕ) → r ≤ x + c → k * VEHICLE_COST ≤ r → a * VEHICLE_COST ≤ n * c + (r - k * VEHICLE_COST)
    → (k + a) * VEHICLE_COST ≤ suc n * c + x
one_more k a c x r n gain pays later = rw suc-mul (omega arith)

-- what passes is paid from the credit at the start and the gains since
pub paid_most : (c x : ℕ) (passed : List ℕ) → PaysFor c x passed → sum passed * VEHICLE_COST ≤ length passed * c + x
unfolding PaysFor
paid_most c x [] h = grind arith
paid_most c x (k ∷ ks) h =
    let later : sum ks * VEHICLE_COST ≤ length ks * c + spent c k x = paid_most c (spent c k x) ks h.1 in
    rw (sum_by-cons (λ (a : ℕ). a) k ks) (one_more k (sum ks) c x (raised c x) (length ks) (raised_most c x) h.0 later)

-- after the seconds before it, a run of seconds starts from a credit that is at most full
pub from_within : (c x : ℕ) (before passed : List ℕ) → x ≤ full_credit c → PaysFor c x (before ++ passed)
    → (y : ℕ) × (y ≤ full_credit c) × PaysFor c y passed
unfolding PaysFor
from_within c x [] passed within h = (x, within, h)
from_within c x (k ∷ ks) passed within h =
    let top : raised c x ≤ full_credit c = raised_within c x in
    from_within c (spent c k x) ks passed (omega arith) h.1

pub window : (c n most : ℕ) → most ≡ (n * c + full_credit c) / VEHICLE_COST → Flow c n most
window c n most e credit before passed within pays short =
    let start : (y : ℕ) × (y ≤ full_credit c) × PaysFor c y passed = from_within c credit before passed within pays in
    let paid : sum passed * VEHICLE_COST ≤ length passed * c + start.0 = paid_most c start.0 passed start.2 in
    let gains : length passed * c ≤ n * c = mul-le-mul_right c short in
    rw e (le-div (sum passed) (n * c + full_credit c) VEHICLE_COST (lit< tt) (omega arith))
