-- What leads from one partition to a neighbour, and what parcels a partition is given.
use Rattle.traffic.proofs.Common.{◌≡◌, ◌≢◌, ℕ, ◌+◌, ◌-◌, ◌<◌, true, false, not, ◌∙◌, ap, refl, sym, arith, inl, inr, cases_Bool, and_parts, true≢false, eqb}
use Rattle.traffic.proofs.Common.{eqb-true, ne_eqb, length, nat_le, nat_tests, None, Some, Setup}
use Rattle.parts.specs.{Owners.Owner, Owners.owner_of, Owners.begins_in, Owners.crosses, Owners.leads, Owners.near, Owners.lag, Parts.out}
use Rattle.law_partitions.{proofs.Joined.near-self, proofs.Lags.in_range, specs.Alone.given}

-- a neighbour is another partition
pub other_of : (S : Setup) (own : Owner) (p q : ℕ) → near S own q p ≡ true → q ≢ p
other_of S own p q e same = true≢false (sym e ∙ ap (λ (x : ℕ). near S own x p) same ∙ near-self S own p)

-- link l is there, and leads from partition a to partition b, over a border
pub record LeadsOver (S : Setup) (own : Owner) (a b l : ℕ) : Type 0 where
  pub begins : begins_in S own l ≡ a
  pub ends : owner_of S own l ≡ b
  pub over : crosses S own l ≡ true
  pub there : l < length S.links

pub leads_over : (S : Setup) (own : Owner) (a b l : ℕ) → a ≢ b → leads S own a b l ≡ true → LeadsOver S own a b l
leads_over S own a b l ne e =
    let parts = and_parts (eqb (begins_in S own l) a) (eqb (owner_of S own l) b) e in
    let from : begins_in S own l ≡ a = eqb-true (begins_in S own l) a parts.0 in
    let to : owner_of S own l ≡ b = eqb-true (owner_of S own l) b parts.1 in
    let apart : eqb (begins_in S own l) (owner_of S own l) ≡ false
    = ne_eqb (begins_in S own l) (owner_of S own l) (λ z. ne (sym from ∙ z ∙ to)) in
    let c : crosses S own l ≡ true = ap not apart in
    record { begins = from; ends = to; over = c; there = in_range S own l c }

-- THE PARCELS
pub given_is : (S : Setup) (own : Owner) (p q s t : ℕ) → near S own q p ≡ true → t ≡ s + lag S own q p
    → given S own p t q ≡ Some (out S own q p s)
given_is S own p q s t e due =
    let le : nat_le (lag S own q p) t ≡ true = grind (arith, nat_tests) in
    let second : t - lag S own q p ≡ s = omega arith in
    rw (e, le) (ap (λ (u : ℕ). Some (out S own q p u)) second)

pub given_none : (S : Setup) (own : Owner) (p q t : ℕ) → t < lag S own q p → given S own p t q ≡ None
given_none S own p q t lt =
    let gt : nat_le (lag S own q p) t ≡ false = grind (arith, nat_tests) in
    elim (cases_Bool (near S own q p)) [ inl e ↦ rw (e, gt) refl | inr e ↦ rw e refl ]
