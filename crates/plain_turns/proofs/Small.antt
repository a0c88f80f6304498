-- Rows that change their stage stay small.
use Rattle.traffic.proofs.Common.{◌≡◌, ℕ, List, [], ◌∷◌, ◌++◌, inl, inr, cases_Bool, map, filter, nat_le, waiting}
use Rattle.traffic.specs.declared.world.Row.{Row}
use Rattle.plain_turns.specs.Limits.{AreSmall}

small_append : (xs ys : List Row) → AreSmall xs → AreSmall ys → AreSmall (xs ++ ys)
small_append [] ys h g = g
small_append (x ∷ xs) ys h g = (h.0, small_append xs ys h.1 g)

small_due : (t l : ℕ) (bay : List Row) → AreSmall bay → AreSmall (map (waiting l) (filter (λ (r : Row). nat_le r.second t) bay))
small_due t l [] h = tt
small_due t l (r ∷ rs) h = elim (cases_Bool (nat_le r.second t)) [ inl e ↦ simp e (h.0, small_due t l rs h.1) | inr e ↦ simp e (small_due t l rs h.1) ]

small_after : (t l : ℕ) (wait bay : List Row) → AreSmall wait → AreSmall bay → AreSmall (wait ++ map (waiting l) (filter (λ (r : Row). nat_le r.second t) bay))
small_after t l wait bay h g = small_append wait (map (waiting l) (filter (λ (r : Row). nat_le r.second t) bay)) h (small_due t l bay g)

pub small_at : (t l : ℕ) (wait bay after : List Row) → AreSmall wait → AreSmall bay → after ≡ wait ++ map (waiting l) (filter (λ (r : Row). nat_le r.second t) bay) → AreSmall after
small_at t l wait bay after h g e = rw e (small_after t l wait bay h g)
