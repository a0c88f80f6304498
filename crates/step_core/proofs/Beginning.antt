-- The lags from the neighbours of a partition, one after the other.
use Rattle.std.proofs.Common.{◌≡◌, ℕ, ◌+◌, ◌<◌, List, ◌∙◌, length, get_or, set, ap, sym, subst, arith}
use Rattle.std.proofs.lemmas.List.{get_or-set_same, get_or-set_other}
use mathlib.Core.Logic.{dite}
use native.Mathlib.Decide.{ℕ_discrete}
use Rattle.step_core.specs.{Exchanges.AreListed, Exchanges.neighbour_at, Exchanges.lag_at, declared.part.Border.Border}

-- one lag more
pub lag_more : (rows : List Border) (k : ℕ) (old new : List ℕ) → AreListed rows → length old ≡ 64 → k < length rows
    → ((j : ℕ) → j < k → get_or old (neighbour_at rows j) 0 ≡ lag_at rows j)
    → new ≡ set old (neighbour_at rows k) (lag_at rows k)
    → (j : ℕ) → j < k + 1 → get_or new (neighbour_at rows j) 0 ≡ lag_at rows j
lag_more rows k old new listed long lt each is j l =
    ap (λ (xs : List ℕ). get_or xs (neighbour_at rows j) 0) is
    ∙ dite (ℕ_discrete j k)
    (λ e. subst (λ (i : ℕ). get_or (set old (neighbour_at rows k) (lag_at rows k)) (neighbour_at rows i) 0 ≡ lag_at rows i) (sym e)
    (get_or-set_same old (neighbour_at rows k) (lag_at rows k) 0 (let few = listed.each k lt in omega arith)))
    (λ ne. get_or-set_other old (neighbour_at rows k) (neighbour_at rows j) (lag_at rows k) 0
    (λ e. absurd (let up = listed.ascend j k (omega arith) lt in omega arith)) ∙ each j (omega arith))
