use Rattle.std.proofs.Common.{ℕ, List, sym, subst}
use Rattle.std.proofs.lemmas.List.{Filters.dedup_is, Kept.Contains-dedup_nat, Kept.Contains-from_dedup, Sorted.Contains-permutation, Sorted.IsPermutation-sym}
use Rattle.std.{proofs.lemmas.Map.Keys.IsStrictlyIncreasing-dedup, specs.List.Contains, specs.List.Sorted.IsStrictlyIncreasing}
use Rattle.calendar.proofs.waking.ascending.Goals as goal

pub returns-clause-order : goal.returns-clause-order
returns-clause-order c =
    subst (λ (xs : List ℕ). IsStrictlyIncreasing xs) (sym (dedup_is _ _ _ c.dedup.ensures.filtered))
    (IsStrictlyIncreasing-dedup c.sort_unstable.new.self.items c.sort_unstable.ensures.sorted)

pub returns-clause-same : goal.returns-clause-same
returns-clause-same c =
    λ n h.
    subst (λ (xs : List ℕ). Contains xs n) (sym (dedup_is _ _ _ c.dedup.ensures.filtered))
    (Contains-dedup_nat c.sort_unstable.new.self.items n
    (Contains-permutation c.args.numbers.items c.sort_unstable.new.self.items n c.sort_unstable.ensures.permutation h))

pub returns-clause-no_more : goal.returns-clause-no_more
returns-clause-no_more c =
    λ n h.
    Contains-permutation c.sort_unstable.new.self.items c.args.numbers.items n
    (IsPermutation-sym c.args.numbers.items c.sort_unstable.new.self.items c.sort_unstable.ensures.permutation)
    (Contains-from_dedup _ c.sort_unstable.new.self.items n
    (subst (λ (xs : List ℕ). Contains xs n) (dedup_is _ _ _ c.dedup.ensures.filtered) h))
