-- Which strategies a word can pick.
use Rattle.std.proofs.Common.{◌≡◌, ◌≢◌, ℕ, suc, ◌+◌, ◌<◌, Bool, true, false, if◌then◌else◌, [], ◌∷◌, sum, refl, arith, add-zero}
use Rattle.std.{proofs.lemmas.Bool.Decides.nat_tests, specs.Prelude.nat_eq, specs.Prelude.nat_lt, specs.Prelude.slice_index_or}
use Rattle.draws.specs.Choices.{below, running_sums, first_above, pick}
use Rattle.learning.specs.Strategies.{innovating, weights_in, strategy_of, HaveNoOtherWeight}
use Rattle.learning.specs.declared.{settings.Learning.Learning, strategies.Strategy.Strategy, strategies.TheConstants.STRATEGIES}
use Rattle.learning.specs.declared.strategies.Strategy.TheVariants as strategy

-- no strategy that makes new plans has a weight after the last iteration of innovation
no_weight : (learning : Learning) (iteration weight : ℕ) → learning.innovation_last < iteration → innovating learning iteration weight ≡ 0
no_weight learning iteration weight after = grind (arith, nat_tests)

-- the first of six tests that holds, where the last three are one test
abbrev pub place_by : Bool → Bool → Bool → Bool → ℕ
place_by a b c d =
    if a then 0 else suc (if b then 0 else suc (if c then 0 else suc (if d then 0 else suc (if d then 0 else suc (if d then 0 else suc 0)))))

-- of four weights and two that are zero, the place whose running sum first exceeds a number
place_of : (t a b c d y z : ℕ) → y ≡ 0 → z ≡ 0 → first_above t (running_sums 0 (a ∷ b ∷ c ∷ d ∷ y ∷ z ∷ []))
    ≡ place_by (nat_lt t (0 + a)) (nat_lt t (0 + a + b)) (nat_lt t (0 + a + b + c)) (nat_lt t (0 + a + b + c + d))
unfolding running_sums first_above
place_of t a b c d y z no_y no_z = simp (no_y, no_z, add-zero)

-- that place is no place of a strategy that makes new plans
pub old_plans : (a b c d : Bool) (s : Strategy) → slice_index_or STRATEGIES (place_by a b c d) strategy.KeepLastSelected ≡ s
    → (s ≢ strategy.ReRoute) × (s ≢ strategy.TimeMutation)
old_plans true b c d s e = (λ p. cc, λ p. cc)
old_plans false true c d s e = (λ p. cc, λ p. cc)
old_plans false false true d s e = (λ p. cc, λ p. cc)
old_plans false false false true s e = (λ p. cc, λ p. cc)
old_plans false false false false s e = (λ p. cc, λ p. cc)

-- whatever the total is
either : (b : Bool) (place : ℕ) → (slice_index_or STRATEGIES place strategy.KeepLastSelected ≢ strategy.ReRoute)
    × (slice_index_or STRATEGIES place strategy.KeepLastSelected ≢ strategy.TimeMutation)
    → ((if b then strategy.KeepLastSelected else slice_index_or STRATEGIES place strategy.KeepLastSelected) ≢ strategy.ReRoute)
    × ((if b then strategy.KeepLastSelected else slice_index_or STRATEGIES place strategy.KeepLastSelected) ≢ strategy.TimeMutation)
either true place old = (λ p. cc, λ p. cc)
either false place old = old

pub no_new_plans : (learning : Learning) (iteration word : ℕ) → learning.innovation_last < iteration
    → (strategy_of learning iteration word ≢ strategy.ReRoute) × (strategy_of learning iteration word ≢ strategy.TimeMutation)
unfolding strategy_of weights_in pick
no_new_plans learning iteration word after =
    let w = learning.weights in
    let weights = weights_in learning iteration in
    let t = below (sum weights) word in
    let placed = place_of t w.keep_last_selected w.best_score w.select_random w.select_logit (innovating learning iteration w.reroute)
    (innovating learning iteration w.time_mutation) (no_weight learning iteration w.reroute after)
    (no_weight learning iteration w.time_mutation after) in
    either (nat_eq (sum weights) 0) (first_above t (running_sums 0 weights))
    (rw placed (old_plans (nat_lt t (0 + w.keep_last_selected)) (nat_lt t (0 + w.keep_last_selected + w.best_score))
    (nat_lt t (0 + w.keep_last_selected + w.best_score + w.select_random))
    (nat_lt t (0 + w.keep_last_selected + w.best_score + w.select_random + w.select_logit)) _ refl))

pub all_keep : (learning : Learning) (iteration word : ℕ) → learning.innovation_last < iteration → HaveNoOtherWeight learning
    → strategy_of learning iteration word ≡ strategy.KeepLastSelected
unfolding strategy_of weights_in
all_keep learning iteration word after none =
    simp (
      none.keep_last_selected,
      none.best_score,
      none.select_random,
      none.select_logit,
      no_weight learning iteration learning.weights.reroute after,
      no_weight learning iteration learning.weights.time_mutation after,
    )
