-- A chosen plan is one of those that there are.
use Rattle.std.proofs.Common.{◌≡◌, ℕ, zero, suc, ◌+◌, ◌-◌, ◌^◌, ◌<◌, ◌≤◌, Bool, List, [], ◌∷◌, length, map, replicate, sum, Option, None, Some, ℤ, refl, subst}
use Rattle.std.proofs.{Common.arith, Math.Nat.pow-le-pow_right, lemmas.List.length-map, lemmas.List.length-replicate, lemmas.List.Quantifiers.position-Some}
use Rattle.std.{proofs.lemmas.List.Sums.sum_by-cons, specs.Prelude.position, specs.Prelude.unwrap_or, specs.Prelude.pos}
use Rattle.draws.{proofs.Ranges.pick_within, specs.Choices.pick}
use Rattle.plan_memory.specs.Choices.{halvings, logit_weight, logit_weights, place_chosen}
use Rattle.plan_memory.specs.{Scores.is_lowest, Scores.is_highest, Scores.worst, Scores.best, Scores.highest, declared.choices.Choice.Choice}
use Rattle.plan_memory.specs.declared.choices.Choice.TheVariants as choice

place_by : (p : Option ℤ → Bool) (scores : List (Option ℤ)) (o : Option ℕ) → position p scores ≡ o → 0 < length scores
    → unwrap_or o 0 < length scores
place_by p scores None is some = some
place_by p scores (Some i) is some = (position-Some p scores i None is).0

pub worst_within : (scores : List (Option ℤ)) → 0 < length scores → worst scores < length scores
unfolding worst
worst_within scores some = place_by (is_lowest scores) scores (position (is_lowest scores) scores) refl some

pub best_within : (scores : List (Option ℤ)) → 0 < length scores → best scores < length scores
unfolding best
best_within scores some = place_by (is_highest scores) scores (position (is_highest scores) scores) refl some

-- as many weights of one make their number
sum_of_ones : (n : ℕ) → sum (replicate n 1) ≡ n
sum_of_ones zero = refl
sum_of_ones (suc n) =
    let rest = sum_of_ones n in
    let step : sum (replicate (suc n) 1) ≡ 1 + sum (replicate n 1) = sum_by-cons (λ x. x) 1 (replicate n 1) in
    omega arith

some_power : (k : ℕ) → 2 ^ 0 ≤ 2 ^ k
some_power k = let least : 0 ≤ k = omega arith in pow-le-pow_right {n = 2} (omega arith) least

some_weight : (unit : ℕ) (most : ℤ) (score : Option ℤ) → 1 ≤ logit_weight unit most score
some_weight unit most None = some_power 30
some_weight unit most (Some score) = some_power (30 - halvings unit most score)

-- weights of which each is one at least make their number at least
weights_sum : (unit : ℕ) (most : ℤ) (scores : List (Option ℤ)) → length scores ≤ sum (map (logit_weight unit most) scores)
weights_sum unit most [] = omega arith
weights_sum unit most (score ∷ scores) =
    let first = some_weight unit most score in
    let rest = weights_sum unit most scores in
    let step : sum (map (logit_weight unit most) (score ∷ scores)) ≡ logit_weight unit most score + sum (map (logit_weight unit most) scores) =
    sum_by-cons (λ x. x) (logit_weight unit most score) (map (logit_weight unit most) scores) in
    omega arith

logit_within : (unit word : ℕ) (scores : List (Option ℤ)) → word < 2 ^ 32 → 0 < length scores → pick (logit_weights unit scores) word < length scores
unfolding logit_weights
logit_within unit word scores fits some =
    let most : ℤ = unwrap_or (highest scores) (pos 0) in
    let weights : List ℕ = map (logit_weight unit most) scores in
    let total = weights_sum unit most scores in
    let few = pick_within weights word (omega arith) fits in
    let count : length weights ≡ length scores = length-map scores (logit_weight unit most) in
    omega arith

even_within : (word n : ℕ) → word < 2 ^ 32 → 0 < n → pick (replicate n 1) word < n
even_within word n fits some =
    let total = sum_of_ones n in
    subst (λ (k : ℕ). pick (replicate n 1) word < k) (length-replicate n 1) (pick_within (replicate n 1) word (omega arith) fits)

-- whatever the choice, it is of a plan that is there
pub choice_within : (how : Choice) (unit word : ℕ) (scores : List (Option ℤ)) → word < 2 ^ 32 → 0 < length scores
    → place_chosen how unit word scores < length scores
unfolding place_chosen
choice_within choice.Best unit word scores fits some = best_within scores some
choice_within choice.Random unit word scores fits some = even_within word (length scores) fits some
choice_within choice.Logit unit word scores fits some = logit_within unit word scores fits some
