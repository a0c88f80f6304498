-- Plans dropped from a memory.
use Rattle.std.proofs.Common.{◌≡◌, ℕ, suc, ◌+◌, ◌-◌, ◌<◌, ◌≤◌, List, length, map, Option, refl, ◌∙◌, ap, subst, arith, length-append, length-take, length-drop}
use Rattle.std.{proofs.lemmas.List.map-append, proofs.lemmas.List.take-map, proofs.lemmas.List.drop-map, specs.Prelude.remove, specs.Prelude.ℤ}
use Rattle.rows.specs.PlanRows.{PlanRows}
use Rattle.plan_memory.specs.{Memories.MemoryRows, Memories.chosen_without, Memories.without, Memories.after_drops, Memories.reduced, Scores.worst}

-- what is seen of a list with an item less
pub map_remove : {A B : Type 0} (f : A → B) (xs : List A) (i : ℕ) → map f (remove xs i) ≡ remove (map f xs) i
map_remove f xs i = simp (map-append, take-map, drop-map)

pub one_less : {A : Type 0} (xs : List A) (i : ℕ) → i < length xs → length (remove xs i) + 1 ≡ length xs
one_less xs i within = simp (length-append, length-take, length-drop) (omega arith)

-- a memory whose parts are those without a plan
pub without_is : (place : ℕ) (m : MemoryRows) (plans : List PlanRows) (scores : List (Option ℤ)) (chosen : ℕ) → plans ≡ remove m.plans place
    → scores ≡ remove m.scores place → chosen ≡ chosen_without scores place m.chosen
    → without place m ≡ record { plans = plans; scores = scores; chosen = chosen }
without_is place m plans scores chosen plans_are scores_are chosen_is = rw (chosen_is, scores_are, plans_are) refl

-- a memory with more plans than the size is reduced as it is without its worst plan
pub drop_step : (size place : ℕ) (m : MemoryRows) → place ≡ worst m.scores → place < length m.plans → size < length m.plans
    → reduced size m ≡ reduced size (without place m)
unfolding after_drops
drop_step size place m worst_at within more =
    let less : length (remove m.plans place) + 1 ≡ length m.plans = one_less m.plans place within in
    let drops : length m.plans - size ≡ suc (length (remove m.plans place) - size) = omega arith in
    let P : ℕ → Type 0 = λ p. after_drops (length (remove m.plans place) - size) (without p m) ≡ after_drops (length (remove m.plans place) - size) (without place m) in
    ap (λ n. after_drops n m) drops ∙ subst P worst_at refl

-- one with no more plans stays
pub no_drop : (size : ℕ) (m : MemoryRows) → length m.plans ≤ size → reduced size m ≡ m
unfolding after_drops
no_drop size m few = let none : length m.plans - size ≡ 0 = omega arith in ap (λ n. after_drops n m) none
