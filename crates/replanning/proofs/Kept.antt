-- What holds of a memory's plans holds when the worst were dropped.
use Rattle.std.proofs.Common.{◌≡◌, ℕ, zero, suc, ◌-◌, Bool, true, List, [], ◌∷◌, length, refl}
use Rattle.std.{proofs.lemmas.Bool.and_from, proofs.lemmas.Bool.and_parts, specs.List.list_all, specs.Prelude.remove}
use Rattle.rows.specs.PlanRows.{PlanRows}
use Rattle.plan_memory.specs.{Memories.MemoryRows, Memories.without, Memories.after_drops, Memories.reduced, Scores.worst}
use Rattle.router.specs.Legs.{are_on}
use Rattle.replanning.specs.Persons.{is_on}

all_left : {A : Type 0} (p : A → Bool) (xs : List A) (i : ℕ) → list_all p xs ≡ true → list_all p (remove xs i) ≡ true
all_left p [] zero all = refl
all_left p [] (suc i) all = refl
all_left p (x ∷ xs) zero all = (and_parts (p x) (list_all p xs) all).1
all_left p (x ∷ xs) (suc i) all =
    let parts = and_parts (p x) (list_all p xs) all in
    and_from (p x) (list_all p (remove xs i)) parts.0 (all_left p xs i parts.1)

on_drops : (links drops : ℕ) (m : MemoryRows) → is_on links m ≡ true → is_on links (after_drops drops m) ≡ true
unfolding after_drops
on_drops links zero m on = on
on_drops links (suc drops) m on =
    on_drops links drops (without (worst m.scores) m) (all_left (λ (plan : PlanRows). are_on links plan.acts) m.plans (worst m.scores) on)

pub on_reduced : (links size : ℕ) (m : MemoryRows) → is_on links m ≡ true → is_on links (reduced size m) ≡ true
on_reduced links size m on = on_drops links (length m.plans - size) m on
