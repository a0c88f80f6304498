-- Which links are always green.
use Rattle.std.proofs.{Common.◌≡◌, Common.ℕ, Common.◌<◌, Common.List, Common.length, Common.get_or, Common.ap, Common.◌∙◌, lemmas.List.get_or-map}
use Rattle.std.specs.Prelude.{Bool, false}
use Rattle.rows.specs.Greens.{Phases, always}
use Rattle.part_nodes.specs.{Steady.AreSteady, Turns.is_always, Turns.always_in}

pub steady_at : (greens : List Phases) (steady : List Bool) (l : ℕ) → AreSteady greens steady → l < length greens
    → get_or steady l false ≡ always_in greens l
steady_at greens steady l e lt = ap (λ (xs : List Bool). get_or xs l false) e ∙ get_or-map is_always greens l always false lt
