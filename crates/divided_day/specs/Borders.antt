-- The neighbours of a partition, with the lags from them.
use Rattle.std.specs.Prelude.{ℕ, List, [], ◌∷◌, ◌++◌, map, filter, ◌==◌, if◌then◌else◌, Option, None, Some}
use Rattle.std.specs.Option.{option_to_list}
use Rattle.traffic.specs.{Lists.below, Setup.Setup}
use Rattle.parts.specs.Owners.{Owner, near, lag}
use Rattle.partition.specs.declared.{borders.LagPair.LagPair, joining.Pair.Pair}
use Rattle.step_core.specs.declared.part.Border.{Border}

-- p has q for a neighbour, with the lag from it
abbrev pub border_from : Setup → Owner → ℕ → ℕ → Border
border_from S own p q = record { neighbour = q; lag = lag S own q p }

-- the neighbours of p among so many partitions, ascending
abbrev pub borders_of : Setup → Owner → ℕ → ℕ → List Border
borders_of S own parts p = map (border_from S own p) (filter (λ q. near S own q p) (below parts))

-- OUT OF PAIRS
-- what a pair of neighbours is to p: to the greater one a border with the lag there, to the lesser one a border with the lag back
abbrev pub border_of : ℕ → Pair → LagPair → Option Border
border_of p x lags =
    if x.greater == p then Some (record { neighbour = x.lesser; lag = lags.there })
    else (if x.lesser == p then Some (record { neighbour = x.greater; lag = lags.back }) else None)

-- what all these pairs are to p
abbrev pub borders_among : ℕ → List Pair → List LagPair → List Border
borders_among p [] lags = []
borders_among p (x ∷ xs) [] = []
borders_among p (x ∷ xs) (y ∷ ys) = option_to_list (border_of p x y) ++ borders_among p xs ys
