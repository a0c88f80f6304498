-- The credits of links.
use Rattle.std.specs.Prelude.{ℕ, List, [], ◌∷◌, replicate}
use Rattle.fixed_flow.specs.declared.TheConstants.{VEHICLE_COST}

-- the credits of so many links: these, or that for one vehicle of each where none are written out
abbrev pub credits_in : ℕ → List ℕ → List ℕ
credits_in links [] = replicate links VEHICLE_COST
credits_in links (c ∷ cs) = c ∷ cs
