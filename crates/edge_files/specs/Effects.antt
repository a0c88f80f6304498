-- The steps of what a run does outside.
use Rattle.std.specs.{List.flat_map, List.list_any, Prelude.List, Prelude.[], Prelude.◌∷◌, Prelude.Bool, Prelude.true, Prelude.false}
use Rattle.edge_files.specs.{Keeping.kept_of, World.Step, World.Saved, World.byte_steps, declared.effects.Effect.Effect}
use Rattle.edge_files.specs.declared.effects.Effect.TheVariants as effect

-- a text goes byte by byte, a save is one step
abbrev pub steps_of : Effect → List Step
steps_of (effect.Write file text) = byte_steps file text
steps_of (effect.Save iteration rows) = Saved (kept_of iteration rows) ∷ []

-- the steps of all effects in turn
abbrev pub all_steps : List Effect → List Step
all_steps effects = flat_map steps_of effects

-- whether the keeper is to be called
abbrev pub is_save : Effect → Bool
is_save (effect.Write file text) = false
is_save (effect.Save iteration rows) = true

-- whether the keeper is to be called by one of them
abbrev pub has_save : List Effect → Bool
has_save effects = list_any is_save effects
