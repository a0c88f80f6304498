-- A list split into runs of items that are alike.
use Rattle.std.specs.Prelude.{Bool, false, if◌then◌else◌, List, [], ◌∷◌, ◌++◌, fold}

-- the last item of a run is like this one
abbrev pub goes_on : {X : Type 0} → (X → X → Bool) → List X → X → Bool
goes_on like [] x = false
goes_on like (y ∷ []) x = like y x
goes_on like (y ∷ z ∷ ys) x = goes_on like (z ∷ ys) x

-- an item goes behind a run, or begins one of its own
abbrev pub put_behind : {X : Type 0} → Bool → List X → X → List (List X)
put_behind on run x = if on then (run ++ x ∷ []) ∷ [] else run ∷ (x ∷ []) ∷ []

-- an item goes behind the last run where it is like that run's last item, and else begins one of its own
abbrev pub put : {X : Type 0} → (X → X → Bool) → List (List X) → X → List (List X)
put like [] x = (x ∷ []) ∷ []
put like (run ∷ []) x = put_behind (goes_on like run x) run x
put like (run ∷ next ∷ runs) x = run ∷ put like (next ∷ runs) x

-- the list, split where an item is not like the one before it
unfoldable pub runs : {X : Type 0} → (X → X → Bool) → List X → List (List X)
runs like xs = fold (put like) [] xs
