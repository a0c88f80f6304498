-- Lists of events that can be merged.
use Rattle.std.specs.{List.Contains, List.AllByRecursion as Each, Prelude.◌≢◌, Prelude.Bool, Prelude.List, Prelude.[], Prelude.◌∷◌}
use Rattle.events.specs.{Keys.key_before, declared.event.Event.Event}
use Rattle.traffic.specs.Frames.{Ascends}

-- whether the key of an event comes before that of another one
abbrev pub comes_before : Event → Event → Bool
comes_before a b = key_before a.key b.key

-- no event of the one list has the key of an event of the other
abbrev pub IsApart : List Event → List Event → Type 0
IsApart xs ys = (a b : Event) → Contains xs a → Contains ys b → a.key ≢ b.key

-- no key is in two of these lists
abbrev pub AreApart : List (List Event) → Type 0
AreApart [] = Unit {0}
AreApart (xs ∷ lists) = Each (IsApart xs) lists × AreApart lists

-- each list ascends by key, and no key is in two of them
pub record CanMerge (lists : List (List Event)) : Type 0 where
  pub ascend : Each Ascends lists
  pub apart : AreApart lists
