-- The merge of event lists.
use Rattle.std.specs.{List.flat_map, List.Sorted.IsPermutation, Prelude.List}
use Rattle.events.specs.declared.event.Event.{Event}
use Rattle.traffic.specs.Frames.{Ascends}

-- the one list of all their events, in the order of their keys
pub record Merges (lists : List (List Event)) (merged : List Event) : Type 0 where
  pub ascends : Ascends merged
  pub same : IsPermutation (flat_map (λ events. events) lists) merged
