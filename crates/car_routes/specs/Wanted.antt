-- The routes that plans want: from which node to which, in the order of their legs.
use Rattle.std.specs.Prelude.{◌≡◌, ℕ, ◌<◌, not, ◌&&◌, nat_eq, List, [], ◌∷◌, ◌++◌, length, map, filter, All, Option, None, Some, slice_index_or, if◌then◌else◌}
use Rattle.std.specs.List.{cons_option, flat_map}
use Rattle.rows.specs.{PlanRows.PlanRows, declared.plan.Act.Act, declared.plan.Leg.Leg}
use Rattle.rows.specs.declared.plan.Leg.TheVariants as leg
use Rattle.walks.specs.Walks.{Ends, start_of, end_of}

-- from which node to which
abbrev pub Pairs : Type 0
Pairs = List (ℕ × ℕ)

-- the nodes between which a leg from one link to another wants a route: where it is a car leg without a link, and the links differ
abbrev pub wanted : Ends → ℕ → ℕ → Leg → Option (ℕ × ℕ)
wanted ends here there (leg.Car route) =
    if nat_eq (length route) 0 && not (nat_eq here there) then Some (end_of ends here, start_of ends there) else None
wanted ends here there (leg.Teleport mode seconds) = None
wanted ends here there (leg.Transit line access egress) = None

-- those of the legs of a plan
unfoldable pub wanted_in : Ends → List Act → List Leg → Pairs
wanted_in ends acts [] = []
wanted_in ends (here ∷ there ∷ acts) (leg ∷ legs) =
    cons_option (wanted ends here.link there.link leg) (wanted_in ends (there ∷ acts) legs)
wanted_in ends acts (leg ∷ legs) = []

-- those of the plans of a person
unfoldable pub wanted_by : Ends → List PlanRows → Pairs
wanted_by ends plans = flat_map (λ plan. wanted_in ends plan.acts plan.legs) plans

-- those of all persons
unfoldable pub wanted_by_all : Ends → List (List PlanRows) → Pairs
wanted_by_all ends plans = flat_map (wanted_by ends) plans

-- to which nodes the routes from this node are wanted
unfoldable pub wanted_from : ℕ → Pairs → List ℕ
wanted_from node pairs = map (λ pair. pair.1) (filter (λ pair. nat_eq pair.0 node) pairs)

-- the list of a node
abbrev pub row_of : {A : Type 0} → List (List A) → ℕ → List A
row_of lists node = slice_index_or lists node []

-- every target is one of so many nodes
abbrev pub AreNodes : ℕ → List (List ℕ) → Type 0
AreNodes nodes lists = All (All (λ node. node < nodes)) lists

-- these routes between so many nodes are wanted too
pub record WantsMore (nodes : ℕ) (pairs : Pairs) (old new : List (List ℕ)) : Type 0 where
  pub count : length new ≡ length old
  pub each : (node : ℕ) → row_of new node ≡ row_of old node ++ wanted_from node pairs
  pub inside : AreNodes nodes old → AreNodes nodes new
