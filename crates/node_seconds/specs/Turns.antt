-- The turn of a node by links in slots.
use Rattle.std.specs.Prelude.{◌≡◌, ℕ, ◌<◌, ◌++◌, Bool, List, length, map, if◌then◌else◌, Option}
use Rattle.std.specs.List.{flat_map, AllByRecursion as Each}
use Rattle.draws.specs.Words.{word}
use Rattle.traffic.specs.{Moves.told, Nodes.node_moves, Nodes.out_links_after, Nodes.HaveNext}
use Rattle.traffic.specs.declared.{moves.Move.Move, moves.Occurrence.Occurrence, node_views.OutLink.OutLink}
use Rattle.queue_link.specs.Links.{LinkView}
use Rattle.node_move.specs.{Entries.SpaceRows, NodeStates.in_links_of, NodeStates.buffer_after, NodeStates.entering_by, NodeStates.AreApart, Spaces.places_in, Spaces.holes_in}
use Rattle.node_move.specs.declared.{crossings.Entering.Entering, turns.NodeTurn.NodeTurn}
use Rattle.node_seconds.specs.Networks.{lane, is_among}

-- the moves of a node by the links in these slots, with their lights, and by these places
abbrev pub moves_in : NodeTurn → List LinkView → List ℕ → List Bool → (ℕ → Option OutLink) → List Move
moves_in turn links into greens out_links =
    node_moves turn.stuck turn.second (word turn.draws)
    (record { in_links = in_links_of (map (lane links) into) greens; out_links = out_links })

-- the links in these slots have numbers of their own
abbrev pub AreApartIn : List LinkView → List ℕ → Type 0
AreApartIn links ks = AreApart (map (lane links) ks)

-- their buffers hold vehicles that have next links
abbrev pub AreReadyInto : List LinkView → List ℕ → Type 0
AreReadyInto links ks = Each (λ (k : ℕ). HaveNext (lane links k).lists.buffer) ks

-- What the turn of a node by the links in these slots makes of links and places, who enters other links, in order, and what it tells.
pub record IsNodeSecond (turn : NodeTurn) (into : List ℕ) (greens : List Bool) (old_links new_links : List LinkView)
    (old_space new_space : SpaceRows) (entering : List Entering) (old_said new_said : List Occurrence) : Type 0 where
  pub links :
      (k : ℕ) → k < length old_links → lane new_links k
      ≡ (if is_among k into then buffer_after (moves_in turn old_links into greens (places_in old_space)) (lane old_links k) else lane old_links k)
  pub space : places_in new_space ≡ out_links_after (moves_in turn old_links into greens (places_in old_space)) (places_in old_space)
  pub holes : (m : ℕ) → holes_in new_space m ≡ holes_in old_space m
  pub entered : entering ≡ flat_map entering_by (moves_in turn old_links into greens (places_in old_space))
  pub said : new_said ≡ old_said ++ flat_map told (moves_in turn old_links into greens (places_in old_space))
