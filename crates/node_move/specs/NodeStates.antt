-- What a node's turn changes, and what its moves make of it.
use Rattle.std.specs.Prelude.{◌≢◌, ℕ, ◌<◌, ◌≤◌, Bool, true, List, [], ◌∷◌, ◌++◌, map, get_or, if◌then◌else◌, Option}
use Rattle.std.specs.List.{flat_map, AllByRecursion as Each}
use Rattle.limits.specs.declared.TheConstants.{MAX_CAPACITY}
use Rattle.rows.specs.declared.settings.Stuck.{Stuck}
use Rattle.traffic.specs.{Lists.on_front, Moves.told, Moves.at_second, Moves.at_after_all, Nodes.NodeView, Nodes.out_links_after, Nodes.node_moves}
use Rattle.traffic.specs.{Nodes.HaveNext, Vehicles.VehicleState}
use Rattle.traffic.specs.declared.moves.Move.{Move, TheVariants.Transfer, TheVariants.Remove}
use Rattle.traffic.specs.declared.{moves.Occurrence.Occurrence, node_views.InLink.InLink, node_views.OutLink.OutLink, stage.Stage.TheVariants.Buffer}
use Rattle.queue_link.specs.Links.{LinkView, fresh}
use Rattle.node_move.specs.declared.crossings.Entering.{Entering}

-- the links into a node, the places of the links out of it, who enters one of these, who is removed, and what is told
pub record NodeState : Type 0 where
  pub in_links : List LinkView
  pub out_links : ℕ → Option OutLink
  pub entering : List Entering
  pub removed : List VehicleState
  pub said : List Occurrence

-- the state that these make
abbrev pub node_state : List LinkView → (ℕ → Option OutLink) → List Entering → List VehicleState → List Occurrence → NodeState
node_state vs out_links entering removed said =
    record { in_links = vs; out_links = out_links; entering = entering; removed = removed; said = said }

-- a link after moves that concern its buffer alone
abbrev pub buffer_after : List Move → LinkView → LinkView
buffer_after ms v = record v { lists = record v.lists { buffer = at_after_all v.numbers.link Buffer ms v.lists.buffer } }

-- who enters a link by a move, and who is removed by it
abbrev pub entering_by : Move → List Entering
entering_by (Transfer l s k was now) = record { link = now.link; vehicle = now.vehicle } ∷ []
entering_by _ = []

abbrev pub removed_by : Move → List VehicleState
removed_by (Remove l s k was) = was.vehicle ∷ []
removed_by _ = []

-- the state after moves of a node
abbrev pub node_run : List Move → NodeState → NodeState
node_run ms N =
    record {
      in_links = map (buffer_after ms) N.in_links;
      out_links = out_links_after ms N.out_links;
      entering = N.entering ++ flat_map entering_by ms;
      removed = N.removed ++ flat_map removed_by ms;
      said = N.said ++ flat_map told ms;
    }

-- a link into a node as the node sees it
abbrev pub in_link_of : LinkView → Bool → InLink
in_link_of v green = record { link = v.numbers.link; capacity = v.numbers.capacity; green = green; rows = v.lists.buffer }

-- all of them, with their lights
abbrev pub in_links_of : List LinkView → List Bool → List InLink
in_links_of [] greens = []
in_links_of (v ∷ vs) [] = []
in_links_of (v ∷ vs) (green ∷ greens) = in_link_of v green ∷ in_links_of vs greens

-- the state after the turn of a node in second t
abbrev pub after_turn : Stuck → ℕ → (ℕ → ℕ) → List Bool → NodeState → NodeState
after_turn K t word greens N =
    let see : NodeView = record { in_links = in_links_of N.in_links greens; out_links = N.out_links } in
    node_run (node_moves K t word see) N

-- the buffers of links hold vehicles that have next links
abbrev pub AreReady : List LinkView → Type 0
AreReady [] = Unit {0}
AreReady (v ∷ vs) = HaveNext v.lists.buffer × AreReady vs

-- the links have numbers of their own
abbrev pub IsNone : ℕ → List LinkView → Type 0
IsNone l [] = Unit {0}
IsNone l (v ∷ vs) = (v.numbers.link ≢ l) × IsNone l vs

abbrev pub AreApart : List LinkView → Type 0
AreApart [] = Unit {0}
AreApart (v ∷ vs) = IsNone v.numbers.link vs × AreApart vs

-- no link at all
abbrev pub no_link : LinkView
no_link = fresh (record { link = 0; seconds = 0; storage = 0; room = 0; gain = 0; capacity = 0 })

-- the links at these places as green ones
abbrev pub seen : List LinkView → List ℕ → List InLink
seen vs places = map (λ (k : ℕ). in_link_of (get_or vs k no_link) true) places

-- links have weights, within the limit of capacities
abbrev pub HaveWeights : List InLink → Type 0
HaveWeights es = Each (λ (e : InLink). (0 < e.capacity) × (e.capacity ≤ MAX_CAPACITY)) es

-- places among n, each once
abbrev pub IsNotIn : ℕ → List ℕ → Type 0
IsNotIn k [] = Unit {0}
IsNotIn k (x ∷ xs) = (x ≢ k) × IsNotIn k xs

abbrev pub ArePlaces : ℕ → List ℕ → Type 0
ArePlaces n [] = Unit {0}
ArePlaces n (k ∷ ks) = (k < n) × IsNotIn k ks × ArePlaces n ks

-- a link whose front is first since second t
abbrev pub marked : ℕ → LinkView → LinkView
marked t v = record v { lists = record v.lists { buffer = on_front (at_second t) v.lists.buffer } }

-- the links with the marks of the red ones
abbrev pub all_marked : ℕ → List LinkView → List Bool → List LinkView
all_marked t [] greens = []
all_marked t (v ∷ vs) [] = v ∷ vs
all_marked t (v ∷ vs) (green ∷ greens) = (if green then v else marked t v) ∷ all_marked t vs greens
