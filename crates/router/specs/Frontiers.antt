-- A search while it goes on.
use Rattle.std.specs.{List.Sorted.IsPermutation, Prelude.◌≡◌}
use Rattle.std.specs.Prelude.{ℕ, ◌+◌, ◌*◌, ◌^◌, ◌<◌, ◌≤◌, ◌⊎◌, sum_by, List, [], ◌∷◌, length, All, Contains, Bool, true, nat_lt, slice_set, Option, None, Some}
use Rattle.walks.specs.{Chosen.followed, Chosen.chosen_route, Rounds.label_at, Rounds.least_labels, Rounds.IsBy, Rounds.rank}
use Rattle.walks.specs.Walks.{start_of, end_of, Reached}
use Rattle.router.specs.declared.{frontier.Frontier.Frontier, waiting.Entry.Entry}

-- a node that waits for its links to be looked along, and the second of its label
abbrev pub queued : ℕ → ℕ → Entry
queued second node = record { second = second; node = node }

-- Each label is the arrival of a walk, and later than few others by more than a bound; along each link from a labelled node its end is
-- reached
-- in time, or else its start waits in the queue, or it is one of the links still open. Nobody waits with an earlier second than the
-- horizon.
pub record IsSearch (nodes : ℕ) (ends : List (ℕ × ℕ)) (arrive : ℕ → ℕ → ℕ) (from second horizon : ℕ) (labels : List (Option ℕ))
    (queue : List Entry) (open_links : List ℕ) : Type 0 where
  pub count : length labels ≡ nodes
  pub start : label_at labels from ≡ Some second
  pub reached : (node at : ℕ) → label_at labels node ≡ Some at → Reached ends arrive from second node at
  pub bounded : (node at : ℕ) → label_at labels node ≡ Some at → at ≤ 2 ^ 33 + 2 ^ 32 * rank labels at
  pub looked : (link left : ℕ) → link < length ends → label_at labels (start_of ends link) ≡ Some left
      → IsBy (label_at labels (end_of ends link)) (arrive link left) ⊎
      (Contains queue (queued left (start_of ends link)) ⊎ Contains open_links link)
  pub later : All (λ entry. horizon ≤ entry.second) queue
  pub there : All (λ entry. entry.node < nodes) queue

-- the label is later than a second, as no label is
abbrev pub is_later : Option ℕ → ℕ → Bool
is_later None second = true
is_later (Some reached) second = nat_lt second reached

-- the search that a frontier has come so far with, with these links still open
pub record IsFrontier (nodes : ℕ) (ends : List (ℕ × ℕ)) (arrive : ℕ → ℕ → ℕ) (frontier : Frontier) (open_links : List ℕ) : Type 0 where
  pub search : IsSearch nodes ends arrive frontier.from frontier.second frontier.horizon frontier.labels.items
      frontier.queue open_links

-- a label can only fall
abbrev pub weight : Option ℕ → ℕ
weight None = 2 ^ 60
weight (Some at) = at

-- what is left to do at most: twice what the labels can fall, and the nodes that wait
abbrev pub work : Frontier → ℕ
work frontier = 2 * sum_by weight frontier.labels.items + length frontier.queue

-- the same question, asked further
pub record GoesOn (old new : Frontier) : Type 0 where
  pub from : new.from ≡ old.from
  pub second : new.second ≡ old.second

-- a node has a label more, with which it waits
pub record IsRelabelled (old new : Frontier) (node second : ℕ) : Type 0 where
  pub goes_on : GoesOn old new
  pub horizon : new.horizon ≡ old.horizon
  pub labels : new.labels.items ≡ slice_set old.labels.items node (Some second)
  pub queue : IsPermutation (queued second node ∷ old.queue) new.queue

-- this node is the next of those that wait whose label still stands, and nobody waits with an earlier second
pub record IsNext (old new : Frontier) (entry : Entry) : Type 0 where
  pub goes_on : GoesOn old new
  pub horizon : new.horizon ≡ entry.second
  pub labels : new.labels.items ≡ old.labels.items
  pub was_there : Contains old.queue (queued entry.second entry.node)
  pub stands : label_at new.labels.items entry.node ≡ Some entry.second
  pub earliest : All (λ other. entry.second ≤ other.second) new.queue
  pub others : (other : Entry) → Contains new.queue other → Contains old.queue other
  pub kept : (at node : ℕ) → Contains old.queue (queued at node) → label_at new.labels.items node ≡ Some at
      → ((node ≡ entry.node) × (at ≡ entry.second)) ⊎ Contains new.queue (queued at node)
  pub fewer : length new.queue < length old.queue

-- nobody waits whose label still stands
pub record IsDone (old new : Frontier) : Type 0 where
  pub goes_on : GoesOn old new
  pub labels : new.labels.items ≡ old.labels.items
  pub none : new.queue ≡ []
  pub gone : (at node : ℕ) → Contains old.queue (queued at node) → label_at new.labels.items node ≡ Some at → ⊥

-- the label of a node is the least arrival, and the links followed back from the node are the chosen route
pub record IsSettledAt (nodes : ℕ) (ends : List (ℕ × ℕ)) (arrive : ℕ → ℕ → ℕ) (frontier : Frontier) (node : ℕ) : Type 0 where
  pub label : label_at frontier.labels.items node ≡ label_at (least_labels nodes ends arrive frontier.from frontier.second) node
  pub route : (at : ℕ) → label_at frontier.labels.items node ≡ Some at
      → followed ends arrive frontier.labels.items frontier.from nodes node
      ≡ chosen_route nodes ends arrive (least_labels nodes ends arrive frontier.from frontier.second) frontier.from node
