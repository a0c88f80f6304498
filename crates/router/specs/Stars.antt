-- Lists of links by nodes.
use Rattle.std.specs.Prelude.{◌≡◌, ℕ, suc, ◌+◌, ◌-◌, ◌<◌, ◌≤◌, List, [], length, map, slice_index, slice_index_or, All, Contains}
use Rattle.std.specs.List.{range_with_len, slice_range}
use Rattle.router.specs.declared.star.{Spoke.Spoke, Star.TheInside.Inside}

-- the list of each node: the links from its start up to that of the next node
abbrev pub lists_in : List ℕ → List Spoke → List (List Spoke)
lists_in starts links = map (λ node. slice_range links (slice_index starts node) (slice_index starts (node + 1)))
    (range_with_len 0 (length starts - 1))

abbrev pub lists_of : Inside → List (List Spoke)
lists_of star = lists_in star.starts.items star.links.items

-- the starts ascend, and the last one, behind those of all nodes, is behind all links
pub record AreStarts (starts : List ℕ) (links : List Spoke) : Type 0 where
  pub some : 0 < length starts
  pub ascend : (node : ℕ) → suc node < length starts → slice_index starts node ≤ slice_index starts (suc node)
  pub last : slice_index starts (length starts - 1) ≡ length links

abbrev pub IsStar : Inside → Type 0
IsStar star = AreStarts star.starts.items star.links.items

-- the lists are those of so many links, each beside its node and with its other one: all of them and no others
pub record AreBeside (node_of other_of : ℕ → ℕ) (links : ℕ) (lists : List (List Spoke)) : Type 0 where
  pub each : (node : ℕ) → All (λ spoke. (spoke.link < links) × (node_of spoke.link ≡ node) × (spoke.node ≡ other_of spoke.link))
      (slice_index_or lists node [])
  pub every : (link : ℕ) → link < links → Contains (map (λ (spoke : Spoke). spoke.link) (slice_index_or lists (node_of link) [])) link
