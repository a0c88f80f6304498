-- The links out of a node, as a list.
use Rattle.std.specs.Prelude.{ℕ, ◌+◌, ◌≤◌, Bool, List, [], ◌∷◌, ◌==◌, if◌then◌else◌, Option, None, Some}
use Rattle.limits.specs.declared.TheConstants.{MAX_CAPACITY, MAX_LENGTH}
use Rattle.traffic.specs.{Nodes.NodeView, Nodes.HaveNext, declared.node_views.InLink.InLink, declared.node_views.OutLink.OutLink}
use Rattle.plain_turns.specs.declared.out_links.OutLinkRow.{OutLinkRow}

-- the out-link of a link, where it is one
unfoldable pub out_links_in : List OutLinkRow → ℕ → Option OutLink
out_links_in [] l = None
out_links_in (x ∷ xs) l = if x.link == l then Some x.out_link else out_links_in xs l

-- one place more is taken on a link
abbrev pub one_taken : OutLinkRow → OutLinkRow
one_taken x = record x { out_link = record x.out_link { taken = x.out_link.taken + 1 } }

abbrev pub with_taken : ℕ → List OutLinkRow → List OutLinkRow
with_taken m [] = []
with_taken m (x ∷ xs) = if x.link == m then one_taken x ∷ xs else x ∷ with_taken m xs

-- the free seconds of each are those of a link
abbrev pub AreNear : List OutLinkRow → Type 0
AreNear [] = Unit {0}
AreNear (x ∷ xs) = (x.out_link.seconds ≤ MAX_LENGTH) × AreNear xs

-- a link into a node has a capacity, and each row of its buffer has a next link
pub record IsInLink (e : InLink) : Type 0 where
  pub least : 1 ≤ e.capacity
  pub most : e.capacity ≤ MAX_CAPACITY
  pub rows : HaveNext e.rows

abbrev pub AreInLinks : List InLink → Type 0
AreInLinks [] = Unit {0}
AreInLinks (e ∷ es) = IsInLink e × AreInLinks es

abbrev pub is_green : InLink → Bool
is_green e = e.green

-- what a node sees, from its links as lists
abbrev pub node_view_of : List InLink → List OutLinkRow → NodeView
node_view_of in_links out_links = record { in_links = in_links; out_links = out_links_in out_links }
