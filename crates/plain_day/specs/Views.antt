-- What links and nodes see of a world, as lists.
use Rattle.std.specs.Prelude.{ℕ, ◌+◌, Bool, not, ◌&&◌, ◌==◌, nat_lt}
use Rattle.traffic.specs.{Nodes.taken_at, Rows.World, Rows.rank, Setup.Setup, Setup.link_row, Setup.seconds_of, Setup.storage_of}
use Rattle.traffic.specs.declared.{stage.Stage.TheVariants.Buffer, world.Hole.Hole, world.Row.Row}
use Rattle.plain_turns.specs.declared.out_links.OutLinkRow.{OutLinkRow}

-- whether a row stands on the link and not in its buffer
abbrev pub stays_on : ℕ → Row → Bool
stays_on l r = (r.link == l) && not (rank r.stage == rank Buffer)

-- a hole on the link that counts as a taken place in second t, where each does for h seconds
abbrev pub is_in_force : ℕ → ℕ → ℕ → Hole → Bool
is_in_force l t h x = (x.link == l) && nat_lt t (x.second + h)

-- a link out of the node
abbrev pub is_out : Setup → ℕ → ℕ → Bool
is_out S n l = (link_row S l).from == n

abbrev pub is_in : Setup → ℕ → ℕ → Bool
is_in S n l = (link_row S l).to == n

-- a link out of a node as the node sees it, with its number
abbrev pub out_link_row : Setup → ℕ → World → ℕ → OutLinkRow
out_link_row S t W l = record { link = l; out_link = record { taken = taken_at S t l W; storage = storage_of S l; seconds = seconds_of S l } }

-- a row in the buffer of a link into the node, among so many links
abbrev pub is_before : Setup → ℕ → ℕ → Row → Bool
is_before S links n r = (rank r.stage == rank Buffer) && nat_lt r.link links && is_in S n r.link
