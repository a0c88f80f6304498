-- What contracts see of the places of links, and what it keeps.
use Rattle.node_move.specs.{Entries.AreBlocks, Entries.SpaceRows, Entries.rows_of, declared.space.Space.TheInside.Inside}

abbrev pub space_view : Inside → SpaceRows
space_view s = rows_of s.starts.items s.entries.items

abbrev pub is_in_blocks : Inside → Type 0
is_in_blocks s = AreBlocks s.starts.items s.entries.items
