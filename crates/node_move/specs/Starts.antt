-- Where the entries of links stand, in blocks of links that follow one another by number.
use Rattle.std.specs.Prelude.{ℕ, ◌+◌, ◌/◌, ◌%◌, List, get_or}
use Rattle.node_move.specs.declared.TheConstants.{BLOCK_LINKS}

-- the number of the entry of link m, if it has one, by where blocks begin
abbrev pub entry_number : List ℕ → ℕ → ℕ
entry_number starts m = get_or starts (m / BLOCK_LINKS) 0 + m % BLOCK_LINKS
