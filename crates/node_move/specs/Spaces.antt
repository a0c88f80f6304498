-- The places of links, and those of them that were left and are not free yet, as functions of their numbers.
use Rattle.std.specs.Prelude.{ℕ, Option}
use Rattle.traffic.specs.declared.node_views.OutLink.{OutLink}
use Rattle.node_move.specs.Entries.{SpaceRows, entry_in, places_of, holes_of}

-- the places of link m, where it has an entry
unfoldable pub places_in : SpaceRows → ℕ → Option OutLink
places_in rows m = places_of (entry_in rows m)

-- how many places of link m were left and are not free yet
unfoldable pub holes_in : SpaceRows → ℕ → ℕ
holes_in rows m = holes_of (entry_in rows m)
