-- What tables, modes and costs keep, by which a day may be scored.
use Rattle.std.specs.Prelude.{ℕ, Bool, true, not, ◌&&◌, nat_eq, nat_le, int_le, ℤ, pos, neg_ℤ, List, [], ◌∷◌, length, map}
use Rattle.std.specs.List.{list_all, list_any}
use Rattle.scoring.specs.{Points.is_table, Ranges.is_within}
use Rattle.scoring.specs.declared.{TheConstants.MAX_PER_SECOND, TheConstants.MAX_TABLES, TheConstants.MAX_WORTH, table.ModeScore.ModeScore, table.Table.Table}

-- the kind that a table is for
abbrev pub kind_of : Table → ℕ
kind_of table = table.kind

-- whether no number stands twice in a list
abbrev pub are_distinct : List ℕ → Bool
are_distinct [] = true
are_distinct (n ∷ ns) = not (list_any (λ m. nat_eq n m) ns) && are_distinct ns

-- whether a table has points, and a last second in which an activity begins in time, as a table may have them
abbrev pub is_right : Table → Bool
is_right table = is_table table.points table.latest

-- whether the tables are at most 64, each as it may be, and none of them for the kind of another
abbrev pub are_tables : List Table → Bool
are_tables tables = nat_le (length tables) MAX_TABLES && list_all is_right tables && are_distinct (map kind_of tables)

-- whether what a leg by a mode is worth is within its limits
abbrev pub is_mode : ModeScore → Bool
is_mode mode = is_within MAX_WORTH mode.constant && is_within MAX_PER_SECOND mode.per_second

-- whether what a second of lateness and being stuck cost is within its limits, in micro-utils: neither is a gain
abbrev pub are_costs : ℤ → ℤ → Bool
are_costs late_per_second stuck =
    int_le (neg_ℤ MAX_PER_SECOND) late_per_second && int_le late_per_second (pos 0) && int_le (neg_ℤ MAX_WORTH) stuck && int_le stuck (pos 0)
