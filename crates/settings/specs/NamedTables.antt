-- The tables of activities: the key `tables`.
use Rattle.std.specs.{List.list_all, List.list_any, Prelude.ℕ, Prelude.Bool, Prelude.◌&&◌, Prelude.◌||◌}
use Rattle.std.specs.Prelude.{nat_le, bytes_eq, codes, if◌then◌else◌, List, [], ◌∷◌, length, map, Option, None, Some, option_and_then, option_map, neg_ℤ, ℤ}
use Rattle.events.specs.Names.{is_name, are_distinct}
use Rattle.limits.specs.declared.TheConstants.{LAST_SECOND}
use Rattle.scoring.specs.declared.TheConstants.{MAX_POINT_SECOND, MAX_TABLES, MAX_WORTH}
use Rattle.scoring.specs.Points.{Point, is_table}
use Rattle.serde_json.specs.{Data.Data, Find.as_array, Find.as_object, Find.as_str, Find.get_member}
use Rattle.settings.specs.declared.named_tables.NamedTable.{NamedTable}
use Rattle.settings.specs.Looking.{members_of, list_of, items_of, has_other_key, whole_in, signed_in, or_default, all_of}

-- a second and what is reached there, where both are there
abbrev pub point : Option ℕ → Option ℤ → Option Point
point (Some second) (Some worth) = Some (second, worth)
point (Some second) None = None
point None worth = None

-- a point: a list of a second and what is reached there
abbrev pub point_of : List Data → Option Point
point_of (second ∷ worth ∷ []) = point (whole_in 0 MAX_POINT_SECOND second) (signed_in (neg_ℤ MAX_WORTH) MAX_WORTH worth)
point_of _ = None

unfoldable pub point_in : Data → Option Point
point_in value = option_and_then (λ items. point_of (list_of items)) (as_array value)

unfoldable pub points_in : Data → Option (List Point)
points_in value = option_and_then (λ items. all_of (map point_in (list_of items))) (as_array value)

-- a name
abbrev pub if_name : List ℕ → Option (List ℕ)
if_name bytes = if is_name bytes then Some bytes else None

unfoldable pub kind_in : Data → Option (List ℕ)
kind_in value = option_and_then if_name (as_str value)

unfoldable pub latest_in : Data → Option (Option ℕ)
latest_in value = option_map Some (whole_in 0 LAST_SECOND value)

-- a table of a kind and points that are given, and a second that may be
abbrev pub table_of : Option (List ℕ) → Option (List Point) → Option (Option ℕ) → Option NamedTable
table_of (Some kind) (Some points) (Some latest) = Some (record { kind = kind; points = points; latest = latest })
table_of _ _ _ = None

unfoldable pub table_in : Data → Option NamedTable
table_in value =
    option_and_then (λ members.
    table_of (option_and_then kind_in (get_member (codes "kind") members)) (option_and_then points_in (get_member (codes "points") members))
    (or_default latest_in None (get_member (codes "latest") members)))
    (as_object value)

-- at most 64 tables
unfoldable pub tables_in : List Data → Option (List NamedTable)
tables_in values = if nat_le (length values) MAX_TABLES then all_of (map table_in values) else None

abbrev pub tables_of : Data → Option (List NamedTable)
tables_of value = option_and_then (λ items. tables_in (list_of items)) (as_array value)

-- the tables that are given, of which there need be none
abbrev pub given_tables : Option Data → Option (List NamedTable)
given_tables value = or_default tables_of [] value

abbrev pub is_table_key : List ℕ → Bool
is_table_key name = bytes_eq name (codes "kind") || bytes_eq name (codes "points") || bytes_eq name (codes "latest")

-- a key of a table that there is not; those of tables that are too many count
unfoldable pub has_unknown_table_key : Option Data → Bool
has_unknown_table_key value = list_any (λ (t : Data). has_other_key is_table_key (members_of (Some t))) (items_of value)

-- the name of the kind that a table is for
abbrev pub kind_name : NamedTable → List ℕ
kind_name table = table.kind

-- a table has 1 to 32 points at seconds that rise
abbrev pub is_right : NamedTable → Bool
is_right table = is_table table.points table.latest

-- each table has, and no kind has two tables
unfoldable pub are_right : List NamedTable → Bool
are_right tables = list_all is_right tables && are_distinct (map kind_name tables)
