-- The order of nodes along an axis.
use Rattle.std.specs.Prelude.{ℕ, ℤ, pos, Bool, not, ◌&&◌, ◌||◌, List, get_or, nat_lt, int_lt}
use Rattle.rows.specs.declared.network.NodeRow.{NodeRow}
use Rattle.partition.specs.declared.axes.Axis.{Axis, TheVariants.X, TheVariants.Y}

abbrev pub across : Axis → Axis
across X = Y
across Y = X

abbrev pub node_at : List NodeRow → ℕ → NodeRow
node_at nodes n = get_or nodes n (record { x = pos 0; y = pos 0 })

-- where a node lies along an axis
abbrev pub coordinate : Axis → List NodeRow → ℕ → ℤ
coordinate X nodes n = (node_at nodes n).x
coordinate Y nodes n = (node_at nodes n).y

-- whether node a comes before node b along an axis: its coordinate is less, or it is the same and the number is less
abbrev pub lies_before : Axis → List NodeRow → ℕ → ℕ → Bool
lies_before axis nodes a b =
    let x = coordinate axis nodes a in
    let y = coordinate axis nodes b in
    int_lt x y || (not (int_lt y x) && nat_lt a b)
