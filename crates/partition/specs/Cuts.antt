-- The cuts by which a network is divided into partitions.
use Rattle.std.specs.Prelude.{◌≡◌, ℕ, zero, suc, ◌+◌, ◌-◌, ◌*◌, ◌/◌, ◌<◌, ◌≤◌, false, List, [], ◌∷◌, ◌++◌, length, get_or, nat_le, if◌then◌else◌}
use Rattle.rows.specs.declared.network.NodeRow.{NodeRow}
use Rattle.partition.specs.{Axes.across, Axes.lies_before, declared.axes.Axis.Axis, declared.axes.Axis.TheVariants.X}

-- how many of so many nodes belong to the partitions before p, of so many partitions
abbrev pub nodes_before : ℕ → ℕ → ℕ → ℕ
nodes_before nodes parts p = p * nodes / parts

-- a cut along an axis: it parts the partitions from first on that are below middle from the others that are below end
pub record Cut : Type 0 where
  pub axis : Axis
  pub first : ℕ
  pub middle : ℕ
  pub end : ℕ

-- The cuts of so many partitions from first on: the lower half, rounded down, is cut from the rest along the axis, and each of the two
-- along the other axis, down to single partitions. As many levels as there are partitions are enough.
unfoldable pub cuts_from : ℕ → Axis → ℕ → ℕ → List Cut
cuts_from zero axis first count = []
cuts_from (suc depth) axis first count =
    let low = count / 2 in
    if nat_le count 1 then []
    else record { axis = axis; first = first; middle = first + low; end = first + count }
    ∷ (cuts_from depth (across axis) first low ++ cuts_from depth (across axis) (first + low) (count - low))

-- the cuts of all partitions, the first one along the axis of x
abbrev pub cuts : ℕ → List Cut
cuts parts = cuts_from parts X 0 parts

-- whether of these nodes, which stand from place `before` on, none of the partitions below the middle of a cut comes after one of the
-- others, where the nodes of each partition follow one another
abbrev pub is_sorted_at : List NodeRow → ℕ → ℕ → List ℕ → Cut → Type 0
is_sorted_at nodes parts before members c =
    (i j : ℕ) → nodes_before (length nodes) parts c.first ≤ i → i < nodes_before (length nodes) parts c.middle
    → nodes_before (length nodes) parts c.middle ≤ j → j < nodes_before (length nodes) parts c.end
    → lies_before c.axis nodes (get_or members (j - before) 0) (get_or members (i - before) 0) ≡ false
