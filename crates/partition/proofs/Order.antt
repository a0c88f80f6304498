-- The order of nodes along an axis is total.
use Rattle.std.proofs.Common.{◌≡◌, ℕ, Bool, true, false, refl, sym, ◌∙◌, subst, cond, arith, List, inl, inr}
use Rattle.std.{proofs.lemmas.List.Sorted.ranks_by, specs.Cmp.IsStrictWeakOrder, specs.Cmp.IsTotalOrder, specs.Cmp.nat_cmp_total, specs.Cmp.int_cmp_total}
use Rattle.std.specs.{Cmp.on_total, Cmp.then_total, List.Sorted.IsSortedBy, Ordering.is_lt, Ordering.ordering_then, Ordering.int_cmp, Ordering.nat_cmp}
use Rattle.std.specs.Prelude.{ℤ, not, ◌&&◌, ◌||◌, nat_lt, int_lt, IsSortedByKey}
use Rattle.std.specs.declared.cmp.Ordering.{Ordering, TheVariants.Less, TheVariants.Equal, TheVariants.Greater}
use Rattle.traffic.proofs.Common.{cases_Bool, ltb-false, true≢false}
use Rattle.rows.specs.declared.network.NodeRow.{NodeRow}
use Rattle.partition.specs.{Axes.coordinate, Axes.lies_before, declared.axes.Axis.Axis}

abbrev pub Spot : Type 0
Spot = ℤ × ℕ

abbrev pub spot_of : Axis → List NodeRow → ℕ → Spot
spot_of axis nodes n = (coordinate axis nodes n, n)

abbrev pub spot_cmp : Spot → Spot → Ordering
spot_cmp x y = ordering_then (int_cmp x.0 y.0) (nat_cmp x.1 y.1)

spot_total : IsTotalOrder spot_cmp
spot_total = then_total (on_total (λ (s : Spot). s.0) int_cmp_total) (on_total (λ (s : Spot). s.1) nat_cmp_total)

by_tests : (s t u v : Bool) → is_lt (ordering_then (cond s Less (cond t Greater Equal)) (cond u Less (cond v Equal Greater))) ≡ (s || (not t && u))
by_tests true t u v = refl
by_tests false true u v = refl
by_tests false false true v = refl
by_tests false false false true = refl
by_tests false false false false = refl

-- the order of the sort is that along the axis
pub sorts_along : (axis : Axis) (nodes : List NodeRow) (a b : ℕ) → is_lt (spot_cmp (spot_of axis nodes a) (spot_of axis nodes b)) ≡ lies_before axis nodes a b
sorts_along axis nodes a b = by_tests (int_lt (coordinate axis nodes a) (coordinate axis nodes b)) (int_lt (coordinate axis nodes b) (coordinate axis nodes a)) (nat_lt a b) _

pub order_along : (axis : Axis) (nodes : List NodeRow) → IsStrictWeakOrder (lies_before axis nodes)
order_along axis nodes = subst IsStrictWeakOrder (λ i a b. sorts_along axis nodes a b i) (ranks_by spot_total (spot_of axis nodes))

pub sorted_along : (axis : Axis) (nodes : List NodeRow) (xs : List ℕ) → IsSortedByKey (spot_of axis nodes) spot_cmp xs → IsSortedBy (lies_before axis nodes) xs
sorted_along axis nodes xs up k d a b = sym (sorts_along axis nodes _ _) ∙ up k d a b

neither : (s t u v : Bool) → (s || (not t && u)) ≡ false → (t || (not s && v)) ≡ false → (u ≡ false) × (v ≡ false)
neither true t u v h g = absurd (true≢false h)
neither false true u v h g = absurd (true≢false g)
neither false false u v h g = (h, g)

-- of two nodes the one comes before the other
pub one_before : (axis : Axis) (nodes : List NodeRow) (a b : ℕ) → lies_before axis nodes b a ≡ false → (a ≡ b → ⊥) → lies_before axis nodes a b ≡ true
one_before axis nodes a b h apart =
    elim (cases_Bool (lies_before axis nodes a b)) [
      | inl e ↦ e
      | inr e ↦
          let r = neither (int_lt (coordinate axis nodes b) (coordinate axis nodes a)) (int_lt (coordinate axis nodes a) (coordinate axis nodes b)) (nat_lt b a) (nat_lt a b) h e in
          let p = ltb-false b a r.0 in
          let q = ltb-false a b r.1 in
          absurd (apart (omega arith))
    ]
