-- Rows of a fit world are small, and those in a buffer go on.
use Rattle.traffic.proofs.Common.{◌≡◌, ℕ, List, length, [], ◌∷◌, arith, ◌<◌, true, ◌++◌, ◌≤◌, recursion_from_All, filter, link_state, LinkState, next_link}
use Rattle.traffic.proofs.{Common.World, Common.on, Common.VehicleState, Each.each_filter, Each.each_kept, Sublists.on_is}
use Rattle.traffic.specs.{Nodes.HaveNext, Nodes.HasNext, declared.node_views.InLink.InLink, declared.stage.Stage.Stage, declared.stage.Stage.TheVariants.Queue}
use Rattle.traffic.specs.declared.{stage.Stage.TheVariants.Buffer, stage.Stage.TheVariants.Wait, stage.Stage.TheVariants.Bay, world.Row.Row}
use Rattle.std.specs.List.{AllByRecursion as Each}
use Rattle.limits.specs.declared.TheConstants.{MAX_LENGTH}
use Rattle.law_in_range.specs.Rows.{Counts, IsFitVehicle, IsFitRow, IsFitWorld}
use Rattle.law_in_range.proofs.Sizes.{call_offset, buffer_next, buffer_next_link}
use Rattle.plain_turns.specs.Limits.{IsSmall, AreSmall}
use Rattle.plain_turns.specs.{OutLinks.AreNear, OutLinks.IsInLink, OutLinks.AreInLinks, declared.out_links.OutLinkRow.OutLinkRow}

is_small : (z : Counts) (v : VehicleState) → IsFitVehicle z v → IsSmall v
is_small z v h =
    let a = h.few_riders in
    let b = h.seats in
    let d = h.few_calls in
    record { riders = omega arith; seats = omega arith; departed = h.departed; offset = call_offset z v h; calls = omega arith }

are_small : (z : Counts) (rows : List Row) → Each (IsFitRow z) rows → AreSmall rows
are_small z [] h = tt
are_small z (r ∷ rs) h = (is_small z r.vehicle h.0.vehicle, are_small z rs h.1)

small_at : (z : Counts) (l : ℕ) (s : Stage) (W : World) → IsFitWorld z W → AreSmall (filter (on l s) W.rows)
small_at z l s W h = are_small z (filter (on l s) W.rows) (each_kept (IsFitRow z) (on l s) W.rows (recursion_from_All (IsFitRow z) W.rows h.rows))

pub state_small : (z : Counts) (l : ℕ) (W : World) (L : LinkState) → IsFitWorld z W → L ≡ link_state l W → AreSmall L.queue × AreSmall L.wait × AreSmall L.bay
state_small z l W L h e = rw e (small_at z l Queue W h, small_at z l Wait W h, small_at z l Bay W h)

-- the next links of all these are among so many
abbrev pub GoWithin : ℕ → List Row → Type 0
GoWithin links rows = Each (λ (r : Row). next_link r.vehicle < links) rows

abbrev GoesOn : ℕ → Row → Type 0
GoesOn links r = HasNext r.vehicle × (next_link r.vehicle < links)

goes_on : (z : Counts) (l : ℕ) (r : Row) → on l Buffer r ≡ true → IsFitRow z r → GoesOn z.links r
goes_on z l r e h =
    let buffer = (on_is l Buffer r e).0 in
    let few : length r.vehicle.route ≤ 1000 = h.vehicle.few_links in
    (record { next = buffer_next z r h buffer; route = omega arith }, buffer_next_link z r h buffer)

they_go : (links : ℕ) (rows : List Row) → Each (GoesOn links) rows → HaveNext rows × GoWithin links rows
they_go links [] h = (tt, tt)
they_go links (r ∷ rs) h = let rest = they_go links rs h.1 in ((h.0.0, rest.0), (h.0.1, rest.1))

pub going_at : (z : Counts) (l : ℕ) (W : World) → IsFitWorld z W → HaveNext (filter (on l Buffer) W.rows) × GoWithin z.links (filter (on l Buffer) W.rows)
going_at z l W h = they_go z.links (filter (on l Buffer) W.rows) (each_filter (IsFitRow z) (GoesOn z.links) (on l Buffer) (goes_on z l) W.rows (recursion_from_All (IsFitRow z) W.rows h.rows))

pub near_push : (xs : List OutLinkRow) (x : OutLinkRow) → AreNear xs → x.out_link.seconds ≤ MAX_LENGTH → AreNear (xs ++ x ∷ [])
near_push [] x h g = (g, tt)
near_push (y ∷ ys) x h g = (h.0, near_push ys x h.1 g)

pub in_links_push : (xs : List InLink) (x : InLink) → AreInLinks xs → IsInLink x → AreInLinks (xs ++ x ∷ [])
in_links_push [] x h g = (g, tt)
in_links_push (y ∷ ys) x h g = (h.0, in_links_push ys x h.1 g)
