-- What the steps of a port require, of the board's own channels.
use Rattle.std.proofs.Common.{◌≡◌, ℕ, zero, suc, ◌+◌, ◌*◌, ◌<◌, true, false, List, [], length, replicate, slice_index, Option, None, sym, ap, ◌∙◌, subst, refl}
use Rattle.std.proofs.{Common.arith, lemmas.List.length-map, lemmas.List.length-replicate}
use mathlib.Core.Option.{some}
use Rattle.atomic_table.specs.Table.{Me, Allows, Splits, Joins, opening}
use Rattle.cells.proofs.{Seats.splits, Seats.joins, Seats.opens, Seats.nothing_at, Steps.looks, Steps.publishes}
use Rattle.cells.specs.{Carried.AreOfSecond, Carried.CarriesBoth, Ports.IsBorder, Rule.contains, Rule.place, Rule.is_port, Rule.is_hub}
use Rattle.cells.specs.Rule.{hub_view, hub_after, hub_joined, spent_view, port_view, IsKept, AreChannelsOf, from_of, to_of, lag_of, twin_of, Looks, Publishes}
use Rattle.cells.specs.declared.{TheConstants.WORDS_APART, table.Border.Border, table.Channel.Channel, table.Layout.Layout, table.View.View}

module _ {R S : Type 0} (right : R → ℕ → ℕ → ℕ → Option S → Type 0) (about : Layout R) where
  reads_here : (slots id : ℕ) (me : Me (Option S) (View R)) (border : Border) → is_port me.0.role ≡ true
      → IsBorder about.channels.value.items me.0.partition border → Allows (IsKept right about) slots id me (place border.from)
      (λ x. x) (Looks right border (place border.from) me)
  reads_here slots id me border port ok = let cs : List Channel = about.channels.value.items in
      looks right about.run.value about.count (length cs) (from_of cs) (to_of cs) (lag_of cs)
      (twin_of cs) slots id me border port ok.inside ok.sender ok.receiver ok.late ok.twin

  pub reads : (cs : List Channel) → about.channels.value.items ≡ cs → (slots id : ℕ) (me : Me (Option S) (View R)) (border entry : Border)
      → border ≡ entry → is_port me.0.role ≡ true → IsBorder cs me.0.partition border
      → Allows (IsKept right about) slots id me (place border.from) (λ x. x) (Looks right entry (place border.from) me)
  reads cs is slots id me border entry same port ok = subst (λ r. Allows (IsKept right about) slots id me (place border.from)
      (λ x. x) (Looks right r (place border.from) me)) same
      (reads_here slots id me border port (subst (λ z. IsBorder z me.0.partition border) (sym is) ok))

  sends_here : (slots id : ℕ) (me : Me (Option S) (View R)) (new : ℕ) → is_port me.0.role ≡ true → new ≡ me.0.done + 1 → (cs : List Channel)
      → about.channels.value.items ≡ cs
      → AreOfSecond (right about.run.value) (length cs) (from_of cs) (to_of cs) (lag_of cs) (twin_of cs) me.0.partition me.0.done me.1
      → ((e : ℕ) → e < length cs → to_of cs e ≡ me.0.partition
      → CarriesBoth (right about.run.value) (length cs) (from_of cs) (to_of cs) (lag_of cs) (twin_of cs) me.0.partition me.0.done me.1 e)
      → ((e : ℕ) → e < length cs → to_of cs e ≡ me.0.partition → contains me.0.marks e ≡ true)
      → Allows (IsKept right about) slots id me (place me.0.partition) (λ _. new) (λ _ w. Publishes me w)
  sends_here slots id me new port next cs is good both all =
      let ks : List Channel = about.channels.value.items in
      let good' = subst (λ z. AreOfSecond (right about.run.value) (length z) (from_of z) (to_of z) (lag_of z)
      (twin_of z) me.0.partition me.0.done me.1)
      (sym is) good in
      let both' = subst (λ z. (e : ℕ) → e < length z → to_of z e ≡ me.0.partition
      → CarriesBoth (right about.run.value) (length z) (from_of z) (to_of z) (lag_of z) (twin_of z) me.0.partition me.0.done me.1 e)
      (sym is) both in
      let all' = subst (λ z. (e : ℕ) → e < length z → to_of z e ≡ me.0.partition → contains me.0.marks e ≡ true) (sym is) all in
      publishes right about.run.value about.count (length ks) (from_of ks) (to_of ks) (lag_of ks)
      (twin_of ks) slots id me new port next good' both' all'

  -- the same for the word p, and from any words for the run
  pub sends : (cs : List Channel) → about.channels.value.items ≡ cs → (slots id p new : ℕ) (me : Me (Option S) (View R))
      → me.0.partition ≡ p → is_port me.0.role ≡ true → new ≡ me.0.done + 1
      → AreOfSecond (right about.run.value) (length cs) (from_of cs) (to_of cs) (lag_of cs) (twin_of cs) p me.0.done me.1
      → ((e : ℕ) → e < length cs → to_of cs e ≡ p
      → CarriesBoth (right about.run.value) (length cs) (from_of cs) (to_of cs) (lag_of cs) (twin_of cs) p me.0.done me.1 e)
      → ((e : ℕ) → e < length cs → to_of cs e ≡ p → contains me.0.marks e ≡ true)
      → Allows (IsKept right about) slots id me (place p) (λ _. new) (λ _ w. Publishes me w)
  sends cs is slots id p new me at port next good both all =
      subst (λ q. AreOfSecond (right about.run.value) (length cs) (from_of cs) (to_of cs) (lag_of cs) (twin_of cs) q me.0.done me.1
      → ((e : ℕ) → e < length cs → to_of cs e ≡ q
      → CarriesBoth (right about.run.value) (length cs) (from_of cs) (to_of cs) (lag_of cs) (twin_of cs) q me.0.done me.1 e)
      → ((e : ℕ) → e < length cs → to_of cs e ≡ q → contains me.0.marks e ≡ true) → Allows (IsKept right about) slots id me (place q)
      (λ _. new) (λ _ w. Publishes me w)) at
      (λ a b d. sends_here slots id me new port next cs is a b d) good both all

  pub cuts : (count : ℕ) → about.count ≡ count → (id : ℕ) (v : View R) (p place : ℕ) → p ≡ place → is_hub v.role ≡ true → p < count
      → contains v.had_port p ≡ false → Splits {S = Option S} (IsKept right about) id v (hub_after v place) (port_view v.run place)
  cuts count is id v p place same hub lt no_port = let cs : List Channel = about.channels.value.items in
      subst (λ q. Splits {S = Option S} (IsKept right about) id v (hub_after v q) (port_view v.run q)) same
      (splits right about.run.value about.count (length cs) (from_of cs) (to_of cs) (lag_of cs) (twin_of cs) id v p hub
      (subst (λ z. p < z) (sym is) lt) no_port)

  pub merges : (id : ℕ) (v : View R) (other : ℕ) (w : View R) → is_hub v.role ≡ true → is_port w.role ≡ true
      → Joins {S = Option S} (IsKept right about) id v other w (hub_joined v w) spent_view
  merges id v other w hub port = let cs : List Channel = about.channels.value.items in
      joins right about.run.value about.count (length cs) (from_of cs) (to_of cs) (lag_of cs) (twin_of cs) id v other w hub port

  pub starts_with : (count : ℕ) (cs : List Channel) (words : List ℕ) (slots : ℕ) → about.count ≡ count → about.channels.value.items ≡ cs
      → AreChannelsOf count cs → length words ≡ WORDS_APART * count → ((p : ℕ) → slice_index words p ≡ 0) → slots ≡ 65 * length cs
      → IsKept right about (opening words (replicate slots None) (hub_view about.run.value [] []))
  starts_with count cs words slots is same g long zeros wide = let ks : List Channel = about.channels.value.items in
      opens right about.run.value about.count (length ks) (from_of ks) (to_of ks) (lag_of ks) (twin_of ks)
      (subst (λ z. AreChannelsOf about.count z) (sym same) (subst (λ z. AreChannelsOf z cs) (sym is) g)) words (replicate slots None) (long
      ∙ ap (λ (z : ℕ). WORDS_APART * z) (sym is)) zeros
      (length-map (replicate slots None) (λ (y : Option S). some y) ∙ length-replicate slots None ∙ wide
      ∙ ap (λ (z : List Channel). 65 * length z) (sym same))
      (λ k lt. nothing_at slots None k (let e = ap (λ (z : List Channel). length z) same in omega arith))

pub zeros_at : (n p : ℕ) → slice_index (replicate n 0) p ≡ 0
zeros_at zero p = refl
zeros_at (suc n) zero = refl
zeros_at (suc n) (suc p) = zeros_at n p
