-- The vehicles of a parcel come to the links of a partition, in their slots.
use Rattle.traffic.proofs.Common.{◌≡◌, ℕ, ◌+◌, ◌<◌, ◌≤◌, true, List, [], ◌∷◌, ◌∙◌, ap, refl, sym, arith, inl, inr, cases_Bool, eqb, eqb-true, length, get_or}
use Rattle.traffic.proofs.Common.{map, filter, recursion_from_All, Option, Some, Setup, seconds_of}
use Rattle.traffic.{proofs.Each.each_map, specs.declared.stage.Stage.TheVariants.Queue, specs.declared.world.Row.Row}
use Rattle.std.specs.List.{AllByRecursion as Each}
use Rattle.parts.specs.{Owners.Owner, Owners.owner_of, Owners.begins_in, Owners.leads, Owners.near, Owners.lag, Parts.Passed, Parts.entering_row, Parts.out}
use Rattle.law_partitions.{proofs.Lags.lag-down, proofs.Rebuilt.rebuilt, specs.Alone.rows_to}
use Rattle.law_parcels.specs.Hearing.{IsBetween}
use Rattle.queue_link.specs.{Links.LinkView, Links.row_on, Numbers.numbers_of, declared.numbers.LinkNumbers.LinkNumbers}
use Rattle.node_seconds.{proofs.Lanes.slot_is, specs.Networks.lane, specs.Networks.slot_in, specs.Networks.accepted_all}
use Rattle.part_links.{proofs.Standing.link_is, specs.Links.IsLink}
use Rattle.part_nodes.proofs.{Crossings.rows_into, Entered.all_accepted, Entered.queued_on, Entered.ComesBy, Slots.AreNumberedBy, Slots.slot_finds}
use Rattle.part_seconds.{proofs.Slots.has_links, specs.Arriving.entered, specs.Slots.extent_of}
use Rattle.divided_day.specs.Slots.{link_in, slot_count, AreSlots}
use Rattle.parted_day.{proofs.Borders.LeadsOver, proofs.Borders.other_of, proofs.Borders.leads_over, specs.Absorbed.with_rows}

-- ROWS
-- of link l that of a vehicle which entered it in second s
row_is : (S : Setup) (s l : ℕ) (r : Row) → r ≡ entering_row S s r.vehicle → r.link ≡ l → row_on l Queue (s + seconds_of S l) r.vehicle ≡ r
row_is S s l r e on =
    let m = get_or r.vehicle.route r.vehicle.place 0 in
    let at : m ≡ l = sym (ap (λ (x : Row). x.link) e) ∙ on in
    sym (e ∙ ap (λ (n : ℕ). row_on n Queue (s + seconds_of S n) r.vehicle) at)

rows_are : (S : Setup) (s l : ℕ) (ys : List Passed) → Each (λ (y : Passed). y.row ≡ entering_row S s y.row.vehicle) ys
    → rows_into l (s + seconds_of S l) (map entered ys) ≡ filter (λ (r : Row). eqb r.link l) (map (λ (y : Passed). y.row) ys)
rows_are S s l [] h = refl
rows_are S s l (y ∷ ys) h =
    let rest = rows_are S s l ys h.1 in
    elim (cases_Bool (eqb y.row.link l)) [
      | inl e ↦
          let one = row_is S s l y.row h.0 (eqb-true y.row.link l e) in
          rw e (ap (λ (r : Row). r ∷ rows_into l (s + seconds_of S l) (map entered ys)) one
          ∙ ap (λ (rs : List Row). y.row ∷ rs) rest)
      | inr e ↦ rw e rest
    ]

-- SLOTS
numbered_seconds : (S : Setup) (l : ℕ) (v : LinkView) → IsLink S l v → v.numbers.seconds ≡ seconds_of S l
unfolding numbers_of
numbered_seconds S l v h = ap (λ (n : LinkNumbers). n.seconds) h.numbers

module _ (S : Setup) (own : Owner) (p q s t : ℕ) (slots : List ℕ) (are : AreSlots S own slots) (links : List LinkView)
    (count : length links ≡ slot_count S own p) (numbers : (k : ℕ) → k < slot_count S own p → IsLink S (link_in S own p k) (lane links k))
    (other : near S own q p ≡ true) (due : t ≡ s + lag S own q p) (between : IsBetween S own q p s) where
  abbrev ys : List Passed
  ys = (out S own q p s).vehicles

  abbrev place : ℕ → Option ℕ
  place = slot_in slots links

  numbered : AreNumberedBy (extent_of S own p) links
  numbered = record { count = count; numbers = λ k lt. link_is S (link_in S own p k) (lane links k) (numbers k lt) }

  over : (l : ℕ) → leads S own q p l ≡ true → LeadsOver S own q p l
  over l e = leads_over S own q p l (other_of S own p q other) e

  -- none comes to the end of its link before second t
  later : (l k : ℕ) → leads S own q p l ≡ true → k < length links → place l ≡ Some k → t ≤ s + (lane links k).numbers.seconds
  later l k e lt is =
      let w = over l e in
      let z = slot_is slots links l k is in
      let within : k < slot_count S own p = omega arith in
      let same : link_in S own p k ≡ l = sym (link_is S (link_in S own p k) (lane links k) (numbers k within)) ∙ z.2 in
      let takes : (lane links k).numbers.seconds ≡ seconds_of S l
      = numbered_seconds S (link_in S own p k) (lane links k) (numbers k within) ∙ ap (λ (n : ℕ). seconds_of S n) same in
      let down = lag-down S own l w.over in
      let lags : lag S own (begins_in S own l) (owner_of S own l) ≡ lag S own q p
      = ap (λ (a : ℕ). lag S own a (owner_of S own l)) w.begins ∙ ap (λ (b : ℕ). lag S own q b) w.ends in
      omega arith

  pub come_by : Each (ComesBy place t s links) (map entered ys)
  come_by =
      each_map (λ (y : Passed). leads S own q p y.row.link ≡ true) (ComesBy place t s links) entered
      (λ y e k lt is. later y.row.link k e lt is) ys between.vehicles

  -- each link has those that come to it
  pub accepted_is : (k : ℕ) → k < slot_count S own p
      → lane (accepted_all place s (map entered ys) links) k
      ≡ with_rows (rows_to (link_in S own p k) (Some (out S own q p s))) (lane links k)
  accepted_is k lt =
      let l = link_in S own p k in
      let v = lane links k in
      let there : k < length links = omega arith in
      let back = recursion_from_All (λ (y : Passed). y.row ≡ entering_row S s y.row.vehicle) ys (rebuilt S own q p s) in
      all_accepted place s l k (map entered ys) links there (numbered.numbers k lt)
      (λ m. slot_finds S (extent_of S own p) slots links m k (has_links S own p slots are) numbered lt)
      ∙ ap (λ (n : ℕ). queued_on v (rows_into l (s + n) (map entered ys))) (numbered_seconds S l v (numbers k lt))
      ∙ ap (λ (rs : List Row). queued_on v rs) (rows_are S s l ys back)
