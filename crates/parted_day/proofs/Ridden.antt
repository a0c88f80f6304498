-- On which link somebody rides, by what stands on the links of a partition.
use Rattle.traffic.proofs.Common.{◌≡◌, ◌⊎◌, ℕ, zero, suc, ◌+◌, ◌<◌, ◌≤◌, Bool, List, [], ◌∷◌, ◌++◌, ◌∙◌, ap, sym, subst, arith, inl, inr, cases_Bool, cases_lt}
use Rattle.traffic.proofs.Common.{eqb, eqb-true, eqb-false, length, length-set, get_or, get_or-set_same, get_or-set_other, set, if◌then◌else◌, sum_by-cons}
use Rattle.traffic.proofs.Common.{Setup, World, LinkState, at, listed, recursion_from_All}
use Rattle.traffic.specs.declared.{riders.Rider.Rider, stage.Stage.Stage, stage.Stage.TheVariants.Queue, stage.Stage.TheVariants.Buffer}
use Rattle.traffic.specs.declared.{stage.Stage.TheVariants.Wait, stage.Stage.TheVariants.Bay, world.Row.Row}
use Rattle.std.{proofs.lemmas.List.Elements.All-from_get_or, specs.List.AllByRecursion as Each, specs.Prelude.is_some}
use Rattle.law_in_range.specs.{Rows.Counts, Setups.IsFitSetup}
use Rattle.law_one_place.proofs.{Boarding.one_rider, Places.among_riders, Places.rides}
use Rattle.law_partitions.proofs.Tells.{listed-cons, listed-append}
use Rattle.law_own_worlds.{proofs.Knowing.unheard_known, proofs.Making.made, specs.Making.own_world, specs.OwnWorlds.IsOwnWorld}
use Rattle.law_parts_of_days.{proofs.Riding.riders_length, proofs.Riding.rows_length, specs.Riding.put_riders, specs.Riding.put_rows, specs.Riding.put_links}
use Rattle.law_last_parcels.specs.Last.{IsListedOn}
use Rattle.parts.specs.{Owners.Owner, Owners.lag, Parts.Held, Parts.held}
use Rattle.queue_link.specs.Links.{LinkView, all_rows}
use Rattle.node_move.specs.NodeStates.{no_link}
use Rattle.node_seconds.specs.Networks.{lane}
use Rattle.part_links.{proofs.Standing.link_is, specs.Links.LinksStandAt}
use Rattle.divided_day.specs.Slots.{link_in, slot_count}
use Rattle.part_seconds.proofs.Slots.{slot_of}

-- THE TABLE has link L of person i
module _ (i L : ℕ) where
  riders_put : (l : ℕ) (rs : List Rider) (table : List ℕ) → i < length table → (1 ≤ among_riders i rs → l ≡ L)
      → (1 ≤ among_riders i rs) ⊎ (get_or table i 0 ≡ L) → get_or (put_riders l rs table) i 0 ≡ L
  unfolding put_riders
  riders_put l [] table lt on (inl some) = absurd (omega arith)
  riders_put l [] table lt on (inr was) = was
  riders_put l (r ∷ rs) table lt on was =
      let c = sum_by-cons (one_rider i) r rs in
      let n = length-set table r.person l in
      elim (cases_Bool (eqb r.person i)) [
        | inl e ↦
            let d : among_riders i (r ∷ rs) ≡ 1 + among_riders i rs = c ∙ ap (λ (b : Bool). (if b then 1 else 0) + among_riders i rs) e in
            let here : get_or (set table r.person l) i 0 ≡ L
            = ap (λ (k : ℕ). get_or (set table k l) i 0) (eqb-true r.person i e) ∙ get_or-set_same table i l 0 lt ∙ on (omega arith) in
            riders_put l rs (set table r.person l) (omega arith) (λ some. on (omega arith)) (inr here)
        | inr e ↦
            let d : among_riders i (r ∷ rs) ≡ 0 + among_riders i rs = c ∙ ap (λ (b : Bool). (if b then 1 else 0) + among_riders i rs) e in
            let kept = get_or-set_other table r.person i l 0 (λ q. eqb-false r.person i e (sym q)) in
            let later : (1 ≤ among_riders i rs) ⊎ (get_or (set table r.person l) i 0 ≡ L)
            = elim was [ inl some ↦ inl (omega arith) | inr h ↦ inr (kept ∙ h) ] in
            riders_put l rs (set table r.person l) (omega arith) (λ some. on (omega arith)) later
      ]

  rows_put : (l : ℕ) (rows : List Row) (table : List ℕ) → i < length table → (1 ≤ listed i rows → l ≡ L)
      → (1 ≤ listed i rows) ⊎ (get_or table i 0 ≡ L) → get_or (put_rows l rows table) i 0 ≡ L
  unfolding put_rows
  rows_put l [] table lt on (inl some) = absurd (omega arith)
  rows_put l [] table lt on (inr was) = was
  rows_put l (r ∷ rs) table lt on was =
      let c = listed-cons i r rs in
      let one = put_riders l r.vehicle.riders table in
      let n = riders_length l r.vehicle.riders table in
      elim (cases_lt 0 (rides i r.vehicle)) [
        | inl some ↦
            let here = riders_put l r.vehicle.riders table lt (λ h. on (omega arith)) (inl (omega arith)) in
            rows_put l rs one (omega arith) (λ h. on (omega arith)) (inr here)
        | inr none ↦
            let later : (1 ≤ listed i rs) ⊎ (get_or one i 0 ≡ L) = elim was [
              | inl h ↦ inl (omega arith)
              | inr h ↦ inr (riders_put l r.vehicle.riders table lt (λ g. on (omega arith)) (inr h))
            ] in
            rows_put l rs one (omega arith) (λ h. on (omega arith)) later
      ]

  -- he is listed on link L alone
  abbrev OnlyThere : LinkView → Type 0
  OnlyThere v = 1 ≤ listed i (all_rows v.lists) → v.numbers.link ≡ L

  -- and there he is
  record IsOnOne (links : List LinkView) : Type 0 where
    slot : ℕ
    there : slot < length links
    some : 1 ≤ listed i (all_rows (lane links slot).lists)

  next_slot : (v : LinkView) (vs : List LinkView) (k : ℕ) → k < length (v ∷ vs) → 1 ≤ listed i (all_rows (lane (v ∷ vs) k).lists)
      → listed i (all_rows v.lists) ≤ 0 → IsOnOne vs
  next_slot v vs zero lt some none = absurd (omega arith)
  next_slot v vs (suc k) lt some none = record { slot = k; there = omega arith; some = some }

  links_put : (links : List LinkView) (table : List ℕ) → i < length table → Each OnlyThere links
      → IsOnOne links ⊎ (get_or table i 0 ≡ L) → get_or (put_links links table) i 0 ≡ L
  unfolding put_links
  links_put [] table lt on (inl h) = absurd (let g = h.there in omega arith)
  links_put [] table lt on (inr was) = was
  links_put (v ∷ vs) table lt on was =
      let l = v.numbers.link in
      let rows = all_rows v.lists in
      let one = put_rows l rows table in
      let n = rows_length l rows table in
      elim (cases_lt 0 (listed i rows)) [
        | inl some ↦ links_put vs one (omega arith) on.1 (inr (rows_put l rows table lt on.0 (inl (omega arith))))
        | inr none ↦
            let later : IsOnOne vs ⊎ (get_or one i 0 ≡ L) = elim was [
              | inl h ↦ inl (next_slot v vs h.slot h.there h.some none)
              | inr h ↦ inr (rows_put l rows table lt on.0 (inr h))
            ] in
            links_put vs one (omega arith) on.1 later
      ]

-- the lists of a link, one after the other
all_listed : (i : ℕ) (q b w y : List Row) → listed i (q ++ (b ++ (w ++ y))) ≡ listed i q + (listed i b + (listed i w + listed i y))
all_listed i q b w y =
    let c = listed-append i q (b ++ (w ++ y)) in
    let d = listed-append i b (w ++ y) in
    let e = listed-append i w y in
    omega arith

-- BY WHAT A PARTITION HOLDS
module _ (S : Setup) (own : Owner) (p t : ℕ) (z : Counts) (fit : IsFitSetup z S) (links : List LinkView)
    (stand : LinksStandAt (link_in S own p) (slot_count S own p) S t links (own_world S t (held S own p t))) where
  abbrev H : Held
  H = held S own p t

  abbrev V : World
  V = own_world S t H

  pub is_own : IsOwnWorld S own p t (λ i. is_some (H.person i)) H V
  is_own = made S own p t H (unheard_known S own (lag S own) p t z fit)

  -- how often somebody is listed on the link in a slot
  in_lists : ℕ → ℕ → ℕ
  in_lists i m = listed i (H.list m Queue) + (listed i (H.list m Buffer) + (listed i (H.list m Wait) + listed i (H.list m Bay)))

  listed_in : (i k : ℕ) → k < slot_count S own p → listed i (all_rows (lane links k).lists) ≡ in_lists i (link_in S own p k)
  unfolding in_lists
  listed_in i k lt =
      let m = link_in S own p k in
      let q = ap (listed i) (is_own.world.list m Queue) in
      let b = ap (listed i) (is_own.world.list m Buffer) in
      let w = ap (listed i) (is_own.world.list m Wait) in
      let y = ap (listed i) (is_own.world.list m Bay) in
      let all = all_listed i (at m Queue V) (at m Buffer V) (at m Wait V) (at m Bay V) in
      let same : listed i (all_rows (lane links k).lists) ≡ listed i (at m Queue V ++ (at m Buffer V ++ (at m Wait V ++ at m Bay V)))
      = ap (λ (L : LinkState). listed i (L.queue ++ (L.buffer ++ (L.wait ++ L.bay)))) (stand.lists k lt) in
      omega arith

  in_one : (i m : ℕ) (s : Stage) → 1 ≤ listed i (H.list m s) → 1 ≤ in_lists i m
  unfolding in_lists
  in_one i m Queue some = omega arith
  in_one i m Buffer some = omega arith
  in_one i m Wait some = omega arith
  in_one i m Bay some = omega arith

  on_link : (i l m : ℕ) → IsListedOn S own p t i l → 1 ≤ in_lists i m → m ≡ l
  unfolding in_lists
  on_link i l m h some =
      elim (cases_lt 0 (listed i (H.list m Queue))) [
        | inl q ↦ h.only m Queue (omega arith)
        | inr nq ↦ elim (cases_lt 0 (listed i (H.list m Buffer))) [
          | inl b ↦ h.only m Buffer (omega arith)
          | inr nb ↦ elim (cases_lt 0 (listed i (H.list m Wait))) [
            | inl w ↦ h.only m Wait (omega arith)
            | inr nw ↦ h.only m Bay (omega arith)
          ]
        ]
      ]

  -- the table has the link on which he is listed
  pub table_has : (i l : ℕ) (table : List ℕ) → i < length table → IsListedOn S own p t i l → get_or (put_links links table) i 0 ≡ l
  table_has i l table lt h =
      let slot = slot_of S own p l h.there h.own_link in
      let k = slot.0 in
      let k_there = slot.1.0 in
      let count = stand.count in
      let some : 1 ≤ in_lists i (link_in S own p k)
      = subst (λ (m : ℕ). 1 ≤ in_lists i m) (sym slot.1.1) (in_one i l h.stage h.some) in
      let e = listed_in i k k_there in
      let one : IsOnOne i l links = record { slot = k; there = omega arith; some = omega arith } in
      let each : Each (OnlyThere i l) links = recursion_from_All (OnlyThere i l) links (All-from_get_or (OnlyThere i l) links no_link
      (λ j jlt here. (
      let there : j < slot_count S own p = omega arith in
      let f = listed_in i j there in
      link_is S (link_in S own p j) (lane links j) (stand.numbers j there) ∙ on_link i l (link_in S own p j) h (omega arith)))) in
      links_put i l links table lt each (inl one)
