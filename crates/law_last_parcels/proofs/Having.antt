-- Whom a partition has is as in the day, and who of them rides is listed on the link of his vehicle alone.
use Rattle.traffic.proofs.Common.{◌≡◌, ℕ, zero, suc, ◌-◌, ◌<◌, ◌≤◌, Bool, true, false, List, [], ◌∷◌, ◌∙◌, ap, refl, sym, subst, arith, inl, inr, cases_Bool}
use Rattle.traffic.proofs.Common.{cases_lt, and_parts, not, eqb, eqb-true, eq-eqb, ltb-true, ltb-false, not-true, nat_lt, length, take, filter, ◌&&◌, Some}
use Rattle.traffic.proofs.Common.{Option, VehicleId, Setup, World, person_of, at, on, rank, world_at, link_of_vehicle, listed, IsListed, recursion_from_All}
use Rattle.traffic.specs.declared.stage.Stage.{Stage, TheVariants.Queue, TheVariants.Buffer, TheVariants.Wait, TheVariants.Bay}
use Rattle.traffic.{specs.declared.world.Person.Person, specs.declared.world.Place.TheVariants.Riding, specs.declared.world.Row.Row, proofs.Each.each_weaker}
use Rattle.std.specs.{List.AllByRecursion as Each, Prelude.is_some}
use Rattle.law_in_range.specs.{Rows.Counts, Rows.IsFitRow, Setups.IsFitSetup}
use Rattle.law_one_place.proofs.Places.{rides}
use Rattle.law_sound_setups.specs.Setups.{IsSoundSetup}
use Rattle.parts.specs.Owners.{Owner, owner_of, owner_of_person, link_of_rider, lag}
use Rattle.parts.specs.Parts.{late_rows, all_late, known_list, mine, is_person, knows_of, has, unheard, held}
use Rattle.law_partitions.proofs.{Calms.listed_in_one, Enders.some_mine, Home.has-is, Listing.listed_home, Owning.all_some, Tells.listed-cons}
use Rattle.law_partitions.{proofs.Tells.listed-append, specs.Laws.SecondsAreLocal}
use Rattle.law_own_worlds.proofs.Knowing.{fit_at}
use Rattle.law_last_parcels.specs.Last.{IsListedOn, HasThem}

-- WHERE SOMEBODY IS LISTED
at_itself : (r : Row) → on r.link r.stage r ≡ true
at_itself r =
    let a = eq-eqb (rank r.stage) (rank r.stage) refl in
    let b = eq-eqb r.link r.link refl in
    rw (a, b) refl

-- in some list of a link that is there
record IsSomewhere (i count : ℕ) (rows : List Row) : Type 0 where
  link : ℕ
  stage : Stage
  there : link < count
  some : 1 ≤ listed i (filter (on link stage) rows)

more_listed : (i l : ℕ) (s : Stage) (r : Row) (rs : List Row) → 1 ≤ listed i (filter (on l s) rs) → 1 ≤ listed i (filter (on l s) (r ∷ rs))
more_listed i l s r rs h =
    elim (cases_Bool (on l s r)) [
      | inl e ↦ rw e (let c = listed-cons i r (filter (on l s) rs) in omega arith)
      | inr e ↦ rw e h
    ]

somewhere : (i count : ℕ) (rows : List Row) → Each (λ (r : Row). r.link < count) rows → 1 ≤ listed i rows → IsSomewhere i count rows
somewhere i count [] h some = absurd (omega arith)
somewhere i count (r ∷ rs) h some =
    let c = listed-cons i r rs in
    elim (cases_lt 0 (rides i r.vehicle)) [
      | inl lt ↦
          let d = listed-cons i r (filter (on r.link r.stage) rs) in
          let e = at_itself r in
          record { link = r.link; stage = r.stage; there = h.0; some = rw e (omega arith) }
      | inr ge ↦
          let y = somewhere i count rs h.1 (omega arith) in
          record { link = y.link; stage = y.stage; there = y.there; some = more_listed i y.link y.stage r rs y.some }
    ]

front_listed : (i k : ℕ) (rows : List Row) → listed i (take k rows) ≤ listed i rows
front_listed i zero rows = omega arith
front_listed i (suc k) [] = omega arith
front_listed i (suc k) (r ∷ rs) =
    let a = front_listed i k rs in
    let b = listed-cons i r rs in
    let c = listed-cons i r (take k rs) in
    omega arith

module _ (S : Setup) (own : Owner) (parts p t : ℕ) (z : Counts) (sound : IsSoundSetup S) (local : SecondsAreLocal S own parts)
    (fit : IsFitSetup z S) where
  abbrev W : World
  W = world_at S t

  abbrev has_him : ℕ → Bool
  has_him i = has S own (lag S own) p t i

  held_person : (i : ℕ) → (held S own p t).person i ≡ mine (has_him i) (person_of i W)
  unfolding unheard
  held_person i = refl

  has_is : (i : ℕ) → is_some ((held S own p t).person i) ≡ true → has_him i ≡ true
  has_is i e = sym (ap (λ (o : Option Person). is_some o) (held_person i) ∙ some_mine (has_him i) (person_of i W)) ∙ e

  state : (i : ℕ) → is_some ((held S own p t).person i) ≡ true → (held S own p t).person i ≡ Some (person_of i W)
  state i e = held_person i ∙ ap (λ (b : Bool). mine b (person_of i W)) (has_is i e)

  is_there : (i : ℕ) → has_him i ≡ true → i < length S.persons
  is_there i e =
      ltb-true i (length S.persons)
      (and_parts (is_person S i) (eqb (owner_of_person S own W i) p && knows_of S own (lag S own) p t i) e).0

  -- THE LISTS
  held_list : (l : ℕ) (s : Stage) → eqb (owner_of S own l) p ≡ true → (held S own p t).list l s ≡ known_list S own (lag S own) t l s
  unfolding unheard
  held_list l s e = rw e refl

  held_none : (l : ℕ) (s : Stage) → eqb (owner_of S own l) p ≡ false → (held S own p t).list l s ≡ []
  unfolding unheard
  held_none l s e = rw e refl

  few_known : (i l : ℕ) (s : Stage) → listed i (known_list S own (lag S own) t l s) ≤ listed i (at l s W)
  few_known i l Queue = front_listed i (length (at l Queue W) - length (late_rows S own (lag S own) t l)) (at l Queue W)
  few_known i l Buffer = omega arith
  few_known i l Wait = omega arith
  few_known i l Bay = omega arith

  -- of a link with none among the late rows all are known
  all_known : (i l : ℕ) (s : Stage) → l < length S.links → listed i (late_rows S own (lag S own) t l) ≤ 0
      → listed i (at l s W) ≤ listed i (known_list S own (lag S own) t l s)
  all_known i l Queue lt none =
      let e = ap (listed i) (local.short t l lt)
      ∙ listed-append i (known_list S own (lag S own) t l Queue) (late_rows S own (lag S own) t l) in
      omega arith
  all_known i l Buffer lt none = omega arith
  all_known i l Wait lt none = omega arith
  all_known i l Bay lt none = omega arith

  module _ (i : ℕ) (v : VehicleId) (had : has_him i ≡ true) (riding : (person_of i W).place ≡ Riding v) where
    lt : i < length S.persons
    lt = is_there i had

    his : IsListed i W.rows (Riding v)
    his = subst (IsListed i W.rows) riding (listed_in_one S t i lt)

    abbrev ridden : ℕ
    ridden = link_of_rider i W.rows

    is_on : (l : ℕ) (s : Stage) → 1 ≤ listed i (at l s W) → ridden ≡ l
    is_on l s some = listed_home S W l s i (person_of i W).element (Riding v) his some

    his_link : link_of_vehicle v W.rows ≡ ridden
    his_link = local.rides t i v lt riding

    parts_of : (eqb (owner_of S own ridden) p ≡ true) × (listed i (all_late S own (lag S own) p t) ≤ 0)
    parts_of =
        let n = listed i (all_late S own (lag S own) p t) in
        let g = and_parts (eqb (owner_of S own (link_of_rider i W.rows)) p) (not (nat_lt 0 n))
        (sym (has-is S own (lag S own) p t i lt (Riding v) riding) ∙ had) in
        (g.0, ltb-false 0 n (not-true (nat_lt 0 n) g.1))

    where_is : IsSomewhere i (length S.links) W.rows
    where_is =
        let n = fit.links in
        let one = his.0 in
        somewhere i (length S.links) W.rows
        (each_weaker (IsFitRow z) (λ (r : Row). r.link < length S.links) (λ r h. (let m = h.link in omega arith)) W.rows
        (recursion_from_All (IsFitRow z) W.rows (fit_at z S t fit).rows))
        (omega arith)

    listed_on : IsListedOn S own p t i (link_of_vehicle v W.rows)
    listed_on =
        let y = where_is in
        let l = link_of_vehicle v W.rows in
        let on_y : ridden ≡ y.link = is_on y.link y.stage y.some in
        let same : y.link ≡ l = sym on_y ∙ sym his_link in
        let mine_y : eqb (owner_of S own y.link) p ≡ true = ap (λ (m : ℕ). eqb (owner_of S own m) p) (sym on_y) ∙ parts_of.0 in
        let there = y.there in
        let none = parts_of.1 in
        let few = all_some i (late_rows S own (lag S own) t) (λ (m : ℕ). eqb (owner_of S own m) p) y.link 0 (length S.links)
        (omega arith) (omega arith)
        mine_y in
        let all = all_known i y.link y.stage there (omega arith) in
        let some = y.some in
        let here : 1 ≤ listed i ((held S own p t).list y.link y.stage)
        = (let e = ap (listed i) (held_list y.link y.stage mine_y) in omega arith) in
        record {
          there = subst (λ (m : ℕ). m < length S.links) same there;
          own_link = ap (owner_of S own) (sym same) ∙ eqb-true (owner_of S own y.link) p mine_y;
          stage = y.stage;
          some = subst (λ (m : ℕ). 1 ≤ listed i ((held S own p t).list m y.stage)) same here;
          only = λ m s h. elim (cases_Bool (eqb (owner_of S own m) p)) [
            | inl e ↦
                let a = ap (listed i) (held_list m s e) in
                let b = few_known i m s in
                sym (is_on m s (omega arith)) ∙ sym his_link
            | inr e ↦ let a = ap (listed i) (held_none m s e) in absurd (omega arith)
          ];
        }

  pub has_them : HasThem S own p t
  has_them = record {
    state = state;
    rides = λ i v e riding. listed_on i v (has_is i e) riding;
  }
