-- What a partition of a town knows in the course of a second: of its places, its links, and who waits at its stops.
use Rattle.traffic.proofs.Common.{◌≡◌, ℕ, ◌+◌, ◌-◌, ◌<◌, ◌≤◌, Bool, true, false, List, [], ◌∷◌, ◌++◌, ◌∙◌, ap, refl, sym, subst, arith, inl, inr, cases_Bool}
use Rattle.traffic.proofs.Common.{cases_lt, cond, eqb, eqb-true, length, get_or_past, map, nat_le, Option, Setup, World, link_row, at, holes_at, hole_of}
use Rattle.traffic.proofs.Common.{storage_of, person_of, nobody, world_at, waiters, next_link}
use Rattle.traffic.specs.declared.stage.Stage.{Stage, TheVariants.Queue, TheVariants.Buffer, TheVariants.Wait, TheVariants.Bay}
use Rattle.traffic.specs.declared.world.{Person.Person, Row.Row}
use Rattle.std.{proofs.lemmas.List.Sums.sum_by-cons, specs.List.AllByRecursion as Each}
use Rattle.events.specs.declared.event.Phase.TheVariants as phase
use Rattle.town.specs.declared.day_input.DayInput.{DayInput}
use Rattle.law_in_range.{proofs.Days.chosen_fit, specs.Rows.Counts, specs.Rows.IsFitWorld}
use Rattle.law_in_range.specs.Setups.{IsFitSetup, counts_in, HaveFittingPlans}
use Rattle.law_joined_routes.{proofs.Routes.town_goes_on, specs.Going.GoesOn}
use Rattle.parts.specs.Owners.{Owner, owner_of, begins_in, lag}
use Rattle.parts.specs.Parts.{Held, lasting, mine, has, unheard, ready}
use Rattle.law_partitions.{proofs.Setting.lawful, proofs.Setting.are_local, specs.Laws.IsOwner, specs.Premises.Lawful}
use Rattle.law_own_worlds.proofs.{Days.own_second, Fitting.ready_fit, Knowing.ready_known, Making.made, Making.one_person, Seconds.nowhere3, Standing.stands}
use Rattle.law_own_worlds.{proofs.Staying.stays_fit, specs.Days.is_there, specs.Days.StandsAsInTheDay, specs.Making.or_nobody}
use Rattle.law_own_worlds.specs.OwnWorlds.{IsOwnWorld, IsSecondOf, StaysFit}
use Rattle.law_own_seconds.proofs.{Others.others_empty, Places.places_known, Places.leave_holes}
use Rattle.law_own_seconds.specs.{Leaving.LeaveHoles, Others.OthersAreEmpty, Places.KnowsPlaces, Places.PlacesAreKnown}
use Rattle.law_parts_of_days.proofs.{Through.nodes_are, Waiting.nodes_keep_waiters}
use Rattle.law_parts_of_days.proofs.Worlds.{fit_setup, sound_setup, consistent_setup, phases_fit, phases_in_one, waited_before}
use Rattle.law_sleeping.specs.Marks.{before_nodes, before_links}
use Rattle.part_lines.proofs.News.{IsBefore, WaitBefore}
use Rattle.part_nodes.specs.Phase.{taken_before, BufferWaits, GoOnThere}
use Rattle.part_places.{proofs.Counting.one, specs.Taking.still}
use Rattle.part_seconds.specs.Settling as settling
use Rattle.part_seconds.proofs.Names.{in_second}

-- HOLES THAT COUNT
-- those that come free in second u or later
pub still_lasting : (u h : ℕ) (hs : List ℕ) → still u (map (λ (s : ℕ). s + h) hs) ≡ length (lasting u h hs)
still_lasting u h [] = refl
still_lasting u h (s ∷ hs) =
    let i = still_lasting u h hs in
    let c = sum_by-cons (one (λ (x : ℕ). nat_le u x)) (s + h) (map (λ (x : ℕ). x + h) hs) in
    elim (cases_Bool (nat_le u (s + h))) [
      | inl e ↦
          let f = c ∙ ap (λ (b : Bool). cond b 1 0 + still u (map (λ (x : ℕ). x + h) hs)) e in
          rw e (f ∙ (omega (i, arith)))
      | inr e ↦
          let f = c ∙ ap (λ (b : Bool). cond b 1 0 + still u (map (λ (x : ℕ). x + h) hs)) e in
          rw e (f ∙ (omega (i, arith)))
    ]

-- as many places of a link that begins here are taken in the world as by what is held
pub known_before : (S : Setup) (own : Owner) (p u m : ℕ) (H : Held) (V : World) → KnowsPlaces S own p u H V → m < length S.links
    → begins_in S own m ≡ p → taken_before S u m V ≡ H.rows m + still u ((settling.places_known S H).frees m)
known_before S own p u m H V know lt b =
    let k = know m lt b in
    let v = still_lasting u (hole_of S m) (holes_at m V) in
    let h = still_lasting u (hole_of S m) (H.holes m) in
    omega arith

-- who waits for a place waits on in a world, or from a second on, in which no place of the links out of its node is free that was taken
pub waits_known : (S : Setup) (end p q t l : ℕ) (wake : Option ℕ) (V U : World) (rows : List Row) → Each (GoesOn S l) rows
    → ((m : ℕ) → m < length S.links → (link_row S m).from ≡ (link_row S l).to → storage_of S m ≤ taken_before S p m V
    → storage_of S m ≤ taken_before S q m U)
    → BufferWaits S end p t l wake V rows → BufferWaits S end q t l wake U rows
waits_known S end p q t l wake V U [] on f h = tt
waits_known S end p q t l wake V U (r ∷ rs) on f h = record {
  green = h.green;
  full = f (next_link r.vehicle) on.0.there on.0.joined h.full;
  some_patience = h.some_patience;
  woken = h.woken;
}

first_each : (P : Row → Type 0) (xs ys : List Row) → Each P (xs ++ ys) → Each P xs
first_each P [] ys h = tt
first_each P (x ∷ xs) ys h = (h.0, first_each P xs ys h.1)

before_or_nobody : (t : ℕ) (b : Bool) (P : Person) → IsBefore t P.place → IsBefore t (or_nobody (mine b P)).place
before_or_nobody t true P h = h
before_or_nobody t false P h = tt

-- IN A TOWN
module _ (day : DayInput) (own : Owner) (parts p t : ℕ) (given : HaveFittingPlans day) (shares : IsOwner own parts) where
  open (in_second day own p t) use {S, V2 as V, V3, V4}

  abbrev z : Counts
  z = counts_in day

  pub fit : IsFitSetup z S
  fit = fit_setup day given

  pub law : Lawful S
  law = lawful S (sound_setup day given) (consistent_setup day given)

  pub second : IsSecondOf S own p t (is_there S own p t) (ready S own p t) V
  second = own_second S own parts p t z (are_local S (sound_setup day given) (consistent_setup day given) own parts shares) fit

  pub own_is : IsOwnWorld S own p t (is_there S own p t) (ready S own p t) V
  own_is = made S own p t (ready S own p t) (ready_known S own p t z fit)

  pub places : PlacesAreKnown S own p t
  places = places_known S own p t z law fit second

  pub leaving : LeaveHoles S own p t
  leaving = leave_holes S own p t z law fit second

  pub others : OthersAreEmpty S own p t
  others = others_empty S own p t z law fit second

  pub as_in_day : StandsAsInTheDay S own p t
  as_in_day = stands S own parts p t z law fit second

  pub fit_before : IsFitWorld z V
  fit_before = ready_fit S own p t z fit

  pub stays : StaysFit z S own p t V
  stays = stays_fit z S own p t V fit fit_before

  -- FRONTS
  pub goes_early : GoOnThere (λ n. eqb (own n) p) S V3
  goes_early = λ l lt e.
      subst (λ (rs : List Row). Each (GoesOn S l) rs) (sym (as_in_day.before_nodes.buffer l (eqb-true (own (link_row S l).to) p e)))
      (town_goes_on day t (phase.A ∷ phase.B1 ∷ phase.B2 ∷ []) (chosen_fit day given) l lt)

  pub goes_crossed : GoOnThere (λ n. eqb (own n) p) S V4
  goes_crossed = λ l lt e.
      subst (λ (rs : List Row). Each (GoesOn S l) rs) (sym (as_in_day.before_links.buffer l (eqb-true (own (link_row S l).to) p e)))
      (town_goes_on day t (phase.A ∷ phase.B1 ∷ phase.B2 ∷ phase.C ∷ []) (chosen_fit day given) l lt)

  -- WHO WAITS
  pub waited : WaitBefore t V
  unfolding unheard
  waited = λ i lt. (
      let k : ℕ → ℕ → ℕ = λ q x. lag S own q x - 1 in
      let P = person_of i (world_at S t) in
      let row = one_person S own p t (ready S own p t) (ready_known S own p t z fit) i in
      let since : IsBefore t P.place = (elim (cases_lt i (length (world_at S t).persons)) [
        | inl there ↦ waited_before S t i there
        | inr past ↦ subst (λ (Q : Person). IsBefore t Q.place) (sym (get_or_past (world_at S t).persons i nobody past)) tt
      ]) in
      subst (λ (Q : Person). IsBefore t Q.place) (sym row) (before_or_nobody t (has S own k p t i) P since))

  -- nodes change nobody who waits at the stops of an own link
  pub same_wait : (l : ℕ) → owner_of S own l ≡ p → waiters S l V4 ≡ waiters S l V3
  same_wait l o =
      let W3 = before_nodes S t (world_at S t) in
      let n = (phases_fit day t (phase.A ∷ phase.B1 ∷ phase.B2 ∷ []) given).one_each in
      let m = fit.persons in
      as_in_day.before_links.waits l o ∙ ap (waiters S l) (nodes_are S t (world_at S t))
      ∙ nodes_keep_waiters S t l W3 (λ i lt. phases_in_one S t i (phase.A ∷ phase.B1 ∷ phase.B2 ∷ []) (omega arith))
      ∙ sym (as_in_day.before_nodes.waits l o)

  -- whoever is not there is nobody
  pub nobody_early : (i : ℕ) → i < length S.persons → is_there S own p t i ≡ false → person_of i V3 ≡ nobody
  nobody_early i lt e = nowhere3 S own p t (is_there S own p t) (ready S own p t) V own_is i lt e

  -- ROWS
  -- what holds of each row of an own link in the day before links have their turns holds in the own world
  pub each_crossed : (P : Row → Type 0) (l : ℕ) (s : Stage) → owner_of S own l ≡ p
      → Each P (at l s (before_links S t (world_at S t))) → Each P (at l s V4)
  each_crossed P l Queue o h =
      first_each P (at l Queue V4) (as_in_day.before_links.late l)
      (subst (λ (rs : List Row). Each P rs) (as_in_day.before_links.queue l o) h)
  each_crossed P l Buffer o h = subst (λ (rs : List Row). Each P rs) (sym (as_in_day.before_links.buffer l o)) h
  each_crossed P l Wait o h = subst (λ (rs : List Row). Each P rs) (sym (as_in_day.before_links.wait l o)) h
  each_crossed P l Bay o h = subst (λ (rs : List Row). Each P rs) (sym (as_in_day.before_links.bay l o)) h
