-- What the end of a second makes of the own world of a partition.
use Rattle.traffic.proofs.Common.{◌≡◌, ◌≢◌, ℕ, suc, ◌+◌, ◌<◌, List, [], ◌∙◌, ap, refl, sym, subst, arith, inl, inr, cases_Bool, true, true≢false, Bool}
use Rattle.traffic.proofs.Common.{length, nat_le, ltb-true, eqb, eq-eqb, if◌then◌else◌, Setup, World, at, credit_of, person_of, nobody, hole_of, waiter}
use Rattle.traffic.{proofs.Common.waiters, proofs.Common.listed, specs.declared.stage.Stage.Stage, specs.declared.world.Person.Person}
use Rattle.traffic.specs.declared.world.Place.{Place, TheVariants.At, TheVariants.Teleporting, TheVariants.Waiting, TheVariants.Riding, TheVariants.Aborted}
use Rattle.std.specs.Prelude.{is_some}
use Rattle.law_in_range.specs.{Rows.Counts, Setups.IsFitSetup}
use Rattle.parts.specs.{Owners.Owner, Owners.owner_of, Owners.begins_in, Owners.lag, Parts.Held, Parts.lasting, Parts.rides_in, Parts.held, Parts.ready}
use Rattle.law_partitions.proofs.{Enders.or_either, History.filter_twice}
use Rattle.law_partitions.specs.{Alone.alone, Laws.SecondsAreLocal, Premises.Lawful, Premises.Arrivals}
use Rattle.law_own_worlds.proofs.{Knowing.unheard_known, Making.made, Making.one_person}
use Rattle.law_own_worlds.specs.{Days.is_there, Days.FollowsTheDay, Making.IsKnown, OwnWorlds.IsOwnWorld}
use Rattle.law_own_seconds.{proofs.Places.start_known, proofs.Places.places_known, specs.Seconds.held_driven, specs.Seconds.world_driven}
use Rattle.law_parcels.proofs.Ending.{owned, second, behind_is, lacked, rider_rides}
use Rattle.law_parcels.proofs.Taking.{Moves, moving_waits, same_waiters}
use Rattle.law_parcels.specs.{Sending.sent_rows, Sending.flies_out, Sending.is_gone, Sending.SendsParcels, Worlds.world_held, Worlds.taken_in, Worlds.LetsGo}

module _ (S : Setup) (own : Owner) (parts p t : ℕ) (z : Counts) (law : Lawful S) (arrivals : Arrivals S) (fit : IsFitSetup z S)
    (local : SecondsAreLocal S own parts) (day : FollowsTheDay S own p t) (sends : SendsParcels S own p t) where
  abbrev K : Held
  K = held S own p (suc t)

  abbrev B : Held
  B = held_driven S own p t

  abbrev now : World
  now = world_held S own p (suc t)

  abbrev V5 : World
  V5 = world_driven S own p t

  known : IsKnown S own p K
  known = unheard_known S own (lag S own) p (suc t) z fit

  of_held : IsOwnWorld S own p (suc t) (λ i. is_some (K.person i)) K now
  of_held = made S own p (suc t) K known

  list_is : (l : ℕ) (s : Stage) → owner_of S own l ≡ p → at l s now ≡ at l s V5
  list_is l s o = sym (of_held.world.list l s) ∙ day.list l s o

  credit_is : (l : ℕ) → l < length S.links → owner_of S own l ≡ p → credit_of l now ≡ credit_of l V5
  credit_is l lt o = sym (of_held.world.credit l lt) ∙ day.credit l lt o

  person_is : (i : ℕ) → person_of i now ≡ (if is_gone S own p t i then nobody else person_of i V5)
  person_is i = one_person S own p (suc t) K known i ∙ sends.persons i

  -- WHO WAITS
  flies_moving : (i element : ℕ) (pl : Place) → flies_out S own p t i element pl ≡ true → Moves pl
  flies_moving i element (Teleporting start) e = tt
  flies_moving i element (Riding v) e = tt
  flies_moving i element (At end) e = absurd (true≢false (sym e))
  flies_moving i element (Waiting stop since) e = absurd (true≢false (sym e))
  flies_moving i element (Aborted l) e = absurd (true≢false (sym e))

  gone_waits : (l i : ℕ) → is_gone S own p t i ≡ true → waiter S l i (person_of i V5) ≡ []
  gone_waits l i e =
      let P = person_of i V5 in
      elim (cases_Bool (is_there S own p t i)) [
        | inl there ↦
            let lt = (owned S own p t z law arrivals fit).world.there i there in
            moving_waits S l i P (elim (or_either (rides_in i (sent_rows S own p t)) (flies_out S own p t i P.element P.place) e) [
              | inl r ↦
                  let some = ltb-true 0 (listed i (sent_rows S own p t)) r in
                  let w = rider_rides S own p t z law arrivals fit i lt (omega arith) in
                  subst Moves (sym (ap (λ (Q : Person). Q.place) (behind_is S own p t z law arrivals fit i there) ∙ w.1)) tt
              | inr f ↦ flies_moving i P.element P.place f
            ])
        | inr away ↦ ap (waiter S l i) (lacked S own p t z law arrivals fit i away)
      ]

  one_waiter : (l i : ℕ) → i < length S.persons → waiter S l i (person_of i now) ≡ waiter S l i (person_of i V5)
  one_waiter l i lt =
      ap (waiter S l i) (person_is i)
      ∙ elim (cases_Bool (is_gone S own p t i)) [ inl e ↦ rw e (sym (gone_waits l i e)) | inr e ↦ rw e refl ]

  waits_are : (l : ℕ) → waiters S l now ≡ waiters S l V5
  waits_are l =
      same_waiters S l now V5 of_held.world.one_each (second S own p t z law arrivals fit).after_links.one_each (one_waiter l)

  -- PLACES
  rows_are : (m : ℕ) → begins_in S own m ≡ p → K.rows m ≡ B.rows m
  unfolding alone
  rows_are m b =
      let e : eqb (begins_in S own m) p ≡ true = eq-eqb (begins_in S own m) p b in
      let one : (alone S own p t (ready S own p t)).rows m ≡ B.rows m = (rw e refl) in
      ap (λ (H : Held). H.rows m) (sym (local.holds p t)) ∙ one

  holes_are : (m : ℕ) → begins_in S own m ≡ p → K.holes m ≡ lasting (suc t) (hole_of S m) (B.holes m)
  unfolding alone
  holes_are m b =
      let e : eqb (begins_in S own m) p ≡ true = eq-eqb (begins_in S own m) p b in
      let one : (alone S own p t (ready S own p t)).holes m ≡ lasting (suc t) (hole_of S m) (B.holes m) = (rw e refl) in
      ap (λ (H : Held). H.holes m) (sym (local.holds p t)) ∙ one

  taken_is : (m : ℕ) → m < length S.links → begins_in S own m ≡ p → taken_in S (suc t) m now ≡ taken_in S (suc t) m V5
  taken_is m lt b =
      let h = hole_of S m in
      let pass : ℕ → Bool = λ s. nat_le (suc t) (s + h) in
      let x = start_known S own p (suc t) K known (suc t) (omega arith) m lt b in
      let y = (places_known S own p t z law fit (second S own p t z law arrivals fit)).driven (suc t) (omega arith) m lt b in
      let rows = rows_are m b in
      let holes = ap (λ (hs : List ℕ). length (lasting (suc t) h hs)) (holes_are m b)
      ∙ ap (λ (hs : List ℕ). length hs) (filter_twice pass pass (λ s e. e) (B.holes m)) in
      omega arith

  pub lets_go : LetsGo S own p t
  lets_go = record {
    all = record {
      persons = (second S own p t z law arrivals fit).after_links.one_each;
      credits = (second S own p t z law arrivals fit).after_links.credits;
    };
    all_held = record { persons = of_held.world.one_each; credits = of_held.world.credits };
    list = list_is;
    credit = credit_is;
    person = person_is;
    waits = waits_are;
    rows = rows_are;
    holes = holes_are;
    taken = taken_is;
  }
