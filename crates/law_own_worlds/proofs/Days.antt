-- The second of the own world of a partition gives what the day says of the partition.
use Rattle.traffic.proofs.Common.{◌≡◌, ℕ, suc, ◌<◌, List, ◌++◌, ◌∙◌, ap, sym, true, length, map, flat_map, filter, eqb, eq-eqb, fun_ext}
use Rattle.traffic.proofs.Common.{Turn, Setup, World, at, credit_of, person_of, turns_in, moves_of, events_in, below}
use Rattle.traffic.specs.declared.stage.Stage.{Stage}
use Rattle.events.specs.declared.event.Phase.TheVariants as phase
use Rattle.law_in_range.specs.{Rows.Counts, Setups.IsFitSetup}
use Rattle.parts.specs.Owners.{Owner, owner_of, leads, links_of}
use Rattle.parts.specs.Parts.{Held, Flight, Parcel, is_some_freed, mine, enters_queue, freed, held, ready, out, own_events}
use Rattle.law_partitions.specs.Alone.{B1_part, B2_part, C_part, D_part, after_A, early, after_C, after_D, sent_out, if_stays, alone, passed_here, flight_to}
use Rattle.law_partitions.specs.{Alone.parcel_to, Alone.tells_alone, Laws.SecondsAreLocal}
use Rattle.law_own_worlds.specs.{OwnWorlds.IsSecondOf, OwnWorlds.landed, OwnWorlds.driven, Days.world_before, Days.is_there, Days.run_turns, Days.my_node_turns}
use Rattle.law_own_worlds.{specs.Days.my_link_turns, specs.Days.FollowsTheDay, proofs.Knowing.ready_known, proofs.Making.made, proofs.Seconds.second_of}

module _ (S : Setup) (own : Owner) (parts p t : ℕ) (z : Counts) (local : SecondsAreLocal S own parts) (fit : IsFitSetup z S) where
  abbrev H : Held
  H = ready S own p t

  abbrev V : World
  V = world_before S own p t

  abbrev E : Held
  E = early S own p t H

  abbrev G : Held
  G = after_C S own p t E

  abbrev V5 : World
  V5 = driven S own p t V

  pub own_second : IsSecondOf S own p t (is_there S own p t) H V
  own_second = second_of S own p t (is_there S own p t) H V (made S own p t H (ready_known S own p t z fit))

  list_is : (l : ℕ) (s : Stage) → owner_of S own l ≡ p → (held S own p (suc t)).list l s ≡ at l s V5
  unfolding alone
  list_is l s o =
      let e : eqb (owner_of S own l) p ≡ true = eq-eqb (owner_of S own l) p o in
      let is : (alone S own p t H).list l s ≡ at l s V5 = (rw e (own_second.after_links.list l s)) in
      ap (λ (K : Held). K.list l s) (sym (local.holds p t)) ∙ is

  credit_is : (l : ℕ) → l < length S.links → owner_of S own l ≡ p → (held S own p (suc t)).credit l ≡ credit_of l V5
  unfolding alone
  credit_is l lt o =
      let e : eqb (owner_of S own l) p ≡ true = eq-eqb (owner_of S own l) p o in
      let is : (alone S own p t H).credit l ≡ credit_of l V5 = (rw e (own_second.after_links.credit l lt)) in
      ap (λ (K : Held). K.credit l) (sym (local.holds p t)) ∙ is

  person_is : (i : ℕ) → (held S own p (suc t)).person i
      ≡ if_stays S own p t (sent_out S own p (moves_of (my_node_turns S own p t))) i (mine (is_there S own p t i) (person_of i V5))
  unfolding alone
  person_is i =
      let B = after_D S own p t G in
      ap (λ (K : Held). K.person i) (sym (local.holds p t))
      ∙ ap (λ (us : List Turn). if_stays S own p t (sent_out S own p (moves_of us)) i (B.person i)) own_second.nodes
      ∙ ap (if_stays S own p t (sent_out S own p (moves_of (my_node_turns S own p t))) i) (own_second.after_links.person i)

  told_is : own_events S own p (suc t) ≡ own_events S own p t
      ++ (events_in t phase.A (turns_in S t phase.A V) ++ (events_in t phase.B1 (turns_in S t phase.B1 (landed S t V))
      ++ (events_in t phase.B2 (run_turns S own p t)
      ++ (events_in t phase.C (my_node_turns S own p t) ++ events_in t phase.D (my_link_turns S own p t)))))
  unfolding tells_alone
  told_is =
      let all = λ (a b c d e : List Turn). own_events S own p t
      ++ (events_in t phase.A a ++ (events_in t phase.B1 b ++ (events_in t phase.B2 c ++ (events_in t phase.C d ++ events_in t phase.D e)))) in
      let b = B1_part S t (after_A S t H) in
      let c = B2_part S own p t in
      let d = C_part S own p t E in
      let e = D_part S own p t G in
      let A = turns_in S t phase.A V in
      let B = turns_in S t phase.B1 (landed S t V) in
      let C = run_turns S own p t in
      let N = my_node_turns S own p t in
      sym (local.tells p t)
      ∙ ap (λ (us : List Turn). all us b c d e) own_second.landings ∙ ap (λ (us : List Turn). all A us c d e) own_second.leavings
      ∙ ap (λ (us : List Turn). all A B us d e) own_second.departures ∙ ap (λ (us : List Turn). all A B C us e) own_second.nodes
      ∙ ap (λ (us : List Turn). all A B C N us) own_second.links

  vehicles_are : (q : ℕ) → (out S own p q t).vehicles
      ≡ map (passed_here H) (flat_map (enters_queue (leads S own p q)) (moves_of (my_node_turns S own p t)))
  unfolding parcel_to
  vehicles_are q =
      ap (λ (x : Parcel). x.vehicles) (sym (local.sends p q t))
      ∙ ap (λ (us : List Turn). map (passed_here H) (flat_map (enters_queue (leads S own p q)) (moves_of us))) own_second.nodes

  flights_are : (q : ℕ) → (out S own p q t).flights
      ≡ flat_map (λ i. flight_to S own q t i (mine (is_there S own p t i) (person_of i V5))) (below (length S.persons))
  unfolding parcel_to
  flights_are q =
      ap (λ (x : Parcel). x.flights) (sym (local.sends p q t))
      ∙ ap (λ (f : ℕ → List Flight). flat_map f (below (length S.persons)))
      (fun_ext (λ i. ap (flight_to S own q t i) (own_second.after_links.person i)))

  freed_are : (q : ℕ) → (out S own p q t).freed
      ≡ filter is_some_freed (map (λ l. record { link = l; rows = freed l (moves_of (my_link_turns S own p t)) })
      (filter (leads S own q p) (links_of S)))
  unfolding parcel_to
  freed_are q =
      ap (λ (x : Parcel). x.freed) (sym (local.sends p q t))
      ∙ ap (λ (us : List Turn). filter is_some_freed (map (λ l. record { link = l; rows = freed l (moves_of us) }) (filter (leads S own q p) (links_of S))))
      own_second.links

  pub follows : FollowsTheDay S own p t
  follows = record {
    list = list_is;
    credit = credit_is;
    person = person_is;
    told = told_is;
    vehicles = vehicles_are;
    flights = flights_are;
    freed_places = freed_are;
  }
