-- The turns of a second in which nobody of a part has anything to do leave the part as it is.
use Rattle.traffic.proofs.Common.{◌≡◌, ℕ, ◌+◌, ◌-◌, ◌<◌, Bool, false, List, [], ◌++◌, ◌∙◌, ap, refl, sym, arith}
use Rattle.traffic.proofs.Common.{length, map, filter, Option, None, Some, World, person_of, below, turns, events_in, turns_in}
use Rattle.traffic.specs.declared.{node_views.OutLink.OutLink, world.Row.Row}
use Rattle.events.specs.declared.event.Phase.TheVariants as phase
use Rattle.town.specs.{Views.setup, declared.day_input.DayInput.DayInput}
use Rattle.calendar.proofs.Quiet.{none_sleep, none_taken}
use Rattle.law_in_range.specs.Setups.{counts_in, HaveFittingPlans}
use Rattle.law_parcels.specs.Sending.{sent_rows, freed_over}
use Rattle.law_partitions.specs.Laws.{IsOwner}
use Rattle.law_own_worlds.specs.{Days.world_before, Days.run_turns, Days.my_node_turns, Days.my_link_turns, OwnWorlds.landed, OwnWorlds.set_out}
use Rattle.law_own_seconds.specs.Seconds.{held_early, held_crossed, held_driven, world_early, world_crossed, world_driven}
use Rattle.law_parts_of_days.specs.Settling.{wake_starts, wake_ends}
use Rattle.parts.specs.{Owners.Owner, Parts.ready}
use Rattle.queue_link.specs.Links.{LinkView}
use Rattle.node_move.specs.{Entries.fewer, Spaces.places_in, Spaces.holes_in}
use Rattle.node_seconds.specs.Networks.{is_among}
use Rattle.part_lines.specs.Coming.{joined_lines}
use Rattle.part_links.{proofs.Standing.none_turned, proofs.Whole.phase_is, specs.Phase.IsPhaseBy}
use Rattle.part_nodes.proofs.Skipped.{turned_none, all_turned}
use Rattle.part_nodes.specs.{Phase.IsPhaseAt, Phase.entering_of, declared.network.NetworkState.NetworkState}
use Rattle.part_persons.specs.Own.{own_departures}
use Rattle.part_persons.proofs.Early.{Early, early_by, StartedAmong, started_own, as_many, taken_followed}
use Rattle.part_places.{proofs.Freed.freed_is, proofs.Freed.full_is, specs.Taking.begins_here, specs.Taking.times}
use Rattle.divided_day.specs.Slots.{link_in, slot_count, AreSlots}
use Rattle.part_seconds.proofs.{Crossed.Begins, Crossed.begins, Driven.Follows, Driven.follows, Driven.turned, Early.set_out_stands, Looking.ascending}
use Rattle.part_seconds.proofs.{Looking.stays, Names.in_second, SettingOut.HasSetOut, SettingOut.told_is}
use Rattle.part_seconds.specs.{Contents.freed_row, Resting.IsAtRest, Settling.places_known, Settling.left_all, Settling.put_queues, Slots.in_slot}
use Rattle.part_seconds.specs.{Slots.extent_of, Stands.AreaStands, Starting.all_started, Starting.woken_for_all, declared.area.Area.Area}

-- no place fewer
none_fewer : (o : Option OutLink) → o ≡ fewer 0 o
none_fewer None = refl
none_fewer (Some x) =
    let same : x.taken ≡ x.taken - 0 = omega arith in
    ap (λ (n : ℕ). (let y : OutLink = record x { taken = n } in Some y)) same

-- THE TURNS
-- What the turns of second t, in which nobody has anything to do, make of the part of p: it stands as it is behind them. They tell nothing,
-- nobody enters a link of another partition or sets out, and nobody leaves the queue of a link that begins elsewhere.
pub record HasNoTurns (day : DayInput) (own : Owner) (p t : ℕ) (A : Area) : Type 0 where
  pub stands :
      AreaStands day own p (t + 1) (t + 1) (t + 1) A (held_driven (setup day) own p t) (world_driven (setup day) own p t)
  pub early :
      [] ≡ [] ++ (events_in t phase.A (turns_in (setup day) t phase.A (world_before (setup day) own p t))
      ++ (events_in t phase.B1 (turns_in (setup day) t phase.B1 (landed (setup day) t (world_before (setup day) own p t)))
      ++ events_in t phase.B2 (run_turns (setup day) own p t)))
  pub crossed : [] ≡ [] ++ events_in t phase.C (my_node_turns (setup day) own p t)
  pub driven : [] ≡ [] ++ events_in t phase.D (my_link_turns (setup day) own p t)
  pub rows : [] ≡ map entering_of (sent_rows (setup day) own p t)
  pub looked : [] ≡ filter (λ (i : ℕ). is_among i []) (below (length (setup day).persons))
  pub others :
      (i : ℕ) → is_among i [] ≡ false
      → person_of i (set_out (setup day) own p t (world_before (setup day) own p t)) ≡ person_of i (world_before (setup day) own p t)
  pub freed : map freed_row [] ≡ freed_over (setup day) own p t

module _ (day : DayInput) (own : Owner) (parts p t : ℕ) (slots : List ℕ) (given : HaveFittingPlans day) (shares : IsOwner own parts)
    (are : AreSlots (setup day) own slots) (in_day : t < day.town.now.settings.end_second) (A : Area) (idle : IsAtRest t A)
    (h : AreaStands day own p t t t A (ready (setup day) own p t) (world_before (setup day) own p t)) where
  open (in_second day own p t) use {S, end, V2 as V}

  abbrev P : World
  P = A.persons.world

  abbrev N : NetworkState
  N = A.network

  abbrev links : List LinkView
  links = A.network.links.items

  abbrev wakes : List (Option ℕ)
  wakes = A.network.link_wakes

  -- PERSONS AND DEPARTURES
  early_is : Early S t A.persons.wakes P P [] []
  unfolding turns
  early_is =
      early_by S end t P P P A.persons.wakes [] [] [] [] [] h.persons.looks (as_many day P h.persons.fit) in_day (sym idle.persons)
      (sym idle.persons) h.persons.followed refl refl refl refl

  started_is : StartedAmong S t (own_departures S own p) P P [] []
  unfolding turns
  started_is =
      started_own S own p t [] P P [] [] (sym idle.departures ∙ h.departures t (omega arith) in_day) refl refl

  out_is : HasSetOut S own p t V P P P
  out_is = record { first = early_is.world; second = started_is.world; persons = h.persons.persons; rows = h.persons.rows }

  early_stands : AreaStands day own p (t + 1) t t A (held_early S own p t) (world_early S own p t)
  unfolding joined_lines all_started woken_for_all
  early_stands =
      set_out_stands day own parts p t slots given shares are in_day A h P P [] out_is (sym idle.persons) h.persons.fit A
      (ap (λ (rs : List Row). (let W : World = record P { rows = rs } in W)) h.persons.rows)
      (taken_followed S end t P.persons A.persons.wakes A.persons.wakes h.persons.looks (none_sleep t 0 A.persons.wakes idle.persons)
      h.persons.followed)
      h.persons.looks (none_taken t A.departures idle.departures) refl
      (ap (λ (rs : List Row). all_started (map (in_slot slots) rs) links) (sym h.persons.rows))
      (ap (λ (rs : List Row). woken_for_all t (map (in_slot slots) rs) wakes) (sym h.persons.rows)) refl refl refl

  early_told : [] ≡ [] ++ (events_in t phase.A (turns_in S t phase.A V)
      ++ (events_in t phase.B1 (turns_in S t phase.B1 (landed S t V)) ++ events_in t phase.B2 (run_turns S own p t)))
  early_told = told_is S own p t V P P P out_is [] [] [] early_is.events started_is.events

  -- NODES
  crossing : Begins day own p t A A.network.places A.network.node_wakes
  unfolding wake_starts
  crossing =
      let begins_so : ℕ → Bool = begins_here S own p in
      let T = places_known S (held_early S own p t) in
      let none : (m : ℕ) → times m [] ≡ 0 = λ m. refl in
      begins day own parts p t slots given shares are A early_stands N.places [] N.node_wakes
      (freed_is begins_so (length S.links) end t T N.places N.places [] in_day (sym idle.places) (none_taken t N.places.freed idle.places)
      (λ m. none_fewer (places_in N.places.space m))
      (λ m. (let z : holes_in N.places.space m ≡ holes_in N.places.space m - 0 = omega arith in z))
      early_stands.network.places)
      refl
      (full_is begins_so (length S.links) end t T N.places [] [] in_day (sym idle.places) refl early_stands.network.places)

  crossed_is : IsPhaseAt (counts_in day) S (extent_of S own p) end t (world_early S own p t) N N [] [] [] [] [] []
  crossed_is =
      all_turned (counts_in day) S (extent_of S own p) end t (world_early S own p t) [] N N N [] [] [] [] [] [] in_day crossing.stands
      crossing.awaited (sym idle.nodes) (none_sleep t 0 N.node_wakes idle.nodes) (λ m. refl) refl
      (turned_none (counts_in day) S (extent_of S own p) end t (world_early S own p t) N [] [] [] crossing.stands)

  crossed_stands : AreaStands day own p (t + 1) (t + 1) t A (held_crossed S own p t) (world_crossed S own p t)
  crossed_stands =
      crossing.crossed A [] [] [] [] [] [] refl crossed_is refl (λ u f. f) early_stands.persons.looks refl refl refl

  -- LINKS
  driven_is : IsPhaseBy (link_in S own p) (slot_count S own p) (my_link_turns S own p t) S end t (world_crossed S own p t) links
      A.lines.items wakes [] [] [] []
  driven_is =
      turned day own parts p t slots given shares are A crossed_stands links A.lines.items wakes [] [] [] []
      (λ number count U W numbered dwell stand lies stops asleep.
      phase_is number count U end t W day.town.now.settings.dwell [] links links A.lines.items wakes wakes wakes [] [] [] [] numbered dwell
      stand asleep in_day (sym idle.links) (none_sleep t 0 wakes idle.links)
      (none_turned number count U end t W links A.lines.items wakes [] [] stand lies))

  following : Follows day own p t A links []
  following =
      follows day own parts p t slots given shares are A crossed_stands links [] driven_is.links (λ k off. refl) (sym idle.links)

  driven_stands : AreaStands day own p (t + 1) (t + 1) (t + 1) A (held_driven S own p t) (world_driven S own p t)
  unfolding left_all wake_ends put_queues
  driven_stands =
      following.stands A [] [] [] [] refl refl driven_is crossed_stands.network.places refl refl crossed_stands.short refl refl (λ u f. f)
      crossed_stands.persons.looks refl

  -- ALL OF THEM
  pub no_turns : HasNoTurns day own p t A
  no_turns = record {
    stands = driven_stands;
    early = early_told;
    crossed = crossed_is.events;
    driven = driven_is.events;
    rows = crossed_is.gone;
    looked = ascending t (length S.persons) A.persons.wakes [] (sym idle.persons) (h.persons.looks ∙ as_many day P h.persons.fit);
    others = λ i off. stays S own p t i V P P P out_is refl;
    freed = following.freed_rows links [] A.queues.items [] refl refl refl refl;
  }
