-- A partition at the start of a day: it holds its persons and nothing else, so nobody is on a link of its own world and nobody waits there.
use Rattle.traffic.proofs.Common.{◌≡◌, ℕ, ◌+◌, ◌<◌, ◌≤◌, Bool, true, false, List, [], ◌∷◌, ◌++◌, ◌∙◌, ap, refl, sym, subst, arith, cases_Bool, cases_lt, eqb}
use Rattle.traffic.proofs.Common.{eq-eqb, fun_ext, inl, inr, ltb-false, length, length-map, length-replicate, get_or, get_or-map, get_or_past, map, flat_map}
use Rattle.traffic.proofs.Common.{replicate, if◌then◌else◌, ◌&&◌, Option, None, Some, VEHICLE_COST, PlanRows, Setup, World, at, hole_of, person_of, nobody}
use Rattle.traffic.proofs.Common.{at_home, world_start, waiter, waiters, link_row, link_state, credit_of, below, in_turn}
use Rattle.traffic.specs.declared.stage.Stage.{Stage, TheVariants.Queue, TheVariants.Buffer, TheVariants.Wait, TheVariants.Bay}
use Rattle.traffic.specs.declared.world.{Person.Person, Row.Row, Waiter.Waiter}
use Rattle.std.{proofs.lemmas.List.get_or-replicate, specs.Prelude.is_some}
use Rattle.calendar.specs.Waking.{wake_of}
use Rattle.fixed_flow.specs.Flow.{raised_times}
use Rattle.law_in_range.specs.{Rows.IsFitWorld, Setups.counts_in, Setups.HaveFittingPlans}
use Rattle.limits.specs.declared.TheConstants.{MAX_PERSONS}
use Rattle.rows.specs.declared.settings.Dwelling.{Dwelling}
use Rattle.town.specs.{Views.setup, declared.day_input.DayInput.DayInput}
use Rattle.parts.specs.Owners.{Owner, owner_of, begins_in, owner_of_person, lag}
use Rattle.parts.specs.Parts.{Held, is_person, mine, part, held}
use Rattle.law_partitions.{proofs.Second.same_state, proofs.Start.starts_whole, specs.Alone.my_links}
use Rattle.law_own_worlds.proofs.{Knowing.unheard_known, Making.made, Making.one_person}
use Rattle.law_own_worlds.specs.{Making.or_nobody, Making.own_world, Making.IsKnown, OwnWorlds.IsOwnWorld}
use Rattle.law_parcels.specs.Worlds.{world_held}
use Rattle.queue_link.specs.{Links.LinkView, Links.fresh, Numbers.numbers_of, declared.numbers.LinkNumbers.LinkNumbers}
use Rattle.node_move.specs.NodeStates.{no_link}
use Rattle.node_seconds.specs.Networks.{lane}
use Rattle.link_seconds.specs.Seconds.{HaveLines, line_at, lists_at}
use Rattle.law_waking.specs.Resting.{Rests, sleeps_to}
use Rattle.part_links.specs.Links.{LinksStandAt, AreAsleep, lies_on}
use Rattle.part_nodes.{proofs.Held.none_waits, specs.declared.network.NetworkState.NetworkState}
use Rattle.part_persons.specs.{Dues.AreFollowedIn, Own.own_person, Own.own_persons}
use Rattle.part_places.specs.{Taking.AreTakenOf, Taking.begins_here, Taking.empty, declared.places.Places.Places}
use Rattle.law_parts_of_days.proofs.{Beginning.begins_with, Beginning.nodes_of, Beginning.stops_of, Taken.taken_as, Worlds.fit_setup}
use Rattle.divided_day.{proofs.Lists.same_all, specs.Slots.link_in, specs.Slots.slot_count}
use Rattle.part_seconds.proofs.{Lengths.all_short, Slots.link_there, Slots.link_own}
use Rattle.part_seconds.specs.{Settling.places_known, Stands.AreaStands, Stands.NetworkStands, Stands.AreOwnDepartures, declared.area.Area.Area}
use Rattle.parted_day.specs.Empty.{empty_link, empty_links}

-- WHO IS THERE
no_rows : (S : Setup) → (world_start S).rows ≡ []
unfolding world_start
no_rows S = refl

-- nobody is past the last person
past_last : (S : Setup) (i : ℕ) → is_person S i ≡ false → person_of i (world_start S) ≡ nobody
unfolding world_start
past_last S i e =
    let many = length-map S.persons at_home in
    let ge : length S.persons ≤ i = ltb-false i (length S.persons) e in
    get_or_past (map at_home S.persons) i nobody (omega arith)

-- whoever is at an activity waits at no stop, nor does nobody
start_waits : (S : Setup) (l i : ℕ) → waiter S l i (person_of i (world_start S)) ≡ []
unfolding world_start
start_waits S l i =
    let none : PlanRows = record { acts = []; legs = [] } in
    let many = length-map S.persons at_home in
    elim (cases_lt i (length S.persons)) [
      | inl lt ↦ ap (waiter S l i) (get_or-map at_home S.persons i none nobody lt)
      | inr ge ↦ ap (waiter S l i) (get_or_past (map at_home S.persons) i nobody (omega arith))
    ]

waits_if : (S : Setup) (l i : ℕ) (b : Bool) (P : Person) → waiter S l i P ≡ [] → waiter S l i (if b then P else nobody) ≡ []
waits_if S l i true P h = h
waits_if S l i false P h = refl

none_flat : (f : ℕ → List Waiter) (ns : List ℕ) → ((n : ℕ) → f n ≡ []) → flat_map f ns ≡ []
none_flat f [] h = refl
none_flat f (n ∷ ns) h = ap (λ (xs : List Waiter). xs ++ flat_map f ns) (h n) ∙ none_flat f ns h

-- nobody stands for a person whom it lacks
kept_or_nobody : (there b : Bool) (P : Person) → (there ≡ false → P ≡ nobody) → (if b then P else nobody) ≡ or_nobody (mine (there && b) P)
kept_or_nobody true true P h = refl
kept_or_nobody true false P h = refl
kept_or_nobody false true P h = h refl
kept_or_nobody false false P h = refl

-- a link on which nobody is lets nobody go
fresh_rests : (D : Dwelling) (t due : ℕ) (n : LinkNumbers) → Rests D t due (fresh n)
fresh_rests D t due n = λ u from to. record { bay = tt; queue = refl; wait = refl }

module _ (day : DayInput) (own : Owner) (p : ℕ) (given : HaveFittingPlans day) where
  abbrev S : Setup
  S = setup day

  abbrev H : Held
  H = held S own p 0

  abbrev V : World
  V = world_held S own p 0

  -- WHAT IT HOLDS
  -- its part of the day's first world
  abbrev first : Held
  first = part S own p 0 (world_start S)

  first_is : H ≡ first
  first_is = starts_whole S own p ∙ ap (λ (W : World). part S own p 0 W) (sym (begins_with S))

  first_list : (l : ℕ) (s : Stage) → first.list l s ≡ []
  unfolding world_start
  first_list l s = elim (cases_Bool (eqb (owner_of S own l) p)) [ inl e ↦ rw e refl | inr e ↦ rw e refl ]

  first_credit : (l : ℕ) → l < length S.links → owner_of S own l ≡ p → first.credit l ≡ VEHICLE_COST
  unfolding world_start
  first_credit l lt o =
      let e = eq-eqb (owner_of S own l) p o in
      rw e (get_or-replicate (length S.links) l VEHICLE_COST 0 lt)

  first_rows : (m : ℕ) → first.rows m ≡ 0
  unfolding world_start
  first_rows m = elim (cases_Bool (eqb (begins_in S own m) p)) [ inl e ↦ rw e refl | inr e ↦ rw e refl ]

  first_holes : (m : ℕ) → first.holes m ≡ []
  unfolding world_start
  first_holes m = elim (cases_Bool (eqb (begins_in S own m) p)) [ inl e ↦ rw e refl | inr e ↦ rw e refl ]

  -- ITS WORLD
  known : IsKnown S own p H
  known = unheard_known S own (lag S own) p 0 (counts_in day) (fit_setup day given)

  of_held : IsOwnWorld S own p 0 (λ i. is_some (H.person i)) H V
  of_held = made S own p 0 H known

  none_at : (l : ℕ) (s : Stage) → at l s V ≡ []
  none_at l s = sym (of_held.world.list l s) ∙ ap (λ (K : Held). K.list l s) first_is ∙ first_list l s

  credit_is : (l : ℕ) → l < length S.links → owner_of S own l ≡ p → credit_of l V ≡ VEHICLE_COST
  credit_is l lt o = sym (of_held.world.credit l lt) ∙ ap (λ (K : Held). K.credit l) first_is ∙ first_credit l lt o

  person_is : (i : ℕ) → own_person S own p i ≡ or_nobody (H.person i)
  person_is i =
      kept_or_nobody (is_person S i) (eqb (owner_of_person S own (world_start S) i) p) (person_of i (world_start S)) (past_last S i)
      ∙ sym (ap (λ (K : Held). or_nobody (K.person i)) first_is)

  persons_are : own_persons S own p ≡ V.persons
  unfolding own_world
  persons_are = ap (λ (f : ℕ → Person). map f (below (length S.persons))) (fun_ext person_is)

  nobody_waits : (l : ℕ) → waiters S l V ≡ []
  unfolding waiters
  nobody_waits l =
      none_flat (λ (i : ℕ). waiter S l i (person_of i V)) (below (length V.persons))
      (λ i. ap (waiter S l i) (one_person S own p 0 H known i ∙ sym (person_is i))
      ∙ waits_if S l i (eqb (owner_of_person S own (world_start S) i) p) (person_of i (world_start S)) (start_waits S l i))

  -- WHAT THE PART HAS
  -- the lists and the credit of a link on which nobody is
  fresh_lists : (l : ℕ) (n : LinkNumbers) → l < length S.links → owner_of S own l ≡ p → lists_at 0 (fresh n) ≡ link_state l V
  unfolding raised_times
  fresh_lists l n lt o =
      same_state (lists_at 0 (fresh n)) (link_state l V) (sym (none_at l Queue)) (sym (none_at l Buffer)) (sym (none_at l Wait))
      (sym (none_at l Bay)) (sym (credit_is l lt o))

  -- the places of links on which nobody is
  places_begin : (end : ℕ) (P : Places) → AreTakenOf (begins_here S own p) (length S.links) end 0 (empty S) P
      → AreTakenOf (begins_here S own p) (length S.links) end 0 (places_known S H) P
  places_begin end P h =
      taken_as {begins = begins_here S own p} (length S.links) end 0 (empty S) (places_known S H) P (record {
        storage = λ m lt. refl;
        seconds = λ m lt. refl;
        queued = λ m lt. ap (λ (K : Held). K.rows m) first_is ∙ first_rows m;
        frees = λ m lt. ap (λ (hs : List ℕ). map (λ (s : ℕ). s + hole_of S m) hs) (ap (λ (K : Held). K.holes m) first_is ∙ first_holes m);
      }) h

  -- lines in which nobody waits
  lines_begin : (l n : ℕ) (lines : List (List Waiter)) → lines ≡ replicate n [] → HaveLines (lies_on S l) lines (waiters S l V)
  unfolding in_turn
  lines_begin l n lines e =
      subst (λ (ws : List Waiter). HaveLines (lies_on S l) lines ws) (sym (nobody_waits l)) (record {
        once = tt;
        each = λ s h. ap (λ (xs : List (List Waiter)). line_at xs s) e ∙ same_all {X = List Waiter} [] n s;
      })

  module _ (links : List LinkView) (new : links ≡ empty_links S own p) where
    many : length links ≡ slot_count S own p
    many = ap (λ (vs : List LinkView). length vs) new ∙ length-map (my_links S own p) (empty_link S)

    each : (k : ℕ) → k < slot_count S own p → lane links k ≡ empty_link S (link_in S own p k)
    each k lt = ap (λ (vs : List LinkView). lane vs k) new ∙ get_or-map (empty_link S) (my_links S own p) k 0 no_link lt

    links_begin : LinksStandAt (link_in S own p) (slot_count S own p) S 0 links V
    links_begin = record {
      count = many;
      credits = of_held.world.credits;
      numbers = λ k lt. record { numbers = ap (λ (v : LinkView). v.numbers) (each k lt) };
      raised = λ k lt. (let e = ap (λ (v : LinkView). v.raised) (each k lt) in omega arith);
      lists = λ k lt.
          let l = link_in S own p k in
          ap (lists_at 0) (each k lt)
          ∙ fresh_lists l (numbers_of l (link_row S l) S.settings) (link_there S own p k lt) (link_own S own p k lt);
    }

    links_sleep : (D : Dwelling) (end n : ℕ) (wakes : List (Option ℕ)) → n ≡ length links → wakes ≡ replicate n None
        → AreAsleep D end 0 links wakes
    links_sleep D end n wakes m e =
        let none : (k : ℕ) → wake_of wakes k ≡ None
        = λ k. ap (λ (ws : List (Option ℕ)). wake_of ws k) e ∙ same_all {X = Option ℕ} None n k in
        record {
          count = ap (λ (ws : List (Option ℕ)). length ws) e ∙ length-replicate n None ∙ m;
          rests = λ k lt.
              let all = many in
              let l = link_in S own p k in
              subst (λ (v : LinkView). Rests D 0 (sleeps_to end (wake_of wakes k)) v) (sym (each k (omega arith)))
              (fresh_rests D 0 (sleeps_to end (wake_of wakes k)) (numbers_of l (link_row S l) S.settings));
          later = λ k u lt w. (let z : None ≡ Some u = sym (none k) ∙ w in absurd (cc));
          soon = λ k u lt w. (let z : None ≡ Some u = sym (none k) ∙ w in absurd (cc));
        }

  pub network_begins : (nodes links : ℕ) (N : NetworkState) → N.links.items ≡ empty_links S own p
      → AreTakenOf (begins_here S own p) (length S.links) day.town.now.settings.end_second 0 (empty S) N.places
      → links ≡ length N.links.items → N.link_wakes ≡ replicate links None → nodes ≡ length day.town.now.network.nodes
      → N.node_wakes ≡ replicate nodes None → NetworkStands day own p 0 0 N H V
  network_begins nodes links N new places n wakes m ends = record {
    links = links_begin N.links.items new;
    asleep = links_sleep N.links.items new S.settings.dwell day.town.now.settings.end_second links N.link_wakes n wakes;
    places = places_begin day.town.now.settings.end_second N.places places;
    nodes = ap (λ (ws : List (Option ℕ)). length ws) ends ∙ length-replicate nodes None ∙ m ∙ sym (nodes_of day);
    awaited = λ k l lt its off there to.
        none_waits S day.town.now.settings.end_second 0 0 l (wake_of N.node_wakes k) V (none_at l Buffer);
    only = λ k e. ap (λ (ws : List (Option ℕ)). wake_of ws k) ends ∙ same_all {X = Option ℕ} None nodes k;
  }

  pub area_begins : (stops slots : ℕ) (A : Area) → A.persons.world ≡ record (world_start S) { persons = own_persons S own p }
      → IsFitWorld (counts_in day) A.persons.world → AreFollowedIn day 0 A.persons.world.persons A.persons.wakes
      → length A.persons.wakes ≡ length A.persons.world.persons
      → AreOwnDepartures S own p day.town.now.settings.end_second 0 A.departures → stops ≡ length day.town.now.stops.rows
      → A.lines.items ≡ replicate stops [] → NetworkStands day own p 0 0 A.network H V → slots ≡ length A.network.links.items
      → A.queues.items ≡ replicate slots 0 → AreaStands day own p 0 0 0 A H V
  area_begins stops slots A world fit followed looks departures n lines network m queues = record {
    persons = record {
      persons = ap (λ (W : World). W.persons) world ∙ persons_are;
      rows = ap (λ (W : World). W.rows) world ∙ no_rows S;
      fit = fit;
      followed = followed;
      looks = looks;
    };
    departures = departures;
    stops = ap (λ (ls : List (List Waiter)). length ls) lines ∙ length-replicate stops [] ∙ n ∙ sym (stops_of day);
    lines = λ k lt. lines_begin (link_in S own p k) stops A.lines.items lines;
    short = all_short A.lines.items (λ s lt.
        subst (λ (ws : List Waiter). length ws ≤ MAX_PERSONS)
        (sym (ap (λ (ls : List (List Waiter)). line_at ls s) lines ∙ same_all {X = List Waiter} [] stops s)) (omega arith));
    network = network;
    slots = ap (λ (ns : List ℕ). length ns) queues ∙ length-replicate {A = ℕ} slots 0 ∙ m ∙ network.links.count;
    queues = λ k lt other.
        ap (λ (ns : List ℕ). get_or ns k 0) queues ∙ same_all {X = ℕ} 0 slots k
        ∙ sym (ap (λ (rs : List Row). length rs) (none_at (link_in S own p k) Queue));
  }
