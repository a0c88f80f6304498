-- The part of a partition once its nodes have had their turns in a second.
use Rattle.traffic.proofs.Common.{◌≡◌, ℕ, ◌+◌, ◌<◌, true, List, [], ◌++◌, ◌∙◌, ap, refl, sym, subst, arith, eqb, eqb-true, eq-eqb, length, get_or, map, flat_map}
use Rattle.traffic.proofs.Common.{Option, Some, Event, link_of_stop, hole_of, storage_of, seconds_of, taken_at, told, moves_of, persons_after}
use Rattle.traffic.specs.declared.{moves.Occurrence.Occurrence, node_views.OutLink.OutLink, world.Row.Row, world.Waiter.Waiter}
use Rattle.town.specs.{Views.setup, declared.day_input.DayInput.DayInput}
use Rattle.calendar.specs.{Due.Due, Due.due_at, Waking.wake_of}
use Rattle.law_in_range.specs.{Rows.Counts, Setups.counts_in, Setups.HaveFittingPlans}
use Rattle.parts.specs.Owners.{Owner, begins_in}
use Rattle.law_partitions.specs.Laws.{IsOwner}
use Rattle.law_own_worlds.specs.Days.{my_node_turns}
use Rattle.law_own_seconds.specs.Seconds.{held_early, held_crossed, world_early, world_crossed}
use Rattle.law_parts_of_days.{proofs.Awaited.starts_length, proofs.Hearing.heard_stand, specs.Settling.wake_starts}
use Rattle.link_seconds.specs.Seconds.{HaveLines, AreShort}
use Rattle.node_move.specs.declared.crossings.Entering.{Entering}
use Rattle.part_links.proofs.Heard.{heard_world}
use Rattle.part_links.specs.Links.{LinesStandAt}
use Rattle.part_nodes.proofs.Held.{before_is}
use Rattle.part_nodes.specs.{Phase.StandsForAt, Phase.AreAwaitedAt, Phase.IsPhaseAt, declared.network.NetworkState.NetworkState}
use Rattle.part_persons.specs.Dues.{AreFollowedIn}
use Rattle.part_places.specs.{Taking.AreTakenOf, Taking.IsFull, Taking.begins_here, Taking.still, Taking.times, declared.places.Places.Places}
use Rattle.part_seconds.proofs.{Knowing.known_before, Names.in_second, Slots.link_own, Waking.starts_spare, Waking.awaited_when_free}
use Rattle.part_seconds.specs.{Settling.places_known, Slots.extent_of, Stands.NetworkStands, Stands.AreaStands, declared.area.Area.Area}
use Rattle.divided_day.specs.Slots.{AreSlots}
use Rattle.part_seconds.proofs.Knowing as knowing

place : ℕ → ℕ → ℕ → Option OutLink
place n s k = Some (record { taken = n; storage = s; seconds = k })

-- the network of a part in which the places of a second are free, and nodes are woken for them
abbrev pub freed_network : Area → Places → List (Option ℕ) → NetworkState
freed_network A P wakes = record A.network { places = P; node_wakes = wakes }

-- What follows for the part of a partition once that is so in second t: its network stands for the world in which its nodes have their turns,
-- and once they had these the part stands for what they make of it.
pub record Begins (day : DayInput) (own : Owner) (p t : ℕ) (A : Area) (P : Places) (wakes : List (Option ℕ)) : Type 0 where
  pub stands :
      StandsForAt (counts_in day) (setup day) (extent_of (setup day) own p) day.town.now.settings.end_second t (freed_network A P wakes)
      (world_early (setup day) own p t)
  pub awaited :
      AreAwaitedAt (λ n. eqb (own n) p) (setup day) day.town.now.settings.end_second (t + 1) t wakes (world_early (setup day) own p t)
  pub crossed :
      (C : Area) (first out : List Event) (spoken said : List Occurrence) (first_out gone : List Entering) → spoken ≡ []
      → IsPhaseAt (counts_in day) (setup day) (extent_of (setup day) own p) day.town.now.settings.end_second t (world_early (setup day) own p t)
      (freed_network A P wakes) C.network first out spoken said first_out gone
      → C.persons.world ≡ record A.persons.world { persons = persons_after (setup day) t said A.persons.world.persons }
      → ((u : ℕ) → AreFollowedIn day u A.persons.world.persons A.persons.wakes → AreFollowedIn day u C.persons.world.persons C.persons.wakes)
      → length C.persons.wakes ≡ length C.persons.world.persons → C.departures ≡ A.departures → C.lines.items ≡ A.lines.items
      → C.queues.items ≡ A.queues.items
      → AreaStands day own p (t + 1) (t + 1) t C (held_crossed (setup day) own p t) (world_crossed (setup day) own p t)

module _ (day : DayInput) (own : Owner) (parts p t : ℕ) (slots : List ℕ) (given : HaveFittingPlans day) (shares : IsOwner own parts)
    (are : AreSlots (setup day) own slots) (A : Area)
    (h : AreaStands day own p (t + 1) t t A (held_early (setup day) own p t) (world_early (setup day) own p t)) where
  open (in_second day own p t) use {S, end, V3, V4, E, G, num, size}

  abbrev z : Counts
  z = counts_in day

  -- PLACES, AS THEY ARE KNOWN
  taken_early : (m : ℕ) → m < length S.links → begins_in S own m ≡ p
      → E.rows m + still (t + 1) ((places_known S E).frees m) ≡ taken_at S t m V3
  taken_early m lt b =
      let K = knowing.places day own parts p t given shares in
      sym (known_before S own p (t + 1) m E V3 (K.early (t + 1) (omega arith)) lt b) ∙ before_is S t m V3

  taken_crossed : (m : ℕ) → m < length S.links → begins_in S own m ≡ p
      → G.rows m + still (t + 1) ((places_known S G).frees m) ≡ taken_at S t m V4
  taken_crossed m lt b =
      let K = knowing.places day own parts p t given shares in
      sym (known_before S own p (t + 1) m G V4 (K.crossed (t + 1) (omega arith)) lt b) ∙ before_is S t m V4

  frees_stay : (m : ℕ) → (places_known S E).frees m ≡ (places_known S G).frees m
  frees_stay m =
      ap (λ (hs : List ℕ). map (λ (s : ℕ). s + hole_of S m) hs) (sym ((knowing.places day own parts p t given shares).crossed_holes m))

  -- ONCE THE PLACES OF THE SECOND ARE FREE
  module _ (P : Places) (ms : List ℕ) (wakes : List (Option ℕ))
      (taken : AreTakenOf (begins_here S own p) (length S.links) end (t + 1) (places_known S E) P)
      (starts : wakes ≡ wake_starts S own p t ms A.network.node_wakes)
      (full : (m : ℕ) → m < length S.links → begins_here S own p m ≡ true → times m ms ≡ 0 → IsFull t (places_known S E) m
      → IsFull (t + 1) (places_known S E) m) where
    abbrev N : NetworkState
    N = freed_network A P wakes

    stands_for : StandsForAt z S (extent_of S own p) end t N V3
    unfolding place
    stands_for = record {
      links = record {
        fit = (knowing.stays day own parts p t given shares).set_out_is;
        on = knowing.goes_early day own parts p t given shares;
        stand = h.network.links;
        asleep = h.network.asleep;
        places = λ m lt b.
            taken.places m lt b
            ∙ ap (λ (n : ℕ). place n (storage_of S m) (seconds_of S m)) (taken_early m lt (eqb-true (begins_in S own m) p b));
      };
      nodes = ap (λ (ws : List (Option ℕ)). length ws) starts ∙ starts_length S own p t ms A.network.node_wakes ∙ h.network.nodes;
      only = λ k off.
          ap (λ (ws : List (Option ℕ)). wake_of ws k) starts ∙ starts_spare S own p t k ms A.network.node_wakes off ∙ h.network.only k off;
    }

    awaited_free : AreAwaitedAt (λ n. eqb (own n) p) S end (t + 1) t wakes V3
    awaited_free =
        let K = knowing.places day own parts p t given shares in
        subst (λ (ws : List (Option ℕ)). AreAwaitedAt (λ n. eqb (own n) p) S end (t + 1) t ws V3) (sym starts)
        (awaited_when_free S own p end t V3 A.network.node_wakes ms h.network.nodes (knowing.goes_early day own parts p t given shares)
        (λ m lt b none was. (
        let a = known_before S own p t m E V3 (K.early t (omega arith)) lt b in
        let c = known_before S own p (t + 1) m E V3 (K.early (t + 1) (omega arith)) lt b in
        let f = full m lt (eq-eqb (begins_in S own m) p b) none (omega arith) in
        omega arith)) h.network.awaited)

    -- the network behind their turns
    network : (M : NetworkState) (first out : List Event) (spoken said : List Occurrence) (first_out gone : List Entering)
        → IsPhaseAt z S (extent_of S own p) end t V3 N M first out spoken said first_out gone → NetworkStands day own p (t + 1) t M G V4
    unfolding place
    network M first out spoken said first_out gone g = record {
      links = g.stands.links.stand;
      asleep = g.stands.links.asleep;
      places = record {
        places = λ m lt b.
            g.stands.links.places m lt b
            ∙ ap (λ (n : ℕ). place n (storage_of S m) (seconds_of S m)) (sym (taken_crossed m lt (eqb-true (begins_in S own m) p b)));
        holes = λ m lt b.
            g.holes m ∙ taken.holes m lt b ∙ ap (λ (fs : List ℕ). still (t + 1) fs) (frees_stay m);
        freed = λ m u lt b from to.
            ap (λ (c : Due). times m (due_at u c)) g.freed ∙ taken.freed m u lt b from to ∙ ap (λ (fs : List ℕ). times u fs) (frees_stay m);
      };
      nodes = g.stands.nodes;
      awaited = g.awaited;
      only = g.stands.only;
    }

    pub begins : Begins day own p t A P wakes
    begins = record {
      stands = stands_for;
      awaited = awaited_free;
      crossed = λ C first out spoken said first_out gone silent g world followed looks departures lines queues.
          let us = my_node_turns S own p t in
          let K = knowing.places day own parts p t given shares in
          record {
            persons = heard_stand day t (t + 1) (moves_of us) (flat_map told (moves_of us)) V3 A.persons C.persons (knowing.stays day own parts p t given shares).crossed_is
                refl
                (heard_world S t (moves_of us) spoken said A.persons.world C.persons.world g.said silent world) (followed (t + 1)) looks h.persons;
            departures = λ s from to. ap (λ (d : Due). due_at s d) departures ∙ h.departures s from to;
            stops = ap (λ (ls : List (List Waiter)). length ls) lines ∙ h.stops;
            lines = subst (λ (ls : List (List Waiter)). LinesStandAt num size S ls V4) (sym lines) (λ k lt.
                subst (λ (ws : List Waiter). HaveLines (λ s. eqb (link_of_stop S s) (num k)) A.lines.items ws)
                (sym (knowing.same_wait day own parts p t given shares (num k) (link_own S own p k lt))) (h.lines k lt));
            short = subst (λ (ls : List (List Waiter)). AreShort ls) (sym lines) h.short;
            network = network C.network first out spoken said first_out gone g;
            slots = ap (λ (qs : List ℕ). length qs) queues ∙ h.slots;
            queues = λ k lt off.
                ap (λ (qs : List ℕ). get_or qs k 0) queues ∙ h.queues k lt off
                ∙ ap (λ (xs : List Row). length xs) (sym (K.crossed_queues (num k) off));
          };
    }
