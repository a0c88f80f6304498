-- What the partitions of a town told of a second, and what they tell of the end of the day, is what happened then.
use Rattle.std.proofs.Common.{◌≡◌, ℕ, suc, ◌<◌, true, List, [], ◌∷◌, arith, refl, sym, ◌∙◌, ap, map, length}
use Rattle.std.proofs.lemmas.List.Elements.{All-contains, Contains-append_right, filter_passes}
use Rattle.std.specs.{List.Contains, Prelude.Bool, Prelude.filter, Prelude.flat_map, Prelude.◌==◌}
use Rattle.events.specs.{Keys.phase_code, declared.event.Event.Event, declared.event.Key.Key}
use Rattle.events.specs.declared.event.Phase.TheVariants as phase
use Rattle.town.specs.{Views.setup, declared.day_input.DayInput.DayInput}
use Rattle.traffic.proofs.{Common.eqb-true, Common.events_from, Common.day, Common.end_events, Order.from-ascends, Order.day-ascends}
use Rattle.traffic.specs.{Day.second_events, Day.world_at, Day.world_start, Day.keyed, Frames.Ascends, Lists.below, Persons.stranded, Setup.Setup}
use Rattle.parts.specs.{Merge.Merges, Owners.Owner, Owners.owner_of_turn, Owners.owner_of_event, Parts.own_events, Parts.ends_with, Parts.own_end_events}
use Rattle.law_in_range.{proofs.Days.chosen_fit, specs.Setups.HaveFittingPlans}
use Rattle.law_matches_plans.proofs.Towns.{town_sound, town_consistent}
use Rattle.law_partitions.proofs.{Enders.ender_at, Enders.shared, Merging.Shared, Merging.dealt, Setting.lawful, Setting.alighting, Setting.goes_in_parts}
use Rattle.law_partitions.specs.Laws.{GoesInParts}
use Rattle.law_sound_setups.specs.{Consistent.IsConsistentSetup, Setups.IsSoundSetup}
use Rattle.event_merge.{proofs.Told.ShareNone, specs.Lists.CanMerge}
use Rattle.partition.specs.Owned.{owner_in}
use Rattle.partition.specs.declared.owner.Owner as owners
use Rattle.divided_day.specs.Days.{told_at, end_told_in}
use Rattle.streamed_day.proofs.Dealing.{some_ascend, later_ascend, kept_alike, one_each, can_merge, merged_is}

-- OF A SECOND, AND OF ANY EVENTS OF SECONDS
abbrev told_in : Setup → Owner → List Event → ℕ → List Event
told_in S own es p = filter (λ (e : Event). owner_of_event S own e == p) es

second_ascends : (S : Setup) (t : ℕ) → Ascends (second_events S t (world_at S t))
unfolding events_from
second_ascends S t =
    later_ascend (events_from S (world_start S) t) (second_events S t (world_at S t)) (from-ascends S (world_start S) (suc t))

passes : (p : Event → Bool) (xs : List Event) (a : Event) → Contains (filter p xs) a → p a ≡ true
passes p xs a c = All-contains (λ (e : Event). p e ≡ true) (filter p xs) a (filter_passes p xs) c

-- by its key an event tells whose it is
events_apart : (S : Setup) (own : Owner) (es : List Event) (parts : ℕ) → ShareNone (told_in S own es) parts
events_apart S own es parts p q lp lq a b here there same =
    sym (eqb-true (owner_of_event S own a) p (passes (λ (e : Event). owner_of_event S own e == p) es a here))
    ∙ ap (λ (k : Key). owner_of_turn S own k.second k.phase k.number) same
    ∙ eqb-true (owner_of_event S own b) q (passes (λ (e : Event). owner_of_event S own e == q) es b there)

-- OF THE END
abbrev told_of : Setup → ℕ → List Event
told_of S i = keyed S.settings.end_second (phase_code phase.E) i 0 (stranded S (world_at S S.settings.end_second) i)

abbrev end_of : Setup → List Event
end_of S = end_events S S.settings.end_second (world_at S S.settings.end_second)

end_ascends : (S : Setup) → Ascends (end_of S)
unfolding day
end_ascends S = later_ascend (events_from S (world_start S) S.settings.end_second) (end_of S) (day-ascends S)

end_is : (S : Setup) → end_of S ≡ flat_map (told_of S) (below (length S.persons))
unfolding end_events
end_is S = refl

ends_ascend : (S : Setup) (own : Owner) (parts : ℕ) → GoesInParts S own parts → (p : ℕ) → Ascends (own_end_events S own parts p)
ends_ascend S own parts goes p =
    later_ascend (own_events S own p S.settings.end_second) (own_end_events S own parts p) (goes.day.ascends p)

ends_apart : (S : Setup) (own : Owner) (parts : ℕ) → GoesInParts S own parts → ShareNone (own_end_events S own parts) parts
ends_apart S own parts goes p q lp lq a b here there same =
    goes.day.apart p q lp lq a b
    (Contains-append_right (own_events S own p S.settings.end_second) (own_end_events S own parts p) a here)
    (Contains-append_right (own_events S own q S.settings.end_second) (own_end_events S own parts q) b there) same

dealt_ends : (S : Setup) (own : Owner) (parts : ℕ) → Shared S own parts (ender_at S own S.settings.end_second) → (p : ℕ) → p < parts
    → own_end_events S own parts p ≡ dealt (told_of S) (ender_at S own S.settings.end_second) (below (length S.persons)) p
unfolding own_end_events
dealt_ends S own parts all p lt =
    ap (flat_map (told_of S))
    (kept_alike (ends_with S own parts p) (λ i. ender_at S own S.settings.end_second i == p) (length S.persons) 0 (length S.persons)
    (λ i inside. all.who p i lt inside) (omega arith))

-- OF A TOWN
module _ (day : DayInput) (owner : owners.Owner) (given : HaveFittingPlans day) where
  sound : IsSoundSetup (setup day)
  sound = town_sound day (chosen_fit day given)

  consistent : IsConsistentSetup (setup day)
  consistent = town_consistent day (chosen_fit day given)

  goes : GoesInParts (setup day) (owner_in owner.of_node) owner.parts
  goes = goes_in_parts (setup day) sound consistent (owner_in owner.of_node) owner.parts owner.owned

  all_shared : Shared (setup day) (owner_in owner.of_node) owner.parts
      (ender_at (setup day) (owner_in owner.of_node) (setup day).settings.end_second)
  all_shared = shared (setup day) (owner_in owner.of_node) owner.parts (lawful (setup day) sound consistent)
      (alighting (setup day) sound consistent) owner.owned

  -- events in the order of their keys, dealt out by their owners
  pub can_merge_events : (es : List Event) (n : ℕ) (lists : List (List Event)) → Ascends es → n ≡ owner.parts
      → lists ≡ map (λ p. told_in (setup day) (owner_in owner.of_node) es p) (below n) → CanMerge lists
  can_merge_events es n lists up e is =
      let S = setup day in
      let own = owner_in owner.of_node in
      can_merge (told_in S own es) owner.parts n lists (λ p. some_ascend (λ (x : Event). owner_of_event S own x == p) es up)
      (events_apart S own es owner.parts) e is

  pub merged_events : (es : List Event) (n : ℕ) (lists : List (List Event)) (events : List Event) → Ascends es → n ≡ owner.parts
      → lists ≡ map (λ p. told_in (setup day) (owner_in owner.of_node) es p) (below n) → Merges lists events → events ≡ es
  merged_events es n lists events up e is merges =
      let S = setup day in
      let own = owner_in owner.of_node in
      merged_is (λ (x : Event). x ∷ []) (owner_of_event S own) es (told_in S own es) owner.parts n lists events es all_shared.events
      (λ p lt. sym (one_each (told_in S own es p))) (sym (one_each es)) up e is merges

  pub can_merge_second : (t n : ℕ) (lists : List (List Event)) → n ≡ owner.parts → lists ≡ map (λ p. told_at day owner p t) (below n)
      → CanMerge lists
  can_merge_second t n lists e is =
      let S = setup day in
      can_merge_events (second_events S t (world_at S t)) n lists (second_ascends S t) e is

  pub merged_second : (t n : ℕ) (lists : List (List Event)) (events : List Event) → n ≡ owner.parts
      → lists ≡ map (λ p. told_at day owner p t) (below n) → Merges lists events
      → events ≡ second_events (setup day) t (world_at (setup day) t)
  merged_second t n lists events e is merges =
      let S = setup day in
      merged_events (second_events S t (world_at S t)) n lists events (second_ascends S t) e is merges

  pub can_merge_ends : (n : ℕ) (lists : List (List Event)) → n ≡ owner.parts → lists ≡ map (end_told_in day owner) (below n)
      → CanMerge lists
  can_merge_ends n lists e is =
      let S = setup day in
      let own = owner_in owner.of_node in
      can_merge (own_end_events S own owner.parts) owner.parts n lists (ends_ascend S own owner.parts goes)
      (ends_apart S own owner.parts goes) e is

  pub merged_ends : (end n : ℕ) (lists : List (List Event)) (events : List Event) → end ≡ (setup day).settings.end_second
      → n ≡ owner.parts → lists ≡ map (end_told_in day owner) (below n) → Merges lists events
      → events ≡ end_events (setup day) end (world_at (setup day) end)
  merged_ends end n lists events last e is merges =
      let S = setup day in
      let own = owner_in owner.of_node in
      merged_is (told_of S) (ender_at S own S.settings.end_second) (below (length S.persons)) (own_end_events S own owner.parts)
      owner.parts n lists events (end_of S) all_shared.ends (dealt_ends S own owner.parts all_shared) (end_is S) (end_ascends S) e is merges
      ∙ ap (λ t. end_events S t (world_at S t)) (sym last)
