-- The partitions of a day of a town.
use Rattle.std.proofs.Common.{◌≡◌, ℕ, ◌<◌, List, [], length, get_or, map, sym, ◌∙◌, ap, subst, subst₂, refl}
use Rattle.events.specs.declared.event.Event.{Event}
use Rattle.town.specs.{Setups.setup_of, Views.setup, declared.day_input.DayInput.DayInput}
use Rattle.traffic.specs.{Day.day as events_of_day, Lists.below}
use Rattle.parts.specs.{Merge.Merges, Owners.near, Owners.lag}
use Rattle.law_in_range.{proofs.Days.chosen_fit, specs.Setups.HaveFittingPlans}
use Rattle.law_matches_plans.proofs.Towns.{town_sound, town_consistent}
use Rattle.law_partitions.{proofs.Joined.near-self, proofs.Setting.goes_in_parts, proofs.Whole.near-both, specs.Laws.GoesInParts}
use Rattle.law_steps.proofs.Orders.{net_is}
use Rattle.event_merge.{proofs.Told.parts_can_merge, specs.Lists.CanMerge}
use Rattle.partition.specs.{Neighbours.neighbours_of, Neighbours.lags_of, Owned.owner_in}
use Rattle.partition.specs.declared.{borders.LagPair.LagPair, joining.Pair.Pair, owner.Owner.Owner}
use Rattle.step_core.specs.{Nets.Net, Nets.IsNet, Nets.AreBorders, declared.part.Border.Border}
use Rattle.divided_day.proofs.{Bordering.are_borders, Scanning.scanned, Single.one_merge}
use Rattle.divided_day.specs.{Borders.borders_among, Days.net_in, Days.borders_in, Days.told_in, Divisions.AreBordersOf}

-- a town has as many links as its network
pub links_of : (day : DayInput) → length (setup day).links ≡ length day.town.now.network.links
unfolding setup_of
links_of day = refl

-- what was found of pairs of neighbours is what each partition's neighbours are
pub borders_found : (day : DayInput) (owner : Owner) (pairs : List Pair) (lags : List LagPair) (lists : List (List Border))
    → pairs ≡ neighbours_of (setup day) (owner_in owner.of_node) owner.parts
    → lags ≡ map (lags_of (setup day) (owner_in owner.of_node)) (neighbours_of (setup day) (owner_in owner.of_node) owner.parts)
    → length lists ≡ owner.parts → ((p : ℕ) → p < owner.parts → get_or lists p [] ≡ borders_among p pairs lags)
    → AreBordersOf day owner lists
borders_found day owner pairs lags lists ps ls many each =
    let S = setup day in
    let own = owner_in owner.of_node in
    let all = neighbours_of S own owner.parts in
    record {
      many = many;
      each = λ p lt. each p lt ∙ ap (λ xs. borders_among p xs lags) ps ∙ ap (λ ys. borders_among p all ys) ls
          ∙ scanned (near S own) (lag S own) (near-self S own) (near-both S own) p owner.parts lt;
    }

module _ (day : DayInput) (owner : Owner) (given : HaveFittingPlans day) where
  goes : GoesInParts (setup day) (owner_in owner.of_node) owner.parts
  goes = goes_in_parts (setup day) (town_sound day (chosen_fit day given)) (town_consistent day (chosen_fit day given))
      (owner_in owner.of_node) owner.parts
      owner.owned

  pub net_sound : IsNet (net_in day owner)
  net_sound = net_is (setup day) (owner_in owner.of_node) owner.parts day.town.now.settings.end_second goes.neighbours owner.few
      day.town.now.sound.settings.ends

  pub borders_sound : (p : ℕ) → AreBorders (net_in day owner) p (borders_in day owner p)
  borders_sound p = are_borders (setup day) (owner_in owner.of_node) owner.parts day.town.now.settings.end_second p goes.neighbours

  -- the same of what a part calls so
  pub own_net_sound : (N : Net) → N ≡ net_in day owner → IsNet N
  own_net_sound N is = subst IsNet (sym is) net_sound

  pub own_borders_sound : (N : Net) (p : ℕ) (rows : List Border) → N ≡ net_in day owner → rows ≡ borders_in day owner p
      → AreBorders N p rows
  own_borders_sound N p rows is found =
      subst₂ (λ (M : Net) (xs : List Border). AreBorders M p xs) (sym is) (sym found) (borders_sound p)

  -- what so many partitions told can be merged, and is the day
  pub can_merge : (n : ℕ) (lists : List (List Event)) → n ≡ owner.parts → lists ≡ map (told_in day owner) (below n) → CanMerge lists
  can_merge n lists e is =
      let S = setup day in
      let own = owner_in owner.of_node in
      subst CanMerge (sym (is ∙ ap (λ m. map (told_in day owner) (below m)) e))
      (parts_can_merge (told_in day owner) owner.parts goes.day.ascends goes.day.apart)

  pub merged_day : (n : ℕ) (lists : List (List Event)) (events : List Event) → n ≡ owner.parts → lists ≡ map (told_in day owner) (below n)
      → Merges lists events → events ≡ events_of_day (setup day)
  merged_day n lists events e is merges =
      one_merge (map (told_in day owner) (below owner.parts)) events (events_of_day (setup day))
      (subst (λ ls. Merges ls events) (is ∙ ap (λ m. map (told_in day owner) (below m)) e) merges) goes.day.merged
