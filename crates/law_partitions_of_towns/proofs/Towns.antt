-- The days of towns go in parts.
use Rattle.traffic.proofs.Common.{ℕ, List, All, PlanRows, map, below}
use Rattle.town.specs.{Rows.TownRows, Rows.IsTown, Setups.setup_of, Views.setup, Views.ChosenFit, declared.day_input.DayInput.DayInput}
use Rattle.law_in_range.{proofs.Towns.town_fit, specs.Rows.IsFitWorld, specs.Setups.IsPlanIn, specs.Setups.counts_in}
use Rattle.law_matches_plans.proofs.Towns.{rows_sound, rows_consistent, town_sound, town_consistent}
use Rattle.parts.specs.Owners.{Owner}
use Rattle.law_partitions.proofs.Setting.{lawful, are_local, goes_in_parts}
use Rattle.law_partitions.specs.{Laws.IsOwner, Laws.GoesInParts, Whole.all_told}
use Rattle.law_own_worlds.proofs.{Days.own_second, Days.follows, Fitting.ready_fit, Standing.stands}
use Rattle.law_own_worlds.specs.Days.{FollowsTheDay, StandsAsInTheDay, world_before}
use Rattle.event_merge.{proofs.Told.parts_can_merge, specs.Lists.CanMerge}
use Rattle.partition.specs.{Owned.owner_in, declared.owner.Owner.Owner as OwnerOfNodes}

pub rows_go : (T : TownRows) (chosen : List PlanRows) (k : ℕ) (own : Owner) (parts : ℕ) → IsTown T → All (IsPlanIn T) chosen → IsOwner own parts → GoesInParts (setup_of T chosen k) own parts
rows_go T chosen k own parts town h shares = goes_in_parts (setup_of T chosen k) (rows_sound T chosen k town h) (rows_consistent T chosen k town h) own parts shares

pub town_goes : (day : DayInput) (own : Owner) (parts : ℕ) → ChosenFit day → IsOwner own parts → GoesInParts (setup day) own parts
town_goes day own parts h shares = goes_in_parts (setup day) (town_sound day h) (town_consistent day h) own parts shares

pub divided_town_goes : (day : DayInput) (owner : OwnerOfNodes) → ChosenFit day → GoesInParts (setup day) (owner_in owner.of_node) owner.parts
divided_town_goes day owner h = town_goes day (owner_in owner.of_node) owner.parts h owner.owned

pub divided_town_merges : (day : DayInput) (owner : OwnerOfNodes) → ChosenFit day → CanMerge (map (all_told (setup day) (owner_in owner.of_node) owner.parts) (below owner.parts))
divided_town_merges day owner h =
    let told = (divided_town_goes day owner h).day in
    parts_can_merge (all_told (setup day) (owner_in owner.of_node) owner.parts) owner.parts told.ascends told.apart

-- THE OWN WORLDS OF PARTITIONS
pub town_follows : (day : DayInput) (owner : OwnerOfNodes) (p t : ℕ) → ChosenFit day → FollowsTheDay (setup day) (owner_in owner.of_node) p t
town_follows day owner p t h =
    let S = setup day in
    let own = owner_in owner.of_node in
    follows S own owner.parts p t (counts_in day) (are_local S (town_sound day h) (town_consistent day h) own owner.parts owner.owned) (town_fit day h)

pub town_stands : (day : DayInput) (owner : OwnerOfNodes) (p t : ℕ) → ChosenFit day
    → StandsAsInTheDay (setup day) (owner_in owner.of_node) p t
town_stands day owner p t h =
    let S = setup day in
    let own = owner_in owner.of_node in
    stands S own owner.parts p t (counts_in day) (lawful S (town_sound day h) (town_consistent day h)) (town_fit day h)
    (own_second S own owner.parts p t (counts_in day) (are_local S (town_sound day h) (town_consistent day h) own owner.parts owner.owned) (town_fit day h))

pub town_world_fit : (day : DayInput) (owner : OwnerOfNodes) (p t : ℕ) → ChosenFit day
    → IsFitWorld (counts_in day) (world_before (setup day) (owner_in owner.of_node) p t)
town_world_fit day owner p t h = ready_fit (setup day) (owner_in owner.of_node) p t (counts_in day) (town_fit day h)
