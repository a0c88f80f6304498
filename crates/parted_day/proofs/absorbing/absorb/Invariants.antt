use Rattle.std.proofs.Common.{◌≡◌, ℕ, ◌-◌, ◌<◌, ◌≤◌, length, take}
use Rattle.partition.specs.Owned.{owner_in}
use Rattle.town.specs.Views.{setup}
use Rattle.divided_day.specs.Borders.{borders_of}
use Rattle.part_seconds.specs.Parcels.{nothing}
use Rattle.step_core.specs.Views.{in_place}
use Rattle.parted_day.specs.Absorbed.{neighbours_at, HasAbsorbed}
use Rattle.parted_day.proofs.absorbing.absorb.Given as goal

abbrev pub invariant-loop-place : goal.invariant-loop-place
invariant-loop-place l = record {
  absorbed :
      HasAbsorbed l.run.day.now (owner_in l.run.owner.now.of_node) l.partition l.second
      (take l.from (neighbours_at (borders_of (setup l.run.day.now) (owner_in l.run.owner.now.of_node) l.run.owner.now.parts l.partition)))
      l.initial.area l.area;
  within : l.from ≤ length l.inbox;
  many : length l.inbox ≡ length l.initial.inbox;
  emptied : (k : ℕ) → k < l.from → in_place nothing l.inbox k ≡ nothing;
  kept : (k : ℕ) → l.from ≤ k → in_place nothing l.inbox k ≡ in_place nothing l.initial.inbox k;
}

abbrev pub decreases-loop-place : goal.decreases-loop-place
decreases-loop-place l = length l.inbox - l.from
