use Rattle.std.{proofs.Common.◌≡◌, proofs.Common.◌++◌, proofs.Common.length, specs.Prelude.map}
use Rattle.calendar.specs.Due.{AreIn}
use Rattle.town.specs.Views.{setup}
use Rattle.parted_day.specs.Empty.{empty_link}
use Rattle.parted_day.proofs.links.empty_links.Given as goal

abbrev pub invariant-loop-rest : goal.invariant-loop-rest
invariant-loop-rest l = record {
  so_far : l.links.items ++ map (empty_link (setup l.day)) l.rest ≡ map (empty_link (setup l.day)) l.numbers;
  there : AreIn (length l.day.town.now.network.links) l.rest;
}

abbrev pub decreases-loop-rest : goal.decreases-loop-rest
decreases-loop-rest l = length l.rest
