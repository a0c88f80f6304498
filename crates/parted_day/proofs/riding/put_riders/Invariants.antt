use Rattle.std.proofs.Common.{◌≡◌, length}
use Rattle.law_parts_of_days.specs.Riding.{put_riders}
use Rattle.parted_day.proofs.riding.put_riders.Given as goal

abbrev pub invariant-loop-rest : goal.invariant-loop-rest
invariant-loop-rest l = put_riders l.link l.rest l.table ≡ put_riders l.link l.riders l.initial.table

abbrev pub decreases-loop-rest : goal.decreases-loop-rest
decreases-loop-rest l = length l.rest
