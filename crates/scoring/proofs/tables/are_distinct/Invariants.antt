use Rattle.std.proofs.Common.{◌≡◌, drop, map}
use Rattle.scoring.specs.Limits.{are_distinct, kind_of}
use Rattle.scoring.proofs.tables.are_distinct.Given as goal

abbrev pub invariant-loop-place : goal.invariant-loop-place
invariant-loop-place l = are_distinct (map kind_of l.tables) ≡ are_distinct (map kind_of (drop l.place l.tables))
