use Rattle.std.proofs.Common.{length}
use Rattle.town.specs.Views.{setup}
use Rattle.part_persons.{proofs.Beginning.AreFirst, specs.Own.first_row}
use Rattle.part_persons.proofs.homes.first_rows.Given as goal

abbrev pub invariant-loop-person : goal.invariant-loop-person
invariant-loop-person l = AreFirst (first_row (setup l.day) l.homes l.partition) l.person (length l.homes) l.rows.items
