use Rattle.std.proofs.Common.{◌∙◌, sym, arith, length}
use Rattle.town.specs.Views.{setup}
use Rattle.part_persons.{proofs.Beginning.all_rows, proofs.Beginning.persons_of, specs.Own.first_row}
use Rattle.part_persons.proofs.homes.first_rows.Goals as goal

pub returns : goal.returns
returns c =
    let plans = persons_of c.args.day.now in
    all_rows (first_row (setup c.args.day.now) c.args.homes.now c.args.partition) c.loop-person.person (length c.args.homes.now) _
    c.loop-person.rows.items (omega arith) (c.requires.homes ∙ sym plans) c.loop-person.invariant
