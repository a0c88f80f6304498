use Rattle.std.proofs.Common.{◌∙◌}
use Rattle.calendar.specs.Due.{due_at}
use Rattle.partition.specs.Owned.{owner_in}
use Rattle.rows.specs.declared.schedule.DepartureRow.{DepartureRow}
use Rattle.part_persons.{proofs.Departing.added, specs.Starts.is_due}
use Rattle.part_persons.proofs.departures.by_second.Goals as goal

pub loop-number-preserved : goal.loop-number-preserved
loop-number-preserved c = λ u lt.
    let none : DepartureRow = record { route = 0; second = 0; seats = 0 } in
    c.in_ok-add_if_own.ensures u lt
    ∙ added (is_due c.args.day.now (owner_in c.args.owner.now.of_node) c.args.partition u) c.loop-number.number c.args.departures.now none
    (due_at u c.loop-number.calendar) c.loop-number-test.true (c.loop-number.invariant u lt)
