use Rattle.traffic.proofs.Common.{◌∙◌, on}
use Rattle.person_moves.proofs.Removals.{taken_out, none_out}
use Rattle.person_moves.proofs.vehicle_rows.take_out.Goals as goal

pub returns-in-Some : goal.returns-in-Some
returns-in-Some c =
    c.remove.ensures.items
    ∙ taken_out (on c.args.link c.args.stage) c.args.k c.args.rows.now.items c.in-Some.place (rw c.deref.ensures.value at c.in-Some.ensures.place)

pub returns-in_default : goal.returns-in_default
returns-in_default c =
    none_out (on c.args.link c.args.stage) c.args.k c.args.rows.now.items (rw c.deref.ensures.value at c.in_default.ensures.place)
