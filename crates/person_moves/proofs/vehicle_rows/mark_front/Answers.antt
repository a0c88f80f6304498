use Rattle.traffic.{proofs.Common.ap, proofs.Common.get_or, proofs.Common.at_second, proofs.Common.on, specs.declared.stage.Stage.TheVariants.Buffer}
use Rattle.person_moves.proofs.Removals.{first_done, none_done}
use Rattle.person_moves.proofs.vehicle_rows.mark_front.Goals as goal

pub returns-in-Some : goal.returns-in-Some
returns-in-Some c =
    let rows = c.args.rows.now in let place = c.in-Some.place in let row = get_or rows place c.index-rows-place.result in
    first_done (on c.args.link Buffer) (at_second c.args.second) rows place row c.in-Some.ensures.place
    (ap (λ r. get_or rows place r) c.index-rows-place.is)

pub returns-in_default : goal.returns-in_default
returns-in_default c = none_done (on c.args.link Buffer) (at_second c.args.second) c.args.rows.now c.in_default.ensures.place
