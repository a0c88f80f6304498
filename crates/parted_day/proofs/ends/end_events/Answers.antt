use Rattle.std.proofs.Common.{◌∙◌, ap}
use Rattle.partition.specs.Owned.{owner_in}
use Rattle.traffic.specs.Rows.{World}
use Rattle.parted_day.proofs.Ended.{ended_day}
use Rattle.parted_day.proofs.ends.end_events.Goals as goal

pub returns : goal.returns
returns c =
    let run = c.args.run.now in
    ended_day run.day.now (owner_in run.owner.now.of_node) run.owner.now.parts c.args.partition run.given run.owner.now.owned c.args.area
    c.deref-2.result.now c.world.inside.persons.items c.deref.result.now (ap (λ (W : World). W.persons) c.world.view_is) c.deref.ensures.value
    c.requires.stands (c.deref-2.ensures.value ∙ c.requires.strays) c.in_ok-events.events.items c.in_ok-events.ensures
