use Rattle.std.proofs.Common.{[], get_or}
use Rattle.partition.specs.Owned.{owner_in}
use Rattle.town.specs.Views.{setup}
use Rattle.parted_day.proofs.Lags.{receiver_there, late_is}
use Rattle.parted_day.proofs.straying.comes_too_late.Goals as goal

pub returns : goal.returns
returns c =
    let run = c.args.run.now in
    let S = setup run.day.now in
    let own = owner_in run.owner.now.of_node in
    let parts = run.owner.now.parts in
    let p = c.args.partition in
    let q = c.args.receiver in
    late_is run.day.now own parts p q c.args.second c.saturating_sub-left.result c.lag_to.result (get_or run.borders.now q []) run.owner.now.owned
    c.requires c.saturating_sub-left.ensures c.lag_to.ensures (run.near q (receiver_there S own parts p q run.owner.now.owned c.requires))
