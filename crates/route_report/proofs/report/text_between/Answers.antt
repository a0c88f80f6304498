use Rattle.route_report.{proofs.Telling.text_told, proofs.Telling.none_told, specs.Report.map_of}
use Rattle.std.proofs.Common.{sym}
use Rattle.route_report.proofs.report.text_between.Goals as goal

pub returns-in-Ok : goal.returns-in-Ok
returns-in-Ok c = text_told (map_of c.args.network.now) _ _ c.args.from c.args.second c.args.to _ _ _ _ c.in_ok-times.ensures
    (sym c.args.network.now.each_node) c.in-Ok.ensures.way c.in-Ok.ensures.labels c.in_ok-lines-in-Ok.ensures

pub returns-in-Err-NoRoute : goal.returns-in-Err-NoRoute
returns-in-Err-NoRoute c = none_told c.args.network.now c.args.from c.args.second c.args.to c.requires.from (c.in-Err-NoRoute.ensures.no_route c.in-Err-NoRoute.field-0-is)
