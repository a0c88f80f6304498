use Rattle.std.proofs.Common.{List, ℕ, ap, ◌∙◌}
use Rattle.route_report.specs.Report.{map_of, route_text}
use Rattle.qsim_top.proofs.Routed.{town_route}
use Rattle.qsim_top.proofs.reporting.route_between.Goals as goal

pub returns : goal.returns
returns c =
    let args = c.args in
    let roads = map_of args.town.now.network in
    town_route args.town.now args.from.now args.to.now args.second _ c.in_ok-answer.answer
    (c.in_ok-text.ensures ∙ ap (λ (w : List ℕ). route_text roads w c.bytes_of-end.result.now args.second) c.bytes_of-start.ensures
    ∙ ap (λ (w : List ℕ). route_text roads args.from.now w args.second) c.bytes_of-end.ensures)
    c.in_ok-answer.ensures
