use Rattle.std.proofs.Common.{ℕ, ◌<◌, subst}
use Rattle.scenario.proofs.There.{are_there}
use Rattle.scenario.proofs.assembling.numbering_in.Goals as goal

pub returns-clause-there : goal.returns-clause-there
returns-clause-there c =
    let schedule = c.args.schedule.now in
    record {
      lines = are_there c.args.plans.now.lines schedule.routes.lines c.in_ok-lines.lines.items c.in_ok-lines.ensures;
      stops = λ n k h. subst (λ (count : ℕ). k < count) schedule.stops.each (are_there c.args.plans.now.stops schedule.stops.names c.in_ok-stops.stops.items c.in_ok-stops.ensures n k h);
    }
