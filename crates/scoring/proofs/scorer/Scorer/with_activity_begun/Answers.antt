use Rattle.std.proofs.{Common.ℕ, Common.ℤ, Common.pos, Common.◌≤◌, Common.◌+ℤ◌, Common.◌*ℤ◌, Common.ap, Common.◌∙◌, Common.arith, lemmas.Int.ints}
use Rattle.limits.specs.declared.TheConstants.{LAST_SECOND}
use Rattle.scoring.specs.declared.scorer.Doing.TheVariants as doing
use Rattle.scoring.proofs.WorthLemmas.{late_sum_fits, late_sum_same, costs_are}
use Rattle.scoring.proofs.scorer.Scorer.with_activity_begun.Goals as goal

pub overflow_add-result : goal.overflow_add-result
overflow_add-result c =
    let few : c.seconds_late-late.result ≤ LAST_SECOND = omega (arith, c.seconds_late-late.ensures.most, c.requires.in_day) in
    let costs = costs_are c.args.tables.now.late_per_second c.args.tables.now.stuck c.args.tables.now.costs_in in
    let low = costs.late_low in let high = costs.late_high in
    late_sum_fits c.args.self.sum c.args.tables.now.late_per_second c.seconds_late-late.result c.from.result c.requires.small (low, omega (arith, ints)) few c.from.ensures

pub returns : goal.returns
returns c =
    let few : c.seconds_late-late.result ≤ LAST_SECOND = omega (arith, c.seconds_late-late.ensures.most, c.requires.in_day) in
    let costs = costs_are c.args.tables.now.late_per_second c.args.tables.now.stuck c.args.tables.now.costs_in in
    let low = costs.late_low in let high = costs.late_high in
    rw (c.in-Kind.is)
    (ap (λ (z : ℤ). record c.args.self { doing = doing.Activity c.in-Kind.kind c.args.second; sum = z })
    (late_sum_same c.args.self.sum c.args.tables.now.late_per_second c.seconds_late-late.result c.from.result c.requires.small (low, omega (arith, ints)) few c.from.ensures
    ∙ ap (λ (n : ℕ). c.args.self.sum +ℤ c.args.tables.now.late_per_second *ℤ pos n) c.seconds_late-late.ensures.value))
