use Rattle.std.proofs.Common.{ℤ, subst, sym}
use Rattle.scoring.proofs.WorthLemmas.{leg_code, leg_worth-within, found_mode, mode_product_fits, mode_sum_fits}
use Rattle.scoring.specs.{Ranges.IsWithin, Tables.place_of, declared.TheConstants.MAX_LEG_WORTH}
use Rattle.scoring.proofs.worths.leg_worth.Goals as goal

pub overflow_mul-result : goal.overflow_mul-result
overflow_mul-result c =
    let found = found_mode c.args.tables.now.modes (place_of c.args.mode) c.mode_score-score.result c.args.tables.now.modes_in c.mode_score-score.ensures in
    mode_product_fits c.mode_score-score.result c.args.seconds c.from.result found c.requires c.from.ensures

pub overflow_add-result : goal.overflow_add-result
overflow_add-result c =
    let found = found_mode c.args.tables.now.modes (place_of c.args.mode) c.mode_score-score.result c.args.tables.now.modes_in c.mode_score-score.ensures in
    mode_sum_fits c.mode_score-score.result c.args.seconds c.from.result found c.requires c.from.ensures

pub returns-clause-value : goal.returns-clause-value
returns-clause-value c =
    let found = found_mode c.args.tables.now.modes (place_of c.args.mode) c.mode_score-score.result c.args.tables.now.modes_in c.mode_score-score.ensures in
    leg_code c.args.tables.now.modes c.args.mode c.mode_score-score.result c.args.seconds c.from.result c.mode_score-score.ensures found
    c.requires c.from.ensures

pub returns-clause-within : goal.returns-clause-within
returns-clause-within c =
    let found = found_mode c.args.tables.now.modes (place_of c.args.mode) c.mode_score-score.result c.args.tables.now.modes_in c.mode_score-score.ensures in
    let same =
    leg_code c.args.tables.now.modes c.args.mode c.mode_score-score.result c.args.seconds c.from.result c.mode_score-score.ensures found
    c.requires c.from.ensures in
    subst (λ (z : ℤ). IsWithin MAX_LEG_WORTH z) (sym same)
    (leg_worth-within c.args.tables.now.modes c.args.mode c.args.seconds c.args.tables.now.modes_in c.requires)
