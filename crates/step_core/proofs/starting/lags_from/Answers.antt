use Rattle.std.proofs.{Common.◌∙◌, Common.refl, lemmas.List.length-set}
use Rattle.step_core.proofs.Beginning.{lag_more}
use Rattle.step_core.proofs.starting.lags_from.Goals as goal

pub loop-place-preserved : goal.loop-place-preserved
loop-place-preserved c =
    let so = c.loop-place.invariant in
    record {
      count = length-set _ _ _ ∙ so.count;
      each = lag_more c.args.borders.now c.loop-place.place c.loop-place.lags.items _ c.requires so.count c.loop-place-test.true so.each refl;
    }
