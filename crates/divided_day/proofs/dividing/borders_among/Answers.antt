use Rattle.std.proofs.Common.{◌∙◌, ap, refl, Some, None}
use Rattle.divided_day.proofs.{Scanning.among_more, Scanning.among_none, Scanning.among_end, dividing.borders_among.Goals.in-Some+in_ok-push-in-Some}
use Rattle.divided_day.{proofs.dividing.borders_among.Goals.in-None, specs.Borders.borders_among}
use Rattle.divided_day.proofs.dividing.borders_among.Goals as goal

pub loop-place-preserved : goal.loop-place-preserved
loop-place-preserved c =
    let p = c.args.partition in
    let pairs = c.args.pairs.now in
    let lags = c.args.lags.now in
    let k = c.loop-place.place in
    let out = c.loop-place.rows.items in
    let all = borders_among p pairs lags in
    elim c.match-border_of.branch [
      | in-Some+in_ok-push-in-Some w ↦
          among_more p pairs lags k (record { lesser = 0; greater = 0 }) (record { there = 0; back = 0 }) (Some w.in-Some.border) out
          c.match-border_of.rows.items all c.loop-place-test.true c.requires w.in-Some.ensures
          (ap (λ v. v.items) w.rows-is ∙ w.in_ok-push-in-Some.ensures.items) c.loop-place.invariant
      | in-None w ↦
          among_none p pairs lags k None out c.match-border_of.rows.items all c.loop-place-test.true c.requires
          (record { lesser = 0; greater = 0 }) (record { there = 0; back = 0 }) w.in-None.ensures refl
          (ap (λ v. v.items) w.rows-is) c.loop-place.invariant
    ]

pub returns : goal.returns
returns c =
    among_end c.args.partition c.args.pairs.now c.args.lags.now c.loop-place.place c.loop-place.rows.items
    (borders_among c.args.partition c.args.pairs.now c.args.lags.now)
    c.loop-place-test.false c.loop-place.invariant
