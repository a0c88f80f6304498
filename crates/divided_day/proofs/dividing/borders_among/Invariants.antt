use Rattle.std.proofs.Common.{◌≡◌, ◌++◌, drop}
use Rattle.divided_day.specs.Borders.{borders_among}
use Rattle.divided_day.proofs.dividing.borders_among.Given as goal

abbrev pub invariant-loop-place : goal.invariant-loop-place
invariant-loop-place l = l.rows.items ++ borders_among l.partition (drop l.place l.pairs)
    (drop l.place l.lags) ≡ borders_among l.partition l.pairs l.lags
