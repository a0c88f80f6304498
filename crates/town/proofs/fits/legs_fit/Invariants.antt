use Rattle.std.proofs.Common.{◌≡◌, drop}
use Rattle.town.specs.{Fits.legs_fit, Views.rows_of}
use Rattle.town.proofs.fits.legs_fit.Given as goal

abbrev pub invariant-loop-leg : goal.invariant-loop-leg
invariant-loop-leg l = legs_fit (rows_of l.town) l.rest (drop l.leg-index l.legs) ≡ legs_fit (rows_of l.town) l.acts l.legs
