use Rattle.std.proofs.Common.{arith}
use Rattle.law_generated.proofs.Given.{departures_valid, routes_valid, stops_valid}
use Rattle.law_generated.proofs.schedules_are_valid.Goals as goal

pub returns-clause-stops : goal.returns-clause-stops
returns-clause-stops c = λ size last is. stops_valid size (omega (arith, is.least)) (omega (arith, is.most))

pub returns-clause-routes : goal.returns-clause-routes
returns-clause-routes c = λ size last is. routes_valid size (omega (arith, is.least)) (omega (arith, is.most))

pub returns-clause-departures : goal.returns-clause-departures
returns-clause-departures c = λ size last is. departures_valid size (omega (arith, is.least)) (omega (arith, is.most))
