use Rattle.std.proofs.Common.{ℕ, List, ap}
use Rattle.rows.specs.declared.schedule.DepartureRow.{DepartureRow}
use Rattle.schedule.proofs.Free.{few_departures, sound_departures}
use Rattle.schedule.proofs.departures.read_departures.Goals as goal

pub returns-in-Ok-clause-few : goal.returns-in-Ok-clause-few
returns-in-Ok-clause-few c = few_departures c.args.routes.now c.args.bytes.now c.in-Ok.field-0.rows.items c.in-Ok.ensures.0 (ap (λ (p : List (List ℕ) × List DepartureRow). p.1) c.in-Ok.ensures.1)

pub returns-in-Ok-clause-sound : goal.returns-in-Ok-clause-sound
returns-in-Ok-clause-sound c = sound_departures c.args.routes.now c.args.bytes.now c.in-Ok.field-0.rows.items c.in-Ok.ensures.0 (ap (λ (p : List (List ℕ) × List DepartureRow). p.1) c.in-Ok.ensures.1)
