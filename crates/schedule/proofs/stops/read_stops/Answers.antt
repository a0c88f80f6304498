use Rattle.std.proofs.Common.{ℕ, List, ap}
use Rattle.rows.specs.declared.schedule.StopRow.{StopRow}
use Rattle.schedule.proofs.Free.{few_stops, sound_stops}
use Rattle.schedule.proofs.stops.read_stops.Goals as goal

pub returns-in-Ok-clause-few : goal.returns-in-Ok-clause-few
returns-in-Ok-clause-few c = few_stops c.args.links.now c.args.bytes.now c.in-Ok.field-0.rows.items c.in-Ok.ensures.0 (ap (λ (p : List (List ℕ) × List StopRow). p.1) c.in-Ok.ensures.1)

pub returns-in-Ok-clause-sound : goal.returns-in-Ok-clause-sound
returns-in-Ok-clause-sound c = sound_stops c.args.links.now c.args.bytes.now c.in-Ok.field-0.rows.items c.in-Ok.ensures.0 (ap (λ (p : List (List ℕ) × List StopRow). p.1) c.in-Ok.ensures.1)
