use Rattle.std.proofs.Common.{◌+◌, ap}
use Rattle.iterations.{proofs.Going.begun_is, proofs.Going.can_again, specs.Days.events_of, specs.Views.run_rows}
use Rattle.iterations.proofs.iterating.begun_after.Goals as goal

pub replanned-requires-clause-known : goal.replanned-requires-clause-known
replanned-requires-clause-known g c κs within = (
  events_of (run_rows c.args.run.now) c.args.iteration c.deref.result.now,
  c.in_ok-seen.ensures.observed,
)

pub returns-clause-begun : goal.returns-clause-begun
returns-clause-begun g c =
    let R = run_rows c.args.run.now in
    begun_is R c.args.iteration c.args.memories.items c.in_ok-new.new.items (events_of R c.args.iteration c.deref.result.now)
    (ap (events_of R c.args.iteration) c.deref.ensures.value)
    (c.in_ok-new.ensures (events_of R c.args.iteration c.deref.result.now) c.in_ok-seen.ensures.observed)

pub returns-clause-can : goal.returns-clause-can
returns-clause-can g c =
    let R = run_rows c.args.run.now in
    can_again R (c.args.iteration + 1) (events_of R c.args.iteration c.deref.result.now) c.args.memories.items c.in_ok-new.new.items
    c.args.run.now.town.now.sound c.requires.can
    (c.in_ok-new.ensures (events_of R c.args.iteration c.deref.result.now) c.in_ok-seen.ensures.observed)
