use Rattle.std.proofs.Common.{◌++◌, arith}
use Rattle.travel_times.proofs.Pieces.{order_front, links_front}
use Rattle.event_handler.specs.Handling.{links_in}
use Rattle.event_handler.proofs.handling.EventHandler.handle.Goals as goal

pub take-requires : goal.take-requires
take-requires c =
    let taken = c.requires.0 in
    let rest = c.requires.1 in
    let es = c.args.events.now in
    let can = c.requires.3 in (
      taken,
      c.requires.2.seen,
      record {
        order = order_front (taken ++ es) rest can.order;
        on_links = links_front (links_in c.args.self.now) (taken ++ es) rest can.on_links;
        few = let n = (c.in-Some.ensures.counted taken c.requires.2.counted).all in omega arith;
      },
    )

pub take-requires-2 : goal.take-requires-2
take-requires-2 c = (c.requires.0, c.requires.1, c.requires.2.scored, c.requires.3.scored)

pub returns-clause-handled : goal.returns-clause-handled
returns-clause-handled c = λ taken rest handled can.
    let es = c.args.events.now in
    record {
      scored = c.take-2.ensures.stand taken rest handled.scored can.scored;
      seen = c.in_ok-take.ensures.known taken handled.seen (record {
        order = order_front (taken ++ es) rest can.order;
        on_links = links_front (links_in c.args.self.now) (taken ++ es) rest can.on_links;
        few = let n = (c.in-Some.ensures.counted taken handled.counted).all in omega arith;
      });
      counted = c.in-Some.ensures.counted taken handled.counted;
    }
