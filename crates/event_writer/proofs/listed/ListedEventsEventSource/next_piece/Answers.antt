use Rattle.std.proofs.Common.{◌∙◌, ap, drop}
use Rattle.event_writer.proofs.Listing.{some_more}
use Rattle.event_writer.proofs.listed.ListedEventsEventSource.next_piece.Goals as goal

pub returns-clause-some : goal.returns-clause-some
returns-clause-some c =
    some_more c.args.self.now.events.items _ c.in_ok-piece.piece.items c.args.self.now.given c.min-count.result
    (c.split_at.ensures.back ∙ ap (drop c.args.self.now.given) c.deref.ensures.value) (c.in_ok-piece.ensures.items ∙ c.split_at-2.ensures.front)
