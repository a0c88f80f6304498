use Rattle.std.proofs.Common.{◌++◌, ◌∙◌, take, refl, subst}
use Rattle.travel_times.specs.Known.{Knows, links_of}
use Rattle.travel_times.proofs.Pieces.{piece_begin, piece_more, piece_next, piece_end}
use Rattle.travel_times.proofs.observations.Observations.take.Goals as goal

pub loop-event-init : goal.loop-event-init
loop-event-init c = record { known = λ taken known piece. piece_begin c.args.self.now taken known; links = refl }

pub observe-requires : goal.observe-requires
observe-requires c =
    let i = c.loop-event.event-index in
    let taken = c.requires.0 in (
      taken ++ take i c.args.events.now,
      c.loop-event.invariant.known taken c.requires.1 c.requires.2,
      piece_next (links_of c.args.self.now) (links_of c.loop-event.self) taken c.args.events.now i _ c.loop-event-test.true
          c.loop-event.invariant.links c.requires.2,
    )

pub loop-event-preserved : goal.loop-event-preserved
loop-event-preserved c =
    let i = c.loop-event.event-index in
    let here = c.loop-event-test.true in
    let es = c.args.events.now in
    record {
      known = λ taken known piece.
          subst (Knows c.observe.new.known) (piece_more taken es i _ here)
          (c.in_ok-observe.ensures.known (taken ++ take i es) (c.loop-event.invariant.known taken known piece)
          (piece_next (links_of c.args.self.now) (links_of c.loop-event.self) taken es i _ here c.loop-event.invariant.links piece));
      links = c.observe.ensures.links ∙ c.loop-event.invariant.links;
    }

pub returns-clause-known : goal.returns-clause-known
returns-clause-known c = λ taken known piece.
    piece_end c.loop-event.self taken c.args.events.now c.loop-event.event-index c.loop-event-test.false
    (c.loop-event.invariant.known taken known piece)
