use Rattle.std.proofs.Common.{◌*◌, ◌∙◌, subst, refl}
use Rattle.event_pipe.specs.{Pipes.Gathers, declared.gathering.Gathered.Gathered}
use Rattle.streamed_day.{proofs.Coming.seconds_ascend, proofs.Merged.can_merge_events, proofs.Merged.merged_events, specs.Coming.seconds_from}
use Rattle.town.specs.Views.{setup}
use Rattle.collected_day.proofs.Coming.{as_gathered, gathered_more, lists_are, span_lists}
use Rattle.collected_day.specs.{Streams.IsNext, Streams.span_length, declared.spans.TheConstants.SPAN_SECONDS}
use Rattle.collected_day.proofs.gathering.next_span.Goals as goal

pub loop-preserved : goal.loop-preserved
loop-preserved g c =
    let held = c.loop.invariant in
    let look = c.is_abandoned-is_abandoned.ensures.as_before in
    let short = subst
    (λ (x : Gathered). Gathers (IsNext g.S.Stream.told_in_spans) c.is_abandoned-is_abandoned.new.self c.next-in-loop.new.self x)
    c.in-Short.is c.in_ok-lists.ensures.gathers in
    (short.4.count ∙ look.count ∙ held.0, λ p. short.4.same p ∙ look.same p ∙ held.1 p)

pub merge-requires : goal.merge-requires
merge-requires g c =
    let told = g.S.Stream.told_in_spans in
    let held = c.loop.invariant in
    let look = c.is_abandoned-is_abandoned.ensures.as_before in
    let mid = c.is_abandoned-is_abandoned.new.self in
    let after = c.next-in-loop.new.self in
    let h = subst (λ (x : Gathered). Gathers (IsNext told) mid after x) c.in-Pieces.is c.in_ok-lists.ensures.gathers in
    let day = c.requires.coming.0 in
    let owner = c.requires.coming.1 in
    let end = c.requires.coming.2 in
    let n = c.requires.coming.3 in
    let coming = c.requires.coming.4 in
    let has = as_gathered told owner.parts n c.args.gather.now mid coming.has (look.count ∙ held.0) (λ p. look.same p ∙ held.1 p) in
    let lists = lists_are told owner.parts n h.0 mid after has h.1 c.in_ok-lists.ensures.parts c.in-Pieces.lists.items h.2 in
    can_merge_events day owner coming.given (seconds_from (setup day) (n * SPAN_SECONDS) (span_length end n)) owner.parts
    c.in-Pieces.lists.items (seconds_ascend (setup day) (n * SPAN_SECONDS) (span_length end n)) refl
    (span_lists told day owner end owner.parts n c.in-Pieces.lists.items coming.tells lists)

pub returns-in-Pieces : goal.returns-in-Pieces
returns-in-Pieces g c = λ day owner end n coming.
    let told = g.S.Stream.told_in_spans in
    let held = c.loop.invariant in
    let look = c.is_abandoned-is_abandoned.ensures.as_before in
    let mid = c.is_abandoned-is_abandoned.new.self in
    let after = c.next-in-loop.new.self in
    let h = subst (λ (x : Gathered). Gathers (IsNext told) mid after x) c.in-Pieces.is c.in_ok-lists.ensures.gathers in
    let has = as_gathered told owner.parts n c.args.gather.now mid coming.has (look.count ∙ held.0) (λ p. look.same p ∙ held.1 p) in
    let lists = lists_are told owner.parts n h.0 mid after has h.1 c.in_ok-lists.ensures.parts c.in-Pieces.lists.items h.2 in (
      record {
        given = coming.given;
        tells = coming.tells;
        has = gathered_more told owner.parts n h.0 mid after has h.1 c.in_ok-lists.ensures.parts;
      },
      merged_events day owner coming.given (seconds_from (setup day) (n * SPAN_SECONDS) (span_length end n)) owner.parts
          c.in-Pieces.lists.items c.in_ok-events-in-Pieces.events.items
          (seconds_ascend (setup day) (n * SPAN_SECONDS) (span_length end n)) refl
          (span_lists told day owner end owner.parts n c.in-Pieces.lists.items coming.tells lists) c.in_ok-events-in-Pieces.ensures,
    )
