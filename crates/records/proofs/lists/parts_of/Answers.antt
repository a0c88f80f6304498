use Rattle.std.proofs.Common.{refl, sym}
use Rattle.records.proofs.Parts.{parts_more, parts_last}
use Rattle.records.proofs.lists.parts_of.Goals as goal

pub loop-place-preserved : goal.loop-place-preserved
loop-place-preserved c =
    rw c.split_at.ensures.back (parts_more c.args.separator c.loop-place.rest.now c.args.bytes.now c.loop-place.parts.items c.push.new.self.items _ c.in-Some.place (sym c.in-Some.ensures.place) refl c.in_ok-push.ensures.items c.loop-place.invariant)

pub returns : goal.returns
returns c =
    parts_last c.args.separator c.args.bytes.now c.loop-place.rest c.loop-place.parts.items c.push-2.new.self.items (sym c.in_default.ensures.place) c.in_ok-push-2.ensures.items c.loop-place.invariant
