use Rattle.std.proofs.Common.{arith, List, [], length, map, Vec, Global, ap, ◌∙◌}
use Rattle.std.proofs.lemmas.List.{length-map, length-set}
use Rattle.router.{proofs.Ringing.emptied, proofs.Ringing.all_none, specs.declared.waiting.Entry.Entry}
use Rattle.router.proofs.waiting.empty.Goals as goal

abbrev items_of : Vec Entry Global → List Entry
items_of bucket = bucket.items

pub loop-place-preserved : goal.loop-place-preserved
loop-place-preserved c =
    let old : List (List Entry) = map items_of c.loop-place.buckets.items in
    let new : List (List Entry) = map items_of c.empty_bucket.new.buckets.items in
    let long_old = length-map c.loop-place.buckets.items items_of in
    let long_new = length-map c.empty_bucket.new.buckets.items items_of in
    let same = ap (λ (bs : List (List Entry)). length bs) c.empty_bucket.ensures ∙ length-set old c.loop-place.place [] in
    let count = c.loop-place.invariant.count in
    let within = c.loop-place-test.true in
    record {
      count = omega arith;
      none = emptied old new c.loop-place.place c.empty_bucket.ensures (omega arith) c.loop-place.invariant.none;
    }

pub returns-clause-none : goal.returns-clause-none
returns-clause-none c =
    let long = length-map c.loop-place.buckets.items items_of in
    let count = c.loop-place.invariant.count in
    let done = c.loop-place-test.false in
    all_none (map items_of c.loop-place.buckets.items) (λ p within. c.loop-place.invariant.none p (omega arith))
