use Rattle.std.proofs.Common.{arith, ◌≡◌, ◌++◌, ◌∷◌, List, [], length, map, Vec, Global, ap, ◌∙◌}
use Rattle.std.proofs.lemmas.List.{length-append, map-append}
use Rattle.router.{proofs.Ringing.all_push_none, specs.Rings.all_of, specs.declared.waiting.Entry.Entry}
use Rattle.router.proofs.waiting.no_buckets.Goals as goal

abbrev items_of : Vec Entry Global → List Entry
items_of bucket = bucket.items

pub loop-preserved : goal.loop-preserved
loop-preserved c =
    let old : List (Vec Entry Global) = c.loop.buckets.items in
    let pushed : c.push.new.self.items ≡ old ++ c.new.result ∷ [] = c.in_ok-push.ensures.items in
    record {
      count =
          let long = ap (λ (bs : List (Vec Entry Global)). length bs) pushed ∙ length-append old (c.new.result ∷ []) in
          let count = c.loop.invariant.count in
          omega arith;
      none = ap (λ (bs : List (Vec Entry Global)). all_of (map items_of bs)) pushed
          ∙ ap all_of (map-append items_of old (c.new.result ∷ []))
          ∙ ap (λ (b : List Entry). all_of (map items_of old ++ b ∷ [])) c.new.ensures.items
          ∙ all_push_none (map items_of old) c.loop.invariant.none;
    }
