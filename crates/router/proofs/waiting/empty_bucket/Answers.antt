use Rattle.std.proofs.Common.{List, map, Vec, Global, ap, ◌∙◌}
use Rattle.std.proofs.lemmas.List.{map-set}
use Rattle.std.specs.Prelude.{slice_set}
use Rattle.router.specs.declared.waiting.Entry.{Entry}
use Rattle.router.proofs.waiting.empty_bucket.Goals as goal

abbrev items_of : Vec Entry Global → List Entry
items_of bucket = bucket.items

pub returns : goal.returns
returns c =
    map-set items_of c.args.buckets.now.items c.args.place c.clear.new.self
    ∙ ap (λ (b : List Entry). slice_set (map items_of c.args.buckets.now.items) c.args.place b) c.clear.ensures.items
