use Rattle.std.proofs.Common.{arith, ◌≡◌, ◌++◌, ℕ, List, [], map, Vec, Global, Option, None, Some, ap, sym, ◌∙◌}
use Rattle.std.proofs.lemmas.List.{map-set, get_or-map}
use Rattle.std.specs.Prelude.{slice_set, option_to_list, IfSome}
use Rattle.router.specs.{Rings.IsOut, Rings.bucket_at, declared.waiting.Entry.Entry}
use Rattle.router.proofs.waiting.take_near.Goals as goal

abbrev items_of : Vec Entry Global → List Entry
items_of bucket = bucket.items

out_by : (taken : Option Entry) (place : ℕ) (old new : List (List Entry)) (rest : List Entry)
    → bucket_at old place ≡ rest ++ option_to_list taken → new ≡ slice_set old place rest
    → IfSome taken (λ entry. IsOut entry place old new)
out_by None place old new rest was is = tt
out_by (Some entry) place old new rest was is = record { rest = rest; was = was; is = is }

pub returns-clause-some : goal.returns-clause-some
returns-clause-some c =
    let buckets : List (Vec Entry Global) = c.args.buckets.now.items in
    let was : c.index_mut-bucket.result.now.items ≡ bucket_at (map items_of buckets) c.bucket_of.result =
    ap items_of c.index_mut-bucket.ensures.value ∙ sym (get_or-map items_of buckets c.bucket_of.result
    c.index_mut-bucket.result.now [] (let within = c.bucket_of.ensures.within in let count = c.requires in omega arith)) in
    out_by c.pop.result _ (map items_of buckets) _ c.pop.new.self.items
    (ap (bucket_at (map items_of buckets)) (sym c.bucket_of.ensures.value) ∙ sym was ∙ c.pop.ensures.items)
    (map-set items_of buckets c.bucket_of.result c.pop.new.self
    ∙ ap (λ (p : ℕ). slice_set (map items_of buckets) p c.pop.new.self.items) c.bucket_of.ensures.value)
