use Rattle.std.proofs.Common.{arith, ◌≡◌, ◌<◌, ◌++◌, ◌∷◌, ℕ, List, [], length, get_or, map, Vec, Global, Result, Ok, Err, ap, sym, ◌∙◌}
use Rattle.std.proofs.lemmas.List.{map-set, get_or-map, set-get_or}
use Rattle.std.specs.Prelude.{slice_set, OnErr}
use Rattle.router.specs.{Rings.bucket_at, declared.waiting.Entry.Entry}
use Rattle.router.proofs.waiting.put.Goals as goal

abbrev items_of : Vec Entry Global → List Entry
items_of bucket = bucket.items

-- the bucket as it was
was : (buckets : List (Vec Entry Global)) (place : ℕ) (bucket : Vec Entry Global) → place < length buckets
    → bucket ≡ get_or buckets place bucket → bucket.items ≡ bucket_at (map items_of buckets) place
was buckets place bucket within read = ap items_of read ∙ sym (get_or-map items_of buckets place bucket [] within)

on_err : {T E : Type 0} (r : Result T E) (P : Type 0) → P → OnErr r P
on_err (Ok x) P holds = tt
on_err (Err e) P holds = holds

pub returns-in_err-push-clause-err : goal.returns-in_err-push-clause-err
returns-in_err-push-clause-err c =
    let buckets : List (Vec Entry Global) = c.args.buckets.now.items in
    on_err c.from_residual.result _
    (map-set items_of buckets c.bucket_of.result c.push.new.self
    ∙ ap (λ (b : List Entry). slice_set (map items_of buckets) c.bucket_of.result b) (c.in_err-push.ensures.items ∙ was buckets c.bucket_of.result c.index_mut-bucket.result.now
    (let within = c.bucket_of.ensures.within in let count = c.requires in omega arith) c.index_mut-bucket.ensures.value)
    ∙ set-get_or (map items_of buckets) c.bucket_of.result [])

pub returns-clause-ok : goal.returns-clause-ok
returns-clause-ok c =
    let buckets : List (Vec Entry Global) = c.args.buckets.now.items in
    map-set items_of buckets c.bucket_of.result c.push.new.self
    ∙ ap (λ (b : List Entry). slice_set (map items_of buckets) c.bucket_of.result b)
    (c.in_ok-push.ensures.items ∙ ap (λ (b : List Entry). b ++ c.args.entry ∷ []) (was buckets c.bucket_of.result c.index_mut-bucket.result.now
    (let within = c.bucket_of.ensures.within in let count = c.requires in omega arith) c.index_mut-bucket.ensures.value))
    ∙ ap (λ (p : ℕ). slice_set (map items_of buckets) p (bucket_at (map items_of buckets) p ++ c.args.entry ∷ [])) c.bucket_of.ensures.value
