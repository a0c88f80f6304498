-- All parcels of a second.
use Rattle.traffic.proofs.Common.{◌≡◌, ℕ, ◌<◌, List, [], ◌++◌, ◌∙◌, ap, arith, length}
use Rattle.part_seconds.specs.{Parcels.nothing, Parcels.HasNothing, Sending.parcel_at, Sending.AreMore, declared.contents.Contents.Contents}

pub filled_count : (f g h : ℕ → Contents → Contents) (a b c d : List Contents) → AreMore f a b → AreMore g b c → AreMore h c d
    → length d ≡ length a
filled_count f g h a b c d one two three = three.count ∙ two.count ∙ one.count

pub filled : (f g h : ℕ → Contents → Contents) (a b c d : List Contents) → HasNothing a → AreMore f a b → AreMore g b c → AreMore h c d
    → (k : ℕ) → k < length a → parcel_at d k ≡ h k (g k (f k nothing))
filled f g h a b c d none one two three k lt =
    let nb : length b ≡ length a = one.count in
    let nc : length c ≡ length a = two.count ∙ nb in
    three.each k (omega (arith, lt, nc)) ∙ ap (h k) (two.each k (omega (arith, lt, nb)))
    ∙ ap (λ (x : Contents). h k (g k x)) (one.each k lt) ∙ ap (λ (x : Contents). h k (g k (f k x))) (none k)

pub gone_both : (first now new xs ys : List ℕ) → first ≡ [] → now ≡ first ++ xs → new ≡ now ++ ys → new ≡ xs ++ ys
gone_both first now new xs ys none e f =
    f ∙ ap (λ (zs : List ℕ). zs ++ ys) (e ∙ ap (λ (zs : List ℕ). zs ++ xs) none)
