-- What so many partitions told, one after the other.
use Rattle.std.proofs.Common.{◌≡◌, ℕ, ◌<◌, Bool, true, false, true≢false, List, [], ◌∷◌, ◌++◌, arith, sym, ◌∙◌, ap, subst, map, length, slice_index_or}
use Rattle.std.proofs.{Common.if◌then◌else◌, lemmas.List.map-append, lemmas.List.length_push}
use Rattle.traffic.specs.Lists.{below}
use Rattle.step_core.specs.Views.{PartView, IsAt, EachAt}
use Rattle.divided_day.proofs.Counting.{below_more}

-- what is told at the end where nothing was taken before
pub all_at_end : {X : Type 0} (streams : Bool) (end all x : X) → streams ≡ false → x ≡ (if streams then end else all) → x ≡ all
all_at_end true end all x stays is = absurd (true≢false stays)
all_at_end false end all x stays is = is

-- one list more
pub told_more : {T X : Type 0} (f : ℕ → X) (lists new : List X) (parts : List T) (x : X) (part : T) → lists ≡ map f (below (length parts))
    → new ≡ lists ++ x ∷ [] → x ≡ f (length parts) → new ≡ map f (below (length (parts ++ part ∷ [])))
told_more f lists new parts x part before is e =
    let n = length parts in
    is ∙ ap (λ ys. ys ++ x ∷ []) before ∙ ap (λ y. map f (below n) ++ y ∷ []) e
    ∙ sym (ap (λ m. map f (below m)) (length_push parts part) ∙ ap (map f) (below_more n) ∙ map-append f (below n) (n ∷ []))

module _ {T P : Type 0} (nothing : P) (see : T → PartView P) (stands : T → Type 0) (t : ℕ) (degree : ℕ → ℕ)
    (parts : List T) (count k : ℕ) (x : T) (many : length parts ≡ count) (each : EachAt nothing see stands t degree count parts) (lt : k < length parts)
    (is : x ≡ slice_index_or parts k x) where
  -- the partition at a place
  pub part_there : IsAt nothing see stands k t (degree k) x
  part_there = subst (λ (y : T). IsAt nothing see stands k t (degree k) y) (sym is) (each k x (omega arith))

  pub own_there : IsAt nothing see stands (see x).number t (degree (see x).number) x
  own_there = subst (λ (n : ℕ). IsAt nothing see stands n t (degree n) x) (sym part_there.number) part_there

  pub number_there : (see x).number < count
  number_there = let e = part_there.number in omega arith
