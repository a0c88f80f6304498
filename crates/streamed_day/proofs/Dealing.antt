-- Events that are dealt out among partitions, and merged again.
use Rattle.std.proofs.Common.{◌≡◌, ℕ, zero, suc, ◌+◌, ◌<◌, ◌≤◌, Bool, List, [], ◌∷◌, ◌++◌, arith, refl, sym, ◌∙◌, ap, subst, subst₂, map, inl, inr}
use Rattle.std.proofs.lemmas.List.Sorted.{IsPermutation-sym, IsPermutation-trans}
use Rattle.std.specs.{List.Sorted.IsPermutation, Prelude.filter, Prelude.flat_map}
use Rattle.traffic.{proofs.Common.cases_Bool, specs.Frames.Ascends, specs.Frames.AreAfter, specs.Lists.below, specs.Lists.numbers}
use Rattle.events.specs.declared.event.Event.{Event}
use Rattle.parts.specs.Merge.{Merges}
use Rattle.law_partitions.proofs.Merging.{dealt, dealt_all}
use Rattle.event_merge.{proofs.Told.ShareNone, proofs.Told.parts_can_merge, specs.Lists.CanMerge}
use Rattle.streamed_day.proofs.Unique.{one_order}

-- LISTS THAT ASCEND
after_front : (a : Event) (p : Event → Bool) (xs : List Event) → AreAfter a xs → AreAfter a (filter p xs)
after_front a p [] h = tt
after_front a p (x ∷ xs) h = elim (cases_Bool (p x)) [
  | inl e ↦ rw e (h.0, after_front a p xs h.1)
  | inr e ↦ rw e (after_front a p xs h.1)
]

pub some_ascend : (p : Event → Bool) (xs : List Event) → Ascends xs → Ascends (filter p xs)
some_ascend p [] h = tt
some_ascend p (x ∷ xs) h = elim (cases_Bool (p x)) [
  | inl e ↦ rw e (after_front x p xs h.0, some_ascend p xs h.1)
  | inr e ↦ rw e (some_ascend p xs h.1)
]

pub later_ascend : (xs ys : List Event) → Ascends (xs ++ ys) → Ascends ys
later_ascend [] ys h = h
later_ascend (x ∷ xs) ys h = later_ascend xs ys h.1

-- LISTS BY NUMBER
in_turn : (f : ℕ → List Event) (ns : List ℕ) → flat_map (λ (ys : List Event). ys) (map f ns) ≡ flat_map f ns
in_turn f [] = refl
in_turn f (n ∷ ns) = ap (λ ys. f n ++ ys) (in_turn f ns)

alike : (f g : ℕ → List Event) (c k n : ℕ) → ((p : ℕ) → p < c → f p ≡ g p) → k + n ≤ c
    → flat_map f (numbers k n) ≡ flat_map g (numbers k n)
alike f g c k zero same within = refl
alike f g c k (suc n) same within =
    ap (λ ys. ys ++ flat_map f (numbers (k + 1) n)) (same k (omega arith))
    ∙ ap (λ zs. g k ++ zs) (alike f g c (k + 1) n same (omega arith))

pub kept_alike : (f g : ℕ → Bool) (c k n : ℕ) → ((i : ℕ) → i < c → f i ≡ g i) → k + n ≤ c → filter f (numbers k n) ≡ filter g (numbers k n)
kept_alike f g c k zero same within = refl
kept_alike f g c k (suc n) same within =
    let e = same k (omega arith) in
    let rest = kept_alike f g c (k + 1) n same (omega arith) in
    cc

pub one_each : (xs : List Event) → flat_map (λ (x : Event). x ∷ []) xs ≡ xs
one_each [] = refl
one_each (x ∷ xs) = ap (λ ys. x ∷ ys) (one_each xs)

-- THE MERGE
pub can_merge : (told : ℕ → List Event) (parts n : ℕ) (lists : List (List Event)) → ((p : ℕ) → Ascends (told p)) → ShareNone told parts
    → n ≡ parts → lists ≡ map told (below n) → CanMerge lists
can_merge told parts n lists ascend apart e is =
    subst CanMerge (sym (is ∙ ap (λ m. map told (below m)) e)) (parts_can_merge told parts ascend apart)

-- where what is told of each of some things is told by its owner, the merge of what all tell is what is told of all of them
pub merged_is : {X : Type 0} (f : X → List Event) (owner : X → ℕ) (xs : List X) (told : ℕ → List Event) (parts n : ℕ)
    (lists : List (List Event)) (events whole : List Event) → ((x : X) → owner x < parts)
    → ((p : ℕ) → p < parts → told p ≡ dealt f owner xs p) → whole ≡ flat_map f xs → Ascends whole → n ≡ parts → lists ≡ map told (below n)
    → Merges lists events → events ≡ whole
merged_is f owner xs told parts n lists events whole less each is up e lists_are merges =
    let all = flat_map (λ (ys : List Event). ys) lists in
    let flat : all ≡ flat_map (dealt f owner xs) (below parts) =
    ap (flat_map (λ (ys : List Event). ys)) (lists_are ∙ ap (λ m. map told (below m)) e) ∙ in_turn told (below parts)
    ∙ alike told (dealt f owner xs) parts 0 parts each (omega arith) in
    let same : IsPermutation all whole =
    subst₂ (λ (one two : List Event). IsPermutation one two) (sym flat) (sym is) (dealt_all f owner parts less xs) in
    one_order events whole merges.ascends up (IsPermutation-trans events all whole (IsPermutation-sym all events merges.same) same)
