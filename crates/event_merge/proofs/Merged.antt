-- What a merge of lists gives ascends and has all their events.
use Rattle.std.proofs.Common.{◌≡◌, List, [], ◌∷◌, ◌++◌, sym, subst, map, append-nil, All, ◌≤◌, ◌∙◌, vec_items, vec_len, Vec, Global}
use Rattle.std.proofs.lemmas.{Iterator.Adapters.YieldsList-from_vec, List.Elements.All-nil, List.Elements.All-cons, List.Sorted.sum_by-IsPermutation}
use Rattle.std.specs.{Iterator.AlwaysYields, List.AllByRecursion as Each, List.Sorted.IsSortedBy, List.Sorted.IsPermutation, Prelude.Option}
use Rattle.std.specs.{Vec.Iter.into_iter_items, Vec.Iter.into_iter_len, Vec.Iter.into_iter_steps, declared.vec.IntoIter.IntoIter}
use Rattle.itertools.specs.KMerge.{SourcesGive}
use Rattle.events.specs.declared.event.Event.{Event}
use Rattle.traffic.specs.Frames.{Ascends}
use Rattle.parts.specs.Merge.{Merges}
use Rattle.event_merge.specs.Lists.{comes_before, CanMerge}
use Rattle.event_merge.proofs.Counts.{one_of, times, all_of, once_in_all, sorted_ascends, ascending_is_sorted}

-- each of these gives its items
sources : {U S A : Type 0} (gives : U → S → Type 0) (steps : S → Option A → S → Type 0) (items : U → List A)
    → ((u : U) (j : S) → gives u j → AlwaysYields steps (λ x. x) j (items u)) → (us : List U) → SourcesGive gives steps us (map items us)
sources gives steps items h [] = tt
sources gives steps items h (u ∷ us) = (h u, sources gives steps items h us)

-- the same of others that are these
sources_of : {U S A : Type 0} (gives : U → S → Type 0) (steps : S → Option A → S → Type 0) (items : U → List A)
    → ((u : U) (j : S) → gives u j → AlwaysYields steps (λ x. x) j (items u)) → (us vs : List U) (lists : List (List A)) → vs ≡ us → map items us ≡ lists → SourcesGive gives steps vs lists
sources_of gives steps items h us vs lists e f =
    subst (λ ls. SourcesGive gives steps vs ls) f (subst (λ ws. SourcesGive gives steps ws (map items us)) (sym e) (sources gives steps items h us))

-- and of vectors that are gone over by value
pub vectors_give : (gives : Vec Event Global → IntoIter Event Global → Type 0)
    → ((u : Vec Event Global) (j : IntoIter Event Global) → gives u j → (into_iter_items j ≡ vec_items u) × (into_iter_len j ≡ vec_len u))
    → (us vs : List (Vec Event Global)) (lists : List (List Event)) → vs ≡ us → map vec_items us ≡ lists → SourcesGive gives (into_iter_steps {X = Event} {Z = Global}) vs lists
vectors_give gives h us vs lists e f =
    sources_of gives (into_iter_steps {X = Event} {Z = Global}) vec_items
    (λ u j k. (YieldsList-from_vec {s = j} (vec_items u) (h u j k).0 ((h u j k).1 ∙ u.ok.0)).runs) us vs lists e f

pub all_sorted : (lists : List (List Event)) → Each Ascends lists → All (IsSortedBy comes_before) lists
all_sorted [] h = All-nil (IsSortedBy comes_before)
all_sorted (xs ∷ lists) h = All-cons (IsSortedBy comes_before) xs lists (ascending_is_sorted xs h.0) (all_sorted lists h.1)

pub merged : (lists : List (List Event)) (xs rest : List Event) → CanMerge lists → IsPermutation (all_of lists) (xs ++ rest) → rest ≡ []
    → IsSortedBy comes_before xs → Merges lists xs
merged lists xs rest can all none up =
    let same : IsPermutation (all_of lists) xs = rw (append-nil xs) at (subst (λ ys. IsPermutation (all_of lists) (xs ++ ys)) none all) in
    record {
      ascends = sorted_ascends xs up (λ k. let e : times k xs ≡ times k (all_of lists) = sum_by-IsPermutation (one_of k) (all_of lists) xs same in subst (λ n. n ≤ 1) (sym e) (once_in_all k lists can.ascend can.apart));
      same = same;
    }
