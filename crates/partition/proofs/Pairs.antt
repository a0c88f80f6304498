-- Pairs of partitions, one after the other.
use Rattle.std.proofs.Common.{◌≡◌, ℕ, zero, suc, ◌+◌, ◌-◌, ◌<◌, ◌≤◌, Bool, true, false, List, [], ◌∷◌, ◌++◌, arith, refl, sym, ◌∙◌, ap, map, append_assoc}
use Rattle.std.{proofs.lemmas.List.Elements.filter-append, specs.List.flat_map, specs.List.AllByRecursion as Each}
use Rattle.std.specs.Prelude.{filter, not, ◌&&◌, if◌then◌else◌}
use Rattle.traffic.{proofs.Common.ne_eqb, proofs.Each.each_append, specs.Lists.below, specs.Lists.numbers, specs.Setup.Setup}
use Rattle.parts.specs.Owners.{Owner, near}
use Rattle.partition.{proofs.Numbers.numbers_from, proofs.Numbers.flat_more, specs.Neighbours.pair, specs.Neighbours.pairs_from, specs.Neighbours.pairs_of}
use Rattle.partition.specs.{Neighbours.neighbours_of, Neighbours.joined_in, Neighbours.is_joined, Neighbours.AreNear, declared.joining.Pair.Pair}

-- what is still to be looked at
abbrev pub rest_of : List Bool → ℕ → ℕ → ℕ → List Pair
rest_of table p k n = filter (is_joined table) (map (pair p) (numbers k (n - k)))

rest_is : (table : List Bool) (p k n : ℕ) → k < n → rest_of table p k n ≡ (if joined_in table p k then pair p k ∷ rest_of table p (k + 1) n else rest_of table p (k + 1) n)
rest_is table p k n h = ap (λ ns. filter (is_joined table) (map (pair p) ns)) (numbers_from k n h)

pub pair_taken : (table : List Bool) (p k n : ℕ) (out all : List Pair) → k < n → joined_in table p k ≡ true → out ++ rest_of table p k n ≡ all
    → (out ++ pair p k ∷ []) ++ rest_of table p (k + 1) n ≡ all
pair_taken table p k n out all h e before =
    let one : rest_of table p k n ≡ pair p k ∷ rest_of table p (k + 1) n = rest_is table p k n h ∙ (rw e refl) in
    append_assoc out (pair p k ∷ []) (rest_of table p (k + 1) n) ∙ sym (ap (λ zs. out ++ zs) one) ∙ before

pub pair_passed : (table : List Bool) (p k n : ℕ) (out all : List Pair) → k < n → joined_in table p k ≡ false → out ++ rest_of table p k n ≡ all
    → out ++ rest_of table p (k + 1) n ≡ all
pair_passed table p k n out all h e before =
    let one : rest_of table p k n ≡ rest_of table p (k + 1) n = rest_is table p k n h ∙ (rw e refl) in
    sym (ap (λ zs. out ++ zs) one) ∙ before

pub pairs_more : (table : List Bool) (parts p : ℕ) (out new : List Pair) → out ≡ filter (is_joined table) (flat_map (pairs_from parts) (below p))
    → new ≡ out ++ filter (is_joined table) (pairs_from parts p) → new ≡ filter (is_joined table) (flat_map (pairs_from parts) (below (p + 1)))
pairs_more table parts p out new before one =
    one ∙ ap (λ zs. zs ++ filter (is_joined table) (pairs_from parts p)) before
    ∙ sym (ap (filter (is_joined table)) (flat_more (pairs_from parts) p) ∙ filter-append (is_joined table) (flat_map (pairs_from parts) (below p)) (pairs_from parts p))

-- THE ANSWER
-- a pair among so many partitions, the lesser one first
abbrev IsOf : ℕ → Pair → Type 0
IsOf parts x = (x.lesser < x.greater) × (x.greater < parts)

some_pairs : (parts p k n : ℕ) → p < k → k + n ≤ parts → Each (IsOf parts) (map (pair p) (numbers k n))
some_pairs parts p k zero h g = tt
some_pairs parts p k (suc n) h g = ((h, omega arith), some_pairs parts p (k + 1) n (omega arith) (omega arith))

all_pairs : (parts k n : ℕ) → k + n ≤ parts → Each (IsOf parts) (flat_map (pairs_from parts) (numbers k n))
all_pairs parts k zero g = tt
all_pairs parts k (suc n) g = each_append (IsOf parts) (pairs_from parts k) _ (some_pairs parts k (k + 1) (parts - (k + 1)) (omega arith) (omega arith)) (all_pairs parts (k + 1) n (omega arith))

same_filter : (f g : Pair → Bool) (P : Pair → Type 0) → ((x : Pair) → P x → f x ≡ g x) → (xs : List Pair) → Each P xs → filter f xs ≡ filter g xs
same_filter f g P same [] h = refl
same_filter f g P same (x ∷ xs) h =
    let e = same x h.0 in
    let r = same_filter f g P same xs h.1 in
    ap (λ c. if c then x ∷ filter f xs else filter f xs) e ∙ ap (λ ys. if g x then x ∷ ys else ys) r

near_pair : (S : Setup) (own : Owner) (table : List Bool) (parts : ℕ) → parts ≤ 64 → AreNear S own table → (x : Pair) → IsOf parts x → is_joined table x ≡ near S own x.lesser x.greater
near_pair S own table parts few are x h =
    let less = h.0 in
    let more = h.1 in
    let apart = ne_eqb x.lesser x.greater (λ e. omega (arith, e, less)) in
    let all = are x.lesser x.greater (omega arith) (omega arith) in
    sym (all ∙ ap (λ c. not c && joined_in table x.lesser x.greater) apart)

pub pairs_are : (S : Setup) (own : Owner) (table : List Bool) (parts p : ℕ) (out : List Pair) → parts ≤ 64 → p ≡ parts → AreNear S own table
    → out ≡ filter (is_joined table) (flat_map (pairs_from parts) (below p)) → out ≡ neighbours_of S own parts
pairs_are S own table parts p out few last are h =
    h ∙ ap (λ n. filter (is_joined table) (flat_map (pairs_from parts) (below n))) last
    ∙ same_filter (is_joined table) (λ (x : Pair). near S own x.lesser x.greater) (IsOf parts) (near_pair S own table parts few are) (pairs_of parts) (all_pairs parts 0 parts (omega arith))
