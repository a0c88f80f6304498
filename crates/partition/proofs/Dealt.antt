-- Nodes that are dealt out in an order: each has one place, and each partition its share.
use Rattle.std.proofs.Common.{◌≡◌, ℕ, zero, suc, ◌+◌, ◌-◌, ◌<◌, ◌≤◌, ◌≢◌, false, List, [], ◌∷◌, arith, refl, sym, ◌∙◌, ap, subst, length, get_or, take, drop}
use Rattle.std.proofs.Common.{All, inl, inr, ◌++◌, sum_by, set, min, cond, ◌⊎◌, append_assoc, length-append}
use Rattle.std.proofs.{Math.Seq.take-length, Math.Seq.take-append_seam, Math.Seq.get_or-append_seam, lemmas.List.get_or_default}
use Rattle.std.proofs.lemmas.List.{get_or-set_same, get_or-set_other, get_or_past, Elements.All-get_or, Elements.All-from_get_or, Sorted.All-permutation}
use Rattle.std.proofs.lemmas.List.{Sorted.Contains-permutation, Sorted.length_permutation, Sorted.sum_by-IsPermutation, Sums.sum_by-cons, Sums.sum_by_more}
use Rattle.std.specs.{List.Contains, List.AllByRecursion as Each, List.Sorted.IsPermutation, Prelude.count_by, Prelude.◌==◌, Prelude.if◌then◌else◌}
use Rattle.traffic.proofs.Common.{cases_Bool, eqb, eqb-true, eq-eqb, ne_eqb, cases_lt}
use Rattle.traffic.{proofs.Each.each_weaker, specs.Lists.below, specs.Lists.numbers}
use Rattle.rows.specs.declared.network.NodeRow.{NodeRow}
use Rattle.partition.proofs.{Arranged.Within, Arranged.cuts_within, Arranged.both_each, Order.one_before}
use Rattle.partition.proofs.Shares.{no_share, all_shares, from_partition, before_partition, some_partition, shares_rise}
use Rattle.partition.specs.{Axes.lies_before, Cuts.Cut, Cuts.nodes_before, Cuts.cuts_from, Cuts.is_sorted_at, Halves.IsHalved, Halves.IsCut}
use Rattle.partition.specs.{Halves.partition_at, Halves.AreDealt, Owned.owner_in, declared.axes.Axis.TheVariants.X}

-- NUMBERS BELOW n
length-numbers : (k n : ℕ) → length (numbers k n) ≡ n
length-numbers k zero = refl
length-numbers k (suc n) = ap suc (length-numbers (k + 1) n)

get_numbers : (k n i d : ℕ) → i < n → get_or (numbers k n) i d ≡ k + i
get_numbers k zero i d h = absurd (omega (arith, h))
get_numbers k (suc n) zero d h = omega arith
get_numbers k (suc n) (suc i) d h = get_numbers (k + 1) n i d (omega arith) ∙ next k i
  where
    next : (x y : ℕ) → x + 1 + y ≡ x + suc y
    next x y = omega arith

-- how often a number is among some
abbrev is_it : ℕ → ℕ → ℕ
is_it x v = if v == x then 1 else 0

never_below : (x k n : ℕ) → x < k → sum_by (is_it x) (numbers k n) ≡ 0
never_below x k zero h = refl
never_below x k (suc n) h =
    let e : is_it x k ≡ 0 = (let f = ne_eqb k x (λ q. omega (arith, q, h)) in (rw f refl)) in
    let r = never_below x (k + 1) n (omega arith) in
    let s = sum_by-cons (is_it x) k (numbers (k + 1) n) in
    omega arith

once_below : (x k n : ℕ) → sum_by (is_it x) (numbers k n) ≤ 1
once_below x k zero = omega arith
once_below x k (suc n) =
    let s = sum_by-cons (is_it x) k (numbers (k + 1) n) in
    elim (cases_Bool (eqb k x)) [
      | inl e ↦
          let one : is_it x k ≡ 1 = (rw e refl) in
          let q = eqb-true k x e in
          let none = never_below x (k + 1) n (omega arith) in
          omega arith
      | inr e ↦
          let none : is_it x k ≡ 0 = (rw e refl) in
          let rest = once_below x (k + 1) n in
          omega arith
    ]

at_least : (f : ℕ → ℕ) (xs : List ℕ) (i : ℕ) → i < length xs → f (get_or xs i 0) ≤ sum_by f xs
at_least f [] i h = absurd (omega (arith, h))
at_least f (x ∷ xs) zero h = let s = sum_by-cons f x xs in omega arith
at_least f (x ∷ xs) (suc i) h = let s = sum_by-cons f x xs in let r = at_least f xs i (omega arith) in omega arith

at_two : (f : ℕ → ℕ) (xs : List ℕ) (i j : ℕ) → i < j → j < length xs → f (get_or xs i 0) + f (get_or xs j 0) ≤ sum_by f xs
at_two f [] i j h g = absurd (omega (arith, g))
at_two f (x ∷ xs) i zero h g = absurd (omega (arith, h))
at_two f (x ∷ xs) zero (suc j) h g = let s = sum_by-cons f x xs in let r = at_least f xs j (omega arith) in omega arith
at_two f (x ∷ xs) (suc i) (suc j) h g = let s = sum_by-cons f x xs in let r = at_two f xs i j (omega arith) (omega arith) in omega arith

-- no number stands twice in an order of the numbers below n
pub places_differ : (n : ℕ) (order : List ℕ) → IsPermutation (below n) order → (i j : ℕ) → i < j → j < length order → get_or order i 0 ≢ get_or order j 0
places_differ n order p i j h g e =
    let x = get_or order j 0 in
    let all : sum_by (is_it x) order ≡ sum_by (is_it x) (below n) = sum_by-IsPermutation (is_it x) (below n) order p in
    let most = once_below x 0 n in
    let two = at_two (is_it x) order i j h g in
    let a : is_it x (get_or order i 0) ≡ 1 = (let q = eq-eqb (get_or order i 0) x e in (rw q refl)) in
    let b : is_it x x ≡ 1 = (let q = eq-eqb x x refl in (rw q refl)) in
    omega arith

pub places_inside : (n : ℕ) (order : List ℕ) → IsPermutation (below n) order → All (λ v. v < n) order
places_inside n order p =
    All-permutation (λ v. v < n) (below n) order p
    (All-from_get_or (λ v. v < n) (below n) 0 (λ i h. let l : i < n = subst (λ k. i < k) (length-numbers 0 n) h in subst (λ v. v < n) (sym (get_numbers 0 n i 0 l ∙ front i)) l))
  where
    front : (x : ℕ) → 0 + x ≡ x
    front x = omega arith

-- one more node has the partition of its place
pub dealt_more : (parts n k : ℕ) (order of_node : List ℕ) → IsPermutation (below n) order → length of_node ≡ n → length order ≡ n → k < n
    → ((i : ℕ) → i < k → owner_in of_node (get_or order i 0) ≡ partition_at n parts i)
    → (i : ℕ) → i < k + 1 → owner_in (set of_node (get_or order k 0) (partition_at n parts k)) (get_or order i 0) ≡ partition_at n parts i
dealt_more parts n k order of_node p long all lt old i h =
    elim (cases_lt i k) [
      | inl e ↦ get_or-set_other of_node (get_or order k 0) (get_or order i 0) (partition_at n parts k) 0 (places_differ n order p i k e (omega arith)) ∙ old i e
      | inr g ↦
          let e : i ≡ k = omega arith in
          let inside = All-get_or (λ v. v < n) order k 0 (omega arith) (places_inside n order p) in
          subst (λ z. owner_in (set of_node (get_or order k 0) (partition_at n parts k)) (get_or order z 0) ≡ partition_at n parts z) (sym e)
          (get_or-set_same of_node (get_or order k 0) (partition_at n parts k) 0 (omega arith))
    ]

-- THE SHARES
-- how many places from low on and below high there are among the first k
counted_to : (f : ℕ → ℕ) (xs : List ℕ) (low high : ℕ) → low ≤ high → high ≤ length xs
    → ((i : ℕ) → low ≤ i → i < high → f (get_or xs i 0) ≡ 1) → ((i : ℕ) → i < length xs → (i < low) ⊎ (high ≤ i) → f (get_or xs i 0) ≡ 0)
    → (k : ℕ) → k ≤ length xs → sum_by f (take k xs) ≡ min k high - min k low
counted_to f xs low high a b inside outside zero h = omega arith
counted_to f xs low high a b inside outside (suc k) h =
    let r = counted_to f xs low high a b inside outside k (omega arith) in
    let more : sum_by f (take (suc k) xs) ≡ sum_by f (take k xs) + f (get_or xs k 0) = subst (λ n. sum_by f (take n xs) ≡ sum_by f (take k xs) + f (get_or xs k 0)) (next k) (sum_by_more f xs k 0 (omega arith)) in
    elim (cases_lt k low) [
      | inl e ↦ let z = outside k (omega arith) (inl e) in omega arith
      | inr e ↦
          elim (cases_lt k high) [
            | inl g ↦ let z = inside k e g in omega arith
            | inr g ↦ let z = outside k (omega arith) (inr g) in omega arith
          ]
    ]
  where
    next : (x : ℕ) → x + 1 ≡ suc x
    next x = omega arith

counted_between : (f : ℕ → ℕ) (xs : List ℕ) (low high : ℕ) → low ≤ high → high ≤ length xs
    → ((i : ℕ) → low ≤ i → i < high → f (get_or xs i 0) ≡ 1) → ((i : ℕ) → i < length xs → (i < low) ⊎ (high ≤ i) → f (get_or xs i 0) ≡ 0)
    → sum_by f xs ≡ high - low
counted_between f xs low high a b inside outside =
    let r = counted_to f xs low high a b inside outside (length xs) (omega arith) in
    let e : sum_by f (take (length xs) xs) ≡ sum_by f xs = ap (sum_by f) (take-length xs) in
    omega arith

-- a list as what it gives at each number
gives_all : (f : ℕ → ℕ) (xs ys : List ℕ) (k : ℕ) → length ys ≡ k → sum_by (λ v. f (get_or (ys ++ xs) v 0)) (numbers k (length xs)) ≡ sum_by f xs
gives_all f [] ys k h = refl
gives_all f (x ∷ xs) ys k h =
    let g : ℕ → ℕ = λ v. f (get_or (ys ++ x ∷ xs) v 0) in
    let s = sum_by-cons g k (numbers (k + 1) (length xs)) in
    let t = sum_by-cons f x xs in
    let at : g k ≡ f x = ap f (ap (λ n. get_or (ys ++ x ∷ xs) n 0) (sym h) ∙ get_or-append_seam ys x xs 0) in
    let joined : (ys ++ x ∷ []) ++ xs ≡ ys ++ x ∷ xs = append_assoc ys (x ∷ []) xs in
    let long : length (ys ++ x ∷ []) ≡ k + 1 = (let l = length-append ys (x ∷ []) in omega arith) in
    let r : sum_by g (numbers (k + 1) (length xs)) ≡ sum_by f xs =
    subst (λ (zs : List ℕ). sum_by (λ v. f (get_or zs v 0)) (numbers (k + 1) (length xs)) ≡ sum_by f xs) joined (gives_all f xs (ys ++ x ∷ []) (k + 1) long) in
    omega arith

-- What is known of nodes that are arranged and dealt out.
pub record Dealt (nodes : List NodeRow) (parts : ℕ) (order of_node : List ℕ) : Type 0 where
  pub pos : 0 < parts
  pub all : IsPermutation (below (length nodes)) order
  pub cut : (depth : ℕ) → parts ≤ depth → Each (is_sorted_at nodes parts (nodes_before (length nodes) parts 0) order) (cuts_from depth X 0 parts)
  pub long : length of_node ≡ length order
  pub dealt : AreDealt parts order of_node

module _ (nodes : List NodeRow) (parts : ℕ) (order of_node : List ℕ) (D : Dealt nodes parts order of_node) where
  abbrev n : ℕ
  n = length nodes

  order_long : length order ≡ n
  order_long = length_permutation _ _ D.all ∙ length-numbers 0 n

  owner_at : (i : ℕ) → i < n → owner_in of_node (get_or order i 0) ≡ partition_at n parts i
  owner_at i h = let l = order_long in subst (λ k. owner_in of_node (get_or order i 0) ≡ partition_at k parts i) l (D.dealt i (omega arith))

  abbrev counts : ℕ → ℕ → ℕ
  counts p v = cond (v == p) 1 0

  share : (p : ℕ) → p < parts → count_by (λ q. q == p) of_node ≡ nodes_before n parts (p + 1) - nodes_before n parts p
  share p h =
      let l = order_long in
      let low = nodes_before n parts p in
      let high = nodes_before n parts (p + 1) in
      let f : ℕ → ℕ = λ v. counts p (owner_in of_node v) in
      let rise = shares_rise n parts p (p + 1) D.pos (omega arith) in
      let most : high ≤ n = (let a = shares_rise n parts (p + 1) parts D.pos (omega arith) in let e = all_shares n parts D.pos in omega arith) in
      let inside : (i : ℕ) → low ≤ i → i < high → f (get_or order i 0) ≡ 1 =
      λ i a b.
      let lt : i < n = omega arith in
      let e : partition_at n parts i ≡ p = same_partition p i a b lt in
      let q = eq-eqb (owner_in of_node (get_or order i 0)) p (owner_at i lt ∙ e) in
      (rw q refl) in
      let outside : (i : ℕ) → i < length order → (i < low) ⊎ (high ≤ i) → f (get_or order i 0) ≡ 0 =
      λ i a b.
      let lt : i < n = omega arith in
      let q = ne_eqb (owner_in of_node (get_or order i 0)) p (λ e. other_partition p i lt b (sym (owner_at i lt) ∙ e)) in
      (rw q refl) in
      let counted : sum_by f order ≡ high - low = counted_between f order low high rise (omega arith) inside outside in
      let turned : sum_by f order ≡ sum_by f (below n) = sum_by-IsPermutation f (below n) order D.all in
      let listed : sum_by f (numbers 0 (length of_node)) ≡ sum_by (counts p) of_node = gives_all (counts p) of_node [] 0 refl in
      let same : length of_node ≡ n = D.long ∙ l in
      let listed2 : sum_by f (below n) ≡ sum_by (counts p) of_node = subst (λ k. sum_by f (numbers 0 k) ≡ sum_by (counts p) of_node) same listed in
      sym listed2 ∙ sym turned ∙ counted
    where
      same_partition : (p i : ℕ) → nodes_before n parts p ≤ i → i < nodes_before n parts (p + 1) → i < n → partition_at n parts i ≡ p
      same_partition p i a b lt =
          elim (cases_lt (partition_at n parts i) p) [
            | inl e ↦ let c = before_partition n parts i p (omega arith) D.pos e in absurd (omega arith)
            | inr e ↦
                elim (cases_lt p (partition_at n parts i)) [
                  | inl g ↦ let c = from_partition n parts i (p + 1) (omega arith) D.pos (omega arith) in absurd (omega arith)
                  | inr g ↦ omega arith
                ]
          ]

      other_partition : (p i : ℕ) → i < n → (i < nodes_before n parts p) ⊎ (nodes_before n parts (p + 1) ≤ i) → partition_at n parts i ≢ p
      other_partition p i lt (inl a) e = let c = from_partition n parts i p (omega arith) D.pos (omega (arith, e)) in omega arith
      other_partition p i lt (inr a) e = let c = before_partition n parts i (p + 1) (omega arith) D.pos (omega (arith, e)) in omega arith

  -- where a node stands in the order
  place_of : (a : ℕ) → a < n → (i : ℕ) × ((i < n) × (get_or order i 0 ≡ a))
  place_of a h =
      let l = order_long in
      let in_below : Contains (below n) a = (a, subst (λ k. a < k) (sym (length-numbers 0 n)) h, get_numbers 0 n a a h ∙ front a) in
      let c = Contains-permutation (below n) order a D.all in_below in
      let lt : c.0 < length order = c.1 in
      (c.0, (omega arith, get_or_default order c.0 0 a lt ∙ c.2))
    where
      front : (x : ℕ) → 0 + x ≡ x
      front x = omega arith

  side : (c : Cut) → Within 0 (0 + parts) c × is_sorted_at nodes parts (nodes_before n parts 0) order c → IsCut nodes of_node c
  side c h a b la lb af am bm be =
      let i = place_of a la in
      let j = place_of b lb in
      let some : 0 < n = omega arith in
      let oa : owner_in of_node a ≡ partition_at n parts i.0 = ap (owner_in of_node) (sym i.1.1) ∙ owner_at i.0 i.1.0 in
      let ob : owner_in of_node b ≡ partition_at n parts j.0 = ap (owner_in of_node) (sym j.1.1) ∙ owner_at j.0 j.1.0 in
      let i1 = from_partition n parts i.0 c.first some D.pos (omega arith) in
      let i2 = before_partition n parts i.0 c.middle some D.pos (omega arith) in
      let j1 = from_partition n parts j.0 c.middle some D.pos (omega arith) in
      let j2 = before_partition n parts j.0 c.end some D.pos (omega arith) in
      let z = no_share n parts D.pos in
      let behind = h.1 i.0 j.0 i1 i2 j1 j2 in
      let left : get_or order (i.0 - nodes_before n parts 0) 0 ≡ a = ap (λ k. get_or order k 0) (minus_none i.0 (nodes_before n parts 0) z) ∙ i.1.1 in
      let right : get_or order (j.0 - nodes_before n parts 0) 0 ≡ b = ap (λ k. get_or order k 0) (minus_none j.0 (nodes_before n parts 0) z) ∙ j.1.1 in
      let behind2 : lies_before c.axis nodes b a ≡ false = ap (λ x. lies_before c.axis nodes b x) (sym left) ∙ ap (λ y. lies_before c.axis nodes y (get_or order (i.0 - nodes_before n parts 0) 0)) (sym right) ∙ behind in
      one_before c.axis nodes a b behind2 (λ e. let q = ap (owner_in of_node) e in apart (owner_in of_node a) (owner_in of_node b) c.middle q am bm)
    where
      minus_none : (x y : ℕ) → y ≡ 0 → x - y ≡ x
      minus_none x y h = omega arith

      apart : (x y m : ℕ) → x ≡ y → x < m → m ≤ y → ⊥
      apart x y m e h g = omega arith

  pub halved : IsHalved nodes parts of_node
  halved = record {
    each = D.long ∙ order_long;
    shares = share;
    sides = each_weaker _ _ side _ (both_each _ _ _ (cuts_within parts X 0 parts) (D.cut parts (omega arith)));
  }

  -- each node has one of the partitions
  pub all_owned : (v : ℕ) → owner_in of_node v < parts
  all_owned v =
      elim (cases_lt v n) [
        | inl h ↦
            let i = place_of v h in
            let e : owner_in of_node v ≡ partition_at n parts i.0 = ap (owner_in of_node) (sym i.1.1) ∙ owner_at i.0 i.1.0 in
            subst (λ x. x < parts) (sym e) (some_partition n parts i.0 D.pos i.1.0)
        | inr h ↦
            let l = order_long in
            let m = D.long in
            subst (λ x. x < parts) (sym (get_or_past of_node v 0 (omega arith))) D.pos
      ]

-- all nodes are those of all partitions
pub whole_share : (n k long : ℕ) → 0 < k → long ≡ n → long + nodes_before n k 0 ≡ nodes_before n k (0 + k)
whole_share n k long pos h =
    let a = no_share n k pos in
    let b = all_shares n k pos in
    let e : 0 + k ≡ k = omega arith in
    let f : nodes_before n k (0 + k) ≡ nodes_before n k k = ap (nodes_before n k) e in
    omega arith

pub length-below : (n : ℕ) (xs : List ℕ) → xs ≡ below n → length xs ≡ n
length-below n xs e = ap length e ∙ length-numbers 0 n

-- what a slice of a vector holds is what the vector holds
pub written_back : {Y : Type 0} (xs zs : List Y) (long : ℕ) → long ≡ length xs → take long (xs ++ drop (length xs) zs) ≡ xs
written_back xs zs long e = ap (λ k. take k (xs ++ drop (length xs) zs)) e ∙ take-append_seam xs (drop (length xs) zs)

pub dealt_from : (nodes : List NodeRow) (parts : ℕ) (start members order of_node : List ℕ) → 0 < parts → start ≡ below (length nodes) → IsPermutation start members → order ≡ members
    → ((depth : ℕ) → parts ≤ depth → Each (is_sorted_at nodes parts (nodes_before (length nodes) parts 0) members) (cuts_from depth X 0 parts))
    → length of_node ≡ length order → AreDealt parts order of_node → Dealt nodes parts order of_node
dealt_from nodes parts start members order of_node pos begins same is cut long dealt = record {
  pos = pos;
  all = subst (λ xs. IsPermutation (below (length nodes)) xs) (sym is) (subst (λ xs. IsPermutation xs members) begins same);
  cut = λ depth h. subst (λ xs. Each (is_sorted_at nodes parts (nodes_before (length nodes) parts 0) xs) (cuts_from depth X 0 parts)) (sym is) (cut depth h);
  long = long;
  dealt = dealt;
}
