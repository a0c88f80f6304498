-- Two halves that are arranged each by itself are arranged together.
use Rattle.std.proofs.Common.{◌≡◌, ℕ, zero, suc, ◌+◌, ◌-◌, ◌/◌, ◌<◌, ◌≤◌, Bool, true, false, List, [], ◌∷◌, ◌++◌, arith, refl, sym, ◌∙◌, ap, subst, length}
use Rattle.std.proofs.{Common.get_or, Common.take, Common.drop, Common.All, Common.inl, Common.inr, lemmas.List.get_or-take, lemmas.List.get_or-drop}
use Rattle.std.proofs.lemmas.List.{get_or_append_left, get_or-append_right, length-drop, length-take-le, Elements.All-get_or, Elements.All-from_get_or}
use Rattle.std.proofs.lemmas.List.Sorted.{sorted_far, All-permutation, IsPermutation-append, IsPermutation-trans, length_permutation}
use Rattle.std.specs.{Cmp.IsStrictWeakOrder, List.AllByRecursion as Each, List.Sorted.IsSortedBy, List.Sorted.IsPermutation, Prelude.nat_le}
use Rattle.traffic.proofs.{Common.cases_Bool, Common.nat_tests, Each.each_append, Each.each_weaker}
use Rattle.rows.specs.declared.network.NodeRow.{NodeRow}
use Rattle.partition.proofs.{Order.order_along, Shares.shares_rise}
use Rattle.partition.specs.{Axes.across, Axes.lies_before, Cuts.Cut, Cuts.nodes_before, Cuts.cuts_from, Cuts.is_sorted_at, declared.axes.Axis.Axis}

many_more : (k : ℕ) → 1 < k → nat_le k 1 ≡ false
many_more k h = grind (arith, nat_tests)

-- where a cut lies among partitions
pub record Within (low high : ℕ) (c : Cut) : Type 0 where
  pub begins : low ≤ c.first
  pub first : c.first ≤ c.middle
  pub middle : c.middle ≤ c.end
  pub ends : c.end ≤ high

wider : (low low2 high high2 : ℕ) → low2 ≤ low → high ≤ high2 → (c : Cut) → Within low high c → Within low2 high2 c
wider low low2 high high2 a b c w = let p = w.begins in let q = w.ends in record { begins = omega arith; first = w.first; middle = w.middle; ends = omega arith }

half_le : (n : ℕ) → n / 2 ≤ n
half_le n = omega arith

pub cuts_within : (depth : ℕ) (axis : Axis) (first count : ℕ) → Each (Within first (first + count)) (cuts_from depth axis first count)
unfolding cuts_from
cuts_within zero axis first count = tt
cuts_within (suc depth) axis first count =
    let low = count / 2 in
    let less = half_le count in
    let lesser = cuts_within depth (across axis) first low in
    let greater = cuts_within depth (across axis) (first + low) (count - low) in
    let one = each_weaker _ _ (wider first first (first + low) (first + count) (omega arith) (omega arith)) _ lesser in
    let two = each_weaker _ _ (wider (first + low) first (first + low + (count - low)) (first + count) (omega arith) (omega arith)) _ greater in
    elim (cases_Bool (nat_le count 1)) [
      | inl e ↦ rw e tt
      | inr e ↦ rw e (record { begins = omega arith; first = omega arith; middle = omega arith; ends = omega arith }, each_append _ _ _ one two)
    ]

pub no_cuts : (depth : ℕ) (axis : Axis) (first count : ℕ) → count ≤ 1 → cuts_from depth axis first count ≡ []
unfolding cuts_from
no_cuts zero axis first count h = refl
no_cuts (suc depth) axis first count h = let e : nat_le count 1 ≡ true = grind (arith, nat_tests) in rw e refl

-- every later one of a sorted list stays behind every earlier one, however each part is turned
pub halves_sorted : (lt : ℕ → ℕ → Bool) → IsStrictWeakOrder lt → (m : ℕ) (xs lesser greater : List ℕ) → m ≤ length xs → IsSortedBy lt xs
    → IsPermutation (take m xs) lesser → IsPermutation (drop m xs) greater
    → (i j : ℕ) → i < m → m ≤ j → j < length xs → lt (get_or (lesser ++ greater) j 0) (get_or (lesser ++ greater) i 0) ≡ false
halves_sorted lt o m xs lesser greater short up p q i j a b c =
    let front : length (take m xs) ≡ m = length-take-le m xs short in
    let back : length (drop m xs) ≡ length xs - m = length-drop m xs in
    let long : length lesser ≡ m = length_permutation _ _ p ∙ front in
    let rest : length greater ≡ length xs - m = length_permutation _ _ q ∙ back in
    let behind : (x : ℕ) → ((k : ℕ) → k < length xs - m → lt (get_or xs (m + k) 0) x ≡ false) → All (λ y. lt y x ≡ false) (drop m xs) =
    λ x h. All-from_get_or (λ y. lt y x ≡ false) (drop m xs) 0 (λ k l. ap (λ y. lt y x) (get_or-drop m xs k 0) ∙ h k (subst (λ n. k < n) back l)) in
    let all : All (λ x. All (λ y. lt y x ≡ false) (drop m xs)) (take m xs) =
    All-from_get_or (λ x. All (λ y. lt y x ≡ false) (drop m xs)) (take m xs) 0
    (λ k l. subst (λ x. All (λ y. lt y x ≡ false) (drop m xs)) (sym (get_or-take m xs k 0 (subst (λ n. k < n) front l)))
    (behind (get_or xs k 0) (λ n g. let h = subst (λ z. k < z) front l in sorted_far lt o xs up k (m + n) 0 (omega arith) (omega arith)))) in
    let turned = All-permutation (λ x. All (λ y. lt y x ≡ false) (drop m xs)) (take m xs) lesser p all in
    let at = All-get_or (λ x. All (λ y. lt y x ≡ false) (drop m xs)) lesser i 0 (omega arith) turned in
    let both = All-permutation (λ y. lt y (get_or lesser i 0) ≡ false) (drop m xs) greater q at in
    let done = All-get_or (λ y. lt y (get_or lesser i 0) ≡ false) greater (j - m) 0 (omega arith) both in
    let left : get_or (lesser ++ greater) i 0 ≡ get_or lesser i 0 = get_or_append_left lesser greater 0 i (omega arith) in
    let right : get_or (lesser ++ greater) j 0 ≡ get_or greater (j - m) 0 = get_or-append_right lesser greater m j 0 long b in
    ap (λ y. lt y (get_or (lesser ++ greater) i 0)) right ∙ ap (λ x. lt (get_or greater (j - m) 0) x) left ∙ done

-- cuts among some partitions look at the places of these alone
moved : (nodes : List NodeRow) (parts before before2 low high : ℕ) (xs ys : List ℕ) → 0 < parts
    → ((i : ℕ) → nodes_before (length nodes) parts low ≤ i → i < nodes_before (length nodes) parts high → get_or xs (i - before) 0 ≡ get_or ys (i - before2) 0)
    → (c : Cut) → Within low high c × is_sorted_at nodes parts before xs c → is_sorted_at nodes parts before2 ys c
moved nodes parts before before2 low high xs ys pos same c h i j a b d e =
    let n = length nodes in
    let w = h.0 in
    let b1 = shares_rise n parts low c.first pos w.begins in
    let b2 = shares_rise n parts c.middle c.end pos w.middle in
    let b3 = shares_rise n parts c.end high pos w.ends in
    let b4 = shares_rise n parts c.first c.middle pos w.first in
    let left = same i (omega arith) (omega arith) in
    let right = same j (omega arith) (omega arith) in
    ap (λ y. lies_before c.axis nodes y (get_or ys (i - before2) 0)) (sym right) ∙ ap (λ x. lies_before c.axis nodes (get_or xs (j - before) 0) x) (sym left) ∙ h.1 i j a b d e

pub both_each : {X : Type 0} (P Q : X → Type 0) (xs : List X) → Each P xs → Each Q xs → Each (λ x. P x × Q x) xs
both_each P Q [] h g = tt
both_each P Q (x ∷ xs) h g = ((h.0, g.0), both_each P Q xs h.1 g.1)

-- what stands of a half that is arranged
pub record Arranged (nodes : List NodeRow) (parts : ℕ) (axis : Axis) (first count : ℕ) (xs : List ℕ) : Type 0 where
  pub cut : (depth : ℕ) → count ≤ depth → Each (is_sorted_at nodes parts (nodes_before (length nodes) parts first) xs) (cuts_from depth axis first count)

-- The halves of partitions, sorted and then arranged each by itself.
pub record Halved (nodes : List NodeRow) (parts : ℕ) (axis : Axis) (first count : ℕ) (xs lesser greater : List ℕ) : Type 0 where
  pub pos : 0 < parts
  pub many : 1 < count
  pub long : length xs + nodes_before (length nodes) parts first ≡ nodes_before (length nodes) parts (first + count)
  pub up : IsSortedBy (lies_before axis nodes) xs
  pub front : IsPermutation (take (nodes_before (length nodes) parts (first + count / 2) - nodes_before (length nodes) parts first) xs) lesser
  pub back : IsPermutation (drop (nodes_before (length nodes) parts (first + count / 2) - nodes_before (length nodes) parts first) xs) greater
  pub one : Arranged nodes parts (across axis) first (count / 2) lesser
  pub two : Arranged nodes parts (across axis) (first + count / 2) (count - count / 2) greater

module _ (nodes : List NodeRow) (parts : ℕ) (axis : Axis) (first count : ℕ) (xs lesser greater : List ℕ)
    (H : Halved nodes parts axis first count xs lesser greater) where
  abbrev n : ℕ
  n = length nodes

  abbrev low : ℕ
  low = first + count / 2

  abbrev start : ℕ
  start = nodes_before n parts first

  abbrev middle : ℕ
  middle = nodes_before n parts low

  abbrev end : ℕ
  end = nodes_before n parts (first + count)

  start_middle : start ≤ middle
  start_middle = shares_rise n parts first low H.pos (omega arith)

  middle_end : middle ≤ end
  middle_end = let h = half_le count in shares_rise n parts low (first + count) H.pos (omega arith)

  lesser_long : length lesser ≡ middle - start
  lesser_long = let a = start_middle in let b = middle_end in let l = H.long in length_permutation _ _ H.front ∙ length-take-le (middle - start) xs (omega arith)

  head_cut : is_sorted_at nodes parts start (lesser ++ greater) (record { axis = axis; first = first; middle = low; end = first + count })
  head_cut i j a b c d =
      let s = start_middle in
      let m = middle_end in
      let l = H.long in
      halves_sorted (lies_before axis nodes) (order_along axis nodes) (middle - start) xs lesser greater (omega arith) H.up H.front H.back (i - start) (j - start) (omega arith) (omega arith) (omega arith)

  in_lesser : (i : ℕ) → start ≤ i → i < middle → get_or lesser (i - start) 0 ≡ get_or (lesser ++ greater) (i - start) 0
  in_lesser i a b = let l = lesser_long in sym (get_or_append_left lesser greater 0 (i - start) (omega arith))

  in_greater : (i : ℕ) → middle ≤ i → i < end → get_or greater (i - middle) 0 ≡ get_or (lesser ++ greater) (i - start) 0
  in_greater i a b =
      let l = lesser_long in
      let s = start_middle in
      let e : i - middle ≡ i - start - (middle - start) = omega arith in
      ap (λ k. get_or greater k 0) e ∙ sym (get_or-append_right lesser greater (middle - start) (i - start) 0 l (omega arith))

  lesser_cuts : (depth : ℕ) → count / 2 ≤ depth → Each (is_sorted_at nodes parts start (lesser ++ greater)) (cuts_from depth (across axis) first (count / 2))
  lesser_cuts depth h =
      each_weaker (λ c. Within first low c × is_sorted_at nodes parts start lesser c) (is_sorted_at nodes parts start (lesser ++ greater))
      (moved nodes parts start start first low lesser (lesser ++ greater) H.pos in_lesser) _
      (both_each _ _ _ (cuts_within depth (across axis) first (count / 2)) (H.one.cut depth h))

  greater_cuts : (depth : ℕ) → count - count / 2 ≤ depth → Each (is_sorted_at nodes parts start (lesser ++ greater)) (cuts_from depth (across axis) low (count - count / 2))
  greater_cuts depth h =
      let less = half_le count in
      let e : low + (count - count / 2) ≡ first + count = omega arith in
      each_weaker (λ c. Within low (low + (count - count / 2)) c × is_sorted_at nodes parts middle greater c) (is_sorted_at nodes parts start (lesser ++ greater))
      (moved nodes parts middle start low (low + (count - count / 2)) greater (lesser ++ greater) H.pos (λ i a b. in_greater i a (subst (λ k. i < nodes_before n parts k) e b))) _
      (both_each _ _ _ (cuts_within depth (across axis) low (count - count / 2)) (H.two.cut depth h))

  all_cuts : (depth : ℕ) → count ≤ depth → Each (is_sorted_at nodes parts start (lesser ++ greater)) (cuts_from depth axis first count)
  unfolding cuts_from
  all_cuts zero h = let m = H.many in absurd (omega arith)
  all_cuts (suc depth) h =
      let m = H.many in
      let less = half_le count in
      let e : nat_le count 1 ≡ false = many_more count m in
      rw e (head_cut, each_append _ _ _ (lesser_cuts depth (omega arith)) (greater_cuts depth (omega arith)))

  pub all_arranged : Arranged nodes parts axis first count (lesser ++ greater)
  all_arranged = record { cut = all_cuts }

-- how long the greater half is
pub rest_share : (n parts first count long rest mid : ℕ) → 0 < parts → 1 < count → long + nodes_before n parts first ≡ nodes_before n parts (first + count)
    → mid ≡ nodes_before n parts (first + count / 2) - nodes_before n parts first → rest + mid ≡ long
    → rest + nodes_before n parts (first + count / 2) ≡ nodes_before n parts (first + count / 2 + (count - count / 2))
rest_share n parts first count long rest mid pos many share e all =
    let less = half_le count in
    let a = shares_rise n parts first (first + count / 2) pos (omega arith) in
    let b : first + count / 2 + (count - count / 2) ≡ first + count = omega arith in
    let c : nodes_before n parts (first + count / 2 + (count - count / 2)) ≡ nodes_before n parts (first + count) = ap (nodes_before n parts) b in
    omega arith

pub halves_turned : (xs ys a b lesser greater : List ℕ) → IsPermutation xs ys → ys ≡ a ++ b → IsPermutation a lesser → IsPermutation b greater → IsPermutation xs (lesser ++ greater)
halves_turned xs ys a b lesser greater p e q r =
    IsPermutation-trans xs ys (lesser ++ greater) p (subst (λ zs. IsPermutation zs (lesser ++ greater)) (sym e) (IsPermutation-append a lesser b greater q r))

-- the same of halves that are named
pub arranged_from : (nodes : List NodeRow) (parts : ℕ) (axis x y : Axis) (first count mid : ℕ) (xs a b lesser greater : List ℕ) → 0 < parts → 1 < count
    → length xs + nodes_before (length nodes) parts first ≡ nodes_before (length nodes) parts (first + count) → IsSortedBy (lies_before axis nodes) xs
    → mid ≡ nodes_before (length nodes) parts (first + count / 2) - nodes_before (length nodes) parts first → a ≡ take mid xs → b ≡ drop mid xs
    → IsPermutation a lesser → IsPermutation b greater → x ≡ across axis → y ≡ across axis
    → Arranged nodes parts x first (count / 2) lesser → Arranged nodes parts y (first + count / 2) (count - count / 2) greater
    → Arranged nodes parts axis first count (lesser ++ greater)
arranged_from nodes parts axis x y first count mid xs a b lesser greater pos many long up m fa fb p q ex ey one two =
    all_arranged nodes parts axis first count xs lesser greater (record {
      pos = pos;
      many = many;
      long = long;
      up = up;
      front = subst (λ zs. IsPermutation zs lesser) (fa ∙ ap (λ k. take k xs) m) p;
      back = subst (λ zs. IsPermutation zs greater) (fb ∙ ap (λ k. drop k xs) m) q;
      one = subst (λ z. Arranged nodes parts z first (count / 2) lesser) ex one;
      two = subst (λ z. Arranged nodes parts z (first + count / 2) (count - count / 2) greater) ey two;
    })
