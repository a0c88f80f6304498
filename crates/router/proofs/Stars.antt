-- Lists of links in one array, and lists of links beside their nodes.
use Rattle.std.proofs.{Common.subst, Common.arith, lemmas.Bool.cases_eq}
use Rattle.std.proofs.Common.{◌≡◌, ℕ, zero, suc, ◌+◌, ◌-◌, ◌<◌, ◌≤◌, List, [], ◌∷◌, ◌++◌, length, take, drop, map, ◌⊎◌, inl, inr, refl, sym, ◌∙◌, ap}
use Rattle.std.proofs.lemmas.List.{get_or_append_left, get_or_push, get_or-set_same, get_or-set_other, length-append, length-drop, map-append, drop-append-le}
use Rattle.std.proofs.lemmas.List.{drop_at, get_or-map}
use Rattle.std.proofs.lemmas.List.{take-append-le, take_all, Elements.All-push, Elements.All-weaker, Elements.Contains-append_left, Elements.Contains-push}
use Rattle.std.proofs.lemmas.List.FromFn.{map-range_with_len_more, get_or-map-range_with_len, length-map-range_with_len}
use Rattle.std.specs.{List.range_with_len, List.slice_range, Prelude.slice_index, Prelude.slice_index_or, Prelude.slice_set, Prelude.All, Prelude.Contains}
use Rattle.walks.specs.Walks.{start_of, end_of}
use Rattle.router.specs.{Stars.lists_in, Stars.AreStarts, Stars.AreBeside, declared.star.Spoke.Spoke}

abbrev list_at : List ℕ → List Spoke → ℕ → List Spoke
list_at starts links node = slice_range links (slice_index starts node) (slice_index starts (node + 1))

map_range_same : (f g : ℕ → List Spoke) (low count : ℕ) → ((k : ℕ) → low ≤ k → k < low + count → f k ≡ g k) →
    map f (range_with_len low count) ≡ map g (range_with_len low count)
map_range_same f g low zero same = refl
map_range_same f g low (suc count) same =
    ap (λ (x : List Spoke). x ∷ map f (range_with_len (low + 1) count)) (same low (omega arith) (omega arith))
    ∙ ap (λ (xs : List (List Spoke)). g low ∷ xs) (map_range_same f g (low + 1) count (λ k above below. same k (omega arith) (omega arith)))

-- the starts ascend
starts_below : (starts : List ℕ) (links : List Spoke) (node more : ℕ) → AreStarts starts links → node + more < length starts →
    slice_index starts node ≤ slice_index starts (node + more)
starts_below starts links node zero kept within = let same = ap (slice_index starts) (at_zero node) in omega arith
  where
    at_zero : (n : ℕ) → n + 0 ≡ n
    at_zero n = omega arith
starts_below starts links node (suc more) kept within =
    let before = starts_below starts links node more kept (omega arith) in
    let step = kept.ascend (node + more) (omega arith) in
    let same = ap (slice_index starts) (suc_out node more) in
    omega arith
  where
    suc_out : (a b : ℕ) → a + suc b ≡ suc (a + b)
    suc_out a b = omega arith

pub starts_within : (starts : List ℕ) (links : List Spoke) (node : ℕ) → AreStarts starts links → node < length starts →
    slice_index starts node ≤ length links
starts_within starts links node kept within =
    let last = kept.last in
    let below = starts_below starts links node (length starts - 1 - node) kept (let some = kept.some in omega arith) in
    let same = ap (slice_index starts) (there node (length starts) within) in
    omega arith
  where
    there : (n m : ℕ) → n < m → n + (m - 1 - n) ≡ m - 1
    there n m h = omega arith

-- one node more
module _ (starts : List ℕ) (links more : List Spoke) (new_starts : List ℕ) (new_links : List Spoke) (kept : AreStarts starts links) (pushed : new_links ≡ links ++ more)
    (started : new_starts ≡ starts ++ length new_links ∷ []) where
  counted : length new_starts ≡ length starts + 1
  counted = ap (λ (s : List ℕ). length s) started ∙ length-append starts (length new_links ∷ [])

  longer : length new_links ≡ length links + length more
  longer = ap (λ (l : List Spoke). length l) pushed ∙ length-append links more

  start_before : (node : ℕ) → node < length starts → slice_index new_starts node ≡ slice_index starts node
  start_before node within = ap (λ (s : List ℕ). slice_index s node) started ∙ get_or_append_left starts
      (length new_links ∷ []) 0 node within

  start_last : (node : ℕ) → node ≡ length starts → slice_index new_starts node ≡ length new_links
  start_last node at = ap (λ (s : List ℕ). slice_index s node) started ∙ get_or_push starts (length new_links) 0 node (sym at)

  list_before : (node : ℕ) → node + 1 < length starts → list_at new_starts new_links node ≡ list_at starts links node
  list_before node within =
      let i : ℕ = slice_index starts node in
      let j : ℕ = slice_index starts (node + 1) in
      let ascends : i ≤ j = let h = kept.ascend node (omega arith) in let same = ap (slice_index starts) (next node) in omega arith in
      let inside : j ≤ length links = starts_within starts links (node + 1) kept within in
      ap (λ (a : ℕ). slice_range new_links a (slice_index new_starts (node + 1))) (start_before node (omega arith))
      ∙ ap (λ (b : ℕ). slice_range new_links i b) (start_before (node + 1) within) ∙ ap (λ (l : List Spoke). slice_range l i j) pushed
      ∙ ap (λ (l : List Spoke). take (j - i) l) (drop-append-le i links more (omega arith))
      ∙ take-append-le (j - i) (drop i links) more (let n = length-drop i links in omega arith)
    where
      next : (n : ℕ) → n + 1 ≡ suc n
      next n = omega arith

  list_last : (node : ℕ) → node + 1 ≡ length starts → list_at new_starts new_links node ≡ more
  list_last node at =
      let i : slice_index new_starts node ≡ length links =
      start_before node (omega arith) ∙ ap (slice_index starts) (one_less node (length starts) at) ∙ kept.last in
      let j : slice_index new_starts (node + 1) ≡ length new_links = start_last (node + 1) at in
      ap (λ (a : ℕ). slice_range new_links a (slice_index new_starts (node + 1))) i ∙ ap
      (λ (b : ℕ). slice_range new_links (length links) b) j
      ∙ ap (λ (l : List Spoke). take (length new_links - length links) (drop (length links) l)) pushed
      ∙ ap (λ (l : List Spoke). take (length new_links - length links) l) (drop_at links more (length links) refl)
      ∙ take_all (length new_links - length links) more (let l = longer in omega arith)
    where
      one_less : (n m : ℕ) → n + 1 ≡ m → n ≡ m - 1
      one_less n m h = omega arith

  pub lists_push : lists_in new_starts new_links ≡ lists_in starts links ++ more ∷ []
  lists_push =
      let n : ℕ = length starts - 1 in
      let count : length new_starts - 1 ≡ n + 1 = let c = counted in let some = kept.some in omega arith in
      ap (λ (k : ℕ). map (list_at new_starts new_links) (range_with_len 0 k)) count
      ∙ map-range_with_len_more (list_at new_starts new_links) 0 n n (omega arith)
      ∙ ap (λ (xs : List (List Spoke)). xs ++ list_at new_starts new_links n ∷ [])
      (map_range_same (list_at new_starts new_links) (list_at starts links) 0 n (λ k above below. list_before k (omega arith)))
      ∙ ap (λ (l : List Spoke). lists_in starts links ++ l ∷ []) (list_last n (let some = kept.some in omega arith))

-- the list of a node
pub list_is : (starts : List ℕ) (links : List Spoke) (node : ℕ) → node < length (lists_in starts links) → slice_index_or (lists_in starts links) node []
    ≡ slice_range links (slice_index starts node) (slice_index starts (node + 1))
list_is starts links node within =
    let count = length-map-range_with_len (list_at starts links) 0 (length starts - 1) in
    get_or-map-range_with_len (list_at starts links) 0 (length starts - 1) node node [] (omega arith) (omega arith)

pub length-lists : (starts : List ℕ) (links : List Spoke) → length (lists_in starts links) ≡ length starts - 1
length-lists starts links = length-map-range_with_len (list_at starts links) 0 (length starts - 1)

-- the same lists, by other words for the nodes
pub beside_same : (f g f' g' : ℕ → ℕ) (n m : ℕ) (lists : List (List Spoke)) → f ≡ f' → g ≡ g' → n ≡ m → AreBeside f g n lists →
    AreBeside f' g' m lists
beside_same f g f' g' n m lists first second count h =
    subst (λ (k : ℕ). AreBeside f' g' k lists) count (subst (λ (o : ℕ → ℕ). AreBeside f' o n lists) second
    (subst (λ (o : ℕ → ℕ). AreBeside o g n lists) first h))

-- one link more, at the end of the list of its node
module _ (node_of other_of : ℕ → ℕ) (link node : ℕ) (spoke : Spoke) (lists : List (List Spoke)) (within : node < length lists)
    (is : node_of link ≡ node) (link_is : spoke.link ≡ link) (other_is : spoke.node ≡ other_of link)
    (before : AreBeside node_of other_of link lists) where
  abbrev IsOf : ℕ → ℕ → Spoke → Type 0
  IsOf links n s = (s.link < links) × (node_of s.link ≡ n) × (s.node ≡ other_of s.link)

  abbrev pushed_list : List Spoke
  pushed_list = slice_index_or lists node [] ++ spoke ∷ []

  weaker : (n : ℕ) (s : Spoke) → IsOf link n s → IsOf (link + 1) n s
  weaker n s h = (let less = h.0 in omega arith, h.1, h.2)

  own : (n : ℕ) → n ≡ node → IsOf (link + 1) n spoke
  own n same = (omega arith, ap node_of link_is ∙ is ∙ sym same, other_is ∙ ap other_of (sym link_is))

  here : (n : ℕ) → n ≡ node → slice_index_or (slice_set lists node pushed_list) n [] ≡ pushed_list
  here n same =
      ap (λ (k : ℕ). slice_index_or (slice_set lists node pushed_list) k []) same ∙ get_or-set_same lists node pushed_list [] within

  there : (n : ℕ) → (n ≡ node → ⊥) → slice_index_or (slice_set lists node pushed_list) n [] ≡ slice_index_or lists n []
  there n other = get_or-set_other lists node n pushed_list [] other

  each_here : (n : ℕ) → n ≡ node → All (IsOf (link + 1) n) (slice_index_or (slice_set lists node pushed_list) n [])
  each_here n same =
      subst (λ (ls : List Spoke). All (IsOf (link + 1) n) ls) (sym (here n same))
      (All-push (IsOf (link + 1) n) (slice_index_or lists node []) spoke
      (subst (λ (k : ℕ). All (IsOf (link + 1) n) (slice_index_or lists k [])) same
      (All-weaker (IsOf link n) (IsOf (link + 1) n) (weaker n) (slice_index_or lists n []) (before.each n)))
      (own n same))

  each_other : (n : ℕ) → (n ≡ node → ⊥) → All (IsOf (link + 1) n) (slice_index_or (slice_set lists node pushed_list) n [])
  each_other n other =
      subst (λ (ls : List Spoke). All (IsOf (link + 1) n) ls) (sym (there n other))
      (All-weaker (IsOf link n) (IsOf (link + 1) n) (weaker n) (slice_index_or lists n []) (before.each n))

  abbrev Has : List Spoke → ℕ → Type 0
  Has ls l = Contains (map (λ (s : Spoke). s.link) ls) l

  pushed_links : map (λ (s : Spoke). s.link) pushed_list ≡ map (λ (s : Spoke). s.link) (slice_index_or lists node []) ++ spoke.link ∷ []
  pushed_links = map-append (λ (s : Spoke). s.link) (slice_index_or lists node []) (spoke ∷ [])

  every_here : (l : ℕ) → l ≡ link → Has (slice_index_or (slice_set lists node pushed_list) (node_of l) []) l
  every_here l same =
      subst (λ (ls : List Spoke). Has ls l) (sym (here (node_of l) (ap node_of same ∙ is)))
      (subst (λ (ls : List ℕ). Contains ls l) (sym pushed_links)
      (subst (λ (k : ℕ). Contains (map (λ (s : Spoke). s.link) (slice_index_or lists node []) ++ spoke.link ∷ []) k)
      (link_is ∙ sym same) (Contains-push (map (λ (s : Spoke). s.link) (slice_index_or lists node [])) spoke.link)))

  every_before : (l : ℕ) → l < link → (node_of l ≡ node) ⊎ (node_of l ≡ node → ⊥) →
      Has (slice_index_or (slice_set lists node pushed_list) (node_of l) []) l
  every_before l less (inl same) =
      subst (λ (ls : List Spoke). Has ls l) (sym (here (node_of l) same))
      (subst (λ (ls : List ℕ). Contains ls l) (sym pushed_links)
      (Contains-append_left (map (λ (s : Spoke). s.link) (slice_index_or lists node [])) (spoke.link ∷ []) l
      (subst (λ (k : ℕ). Has (slice_index_or lists k []) l) same (before.every l less))))
  every_before l less (inr other) =
      subst (λ (ls : List Spoke). Has ls l) (sym (there (node_of l) other)) (before.every l less)

  beside_set : AreBeside node_of other_of (link + 1) (slice_set lists node pushed_list)
  beside_set = record {
    each = λ n. elim (cases_eq n node) [ inl same ↦ each_here n same | inr other ↦ each_other n other ];
    every = λ l less. elim (cases_eq l link) [
      | inl same ↦ every_here l same
      | inr other ↦ every_before l (omega arith) (cases_eq (node_of l) node)
    ];
  }

  pub beside_push : (new : List (List Spoke)) → new ≡ slice_set lists node (slice_index_or lists node [] ++ spoke ∷ []) →
      AreBeside node_of other_of (link + 1) new
  beside_push new pushed = subst (AreBeside node_of other_of (link + 1)) (sym pushed) beside_set

-- the part of the array that is a node's
pub span_is : (starts : List ℕ) (links : List Spoke) (read_starts : List ℕ) (lists : List (List Spoke)) (node : ℕ) (span : ℕ × ℕ) → AreStarts starts links →
    lists_in starts links ≡ lists → node < length lists → read_starts ≡ starts
    → span ≡ (slice_index read_starts node, slice_index read_starts (node + 1))
    → (span.0 ≤ span.1) × (span.1 ≤ length links) × (slice_range links span.0 span.1 ≡ slice_index_or lists node [])
span_is starts links read_starts lists node span kept view within same is =
    let from : span.0 ≡ slice_index starts node = ap (λ (p : ℕ × ℕ). p.0) is ∙ ap (λ (s : List ℕ). slice_index s node) same in
    let to : span.1 ≡ slice_index starts (node + 1) = ap (λ (p : ℕ × ℕ). p.1) is ∙ ap (λ (s : List ℕ). slice_index s (node + 1)) same in
    let count = length-lists starts links in
    let here : node < length (lists_in starts links) = let n = ap (λ (ls : List (List Spoke)). length ls) view in omega arith in
    let inside : node + 1 < length starts = omega arith in
    let order : slice_index starts node ≤ slice_index starts (node + 1) = starts_below starts links node 1 kept inside in
    let end = starts_within starts links (node + 1) kept inside in (
      omega arith,
      omega arith,
      ap (λ (a : ℕ). slice_range links a span.1) from ∙ ap (λ (b : ℕ). slice_range links (slice_index starts node) b) to ∙ sym
          (list_is starts links node here)
          ∙ ap (λ (ls : List (List Spoke)). slice_index_or ls node []) view,
    )

-- READING
-- the numbers of these links
abbrev pub links_of : List Spoke → List ℕ
links_of links = map (λ (s : Spoke). s.link) links

-- the link in a place
abbrev pub spoke_at : List Spoke → ℕ → Spoke
spoke_at links place = slice_index_or links place (record { link = 0; node = 0 })

pub spoke_link : (links : List Spoke) (place : ℕ) → place < length links → slice_index (links_of links) place ≡ (spoke_at links place).link
spoke_link links place within = get_or-map (λ (s : Spoke). s.link) links place (record { link = 0; node = 0 }) 0 within

-- a link of those that begin at a node
pub spoke_starts : (nodes : ℕ) (ends : List (ℕ × ℕ)) (links : List Spoke) (place node : ℕ) → place < length links
    → All (λ spoke. (spoke.link < length ends) × (start_of ends spoke.link ≡ node) × (spoke.node ≡ end_of ends spoke.link)
    × (spoke.node < nodes)) links
    → start_of ends (slice_index (links_of links) place) ≡ node
spoke_starts nodes ends links place node within each =
    ap (start_of ends) (spoke_link links place within) ∙ (each place (record { link = 0; node = 0 }) within).1

-- what is known of a link
pub spoke_known : (nodes : ℕ) (ends : List (ℕ × ℕ)) (links : List Spoke) (place : ℕ) → place < length links
    → All (λ spoke. (spoke.link < length ends) × (spoke.node ≡ end_of ends spoke.link) × (spoke.node < nodes)) links
    → ((spoke_at links place).link < length ends) × ((spoke_at links place).node ≡ end_of ends (spoke_at links place).link)
    × ((spoke_at links place).node < nodes)
spoke_known nodes ends links place within each = each place (record { link = 0; node = 0 }) within
