-- The route that is followed back, link by link.
use Rattle.std.proofs.Common.{◌≡◌, ℕ, zero, suc, ◌+◌, ◌-◌, ◌<◌, ◌≤◌, Bool, true, false, cond, ◌&&◌, List, [], ◌∷◌, ◌++◌, length, reverse, Option, None, Some}
use Rattle.std.proofs.{Common.inl, Common.inr, Common.refl, Common.sym, Common.◌∙◌, Common.ap, Common.subst, Common.arith, lemmas.Bool.cases_lt}
use Rattle.std.proofs.lemmas.{Bool.cases_eq, Bool.eq-eqb, Bool.ne_eqb, Bool.ltb-true, Bool.ltb-false, List.append-nil, List.append_assoc, List.get_or_default}
use Rattle.std.{proofs.lemmas.List.reverse-append, proofs.lemmas.List.length-append, specs.List.range_with_len, specs.Option.option_map_or}
use Rattle.std.specs.Prelude.{nat_eq, find, unwrap_or, slice_index, Contains, IsSome, IsSomeAnd}
use Rattle.walks.proofs.{Followed.link_leads, Followed.leads_from, Ranks.rank-le-length, Ranks.rank_less}
use Rattle.walks.specs.{Arrivals.Arrivals, Arrivals.IsFifo, Chosen.leads, Chosen.link_before, Chosen.followed, Rounds.Labels, Rounds.label_at, Rounds.rank}
use Rattle.walks.specs.Walks.{Ends, start_of, end_of}
use Rattle.router.specs.Ways.{is_below, label_or_0}

find_is : (p : ℕ → Bool) (low count m : ℕ) → low ≤ m → m < low + count → p m ≡ true → ((k : ℕ) → low ≤ k → k < m → p k ≡ false) →
    find p (range_with_len low count) ≡ Some m
find_is p low zero m above below passes first = absurd (omega arith)
find_is p low (suc count) m above below passes first =
    elim (cases_lt low m) [
      | inl before ↦
          ap (λ (b : Bool). cond b (Some low) (find p (range_with_len (low + 1) count))) (first low (omega arith) before)
          ∙ find_is p (low + 1) count m (omega arith) (omega arith) passes (λ k over under. first k (omega arith) under)
      | inr here ↦
          let same : low ≡ m = omega arith in
          ap (λ (b : Bool). cond b (Some low) (find p (range_with_len (low + 1) count))) (ap p same ∙ passes) ∙ ap (λ (n : ℕ). Some n) same
    ]

find_none : (p : ℕ → Bool) (low count : ℕ) → ((k : ℕ) → low ≤ k → k < low + count → p k ≡ false) → find p (range_with_len low count) ≡ None
find_none p low zero none = refl
find_none p low (suc count) none =
    ap (λ (b : Bool). cond b (Some low) (find p (range_with_len (low + 1) count))) (none low (omega arith) (omega arith))
    ∙ find_none p (low + 1) count (λ k over under. none k (omega arith) (omega arith))

not_true : (b : Bool) → (b ≡ true → ⊥) → b ≡ false
not_true true h = absurd (h refl)
not_true false h = refl

-- among the links into a node the least one that leads there is the link before the node
pub least_before : (ends : Ends) (arrive : Arrivals) (labels : Labels) (node : ℕ) (links : List ℕ) (least : Option ℕ)
    → ((link : ℕ) → link < length ends → end_of ends link ≡ node → Contains links link)
    → ((k : ℕ) → k < length links → leads ends arrive labels node (slice_index links k) ≡ true →
    IsSomeAnd least (λ m. m ≤ slice_index links k))
    → ((m : ℕ) → least ≡ Some m → (m < length ends) × (leads ends arrive labels node m ≡ true)) → link_before ends arrive labels node
    ≡ least
unfolding link_before
least_before ends arrive labels node links None every below led =
    find_none (leads ends arrive labels node) 0 (length ends) (λ k over under. not_true (leads ends arrive labels node k) (λ passes.
    let into = every k (omega arith) (leads_from ends arrive labels node k passes).0 in
    let there : slice_index links into.0 ≡ k = get_or_default links into.0 0 k into.1 ∙ into.2 in
    below into.0 into.1 (ap (leads ends arrive labels node) there ∙ passes)))
least_before ends arrive labels node links (Some m) every below led =
    let known = led m refl in
    find_is (leads ends arrive labels node) 0 (length ends) m (omega arith) (let h = known.0 in omega arith) known.1
    (λ k over under. not_true (leads ends arrive labels node k) (λ passes.
    let into = every k (let h = known.0 in omega arith) (leads_from ends arrive labels node k passes).0 in
    let there : slice_index links into.0 ≡ k = get_or_default links into.0 0 k into.1 ∙ into.2 in
    let no_less = below into.0 into.1 (ap (leads ends arrive labels node) there ∙ passes) in
    omega arith))

-- one link more is looked at
pub below_more : (ends : Ends) (arrive : Arrivals) (labels : Labels) (node : ℕ) (links : List ℕ) (i : ℕ) (least : Option ℕ)
    → ((k : ℕ) → k < i → leads ends arrive labels node (slice_index links k) ≡ true → IsSomeAnd least (λ m. m ≤ slice_index links k))
    → leads ends arrive labels node (slice_index links i) ≡ true → is_below (slice_index links i) least ≡ true
    → (k : ℕ) → k < i + 1 → leads ends arrive labels node (slice_index links k) ≡ true →
    IsSomeAnd (Some (slice_index links i)) (λ m. m ≤ slice_index links k)
below_more ends arrive labels node links i None before passes lower k less led =
    elim (cases_eq k i) [
      | inl same ↦ let at = ap (slice_index links) same in omega arith
      | inr other ↦ absurd (before k (omega arith) led)
    ]
below_more ends arrive labels node links i (Some m) before passes lower k less led =
    elim (cases_eq k i) [
      | inl same ↦ let at = ap (slice_index links) same in omega arith
      | inr other ↦ let old = before k (omega arith) led in let under = ltb-true (slice_index links i) m lower in omega arith
    ]

pub below_kept : (ends : Ends) (arrive : Arrivals) (labels : Labels) (node : ℕ) (links : List ℕ) (i : ℕ) (least : Option ℕ)
    → ((k : ℕ) → k < i → leads ends arrive labels node (slice_index links k) ≡ true → IsSomeAnd least (λ m. m ≤ slice_index links k))
    → (leads ends arrive labels node (slice_index links i) && is_below (slice_index links i) least) ≡ false
    → (k : ℕ) → k < i + 1 → leads ends arrive labels node (slice_index links k) ≡ true → IsSomeAnd least (λ m. m ≤ slice_index links k)
below_kept ends arrive labels node links i least before fails k less led =
    elim (cases_eq k i) [
      | inl same ↦
          let passes : leads ends arrive labels node (slice_index links i) ≡ true =
          ap (λ (n : ℕ). leads ends arrive labels node (slice_index links n)) (sym same) ∙ led in
          let higher : is_below (slice_index links i) least ≡ false =
          second_fails (leads ends arrive labels node (slice_index links i)) (is_below (slice_index links i) least) passes fails in
          let P : ℕ → Type 0 = λ n. IsSomeAnd least (λ m. m ≤ slice_index links n) in
          subst P (sym same) (at_least (slice_index links i) least higher)
      | inr other ↦ before k (omega arith) led
    ]
  where
    second_fails : (a b : Bool) → a ≡ true → (a && b) ≡ false → b ≡ false
    second_fails true b h fails = fails
    second_fails false b h fails = absurd (cc h)

    at_least : (n : ℕ) (o : Option ℕ) → is_below n o ≡ false → IsSomeAnd o (λ m. m ≤ n)
    at_least n None e = cc e
    at_least n (Some m) e = ltb-false n m e

label_is : (labels : Labels) (node : ℕ) (o : Option ℕ) → label_at labels node ≡ o → IsSome o → label_at labels node
    ≡ Some (label_or_0 labels node)
label_is labels node None is some = absurd (cc some)
label_is labels node (Some at) is some = is ∙ ap (λ (n : ℕ). Some n) (sym (ap (λ (o : Option ℕ). unwrap_or o 0) is))

pub labelled : (labels : Labels) (node : ℕ) → IsSome (label_at labels node) → label_at labels node ≡ Some (label_or_0 labels node)
labelled labels node some = label_is labels node (label_at labels node) refl some

pub or_0_is : (labels : Labels) (node at : ℕ) → label_at labels node ≡ Some at → label_or_0 labels node ≡ at
or_0_is labels node at is = ap (λ (o : Option ℕ). unwrap_or o 0) is

-- the node where the following begins
pub back_start : (ends : Ends) (arrive : Arrivals) (labels : Labels) (from nodes to : ℕ) (links : List ℕ) → length labels ≡ nodes → links
    ≡ []
    → (rank labels (label_or_0 labels to) + length links ≤ nodes)
    × (followed ends arrive labels from nodes to ≡ followed ends arrive labels from (nodes - length links) to ++ reverse links)
back_start ends arrive labels from nodes to links count none =
    let few = rank-le-length labels (label_or_0 labels to) in
    let empty : length links ≡ 0 = ap (λ (ls : List ℕ). length ls) none in
    let whole : nodes ≡ nodes - length links = omega arith in (
      omega arith,
      ap (λ (n : ℕ). followed ends arrive labels from n to) whole
          ∙ sym (ap (λ (ls : List ℕ). followed ends arrive labels from (nodes - length links) to ++ reverse ls) none ∙ append-nil
          (followed ends arrive labels from (nodes - length links) to)),
    )

followed_link : (ends : Ends) (arrive : Arrivals) (labels : Labels) (from most node link : ℕ) → (node ≡ from → ⊥) →
    link_before ends arrive labels node ≡ Some link
    → followed ends arrive labels from (suc most) node ≡ followed ends arrive labels from most (start_of ends link) ++ link ∷ []
unfolding followed
followed_link ends arrive labels from most node link apart found =
    let behind : Option ℕ → List ℕ = λ o. option_map_or (λ l. followed ends arrive labels from most (start_of ends l) ++ l ∷ []) o [] in
    ap (λ (b : Bool). cond b [] (behind (link_before ends arrive labels node))) (ne_eqb node from apart) ∙ ap behind found

-- one link back
pub back_more : (ends : Ends) (arrive : Arrivals) (labels : Labels) (from nodes to node link next : ℕ) (links new : List ℕ) →
    IsFifo arrive → (node ≡ from → ⊥) → link_before ends arrive labels node ≡ Some link
    → label_at labels node ≡ Some (label_or_0 labels node) → next ≡ start_of ends link → new ≡ links ++ link ∷ []
    → rank labels (label_or_0 labels node) + length links ≤ nodes
    → followed ends arrive labels from nodes to ≡ followed ends arrive labels from (nodes - length links) node ++ reverse links
    → (label_at labels next ≡ Some (label_or_0 labels next)) × (label_or_0 labels next < label_or_0 labels node) ×
    (rank labels (label_or_0 labels next) + length new ≤ nodes)
    × (followed ends arrive labels from nodes to ≡ followed ends arrive labels from (nodes - length new) next ++ reverse new)
back_more ends arrive labels from nodes to node link next links new fifo apart found is at pushed room way =
    let led = leads_from ends arrive labels node link (link_leads ends arrive labels node link found).1 in
    let left : ℕ = led.1.0 in
    let there : label_at labels next ≡ Some left = ap (λ (n : ℕ). label_at labels n) at ∙ led.1.1 in
    let next_is : label_or_0 labels next ≡ left = or_0_is labels next left there in
    let node_is : label_or_0 labels node ≡ arrive link left = or_0_is labels node (arrive link left) led.1.2 in
    let more = fifo.later link left in
    let less : left < label_or_0 labels node = omega arith in
    let lower = rank_less labels next left (label_or_0 labels node) there less in
    let lower_next : rank labels (label_or_0 labels next) < rank labels (label_or_0 labels node) = let same =
    ap (rank labels) next_is in omega arith in
    let longer : length new ≡ length links + 1 = ap (λ (ls : List ℕ). length ls) pushed ∙ length-append links (link ∷ []) in
    let rest : nodes - length links ≡ suc (nodes - length new) = omega arith in (
      there ∙ ap (λ (n : ℕ). Some n) (sym next_is),
      omega arith,
      omega arith,
      way ∙ ap (λ (n : ℕ). followed ends arrive labels from n node ++ reverse links) rest
          ∙ ap (λ (ls : List ℕ). ls ++ reverse links) (followed_link ends arrive labels from (nodes - length new) node link apart found)
          ∙ append_assoc (followed ends arrive labels from (nodes - length new) (start_of ends link)) (link ∷ []) (reverse links)
          ∙ ap (λ (n : ℕ). followed ends arrive labels from (nodes - length new) n ++ (link ∷ reverse links)) (sym at)
          ∙ ap (λ (ls : List ℕ). followed ends arrive labels from (nodes - length new) next ++ ls)
          (sym (ap reverse pushed ∙ reverse-append links (link ∷ []))),
    )

-- where there is no link before the node, or the node is the start, nothing is left
pub back_none : (ends : Ends) (arrive : Arrivals) (labels : Labels) (from most node : ℕ) → link_before ends arrive labels node ≡ None →
    followed ends arrive labels from most node ≡ []
unfolding followed
back_none ends arrive labels from zero node none = refl
back_none ends arrive labels from (suc most) node none =
    let behind : Option ℕ → List ℕ = λ o. option_map_or (λ l. followed ends arrive labels from most (start_of ends l) ++ l ∷ []) o [] in
    ap (λ (o : Option ℕ). cond (nat_eq node from) [] (behind o)) none ∙ either (nat_eq node from)
  where
    either : (b : Bool) → cond {A = List ℕ} b [] [] ≡ []
    either true = refl
    either false = refl

pub back_here : (ends : Ends) (arrive : Arrivals) (labels : Labels) (from most node : ℕ) → node ≡ from →
    followed ends arrive labels from most node ≡ []
unfolding followed
back_here ends arrive labels from zero node same = refl
back_here ends arrive labels from (suc most) node same =
    let behind : Option ℕ → List ℕ = λ o. option_map_or (λ l. followed ends arrive labels from most (start_of ends l) ++ l ∷ []) o [] in
    ap (λ (b : Bool). cond b [] (behind (link_before ends arrive labels node))) (eq-eqb node from same)
