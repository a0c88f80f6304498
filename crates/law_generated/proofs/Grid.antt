-- The nodes and the links of a grid. Node q * size + r is that of row q and column r.
use Rattle.std.proofs.Common.{◌≡◌, ◌≢◌, ◌⊎◌, ◌<◌, ◌≤◌, ◌+◌, ◌-◌, ◌*◌, ◌/◌, ◌%◌, ℕ, zero, suc, arith, ap, refl, inl, inr, Bool, true, false, List, [], ◌∷◌, ◌++◌}
use Rattle.std.proofs.Common.{length, length-append}
use Rattle.std.proofs.lemmas.{Bool.cases_eq, Bool.Decides.nat_tests, Nat.div-add-mod', Nat.div_below, Nat.mod_below, Nat.mul-le}
use Rattle.std.specs.{List.AllByRecursion as Each, List.flat_map, List.range_with_len, Prelude.nat_eq, Prelude.nat_lt, Prelude.if◌then◌else◌}
use Rattle.workload.specs.Links.{grid_links, link_if, links_from}
use Rattle.law_generated.proofs.Names.{AreApart}

-- the square of a size
pub square_small : (size : ℕ) → size ≤ 100 → size * size ≤ 10000
square_small size few = mul-le size size 100 100 few few

pub square_some : (size : ℕ) → 1 ≤ size → 1 ≤ size * size
square_some size some = mul-le 1 1 size size some some

-- where a node lies
pub column_of : (size node : ℕ) → 1 ≤ size → size ≤ 100 → node % size * 30000 ≤ 3000000
column_of size node some few = omega (arith, mod_below node size some, few)

pub row_of : (size node : ℕ) → 1 ≤ size → size ≤ 100 → node < size * size → node / size * 30000 ≤ 3000000
row_of size node some few less = omega (arith, div_below node size size some less, few)

module _ (size : ℕ) (some : 2 ≤ size) (node : ℕ) (less : node < size * size) where
  positive : 0 < size
  positive = omega (arith, some)

  split : node / size * size + node % size ≡ node
  split = div-add-mod' node size

  -- the nodes beside a node, as far as they are there
  pub right_there : node % size + 1 < size → node + 1 < size * size
  right_there within =
      let row = mul-le (node / size + 1) size size size (omega (arith, div_below node size size positive less)) (omega arith) in
      omega (arith, row, split, within)

  pub down_there : node / size + 1 < size → node + size < size * size
  down_there within =
      let row = mul-le (node / size + 2) size size size (omega (arith, within)) (omega arith) in
      omega (arith, row, split, mod_below node size positive)

  left_there : 0 < node % size → 1 ≤ node
  left_there within = omega (arith, split, within)

  up_there : 0 < node / size → size ≤ node
  up_there within =
      let row = mul-le 1 size (node / size) size within (omega arith) in
      omega (arith, row, split)

  -- a link from the node to one beside it
  pub record IsBeside (link : ℕ × ℕ) : Type 0 where
    pub from : link.0 ≡ node
    pub inside : link.1 < size * size
    pub near : (link.1 ≡ node + 1) ⊎ ((link.1 + 1 ≡ node) ⊎ ((link.1 ≡ node + size) ⊎ (link.1 + size ≡ node)))

  tested : (a b : ℕ) → nat_lt a b ≡ true → a < b
  tested a b h = grind (arith, nat_tests)

  right_beside : nat_lt (node % size + 1) size ≡ true → IsBeside (node, node + 1)
  right_beside there = record { from = refl; inside = right_there (tested (node % size + 1) size there); near = inl refl }

  left_beside : nat_lt 0 (node % size) ≡ true → IsBeside (node, node - 1)
  left_beside there =
      let some_node = left_there (tested 0 (node % size) there) in
      record { from = refl; inside = omega (arith, less); near = inr (inl (omega (arith, some_node))) }

  down_beside : nat_lt (node / size + 1) size ≡ true → IsBeside (node, node + size)
  down_beside there = record { from = refl; inside = down_there (tested (node / size + 1) size there); near = inr (inr (inl refl)) }

  up_beside : nat_lt 0 (node / size) ≡ true → IsBeside (node, node - size)
  up_beside there =
      let above = up_there (tested 0 (node / size) there) in
      record { from = refl; inside = omega (arith, less); near = inr (inr (inr (omega (arith, above)))) }

-- what holds of the elements of two lists, one behind the other
pub each_append : {A : Type 0} (P : A → Type 0) (xs ys : List A) → Each P xs → Each P ys → Each P (xs ++ ys)
each_append P [] ys first second = second
each_append P (x ∷ xs) ys first second = (first.0, each_append P xs ys first.1 second)

pub each_weaker : {A : Type 0} (P Q : A → Type 0) → ((x : A) → P x → Q x) → (xs : List A) → Each P xs → Each Q xs
each_weaker P Q weaker [] all = tt
each_weaker P Q weaker (x ∷ xs) all = (weaker x all.0, each_weaker P Q weaker xs all.1)

-- of a link that is there where a test holds
each_if : (P : ℕ × ℕ → Type 0) (there : Bool) (from to : ℕ) → (there ≡ true → P (from, to)) → Each P (link_if there from to)
each_if P true from to h = (h refl, tt)
each_if P false from to h = tt

pub each_beside : (size : ℕ) (some : 2 ≤ size) (node : ℕ) (less : node < size * size) → Each (IsBeside size some node less) (links_from size node)
unfolding links_from
each_beside size some node less =
    let P : ℕ × ℕ → Type 0 = IsBeside size some node less in
    let right = link_if (nat_lt (node % size + 1) size) node (node + 1) in
    let left = link_if (nat_lt 0 (node % size)) node (node - 1) in
    let down = link_if (nat_lt (node / size + 1) size) node (node + size) in
    let up = link_if (nat_lt 0 (node / size)) node (node - size) in
    each_append P ((right ++ left) ++ down) up
    (each_append P (right ++ left) down
    (each_append P right left
    (each_if P (nat_lt (node % size + 1) size) node (node + 1) (right_beside size some node less))
    (each_if P (nat_lt 0 (node % size)) node (node - 1) (left_beside size some node less)))
    (each_if P (nat_lt (node / size + 1) size) node (node + size) (down_beside size some node less)))
    (each_if P (nat_lt 0 (node / size)) node (node - size) (up_beside size some node less))

-- both ends of a link are nodes
pub record IsLink (size : ℕ) (link : ℕ × ℕ) : Type 0 where
  pub from : link.0 < size * size
  pub to : link.1 < size * size

each_of_range : {A : Type 0} (P : A → Type 0) (f : ℕ → List A) (limit : ℕ) → ((k : ℕ) → k < limit → Each P (f k)) → (a n : ℕ) → a + n ≤ limit
    → Each P (flat_map f (range_with_len a n))
each_of_range P f limit each a zero within = tt
each_of_range P f limit each a (suc n) within =
    each_append P (f a) (flat_map f (range_with_len (a + 1) n)) (each a (omega (arith, within))) (each_of_range P f limit each (a + 1) n (omega (arith, within)))

pub each_link : (size : ℕ) → 2 ≤ size → Each (IsLink size) (grid_links size)
unfolding grid_links
each_link size some =
    each_of_range (IsLink size) (links_from size) (size * size)
    (λ node less. each_weaker (IsBeside size some node less) (IsLink size)
    (λ link is. record { from = omega (arith, is.from, less); to = is.inside }) (links_from size node) (each_beside size some node less))
    0 (size * size) (omega arith)

-- no link stands twice
apart_append : {A : Type 0} (xs ys : List A) → AreApart xs → AreApart ys → Each (λ x. Each (λ y. x ≡ y → ⊥) ys) xs → AreApart (xs ++ ys)
apart_append [] ys first second between = second
apart_append (x ∷ xs) ys first second between =
    (each_append (λ y. x ≡ y → ⊥) xs ys first.0 between.0, apart_append xs ys first.1 second between.1)

-- two links that lead to different nodes, as far as both are there
apart_if : (there other : Bool) (from a b : ℕ) → (there ≡ true → other ≡ true → a ≢ b) → Each (λ x. Each (λ y. x ≡ y → ⊥) (link_if other from b)) (link_if there from a)
apart_if true true from a b apart = (((λ (e : ◌≡◌ {A = ℕ × ℕ} (from, a) (from, b)). apart refl refl (ap (λ (l : ℕ × ℕ). l.1) e)), tt), tt)
apart_if true false from a b apart = (tt, tt)
apart_if false other from a b apart = tt

alone_if : (there : Bool) (from to : ℕ) → AreApart (link_if there from to)
alone_if true from to = (tt, tt)
alone_if false from to = tt

each_pair_before : {A : Type 0} (ws xs ys : List A) → Each (λ x. Each (λ y. x ≡ y → ⊥) ys) ws → Each (λ x. Each (λ y. x ≡ y → ⊥) ys) xs
    → Each (λ x. Each (λ y. x ≡ y → ⊥) ys) (ws ++ xs)
each_pair_before ws xs ys first second = each_append (λ x. Each (λ y. x ≡ y → ⊥) ys) ws xs first second

module _ (size : ℕ) (some : 2 ≤ size) (node : ℕ) (less : node < size * size) where
  abbrev is_right : Bool
  is_right = nat_lt (node % size + 1) size

  abbrev is_left : Bool
  is_left = nat_lt 0 (node % size)

  abbrev is_down : Bool
  is_down = nat_lt (node / size + 1) size

  abbrev is_up : Bool
  is_up = nat_lt 0 (node / size)

  -- the links from a node lead to different nodes
  node_apart : AreApart (links_from size node)
  unfolding links_from
  node_apart =
      let right = link_if (nat_lt (node % size + 1) size) node (node + 1) in
      let left = link_if (nat_lt 0 (node % size)) node (node - 1) in
      let down = link_if (nat_lt (node / size + 1) size) node (node + size) in
      let up = link_if (nat_lt 0 (node / size)) node (node - size) in
      apart_append ((right ++ left) ++ down) up
      (apart_append (right ++ left) down
      (apart_append right left (alone_if is_right node (node + 1)) (alone_if is_left node (node - 1))
      (apart_if is_right is_left node (node + 1) (node - 1) (λ _ _ e. omega (arith, e))))
      (alone_if is_down node (node + size))
      (each_pair_before right left down
      (apart_if is_right is_down node (node + 1) (node + size) (λ _ _ e. omega (arith, e, some)))
      (apart_if is_left is_down node (node - 1) (node + size) (λ _ _ e. omega (arith, e, some)))))
      (alone_if is_up node (node - size))
      (each_pair_before (right ++ left) down up
      (each_pair_before right left up
      (apart_if is_right is_up node (node + 1) (node - size) (λ _ _ e. omega (arith, e)))
      (apart_if is_left is_up node (node - 1) (node - size)
      (λ there above e. omega (arith, e, some, left_there size some node less (tested_lt 0 (node % size) there), up_there size some node less (tested_lt 0 (node / size) above)))))
      (apart_if is_down is_up node (node + size) (node - size) (λ _ _ e. omega (arith, e, some))))
    where
      tested_lt : (a b : ℕ) → nat_lt a b ≡ true → a < b
      tested_lt a b h = grind (arith, nat_tests)

-- links from different nodes are apart
from_apart : (size : ℕ) (some : 2 ≤ size) (a b : ℕ) → a < b → (xs ys : List (ℕ × ℕ)) → Each (λ (l : ℕ × ℕ). l.0 ≡ a) xs → Each (λ (l : ℕ × ℕ). b ≤ l.0) ys
    → Each (λ x. Each (λ y. x ≡ y → ⊥) ys) xs
from_apart size some a b less [] ys first second = tt
from_apart size some a b less (x ∷ xs) ys first second = (by x ys first.0 second, from_apart size some a b less xs ys first.1 second)
  where
    by : (x : ℕ × ℕ) (ys : List (ℕ × ℕ)) → x.0 ≡ a → Each (λ (l : ℕ × ℕ). b ≤ l.0) ys → Each (λ y. x ≡ y → ⊥) ys
    by x [] is more = tt
    by x (y ∷ ys) is more = ((λ e. omega (arith, is, more.0, less, ap (λ (l : ℕ × ℕ). l.0) e)), by x ys is more.1)

from_least : (size : ℕ) (some : 2 ≤ size) (a n b : ℕ) → b ≤ a → a + n ≤ size * size → Each (λ (l : ℕ × ℕ). b ≤ l.0) (flat_map (links_from size) (range_with_len a n))
from_least size some a zero b least within = tt
from_least size some a (suc n) b least within =
    each_append (λ (l : ℕ × ℕ). b ≤ l.0) (links_from size a) (flat_map (links_from size) (range_with_len (a + 1) n))
    (each_weaker (IsBeside size some a (omega (arith, within))) (λ (l : ℕ × ℕ). b ≤ l.0) (λ link is. omega (arith, is.from, least))
    (links_from size a) (each_beside size some a (omega (arith, within))))
    (from_least size some (a + 1) n b (omega (arith, least)) (omega (arith, within)))

range_links_apart : (size : ℕ) (some : 2 ≤ size) (a n : ℕ) → a + n ≤ size * size → AreApart (flat_map (links_from size) (range_with_len a n))
range_links_apart size some a zero within = tt
range_links_apart size some a (suc n) within =
    apart_append (links_from size a) (flat_map (links_from size) (range_with_len (a + 1) n)) (node_apart size some a (omega (arith, within)))
    (range_links_apart size some (a + 1) n (omega (arith, within)))
    (from_apart size some a (a + 1) (omega arith) (links_from size a) (flat_map (links_from size) (range_with_len (a + 1) n))
    (each_weaker (IsBeside size some a (omega (arith, within))) (λ (l : ℕ × ℕ). l.0 ≡ a) (λ link is. is.from) (links_from size a)
    (each_beside size some a (omega (arith, within))))
    (from_least size some (a + 1) n (a + 1) (omega arith) (omega (arith, within))))

pub links_apart : (size : ℕ) → 2 ≤ size → AreApart (grid_links size)
unfolding grid_links
links_apart size some = range_links_apart size some 0 (size * size) (omega arith)

-- how many links there are
length_if : (there : Bool) (from to : ℕ) → length (link_if there from to) ≤ 1
length_if true from to = omega arith
length_if false from to = omega arith

few_from : (size node : ℕ) → length (links_from size node) ≤ 4
unfolding links_from
few_from size node =
    let right = link_if (nat_lt (node % size + 1) size) node (node + 1) in
    let left = link_if (nat_lt 0 (node % size)) node (node - 1) in
    let down = link_if (nat_lt (node / size + 1) size) node (node + size) in
    let up = link_if (nat_lt 0 (node / size)) node (node - size) in
    omega (
      arith,
      length-append ((right ++ left) ++ down) up,
      length-append (right ++ left) down,
      length-append right left,
      length_if (nat_lt (node % size + 1) size) node (node + 1),
      length_if (nat_lt 0 (node % size)) node (node - 1),
      length_if (nat_lt (node / size + 1) size) node (node + size),
      length_if (nat_lt 0 (node / size)) node (node - size),
    )

few_from_range : (size a n : ℕ) → length (flat_map (links_from size) (range_with_len a n)) ≤ 4 * n
few_from_range size a zero = omega arith
few_from_range size a (suc n) =
    omega (arith, length-append (links_from size a) (flat_map (links_from size) (range_with_len (a + 1) n)), few_from size a, few_from_range size (a + 1) n)

pub few_links : (size : ℕ) → length (grid_links size) ≤ 4 * (size * size)
unfolding grid_links
few_links size = few_from_range size 0 (size * size)

-- how many of them lead to a node
abbrev pub count_to : ℕ → List (ℕ × ℕ) → ℕ
count_to to [] = 0
count_to to (link ∷ links) = (if nat_eq link.1 to then 1 else 0) + count_to to links

count_append : (to : ℕ) (xs ys : List (ℕ × ℕ)) → count_to to (xs ++ ys) ≡ count_to to xs + count_to to ys
count_append to [] ys = omega arith
count_append to (x ∷ xs) ys = omega (arith, count_append to xs ys)

-- a number is this one
abbrev one_if : ℕ → ℕ → ℕ
one_if a b = if nat_eq a b then 1 else 0

abbrev hits : ℕ → ℕ → ℕ → ℕ
hits source a zero = 0
hits source a (suc n) = one_if a source + hits source (a + 1) n

one_most : (a b : ℕ) → one_if a b ≤ 1
one_most a b = grind (arith, nat_tests)

one_not : (a b : ℕ) → b < a → one_if a b ≡ 0
one_not a b less = grind (arith, nat_tests)

no_hits : (source a n : ℕ) → source < a → hits source a n ≡ 0
no_hits source a zero less = refl
no_hits source a (suc n) less = omega (arith, one_not a source less, no_hits source (a + 1) n (omega (arith, less)))

one_hit : (source a n : ℕ) → hits source a n ≤ 1
one_hit source a zero = omega arith
one_hit source a (suc n) = elim (cases_eq a source) [
  | inl here ↦ omega (arith, one_most a source, no_hits source (a + 1) n (omega (arith, here)))
  | inr other ↦ omega (arith, not_here a source other, one_hit source (a + 1) n)
]
  where
    not_here : (a b : ℕ) → (a ≡ b → ⊥) → one_if a b ≡ 0
    not_here a b other = grind (arith, nat_tests)

count_if : (there : Bool) (from to target source : ℕ) → (there ≡ true → to ≡ target → from ≡ source) → count_to target (link_if there from to) ≤ one_if from source
count_if false from to target source only = omega arith
count_if true from to target source only = elim (cases_eq to target) [
  | inl here ↦ omega (arith, is_one from source (only refl here), one_most to target)
  | inr other ↦ omega (arith, not_one to target other)
]
  where
    is_one : (a b : ℕ) → a ≡ b → one_if a b ≡ 1
    is_one a b same = grind (arith, nat_tests)

    not_one : (a b : ℕ) → (a ≡ b → ⊥) → one_if a b ≡ 0
    not_one a b other = grind (arith, nat_tests)

count_from : (size : ℕ) (some : 2 ≤ size) (node to : ℕ) → node < size * size
    → count_to to (links_from size node) ≤ one_if node (to - 1) + one_if node (to + 1) + one_if node (to - size) + one_if node (to + size)
unfolding links_from
count_from size some node to less =
    let right = link_if (nat_lt (node % size + 1) size) node (node + 1) in
    let left = link_if (nat_lt 0 (node % size)) node (node - 1) in
    let down = link_if (nat_lt (node / size + 1) size) node (node + size) in
    let up = link_if (nat_lt 0 (node / size)) node (node - size) in
    omega (
      arith,
      count_append to ((right ++ left) ++ down) up,
      count_append to (right ++ left) down,
      count_append to right left,
      count_if (nat_lt (node % size + 1) size) node (node + 1) to (to - 1) (λ _ e. omega (arith, e)),
      count_if (nat_lt 0 (node % size)) node (node - 1) to (to + 1) (λ there e. omega (arith, e, left_there size some node less (tested_lt 0 (node % size) there))),
      count_if (nat_lt (node / size + 1) size) node (node + size) to (to - size) (λ _ e. omega (arith, e)),
      count_if (nat_lt 0 (node / size)) node (node - size) to (to + size) (λ there e. omega (arith, e, up_there size some node less (tested_lt 0 (node / size) there))),
    )
  where
    tested_lt : (a b : ℕ) → nat_lt a b ≡ true → a < b
    tested_lt a b h = grind (arith, nat_tests)

count_range : (size : ℕ) (some : 2 ≤ size) (to a n : ℕ) → a + n ≤ size * size
    → count_to to (flat_map (links_from size) (range_with_len a n)) ≤ hits (to - 1) a n + hits (to + 1) a n + hits (to - size) a n + hits (to + size) a n
count_range size some to a zero within = omega arith
count_range size some to a (suc n) within =
    omega (
      arith,
      count_append to (links_from size a) (flat_map (links_from size) (range_with_len (a + 1) n)),
      count_from size some a to (omega (arith, within)),
      count_range size some to (a + 1) n (omega (arith, within)),
    )

-- at most four links lead to a node
pub four_to : (size to : ℕ) → 2 ≤ size → count_to to (grid_links size) ≤ 4
unfolding grid_links
four_to size to some =
    omega (
      arith,
      count_range size some to 0 (size * size) (omega arith),
      one_hit (to - 1) 0 (size * size),
      one_hit (to + 1) 0 (size * size),
      one_hit (to - size) 0 (size * size),
      one_hit (to + size) 0 (size * size),
    )
