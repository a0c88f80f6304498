-- links.csv of a grid.
use Rattle.records.proofs.Common.{◌≡◌, List, ap, ℕ, length, ◌∙◌, arith, [], ◌<◌, None, Some, ◌++◌, ◌∷◌, refl, true, Bool, ◌+◌, false, ◌≤◌, ◌^◌, ◌&&◌, ◌||◌, not}
use Rattle.records.proofs.Common.{map, sym, take, subst, nat_tests, flat_map, Row, column, field, length-map, is_some, is_none, nat_le, nat_eq, is_name}
use Rattle.records.proofs.Common.{number_of, Option, body_fault, is_held, suc, zero}
use Rattle.records.specs.{Fields.are_fields, Fields.is_header, Files.head_reason, Numbers.are_digits, Numbers.number_in}
use Rattle.std.proofs.Common.{◌*◌, ◌/◌, ◌%◌, ◌-◌, ap₂}
use Rattle.std.proofs.lemmas.{List.take-map, List.Folds.flat_map-map, List.Sums.sum_by-cons, Nat.mod-mul-add, Nat.mul-le}
use Rattle.std.specs.{Fmt.digits, List.AllByRecursion as Each, Prelude.bytes_eq, Prelude.codes, Prelude.get_or, Prelude.if◌then◌else◌, Prelude.nat_lt}
use Rattle.edge_files.specs.declared.reasons.Reason.TheVariants as reason
use Rattle.events.specs.Names.{are_distinct}
use Rattle.limits.specs.declared.TheConstants.{MAX_CAPACITY, MAX_IN_LINKS, MAX_LENGTH, MAX_LINKS, MAX_SPEED}
use Rattle.network.specs.Links.{capacity_in, has_bad_measure, lacks_name, lacks_node, lanes_in, length_in, link_header, link_of, link_reason, links_fault}
use Rattle.network.specs.Links.{measures_of, speed_in}
use Rattle.plan_text.{proofs.Decimals.number_back, specs.Lines.row_line}
use Rattle.rows.specs.{Networks.in_links, declared.network.LinkRow.LinkRow}
use Rattle.workload.specs.{Links.grid_links, Links.link_if, Links.links_from, Rows.link_name, Rows.link_row, Rows.node_name, Texts.links_text}
use Rattle.workload.specs.declared.TheConstants.{FREE_SPEED, LINK_CAPACITY, NODE_DISTANCE}
use Rattle.law_generated.proofs.Fields.{lettered, lettered_twice, link_name_is, link_of_name, name_plain, name_short}
use Rattle.law_generated.proofs.{Grid.IsLink, Grid.count_to, Grid.each_link, Grid.few_links, Grid.four_to, Grid.links_apart, Grid.square_small, Lines.is_plain}
use Rattle.law_generated.proofs.{Lines.is_row, Lines.is_short, Lines.is_short_row, Names.held_among, Names.names_distinct, Names.same, Nodes.node_number}
use Rattle.law_generated.proofs.{Nodes.numbers, Rules.column_is, Rules.each_at, Rules.each_first, Rules.no_more, Rules.not_twice, Rules.row_at, Rules.too_few}
use Rattle.law_generated.proofs.Tables.{IsFile, head_passes, lines_are_file, no_body_fault, no_reason, rows_pass}

pub header_named : is_header link_header link_header ≡ true
unfolding are_fields
header_named = refl

-- a link of a grid
abbrev pub grid_link : ℕ × ℕ → LinkRow
grid_link link = record { from = link.0; to = link.1; length = NODE_DISTANCE; speed = FREE_SPEED; capacity = LINK_CAPACITY; lanes = 1 }

-- the link along the first row from a node to the one on its right is there
held_if : (r : Bool) (k : ℕ) (left down up : List (ℕ × ℕ)) → r ≡ true
    → is_held (link_name (k, k + 1)) (map link_name (((link_if r k (k + 1) ++ left) ++ down) ++ up)) ≡ true
held_if false k left down up h = absurd (cc h)
held_if true k left down up h = or_true (bytes_eq (link_name (k, k + 1)) (link_name (k, k + 1))) (is_held (link_name (k, k + 1)) (map link_name ((left ++ down) ++ up))) (same (link_name (k, k + 1)))
  where
    or_true : (a b : Bool) → a ≡ true → (a || b) ≡ true
    or_true a b p = grind arith

first_column : (size k : ℕ) → k < size → k % size ≡ k
first_column size k less =
    let whole : 0 * size + k ≡ k = omega arith in
    ap (λ (n : ℕ). n % size) (sym whole) ∙ mod-mul-add 0 size k less

held_from : (size k : ℕ) → k + 1 < size → is_held (link_name (k, k + 1)) (map link_name (links_from size k)) ≡ true
unfolding links_from
held_from size k less =
    held_if (nat_lt (k % size + 1) size) k (link_if (nat_lt 0 (k % size)) k (k - 1)) (link_if (nat_lt (k / size + 1) size) k (k + size))
    (link_if (nat_lt 0 (k / size)) k (k - size))
    (below (k % size + 1) size (omega (arith, first_column size k (omega (arith, less)), less)))
  where
    below : (a b : ℕ) → a < b → nat_lt a b ≡ true
    below a b h = grind (arith, nat_tests)

pub held_right : (size k : ℕ) → k + 1 < size → is_held (link_name (k, k + 1)) (map link_name (grid_links size)) ≡ true
unfolding grid_links
held_right size k less =
    let room = mul-le 1 size size size (omega (arith, less)) (omega arith) in
    held_among link_name (links_from size) (link_name (k, k + 1)) k 0 (size * size) (omega arith) (omega (arith, room, less)) (held_from size k less)

some_names : (x : List ℕ) (names : List (List ℕ)) → is_held x names ≡ true → 1 ≤ length names
some_names x [] h = absurd (cc h)
some_names x (y ∷ ys) h = omega arith

pub some_links : (size : ℕ) → 3 ≤ size → 1 ≤ length (grid_links size)
some_links size some =
    omega (arith, length-map (grid_links size) link_name, some_names (link_name (0, 0 + 1)) (map link_name (grid_links size)) (held_right size 0 (omega (arith, some))))

three_hold : (a b c : Bool) → a ≡ true → b ≡ true → c ≡ true → (a && (b && (c && true))) ≡ true
three_hold a b c p q r = grind arith

module _ (size : ℕ) (some : 3 ≤ size) (few : size ≤ 100) where
  each : Each (IsLink size) (grid_links size)
  each = each_link size (omega (arith, some))

  small : (node : ℕ) → node < size * size → node < 2 ^ 32
  small node less = omega (arith, less, square_small size few)

  pub link_named : (link : ℕ × ℕ) → IsLink size link → is_name (link_name link) ≡ true
  link_named link is =
      ap is_name (link_name_is link) ∙ lettered_twice 108 link.0 link.1 refl (small link.0 is.from) (small link.1 is.to)

  node_named : (node : ℕ) → node < size * size → is_name (node_name node) ≡ true
  node_named node less = lettered 110 node refl (small node less)

  row_plain : (link : ℕ × ℕ) → IsLink size link → is_row (link_row link) ≡ true
  unfolding digits
  row_plain link is =
      three_hold (is_plain (link_name link)) (is_plain (node_name link.0)) (is_plain (node_name link.1))
      (name_plain (link_name link) (link_named link is)) (name_plain (node_name link.0) (node_named link.0 is.from))
      (name_plain (node_name link.1) (node_named link.1 is.to))

  row_short : (link : ℕ × ℕ) → IsLink size link → is_short_row (link_row link) ≡ true
  unfolding digits
  row_short link is =
      three_hold (is_short (link_name link)) (is_short (node_name link.0)) (is_short (node_name link.1))
      (name_short (link_name link) (link_named link is)) (name_short (node_name link.0) (node_named link.0 is.from))
      (name_short (node_name link.1) (node_named link.1 is.to))

  count_is : length (map link_row (grid_links size)) ≡ length (grid_links size)
  count_is = length-map (grid_links size) link_row

  pub at_most : length (grid_links size) ≤ 40000
  at_most = omega (arith, few_links size, square_small size few)

  text_is : links_text size ≡ flat_map row_line (link_header ∷ map link_row (grid_links size))
  unfolding links_text row_line
  text_is = ap (λ (t : List ℕ). codes "link,from,to,length,speed,capacity,lanes\n" ++ t) (sym (flat_map-map row_line link_row (grid_links size)))

  -- links.csv is read as its rows
  pub links_file : IsFile link_header (map link_row (grid_links size)) (links_text size)
  links_file =
      subst (IsFile link_header (map link_row (grid_links size))) (sym text_is)
      (lines_are_file 108 (codes "ink") (codes "from") (codes "to" ∷ codes "length" ∷ codes "speed" ∷ codes "capacity" ∷ codes "lanes" ∷ [])
      (map link_row (grid_links size)) refl
      (rows_pass is_row link_row (IsLink size) row_plain (grid_links size) each)
      (rows_pass is_short_row link_row (IsLink size) row_short (grid_links size) each)
      (omega (arith, count_is, at_most)))

  -- the names of the links
  pub names_are : column 0 (map link_row (grid_links size)) ≡ map link_name (grid_links size)
  names_are = column_is link_row link_name 0 (λ x. refl) (grid_links size)

  pub tells : (x y : ℕ × ℕ) → IsLink size x → IsLink size y → link_name x ≡ link_name y → x ≡ y
  tells x y p q same =
      let parts = link_of_name x.0 x.1 y.0 y.1 (small x.0 p.from) (small x.1 p.to) (small y.0 q.from) (small y.1 q.to) same in
      ap₂ (λ (a b : ℕ). (a, b)) parts.0 parts.1

  pub links_distinct : are_distinct (map link_name (grid_links size)) ≡ true
  links_distinct = names_distinct link_name (IsLink size) tells (grid_links size) each (links_apart size (omega (arith, some)))

  node_found : (node : ℕ) → node < size * size → number_of (node_name node) (map node_name (numbers size)) ≡ Some node
  node_found node less = node_number size (omega (arith, some)) few node less

  measured : (length_in (link_row (0, 0)) ≡ Some NODE_DISTANCE) × (speed_in (link_row (0, 0)) ≡ Some FREE_SPEED)
      × (capacity_in (link_row (0, 0)) ≡ Some LINK_CAPACITY) × (lanes_in (link_row (0, 0)) ≡ Some 1)
  unfolding number_in are_digits
  measured = (
    number_back 1 MAX_LENGTH NODE_DISTANCE (omega arith) (omega arith) (omega arith),
    number_back 1 MAX_SPEED FREE_SPEED (omega arith) (omega arith) (omega arith),
    number_back 1 MAX_CAPACITY LINK_CAPACITY (omega arith) (omega arith) (omega arith),
    refl,
  )

  good_measure : (link : ℕ × ℕ) → has_bad_measure (link_row link) ≡ false
  unfolding has_bad_measure
  good_measure link = all_some (length_in (link_row link)) (speed_in (link_row link)) (capacity_in (link_row link)) (lanes_in (link_row link))
      NODE_DISTANCE FREE_SPEED LINK_CAPACITY 1 measured.0 measured.1 measured.2 measured.3
    where
      all_some : (a b c d : Option ℕ) (k l m n : ℕ) → a ≡ Some k → b ≡ Some l → c ≡ Some m → d ≡ Some n
          → (is_none a || is_none b || is_none c || is_none d) ≡ false
      all_some a b c d k l m n p q r s = rw (p, q, r, s) refl

  -- a row gives its link
  pub row_link : (link : ℕ × ℕ) → IsLink size link → link_of (map node_name (numbers size)) (link_row link) ≡ grid_link link
  unfolding link_of measures_of
  row_link link is =
      rw (node_found link.0 is.from, node_found link.1 is.to, measured.0, measured.1, measured.2, measured.3) refl

  -- the links of the rows before a place that lead to a node
  counts_are : (to : ℕ) (xs : List (ℕ × ℕ)) → Each (IsLink size) xs
      → in_links (map (link_of (map node_name (numbers size))) (map link_row xs)) to ≡ count_to to xs
  unfolding in_links
  counts_are to [] h = refl
  counts_are to (x ∷ xs) h =
      sum_by-cons (λ (l : LinkRow). if nat_eq l.to to then 1 else 0) (link_of (map node_name (numbers size)) (link_row x))
      (map (link_of (map node_name (numbers size))) (map link_row xs))
      ∙ ap (λ (l : LinkRow). (if nat_eq l.to to then 1 else 0) + in_links (map (link_of (map node_name (numbers size))) (map link_row xs)) to) (row_link x h.0)
      ∙ ap (λ (n : ℕ). (if nat_eq x.1 to then 1 else 0) + n) (counts_are to xs h.1)

  fewer : (to place : ℕ) (xs : List (ℕ × ℕ)) → count_to to (take place xs) ≤ count_to to xs
  fewer to zero xs = omega arith
  fewer to (suc place) [] = omega arith
  fewer to (suc place) (x ∷ xs) = omega (arith, fewer to place xs)

  few_in : (place to : ℕ) → nat_le MAX_IN_LINKS (in_links (map (link_of (map node_name (numbers size))) (take place (map link_row (grid_links size)))) to) ≡ false
  few_in place to =
      let before : take place (map link_row (grid_links size)) ≡ map link_row (take place (grid_links size)) = take-map link_row place (grid_links size) in
      let count = counts_are to (take place (grid_links size)) (each_first (IsLink size) (grid_links size) place each) in
      subst (λ (l : List Row). nat_le MAX_IN_LINKS (in_links (map (link_of (map node_name (numbers size))) l) to) ≡ false) (sym before)
      (too_few MAX_IN_LINKS (in_links (map (link_of (map node_name (numbers size))) (map link_row (take place (grid_links size)))) to)
      (omega (arith, count, fewer to place (grid_links size), four_to size to (omega (arith, some)))))

  named_all : (a b c : Bool) → a ≡ true → b ≡ true → c ≡ true → not (a && b && c) ≡ false
  named_all a b c p q r = grind arith

  neither : (a b : Bool) → a ≡ false → b ≡ false → (a || b) ≡ false
  neither a b p q = grind arith

  row_passes : (place : ℕ) (link : ℕ × ℕ) → place < length (grid_links size) → get_or (grid_links size) place (0, 0) ≡ link → IsLink size link
      → link_reason (map node_name (numbers size)) (column 0 (take place (map link_row (grid_links size))))
      (map (link_of (map node_name (numbers size))) (take place (map link_row (grid_links size)))) (link_row link) ≡ None
  unfolding link_reason
  row_passes place link less here is =
      let row : Row = link_row link in
      let known : List (List ℕ) = map node_name (numbers size) in
      let names : List (List ℕ) = column 0 (take place (map link_row (grid_links size))) in
      let links : List LinkRow = map (link_of known) (take place (map link_row (grid_links size))) in
      let fresh : is_some (number_of (link_name link) names) ≡ false =
      subst (λ (l : ℕ × ℕ). is_some (number_of (link_name l) names) ≡ false) here
      (not_twice link_row link_name 0 (λ x. refl) (grid_links size) (0, 0) place less links_distinct) in
      no_reason (
      (not (nat_eq (length row) 7), reason.FieldCount)
      ∷ (lacks_name row, reason.BadName)
      ∷ (has_bad_measure row, reason.BadNumber)
      ∷ (is_some (number_of (field row 0) names), reason.Twice)
      ∷ (lacks_node known row, reason.Unknown)
      ∷ (nat_le MAX_LINKS (length names), reason.TooMany)
      ∷ (nat_le MAX_IN_LINKS (in_links links (link_of known row).to), reason.InLinks)
      ∷ []) (
        refl,
        (
          named_all (is_name (link_name link)) (is_name (node_name link.0)) (is_name (node_name link.1)) (link_named link is)
              (node_named link.0 is.from) (node_named link.1 is.to),
          (
            good_measure link,
            (
              fresh,
              (
                neither (is_none (number_of (node_name link.0) known)) (is_none (number_of (node_name link.1) known))
                    (ap (λ (o : Option ℕ). is_none o) (node_found link.0 is.from)) (ap (λ (o : Option ℕ). is_none o) (node_found link.1 is.to)),
                (no_more link_row link_name 0 (λ x. refl) (grid_links size) (0, 0) place less MAX_LINKS (omega (arith, at_most)), (few_in place (link_of known row).to, tt)),
              ),
            ),
          ),
        ),
      )

  -- links.csv has no fault
  pub links_pass : links_fault (map node_name (numbers size)) (links_text size) ≡ None
  links_pass =
      let is = links_file in
      let known : List (List ℕ) = map node_name (numbers size) in
      ap (λ (rows : List Row). body_fault (head_reason link_header (links_text size)) 0 (link_of known) (link_reason known) rows) is.body
      ∙ no_body_fault (head_reason link_header (links_text size)) 0 (link_of known) (link_reason known) (map link_row (grid_links size))
      (head_passes link_header (map link_row (grid_links size)) (links_text size) is header_named (omega (arith, count_is, some_links size some)))
      (λ i less. by_row i (omega (arith, less, count_is)))
    where
      by_row : (i : ℕ) → i < length (grid_links size)
          → link_reason (map node_name (numbers size)) (column 0 (take i (map link_row (grid_links size))))
          (map (link_of (map node_name (numbers size))) (take i (map link_row (grid_links size)))) (get_or (map link_row (grid_links size)) i []) ≡ None
      by_row i less =
          ap (link_reason (map node_name (numbers size)) (column 0 (take i (map link_row (grid_links size))))
          (map (link_of (map node_name (numbers size))) (take i (map link_row (grid_links size))))) (row_at link_row link_name 0 (λ x. refl) (grid_links size) (0, 0) i less)
          ∙ row_passes i (get_or (grid_links size) i (0, 0)) less refl (each_at (IsLink size) (grid_links size) i (0, 0) each less)
