-- nodes.csv of a grid.
use Rattle.records.proofs.Common.{◌≡◌, List, ap, ℕ, length, ◌∙◌, arith, [], ◌<◌, None, Some, ◌++◌, ◌∷◌, refl, true, Bool, ◌+◌, false, ◌≤◌, ◌^◌, ◌&&◌, ◌||◌, not}
use Rattle.records.proofs.Common.{map, sym, take, subst, flat_map, Row, column, field, length-map, is_some, is_none, nat_le, nat_eq, is_name, number_of}
use Rattle.records.proofs.Common.{decimal, holds_name, body_fault}
use Rattle.records.specs.{Fields.are_fields, Fields.is_header, Files.head_reason}
use Rattle.std.proofs.Common.{◌*◌, ◌/◌, ◌%◌}
use Rattle.std.proofs.lemmas.List.{Folds.flat_map-map, FromFn.get_or-range_with_len, FromFn.length-range_with_len}
use Rattle.std.specs.{List.AllByRecursion as Each, List.range_with_len, Prelude.ℤ, Prelude.codes, Prelude.get_or, Prelude.pos}
use Rattle.edge_files.specs.declared.reasons.Reason.TheVariants as reason
use Rattle.events.specs.Names.{are_distinct}
use Rattle.limits.specs.declared.TheConstants.{MAX_COORDINATE, MAX_NODES}
use Rattle.network.specs.Nodes.{coordinate, has_bad_coordinate, node_header, node_of, node_reason, nodes_fault}
use Rattle.plan_text.specs.Lines.{row_line}
use Rattle.workload.specs.{Grids.IsGrid, Rows.node_name, Rows.node_row, Texts.nodes_text, declared.TheConstants.NODE_DISTANCE}
use Rattle.law_generated.proofs.Fields.{lettered, name_plain, name_short, number_of_name, number_plain, number_short, signed_back}
use Rattle.law_generated.proofs.{Grid.column_of, Grid.row_of, Grid.square_small, Grid.square_some, Lines.is_plain, Lines.is_row, Lines.is_short}
use Rattle.law_generated.proofs.{Lines.is_short_row, Names.names_distinct, Names.number_at, Names.range_apart, Names.range_below}
use Rattle.law_generated.proofs.Rules.{column_is, each_at, no_more, not_twice, row_at}
use Rattle.law_generated.proofs.Tables.{IsFile, head_passes, lines_are_file, no_body_fault, no_reason, rows_pass}

-- the numbers of the nodes
abbrev pub numbers : ℕ → List ℕ
numbers size = range_with_len 0 (size * size)

-- a number of a node
abbrev pub IsNode : ℕ → ℕ → Type 0
IsNode size node = node < size * size

pub numbers_below : (size : ℕ) → Each (IsNode size) (numbers size)
numbers_below size = range_below 0 (size * size) (size * size) (omega arith)

node_named : (node : ℕ) → node < 2 ^ 32 → is_name (node_name node) ≡ true
node_named node less = lettered 110 node refl less

pub header_named : is_header node_header node_header ≡ true
unfolding are_fields
header_named = refl

three_hold : (a b c : Bool) → a ≡ true → b ≡ true → c ≡ true → (a && (b && (c && true))) ≡ true
three_hold a b c p q r = grind arith

module _ (size : ℕ) (some : 1 ≤ size) (few : size ≤ 100) where
  small : (node : ℕ) → IsNode size node → node < 2 ^ 32
  small node less = omega (arith, less, square_small size few)

  row_plain : (node : ℕ) → IsNode size node → is_row (node_row size node) ≡ true
  row_plain node less =
      three_hold (is_plain (node_name node)) (is_plain (decimal (node % size * NODE_DISTANCE))) (is_plain (decimal (node / size * NODE_DISTANCE)))
      (name_plain (node_name node) (node_named node (small node less)))
      (number_plain (node % size * NODE_DISTANCE) (omega (arith, column_of size node some few)))
      (number_plain (node / size * NODE_DISTANCE) (omega (arith, row_of size node some few less)))

  row_short : (node : ℕ) → IsNode size node → is_short_row (node_row size node) ≡ true
  row_short node less =
      three_hold (is_short (node_name node)) (is_short (decimal (node % size * NODE_DISTANCE))) (is_short (decimal (node / size * NODE_DISTANCE)))
      (name_short (node_name node) (node_named node (small node less)))
      (number_short (node % size * NODE_DISTANCE) (omega (arith, column_of size node some few)))
      (number_short (node / size * NODE_DISTANCE) (omega (arith, row_of size node some few less)))

  count_is : length (map (node_row size) (numbers size)) ≡ size * size
  count_is = length-map (numbers size) (node_row size) ∙ length-range_with_len 0 (size * size)

  text_is : nodes_text size ≡ flat_map row_line (node_header ∷ map (node_row size) (numbers size))
  unfolding nodes_text row_line
  text_is = ap (λ (t : List ℕ). codes "node,x,y\n" ++ t) (sym (flat_map-map row_line (node_row size) (numbers size)))

  -- nodes.csv is read as its rows
  pub nodes_file : IsFile node_header (map (node_row size) (numbers size)) (nodes_text size)
  nodes_file =
      subst (IsFile node_header (map (node_row size) (numbers size))) (sym text_is)
      (lines_are_file 110 (codes "ode") (codes "x") (codes "y" ∷ []) (map (node_row size) (numbers size)) refl
      (rows_pass is_row (node_row size) (IsNode size) row_plain (numbers size) (numbers_below size))
      (rows_pass is_short_row (node_row size) (IsNode size) row_short (numbers size) (numbers_below size))
      (omega (arith, count_is, square_small size few)))

  -- the names of the nodes
  pub names_are : column 0 (map (node_row size) (numbers size)) ≡ map node_name (numbers size)
  names_are = column_is (node_row size) node_name 0 (λ x. refl) (numbers size)

  pub nodes_distinct : are_distinct (map node_name (numbers size)) ≡ true
  nodes_distinct =
      names_distinct node_name (IsNode size) (λ x y p q e. number_of_name 110 x y (small x p) (small y q) e) (numbers size) (numbers_below size)
      (range_apart 0 (size * size))

  -- a node has its number by its name
  pub node_number : (node : ℕ) → node < size * size → number_of (node_name node) (map node_name (numbers size)) ≡ Some node
  node_number node less =
      let first : 0 + node ≡ node = omega arith in
      let place : get_or (numbers size) node 0 ≡ node = get_or-range_with_len 0 (size * size) node 0 less ∙ first in
      subst (λ (n : ℕ). number_of (node_name n) (map node_name (numbers size)) ≡ Some node) place
      (number_at node_name (numbers size) node 0 nodes_distinct (omega (arith, less, length-range_with_len 0 (size * size))))

  long : length (numbers size) ≡ size * size
  long = length-range_with_len 0 (size * size)

  row_passes : (place node : ℕ) (less : place < length (numbers size)) → get_or (numbers size) place 0 ≡ node → IsNode size node
      → node_reason (column 0 (take place (map (node_row size) (numbers size)))) (node_row size node) ≡ None
  unfolding node_reason
  row_passes place node less here is =
      let row : Row = node_row size node in
      let names : List (List ℕ) = column 0 (take place (map (node_row size) (numbers size))) in
      let x = node % size * NODE_DISTANCE in
      let y = node / size * NODE_DISTANCE in
      let right = column_of size node some few in
      let up = row_of size node some few is in
      no_reason (
      (not (nat_eq (length row) 3), reason.FieldCount)
      ∷ (not (holds_name row 0), reason.BadName)
      ∷ (has_bad_coordinate row, reason.BadNumber)
      ∷ (is_some (number_of (field row 0) names), reason.Twice)
      ∷ (nat_le MAX_NODES (length names), reason.TooMany)
      ∷ []) (
        refl,
        (
          ap not (node_named node (small node is)),
          (
            good_pair (decimal x) (decimal y) (pos x) (pos y) (signed_back MAX_COORDINATE x (omega (arith, right)) (omega (arith, right)))
                (signed_back MAX_COORDINATE y (omega (arith, up)) (omega (arith, up))),
            (
              subst (λ (n : ℕ). is_some (number_of (node_name n) names) ≡ false) here
                  (not_twice (node_row size) node_name 0 (λ x. refl) (numbers size) 0 place less nodes_distinct),
              (
                no_more (node_row size) node_name 0 (λ x. refl) (numbers size) 0 place less MAX_NODES (omega (arith, long, square_small size few)),
                tt,
              ),
            ),
          ),
        ),
      )
    where
      good_pair : (a b : List ℕ) (x y : ℤ) → coordinate a ≡ Some x → coordinate b ≡ Some y → (is_none (coordinate a) || is_none (coordinate b)) ≡ false
      good_pair a b x y p q = rw (p, q) refl

  -- nodes.csv has no fault
  pub nodes_pass : nodes_fault (nodes_text size) ≡ None
  nodes_pass =
      let is = nodes_file in
      ap (λ (rows : List Row). body_fault (head_reason node_header (nodes_text size)) 0 node_of (λ names _. node_reason names) rows) is.body
      ∙ no_body_fault (head_reason node_header (nodes_text size)) 0 node_of (λ names _. node_reason names) (map (node_row size) (numbers size))
      (head_passes node_header (map (node_row size) (numbers size)) (nodes_text size) is header_named (omega (arith, count_is, square_some size some)))
      (λ i less. by_row i (omega (arith, less, count_is, long)))
    where
      by_row : (i : ℕ) → i < length (numbers size)
          → node_reason (column 0 (take i (map (node_row size) (numbers size)))) (get_or (map (node_row size) (numbers size)) i []) ≡ None
      by_row i less =
          ap (node_reason (column 0 (take i (map (node_row size) (numbers size))))) (row_at (node_row size) node_name 0 (λ x. refl) (numbers size) 0 i less)
          ∙ row_passes i (get_or (numbers size) i 0) less refl (each_at (IsNode size) (numbers size) i 0 (numbers_below size) less)

pub nodes_valid : (size last : ℕ) → IsGrid size last → nodes_fault (nodes_text size) ≡ None
nodes_valid size last is = nodes_pass size (omega (arith, is.least)) (omega (arith, is.most))
