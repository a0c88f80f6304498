-- Rows of nodes.csv and links.csv against which nothing speaks are few, and links begin and end at nodes, with numbers in their ranges.
use Rattle.records.proofs.Common.{◌≡◌, List, ap, ℕ, length, ◌∙◌, arith, map, [], ◌<◌, None, true, Bool, false, get_or, ◌≤◌, not, ◌||◌, Err, Ok, Result}
use Rattle.records.proofs.Common.{length-map, list_all, nat_eq, is_some, nat_le, is_none, RowStop, number_of, Answers, field, holds_name, body_of, head_reason}
use Rattle.records.proofs.{Common.Row, Sound.both_true}
use Rattle.records.proofs.Unrefused.{none_applies, values_pass, few_rows, number_in_range, found_below, less_than}
use Rattle.std.proofs.{Common.IfOk, lemmas.Bool.or_parts}
use Rattle.edge_files.specs.declared.reasons.Reason.TheVariants as reason
use Rattle.limits.specs.declared.TheConstants.{MAX_CAPACITY, MAX_LANES, MAX_LENGTH, MAX_LINKS, MAX_NODES, MAX_SPEED}
use Rattle.rows.specs.{Networks.is_link, Networks.are_measures, declared.network.LinkRow.LinkRow, declared.network.NodeRow.NodeRow}
use Rattle.network.specs.Links.{link_header, link_of, measures_of, has_bad_measure, link_reason, links_fault, length_in, speed_in, capacity_in, lanes_in}
use Rattle.network.specs.Links.{lacks_name, lacks_node, link_names}
use Rattle.network.specs.Nodes.{node_header, node_of, node_reason, nodes_fault, has_bad_coordinate}

four : (a b c d : Bool) → (a || b || c || d) ≡ false → (a ≡ false) × (b ≡ false) × (c ≡ false) × (d ≡ false)
four a b c d h = (grind arith, grind arith, grind arith, grind arith)

in_ranges : (row : Row) → has_bad_measure row ≡ false → are_measures (measures_of row).length (measures_of row).speed (measures_of row).capacity (measures_of row).lanes ≡ true
unfolding has_bad_measure measures_of are_measures
in_ranges row good =
    let parts = four (is_none (length_in row)) (is_none (speed_in row)) (is_none (capacity_in row)) (is_none (lanes_in row)) good in
    let length_is = number_in_range 1 MAX_LENGTH (field row 3) parts.0 in
    let speed_is = number_in_range 1 MAX_SPEED (field row 4) parts.1 in
    let capacity_is = number_in_range 1 MAX_CAPACITY (field row 5) parts.2 in
    let lanes_is = number_in_range 1 MAX_LANES (field row 6) parts.3 in
    both_true _ _ (both_true _ _ (both_true _ _ length_is speed_is) capacity_is) lanes_is

-- a row against which nothing speaks
record IsFreeLink (nodes names : List (List ℕ)) (row : Row) : Type 0 where
  room : length names < MAX_LINKS
  sound : is_link (length nodes) (link_of nodes row) ≡ true

link_free : (nodes names : List (List ℕ)) (links : List LinkRow) (row : Row) → link_reason nodes names links row ≡ None → IsFreeLink nodes names row
unfolding link_reason link_of is_link
link_free nodes names links row none =
    let a = none_applies (not (nat_eq (length row) 7)) reason.FieldCount _ none in
    let b = none_applies (lacks_name row) reason.BadName _ a.1 in
    let c = none_applies (has_bad_measure row) reason.BadNumber _ b.1 in
    let d = none_applies (is_some (number_of (field row 0) names)) reason.Twice _ c.1 in
    let e = none_applies (lacks_node nodes row) reason.Unknown _ d.1 in
    let f = none_applies (nat_le MAX_LINKS (length names)) reason.TooMany _ e.1 in
    let there = or_parts (is_none (number_of (field row 1) nodes)) (is_none (number_of (field row 2) nodes)) e.0 in
    record {
      room = less_than MAX_LINKS (length names) f.0;
      sound = both_true _ _ (both_true _ _ (found_below nodes (field row 1) there.0) (found_below nodes (field row 2) there.1)) (in_ranges row c.0);
    }

node_room : (names : List (List ℕ)) (row : Row) → node_reason names row ≡ None → length names < MAX_NODES
unfolding node_reason
node_room names row none =
    let a = none_applies (not (nat_eq (length row) 3)) reason.FieldCount _ none in
    let b = none_applies (not (holds_name row 0)) reason.BadName _ a.1 in
    let c = none_applies (has_bad_coordinate row) reason.BadNumber _ b.1 in
    let d = none_applies (is_some (number_of (field row 0) names)) reason.Twice _ c.1 in
    less_than MAX_NODES (length names) (none_applies (nat_le MAX_NODES (length names)) reason.TooMany _ d.1).0

-- nodes of a file without a fault are few
pub few_nodes : (bytes : List ℕ) (nodes : List NodeRow) → nodes_fault bytes ≡ None → nodes ≡ map node_of (body_of bytes) → length nodes ≤ MAX_NODES
few_nodes bytes nodes none are =
    let rows = body_of bytes in
    let few = few_rows (head_reason node_header bytes) 0 node_of (λ names _ row. node_reason names row) rows MAX_NODES none (λ before values row free. node_room before row free) in
    let count = ap (λ (l : List NodeRow). length l) are ∙ length-map rows node_of in
    omega arith

-- links of a file without a fault are few
pub few_links : (nodes : List (List ℕ)) (bytes : List ℕ) (links : List LinkRow) → links_fault nodes bytes ≡ None → links ≡ map (link_of nodes) (body_of bytes) → length links ≤ MAX_LINKS
few_links nodes bytes links none are =
    let rows = body_of bytes in
    let few = few_rows (head_reason link_header bytes) 0 (link_of nodes) (link_reason nodes) rows MAX_LINKS none (λ before values row free. (link_free nodes before values row free).room) in
    let count = ap (λ (l : List LinkRow). length l) are ∙ length-map rows (link_of nodes) in
    omega arith

-- and each is a link between the nodes
pub sound_links : (nodes : List (List ℕ)) (bytes : List ℕ) (links : List LinkRow) → links_fault nodes bytes ≡ None → links ≡ map (link_of nodes) (body_of bytes) → list_all (is_link (length nodes)) links ≡ true
sound_links nodes bytes links none are =
    let rows = body_of bytes in
    ap (λ (l : List LinkRow). list_all (is_link (length nodes)) l) are
    ∙ values_pass (head_reason link_header bytes) 0 (link_of nodes) (link_reason nodes) rows (is_link (length nodes)) none (λ i before values less free. (link_free nodes before values (get_or rows i []) free).sound)

-- what is read of a file is few, and sound
module _ (nodes : List (List ℕ)) (bytes : List ℕ) where
  pub read_few : (read : Result (List (List ℕ) × List LinkRow) RowStop) → Answers (λ r. r) read (links_fault nodes bytes) (link_names bytes, map (link_of nodes) (body_of bytes))
      → IfOk read (λ r. length r.1 ≤ MAX_LINKS)
  read_few (Ok r) told = few_links nodes bytes r.1 told.0 (ap (λ (p : List (List ℕ) × List LinkRow). p.1) told.1)
  read_few (Err why) told = tt

  pub read_sound : (read : Result (List (List ℕ) × List LinkRow) RowStop) → Answers (λ r. r) read (links_fault nodes bytes) (link_names bytes, map (link_of nodes) (body_of bytes))
      → IfOk read (λ r. list_all (is_link (length nodes)) r.1 ≡ true)
  read_sound (Ok r) told = sound_links nodes bytes r.1 told.0 (ap (λ (p : List (List ℕ) × List LinkRow). p.1) told.1)
  read_sound (Err why) told = tt
