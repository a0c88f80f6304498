-- stops.csv of a grid.
use Rattle.records.proofs.Common.{◌≡◌, List, ap, ℕ, length, ◌∙◌, arith, [], ◌<◌, None, Some, ◌++◌, ◌∷◌, refl, true, Bool, ◌+◌, false, ◌≤◌, ◌&&◌, not, map, sym}
use Rattle.records.proofs.Common.{take, ◌-◌, subst, flat_map, Row, column, field, length-map, is_some, is_none, nat_le, nat_eq, Option, body_fault, is_held}
use Rattle.records.proofs.Common.{is_name, number_of, holds_name}
use Rattle.records.specs.{Fields.are_fields, Fields.is_header, Files.optional_head_reason}
use Rattle.std.proofs.{Common.◌*◌, lemmas.List.Folds.flat_map-map, lemmas.List.FromFn.get_or-range_with_len, lemmas.List.FromFn.length-range_with_len}
use Rattle.std.specs.{List.AllByRecursion as Each, List.range_with_len, Prelude.codes, Prelude.get_or}
use Rattle.edge_files.specs.declared.reasons.Reason.TheVariants as reason
use Rattle.events.{proofs.NameLists.number_of-held, specs.Names.are_distinct}
use Rattle.limits.specs.declared.TheConstants.{MAX_STOPS}
use Rattle.plan_text.specs.Lines.{row_line}
use Rattle.schedule.specs.Stops.{stop_header, stop_of, stop_reason, stops_fault}
use Rattle.workload.specs.{Links.grid_links, Rows.link_name, Rows.stop_name, Rows.stop_row, Texts.stops_text}
use Rattle.law_generated.proofs.{Fields.lettered, Fields.name_plain, Fields.name_short, Fields.number_of_name, Grid.IsLink, Lines.is_plain, Lines.is_row}
use Rattle.law_generated.proofs.{Lines.is_short, Lines.is_short_row, Links.held_right, Links.link_named, Names.names_distinct, Names.number_at}
use Rattle.law_generated.proofs.{Names.range_apart, Names.range_below, Rules.column_is, Rules.each_at, Rules.no_more, Rules.not_twice, Rules.row_at}
use Rattle.law_generated.proofs.Tables.{IsFile, lines_are_file, no_body_fault, no_reason, optional_head_passes, rows_pass}

header_named : is_header stop_header stop_header ≡ true
unfolding are_fields
header_named = refl

two_hold : (a b : Bool) → a ≡ true → b ≡ true → (a && (b && true)) ≡ true
two_hold a b p q = grind arith

-- what is held has a number
pub held_number : (name : List ℕ) (names : List (List ℕ)) → is_held name names ≡ true → is_some (number_of name names) ≡ true
held_number name names held = ap (λ (o : Option ℕ). is_some o) (number_of-held name names held)

pub not_none : (o : Option ℕ) → is_some o ≡ true → is_none o ≡ false
not_none None h = absurd (cc h)
not_none (Some n) h = refl

module _ (size : ℕ) (some : 3 ≤ size) (few : size ≤ 100) where
  pub below : Each (λ stop. stop < size - 1) (range_with_len 0 (size - 1))
  below = range_below 0 (size - 1) (size - 1) (omega arith)

  pub long : length (range_with_len 0 (size - 1)) ≡ size - 1
  long = length-range_with_len 0 (size - 1)

  -- the link of a stop
  pub stop_link : (stop : ℕ) → stop < size - 1 → IsLink size (stop, stop + 1)
  stop_link stop less =
      let room = square_room size (omega (arith, some)) in
      record { from = omega (arith, less, room); to = omega (arith, less, room) }
    where
      square_room : (size : ℕ) → 1 ≤ size → size ≤ size * size
      square_room size some = grind (arith, some)

  pub stop_named : (stop : ℕ) → stop < size - 1 → is_name (stop_name stop) ≡ true
  stop_named stop less = lettered 115 stop refl (omega (arith, less, few))

  link_name_good : (stop : ℕ) → stop < size - 1 → is_name (link_name (stop, stop + 1)) ≡ true
  link_name_good stop less = link_named size some few (stop, stop + 1) (stop_link stop less)

  row_plain : (stop : ℕ) → stop < size - 1 → is_row (stop_row stop) ≡ true
  row_plain stop less =
      two_hold (is_plain (stop_name stop)) (is_plain (link_name (stop, stop + 1))) (name_plain (stop_name stop) (stop_named stop less))
      (name_plain (link_name (stop, stop + 1)) (link_name_good stop less))

  row_short : (stop : ℕ) → stop < size - 1 → is_short_row (stop_row stop) ≡ true
  row_short stop less =
      two_hold (is_short (stop_name stop)) (is_short (link_name (stop, stop + 1))) (name_short (stop_name stop) (stop_named stop less))
      (name_short (link_name (stop, stop + 1)) (link_name_good stop less))

  text_is : stops_text size ≡ flat_map row_line (stop_header ∷ map stop_row (range_with_len 0 (size - 1)))
  unfolding stops_text row_line
  text_is = ap (λ (t : List ℕ). codes "stop,link\n" ++ t) (sym (flat_map-map row_line stop_row (range_with_len 0 (size - 1))))

  -- stops.csv is read as its rows
  pub stops_file : IsFile stop_header (map stop_row (range_with_len 0 (size - 1))) (stops_text size)
  stops_file =
      subst (IsFile stop_header (map stop_row (range_with_len 0 (size - 1)))) (sym text_is)
      (lines_are_file 115 (codes "top") (codes "link") [] (map stop_row (range_with_len 0 (size - 1))) refl
      (rows_pass is_row stop_row (λ stop. stop < size - 1) row_plain (range_with_len 0 (size - 1)) below)
      (rows_pass is_short_row stop_row (λ stop. stop < size - 1) row_short (range_with_len 0 (size - 1)) below)
      (omega (arith, length-map (range_with_len 0 (size - 1)) stop_row, long, few)))

  -- the names of the stops
  pub names_are : column 0 (map stop_row (range_with_len 0 (size - 1))) ≡ map stop_name (range_with_len 0 (size - 1))
  names_are = column_is stop_row stop_name 0 (λ x. refl) (range_with_len 0 (size - 1))

  pub stops_distinct : are_distinct (map stop_name (range_with_len 0 (size - 1))) ≡ true
  stops_distinct =
      names_distinct stop_name (λ stop. stop < size - 1)
      (λ x y p q e. number_of_name 115 x y (omega (arith, p, few)) (omega (arith, q, few)) e) (range_with_len 0 (size - 1)) below (range_apart 0 (size - 1))

  -- a stop has its number by its name
  pub stop_number : (stop : ℕ) → stop < size - 1 → number_of (stop_name stop) (map stop_name (range_with_len 0 (size - 1))) ≡ Some stop
  stop_number stop less =
      let first : 0 + stop ≡ stop = omega arith in
      subst (λ (n : ℕ). number_of (stop_name n) (map stop_name (range_with_len 0 (size - 1))) ≡ Some stop)
      (get_or-range_with_len 0 (size - 1) stop 0 less ∙ first)
      (number_at stop_name (range_with_len 0 (size - 1)) stop 0 stops_distinct (omega (arith, less, long)))

  both_named : (a b : Bool) → a ≡ true → b ≡ true → not (a && b) ≡ false
  both_named a b p q = grind arith

  row_passes : (place stop : ℕ) (less : place < length (range_with_len 0 (size - 1))) → get_or (range_with_len 0 (size - 1)) place 0 ≡ stop → stop < size - 1
      → stop_reason (map link_name (grid_links size)) (column 0 (take place (map stop_row (range_with_len 0 (size - 1))))) (stop_row stop) ≡ None
  unfolding stop_reason
  row_passes place stop less here is =
      let row : Row = stop_row stop in
      let links : List (List ℕ) = map link_name (grid_links size) in
      let names : List (List ℕ) = column 0 (take place (map stop_row (range_with_len 0 (size - 1)))) in
      no_reason (
      (not (nat_eq (length row) 2), reason.FieldCount)
      ∷ (not (holds_name row 0 && holds_name row 1), reason.BadName)
      ∷ (is_some (number_of (field row 0) names), reason.Twice)
      ∷ (is_none (number_of (field row 1) links), reason.Unknown)
      ∷ (nat_le MAX_STOPS (length names), reason.TooMany)
      ∷ []) (
        refl,
        (
          both_named (is_name (stop_name stop)) (is_name (link_name (stop, stop + 1))) (stop_named stop is) (link_name_good stop is),
          (
            subst (λ (n : ℕ). is_some (number_of (stop_name n) names) ≡ false) here
                (not_twice stop_row stop_name 0 (λ x. refl) (range_with_len 0 (size - 1)) 0 place less stops_distinct),
            (
              not_none (number_of (link_name (stop, stop + 1)) links)
                  (held_number (link_name (stop, stop + 1)) links (held_right size stop (omega (arith, is)))),
              (no_more stop_row stop_name 0 (λ x. refl) (range_with_len 0 (size - 1)) 0 place less MAX_STOPS (omega (arith, long, few)), tt),
            ),
          ),
        ),
      )

  -- stops.csv has no fault
  pub stops_pass : stops_fault (map link_name (grid_links size)) (stops_text size) ≡ None
  stops_pass =
      let is = stops_file in
      let links : List (List ℕ) = map link_name (grid_links size) in
      ap (λ (rows : List Row). body_fault (optional_head_reason stop_header (stops_text size)) 0 (stop_of links) (λ names _. stop_reason links names) rows) is.body
      ∙ no_body_fault (optional_head_reason stop_header (stops_text size)) 0 (stop_of links) (λ names _. stop_reason links names)
      (map stop_row (range_with_len 0 (size - 1)))
      (optional_head_passes stop_header (map stop_row (range_with_len 0 (size - 1))) (stops_text size) is header_named)
      (λ i less. by_row i (omega (arith, less, length-map (range_with_len 0 (size - 1)) stop_row)))
    where
      by_row : (i : ℕ) → i < length (range_with_len 0 (size - 1))
          → stop_reason (map link_name (grid_links size)) (column 0 (take i (map stop_row (range_with_len 0 (size - 1)))))
          (get_or (map stop_row (range_with_len 0 (size - 1))) i []) ≡ None
      by_row i less =
          ap (stop_reason (map link_name (grid_links size)) (column 0 (take i (map stop_row (range_with_len 0 (size - 1))))))
          (row_at stop_row stop_name 0 (λ x. refl) (range_with_len 0 (size - 1)) 0 i less)
          ∙ row_passes i (get_or (range_with_len 0 (size - 1)) i 0) less refl (each_at (λ stop. stop < size - 1) (range_with_len 0 (size - 1)) i 0 below less)
