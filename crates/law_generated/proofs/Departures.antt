-- departures.csv of a grid.
use Rattle.records.proofs.Common.{◌≡◌, List, ap, ℕ, length, ◌∙◌, arith, [], ◌<◌, None, Some, ◌++◌, ◌∷◌, refl, true, Bool, ◌+◌, false, ◌≤◌, ◌&&◌, ◌||◌, not, map}
use Rattle.records.proofs.Common.{sym, take, subst, flat_map, Row, column, field, length-map, is_some, is_none, nat_le, nat_eq, Option, body_fault, is_name}
use Rattle.records.proofs.Common.{number_of, decimal, holds_name}
use Rattle.records.specs.{Fields.are_fields, Fields.is_header, Files.optional_head_reason}
use Rattle.std.proofs.{Common.◌*◌, lemmas.List.Folds.flat_map-map, lemmas.List.FromFn.length-range_with_len}
use Rattle.std.specs.{Fmt.digits, List.AllByRecursion as Each, List.range_with_len, Prelude.codes, Prelude.get_or}
use Rattle.edge_files.specs.declared.reasons.Reason.TheVariants as reason
use Rattle.events.specs.Names.{are_distinct}
use Rattle.limits.specs.declared.TheConstants.{LAST_SECOND, MAX_DEPARTURES, MAX_SEATS}
use Rattle.plan_text.{proofs.Decimals.number_back, specs.Lines.row_line}
use Rattle.schedule.specs.Departures.{departure_header, departure_of, departure_reason, departures_fault, seats_in, second_in}
use Rattle.workload.specs.{Rows.departure_name, Rows.departure_row, Texts.departures_text}
use Rattle.workload.specs.declared.TheConstants.{DEPARTURE_GAP, FIRST_DEPARTURE, SEATS}
use Rattle.law_generated.proofs.Fields.{lettered, name_plain, name_short, number_of_name, number_plain, number_short}
use Rattle.law_generated.proofs.{Lines.is_plain, Lines.is_row, Lines.is_short, Lines.is_short_row, Names.names_distinct, Names.range_apart, Names.range_below}
use Rattle.law_generated.proofs.Rules.{each_at, no_more, not_twice, row_at}
use Rattle.law_generated.proofs.Tables.{IsFile, lines_are_file, no_body_fault, no_reason, optional_head_passes, rows_pass}

header_named : is_header departure_header departure_header ≡ true
unfolding are_fields
header_named = refl

east_named : is_name (codes "east") ≡ true
unfolding is_name
east_named = refl

two_hold : (a b : Bool) → a ≡ true → b ≡ true → (a && (true && (b && (true && true)))) ≡ true
two_hold a b p q = grind arith

-- of so many departures; none is later than the last second of the day
module _ (count : ℕ) (few : count ≤ 200) where
  below : Each (λ departure. departure < count) (range_with_len 0 count)
  below = range_below 0 count count (omega arith)

  long : length (range_with_len 0 count) ≡ count
  long = length-range_with_len 0 count

  named : (departure : ℕ) → departure < count → is_name (departure_name departure) ≡ true
  named departure less = lettered 100 departure refl (omega (arith, less, few))

  row_plain : (departure : ℕ) → departure < count → is_row (departure_row departure) ≡ true
  unfolding digits
  row_plain departure less =
      two_hold (is_plain (departure_name departure)) (is_plain (decimal (FIRST_DEPARTURE + departure * DEPARTURE_GAP)))
      (name_plain (departure_name departure) (named departure less)) (number_plain (FIRST_DEPARTURE + departure * DEPARTURE_GAP) (omega (arith, less, few)))

  row_short : (departure : ℕ) → departure < count → is_short_row (departure_row departure) ≡ true
  unfolding digits
  row_short departure less =
      two_hold (is_short (departure_name departure)) (is_short (decimal (FIRST_DEPARTURE + departure * DEPARTURE_GAP)))
      (name_short (departure_name departure) (named departure less)) (number_short (FIRST_DEPARTURE + departure * DEPARTURE_GAP) (omega (arith, less, few)))

  text_is : departures_text count ≡ flat_map row_line (departure_header ∷ map departure_row (range_with_len 0 count))
  unfolding departures_text row_line
  text_is = ap (λ (t : List ℕ). codes "departure,route,second,seats\n" ++ t) (sym (flat_map-map row_line departure_row (range_with_len 0 count)))

  -- departures.csv is read as its rows
  pub departures_file : IsFile departure_header (map departure_row (range_with_len 0 count)) (departures_text count)
  departures_file =
      subst (IsFile departure_header (map departure_row (range_with_len 0 count))) (sym text_is)
      (lines_are_file 100 (codes "eparture") (codes "route") (codes "second" ∷ codes "seats" ∷ []) (map departure_row (range_with_len 0 count)) refl
      (rows_pass is_row departure_row (λ departure. departure < count) row_plain (range_with_len 0 count) below)
      (rows_pass is_short_row departure_row (λ departure. departure < count) row_short (range_with_len 0 count) below)
      (omega (arith, length-map (range_with_len 0 count) departure_row, long, few)))

  distinct : are_distinct (map departure_name (range_with_len 0 count)) ≡ true
  distinct =
      names_distinct departure_name (λ departure. departure < count)
      (λ x y p q e. number_of_name 100 x y (omega (arith, p, few)) (omega (arith, q, few)) e) (range_with_len 0 count) below (range_apart 0 count)

  both_named : (a b : Bool) → a ≡ true → b ≡ true → not (a && b) ≡ false
  both_named a b p q = grind arith

  row_passes : (routes : List (List ℕ)) → is_some (number_of (codes "east") routes) ≡ true → (place departure : ℕ) (less : place < length (range_with_len 0 count))
      → get_or (range_with_len 0 count) place 0 ≡ departure → departure < count
      → departure_reason routes (column 0 (take place (map departure_row (range_with_len 0 count)))) (departure_row departure) ≡ None
  unfolding departure_reason
  row_passes routes known place departure less here is =
      let row : Row = departure_row departure in
      let names : List (List ℕ) = column 0 (take place (map departure_row (range_with_len 0 count))) in
      let second = FIRST_DEPARTURE + departure * DEPARTURE_GAP in
      no_reason (
      (not (nat_eq (length row) 4), reason.FieldCount)
      ∷ (not (holds_name row 0 && holds_name row 1), reason.BadName)
      ∷ (is_none (second_in row) || is_none (seats_in row), reason.BadNumber)
      ∷ (is_some (number_of (field row 0) names), reason.Twice)
      ∷ (is_none (number_of (field row 1) routes), reason.Unknown)
      ∷ (nat_le MAX_DEPARTURES (length names), reason.TooMany)
      ∷ []) (
        refl,
        (
          both_named (is_name (departure_name departure)) (is_name (codes "east")) (named departure is) east_named,
          (
            good_pair (second_in row) (seats_in row) second SEATS (number_back 0 LAST_SECOND second (omega arith) (omega (arith, is, few)) (omega (arith, is, few)))
                (number_back 1 MAX_SEATS SEATS (omega arith) (omega arith) (omega arith)),
            (
              subst (λ (n : ℕ). is_some (number_of (departure_name n) names) ≡ false) here
                  (not_twice departure_row departure_name 0 (λ x. refl) (range_with_len 0 count) 0 place less distinct),
              (
                not_none (number_of (codes "east") routes) known,
                (no_more departure_row departure_name 0 (λ x. refl) (range_with_len 0 count) 0 place less MAX_DEPARTURES (omega (arith, long, few)), tt),
              ),
            ),
          ),
        ),
      )
    where
      good_pair : (a b : Option ℕ) (k l : ℕ) → a ≡ Some k → b ≡ Some l → (is_none a || is_none b) ≡ false
      good_pair a b k l p q = rw (p, q) refl

      not_none : (o : Option ℕ) → is_some o ≡ true → is_none o ≡ false
      not_none None h = absurd (cc h)
      not_none (Some n) h = refl

  -- departures.csv has no fault, where the route has a name
  pub departures_pass : (routes : List (List ℕ)) → is_some (number_of (codes "east") routes) ≡ true → departures_fault routes (departures_text count) ≡ None
  departures_pass routes known =
      let is = departures_file in
      let rows : List Row = map departure_row (range_with_len 0 count) in
      ap (λ (rows : List Row). body_fault (optional_head_reason departure_header (departures_text count)) 0 (departure_of routes) (λ names _. departure_reason routes names) rows)
      is.body
      ∙ no_body_fault (optional_head_reason departure_header (departures_text count)) 0 (departure_of routes) (λ names _. departure_reason routes names)
      (map departure_row (range_with_len 0 count))
      (optional_head_passes departure_header (map departure_row (range_with_len 0 count)) (departures_text count) is header_named)
      (λ i less. by_row i (omega (arith, less, length-map (range_with_len 0 count) departure_row)))
    where
      by_row : (i : ℕ) → i < length (range_with_len 0 count)
          → departure_reason routes (column 0 (take i (map departure_row (range_with_len 0 count)))) (get_or (map departure_row (range_with_len 0 count)) i []) ≡ None
      by_row i less =
          ap (departure_reason routes (column 0 (take i (map departure_row (range_with_len 0 count)))))
          (row_at departure_row departure_name 0 (λ x. refl) (range_with_len 0 count) 0 i less)
          ∙ row_passes routes known i (get_or (range_with_len 0 count) i 0) less refl (each_at (λ departure. departure < count) (range_with_len 0 count) i 0 below less)
