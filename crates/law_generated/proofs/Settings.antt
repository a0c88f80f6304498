-- settings.json of a grid.
use Rattle.std.proofs.Common.{◌≡◌, ◌∙◌, ◌<◌, ◌≤◌, ◌^◌, ◌+◌, ◌-◌, ◌&&◌, ◌||◌, arith, ap, sym, refl, ℕ, Bool, true, false, not, List, [], ◌∷◌, ◌++◌, length}
use Rattle.std.proofs.{Common.Option, Common.Some, Common.None, Common.append_assoc, Common.append-nil, Common.length-append, lemmas.Bool.Decides.nat_tests}
use Rattle.std.proofs.lemmas.{Fmt.IsAscii-decimal, Fmt.length-decimal-le, Str.IsUtf8-append, Str.IsUtf8-from_ascii, Str.is_utf8-from_IsUtf8}
use Rattle.std.specs.{Fmt.digits, Fmt.signed_decimal, Prelude.negsuc, Prelude.codes, Prelude.decimal, Prelude.if◌then◌else◌, Prelude.is_some, Prelude.nat_eq}
use Rattle.std.specs.{Prelude.nat_le, Prelude.nat_lt, Prelude.option_and_then, Str.IsUtf8, Str.is_utf8}
use Rattle.edge_files.specs.declared.reasons.Reason.TheVariants as reason
use Rattle.learning.specs.declared.TheConstants.{LAST_ITERATION}
use Rattle.limits.specs.declared.TheConstants.{MAX_FILE_BYTES}
use Rattle.events.specs.Names.{is_name}
use Rattle.records.specs.{Faults.least, Files.is_too_long}
use Rattle.settings.specs.{Faults.settings_fault, Faults.value_of, Faults.value_tests, Keys.has_bad_cost, Keys.has_bad_in}
use Rattle.settings.specs.Keys.{has_bad_learning, has_bad_scoring, has_bad_traffic, has_bad_value, has_bad_weight, has_unknown_key, is_in, is_key, run_keys}
use Rattle.settings.specs.{Looking.signed_in, Looking.whole_in, Modes.has_unknown_mode_key, Modes.mode_in, Modes.modes_in}
use Rattle.settings.specs.NamedTables.{are_right, has_unknown_table_key, kind_in, latest_in, point_in, points_in, table_in, tables_in}
use Rattle.settings.specs.Scoring.{has_wrong_table}
use Rattle.json.specs.Json as json
use Rattle.json.proofs.Printed.Decimals.{IsNumber-decimal, IsNumber-signed_decimal}
use Rattle.json.proofs.Printed.{Tokens.tokens-print, Trees.ArePrintable-json_tokens, Trees.value-json_tokens, Utf8.IsUtf8-are_ascii}
use Rattle.json.specs.{Lex.tokens, Print.IsNumber, Print.escape_byte, Print.print, Token.Token, Tree.HasNumbers, Tree.json_tokens}
use Rattle.serde_json.proofs.{Numbers.number_of-decimal, Numbers.number_of-negative, Texts.print-outline}
use Rattle.serde_json.specs.Data.{Data, Members, array, item, member, negative, no_items, no_members, number, object, string, unsigned}
use Rattle.serde_json.specs.{Read.max_depth, Read.of_json, Read.read, Written.compact_text, Written.outline}
use Rattle.workload.specs.Texts.{settings_text}
use Rattle.law_generated.proofs.Tables.{no_reason}

-- a key with a number
abbrev counted : List ℕ → ℕ → Members → Members
counted key value rest = member key (number (unsigned value)) rest

-- a point at which a score below zero is reached, and one at which more is
abbrev low_point : ℕ → ℕ → Data
low_point second below = array (item (number (unsigned second)) (item (number (negative (negsuc below))) no_items))

abbrev point : ℕ → ℕ → Data
point second worth = array (item (number (unsigned second)) (item (number (unsigned worth)) no_items))

abbrev home_table : Data
home_table =
    object (member (codes "kind") (string (codes "home"))
    (member (codes "points") (array (item (low_point 0 19999999) (item (point 43200 60000000) (item (point 86400 80000000) no_items)))) no_members))

abbrev work_table : Data
work_table =
    object (member (codes "kind") (string (codes "work"))
    (counted (codes "latest") 32400
    (member (codes "points") (array (item (low_point 0 19999999) (item (point 28800 60000000) no_items))) no_members)))

-- the keys of the settings of a grid
abbrev pub keys : ℕ → ℕ → Members
keys seed last =
    counted (codes "flow_permille") 100
    (counted (codes "last_iteration") last
    (counted (codes "seed") seed
    (counted (codes "storage_permille") 100
    (member (codes "tables") (array (item home_table (item work_table no_items)))
    (counted (codes "weight_keep") 0
    (counted (codes "weight_logit") 70
    (counted (codes "weight_reroute") 20
    (counted (codes "weight_time") 10 no_members))))))))

abbrev pub value : ℕ → ℕ → Data
value seed last = object (keys seed last)

-- the digits of the numbers that stand in every such file
numbers_written : (decimal 100 ≡ codes "100") × (decimal 0 ≡ codes "0") × (decimal 43200 ≡ codes "43200") × (decimal 86400 ≡ codes "86400")
    × (decimal 32400 ≡ codes "32400") × (decimal 28800 ≡ codes "28800") × (decimal 20000000 ≡ codes "20000000") × (decimal 60000000 ≡ codes "60000000")
    × (decimal 80000000 ≡ codes "80000000") × (decimal 70 ≡ codes "70") × (decimal 20 ≡ codes "20") × (decimal 10 ≡ codes "10")
unfolding digits
numbers_written = (refl, refl, refl, refl, refl, refl, refl, refl, refl, refl, refl, refl)

-- the file is the compact text of this value
text_is : (seed last : ℕ) → settings_text seed last ≡ compact_text (value seed last)
unfolding settings_text escape_byte
text_is seed last =
    let n = numbers_written in
    let hundred = n.0 in
    let nought = n.1 in
    let noon = n.2 in
    let day = n.3 in
    let latest = n.4 in
    let eight = n.5 in
    let twenty_million = n.6 in
    let sixty_million = n.7 in
    let eighty_million = n.8 in
    let seventy = n.9 in
    let twenty = n.10 in
    let ten = n.11 in
    simp (append_assoc, hundred, nought, noon, day, latest, eight, twenty_million, sixty_million, eighty_million, seventy, twenty, ten)

module _ (seed last : ℕ) (seed_fits : seed < 2 ^ 64) (few : last ≤ 1000) where
  last_fits : last < 2 ^ 64
  last_fits = omega (arith, few)

  -- every number in it is one of JSON
  all_numbers : HasNumbers (outline (value seed last))
  all_numbers =
      let below : IsNumber (signed_decimal (negsuc 19999999)) = IsNumber-signed_decimal (negsuc 19999999) (omega arith) in
      let low : HasNumbers (outline (low_point 0 19999999)) = (IsNumber-decimal 0 (omega arith), (below, tt)) in
      let reached : (second worth : ℕ) → second < 2 ^ 64 → worth < 2 ^ 64 → HasNumbers (outline (point second worth)) =
      λ second worth p q. (IsNumber-decimal second p, (IsNumber-decimal worth q, tt)) in
      let home : HasNumbers (outline home_table) =
      (tt, ((low, (reached 43200 60000000 (omega arith) (omega arith), (reached 86400 80000000 (omega arith) (omega arith), tt))), tt)) in
      let work : HasNumbers (outline work_table) =
      (tt, (IsNumber-decimal 32400 (omega arith), ((low, (reached 28800 60000000 (omega arith) (omega arith), tt)), tt))) in (
        IsNumber-decimal 100 (omega arith),
        (
          IsNumber-decimal last last_fits,
          (
            IsNumber-decimal seed seed_fits,
            (
              IsNumber-decimal 100 (omega arith),
              (
                (home, (work, tt)),
                (
                  IsNumber-decimal 0 (omega arith),
                  (IsNumber-decimal 70 (omega arith), (IsNumber-decimal 20 (omega arith), (IsNumber-decimal 10 (omega arith), tt))),
                ),
              ),
            ),
          ),
        ),
      )

  -- it is read as this value
  read_is : read (settings_text seed last) ≡ Some (value seed last)
  read_is =
      ap read (text_is seed last ∙ sym (print-outline (value seed last)))
      ∙ ap (λ (o : Option (json.Json × List Token)). option_and_then of_json (option_and_then (λ p. json.if_last p.0 p.1) o)) whole
      ∙ back
    where
      whole : json.value max_depth (tokens (print (json_tokens (outline (value seed last))))) ≡ Some (outline (value seed last), [])
      whole =
          ap (json.value max_depth) (tokens-print (json_tokens (outline (value seed last))) (ArePrintable-json_tokens (outline (value seed last)) all_numbers)
          ∙ sym (append-nil (json_tokens (outline (value seed last)))))
          ∙ value-json_tokens (outline (value seed last)) max_depth [] (omega arith)

      back : of_json (outline (value seed last)) ≡ Some (value seed last)
      back =
          let s = number_of-decimal seed seed_fits in
          let l = number_of-decimal last last_fits in
          let hundred = number_of-decimal 100 (omega arith) in
          let nought = number_of-decimal 0 (omega arith) in
          let noon = number_of-decimal 43200 (omega arith) in
          let day = number_of-decimal 86400 (omega arith) in
          let latest = number_of-decimal 32400 (omega arith) in
          let eight = number_of-decimal 28800 (omega arith) in
          let sixty_million = number_of-decimal 60000000 (omega arith) in
          let eighty_million = number_of-decimal 80000000 (omega arith) in
          let seventy = number_of-decimal 70 (omega arith) in
          let twenty = number_of-decimal 20 (omega arith) in
          let ten = number_of-decimal 10 (omega arith) in
          let below = number_of-negative 19999999 (omega arith) in
          rw (s, l, hundred, nought, noon, day, latest, eight, sixty_million, eighty_million, seventy, twenty, ten, below) refl

filled : (n : ℕ) → 1 ≤ n → nat_eq n 0 ≡ false
filled n some = grind (arith, nat_tests)

seven : (a b c d e f g : List ℕ) → length (a ++ b ++ c ++ d ++ e ++ f ++ g) ≡ length a + length b + length c + length d + length e + length f + length g
seven a b c d e f g =
    omega (
      arith,
      length-append (a ++ b ++ c ++ d ++ e ++ f) g,
      length-append (a ++ b ++ c ++ d ++ e) f,
      length-append (a ++ b ++ c ++ d) e,
      length-append (a ++ b ++ c) d,
      length-append (a ++ b) c,
      length-append a b,
    )

seven_utf8 : (a b c d e f g : List ℕ) → IsUtf8 a → IsUtf8 b → IsUtf8 c → IsUtf8 d → IsUtf8 e → IsUtf8 f → IsUtf8 g
    → IsUtf8 (a ++ b ++ c ++ d ++ e ++ f ++ g)
seven_utf8 a b c d e f g p q r s t u v =
    IsUtf8-append (a ++ b ++ c ++ d ++ e ++ f) g
    (IsUtf8-append (a ++ b ++ c ++ d ++ e) f
    (IsUtf8-append (a ++ b ++ c ++ d) e
    (IsUtf8-append (a ++ b ++ c) d
    (IsUtf8-append (a ++ b) c
    (IsUtf8-append a b p q) r) s) t) u) v

-- the pieces of the file that are the same in each
abbrev first_piece : List ℕ
first_piece = codes "{\"flow_permille\":100,\"last_iteration\":"

abbrev second_piece : List ℕ
second_piece = codes ",\"seed\":"

abbrev third_piece : List ℕ
third_piece =
    codes ",\"storage_permille\":100,\"tables\":[{\"kind\":\"home\",\"points\":[[0,-20000000],[43200,60000000],[86400,80000000]]},"

abbrev fourth_piece : List ℕ
fourth_piece = codes "{\"kind\":\"work\",\"latest\":32400,\"points\":[[0,-20000000],[28800,60000000]]}],"

abbrev fifth_piece : List ℕ
fifth_piece = codes "\"weight_keep\":0,\"weight_logit\":70,\"weight_reroute\":20,\"weight_time\":10}"

not_long : (n : ℕ) → n ≤ MAX_FILE_BYTES → nat_lt MAX_FILE_BYTES n ≡ false
not_long n few = grind (arith, nat_tests)

whole_good : (low high n : ℕ) → low ≤ n → n ≤ high → whole_in low high (number (unsigned n)) ≡ Some n
unfolding whole_in
whole_good low high n above below = by (nat_le low n && nat_le n high) (both low high n above below)
  where
    both : (low high n : ℕ) → low ≤ n → n ≤ high → (nat_le low n && nat_le n high) ≡ true
    both low high n above below = grind (arith, nat_tests)

    by : (b : Bool) → b ≡ true → (if b then Some n else None) ≡ Some n
    by true h = refl
    by false h = absurd (cc h)

neither : (a b : Bool) → a ≡ false → b ≡ false → (a || b) ≡ false
neither a b p q = grind arith

module _ (seed last : ℕ) (seed_fits : seed < 2 ^ 64) (few : last ≤ 1000) where
  text_utf8 : IsUtf8 (settings_text seed last)
  unfolding settings_text
  text_utf8 =
      seven_utf8 first_piece (decimal last) second_piece (decimal seed) third_piece fourth_piece fifth_piece
      (IsUtf8-are_ascii first_piece refl) (IsUtf8-from_ascii (decimal last) (IsAscii-decimal last (omega (arith, few))))
      (IsUtf8-are_ascii second_piece refl) (IsUtf8-from_ascii (decimal seed) (IsAscii-decimal seed seed_fits)) (IsUtf8-are_ascii third_piece refl)
      (IsUtf8-are_ascii fourth_piece refl) (IsUtf8-are_ascii fifth_piece refl)

  text_short : length (settings_text seed last) ≤ MAX_FILE_BYTES
  unfolding settings_text
  text_short =
      let one : length first_piece ≡ 38 = refl in
      let two : length second_piece ≡ 8 = refl in
      let three : length third_piece ≡ 109 = refl in
      let four : length fourth_piece ≡ 74 = refl in
      let five : length fifth_piece ≡ 71 = refl in
      omega (
        arith,
        seven first_piece (decimal last) second_piece (decimal seed) third_piece fourth_piece fifth_piece,
        one,
        two,
        three,
        four,
        five,
        length-decimal-le 20 last (omega arith) (omega (arith, few)) (omega (arith, few)),
        length-decimal-le 20 seed (omega arith) (omega (arith, seed_fits)) seed_fits,
      )

  some_text : nat_eq (length (settings_text seed last)) 0 ≡ false
  unfolding settings_text
  some_text =
      let one : length first_piece ≡ 38 = refl in
      filled (length (settings_text seed last)) (omega (arith, seven first_piece (decimal last) second_piece (decimal seed) third_piece fourth_piece fifth_piece, one))

  -- the value of the file
  pub value_is : value_of (settings_text seed last) ≡ Some (value seed last)
  unfolding value_of
  value_is =
      ap (λ (b : Bool). if b then Some (object no_members) else (if is_utf8 (settings_text seed last) then read (settings_text seed last) else None)) some_text
      ∙ ap (λ (b : Bool). if b then read (settings_text seed last) else None) (is_utf8-from_IsUtf8 (settings_text seed last) text_utf8)
      ∙ read_is seed last seed_fits few

  known_keys : has_unknown_key (keys seed last) ≡ false
  unfolding has_unknown_key is_key is_in has_unknown_mode_key has_unknown_table_key
  known_keys = refl

  good_run : has_bad_in run_keys (keys seed last) ≡ false
  good_run =
      neither (not (is_some (whole_in 0 (2 ^ 64 - 1) (number (unsigned seed)))))
      (not (is_some (whole_in 0 LAST_ITERATION (number (unsigned last)))) || false)
      (ap (λ (o : Option ℕ). not (is_some o)) (whole_good 0 (2 ^ 64 - 1) seed (omega arith) (omega (arith, seed_fits))))
      (neither (not (is_some (whole_in 0 LAST_ITERATION (number (unsigned last))))) false
      (ap (λ (o : Option ℕ). not (is_some o)) (whole_good 0 LAST_ITERATION last (omega arith) (omega (arith, few)))) refl)

  good_traffic : has_bad_traffic (keys seed last) ≡ false
  unfolding has_bad_traffic whole_in
  good_traffic = refl

  good_learning : has_bad_learning (keys seed last) ≡ false
  unfolding has_bad_learning has_bad_weight whole_in
  good_learning = refl

  good_values : has_bad_value (keys seed last) ≡ false
  unfolding has_bad_value
  good_values =
      neither (has_bad_in run_keys (keys seed last) || has_bad_traffic (keys seed last)) (has_bad_learning (keys seed last))
      (neither (has_bad_in run_keys (keys seed last)) (has_bad_traffic (keys seed last)) good_run good_traffic) good_learning

  good_scoring : has_bad_scoring (keys seed last) ≡ false
  unfolding has_bad_cost modes_in mode_in tables_in table_in kind_in points_in point_in latest_in whole_in signed_in is_name
  good_scoring = refl

  right_tables : has_wrong_table (keys seed last) ≡ false
  unfolding has_wrong_table are_right tables_in table_in kind_in points_in point_in latest_in whole_in signed_in is_name
  right_tables = refl

  -- settings.json has no fault
  pub settings_pass : settings_fault (settings_text seed last) ≡ None
  unfolding settings_fault
  settings_pass =
      let bytes : List ℕ = settings_text seed last in
      ap (λ (v : Option Data). least ((is_too_long bytes, reason.TooLong) ∷ value_tests v)) value_is
      ∙ no_reason ((is_too_long bytes, reason.TooLong) ∷ value_tests (Some (value seed last))) (
        not_long (length bytes) text_short,
        (refl, (known_keys, (neither (has_bad_value (keys seed last)) (has_bad_scoring (keys seed last)) good_values good_scoring, (right_tables, tt)))),
      )
