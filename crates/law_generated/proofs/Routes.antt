-- routes.csv of a grid: its one row.
use Rattle.records.proofs.Common.{◌≡◌, List, ap, ℕ, length, ◌∙◌, arith, [], ◌<◌, None, Some, ◌++◌, ◌∷◌, refl, true, Bool, ◌+◌, false, ◌≤◌, ◌&&◌, ◌||◌, not, map}
use Rattle.records.proofs.Common.{sym, suc, zero, ◌-◌, cond, inl, inr, list_all-append, nat_tests, list_all, flat_map, Row, column, field, get_or-map}
use Rattle.records.proofs.Common.{length-map, is_some, is_none, nat_le, nat_lt, nat_eq, Option, body_fault, append-nil, take, is_name, number_of, numbers_of}
use Rattle.records.proofs.Common.{with_number, join_with_byte, parts_of, append_assoc, length-append, unwrap_or, decimal}
use Rattle.records.specs.{Fields.are_fields, Fields.is_header, Files.optional_head_reason, Lists.are_names, Lists.items_in, Numbers.is_digit}
use Rattle.std.proofs.Common.{◌*◌, ◌⊎◌, ap₂}
use Rattle.std.proofs.lemmas.{Bool.cases_eq, List.FromFn.get_or-map-range_with_len, List.FromFn.length-range_with_len}
use Rattle.std.specs.{List.position_or_len, List.range_with_len, Prelude.codes, Prelude.get_or, Prelude.if◌then◌else◌, Prelude.position}
use Rattle.edge_files.specs.declared.reasons.Reason.TheVariants as reason
use Rattle.events.{proofs.NameLists.name_at-number_of, proofs.NameLists.some_within, specs.Names.is_name_byte, specs.declared.lists.StopCall.StopCall}
use Rattle.limits.specs.declared.TheConstants.{LAST_SECOND, MAX_CALLS, MAX_ROUTE_LINKS}
use Rattle.plan_text.proofs.{Clean.all_weaker, Clean.name_bytes, Decimals.number_back, Joins.and_true, Joins.behind_each, Joins.both, Joins.join_first}
use Rattle.plan_text.{proofs.Joins.parts_back, specs.Lines.row_line}
use Rattle.rows.specs.{Joined.is_joined, Schedules.are_served, Schedules.is_unserved, Schedules.is_way, Schedules.served_from, Stops.calls_at}
use Rattle.rows.specs.declared.schedule.StopRow.{StopRow}
use Rattle.schedule.specs.{Routes.routes_fault, Stops.stop_of, declared.calls.CallText.CallText, Calls.call_of, Calls.call_text, Calls.is_call, Calls.text_of}
use Rattle.schedule.specs.Routes.{has_bad_name, has_bad_offset, is_too_much, lacks_stop, lines_of, parts_reason, route_header, route_of, route_reason}
use Rattle.town.specs.Fits.{are_joining}
use Rattle.workload.specs.{Links.grid_links, Rows.link_name, Rows.stop_name, Rows.stop_row, Texts.routes_text, declared.TheConstants.STOP_SECONDS}
use Rattle.workload.specs.Rows as rows
use Rattle.law_generated.proofs.{Fields.digit_named, Fields.digits_of, Fields.few_digits, Fields.name_short, Grid.IsLink, Grid.each_link}
use Rattle.law_generated.proofs.Lines.{body_back, is_plain, is_plain_byte, is_row, is_short, length_joined, rows_back}
use Rattle.law_generated.proofs.{Links.held_right, Links.link_named, Links.tells, Rules.each_at, Stops.held_number, Stops.stop_link, Stops.stop_named}
use Rattle.law_generated.proofs.{Stops.stop_number, Tables.IsFile, Tables.no_body_fault, Tables.no_reason, Tables.optional_head_passes}

-- a line along which each link begins where the one before it ends, with a stop on each: the links have these numbers and names, and the stops too
pub record IsLine (n : ℕ) (number : ℕ → ℕ) (links : List (List ℕ)) (ends : List (ℕ × ℕ)) (stops : List (List ℕ)) (places : List StopRow) : Type 0 where
  pub few : n ≤ 98
  pub named : (k : ℕ) → k < suc n → is_name (link_name (k, k + 1)) ≡ true
  pub called : (k : ℕ) → k < suc n → is_name (stop_name k) ≡ true
  pub numbered : (k : ℕ) → k < suc n → number_of (link_name (k, k + 1)) links ≡ Some (number k)
  pub joins : (k : ℕ) → k < suc n → get_or ends (number k) (0, 0) ≡ (k, k + 1)
  pub stopped : (k : ℕ) → k < suc n → number_of (stop_name k) stops ≡ Some k
  pub placed : (k : ℕ) → k < suc n → (get_or places k (record { link = 0 })).link ≡ number k

header_named : is_header route_header route_header ≡ true
unfolding are_fields
header_named = refl

-- a byte of an item, behind the space and the comma
abbrev pub is_item_byte : ℕ → Bool
is_item_byte b = nat_lt 44 b

pub name_item : (b : ℕ) → is_name_byte b ≡ true → is_item_byte b ≡ true
name_item b h = grind (arith, nat_tests)

item_plain : (b : ℕ) → is_item_byte b ≡ true → is_plain_byte b ≡ true
item_plain b h = grind (arith, nat_tests)

filled : (n : ℕ) → 1 ≤ n → nat_eq n 0 ≡ false
filled n some = grind (arith, nat_tests)

-- items with spaces between them, cut there
pub items_back : (x : List ℕ) (xs : List (List ℕ)) → 1 ≤ length x → list_all (list_all is_item_byte) (x ∷ xs) ≡ true → items_in (join_with_byte 32 (x ∷ xs)) ≡ x ∷ xs
unfolding items_in
items_back x xs some h =
    let joined = join_first 32 x xs in
    let long : 1 ≤ length (join_with_byte 32 (x ∷ xs)) = omega (arith, ap length joined, length-append x (behind_each 32 xs), some) in
    ap (λ (b : Bool). if b then [] else parts_of 32 (join_with_byte 32 (x ∷ xs))) (filled (length (join_with_byte 32 (x ∷ xs))) long)
    ∙ parts_back is_item_byte 32 refl x xs h

-- and they are a plain field
joined_plain : (items : List (List ℕ)) → list_all (list_all is_item_byte) items ≡ true → is_plain (join_with_byte 32 items) ≡ true
joined_plain [] h = refl
joined_plain (x ∷ []) h = all_weaker is_item_byte is_plain_byte item_plain x (both (list_all is_item_byte x) true h).0
joined_plain (x ∷ y ∷ ys) h =
    let parts = both (list_all is_item_byte x) (list_all (list_all is_item_byte) (y ∷ ys)) h in
    list_all-append is_plain_byte x (32 ∷ join_with_byte 32 (y ∷ ys))
    ∙ and_true (is_plain x) (is_plain (join_with_byte 32 (y ∷ ys))) (all_weaker is_item_byte is_plain_byte item_plain x parts.0) (joined_plain (y ∷ ys) parts.1)

-- what holds of each number of a range holds of what a rule gives for them
all_in_range : {A : Type 0} (p : A → Bool) (f : ℕ → A) (limit : ℕ) → ((k : ℕ) → k < limit → p (f k) ≡ true) → (a m : ℕ) → a + m ≤ limit
    → list_all p (map f (range_with_len a m)) ≡ true
all_in_range p f limit each a zero within = refl
all_in_range p f limit each a (suc m) within =
    and_true (p (f a)) (list_all p (map f (range_with_len (a + 1) m))) (each a (omega (arith, within))) (all_in_range p f limit each (a + 1) m (omega (arith, within)))

same_in_range : {A : Type 0} (f g : ℕ → A) (limit : ℕ) → ((k : ℕ) → k < limit → f k ≡ g k) → (a m : ℕ) → a + m ≤ limit
    → map f (range_with_len a m) ≡ map g (range_with_len a m)
same_in_range f g limit each a zero within = refl
same_in_range f g limit each a (suc m) within =
    ap₂ (λ (x : _) (l : List _). x ∷ l) (each a (omega (arith, within))) (same_in_range f g limit each (a + 1) m (omega (arith, within)))

map_map : {A B : Type 0} (f : ℕ → A) (g : A → B) (ns : List ℕ) → map g (map f ns) ≡ map (λ k. g (f k)) ns
map_map f g [] = refl
map_map f g (n ∷ ns) = ap (λ (l : List _). g (f n) ∷ l) (map_map f g ns)

long_range : {A : Type 0} (f : ℕ → A) (a m : ℕ) → length (map f (range_with_len a m)) ≡ m
long_range f a m = length-map (range_with_len a m) f ∙ length-range_with_len a m

-- the second of two is the first that passes
second_passes : (p : ℕ → Bool) (x y : ℕ) (zs : List ℕ) → p x ≡ false → p y ≡ true → position p (x ∷ y ∷ zs) ≡ Some 1
second_passes p x y zs first second =
    let at : position_or_len p (x ∷ y ∷ zs) ≡ 1 = rw (first, second) refl in
    ap (λ (m : ℕ). cond (nat_lt m (length (x ∷ y ∷ zs))) (Some m) None) at ∙ some_within 1 (length (x ∷ y ∷ zs)) (omega arith)

first_passes : (p : ℕ → Bool) (x : ℕ) (zs : List ℕ) → p x ≡ true → position p (x ∷ zs) ≡ Some 0
first_passes p x zs first =
    let at : position_or_len p (x ∷ zs) ≡ 0 = rw first refl in
    ap (λ (m : ℕ). cond (nat_lt m (length (x ∷ zs))) (Some m) None) at ∙ some_within 0 (length (x ∷ zs)) (omega arith)

same_number : (a : ℕ) → nat_eq a a ≡ true
same_number a = grind (arith, nat_tests)

other_number : (a b : ℕ) → (b ≡ a → ⊥) → nat_eq a b ≡ false
other_number a b other = grind (arith, nat_tests)

module _ (n : ℕ) (number : ℕ → ℕ) (links : List (List ℕ)) (ends : List (ℕ × ℕ)) (stops : List (List ℕ)) (places : List StopRow)
    (is : IsLine n number links ends stops places) where
  -- what the text of a stop call says, and the call
  abbrev text : ℕ → CallText
  text k = record { is_call = true; stop = Some k; offset = Some (k * STOP_SECONDS); wait = false }

  abbrev call : ℕ → StopCall
  call k = record { stop = k; link = number k; offset = k * STOP_SECONDS; wait = false }

  abbrev link_item : ℕ → List ℕ
  link_item k = link_name (k, k + 1)

  call_parts : (k : ℕ) → k < suc n → parts_of 58 (rows.call_text k) ≡ stop_name k ∷ decimal (k * STOP_SECONDS) ∷ []
  call_parts k less =
      ap (parts_of 58) (append_assoc (stop_name k) (58 ∷ []) (decimal (k * STOP_SECONDS)))
      ∙ parts_back is_name_byte 58 refl (stop_name k) (decimal (k * STOP_SECONDS) ∷ [])
      (and_true (list_all is_name_byte (stop_name k)) (list_all (list_all is_name_byte) (decimal (k * STOP_SECONDS) ∷ []))
      (name_bytes (stop_name k) (is.called k less))
      (and_true (list_all is_name_byte (decimal (k * STOP_SECONDS))) true
      (all_weaker is_digit is_name_byte digit_named (decimal (k * STOP_SECONDS)) (digits_of (k * STOP_SECONDS) (omega (arith, less, is.few)))) refl))

  text_is : (k : ℕ) → k < suc n → call_text stops (rows.call_text k) ≡ text k
  unfolding text_of is_call
  text_is k less =
      ap (text_of stops) (call_parts k less)
      ∙ rw (is.called k less, is.stopped k less, number_back 0 LAST_SECOND (k * STOP_SECONDS) (omega arith) (omega (arith, less, is.few)) (omega (arith, less, is.few))) refl

  call_is : (k : ℕ) → k < suc n → call_of places (text k) ≡ call k
  unfolding call_of
  call_is k less = rw (is.placed k less) refl

  call_bytes : (k : ℕ) → k < suc n → list_all is_item_byte (rows.call_text k) ≡ true
  call_bytes k less =
      ap (list_all is_item_byte) (append_assoc (stop_name k) (58 ∷ []) (decimal (k * STOP_SECONDS)))
      ∙ list_all-append is_item_byte (stop_name k) (58 ∷ decimal (k * STOP_SECONDS))
      ∙ and_true (list_all is_item_byte (stop_name k)) (list_all is_item_byte (decimal (k * STOP_SECONDS)))
      (all_weaker is_name_byte is_item_byte name_item (stop_name k) (name_bytes (stop_name k) (is.called k less)))
      (all_weaker is_name_byte is_item_byte name_item (decimal (k * STOP_SECONDS))
      (all_weaker is_digit is_name_byte digit_named (decimal (k * STOP_SECONDS)) (digits_of (k * STOP_SECONDS) (omega (arith, less, is.few)))))

  link_bytes : (k : ℕ) → k < suc n → list_all is_item_byte (link_item k) ≡ true
  link_bytes k less = all_weaker is_name_byte is_item_byte name_item (link_item k) (name_bytes (link_item k) (is.named k less))

  abbrev link_names : List (List ℕ)
  link_names = map link_item (range_with_len 0 (suc n))

  abbrev call_items : List (List ℕ)
  call_items = map rows.call_text (range_with_len 0 (suc n))

  abbrev numbers : List ℕ
  numbers = map number (range_with_len 0 (suc n))

  links_read : items_in (join_with_byte 32 link_names) ≡ link_names
  links_read = items_back (link_item 0) (map link_item (range_with_len 1 n)) (omega arith) (all_in_range (list_all is_item_byte) link_item (suc n) link_bytes 0 (suc n) (omega arith))

  calls_read : items_in (join_with_byte 32 call_items) ≡ call_items
  calls_read =
      items_back (rows.call_text 0) (map rows.call_text (range_with_len 1 n)) (omega arith)
      (all_in_range (list_all is_item_byte) rows.call_text (suc n) call_bytes 0 (suc n) (omega arith))

  numbers_read : (a m : ℕ) → a + m ≤ suc n → numbers_of (map link_item (range_with_len a m)) links ≡ Some (map number (range_with_len a m))
  unfolding numbers_of
  numbers_read a zero within = refl
  numbers_read a (suc m) within =
      ap₂ with_number (is.numbered a (omega (arith, within))) (numbers_read (a + 1) m (omega (arith, within)))

  texts_read : map (call_text stops) call_items ≡ map text (range_with_len 0 (suc n))
  texts_read =
      map_map rows.call_text (call_text stops) (range_with_len 0 (suc n))
      ∙ same_in_range (λ k. call_text stops (rows.call_text k)) text (suc n) text_is 0 (suc n) (omega arith)

  calls_made : map (call_of places) (map text (range_with_len 0 (suc n))) ≡ map call (range_with_len 0 (suc n))
  calls_made =
      map_map text (call_of places) (range_with_len 0 (suc n)) ∙ same_in_range (λ k. call_of places (text k)) call (suc n) call_is 0 (suc n) (omega arith)

  joined : (m a : ℕ) → a + suc m ≤ suc n → is_joined ends (map number (range_with_len a (suc m))) ≡ true
  unfolding is_joined
  joined zero a within = refl
  joined (suc m) a within =
      let here : nat_eq (get_or ends (number a) (0, 0)).1 (get_or ends (number (a + 1)) (0, 0)).0 ≡ true =
      ap₂ (λ (x y : ℕ × ℕ). nat_eq x.1 y.0) (is.joins a (omega (arith, within))) (is.joins (a + 1) (omega (arith, within))) ∙ same_number (a + 1) in
      and_true (nat_eq (get_or ends (number a) (0, 0)).1 (get_or ends (number (a + 1)) (0, 0)).0) (is_joined ends (map number (range_with_len (a + 1) (suc m))))
      here (joined m (a + 1) (omega (arith, within)))

  apart : (a : ℕ) → a + 1 < suc n → number a ≡ number (a + 1) → ⊥
  apart a less same =
      let ends_same : (a, a + 1) ≡ (a + 1, a + 1 + 1) =
      sym (is.joins a (omega (arith, less))) ∙ ap (λ (k : ℕ). get_or ends k (0, 0)) same ∙ is.joins (a + 1) less in
      let first : a ≡ a + 1 = ap (λ (p : ℕ × ℕ). p.0) ends_same in
      omega (arith, first)

  -- the calls of its text
  pub row_calls : map (call_of places) (map (call_text stops) (items_in (join_with_byte 32 call_items))) ≡ map call (range_with_len 0 (suc n))
  row_calls = ap (map (call_of places)) (ap (map (call_text stops)) calls_read ∙ texts_read) ∙ calls_made

  either_way : (a b : Bool) → (a ≡ true) ⊎ (b ≡ true) → (a || b) ≡ true
  either_way a b h = grind arith

  -- one of the calls is at the last stop
  called : (m a : ℕ) → a ≤ n → n < a + m → calls_at n (map call (range_with_len a m)) ≡ true
  called zero a least less = absurd (omega (arith, least, less))
  called (suc m) a least less =
      either_way (nat_eq a n) (calls_at n (map call (range_with_len (a + 1) m))) (elim (cases_eq a n) [
        | inl here ↦ inl (ap (nat_eq a) (sym here) ∙ same_number a)
        | inr later ↦ inr (called m (a + 1) (omega (arith, least, later)) (omega (arith, less)))
      ])

  -- the line goes from the first stop to the last one
  pub calls_join : 1 ≤ n → are_joining 0 n (map call (range_with_len 0 (suc n))) ≡ true
  unfolding are_joining
  calls_join some =
      either_way (nat_eq 0 0 && calls_at n (map call (range_with_len 1 n))) (are_joining 0 n (map call (range_with_len 1 n)))
      (inl (called n 1 some (omega arith)))

  served : (m a : ℕ) → a + suc m ≤ suc n → are_served (map call (range_with_len (a + 1) m)) (map number (range_with_len a (suc m))) ≡ true
  unfolding are_served
  served zero a within = refl
  served (suc m) a within =
      ap (served_from (are_served (map call (range_with_len (a + 1 + 1) m))) (map number (range_with_len a (suc (suc m)))))
      (second_passes (nat_eq (number (a + 1))) (number a) (number (a + 1)) (map number (range_with_len (a + 1 + 1) m))
      (other_number (number (a + 1)) (number a) (apart a (omega (arith, within)))) (same_number (number (a + 1))))
      ∙ served m (a + 1) (omega (arith, within))

  all_served : are_served (map call (range_with_len 0 (suc n))) numbers ≡ true
  unfolding are_served
  all_served =
      ap (served_from (are_served (map call (range_with_len 1 n))) (map number (range_with_len 0 (suc n))))
      (first_passes (nat_eq (number 0)) (number 0) (map number (range_with_len 1 n)) (same_number (number 0)))
      ∙ served n 0 (omega arith)

  abbrev row : Row
  row = codes "bus" ∷ codes "east" ∷ join_with_byte 32 link_names ∷ join_with_byte 32 call_items ∷ []

  good_names : has_bad_name row link_names (map text (range_with_len 0 (suc n))) ≡ false
  unfolding is_name
  good_names =
      ap not (and_true (are_names link_names) (list_all (λ (t : CallText). t.is_call) (map text (range_with_len 0 (suc n))))
      (all_in_range is_name link_item (suc n) is.named 0 (suc n) (omega arith))
      (all_in_range (λ (t : CallText). t.is_call) text (suc n) (λ k less. refl) 0 (suc n) (omega arith)))

  good_offsets : has_bad_offset (map text (range_with_len 0 (suc n))) ≡ false
  good_offsets = ap not (all_in_range (λ (t : CallText). is_some t.offset) text (suc n) (λ k less. refl) 0 (suc n) (omega arith))

  good_stops : lacks_stop (map text (range_with_len 0 (suc n))) ≡ false
  good_stops = ap not (all_in_range (λ (t : CallText). is_some t.stop) text (suc n) (λ k less. refl) 0 (suc n) (omega arith))

  not_more : (limit k : ℕ) → k ≤ limit → nat_lt limit k ≡ false
  not_more limit k few = grind (arith, nat_tests)

  either_no : (a b : Bool) → a ≡ false → b ≡ false → (a || b) ≡ false
  either_no a b p q = grind arith

  not_much : is_too_much [] numbers (map call (range_with_len 0 (suc n))) ≡ false
  not_much =
      either_no (nat_lt MAX_ROUTE_LINKS (length numbers)) (nat_lt MAX_CALLS (length (map call (range_with_len 0 (suc n)))))
      (not_more MAX_ROUTE_LINKS (length numbers) (omega (arith, long_range number 0 (suc n), is.few)))
      (not_more MAX_CALLS (length (map call (range_with_len 0 (suc n)))) (omega (arith, long_range call 0 (suc n), is.few)))

  all_done : is_unserved (map call (range_with_len 0 (suc n))) numbers ≡ false
  all_done =
      either_no (nat_eq (length (map call (range_with_len 0 (suc n)))) 0) (not (are_served (map call (range_with_len 0 (suc n))) numbers))
      (filled (length (map call (range_with_len 0 (suc n)))) (omega (arith, long_range call 0 (suc n)))) (ap not all_served)

  -- the row has no fault
  pub row_passes : route_reason links ends stops places [] row ≡ None
  unfolding route_reason parts_reason number_of
  row_passes =
      let texts : List CallText = map text (range_with_len 0 (suc n)) in
      ap₂ (λ (items : List (List ℕ)) (said : List CallText). parts_reason ends [] row items said (numbers_of items links) (map (call_of places) said)) links_read
      (ap (map (call_text stops)) calls_read ∙ texts_read)
      ∙ ap₂ (λ (ns : Option (List ℕ)) (calls : List StopCall). parts_reason ends [] row link_names texts ns calls) (numbers_read 0 (suc n) (omega arith)) calls_made
      ∙ no_reason (
      (has_bad_name row link_names texts, reason.BadName)
      ∷ (has_bad_offset texts, reason.BadNumber)
      ∷ (is_some (number_of (field row 1) []), reason.Twice)
      ∷ (is_none (Some numbers) || lacks_stop texts, reason.Unknown)
      ∷ (not (is_way ends (unwrap_or (Some numbers) [])), reason.RouteBroken)
      ∷ (is_too_much [] (unwrap_or (Some numbers) []) (map call (range_with_len 0 (suc n))), reason.TooMany)
      ∷ (is_unserved (map call (range_with_len 0 (suc n))) (unwrap_or (Some numbers) []), reason.StopLink)
      ∷ []) (
        good_names,
        (good_offsets, (refl, (good_stops, (ap not (joined n 0 (omega arith)), (not_much, (all_done, tt)))))),
      )

-- the row of so many stops
abbrev pub line_row : ℕ → Row
line_row count =
    codes "bus"
    ∷ codes "east"
    ∷ join_with_byte 32 (map (λ k. link_name (k, k + 1)) (range_with_len 0 count))
    ∷ join_with_byte 32 (map rows.call_text (range_with_len 0 count))
    ∷ []

module _ (n : ℕ) (number : ℕ → ℕ) (links : List (List ℕ)) (ends : List (ℕ × ℕ)) (stops : List (List ℕ)) (places : List StopRow)
    (is : IsLine n number links ends stops places) where
  row_plain : is_row (line_row (suc n)) ≡ true
  row_plain =
      two_hold (is_plain (join_with_byte 32 (map (λ k. link_name (k, k + 1)) (range_with_len 0 (suc n)))))
      (is_plain (join_with_byte 32 (map rows.call_text (range_with_len 0 (suc n)))))
      (joined_plain (map (λ k. link_name (k, k + 1)) (range_with_len 0 (suc n)))
      (all_in_range (list_all is_item_byte) (λ k. link_name (k, k + 1)) (suc n) (link_bytes n number links ends stops places is) 0 (suc n) (omega arith)))
      (joined_plain (map rows.call_text (range_with_len 0 (suc n)))
      (all_in_range (list_all is_item_byte) rows.call_text (suc n) (call_bytes n number links ends stops places is) 0 (suc n) (omega arith)))
    where
      two_hold : (a b : Bool) → a ≡ true → b ≡ true → (true && (true && (a && (b && true)))) ≡ true
      two_hold a b p q = grind arith

  call_short : (k : ℕ) → k < suc n → is_short (rows.call_text k) ≡ true
  call_short k less =
      at_least (length (rows.call_text k)) 64 (omega (
        arith,
        length-append (stop_name k ++ 58 ∷ []) (decimal (k * STOP_SECONDS)),
        length-append (stop_name k) (58 ∷ []),
        few_digits k (omega (arith, less, is.few)),
        few_digits (k * STOP_SECONDS) (omega (arith, less, is.few)),
      ))
    where
      at_least : (a b : ℕ) → a ≤ b → nat_le a b ≡ true
      at_least a b h = grind (arith, nat_tests)

  row_length : length (row_line (line_row (suc n))) ≤ 20000
  unfolding row_line
  row_length =
      let link_names : List (List ℕ) = map (λ k. link_name (k, k + 1)) (range_with_len 0 (suc n)) in
      let items : List (List ℕ) = map rows.call_text (range_with_len 0 (suc n)) in
      let first : List ℕ = join_with_byte 32 link_names in
      let second : List ℕ = join_with_byte 32 items in
      let line : List ℕ = first ++ 44 ∷ second in
      omega (
        arith,
        length-append (codes "bus" ++ 44 ∷ (codes "east" ++ 44 ∷ line)) (10 ∷ []),
        length-append (codes "bus") (44 ∷ (codes "east" ++ 44 ∷ line)),
        length-append (codes "east") (44 ∷ line),
        length-append first (44 ∷ second),
        length_joined 32 link_names (all_in_range is_short (λ k. link_name (k, k + 1)) (suc n)
            (λ k less. name_short (link_name (k, k + 1)) (is.named k less)) 0 (suc n) (omega arith)),
        length_joined 32 items (all_in_range is_short rows.call_text (suc n) call_short 0 (suc n) (omega arith)),
        long_range (λ k. link_name (k, k + 1)) 0 (suc n),
        long_range rows.call_text 0 (suc n),
        is.few,
      )

  -- the file of this row
  pub line_file : IsFile route_header (line_row (suc n) ∷ []) (flat_map row_line (route_header ∷ line_row (suc n) ∷ []))
  unfolding row_line
  line_file = record {
    read = rows_back 108 (codes "ine") (codes "route") (codes "links" ∷ codes "stops" ∷ []) (line_row (suc n) ∷ []) refl
        (and_true (is_row route_header) (is_row (line_row (suc n)) && true) refl (and_true (is_row (line_row (suc n))) true row_plain refl));
    body = body_back 108 (codes "ine") (codes "route") (codes "links" ∷ codes "stops" ∷ []) (line_row (suc n) ∷ []) refl
        (and_true (is_row route_header) (is_row (line_row (suc n)) && true) refl (and_true (is_row (line_row (suc n))) true row_plain refl));
    short = omega (arith, length-append (row_line route_header) (row_line (line_row (suc n)) ++ []), length-append (row_line (line_row (suc n))) [], row_length);
  }

  line_passes : routes_fault links ends stops places (flat_map row_line (route_header ∷ line_row (suc n) ∷ [])) ≡ None
  line_passes =
      let bytes : List ℕ = flat_map row_line (route_header ∷ line_row (suc n) ∷ []) in
      let file = line_file in
      ap (λ (body : List Row). body_fault (optional_head_reason route_header bytes) 1 (route_of links stops places (lines_of body))
      (λ names _. route_reason links ends stops places names) body) file.body
      ∙ no_body_fault (optional_head_reason route_header bytes) 1 (route_of links stops places (lines_of (line_row (suc n) ∷ [])))
      (λ names _. route_reason links ends stops places names) (line_row (suc n) ∷ [])
      (optional_head_passes route_header (line_row (suc n) ∷ []) bytes file header_named) each
    where
      each : (i : ℕ) → i < 1
          → route_reason links ends stops places (column 1 (take i (line_row (suc n) ∷ []))) (get_or (line_row (suc n) ∷ []) i []) ≡ None
      each zero less = row_passes n number links ends stops places is
      each (suc i) less = absurd (omega (arith, less))

module _ (size : ℕ) (some : 3 ≤ size) (few : size ≤ 100) where
  abbrev pub place_of : ℕ → ℕ
  place_of k = unwrap_or (number_of (link_name (k, k + 1)) (map link_name (grid_links size))) 0

  abbrev stop_names : List (List ℕ)
  stop_names = map stop_name (range_with_len 0 (size - 1))

  abbrev stop_places : List StopRow
  stop_places = map (stop_of (map link_name (grid_links size))) (map stop_row (range_with_len 0 (size - 1)))

  known : (k : ℕ) → k + 1 < size → number_of (link_name (k, k + 1)) (map link_name (grid_links size)) ≡ Some (place_of k)
  known k less = by (number_of (link_name (k, k + 1)) (map link_name (grid_links size))) (held_number (link_name (k, k + 1)) (map link_name (grid_links size)) (held_right size k less))
    where
      by : (o : Option ℕ) → is_some o ≡ true → o ≡ Some (unwrap_or o 0)
      by None h = absurd (cc h)
      by (Some m) h = refl

  there : (k : ℕ) → k + 1 < size → get_or (grid_links size) (place_of k) (0, 0) ≡ (k, k + 1)
  there k less =
      let found = name_at-number_of (link_name (k, k + 1)) (map link_name (grid_links size)) (place_of k) (known k less) in
      let within : place_of k < length (grid_links size) = omega (arith, found.0, length-map (grid_links size) link_name) in
      let same_name : link_name (get_or (grid_links size) (place_of k) (0, 0)) ≡ link_name (k, k + 1) =
      sym (get_or-map link_name (grid_links size) (place_of k) (0, 0) [] within) ∙ found.1 in
      tells size some few (get_or (grid_links size) (place_of k) (0, 0)) (k, k + 1)
      (each_at (IsLink size) (grid_links size) (place_of k) (0, 0) (each_link size (omega (arith, some))) within)
      (stop_link size some few k (omega (arith, less))) same_name

  at_stop : (k : ℕ) → k < size - 1 → (get_or stop_places k (record { link = 0 })).link ≡ place_of k
  unfolding stop_of
  at_stop k less =
      let first : 0 + k ≡ k = omega arith in
      let in_rows : k < length (map stop_row (range_with_len 0 (size - 1))) = omega (arith, less, long_range stop_row 0 (size - 1)) in
      let the_row : get_or (map stop_row (range_with_len 0 (size - 1))) k [] ≡ stop_row k = get_or-map-range_with_len stop_row 0 (size - 1) k k [] less first in
      ap (λ (r : StopRow). r.link) (get_or-map (stop_of (map link_name (grid_links size))) (map stop_row (range_with_len 0 (size - 1))) k [] (record { link = 0 }) in_rows
      ∙ ap (stop_of (map link_name (grid_links size))) the_row)

  -- the line of a grid is such a line
  pub grid_line : (n : ℕ) → size - 1 ≡ suc n → IsLine n place_of (map link_name (grid_links size)) (grid_links size) stop_names stop_places
  grid_line n count = record {
    few = omega (arith, count, few);
    named = λ k less. link_named size some few (k, k + 1) (stop_link size some few k (omega (arith, less, count)));
    called = λ k less. stop_named size some few k (omega (arith, less, count));
    numbered = λ k less. known k (omega (arith, less, count, some));
    joins = λ k less. there k (omega (arith, less, count, some));
    stopped = λ k less. stop_number size some few k (omega (arith, less, count));
    placed = λ k less. at_stop k (omega (arith, less, count));
  }

  -- routes.csv has no fault
  pub routes_pass : routes_fault (map link_name (grid_links size)) (grid_links size) (map stop_name (range_with_len 0 (size - 1)))
      (map (stop_of (map link_name (grid_links size))) (map stop_row (range_with_len 0 (size - 1)))) (routes_text size) ≡ None
  unfolding routes_text row_line
  routes_pass =
      let n = size - 2 in
      let count : size - 1 ≡ suc n = omega (arith, some) in
      ap (routes_fault (map link_name (grid_links size)) (grid_links size) stop_names stop_places)
      (ap (λ (m : ℕ). codes "line,route,links,stops\n" ++ row_line (line_row m)) count
      ∙ ap (λ (t : List ℕ). codes "line,route,links,stops\n" ++ t) (sym (append-nil (row_line (line_row (suc n))))))
      ∙ line_passes n place_of (map link_name (grid_links size)) (grid_links size) stop_names stop_places (grid_line n count)
