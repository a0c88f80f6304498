-- A plan's rows, read back: the same activities and legs.
use Rattle.records.proofs.Common.{◌≡◌, List, ℕ, length, arith, map, [], ◌<◌, None, Some, ◌++◌, ◌∷◌, refl, true, Bool, Option, ◌+◌, false, ◌&&◌}
use Rattle.records.proofs.Common.{◌≤◌, length-append, ◌^◌, nat_tests, list_all, join_with_byte, nat_eq, nat_lt, nat_le, decimal, option_map, number_of}
use Rattle.records.proofs.Common.{is_name, name_at, Book, Mode, LAST_SECOND, MAX_LEGS, field, numbers_of, are_digits, number_in, Row}
use Rattle.records.specs.Lists.{items_in}
use Rattle.events.specs.declared.event.Mode.TheVariants as mode
use Rattle.events.{proofs.NameLists.number_of-name_at, specs.Names.AreNames, specs.Names.is_name_byte, specs.Words.mode_text, specs.Words.mode_of}
use Rattle.rows.specs.{Plan.is_leg, Plan.is_teleported, Plan.are_acts, Plan.mode_of_leg, declared.plan.Act.Act, declared.plan.Leg.Leg}
use Rattle.rows.specs.declared.plan.Leg.TheVariants as leg
use Rattle.plan_text.proofs.Clean.{is_row, is_time, all_weaker, name_bytes, names_named, route_named, three_parts, below, act_is_row, leg_is_row, rows_back}
use Rattle.plan_text.{proofs.Decimals.number_back, proofs.Joins.both, proofs.Joins.parts_back, proofs.Joins.join_first, specs.Elements.act_in}
use Rattle.plan_text.specs.{Elements.leg_by, Elements.leg_in, Elements.rows_in, Elements.acts_in, Elements.legs_in, Lines.IsBook, Lines.end_text}
use Rattle.plan_text.specs.Lines.{act_row, route_names, route_text, leg_row, element_rows, element_lines, is_act_in_book, is_leg_in_book, are_in_book, are_plan}

-- an end that is none, or in range, is read back
end_back : (end : Option ℕ) → is_time end ≡ true → number_in 0 LAST_SECOND (end_text end) ≡ end
unfolding number_in are_digits
end_back None h = refl
end_back (Some second) h = number_back 0 LAST_SECOND second (omega arith) (grind (arith, nat_tests)) (grind (arith, nat_tests))

number_there : (names : List (List ℕ)) (n : ℕ) → AreNames names → nat_lt n (length names) ≡ true → number_of (name_at names n) names ≡ Some n
number_there names n are h = number_of-name_at names n are.distinct (below n (length names) h)

numbers_there : (names : List (List ℕ)) (numbers : List ℕ) → AreNames names → list_all (λ n. nat_lt n (length names)) numbers ≡ true → numbers_of (map (name_at names) numbers) names ≡ Some numbers
unfolding numbers_of
numbers_there names [] are h = refl
numbers_there names (n ∷ numbers) are h =
    let parts = both (nat_lt n (length names)) _ h in
    rw (number_there names n are parts.0, numbers_there names numbers are parts.1)

some_bytes : (x : List ℕ) (xs : List (List ℕ)) → is_name x ≡ true → nat_eq (length (join_with_byte 32 (x ∷ xs))) 0 ≡ false
unfolding is_name
some_bytes x xs h = rw (join_first 32 x xs, length-append) (grind (arith, nat_tests))

-- names that are joined by spaces, cut again
items_back : (items : List (List ℕ)) → list_all is_name items ≡ true → items_in (join_with_byte 32 items) ≡ items
unfolding items_in
items_back [] h = refl
items_back (x ∷ xs) h =
    let parts = both (is_name x) (list_all is_name xs) h in
    rw (some_bytes x xs parts.0) (parts_back is_name_byte 32 refl x xs (all_weaker is_name (list_all is_name_byte) name_bytes (x ∷ xs) h))

mode_back : (mode : Mode) → mode_of (mode_text mode) ≡ Some mode
unfolding mode_of
mode_back mode.Car = refl
mode_back mode = refl

seconds_back : (seconds : ℕ) → nat_le 1 seconds ≡ true → nat_le seconds LAST_SECOND ≡ true → number_in 1 LAST_SECOND (decimal seconds) ≡ Some seconds
seconds_back n some h = number_back 1 LAST_SECOND n (grind (arith, nat_tests)) (grind (arith, nat_tests)) (grind (arith, nat_tests))

module _ (book : Book) (person index : ℕ) (are : IsBook book) where
  act_back : (act : Act) → is_act_in_book book act ≡ true → is_time act.end ≡ true → act_in book (act_row book person index act) ≡ Some act
  unfolding act_in act_row
  act_back act in_book time =
      let parts = both (nat_lt act.kind (length book.kinds)) (nat_lt act.link (length book.links)) in_book in
      rw (number_there book.kinds act.kind are.kinds parts.0, number_there book.links act.link are.links parts.1, end_back act.end time)

  act_no_leg : (act : Act) → leg_in book (act_row book person index act) ≡ None
  unfolding leg_in act_row
  act_no_leg act = refl

  leg_no_act : (leg : Leg) → act_in book (leg_row book person index leg) ≡ None
  unfolding act_in leg_row
  leg_no_act leg = refl

  by_mode : (mode : Mode) (seconds : ℕ) (row : Row) → is_teleported mode ≡ true → leg_by book mode row ≡ option_map (λ seconds. leg.Teleport mode seconds) (number_in 1 LAST_SECOND (field row 5))
  unfolding leg_by
  by_mode mode.Car seconds row h = absurd (cc h)
  by_mode mode.Pt seconds row h = absurd (cc h)
  by_mode mode seconds row h = refl

  leg_by_back : (leg : Leg) → is_leg_in_book book leg ≡ true → is_leg leg ≡ true → leg_by book (mode_of_leg leg) (leg_row book person index leg) ≡ Some leg
  unfolding leg_by leg_row route_text
  leg_by_back (leg.Car route) in_book sound =
      rw (items_back (map (name_at book.links) route) (names_named book.links route are.links in_book), numbers_there book.links route are.links in_book)
  leg_by_back (leg.Teleport mode seconds) in_book sound =
      let parts = three_parts (is_teleported mode) (nat_le 1 seconds) (nat_le seconds LAST_SECOND) sound in
      rw (by_mode mode seconds (leg_row book person index (leg.Teleport mode seconds)) parts.0, seconds_back seconds parts.1 parts.2)
  leg_by_back (leg.Transit line access egress) in_book sound =
      let parts = three_parts _ _ _ in_book in
      let stop = number_there book.stops egress are.stops parts.2 in
      rw (items_back (route_names book (leg.Transit line access egress)) (route_named book (leg.Transit line access egress) are in_book))
      (rw (number_there book.lines line are.lines parts.0, number_there book.stops access are.stops parts.1, stop) refl)

  leg_back : (leg : Leg) → is_leg_in_book book leg ≡ true → is_leg leg ≡ true → leg_in book (leg_row book person index leg) ≡ Some leg
  unfolding leg_in leg_row
  leg_back leg in_book sound = rw (mode_back (mode_of_leg leg)) (leg_by_back leg in_book sound)

  abbrev end_row : List Row
  end_row = ([] ∷ []) ∷ []

  abbrev rows_of : List Act → List Leg → List Row
  rows_of acts legs = element_rows book person index acts legs

  abbrev are_times : List Act → Bool
  are_times acts = list_all (λ act. is_time act.end) acts

  no_act : acts_in book end_row ≡ []
  unfolding act_in
  no_act = refl

  no_leg : legs_in book end_row ≡ []
  unfolding leg_in
  no_leg = refl

  acts_back : (acts : List Act) (legs : List Leg) → list_all (is_act_in_book book) acts ≡ true → are_times acts ≡ true → acts_in book (rows_of acts legs ++ end_row) ≡ acts
  unfolding element_rows
  acts_back [] legs in_book times = no_act
  acts_back (act ∷ acts) [] in_book times =
      let named = both (is_act_in_book book act) _ in_book in
      let timed = both (is_time act.end) _ times in
      rw (act_back act named.0 timed.0, acts_back acts [] named.1 timed.1)
  acts_back (act ∷ acts) (leg ∷ legs) in_book times =
      let named = both (is_act_in_book book act) _ in_book in
      let timed = both (is_time act.end) _ times in
      rw (act_back act named.0 timed.0, leg_no_act leg, acts_back acts legs named.1 timed.1)

  legs_back : (acts : List Act) (legs : List Leg) → length legs ≤ length acts → list_all (is_leg_in_book book) legs ≡ true → list_all is_leg legs ≡ true → legs_in book (rows_of acts legs ++ end_row) ≡ legs
  unfolding element_rows
  legs_back [] [] few in_book sound = no_leg
  legs_back [] (leg ∷ legs) few in_book sound = absurd (omega arith)
  legs_back (act ∷ acts) [] few in_book sound = rw (act_no_leg act, legs_back acts [] (omega arith) refl refl)
  legs_back (act ∷ acts) (leg ∷ legs) few in_book sound =
      let named = both (is_leg_in_book book leg) _ in_book in
      let kept = both (is_leg leg) _ sound in
      rw (act_no_leg act, leg_back leg named.0 kept.0, legs_back acts legs (omega arith) named.1 kept.1)

  module _ (there : person < length book.persons) (small : index < 2 ^ 32) where
    rows_clean : (acts : List Act) (legs : List Leg) → list_all (is_act_in_book book) acts ≡ true → are_times acts ≡ true → list_all (is_leg_in_book book) legs ≡ true → list_all is_leg legs ≡ true → list_all is_row (rows_of acts legs) ≡ true
    unfolding element_rows
    rows_clean [] legs in_book times legs_in_book sound = refl
    rows_clean (act ∷ acts) [] in_book times legs_in_book sound = grind (arith, act_is_row book person index are there small act, rows_clean acts [])
    rows_clean (act ∷ acts) (leg ∷ legs) in_book times legs_in_book sound =
        grind (arith, act_is_row book person index are there small act, leg_is_row book person index are there small leg, rows_clean acts legs)

    times_of : (acts : List Act) → are_acts acts ≡ true → are_times acts ≡ true
    unfolding are_acts
    times_of [] h = refl
    times_of (act ∷ []) h = grind arith
    times_of (act ∷ next ∷ acts) h = grind (arith, times_of (next ∷ acts))

    -- the lines of a plan in the book, read row by row, are its activities and legs
    pub plan_back : (acts : List Act) (legs : List Leg) → are_plan acts legs ≡ true → are_in_book book acts legs ≡ true
        → (acts_in book (rows_in (element_lines book person index acts legs)) ≡ acts) × (legs_in book (rows_in (element_lines book person index acts legs)) ≡ legs)
    unfolding are_plan are_in_book element_lines
    plan_back acts legs plan in_book =
        let named = both (list_all (is_act_in_book book) acts) _ in_book in
        let four = both (nat_eq (length acts) (length legs + 1) && nat_le (length legs) MAX_LEGS && are_acts acts) _ plan in
        let three = three_parts (nat_eq (length acts) (length legs + 1)) (nat_le (length legs) MAX_LEGS) (are_acts acts) four.0 in
        let times = times_of acts three.2 in
        let rows = rows_back (rows_of acts legs) (rows_clean acts legs named.0 times named.1 four.1) in
        (rw (rows, acts_back acts legs named.0 times), rw (rows, legs_back acts legs (grind (arith, nat_tests)) named.1 four.1))
