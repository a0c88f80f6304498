-- Stop calls whose stop and offset are read are sound.
use Rattle.records.proofs.Common.{◌≡◌, List, ap, ℕ, length, ◌∙◌, arith, map, [], ◌<◌, sym, None, Some, ◌∷◌, refl, true, Bool, Option, false, cond, ◌&&◌, ◌≤◌}
use Rattle.records.proofs.Common.{not, ◌||◌, nat_tests, list_all, nat_eq, nat_lt, is_some, nat_le, unwrap_or, number_of, LAST_SECOND, MAX_ROUTE_LINKS}
use Rattle.records.proofs.Common.{MAX_ROUTES, numbers_of, parts_of, are_digits, number_in, value_of}
use Rattle.records.{proofs.Numbering.numbered_within, proofs.Sound.numbers_known, specs.Lists.part}
use Rattle.limits.specs.declared.TheConstants.{MAX_CALLS}
use Rattle.events.specs.declared.lists.StopCall.{StopCall}
use Rattle.rows.specs.Schedules.{is_way, is_unserved, are_drivable, is_sound_call}
use Rattle.rows.specs.{Stops.stop_link, declared.schedule.StopRow.StopRow}
use Rattle.schedule.specs.{Calls.text_of, Calls.call_text, Calls.call_of, Routes.is_too_much, declared.calls.CallText.CallText}

-- a number of a range is at most its end
in_range : (b : Bool) (n value high : ℕ) → cond b (Some value) None ≡ Some n → (b ≡ true → value ≤ high) → n ≤ high
in_range true n value high h more = let same : value ≡ n = cc in omega (arith, same, more refl)
in_range false n value high h more = cc

number_most : (low high n : ℕ) (bytes : List ℕ) → number_in low high bytes ≡ Some n → n ≤ high
unfolding number_in
number_most low high n bytes h = in_range _ n _ high h (λ test. last_le (are_digits bytes) (nat_le low (value_of bytes)) (value_of bytes) high test)
  where
    last_le : (a b : Bool) (v high : ℕ) → (a && b && nat_le v high) ≡ true → v ≤ high
    last_le a b v high test = grind (arith, nat_tests)

three : (n l k m : ℕ) → n < l → m ≤ LAST_SECOND → (nat_lt n l && nat_eq k k && nat_le m LAST_SECOND) ≡ true
three n l k m p q = grind (arith, nat_tests)

one_sound : (names : List (List ℕ)) (rows : List StopRow) (parts : List (List ℕ)) → length names ≡ length rows → is_some (text_of names parts).stop ≡ true → is_some (text_of names parts).offset ≡ true
    → is_sound_call rows (call_of rows (text_of names parts)) ≡ true
unfolding text_of call_of is_sound_call
one_sound names rows parts each stop offset = by (number_of (part parts 0) names) refl (number_in 0 LAST_SECOND (part parts 1)) refl stop offset
  where
    by : (o : Option ℕ) → number_of (part parts 0) names ≡ o → (p : Option ℕ) → number_in 0 LAST_SECOND (part parts 1) ≡ p → is_some o ≡ true → is_some p ≡ true
        → (nat_lt (unwrap_or o 0) (length rows) && nat_eq (stop_link rows (unwrap_or o 0)) (stop_link rows (unwrap_or o 0)) && nat_le (unwrap_or p 0) LAST_SECOND) ≡ true
    by None held p at stop offset = cc
    by (Some n) held None at stop offset = cc
    by (Some n) held (Some m) at stop offset =
        let within = numbered_within names (part parts 0) n held in
        three n (length rows) (stop_link rows n) m (omega (arith, each, within)) (number_most 0 LAST_SECOND m (part parts 1) at)

both_parts : (a b : Bool) → (a && b) ≡ true → (a ≡ true) × (b ≡ true)
both_parts a b h = (grind arith, grind arith)

and_true : (a b : Bool) → a ≡ true → b ≡ true → (a && b) ≡ true
and_true a b p q = grind arith

-- the calls of texts whose stops and offsets are all read
pub sound_calls : (names : List (List ℕ)) (rows : List StopRow) (items : List (List ℕ)) → length names ≡ length rows → list_all (λ t. is_some t.stop) (map (call_text names) items) ≡ true
    → list_all (λ t. is_some t.offset) (map (call_text names) items) ≡ true → list_all (is_sound_call rows) (map (call_of rows) (map (call_text names) items)) ≡ true
sound_calls names rows [] each stops offsets = refl
sound_calls names rows (item ∷ items) each stops offsets =
    let stop = both_parts (is_some (call_text names item).stop) _ stops in
    let offset = both_parts (is_some (call_text names item).offset) _ offsets in
    and_true _ _ (one_sound names rows (parts_of 58 item) each stop.0 offset.0) (sound_calls names rows items each stop.1 offset.1)

few_of : (a : Bool) (n m : ℕ) → (a || nat_lt MAX_ROUTE_LINKS n || nat_lt MAX_CALLS m) ≡ false → (nat_le n MAX_ROUTE_LINKS ≡ true) × (nat_le m MAX_CALLS ≡ true)
few_of a n m h = (grind (arith, nat_tests), grind (arith, nat_tests))

six : (a b c d e f : Bool) → a ≡ true → b ≡ true → c ≡ true → d ≡ true → e ≡ false → f ≡ true → (a && b && c && d && not e && f) ≡ true
six a b c d e f p q r s t u = grind arith

-- the links and the stop calls of a row without a reason are drivable
pub drivable : (links : List (List ℕ)) (ends : List (ℕ × ℕ)) (stops : List (List ℕ)) (rows : List StopRow) (names items call_items : List (List ℕ)) (numbers : List ℕ) (texts : List CallText) (calls : List StopCall) → length stops ≡ length rows
    → Some numbers ≡ numbers_of items links → texts ≡ map (call_text stops) call_items → calls ≡ map (call_of rows) texts → list_all (λ t. is_some t.offset) texts ≡ true → list_all (λ t. is_some t.stop) texts ≡ true
    → is_way ends numbers ≡ true → is_too_much names numbers calls ≡ false → is_unserved calls numbers ≡ false → are_drivable (length links) ends rows numbers calls ≡ true
unfolding are_drivable
drivable links ends stops rows names items call_items numbers texts calls each found read made offsets known way few served =
    let few_enough = few_of (nat_le MAX_ROUTES (length names)) (length numbers) (length calls) few in
    let at_texts = ap (λ (l : List CallText). map (call_of rows) l) read in
    six _ _ _ _ _ _ (numbers_known items links numbers found) way few_enough.0
    (ap (λ (l : List StopCall). list_all (is_sound_call rows) l) (made ∙ at_texts)
    ∙ sound_calls stops rows call_items each (ap (λ (l : List CallText). list_all (λ t. is_some t.stop) l) (sym read) ∙ known) (ap (λ (l : List CallText). list_all (λ t. is_some t.offset) l) (sym read) ∙ offsets))
    served few_enough.1
