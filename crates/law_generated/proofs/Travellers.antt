-- plans.csv of persons who each have five rows: an activity, a leg, an activity, a leg and an activity.
use Rattle.records.proofs.{Columns.with_fresh, Common.◌≡◌, Common.List, Common.ap, Common.ℕ, Common.length}
use Rattle.records.proofs.Common.{◌∙◌, arith, [], ◌<◌, None, Some, ◌++◌, ◌∷◌, refl, true, Bool, ◌+◌, false, ◌≤◌, ◌&&◌, ◌||◌, not, sym, subst, suc, zero, take}
use Rattle.records.proofs.Common.{drop, map, Row, field, is_none, is_name, number_of, is_held, with_name, flat_map, length-append, length-map, bytes_eq, Option}
use Rattle.std.proofs.{Common.◌*◌, Common.◌/◌, Common.◌%◌, lemmas.List.FromFn.length-range_with_len, lemmas.List.FromFn.map-range_with_len_more}
use Rattle.std.specs.{List.range_with_len, Prelude.get_or, Prelude.if◌then◌else◌}
use Rattle.events.{proofs.NameLists.number_of-absent, specs.declared.event.Mode.Mode}
use Rattle.limits.specs.declared.TheConstants.{MAX_LEGS, MAX_PERSONS}
use Rattle.plans.specs.declared.kinds.ElementKind.TheVariants as element
use Rattle.plans.proofs.{Naming.named_more, Naming.named_none, RowRead.before_more}
use Rattle.plans.specs.{Kinds.end_in, Kinds.is_leg, Kinds.kind_of, Refusals.begins_plan, Refusals.row_reason, Refusals.same_person, Refusals.same_plan}
use Rattle.plans.specs.Values.{begins_at, first_row, legs_to, named_by, person_in, reason_at, row_before, row_behind}
use Rattle.law_generated.proofs.Names.{differ, held_later, same}
use Rattle.law_generated.proofs.Elements.{IsOwn, IsSound, act_order, first_order, leg_order, next_order, row_passes, two_persons}

-- the five rows of a person
pub record IsTravel (links : List (List ℕ)) (ends : List (ℕ × ℕ)) (me : List ℕ) (rows : List Row) : Type 0 where
  pub home : Row
  pub there : Row
  pub work : Row
  pub back : Row
  pub last : Row
  pub are : rows ≡ home ∷ there ∷ work ∷ back ∷ last ∷ []
  pub by : Mode
  pub by_back : Mode
  pub named : is_name me ≡ true
  pub own_home : IsOwn me home
  pub own_there : IsOwn me there
  pub own_work : IsOwn me work
  pub own_back : IsOwn me back
  pub own_last : IsOwn me last
  pub sound_home : IsSound links ends element.Act home
  pub sound_there : IsSound links ends (element.Leg (Some by)) there
  pub sound_work : IsSound links ends element.Act work
  pub sound_back : IsSound links ends (element.Leg (Some by_back)) back
  pub sound_last : IsSound links ends element.Act last
  pub home_ends : is_none (end_in home) ≡ false
  pub work_ends : is_none (end_in work) ≡ false

module _ (links : List (List ℕ)) (ends : List (ℕ × ℕ)) (me : ℕ → List ℕ) (block : ℕ → List Row) (count : ℕ) (few : count ≤ 65536)
    (travels : (i : ℕ) → i < count → IsTravel links ends (me i) (block i)) (apart : (i j : ℕ) → i < count → j < count → me i ≡ me j → i ≡ j) where
  abbrev rows : List Row
  rows = flat_map block (range_with_len 0 count)

  five : (i : ℕ) → i < count → length (block i) ≡ 5
  five i less = ap length (travels i less).are

  long_from : (a n : ℕ) → a + n ≤ count → length (flat_map block (range_with_len a n)) ≡ 5 * n
  long_from a zero within = refl
  long_from a (suc n) within =
      omega (arith, length-append (block a) (flat_map block (range_with_len (a + 1) n)), five a (omega (arith, within)), long_from (a + 1) n (omega (arith, within)))

  pub long : length (flat_map block (range_with_len 0 count)) ≡ 5 * count
  long = long_from 0 count (omega arith)

  -- what stands behind five rows
  skip : (five rest : List Row) (k : ℕ) → length five ≡ 5 → get_or (five ++ rest) (5 + k) [] ≡ get_or rest k []
  skip [] rest k h = absurd (omega (arith, h))
  skip (a ∷ []) rest k h = absurd (omega (arith, h))
  skip (a ∷ b ∷ []) rest k h = absurd (omega (arith, h))
  skip (a ∷ b ∷ c ∷ []) rest k h = absurd (omega (arith, h))
  skip (a ∷ b ∷ c ∷ d ∷ []) rest k h = absurd (omega (arith, h))
  skip (a ∷ b ∷ c ∷ d ∷ e ∷ []) rest k h =
      let place : 5 + k ≡ suc (suc (suc (suc (suc k)))) = omega arith in
      ap (λ (n : ℕ). get_or (a ∷ b ∷ c ∷ d ∷ e ∷ rest) n []) place
  skip (a ∷ b ∷ c ∷ d ∷ e ∷ f ∷ more) rest k h = absurd (omega (arith, h))

  front : (xs rest : List Row) (j : ℕ) → j < length xs → get_or (xs ++ rest) j [] ≡ get_or xs j []
  front [] rest j less = absurd (omega (arith, less))
  front (x ∷ xs) rest zero less = refl
  front (x ∷ xs) rest (suc j) less = front xs rest j (omega (arith, less))

  -- the row of a person
  at_from : (a n k j : ℕ) → a + n ≤ count → k < n → j < 5 → get_or (flat_map block (range_with_len a n)) (5 * k + j) [] ≡ get_or (block (a + k)) j []
  at_from a zero k j within less small = absurd (omega (arith, less))
  at_from a (suc n) zero j within less small =
      let place : 5 * 0 + j ≡ j = omega arith in
      let here : a + 0 ≡ a = omega arith in
      ap (λ (p : ℕ). get_or (block a ++ flat_map block (range_with_len (a + 1) n)) p []) place
      ∙ front (block a) (flat_map block (range_with_len (a + 1) n)) j (omega (arith, small, five a (omega (arith, within))))
      ∙ ap (λ (i : ℕ). get_or (block i) j []) (sym here)
  at_from a (suc n) (suc k) j within less small =
      let place : 5 * suc k + j ≡ 5 + (5 * k + j) = omega arith in
      let next : a + 1 + k ≡ a + suc k = omega arith in
      ap (λ (p : ℕ). get_or (block a ++ flat_map block (range_with_len (a + 1) n)) p []) place
      ∙ skip (block a) (flat_map block (range_with_len (a + 1) n)) (5 * k + j) (five a (omega (arith, within)))
      ∙ at_from (a + 1) n k j (omega (arith, within)) (omega (arith, less)) small
      ∙ ap (λ (i : ℕ). get_or (block i) j []) next

  pub row_at : (i j : ℕ) → i < count → j < 5 → get_or (flat_map block (range_with_len 0 count)) (5 * i + j) [] ≡ get_or (block i) j []
  row_at i j less small =
      let first : 0 + i ≡ i = omega arith in
      at_from 0 count i j (omega arith) less small ∙ ap (λ (k : ℕ). get_or (block k) j []) first

  -- a person's rows, by their places
  module _ (i : ℕ) (less : i < count) where
    abbrev trip : IsTravel links ends (me i) (block i)
    trip = travels i less

    home_at : get_or (flat_map block (range_with_len 0 count)) (5 * i + 0) [] ≡ (travels i less).home
    home_at = row_at i 0 less (omega arith) ∙ ap (λ (l : List Row). get_or l 0 []) (travels i less).are

    there_at : get_or (flat_map block (range_with_len 0 count)) (5 * i + 1) [] ≡ (travels i less).there
    there_at = row_at i 1 less (omega arith) ∙ ap (λ (l : List Row). get_or l 1 []) (travels i less).are

    work_at : get_or (flat_map block (range_with_len 0 count)) (5 * i + 2) [] ≡ (travels i less).work
    work_at = row_at i 2 less (omega arith) ∙ ap (λ (l : List Row). get_or l 2 []) (travels i less).are

    back_at : get_or (flat_map block (range_with_len 0 count)) (5 * i + 3) [] ≡ (travels i less).back
    back_at = row_at i 3 less (omega arith) ∙ ap (λ (l : List Row). get_or l 3 []) (travels i less).are

    last_at : get_or (flat_map block (range_with_len 0 count)) (5 * i + 4) [] ≡ (travels i less).last
    last_at = row_at i 4 less (omega arith) ∙ ap (λ (l : List Row). get_or l 4 []) (travels i less).are

    -- all of them are his
    own_at : (j : ℕ) → j < 5 → IsOwn (me i) (get_or (flat_map block (range_with_len 0 count)) (5 * i + j) [])
    own_at zero small = subst (IsOwn (me i)) (sym home_at) (travels i less).own_home
    own_at (suc zero) small = subst (IsOwn (me i)) (sym there_at) (travels i less).own_there
    own_at (suc (suc zero)) small = subst (IsOwn (me i)) (sym work_at) (travels i less).own_work
    own_at (suc (suc (suc zero))) small = subst (IsOwn (me i)) (sym back_at) (travels i less).own_back
    own_at (suc (suc (suc (suc zero)))) small = subst (IsOwn (me i)) (sym last_at) (travels i less).own_last
    own_at (suc (suc (suc (suc (suc j))))) small = absurd (omega (arith, small))

  -- THE PERSONS OF THE ROWS BEFORE A PLACE
  one_more : (n : ℕ) (persons : List (List ℕ)) → n < 5 * count → named_by person_in (take n (flat_map block (range_with_len 0 count))) ≡ persons
      → named_by person_in (take (n + 1) (flat_map block (range_with_len 0 count))) ≡ with_name persons (field (get_or (flat_map block (range_with_len 0 count)) n []) 0)
  one_more n persons less before =
      named_more person_in (flat_map block (range_with_len 0 count)) n (omega (arith, less, long))
      ∙ ap (λ (known : List (List ℕ)). with_name known (field (get_or (flat_map block (range_with_len 0 count)) n []) 0)) before

  unheld : (i a n : ℕ) → i < count → a + n ≤ i → is_held (me i) (map me (range_with_len a n)) ≡ false
  unheld i a zero less within = refl
  unheld i a (suc n) less within =
      neither (bytes_eq (me i) (me a)) (is_held (me i) (map me (range_with_len (a + 1) n)))
      (differ (me i) (me a) (λ e. omega (arith, apart i a less (omega (arith, less, within)) e, within)))
      (unheld i (a + 1) n less (omega (arith, within)))
    where
      neither : (a b : Bool) → a ≡ false → b ≡ false → (a || b) ≡ false
      neither a b p q = grind arith

  fresh : (i : ℕ) → i < count → number_of (me i) (map me (range_with_len 0 i)) ≡ None
  fresh i less = number_of-absent (me i) (map me (range_with_len 0 i)) (unheld i 0 i less (omega arith))

  with_me : (i : ℕ) → map me (range_with_len 0 (i + 1)) ≡ map me (range_with_len 0 i) ++ me i ∷ []
  with_me i = map-range_with_len_more me 0 i i (omega arith)

  held_me : (i : ℕ) → is_held (me i) (map me (range_with_len 0 (i + 1))) ≡ true
  held_me i =
      ap (is_held (me i)) (with_me i) ∙ held_later (me i) (map me (range_with_len 0 i)) (me i ∷ []) (alone (bytes_eq (me i) (me i)) (same (me i)))
    where
      alone : (b : Bool) → b ≡ true → (b || false) ≡ true
      alone b h = grind arith

  with_old : (names : List (List ℕ)) (name : List ℕ) → is_held name names ≡ true → with_name names name ≡ names
  with_old names name h = rw h refl

  -- behind a row of his, the person is known
  later_row : (i j : ℕ) → i < count → j < 5 → named_by person_in (take (5 * i + j) (flat_map block (range_with_len 0 count))) ≡ map me (range_with_len 0 (i + 1))
      → named_by person_in (take (5 * i + j + 1) (flat_map block (range_with_len 0 count))) ≡ map me (range_with_len 0 (i + 1))
  later_row i j less small before =
      one_more (5 * i + j) (map me (range_with_len 0 (i + 1))) (omega (arith, less, small)) before
      ∙ ap (with_name (map me (range_with_len 0 (i + 1)))) (own_at i less j small).who
      ∙ with_old (map me (range_with_len 0 (i + 1))) (me i) (held_me i)

  first_row_of : (i : ℕ) → i < count → named_by person_in (take (5 * i) (flat_map block (range_with_len 0 count))) ≡ map me (range_with_len 0 i)
      → named_by person_in (take (5 * i + 1) (flat_map block (range_with_len 0 count))) ≡ map me (range_with_len 0 (i + 1))
  first_row_of i less before =
      let none : 5 * i + 0 ≡ 5 * i = omega arith in
      one_more (5 * i) (map me (range_with_len 0 i)) (omega (arith, less)) before
      ∙ ap (with_name (map me (range_with_len 0 i)))
      (ap (λ (n : ℕ). field (get_or (flat_map block (range_with_len 0 count)) n []) 0) (sym none) ∙ (own_at i less 0 (omega arith)).who)
      ∙ with_fresh (map me (range_with_len 0 i)) (me i) (fresh i less) ∙ sym (with_me i)

  -- those of all persons before, and from the second row of a person on he himself too
  persons_at : (i : ℕ) → i ≤ count → named_by person_in (take (5 * i) (flat_map block (range_with_len 0 count))) ≡ map me (range_with_len 0 i)
  persons_at zero within = named_none person_in
  persons_at (suc i) within =
      let less : i < count = omega (arith, within) in
      let all : List Row = flat_map block (range_with_len 0 count) in
      let one = first_row_of i less (persons_at i (omega (arith, within))) in
      let two = later_row i 1 less (omega arith) one in
      let two_place : 5 * i + 1 + 1 ≡ 5 * i + 2 = omega arith in
      let three_place : 5 * i + 2 + 1 ≡ 5 * i + 3 = omega arith in
      let four_place : 5 * i + 3 + 1 ≡ 5 * i + 4 = omega arith in
      let end_place : 5 * suc i ≡ 5 * i + 4 + 1 = omega arith in
      let next : i + 1 ≡ suc i = omega arith in
      let three = later_row i 2 less (omega arith) (ap (λ (n : ℕ). named_by person_in (take n all)) (sym two_place) ∙ two) in
      let four = later_row i 3 less (omega arith) (ap (λ (n : ℕ). named_by person_in (take n all)) (sym three_place) ∙ three) in
      let five_done = later_row i 4 less (omega arith) (ap (λ (n : ℕ). named_by person_in (take n all)) (sym four_place) ∙ four) in
      ap (λ (n : ℕ). named_by person_in (take n all)) end_place ∙ five_done ∙ ap (λ (k : ℕ). map me (range_with_len 0 k)) next

  known_at : (i j : ℕ) → i < count → j < 4 → named_by person_in (take (5 * i + suc j) (flat_map block (range_with_len 0 count))) ≡ map me (range_with_len 0 (i + 1))
  known_at i zero less small = first_row_of i less (persons_at i (omega (arith, less)))
  known_at i (suc j) less small =
      let place : 5 * i + suc (suc j) ≡ 5 * i + suc j + 1 = omega arith in
      ap (λ (n : ℕ). named_by person_in (take n (flat_map block (range_with_len 0 count)))) place
      ∙ later_row i (suc j) less (omega (arith, small)) (known_at i j less (omega (arith, small)))

  -- WHY NO ROW IS REFUSED
  reason_with : (place : ℕ) (persons : List (List ℕ)) (before : Option Row) (row : Row) (next : Option Row)
      → named_by person_in (take place (flat_map block (range_with_len 0 count))) ≡ persons → row_before (flat_map block (range_with_len 0 count)) place ≡ before
      → get_or (flat_map block (range_with_len 0 count)) place [] ≡ row → row_behind (flat_map block (range_with_len 0 count)) place ≡ next
      → row_reason links ends persons (legs_to (flat_map block (range_with_len 0 count)) place) before row next ≡ None
      → reason_at links ends (flat_map block (range_with_len 0 count)) place ≡ None
  unfolding reason_at
  reason_with place persons before row next persons_are before_is row_is next_is none =
      let all : List Row = flat_map block (range_with_len 0 count) in
      let legs = legs_to all place in
      ap (λ (known : List (List ℕ)). row_reason links ends known legs (row_before all place) (get_or all place []) (row_behind all place)) persons_are
      ∙ ap (λ (b : Option Row). row_reason links ends persons legs b (get_or all place []) (row_behind all place)) before_is
      ∙ ap (λ (r : Row). row_reason links ends persons legs before r (row_behind all place)) row_is
      ∙ ap (λ (n : Option Row). row_reason links ends persons legs before row n) next_is
      ∙ none

  first_of_drop : (xs : List Row) (k : ℕ) → k < length xs → first_row (drop k xs) ≡ Some (get_or xs k [])
  first_of_drop [] k less = absurd (omega (arith, less))
  first_of_drop (x ∷ xs) zero less = refl
  first_of_drop (x ∷ xs) (suc k) less = first_of_drop xs k (omega (arith, less))

  behind_at : (n : ℕ) → n + 1 < 5 * count → row_behind (flat_map block (range_with_len 0 count)) n ≡ Some (get_or (flat_map block (range_with_len 0 count)) (n + 1) [])
  unfolding row_behind
  behind_at n less = first_of_drop (flat_map block (range_with_len 0 count)) (n + 1) (omega (arith, less, long))

  before_at : (i j : ℕ) (row : Row) → get_or (flat_map block (range_with_len 0 count)) (5 * i + j) [] ≡ row
      → row_before (flat_map block (range_with_len 0 count)) (5 * i + suc j) ≡ Some row
  before_at i j row is =
      let place : 5 * i + suc j ≡ 5 * i + j + 1 = omega arith in
      ap (row_before (flat_map block (range_with_len 0 count))) place ∙ before_more (flat_map block (range_with_len 0 count)) (5 * i + j)
      ∙ ap (λ (r : Row). Some r) is

  few_known : (i : ℕ) → i < count → length (map me (range_with_len 0 i)) < MAX_PERSONS
  few_known i less = omega (arith, length-map (range_with_len 0 i) me, length-range_with_len 0 i, less, few)

  -- the last row of a person is of another than the first row of the next one
  parted : (i : ℕ) → i + 1 < count → bytes_eq (me i) (me (i + 1)) ≡ false
  parted i less = differ (me i) (me (i + 1)) (λ e. let same_one : i ≡ i + 1 = apart i (i + 1) (omega (arith, less)) less e in omega (arith, same_one))

  reason_home : (i : ℕ) → i < count → reason_at links ends (flat_map block (range_with_len 0 count)) (5 * i + 0) ≡ None
  unfolding row_before
  reason_home zero less =
      let trip = travels 0 less in
      let all : List Row = flat_map block (range_with_len 0 count) in
      let next = row_behind all (5 * 0 + 0) in
      reason_with (5 * 0 + 0) [] None trip.home next (named_none person_in) refl (home_at 0 less) refl
      (row_passes links ends [] (legs_to all (5 * 0 + 0)) None element.Act trip.home next (me 0) trip.named trip.own_home trip.sound_home
      (first_order [] (legs_to all (5 * 0 + 0)) trip.home next (me 0) trip.own_home (fresh 0 less) (few_known 0 less)))
  reason_home (suc i) less =
      let trip = travels (suc i) less in
      let other = travels i (omega (arith, less)) in
      let all : List Row = flat_map block (range_with_len 0 count) in
      let place : 5 * suc i + 0 ≡ 5 * i + 4 + 1 = omega arith in
      let whole : 5 * suc i + 0 ≡ 5 * suc i = omega arith in
      let one : i + 1 ≡ suc i = omega arith in
      let known : List (List ℕ) = map me (range_with_len 0 (suc i)) in
      let next = row_behind all (5 * suc i + 0) in
      let two : bytes_eq (me i) (me (suc i)) ≡ false = ap (λ (k : ℕ). bytes_eq (me i) (me k)) (sym one) ∙ parted i (omega (arith, less)) in
      reason_with (5 * suc i + 0) known (Some other.last) trip.home next
      (ap (λ (n : ℕ). named_by person_in (take n all)) whole ∙ persons_at (suc i) (omega (arith, less)))
      (ap (row_before all) place ∙ before_more all (5 * i + 4) ∙ ap (λ (r : Row). Some r) (last_at i (omega (arith, less))))
      (home_at (suc i) less) refl
      (row_passes links ends known (legs_to all (5 * suc i + 0)) (Some other.last) element.Act trip.home next (me (suc i)) trip.named trip.own_home trip.sound_home
      (next_order known (legs_to all (5 * suc i + 0)) other.last trip.home next (me (suc i)) (me i) trip.own_home other.own_last two (fresh (suc i) less)
      (few_known (suc i) less)))

  -- an activity behind a leg
  reason_act : (i j : ℕ) (less : i < count) → j < 4 → (before row : Row) (mode : Mode)
      → get_or (flat_map block (range_with_len 0 count)) (5 * i + j) [] ≡ before
      → get_or (flat_map block (range_with_len 0 count)) (5 * i + suc j) [] ≡ row → IsOwn (me i) row → IsOwn (me i) before
      → kind_of before ≡ element.Leg (Some mode) → IsSound links ends element.Act row
      → reason_at links ends (flat_map block (range_with_len 0 count)) (5 * i + suc j) ≡ None
  reason_act i j less small before row mode before_is row_is own mine leg sound =
      let all : List Row = flat_map block (range_with_len 0 count) in
      let known : List (List ℕ) = map me (range_with_len 0 (i + 1)) in
      let place = 5 * i + suc j in
      reason_with place known (Some before) row (row_behind all place) (known_at i j less small) (before_at i j before before_is) row_is refl
      (row_passes links ends known (legs_to all place) (Some before) element.Act row (row_behind all place) (me i) (travels i less).named own sound
      (act_order known (legs_to all place) before row (row_behind all place) (me i) mode own mine leg))

  -- a leg between two activities
  reason_leg : (i j : ℕ) (less : i < count) → j < 3 → (before row next : Row) (mode : Mode)
      → get_or (flat_map block (range_with_len 0 count)) (5 * i + j) [] ≡ before
      → get_or (flat_map block (range_with_len 0 count)) (5 * i + suc j) [] ≡ row
      → get_or (flat_map block (range_with_len 0 count)) (5 * i + suc (suc j)) [] ≡ next
      → IsOwn (me i) row → IsOwn (me i) before → IsOwn (me i) next → kind_of before ≡ element.Act → is_none (end_in before) ≡ false
      → IsSound links ends (element.Leg (Some mode)) row → legs_to (flat_map block (range_with_len 0 count)) (5 * i + suc j) < MAX_LEGS
      → reason_at links ends (flat_map block (range_with_len 0 count)) (5 * i + suc j) ≡ None
  reason_leg i j less small before row next mode before_is row_is next_is own mine behind act ended sound few_before =
      let all : List Row = flat_map block (range_with_len 0 count) in
      let known : List (List ℕ) = map me (range_with_len 0 (i + 1)) in
      let place = 5 * i + suc j in
      let after : 5 * i + suc j + 1 ≡ 5 * i + suc (suc j) = omega arith in
      let next_at : row_behind all place ≡ Some next =
      behind_at place (omega (arith, less, small)) ∙ ap (λ (n : ℕ). Some (get_or all n [])) after ∙ ap (λ (r : Row). Some r) next_is in
      reason_with place known (Some before) row (Some next) (known_at i j less (omega (arith, small))) (before_at i j before before_is) row_is next_at
      (row_passes links ends known (legs_to all place) (Some before) (element.Leg (Some mode)) row (Some next) (me i) (travels i less).named own sound
      (leg_order known (legs_to all place) before row next (me i) mode (travels i less).named own mine behind act ended few_before))

  -- a plan has few legs
  bounded : (b c : Bool) (k : ℕ) → (if b then 0 else k) + (if c then 1 else 0) ≤ k + 1
  bounded true true k = omega arith
  bounded true false k = omega arith
  bounded false true k = omega arith
  bounded false false k = omega arith

  afresh : (b c : Bool) (k : ℕ) → b ≡ true → (if b then 0 else k) + (if c then 1 else 0) ≤ 1
  afresh true true k h = omega arith
  afresh true false k h = omega arith
  afresh false c k h = absurd (cc h)

  legs_more : (n : ℕ) → legs_to (flat_map block (range_with_len 0 count)) (suc n) ≤ legs_to (flat_map block (range_with_len 0 count)) n + 1
  unfolding legs_to
  legs_more n =
      let all : List Row = flat_map block (range_with_len 0 count) in
      bounded (begins_at all n) (is_leg (kind_of (get_or all n []))) (legs_to all n)

  legs_first : (n : ℕ) → begins_at (flat_map block (range_with_len 0 count)) n ≡ true → legs_to (flat_map block (range_with_len 0 count)) (suc n) ≤ 1
  unfolding legs_to
  legs_first n begins =
      let all : List Row = flat_map block (range_with_len 0 count) in
      afresh (begins_at all n) (is_leg (kind_of (get_or all n []))) (legs_to all n) begins

  begins : (i : ℕ) → i < count → begins_at (flat_map block (range_with_len 0 count)) (5 * i + 0) ≡ true
  unfolding row_before same_plan
  begins zero less = refl
  begins (suc i) less =
      let all : List Row = flat_map block (range_with_len 0 count) in
      let place : 5 * suc i + 0 ≡ 5 * i + 4 + 1 = omega arith in
      let one : i + 1 ≡ suc i = omega arith in
      let two : bytes_eq (me i) (me (suc i)) ≡ false = ap (λ (k : ℕ). bytes_eq (me i) (me k)) (sym one) ∙ parted i (omega (arith, less)) in
      let other = travels i (omega (arith, less)) in
      let trip = travels (suc i) less in
      ap (λ (b : Option Row). begins_plan b (get_or all (5 * suc i + 0) []))
      (ap (row_before all) place ∙ before_more all (5 * i + 4) ∙ ap (λ (r : Row). Some r) (last_at i (omega (arith, less))))
      ∙ ap (begins_plan (Some other.last)) (home_at (suc i) less)
      ∙ not_both (same_person other.last trip.home) _ (two_persons (me (suc i)) (me i) trip.home other.last trip.own_home other.own_last two)
    where
      not_both : (a b : Bool) → a ≡ false → not (a && b) ≡ true
      not_both a b h = grind arith

  few_legs : (i j : ℕ) → i < count → j < 4 → legs_to (flat_map block (range_with_len 0 count)) (5 * i + suc j) ≤ suc j
  few_legs i zero less small =
      let place : 5 * i + 1 ≡ suc (5 * i + 0) = omega arith in
      let bound = legs_first (5 * i + 0) (begins i less) in
      omega (arith, ap (legs_to (flat_map block (range_with_len 0 count))) place, bound)
  few_legs i (suc j) less small =
      let place : 5 * i + suc (suc j) ≡ suc (5 * i + suc j) = omega arith in
      omega (arith, ap (legs_to (flat_map block (range_with_len 0 count))) place, legs_more (5 * i + suc j), few_legs i j less (omega (arith, small)))

  by_row : (i j : ℕ) → i < count → j < 5 → reason_at links ends (flat_map block (range_with_len 0 count)) (5 * i + j) ≡ None
  by_row i zero less small = reason_home i less
  by_row i (suc zero) less small =
      let trip = travels i less in
      reason_leg i 0 less (omega arith) trip.home trip.there trip.work trip.by (home_at i less) (there_at i less) (work_at i less) trip.own_there
      trip.own_home trip.own_work trip.sound_home.is trip.home_ends trip.sound_there (omega (arith, few_legs i 0 less (omega arith)))
  by_row i (suc (suc zero)) less small =
      let trip = travels i less in
      reason_act i 1 less (omega arith) trip.there trip.work trip.by (there_at i less) (work_at i less) trip.own_work trip.own_there trip.sound_there.is trip.sound_work
  by_row i (suc (suc (suc zero))) less small =
      let trip = travels i less in
      reason_leg i 2 less (omega arith) trip.work trip.back trip.last trip.by_back (work_at i less) (back_at i less) (last_at i less) trip.own_back
      trip.own_work trip.own_last trip.sound_work.is trip.work_ends trip.sound_back (omega (arith, few_legs i 2 less (omega arith)))
  by_row i (suc (suc (suc (suc zero)))) less small =
      let trip = travels i less in
      reason_act i 3 less (omega arith) trip.back trip.last trip.by_back (back_at i less) (last_at i less) trip.own_last trip.own_back trip.sound_back.is trip.sound_last
  by_row i (suc (suc (suc (suc (suc j))))) less small = absurd (omega (arith, small))

  -- no row has a reason
  pub no_row_refused : (place : ℕ) → place < length (flat_map block (range_with_len 0 count))
      → reason_at links ends (flat_map block (range_with_len 0 count)) place ≡ None
  no_row_refused place less =
      let split : place ≡ 5 * (place / 5) + place % 5 = omega arith in
      ap (reason_at links ends (flat_map block (range_with_len 0 count))) split
      ∙ by_row (place / 5) (place % 5) (omega (arith, less, long)) (omega arith)
