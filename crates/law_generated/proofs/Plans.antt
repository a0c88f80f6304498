-- plans.csv of a grid.
use Rattle.records.proofs.Common.{◌≡◌, List, ap, ℕ, length, ◌∙◌, arith, [], ◌<◌, None, Some, ◌++◌, ◌∷◌, refl, true, Bool, ◌+◌, ◌≤◌, ◌^◌, ◌&&◌, map, sym, subst}
use Rattle.records.proofs.Common.{list_all, list_all-append, flat_map, Row, decimal, head_reason, is_name, length-append, suc, zero, ◌-◌, nat_le, nat_tests}
use Rattle.records.specs.Fields.{are_fields, is_header}
use Rattle.std.{proofs.Common.◌*◌, proofs.lemmas.List.Concat.flat_map-append, specs.List.range_with_len, specs.Prelude.codes, specs.Prelude.get_or}
use Rattle.plan_text.{proofs.Joins.and_true, specs.Lines.row_line}
use Rattle.plans.specs.{Kinds.plans_header, Values.plans_fault, Values.reason_at, Values.rows_fault}
use Rattle.workload.specs.{Commuters.commuter, Links.grid_links, Rows.act_row, Rows.leg_row, Rows.link_name, Rows.person_name, Rows.person_rows, Rows.stop_name}
use Rattle.workload.specs.{Rows.way_back, Rows.way_there, Texts.plans_text, declared.TheConstants.PERSONS_PER_NODE}
use Rattle.workload.specs.declared.{TheConstants.WALK_SECONDS, TheConstants.WORK_SECONDS, commuters.Commute.Commute, commuters.Commuter.Commuter}
use Rattle.workload.specs.declared.commuters.Commute.TheVariants as commute
use Rattle.law_generated.proofs.Commuting.{IsCommuter, IsPlace, commutes, travel}
use Rattle.law_generated.proofs.Fields.{few_digits, lettered, name_plain, name_short, number_of_name, number_plain, number_short}
use Rattle.law_generated.proofs.{Grid.square_small, Grid.square_some, Lines.is_plain, Lines.is_row, Lines.is_short, Lines.is_short_row, Links.link_named}
use Rattle.law_generated.proofs.{Stops.stop_named, Tables.IsFile, Tables.head_passes, Tables.lines_are_file, Tables.no_fault}
use Rattle.law_generated.proofs.Travellers.{no_row_refused, long, row_at}

header_named : is_header plans_header plans_header ≡ true
unfolding are_fields
header_named = refl

five : (a b c d e : Bool) → a ≡ true → b ≡ true → c ≡ true → d ≡ true → e ≡ true → (a && (b && (c && (d && (e && true))))) ≡ true
five a b c d e q r s t u = grind arith

five_all : {A : Type 0} (p : A → Bool) (a b c d e : A) → p a ≡ true → p b ≡ true → p c ≡ true → p d ≡ true → p e ≡ true
    → list_all p (a ∷ b ∷ c ∷ d ∷ e ∷ []) ≡ true
five_all p a b c d e q r s t u = five (p a) (p b) (p c) (p d) (p e) q r s t u

seven : (a b c d e f g : Bool) → a ≡ true → b ≡ true → c ≡ true → d ≡ true → e ≡ true → f ≡ true → g ≡ true
    → (a && (b && (c && (d && (e && (f && (g && true))))))) ≡ true
seven a b c d e f g h i j k l m n = grind arith

-- a test of fields that names and numbers pass
module _ (p : List ℕ → Bool) (names : (name : List ℕ) → is_name name ≡ true → p name ≡ true) (numbers : (n : ℕ) → n < 2 ^ 32 → p (decimal n) ≡ true)
    (nothing : p [] ≡ true) (nought : p (codes "0") ≡ true) (an_act : p (codes "act") ≡ true) (a_leg : p (codes "leg") ≡ true)
    (home : p (codes "home") ≡ true) (work : p (codes "work") ≡ true) (car : p (codes "car") ≡ true) (walk : p (codes "walk") ≡ true) (pt : p (codes "pt") ≡ true)
    (size : ℕ) (some : 3 ≤ size) (few : size ≤ 100) (bus : p (codes "bus s0 " ++ stop_name (size - 2)) ≡ true) (person : ℕ) (less : person < 2 ^ 32) where
  me : p (person_name person) ≡ true
  me = names (person_name person) (lettered 112 person refl less)

  act_good : (kind : List ℕ) (link : ℕ × ℕ) (second : ℕ) → p kind ≡ true → IsPlace size link → second < 2 ^ 32
      → list_all p (act_row person kind link (Some second)) ≡ true
  act_good kind link second good place fits =
      seven (p (person_name person)) (p (codes "0")) (p (codes "act")) (p kind) (p (link_name link)) (p (decimal second)) (p []) me nought an_act good
      (names (link_name link) (link_named size some few link place.inside)) (numbers second fits) nothing

  last_good : (kind : List ℕ) (link : ℕ × ℕ) → p kind ≡ true → IsPlace size link → list_all p (act_row person kind link None) ≡ true
  last_good kind link good place =
      seven (p (person_name person)) (p (codes "0")) (p (codes "act")) (p kind) (p (link_name link)) (p []) (p []) me nought an_act good
      (names (link_name link) (link_named size some few link place.inside)) nothing nothing

  leg_good : (mode seconds route : List ℕ) → p mode ≡ true → p seconds ≡ true → p route ≡ true → list_all p (leg_row person mode seconds route) ≡ true
  leg_good mode seconds route q r s =
      seven (p (person_name person)) (p (codes "0")) (p (codes "leg")) (p mode) (p []) (p seconds) (p route) me nought a_leg q nothing r s

  there_good : (c : Commute) → list_all p (way_there size person c) ≡ true
  there_good commute.Bus = leg_good (codes "pt") [] (codes "bus s0 " ++ stop_name (size - 2)) pt nothing bus
  there_good commute.Walk = leg_good (codes "walk") (decimal WALK_SECONDS) [] walk (numbers WALK_SECONDS (omega arith)) nothing
  there_good commute.Car = leg_good (codes "car") [] [] car nothing nothing

  back_good : (c : Commute) → list_all p (way_back person c) ≡ true
  back_good commute.Bus = leg_good (codes "walk") (decimal WALK_SECONDS) [] walk (numbers WALK_SECONDS (omega arith)) nothing
  back_good commute.Walk = leg_good (codes "walk") (decimal WALK_SECONDS) [] walk (numbers WALK_SECONDS (omega arith)) nothing
  back_good commute.Car = leg_good (codes "car") [] [] car nothing nothing

  -- every field of a person's rows passes
  pub fields_good : (c : Commuter) → IsCommuter size c → list_all (list_all p) (person_rows size person c) ≡ true
  fields_good c is =
      let leaves = is.leaves in
      five_all (list_all p) (act_row person (codes "home") c.home (Some c.leaves)) (way_there size person c.commute)
      (act_row person (codes "work") c.work (Some (c.leaves + WORK_SECONDS))) (way_back person c.commute) (act_row person (codes "home") c.home None)
      (act_good (codes "home") c.home c.leaves home is.home (omega (arith, leaves))) (there_good c.commute)
      (act_good (codes "work") c.work (c.leaves + WORK_SECONDS) work is.work (omega (arith, leaves))) (back_good c.commute)
      (last_good (codes "home") c.home home is.home)

-- a row of seven fields, each of which may stand in a line, and is short
rows_plain : (size person : ℕ) (c : Commuter) → list_all (list_all is_plain) (person_rows size person c) ≡ true → list_all is_row (person_rows size person c) ≡ true
rows_plain size person c h = by c.commute h
  where
    by : (k : Commute)
        → list_all (list_all is_plain) (act_row person (codes "home") c.home (Some c.leaves) ∷ way_there size person k
        ∷ act_row person (codes "work") c.work (Some (c.leaves + WORK_SECONDS)) ∷ way_back person k ∷ act_row person (codes "home") c.home None ∷ []) ≡ true
        → list_all is_row (act_row person (codes "home") c.home (Some c.leaves) ∷ way_there size person k
        ∷ act_row person (codes "work") c.work (Some (c.leaves + WORK_SECONDS)) ∷ way_back person k ∷ act_row person (codes "home") c.home None ∷ []) ≡ true
    by commute.Bus h = h
    by commute.Walk h = h
    by commute.Car h = h

rows_short : (size person : ℕ) (c : Commuter) → list_all (list_all is_short) (person_rows size person c) ≡ true → list_all is_short_row (person_rows size person c) ≡ true
rows_short size person c h = by c.commute h
  where
    by : (k : Commute)
        → list_all (list_all is_short) (act_row person (codes "home") c.home (Some c.leaves) ∷ way_there size person k
        ∷ act_row person (codes "work") c.work (Some (c.leaves + WORK_SECONDS)) ∷ way_back person k ∷ act_row person (codes "home") c.home None ∷ []) ≡ true
        → list_all is_short_row (act_row person (codes "home") c.home (Some c.leaves) ∷ way_there size person k
        ∷ act_row person (codes "work") c.work (Some (c.leaves + WORK_SECONDS)) ∷ way_back person k ∷ act_row person (codes "home") c.home None ∷ []) ≡ true
    by commute.Bus h = h
    by commute.Walk h = h
    by commute.Car h = h

all_blocks : (p : Row → Bool) (block : ℕ → List Row) (limit : ℕ) → ((i : ℕ) → i < limit → list_all p (block i) ≡ true) → (a n : ℕ) → a + n ≤ limit
    → list_all p (flat_map block (range_with_len a n)) ≡ true
all_blocks p block limit each a zero within = refl
all_blocks p block limit each a (suc n) within =
    list_all-append p (block a) (flat_map block (range_with_len (a + 1) n))
    ∙ and_true (list_all p (block a)) (list_all p (flat_map block (range_with_len (a + 1) n))) (each a (omega (arith, within)))
    (all_blocks p block limit each (a + 1) n (omega (arith, within)))

lines_of_blocks : (block : ℕ → List Row) (xs : List ℕ) → flat_map (λ i. flat_map row_line (block i)) xs ≡ flat_map row_line (flat_map block xs)
lines_of_blocks block [] = refl
lines_of_blocks block (x ∷ xs) =
    ap (λ (t : List ℕ). flat_map row_line (block x) ++ t) (lines_of_blocks block xs) ∙ sym (flat_map-append row_line (block x) (flat_map block xs))

module _ (size seed : ℕ) (some : 3 ≤ size) (few : size ≤ 100) where
  pub few_persons : PERSONS_PER_NODE * size * size ≤ 50000
  few_persons = omega (arith, square_small size few)

  some_persons : 5 ≤ PERSONS_PER_NODE * size * size
  some_persons = omega (arith, square_some size (omega (arith, some)))

  abbrev pub block : ℕ → List Row
  block person = person_rows size person (commuter size (grid_links size) seed person)

  bus_name : is_name (stop_name (size - 2)) ≡ true
  bus_name = stop_named size some few (size - 2) (omega (arith, some))

  bus_plain : is_plain (codes "bus s0 " ++ stop_name (size - 2)) ≡ true
  bus_plain = name_plain (stop_name (size - 2)) bus_name

  bus_short : is_short (codes "bus s0 " ++ stop_name (size - 2)) ≡ true
  bus_short =
      at_least (length (codes "bus s0 " ++ stop_name (size - 2))) 64
      (omega (arith, length-append (codes "bus s0 ") (stop_name (size - 2)), few_digits (size - 2) (omega (arith, few))))
    where
      at_least : (a b : ℕ) → a ≤ b → nat_le a b ≡ true
      at_least a b h = grind (arith, nat_tests)

  blocks_plain : (i : ℕ) → i < PERSONS_PER_NODE * size * size → list_all is_row (block i) ≡ true
  blocks_plain i less =
      rows_plain size i (commuter size (grid_links size) seed i)
      (fields_good is_plain name_plain number_plain refl refl refl refl refl refl refl refl refl size some few bus_plain i (omega (arith, less, few_persons))
      (commuter size (grid_links size) seed i) (commutes size some few seed i))

  blocks_short : (i : ℕ) → i < PERSONS_PER_NODE * size * size → list_all is_short_row (block i) ≡ true
  blocks_short i less =
      rows_short size i (commuter size (grid_links size) seed i)
      (fields_good is_short name_short number_short refl refl refl refl refl refl refl refl refl size some few bus_short i (omega (arith, less, few_persons))
      (commuter size (grid_links size) seed i) (commutes size some few seed i))

  tells_apart : (i j : ℕ) → i < PERSONS_PER_NODE * size * size → j < PERSONS_PER_NODE * size * size → person_name i ≡ person_name j → i ≡ j
  tells_apart i j p q same = number_of_name 112 i j (omega (arith, p, few_persons)) (omega (arith, q, few_persons)) same

  module _ (ends : List (ℕ × ℕ)) where
    pub row_count : length (flat_map block (range_with_len 0 (PERSONS_PER_NODE * size * size))) ≡ 5 * (PERSONS_PER_NODE * size * size)
    row_count =
        long (map link_name (grid_links size)) ends person_name block (PERSONS_PER_NODE * size * size) (omega (arith, few_persons))
        (λ i less. travel size some few i (omega (arith, less, few_persons)) ends (commuter size (grid_links size) seed i) (commutes size some few seed i)) tells_apart

    pub plans_file : IsFile plans_header (flat_map block (range_with_len 0 (PERSONS_PER_NODE * size * size))) (plans_text size seed)
    unfolding plans_text row_line
    plans_file =
        subst (IsFile plans_header (flat_map block (range_with_len 0 (PERSONS_PER_NODE * size * size))))
        (ap (λ (t : List ℕ). codes "person,plan,kind,name,link,time,route\n" ++ t) (sym (lines_of_blocks block (range_with_len 0 (PERSONS_PER_NODE * size * size)))))
        (lines_are_file 112 (codes "erson") (codes "plan") (codes "kind" ∷ codes "name" ∷ codes "link" ∷ codes "time" ∷ codes "route" ∷ [])
        (flat_map block (range_with_len 0 (PERSONS_PER_NODE * size * size))) refl
        (all_blocks is_row block (PERSONS_PER_NODE * size * size) blocks_plain 0 (PERSONS_PER_NODE * size * size) (omega arith))
        (all_blocks is_short_row block (PERSONS_PER_NODE * size * size) blocks_short 0 (PERSONS_PER_NODE * size * size) (omega arith))
        (omega (arith, row_count, few_persons)))

    -- a row of a person
    pub row_of_person : (i j : ℕ) → i < PERSONS_PER_NODE * size * size → j < 5
        → get_or (flat_map block (range_with_len 0 (PERSONS_PER_NODE * size * size))) (5 * i + j) [] ≡ get_or (block i) j []
    row_of_person =
        row_at (map link_name (grid_links size)) ends person_name block (PERSONS_PER_NODE * size * size) (omega (arith, few_persons))
        (λ i less. travel size some few i (omega (arith, less, few_persons)) ends (commuter size (grid_links size) seed i) (commutes size some few seed i)) tells_apart

    -- plans.csv has no fault by itself
    pub plans_pass : plans_fault (map link_name (grid_links size)) ends (plans_text size seed) ≡ None
    unfolding rows_fault
    plans_pass =
        let rows : List Row = flat_map block (range_with_len 0 (PERSONS_PER_NODE * size * size)) in
        let links : List (List ℕ) = map link_name (grid_links size) in
        ap (rows_fault (head_reason plans_header (plans_text size seed)) links ends) plans_file.body
        ∙ no_fault (head_reason plans_header (plans_text size seed)) (reason_at links ends rows) (length rows)
        (head_passes plans_header rows (plans_text size seed) plans_file header_named (omega (arith, row_count, some_persons)))
        (no_row_refused links ends person_name block (PERSONS_PER_NODE * size * size) (omega (arith, few_persons))
        (λ i less. travel size some few i (omega (arith, less, few_persons)) ends (commuter size (grid_links size) seed i) (commutes size some few seed i)) tells_apart)
