-- Who begins a day in a part, and the rows of all others there.
use Rattle.traffic.proofs.Common.{◌≡◌, ℕ, zero, suc, ◌+◌, ◌<◌, Bool, true, false, List, [], ◌∷◌, ◌∙◌, ap, refl, sym, subst, arith, inl, inr, length, length-map}
use Rattle.traffic.proofs.Common.{get_or, get_or_past, get_or-map, map, plan_rows, if◌then◌else◌, cases_lt, PlanRows, eqb, World, Setup, world_start, person_of}
use Rattle.traffic.proofs.Common.{at_home, numbers, below}
use Rattle.traffic.specs.{Rows.nobody, Setup.person_plan, declared.world.Person.Person}
use Rattle.std.specs.Prelude.{◌≤◌, ◌==◌, set, replicate}
use Rattle.std.proofs.lemmas.List.{ext_get_or, get_or-replicate, get_or-set_same, get_or-set_other, length-replicate, length-set}
use Rattle.law_in_range.proofs.Days.{start_is_fit}
use Rattle.law_in_range.specs.{Rows.Counts, Rows.IsFitPerson, Rows.IsFitWorld, Setups.counts_in, Setups.HaveFittingPlans}
use Rattle.town.specs.{Setups.setup_of, Views.setup, declared.day_input.DayInput.DayInput}
use Rattle.parts.specs.Owners.{Owner, owner_of, owner_of_person, link_at}
use Rattle.partition.specs.Homes.{home_of, homes_of}
use Rattle.part_persons.specs.Own.{own_person, own_persons, row_of, first_row, first_rows}

-- ROWS BY NUMBER
numbers_length : (k n : ℕ) → length (numbers k n) ≡ n
numbers_length k zero = refl
numbers_length k (suc n) = ap suc (numbers_length (k + 1) n)

rows_length : (f : ℕ → Person) (n : ℕ) → length (map f (below n)) ≡ n
rows_length f n = length-map (below n) f ∙ numbers_length 0 n

row_from : (f : ℕ → Person) (k n i : ℕ) → i < n → get_or (map f (numbers k n)) i nobody ≡ f (k + i)
row_from f k zero i lt = absurd (omega arith)
row_from f k (suc n) zero lt = let e : k ≡ k + 0 = omega arith in ap f e
row_from f k (suc n) (suc i) lt = let e : (k + 1) + i ≡ k + suc i = omega arith in row_from f (k + 1) n i (omega arith) ∙ ap f e

row_is : (f : ℕ → Person) (n i : ℕ) → i < n → get_or (map f (below n)) i nobody ≡ f i
row_is f n i lt = let e : 0 + i ≡ i = omega arith in row_from f 0 n i lt ∙ ap f e

rows_alike : (f g : ℕ → Person) (k n : ℕ) → ((i : ℕ) → i < k + n → f i ≡ g i) → map f (numbers k n) ≡ map g (numbers k n)
rows_alike f g k zero h = refl
rows_alike f g k (suc n) h =
    ap (λ (P : Person). P ∷ map f (numbers (k + 1) n)) (h k (omega arith))
    ∙ ap (λ (ps : List Person). g k ∷ ps) (rows_alike f g (k + 1) n (λ i lt. h i (omega arith)))

-- ONE AFTER THE OTHER
-- these are the rows of all numbers below n, and nobody stands in the others of so many
pub record AreFirst (f : ℕ → Person) (n count : ℕ) (rows : List Person) : Type 0 where
  pub many : length rows ≡ count
  pub each : (i : ℕ) → i < n → i < count → get_or rows i nobody ≡ f i
  pub rest : (i : ℕ) → n ≤ i → i < count → get_or rows i nobody ≡ nobody

pub no_rows : (f : ℕ → Person) (count : ℕ) (rows : List Person) → rows ≡ replicate count nobody → AreFirst f 0 count rows
no_rows f count rows e = record {
  many = ap (λ (ps : List Person). length ps) e ∙ length-replicate count nobody;
  each = λ i lt less. absurd (omega arith);
  rest = λ i le less. ap (λ (ps : List Person). get_or ps i nobody) e ∙ get_or-replicate count i nobody nobody less;
}

pub row_put : (f : ℕ → Person) (n count : ℕ) (rows : List Person) (P : Person) → P ≡ f n → AreFirst f n count rows
    → AreFirst f (n + 1) count (set rows n P)
row_put f n count rows P is h =
    let long = h.many in
    record {
      many = length-set rows n P ∙ long;
      each = λ i lt less.
          elim (cases_lt i n) [
            | inl lower ↦ get_or-set_other rows n i P nobody (λ (z : i ≡ n). omega arith) ∙ h.each i lower less
            | inr upper ↦
                let own : n ≡ i = omega arith in
                ap (λ (k : ℕ). get_or (set rows k P) i nobody) own ∙ get_or-set_same rows i P nobody (omega arith) ∙ is ∙ ap f own
          ];
      rest = λ i le less. get_or-set_other rows n i P nobody (λ (z : i ≡ n). omega arith) ∙ h.rest i (omega arith) less;
    }

pub row_left : (f : ℕ → Person) (n count : ℕ) (rows : List Person) → f n ≡ nobody → AreFirst f n count rows → AreFirst f (n + 1) count rows
row_left f n count rows none h =
    record {
      many = h.many;
      each = λ i lt less.
          elim (cases_lt i n) [
            | inl lower ↦ h.each i lower less
            | inr upper ↦
                let own : n ≡ i = omega arith in
                h.rest i (omega arith) less ∙ sym none ∙ ap f own
          ];
      rest = λ i le less. h.rest i (omega arith) less;
    }

pub all_rows : (f : ℕ → Person) (n count m : ℕ) (rows : List Person) → count ≤ n → count ≡ m → AreFirst f n count rows → rows ≡ map f (below m)
all_rows f n count m rows all same h =
    let many = rows_length f m in
    let long = h.many in
    ext_get_or nobody rows (map f (below m)) (long ∙ same ∙ sym many)
    (λ i lt. h.each i (omega arith) (omega arith) ∙ sym (row_is f m i (omega arith)))

-- who begins the day elsewhere is nobody
pub left_out : (S : Setup) (homes : List ℕ) (p n : ℕ) → (get_or homes n 0 == p) ≡ false → first_row S homes p n ≡ nobody
left_out S homes p n other = rw other refl

pub others_out : (S : Setup) (homes : List ℕ) (p i : ℕ) (persons : List Person) → persons ≡ first_rows S homes p → i < length persons
    → (get_or homes i 0 == p) ≡ false → get_or persons i nobody ≡ nobody
others_out S homes p i persons e lt other =
    let many = rows_length (first_row S homes p) (length S.persons) in
    let same = ap (λ (ps : List Person). length ps) e in
    ap (λ (ps : List Person). get_or ps i nobody) e ∙ row_is (first_row S homes p) (length S.persons) i (omega arith)
    ∙ left_out S homes p i other

-- AT THE START OF A DAY
module _ (S : Setup) (p : ℕ) where
  abbrev none : PlanRows
  none = record { acts = []; legs = [] }

  count_start : length (world_start S).persons ≡ length S.persons
  unfolding world_start
  count_start = length-map S.persons at_home

  start_row : (i : ℕ) → i < length S.persons → person_of i (world_start S) ≡ at_home (person_plan S i)
  unfolding world_start
  start_row i lt = get_or-map at_home S.persons i none nobody lt

  module _ (own : Owner) (homes : List ℕ) (e : homes ≡ homes_of S own) where
    home_is : (i : ℕ) → i < length S.persons → get_or homes i 0 ≡ owner_of_person S own (world_start S) i
    home_is i lt =
        ap (λ (xs : List ℕ). get_or xs i 0) e ∙ get_or-map (home_of S own) S.persons i none 0 lt
        ∙ sym (ap (λ (P : Person). owner_of S own (link_at S (world_start S) i P.element P.place)) (start_row i lt))

    first_is : (i : ℕ) → i < length S.persons → first_row S homes p i ≡ own_person S own p i
    first_is i lt =
        ap (λ (q : ℕ). row_of S p q i) (home_is i lt)
        ∙ ap (λ (P : Person). if eqb (owner_of_person S own (world_start S) i) p then P else nobody) (sym (start_row i lt))

    first_are : first_rows S homes p ≡ own_persons S own p
    first_are = rows_alike (first_row S homes p) (own_person S own p) 0 (length S.persons) (λ i lt. first_is i (omega arith))

  module _ (homes : List ℕ) (z : Counts) (f : IsFitWorld z (world_start S)) where
    row_fit : (i : ℕ) (b : Bool) (P : Person) → IsFitPerson z i P → IsFitPerson z i (if b then P else nobody)
    row_fit i true P h = h
    row_fit i false P h = tt

    rows_fit : (i : ℕ) → IsFitPerson z i (get_or (first_rows S homes p) i nobody)
    rows_fit i =
        let n = length S.persons in
        let many = rows_length (first_row S homes p) n in
        elim (cases_lt i n) [
          | inl lt ↦
              subst (IsFitPerson z i) (sym (row_is (first_row S homes p) n i lt))
              (row_fit i (eqb (get_or homes i 0) p) (at_home (person_plan S i)) (subst (IsFitPerson z i) (start_row i lt) (f.persons i)))
          | inr ge ↦ subst (IsFitPerson z i) (sym (get_or_past (first_rows S homes p) i nobody (omega arith))) tt
        ]

    first_fit : IsFitWorld z (record (world_start S) { persons = first_rows S homes p })
    first_fit = record {
      rows = f.rows;
      persons = rows_fit;
      one_each = rows_length (first_row S homes p) (length S.persons) ∙ sym count_start ∙ f.one_each;
      credits = f.credits;
      holes = f.holes;
    }

-- a town's day has as many persons as plans
pub persons_of : (day : DayInput) → length (setup day).persons ≡ length day.chosen.now
unfolding setup_of
persons_of day = length-map day.chosen.now plan_rows

-- where these are the homes of all, it has those who begin the day in the part
pub begun : (S : Setup) (own : Owner) (homes : List ℕ) (p : ℕ) (rows : List Person) (W : World) → homes ≡ homes_of S own
    → rows ≡ first_rows S homes p → W ≡ record (world_start S) { persons = rows } → W ≡ record (world_start S) { persons = own_persons S own p }
begun S own homes p rows W e are f = f ∙ ap (λ (ps : List Person). record (world_start S) { persons = ps }) (are ∙ first_are S p own homes e)

pub begun_fit : (day : DayInput) (homes : List ℕ) (p : ℕ) (rows : List Person) (W : World) → HaveFittingPlans day
    → rows ≡ first_rows (setup day) homes p → W ≡ record (world_start (setup day)) { persons = rows } → IsFitWorld (counts_in day) W
begun_fit day homes p rows W given are f =
    let S = setup day in
    let z = counts_in day in
    subst (IsFitWorld z) (sym (f ∙ ap (λ (ps : List Person). record (world_start S) { persons = ps }) are))
    (first_fit S p homes z (start_is_fit day (world_start S) given refl))
