-- Departures by their seconds.
use Rattle.std.proofs.Common.{◌≡◌, ℕ, suc, ◌+◌, ◌<◌, Bool, true, false, List, [], ◌∷◌, ◌++◌, length, get_or, take, refl, ap, sym, ◌∙◌, inl, inr, arith, eqb}
use Rattle.std.proofs.lemmas.{Bool.cases_Bool, Bool.eqb-true, Bool.eqb-false, Bool.ne_eqb, Bool.eq-eqb, List.take_more, List.length-take, List.get_or-map}
use Rattle.std.{proofs.lemmas.List.length-map, specs.Prelude.filter, specs.Prelude.◌&&◌, specs.Prelude.if◌then◌else◌}
use Rattle.rows.specs.declared.schedule.DepartureRow.{DepartureRow}
use Rattle.traffic.specs.{Lists.below, Lists.numbers, Setup.Departure, Setup.departure}
use Rattle.parts.specs.Owners.{Owner, owner_of}
use Rattle.town.specs.{Setups.setup_of, Setups.departure_of, Views.setup, declared.day_input.DayInput.DayInput}
use Rattle.part_persons.specs.{Own.starts_in, Own.own_departs_in, Phases.numbers_where, Starts.is_due}

no_row : DepartureRow
no_row = record { route = 0; second = 0; seats = 0 }

turned : (a b : ℕ) → eqb a b ≡ eqb b a
turned a b = elim (cases_Bool (eqb a b)) [
  | inl e ↦ e ∙ sym (eq-eqb b a (sym (eqb-true a b e)))
  | inr e ↦ e ∙ sym (ne_eqb b a (λ q. eqb-false a b e (sym q)))
]

-- ROW AFTER ROW
numbers_last : (p : DepartureRow → Bool) (n k : ℕ) (rows : List DepartureRow) (r : DepartureRow) → k ≡ n + length rows
    → numbers_where p n (rows ++ r ∷ []) ≡ (if p r then numbers_where p n rows ++ k ∷ [] else numbers_where p n rows)
numbers_last p n k [] r e =
    let z : n ≡ k = omega arith in elim (cases_Bool (p r)) [ inl q ↦ simp q (ap (λ (m : ℕ). m ∷ []) z) | inr q ↦ simp q refl ]
numbers_last p n k (x ∷ rows) r e =
    let rest = numbers_last p (n + 1) k rows r (omega arith) in
    elim (cases_Bool (p r)) [
      | inl q ↦ let s = simp q at rest in elim (cases_Bool (p x)) [ inl w ↦ simp (w, q) (ap (λ (xs : List ℕ). n ∷ xs) s) | inr w ↦ simp (w, q) s ]
      | inr q ↦ let s = simp q at rest in elim (cases_Bool (p x)) [ inl w ↦ simp (w, q) (ap (λ (xs : List ℕ). n ∷ xs) s) | inr w ↦ simp (w, q) s ]
    ]

pub added : (p : DepartureRow → Bool) (i : ℕ) (rows : List DepartureRow) (d : DepartureRow) (old : List ℕ) → i < length rows
    → old ≡ numbers_where p 0 (take i rows)
    → (if p (get_or rows i d) then old ++ i ∷ [] else old) ≡ numbers_where p 0 (take (i + 1) rows)
added p i rows d old lt h =
    let r = get_or rows i d in
    let split : take (i + 1) rows ≡ take i rows ++ r ∷ [] = take_more rows i d lt in
    let len : i ≡ 0 + length (take i rows) = omega (arith, length-take i rows) in
    ap (λ (xs : List ℕ). if p r then xs ++ i ∷ [] else xs) h ∙ sym (numbers_last p 0 i (take i rows) r len)
    ∙ sym (ap (numbers_where p 0) split)

-- BY THEIR NUMBERS
numbers_are : (p : DepartureRow → Bool) (q : ℕ → Bool) (n : ℕ) (rows : List DepartureRow)
    → ((k : ℕ) → k < length rows → q (n + k) ≡ p (get_or rows k no_row)) → numbers_where p n rows ≡ filter q (numbers n (length rows))
numbers_are p q n [] h = refl
numbers_are p q n (r ∷ rows) h =
    let z : n + 0 ≡ n = omega arith in
    let e : q n ≡ p r = ap q (sym z) ∙ h 0 (omega arith) in
    let rest = numbers_are p q (n + 1) rows (λ k lt. (let y : (n + 1) + k ≡ n + suc k = omega arith in ap q y ∙ h (suc k) (omega arith))) in
    elim (cases_Bool (p r)) [
      | inl w ↦ let s : q n ≡ true = e ∙ w in rw (w, s) (ap (λ (xs : List ℕ). n ∷ xs) rest)
      | inr w ↦ let s : q n ≡ false = e ∙ w in rw (w, s) rest
    ]

filter_both : (p q : ℕ → Bool) (ns : List ℕ) → filter (λ n. p n && q n) ns ≡ filter p (filter q ns)
filter_both p q [] = refl
filter_both p q (n ∷ ns) =
    let rest = filter_both p q ns in
    elim (cases_Bool (q n)) [
      | inl e ↦ elim (cases_Bool (p n)) [ inl f ↦ simp (e, f) (ap (λ (xs : List ℕ). n ∷ xs) rest) | inr f ↦ simp (e, f) rest ]
      | inr e ↦ elim (cases_Bool (p n)) [ inl f ↦ simp (e, f) rest | inr f ↦ simp (e, f) rest ]
    ]

pub departs_are : (day : DayInput) (own : Owner) (p u : ℕ)
    → numbers_where (is_due day own p u) 0 day.town.now.departures.rows ≡ own_departs_in (setup day) own p u
unfolding setup_of
departs_are day own p u =
    let S = setup day in
    let rows = day.town.now.departures.rows in
    let routes = day.town.now.routes.rows in
    let none : Departure = record { second = 0; seats = 0; line = 0; route = []; calls = [] } in
    let at : ℕ → Bool = λ d. eqb (departure S d).second u in
    let here = starts_in S own p in
    let due : Departure → Bool = λ x. eqb x.second u && eqb (owner_of S own (get_or x.route 0 0)) p in
    numbers_are (is_due day own p u) (λ d. at d && here d) 0 rows
    (λ k lt. (let z : 0 + k ≡ k = omega arith in
    let r = get_or rows k no_row in
    ap (λ (d : ℕ). at d && here d) z ∙ ap due (get_or-map (departure_of routes) rows k no_row none lt)
    ∙ ap (λ (b : Bool). b && eqb (owner_of S own (get_or (departure_of routes r).route 0 0)) p) (turned r.second u)))
    ∙ ap (λ (n : ℕ). filter (λ d. at d && here d) (below n)) (sym (length-map rows (departure_of routes)))
    ∙ filter_both at here (below (length S.departures))
