-- The pairs of neighbours, gone over for one partition, give its neighbours.
use Rattle.std.proofs.Common.{◌≡◌, ◌≢◌, ℕ, zero, suc, ◌+◌, ◌-◌, ◌<◌, ◌≤◌, Bool, true, false, List, [], ◌∷◌, ◌++◌, arith, refl, sym, ◌∙◌, ap, map, append-nil}
use Rattle.std.proofs.Common.{append_assoc, inl, inr, length, get_or, drop}
use Rattle.std.proofs.lemmas.List.{drop_more, drop_all, Elements.filter-append}
use Rattle.std.specs.{List.flat_map, Option.option_to_list, Prelude.filter, Prelude.◌==◌, Prelude.if◌then◌else◌, Prelude.Option, Prelude.None}
use Rattle.traffic.proofs.Common.{cases_Bool, eqb-true, eqb-false, ne_eqb, eq-eqb, flat_map-append}
use Rattle.traffic.specs.Lists.{below, numbers}
use Rattle.partition.specs.{Neighbours.pair, Neighbours.pairs_from, declared.borders.LagPair.LagPair, declared.joining.Pair.Pair}
use Rattle.step_core.specs.declared.part.Border.{Border}
use Rattle.divided_day.{proofs.Counting.parted, specs.Borders.border_of, specs.Borders.borders_among}

-- ONE PAIR MORE
-- a border more, or none
pub among_more : (p : ℕ) (xs : List Pair) (ys : List LagPair) (k : ℕ) (x : Pair) (y : LagPair) (o : Option Border)
    (out new all : List Border)
    → k < length xs → length ys ≡ length xs → o ≡ border_of p (get_or xs k x) (get_or ys k y) → new ≡ out ++ option_to_list o
    → out ++ borders_among p (drop k xs) (drop k ys) ≡ all → new ++ borders_among p (drop (k + 1) xs) (drop (k + 1) ys) ≡ all
among_more p xs ys k x y o out new all lt long is more before =
    let a = drop_more xs k x lt in
    let b = drop_more ys k y (omega arith) in
    let rest = borders_among p (drop (k + 1) xs) (drop (k + 1) ys) in
    let one : borders_among p (drop k xs) (drop k ys) ≡ option_to_list (border_of p (get_or xs k x) (get_or ys k y)) ++ rest =
    ap (λ zs. borders_among p zs (drop k ys)) a ∙ ap (λ zs. borders_among p (get_or xs k x ∷ drop (k + 1) xs) zs) b in
    ap (λ zs. zs ++ rest) more ∙ append_assoc out (option_to_list o) rest
    ∙ sym (ap (λ zs. out ++ zs) (one ∙ ap (λ z. option_to_list z ++ rest) (sym is))) ∙ before

pub among_none : (p : ℕ) (xs : List Pair) (ys : List LagPair) (k : ℕ) (o : Option Border) (out new all : List Border) → k < length xs
    → length ys ≡ length xs → (x : Pair) (y : LagPair) → o ≡ border_of p (get_or xs k x) (get_or ys k y) → o ≡ None → new ≡ out
    → out ++ borders_among p (drop k xs) (drop k ys) ≡ all → new ++ borders_among p (drop (k + 1) xs) (drop (k + 1) ys) ≡ all
among_none p xs ys k o out new all lt long x y is none same before =
    among_more p xs ys k x y o out new all lt long is (same ∙ sym (append-nil out) ∙ ap (λ z. out ++ option_to_list z) (sym none)) before

pub among_end : (p : ℕ) (xs : List Pair) (ys : List LagPair) (k : ℕ) (out all : List Border) → length xs ≤ k
    → out ++ borders_among p (drop k xs) (drop k ys) ≡ all → out ≡ all
among_end p xs ys k out all past before =
    sym (append-nil out) ∙ sym (ap (λ zs. out ++ borders_among p zs (drop k ys)) (drop_all k xs past)) ∙ before

-- NUMBERS
same_over : {X : Type 0} (f h : ℕ → List X) (k n : ℕ) → ((j : ℕ) → k ≤ j → j < k + n → f j ≡ h j)
    → flat_map f (numbers k n) ≡ flat_map h (numbers k n)
same_over f h k zero e = refl
same_over f h k (suc n) e =
    ap (λ ys. ys ++ flat_map f (numbers (k + 1) n)) (e k (omega arith) (omega arith))
    ∙ ap (λ zs. h k ++ zs) (same_over f h (k + 1) n (λ j a b. e j (omega arith) (omega arith)))

nothing : {X : Type 0} (f : ℕ → List X) (k n : ℕ) → ((j : ℕ) → k ≤ j → j < k + n → f j ≡ []) → flat_map f (numbers k n) ≡ []
nothing f k zero e = refl
nothing f k (suc n) e =
    ap (λ ys. ys ++ flat_map f (numbers (k + 1) n)) (e k (omega arith) (omega arith))
    ∙ nothing f (k + 1) n (λ j a b. e j (omega arith) (omega arith))

-- a list for one of them alone
only : {X : Type 0} (ys : List X) (p k n : ℕ) → k ≤ p → p < k + n → flat_map (λ q. if q == p then ys else []) (numbers k n) ≡ ys
only ys p k zero a b = absurd (omega arith)
only ys p k (suc n) a b =
    elim (cases_Bool (k == p)) [
      | inl e ↦
          let is : k ≡ p = eqb-true k p e in
          rw e (ap (λ zs. ys ++ zs) (nothing (λ q. if q == p then ys else []) (k + 1) n
          (λ j c d. let ne = ne_eqb j p (λ z. omega arith) in rw ne refl)) ∙ append-nil ys)
      | inr e ↦ let ne : k ≢ p = eqb-false k p e in rw e (only ys p (k + 1) n (omega arith) (omega arith))
    ]

if_nothing : {X : Type 0} (b : Bool) → ◌≡◌ {A = List X} (if b then [] else []) []
if_nothing true = refl
if_nothing false = refl

-- ALL PAIRS
module _ (near : ℕ → ℕ → Bool) (lag : ℕ → ℕ → ℕ) (self : (p : ℕ) → near p p ≡ false) (both : (p q : ℕ) → near p q ≡ near q p) (p : ℕ) where
  abbrev border : ℕ → Border
  border q = record { neighbour = q; lag = lag q p }

  abbrev are_near : Pair → Bool
  are_near x = near x.lesser x.greater

  abbrev lags_of : Pair → LagPair
  lags_of x = record { there = lag x.lesser x.greater; back = lag x.greater x.lesser }

  -- what a neighbour is to p, and what a pair is
  abbrev seen : ℕ → List Border
  seen q = if near q p then border q ∷ [] else []

  abbrev of_pair : Pair → List Border
  of_pair x = option_to_list (border_of p x (lags_of x))

  abbrev one : ℕ → ℕ → List Border
  one a q = if near a q then of_pair (pair a q) else []

  -- what the pairs are in which a is the lesser one
  abbrev step : ℕ → ℕ → List Border
  step parts a = flat_map (one a) (numbers (a + 1) (parts - (a + 1)))

  among_all : (xs : List Pair) → borders_among p xs (map lags_of xs) ≡ flat_map of_pair xs
  among_all [] = refl
  among_all (x ∷ xs) = ap (λ zs. of_pair x ++ zs) (among_all xs)

  through : (a : ℕ) (ns : List ℕ) → flat_map of_pair (filter are_near (map (pair a) ns)) ≡ flat_map (one a) ns
  through a [] = refl
  through a (n ∷ ns) =
      elim (cases_Bool (near a n)) [
        | inl e ↦ rw e (ap (λ zs. of_pair (pair a n) ++ zs) (through a ns))
        | inr e ↦ rw e (through a ns)
      ]

  all_through : (F : ℕ → List Pair) (ns : List ℕ) → flat_map of_pair (filter are_near (flat_map F ns)) ≡ flat_map
      (λ a. flat_map of_pair (filter are_near (F a))) ns
  all_through F [] = refl
  all_through F (a ∷ ns) =
      ap (flat_map of_pair) (filter-append are_near (F a) (flat_map F ns))
      ∙ flat_map-append of_pair (filter are_near (F a)) (filter are_near (flat_map F ns))
      ∙ ap (λ zs. flat_map of_pair (filter are_near (F a)) ++ zs) (all_through F ns)

  -- a lesser neighbour is seen in the pair with p, p sees the greater ones, and the others see no p
  lesser : (a q : ℕ) → a < p → one a q ≡ (if q == p then seen a else [])
  lesser a q lt =
      elim (cases_Bool (q == p)) [
        | inl e ↦ rw e (ap (λ (z : ℕ). if near a z then record { neighbour = a; lag = lag a z } ∷ [] else []) (eqb-true q p e))
        | inr e ↦ let ne = ne_eqb a p (λ z. omega arith) in rw (e, ne) (if_nothing (near a q))
      ]

  greater : (q : ℕ) → p < q → one p q ≡ seen q
  greater q lt =
      let ne = ne_eqb q p (λ z. omega arith) in
      let me = eq-eqb p p refl in
      rw (ne, me) (ap (λ (b : Bool). if b then border q ∷ [] else []) (both p q))

  others : (a q : ℕ) → p < a → a < q → one a q ≡ []
  others a q lt more =
      let ne = ne_eqb q p (λ z. omega arith) in
      let no = ne_eqb a p (λ z. omega arith) in
      rw (ne, no) (if_nothing (near a q))

  step_lesser : (parts a : ℕ) → p < parts → a < p → step parts a ≡ seen a
  step_lesser parts a lp lt =
      same_over (one a) (λ q. if q == p then seen a else []) (a + 1) (parts - (a + 1)) (λ q x y. lesser a q lt)
      ∙ only (seen a) p (a + 1) (parts - (a + 1)) (omega arith) (omega arith)

  all_steps : (parts : ℕ) → p < parts → flat_map (step parts) (below parts) ≡ flat_map seen (below parts)
  all_steps parts lp =
      let rest = parts - (p + 1) in
      let A = flat_map seen (numbers 0 p) in
      let B = flat_map seen (numbers (p + 1) rest) in
      let first : flat_map (step parts) (numbers 0 p) ≡ A = same_over (step parts) seen 0 p
      (λ a x y. step_lesser parts a lp (omega arith)) in
      let second : step parts p ≡ B = same_over (one p) seen (p + 1) rest (λ q x y. greater q (omega arith)) in
      let third : flat_map (step parts) (numbers (p + 1) rest) ≡ [] =
      nothing (step parts) (p + 1) rest (λ a x y. nothing (one a) (a + 1) (parts - (a + 1))
      (λ q u v. others a q (omega arith) (omega arith))) in
      let none : seen p ≡ [] = (let e = self p in rw e refl) in
      ap (flat_map (step parts)) (parted p parts lp) ∙ flat_map-append (step parts) (numbers 0 p) (p ∷ numbers (p + 1) rest)
      ∙ ap (λ zs. zs ++ (step parts p ++ flat_map (step parts) (numbers (p + 1) rest))) first
      ∙ ap (λ zs. A ++ (zs ++ flat_map (step parts) (numbers (p + 1) rest))) second ∙ ap (λ zs. A ++ (B ++ zs)) third
      ∙ ap (λ zs. A ++ zs) (append-nil B)
      ∙ sym (ap (flat_map seen) (parted p parts lp) ∙ flat_map-append seen (numbers 0 p) (p ∷ numbers (p + 1) rest)
      ∙ ap (λ zs. A ++ (zs ++ B)) none)

  kept : (ns : List ℕ) → flat_map seen ns ≡ map border (filter (λ q. near q p) ns)
  kept [] = refl
  kept (n ∷ ns) =
      elim (cases_Bool (near n p)) [
        | inl e ↦ rw e (ap (λ zs. border n ∷ zs) (kept ns))
        | inr e ↦ rw e (kept ns)
      ]

  pub scanned : (parts : ℕ) → p < parts → borders_among p (filter are_near (flat_map (pairs_from parts) (below parts)))
      (map lags_of (filter are_near (flat_map (pairs_from parts) (below parts))))
      ≡ map border (filter (λ q. near q p) (below parts))
  scanned parts lp =
      among_all (filter are_near (flat_map (pairs_from parts) (below parts))) ∙ all_through (pairs_from parts) (below parts)
      ∙ same_over (λ a. flat_map of_pair (filter are_near (pairs_from parts a))) (step parts) 0 parts
      (λ a x y. through a (numbers (a + 1) (parts - (a + 1))))
      ∙ all_steps parts lp ∙ kept (below parts)
