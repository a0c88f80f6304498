-- The neighbours of a partition are such as a core asks for.
use Rattle.std.proofs.Common.{◌≡◌, ◌≢◌, ℕ, zero, suc, ◌+◌, ◌-◌, ◌<◌, ◌≤◌, Bool, true, List, ◌∷◌, arith, refl, sym, ◌∙◌, ap, subst, inl, inr, length, get_or}
use Rattle.std.proofs.lemmas.List.{length-map, get_or-map, Elements.All-get_or, Elements.All-from_recursion, Elements.filter_passes}
use Rattle.std.specs.{List.AllByRecursion as Each, Prelude.filter, Prelude.◌==◌, Prelude.All}
use Rattle.traffic.proofs.{Common.cases_Bool, Common.eqb-true, Common.eqb-false, Each.each_kept, Each.each_map, Each.each_flat, Each.each_number}
use Rattle.traffic.specs.{Lists.below, Lists.numbers, Setup.Setup}
use Rattle.parts.specs.Owners.{Owner, near, lag}
use Rattle.law_partitions.specs.Laws.{HasNeighbours}
use Rattle.law_steps.specs.Steps.{net_of}
use Rattle.partition.specs.declared.joining.Pair.{Pair}
use Rattle.partition.specs.Neighbours.{pair, pairs_from, pairs_of, neighbours_of, IsPairOf}
use Rattle.step_core.specs.{Nets.AreBorders, Nets.border_at, Nets.no_border, declared.part.Border.Border}
use Rattle.divided_day.specs.Borders.{border_from, borders_of}

each_from : (m k n : ℕ) → m ≤ k → Each (λ i. m ≤ i) (numbers k n)
each_from m k zero h = tt
each_from m k (suc n) h = (h, each_from m (k + 1) n (omega arith))

front : (k : ℕ) (ns : List ℕ) (i j : ℕ) → ((m : ℕ) → m < length ns → k + 1 ≤ get_or ns m 0)
    → ((a b : ℕ) → a < b → b < length ns → get_or ns a 0 < get_or ns b 0) → i < j → j < length (k ∷ ns)
    → get_or (k ∷ ns) i 0 < get_or (k ∷ ns) j 0
front k ns i zero least up lt lj = absurd (omega arith)
front k ns zero (suc j) least up lt lj = let h = least j (omega arith) in omega arith
front k ns (suc i) (suc j) least up lt lj = up i j (omega arith) (omega arith)

-- NUMBERS THAT PASS
module _ (pass : ℕ → Bool) where
  at_least : (k n i : ℕ) → i < length (filter pass (numbers k n)) → k ≤ get_or (filter pass (numbers k n)) i 0
  at_least k n i lt =
      let P : ℕ → Type 0 = λ m. k ≤ m in
      All-get_or P (filter pass (numbers k n)) i 0 lt
      (All-from_recursion P (filter pass (numbers k n)) (each_kept P pass (numbers k n) (each_from k k n (omega arith))))

  pub climbs : (k n i j : ℕ) → i < j → j < length (filter pass (numbers k n))
      → get_or (filter pass (numbers k n)) i 0 < get_or (filter pass (numbers k n)) j 0
  climbs k zero i j lt lj = absurd (omega arith)
  climbs k (suc n) i j lt lj =
      let rest = filter pass (numbers (k + 1) n) in
      let P : List ℕ → Type 0 = λ xs. j < length xs → get_or xs i 0 < get_or xs j 0 in
      elim (cases_Bool (pass k)) [
        | inl e ↦
            let is : filter pass (numbers k (suc n)) ≡ k ∷ rest = (rw e refl) in
            subst P (sym is) (λ l. front k rest i j (λ m lm. at_least (k + 1) n m lm) (λ a b la lb. climbs (k + 1) n a b la lb) lt l) lj
        | inr e ↦
            let is : filter pass (numbers k (suc n)) ≡ rest = (rw e refl) in
            subst P (sym is) (λ l. climbs (k + 1) n i j lt l) lj
      ]

  abbrev pub IsFound : ℕ → List ℕ → Type 0
  IsFound q ns = (i : ℕ) × ((i < length ns) × (get_or ns i 0 ≡ q))

  pub found : (k n q : ℕ) → k ≤ q → q < k + n → pass q ≡ true → IsFound q (filter pass (numbers k n))
  found k zero q a b e = absurd (omega arith)
  found k (suc n) q a b e =
      let rest = filter pass (numbers (k + 1) n) in
      elim (cases_Bool (k == q)) [
        | inl s ↦
            let here : k ≡ q = eqb-true k q s in
            let on : pass k ≡ true = ap pass here ∙ e in
            let is : filter pass (numbers k (suc n)) ≡ k ∷ rest = (rw on refl) in
            subst (IsFound q) (sym is) (0, ((omega arith), here))
        | inr s ↦
            let ne : k ≢ q = eqb-false k q s in
            let r = found (k + 1) n q (omega arith) (omega arith) e in
            elim (cases_Bool (pass k)) [
              | inl c ↦ let is : filter pass (numbers k (suc n)) ≡ k ∷ rest = (rw c refl) in subst (IsFound q) (sym is)
                  (suc r.0, ((omega (arith, r.1.0)), r.1.1))
              | inr c ↦ let is : filter pass (numbers k (suc n)) ≡ rest = (rw c refl) in subst (IsFound q) (sym is) r
            ]
      ]

-- THE NEIGHBOURS
module _ (S : Setup) (own : Owner) (parts end p : ℕ) (h : HasNeighbours S own parts) where
  abbrev pass : ℕ → Bool
  pass q = near S own q p

  abbrev ns : List ℕ
  ns = filter pass (below parts)

  abbrev rows : List Border
  rows = borders_of S own parts p

  inside : (k : ℕ) → k < length rows → k < length ns
  inside k lt = omega (arith, length-map ns (border_from S own p))

  at : (k : ℕ) → k < length rows → border_at rows k ≡ border_from S own p (get_or ns k 0)
  at k lt = get_or-map (border_from S own p) ns k 0 no_border (inside k lt)

  pub are_borders : AreBorders (net_of S own parts end) p rows
  are_borders = record {
    each = λ k lt. ap (λ (b : Border). near S own b.neighbour p) (at k lt)
        ∙ All-get_or (λ q. pass q ≡ true) ns k 0 (inside k lt) (filter_passes pass (below parts));
    lags = λ k lt. ap (λ (b : Border). b.lag) (at k lt) ∙ sym (ap (λ (b : Border). lag S own b.neighbour p) (at k lt));
    all = λ q is.
        let there = (h.there q p is).0 in
        let f = found pass 0 parts q (omega arith) (omega arith) is in
        let lt : f.0 < length rows = omega (arith, f.1.0, length-map ns (border_from S own p)) in
        (f.0, lt, ap (λ (b : Border). b.neighbour) (at f.0 lt) ∙ f.1.1);
    ascend = λ j k less lk.
        let a = ap (λ (b : Border). b.neighbour) (at j (omega arith)) in
        let b = ap (λ (b : Border). b.neighbour) (at k lk) in
        let c = climbs pass 0 parts j k less (inside k lk) in
        omega arith;
  }

-- both of each pair are among so many partitions
pub are_pairs : (S : Setup) (own : Owner) (parts : ℕ) → All (IsPairOf parts) (neighbours_of S own parts)
are_pairs S own parts =
    let near_pair : Pair → Bool = λ x. near S own x.lesser x.greater in
    let all : Each (IsPairOf parts) (pairs_of parts) =
    each_flat (λ a. a < parts) (IsPairOf parts) (pairs_from parts)
    (λ a lt. each_map (λ q. q < parts) (IsPairOf parts) (pair a) (λ q lq. (lt, lq)) (numbers (a + 1) (parts - (a + 1)))
    (each_number parts (a + 1) (parts - (a + 1)) (omega arith)))
    (below parts) (each_number parts 0 parts (omega arith)) in
    All-from_recursion (IsPairOf parts) (neighbours_of S own parts) (each_kept (IsPairOf parts) near_pair (pairs_of parts) all)
