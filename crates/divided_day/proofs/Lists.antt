-- Numbers that come to the lists of their partitions, one after the other.
use Rattle.std.proofs.Common.{◌≡◌, ◌≢◌, ℕ, ◌+◌, ◌<◌, true, false, List, [], ◌∷◌, ◌++◌, arith, refl, sym, ◌∙◌, ap, inl, inr, length, get_or, set, replicate}
use Rattle.std.proofs.{Common.append-nil, lemmas.List.get_or-set_same, lemmas.List.get_or-set_other, lemmas.List.length-set, lemmas.List.get_or-replicate}
use Rattle.std.{proofs.lemmas.List.get_or_past, proofs.lemmas.List.Elements.filter-append, specs.Prelude.filter, specs.Prelude.◌==◌}
use Rattle.traffic.proofs.Common.{length-replicate, cases_Bool, cases_lt, eqb-true, eqb-false, eq-eqb, ne_eqb}
use Rattle.traffic.specs.Lists.{below}
use Rattle.divided_day.proofs.Counting.{below_more}

-- in a table of one value that value is everywhere, and behind it
pub same_all : {X : Type 0} (x : X) (n i : ℕ) → get_or (replicate n x) i x ≡ x
same_all x n i =
    let many = length-replicate n x in
    elim (cases_lt i n) [
      | inl lt ↦ get_or-replicate n i x x lt
      | inr ge ↦ get_or_past (replicate n x) i x (omega arith)
    ]

module _ (part_of : ℕ → ℕ) where
  -- the numbers below n that belong to p
  abbrev pub part_below : ℕ → ℕ → List ℕ
  part_below n p = filter (λ l. part_of l == p) (below n)

  more : (n p : ℕ) → part_below (n + 1) p ≡ part_below n p ++ filter (λ l. part_of l == p) (n ∷ [])
  more n p = ap (filter (λ l. part_of l == p)) (below_more n) ∙ filter-append (λ l. part_of l == p) (below n) (n ∷ [])

  pub one_more : (n p : ℕ) → part_of n ≡ p → part_below (n + 1) p ≡ part_below n p ++ n ∷ []
  one_more n p is =
      let e : (part_of n == p) ≡ true = eq-eqb (part_of n) p is in
      let one : filter (λ l. part_of l == p) (n ∷ []) ≡ n ∷ [] = (rw e refl) in
      more n p ∙ ap (λ xs. part_below n p ++ xs) one

  pub no_more : (n p : ℕ) → part_of n ≢ p → part_below (n + 1) p ≡ part_below n p
  no_more n p other =
      let e : (part_of n == p) ≡ false = ne_eqb (part_of n) p other in
      let none : filter (λ l. part_of l == p) (n ∷ []) ≡ [] = (rw e refl) in
      more n p ∙ ap (λ xs. part_below n p ++ xs) none ∙ append-nil (part_below n p)

  -- each of the numbers below n stands in the list of the partition to which it belongs
  pub record AreListed (parts n : ℕ) (lists : List (List ℕ)) : Type 0 where
    pub many : length lists ≡ parts
    pub each : (p : ℕ) → get_or lists p [] ≡ part_below n p

  pub none_listed : (parts : ℕ) (lists : List (List ℕ)) → lists ≡ replicate parts [] → AreListed parts 0 lists
  none_listed parts lists empty =
      let none : List ℕ = [] in
      record {
        many = ap (λ (xs : List (List ℕ)). length xs) empty ∙ length-replicate parts none;
        each = λ p. ap (λ (xs : List (List ℕ)). get_or xs p none) empty ∙ same_all none parts p;
      }

  pub listed_more : (parts n : ℕ) (old new : List (List ℕ)) (q : ℕ) → q < parts → q ≡ part_of n
      → new ≡ set old q (get_or old q [] ++ n ∷ []) → AreListed parts n old → AreListed parts (n + 1) new
  listed_more parts n old new q lt is now h =
      let x : List ℕ = get_or old q [] ++ n ∷ [] in
      record {
        many = ap (λ (xs : List (List ℕ)). length xs) now ∙ length-set old q x ∙ h.many;
        each = λ p.
            ap (λ (xs : List (List ℕ)). get_or xs p []) now
            ∙ elim (cases_Bool (q == p)) [
              | inl e ↦
                  let here : q ≡ p = eqb-true q p e in
                  let all = h.many in
                  let there : q < length old = omega arith in
                  ap (λ (k : ℕ). get_or (set old q x) k []) (sym here) ∙ get_or-set_same old q x [] there
                  ∙ ap (λ (xs : List ℕ). xs ++ n ∷ []) (ap (λ (k : ℕ). get_or old k []) here ∙ h.each p)
                  ∙ sym (one_more n p (sym is ∙ here))
              | inr e ↦
                  let other : q ≢ p = eqb-false q p e in
                  get_or-set_other old q p x [] (λ z. other (sym z)) ∙ h.each p ∙ sym (no_more n p (λ z. other (is ∙ z)))
            ];
      }

  pub all_listed : (parts n count : ℕ) (lists : List (List ℕ)) → AreListed parts n lists → n ≡ count
      → (p : ℕ) → get_or lists p [] ≡ part_below count p
  all_listed parts n count lists h same p = h.each p ∙ ap (λ m. part_below m p) same
