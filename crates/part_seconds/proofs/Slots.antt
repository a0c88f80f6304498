-- The links of a partition in their slots.
use Rattle.traffic.proofs.Common.{◌≡◌, ℕ, zero, suc, ◌+◌, ◌<◌, ◌≤◌, Bool, true, false, List, [], ◌∷◌, ◌∙◌, ap, refl, sym, subst, arith, inl, inr, cases_Bool}
use Rattle.traffic.proofs.Common.{eqb, eqb-true, eq-eqb, true≢false, length, get_or, map, filter, All-get_or, All-from_recursion, Setup, below, numbers}
use Rattle.traffic.proofs.Each.{each_kept, each_filter, each_all, each_number}
use Rattle.std.proofs.Common.{zero-add}
use Rattle.parts.specs.Owners.{Owner, owner_of}
use Rattle.law_partitions.specs.Alone.{my_links}
use Rattle.part_lines.proofs.Ready.{IsOneOf}
use Rattle.part_links.specs.Links.{AreNumbered}
use Rattle.part_nodes.specs.Phase.{HasLinks}
use Rattle.divided_day.specs.Slots.{link_in, slot_count, AreSlots}
use Rattle.part_seconds.specs.Slots.{extent_of}

-- A PLACE AMONG THOSE THAT PASS
pub passed_at : (q : ℕ → Bool) (l k n : ℕ) → k ≤ l → l < k + n → q l ≡ true
    → (j : ℕ) × ((j < length (filter q (numbers k n))) × (get_or (filter q (numbers k n)) j 0 ≡ l))
passed_at q l k zero low high e = absurd (omega arith)
passed_at q l k (suc n) low high e =
    elim (cases_Bool (eqb k l)) [
      | inl same ↦
          let is : k ≡ l = eqb-true k l same in
          let f : q k ≡ true = ap q is ∙ e in
          rw f (zero, (omega arith, is))
      | inr other ↦
          let ne = ne_of k l other in
          let rest = passed_at q l (k + 1) n (omega arith) (omega arith) e in
          elim (cases_Bool (q k)) [
            | inl f ↦ rw f (suc rest.0, (let lt = rest.1.0 in omega arith, rest.1.1))
            | inr f ↦ rw f rest
          ]
    ]
  where
    ne_of : (a b : ℕ) → eqb a b ≡ false → a ≡ b → ⊥
    ne_of a b f g = true≢false (sym (eq-eqb a b g) ∙ f)

-- what stands in a list from a place on
listed : (zs xs : List ℕ) (j : ℕ) → ((i : ℕ) → get_or zs (j + i) 0 ≡ get_or xs i 0)
    → map (λ (k : ℕ). get_or zs k 0) (numbers j (length xs)) ≡ xs
listed zs [] j h = refl
listed zs (x ∷ xs) j h =
    let first : get_or zs j 0 ≡ x = (let e : j ≡ j + 0 = omega arith in ap (λ (n : ℕ). get_or zs n 0) e) ∙ h 0 in
    let next : (i : ℕ) → get_or zs ((j + 1) + i) 0 ≡ get_or xs i 0
    = λ i. (let e : (j + 1) + i ≡ j + suc i = omega arith in ap (λ (n : ℕ). get_or zs n 0) e) ∙ h (suc i) in
    ap (λ (y : ℕ). y ∷ map (λ (k : ℕ). get_or zs k 0) (numbers (j + 1) (length xs))) first
    ∙ ap (λ (ys : List ℕ). x ∷ ys) (listed zs xs (j + 1) next)

module _ (S : Setup) (own : Owner) (p : ℕ) where
  abbrev mine : ℕ → Bool
  mine l = eqb (owner_of S own l) p

  -- each own link has a slot
  pub slot_of : (l : ℕ) → l < length S.links → owner_of S own l ≡ p → IsOneOf (link_in S own p) (slot_count S own p) l
  slot_of l lt o = passed_at mine l 0 (length S.links) (omega arith) (omega arith) (eq-eqb (owner_of S own l) p o)

  pub link_there : (k : ℕ) → k < slot_count S own p → link_in S own p k < length S.links
  link_there k lt =
      let n = length S.links in
      let P : ℕ → Type 0 = λ l. l < n in
      All-get_or P (my_links S own p) k 0 lt
      (All-from_recursion P (my_links S own p) (each_kept P mine (below n) (each_number n 0 n (omega arith))))

  pub link_own : (k : ℕ) → k < slot_count S own p → owner_of S own (link_in S own p k) ≡ p
  link_own k lt =
      let P : ℕ → Type 0 = λ l. mine l ≡ true in
      eqb-true (owner_of S own (link_in S own p k)) p
      (All-get_or P (my_links S own p) k 0 lt
      (All-from_recursion P (my_links S own p)
      (each_filter (λ (l : ℕ). Unit {0}) P mine (λ l e u. e) (below (length S.links)) (each_all (λ (l : ℕ). Unit {0}) (λ l. tt) (below (length S.links))))))

  -- all of them, slot by slot
  pub all_links : map (link_in S own p) (below (slot_count S own p)) ≡ my_links S own p
  all_links = listed (my_links S own p) (my_links S own p) 0 (λ i. ap (λ (n : ℕ). get_or (my_links S own p) n 0) (zero-add i))

  module _ (slots : List ℕ) (are : AreSlots S own slots) where
    pub slot_is : (l : ℕ) → l < length S.links → owner_of S own l ≡ p
        → (get_or slots l 0 < slot_count S own p) × (link_in S own p (get_or slots l 0) ≡ l)
    slot_is l lt o =
        let s = slot_of l lt o in
        let e : get_or slots l 0 ≡ s.0 = ap (λ (m : ℕ). get_or slots m 0) (sym s.1.1) ∙ are.each p s.0 s.1.0 in (
          subst (λ (k : ℕ). k < slot_count S own p) (sym e) s.1.0,
          ap (link_in S own p) e ∙ s.1.1,
        )

    pub numbered : AreNumbered S (slot_count S own p) (link_in S own p)
    numbered = record {
      there = link_there;
      apart = λ j k jlt klt e. sym (are.each p j jlt) ∙ ap (λ (l : ℕ). get_or slots l 0) e ∙ are.each p k klt;
    }

    pub has_links : HasLinks S (extent_of S own p) slots
    has_links = record {
      numbered = numbered;
      own = λ k lt. eq-eqb (owner_of S own (link_in S own p k)) p (link_own k lt);
      table = are.many;
      found = λ l lt e. (
          let s = slot_is l lt (eqb-true (owner_of S own l) p e) in
          record { there = s.0; link = s.1 });
    }
