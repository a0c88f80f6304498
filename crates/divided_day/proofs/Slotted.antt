-- Links that take the slots of their partitions, one after the other.
use Rattle.std.proofs.Common.{◌≡◌, ◌≢◌, ℕ, zero, suc, ◌+◌, ◌<◌, ◌≤◌, Bool, List, [], ◌∷◌, ◌++◌, arith, sym, ◌∙◌, ap, subst, inl, inr, length, get_or, set}
use Rattle.std.proofs.Common.{replicate, get_or-set_same, get_or-set_other, length-set}
use Rattle.std.proofs.lemmas.List.{length_push, get_or_push, get_or_append_left, get_or-replicate, Elements.All-get_or, Elements.All-from_recursion}
use Rattle.std.specs.Prelude.{filter, ◌==◌}
use Rattle.traffic.proofs.Common.{length-replicate, cases_Bool, cases_lt, eqb-true, eqb-false}
use Rattle.traffic.{proofs.Each.each_kept, proofs.Each.each_number, specs.Lists.below, specs.Lists.numbers, specs.Setup.Setup}
use Rattle.parts.specs.Owners.{Owner, owner_of}
use Rattle.divided_day.{proofs.Lists.part_below, proofs.Lists.one_more, proofs.Lists.no_more, specs.Slots.AreSlots}

filter_short : (pass : ℕ → Bool) (k n : ℕ) → length (filter pass (numbers k n)) ≤ n
filter_short pass k zero = omega arith
filter_short pass k (suc n) =
    let rest = filter_short pass (k + 1) n in
    elim (cases_Bool (pass k)) [ inl e ↦ rw e (omega arith) | inr e ↦ rw e (omega arith) ]

module _ (S : Setup) (own : Owner) where
  -- the links below n that end in p
  abbrev pub ends_below : ℕ → ℕ → List ℕ
  ends_below n p = part_below (owner_of S own) n p

  -- so many slots of each partition are taken, and the links below n have theirs
  pub record IsCounted (parts n : ℕ) (taken slots : List ℕ) : Type 0 where
    pub all_parts : length taken ≡ parts
    pub count : (p : ℕ) → p < parts → get_or taken p 0 ≡ length (ends_below n p)
    pub many : length slots ≡ n
    pub each : (p k : ℕ) → k < length (ends_below n p) → get_or slots (get_or (ends_below n p) k 0) 0 ≡ k

  pub none_yet : (parts : ℕ) (taken slots : List ℕ) → taken ≡ replicate parts 0 → slots ≡ []
      → IsCounted parts 0 taken slots
  none_yet parts taken slots zeros none = record {
    all_parts = ap (λ (xs : List ℕ). length xs) zeros ∙ length-replicate parts 0;
    count = λ p lt. ap (λ (xs : List ℕ). get_or xs p 0) zeros ∙ get_or-replicate parts p 0 0 lt;
    many = ap (λ (xs : List ℕ). length xs) none;
    each = λ p k lt. absurd (omega arith);
  }

  pub few_taken : (parts n : ℕ) (taken slots : List ℕ) → IsCounted parts n taken slots → (p : ℕ) → p < parts → get_or taken p 0 ≤ n
  few_taken parts n taken slots h p lt =
      let e = h.count p lt in
      let short = filter_short (λ l. owner_of S own l == p) 0 n in
      omega arith

  all_below : (n p k : ℕ) → k < length (ends_below n p) → get_or (ends_below n p) k 0 < n
  all_below n p k lt =
      let P : ℕ → Type 0 = λ l. l < n in
      All-get_or P (ends_below n p) k 0 lt
      (All-from_recursion P (ends_below n p) (each_kept P (λ l. owner_of S own l == p) (below n) (each_number n 0 n (omega arith))))

  module _ (parts n : ℕ) (taken new slots : List ℕ) (h : IsCounted parts n taken slots) (q slot : ℕ) (lt : q < parts)
      (is : q ≡ owner_of S own n) (next : slot ≡ get_or taken q 0) (now : new ≡ set taken q (slot + 1)) where
    kept : (p k : ℕ) → k < length (ends_below n p) → get_or (slots ++ slot ∷ []) (get_or (ends_below n p) k 0) 0 ≡ k
    kept p k less =
        let below_n = all_below n p k less in
        let long = h.many in
        get_or_append_left slots (slot ∷ []) 0 (get_or (ends_below n p) k 0) (omega arith) ∙ h.each p k less

    counted : (p : ℕ) → p < parts → get_or new p 0 ≡ length (ends_below (n + 1) p)
    counted p lp =
        elim (cases_Bool (q == p)) [
          | inl e ↦
              let here : q ≡ p = eqb-true q p e in
              let all = h.all_parts in
              let there : p < length taken = omega arith in
              let one = ap (λ (xs : List ℕ). length xs) (one_more (owner_of S own) n p (sym is ∙ here)) ∙ length_push (ends_below n p) n in
              let old : slot ≡ length (ends_below n p) = next ∙ ap (λ (z : ℕ). get_or taken z 0) here ∙ h.count p lp in
              let set_is : get_or new p 0 ≡ slot + 1 =
              ap (λ (xs : List ℕ). get_or xs p 0) (now ∙ ap (λ (z : ℕ). set taken z (slot + 1)) here)
              ∙ get_or-set_same taken p (slot + 1) 0 there in
              omega arith
          | inr e ↦
              let other : q ≢ p = eqb-false q p e in
              let turned : p ≢ q = λ z. other (sym z) in
              ap (λ (xs : List ℕ). get_or xs p 0) now ∙ get_or-set_other taken q p (slot + 1) 0 turned ∙ h.count p lp
              ∙ sym (ap (λ (xs : List ℕ). length xs) (no_more (owner_of S own) n p (λ z. other (is ∙ z))))
        ]

    placed : (p k : ℕ) → k < length (ends_below (n + 1) p) → get_or (slots ++ slot ∷ []) (get_or (ends_below (n + 1) p) k 0) 0 ≡ k
    placed p k less =
        let F : List ℕ → Type 0 = λ xs. k < length xs → get_or (slots ++ slot ∷ []) (get_or xs k 0) 0 ≡ k in
        elim (cases_Bool (q == p)) [
          | inl e ↦
              let here : q ≡ p = eqb-true q p e in
              subst F (sym (one_more (owner_of S own) n p (sym is ∙ here)))
              (λ l. let long = length_push (ends_below n p) n in
              elim (cases_lt k (length (ends_below n p))) [
                | inl old ↦
                    ap (λ (x : ℕ). get_or (slots ++ slot ∷ []) x 0) (get_or_append_left (ends_below n p) (n ∷ []) 0 k old) ∙ kept p k old
                | inr past ↦
                    let last : length (ends_below n p) ≡ k = omega arith in
                    ap (λ (x : ℕ). get_or (slots ++ slot ∷ []) x 0) (get_or_push (ends_below n p) n 0 k last)
                    ∙ get_or_push slots slot 0 n h.many ∙ next ∙ h.count q lt ∙ ap (λ (z : ℕ). length (ends_below n z)) here ∙ last
              ])
              less
          | inr e ↦
              let other : q ≢ p = eqb-false q p e in
              subst F (sym (no_more (owner_of S own) n p (λ z. other (is ∙ z)))) (λ l. kept p k l) less
        ]

    pub counted_more : IsCounted parts (n + 1) new (slots ++ slot ∷ [])
    counted_more =
        let long = h.all_parts in
        let same : length new ≡ length taken = ap (λ (xs : List ℕ). length xs) now ∙ length-set taken q (slot + 1) in
        record { all_parts = omega arith; count = counted; many = length_push slots slot ∙ ap (λ (m : ℕ). m + 1) h.many; each = placed }

  pub all_slots : (parts n : ℕ) (taken slots : List ℕ) → IsCounted parts n taken slots → n ≡ length S.links → AreSlots S own slots
  all_slots parts n taken slots h e =
      let all = subst (λ (m : ℕ). IsCounted parts m taken slots) e h in record { many = all.many; each = all.each }
