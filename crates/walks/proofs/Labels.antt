-- Labels: which is earlier, and what a node's label is after a round.
use Rattle.std.proofs.Common.{◌≡◌, ℕ, zero, suc, ◌+◌, ◌<◌, ◌≤◌, min, Bool, true, false, cond, List, [], ◌∷◌, length, get_or, map, Option, None, Some, ◌⊎◌}
use Rattle.std.proofs.Common.{inl, inr, refl, sym, ◌∙◌, ap, subst, arith, fold}
use Rattle.std.proofs.lemmas.Bool.{cases_Bool, eq-eqb, eqb-true}
use Rattle.std.specs.{List.enumerate_from, Option.option_map, Prelude.nat_eq, Prelude.filter}
use Rattle.walks.specs.{Arrivals.Arrivals, Rounds.Labels, Rounds.label_at, Rounds.IsBy, Rounds.along, Rounds.relabelled}
use Rattle.walks.specs.Walks.{Ends, start_of, end_of}
use Rattle.calendar.specs.Waking.{earliest}

pub by_some : (label : Option ℕ) (a second : ℕ) → label ≡ Some a → a ≤ second → IsBy label second
by_some None a second e h = absurd (cc e)
by_some (Some b) a second e h = let same : b ≡ a = cc e in omega (arith, same)

-- a label that is one by some second is one
pub some_by : (label : Option ℕ) (second : ℕ) → IsBy label second → (a : ℕ) × (label ≡ Some a) × (a ≤ second)
some_by None second h = absurd h
some_by (Some a) second h = (a, refl, h)

pub by_later : (label : Option ℕ) (second later : ℕ) → IsBy label second → second ≤ later → IsBy label later
by_later None second later h less = h
by_later (Some a) second later h less = omega arith

earlier_by_left : (a b : Option ℕ) (second : ℕ) → IsBy a second → IsBy (earliest a b) second
earlier_by_left None b second h = absurd h
earlier_by_left (Some a) None second h = h
earlier_by_left (Some a) (Some b) second h = omega arith

earlier_by_right : (a b : Option ℕ) (second : ℕ) → IsBy b second → IsBy (earliest a b) second
earlier_by_right None b second h = h
earlier_by_right (Some a) None second h = absurd h
earlier_by_right (Some a) (Some b) second h = omega arith

least_of_two : (a b : ℕ) → (min a b ≡ a) ⊎ (min a b ≡ b)
least_of_two a b = grind arith

earlier_cases : (a b : Option ℕ) (second : ℕ) → earliest a b ≡ Some second → (a ≡ Some second) ⊎ (b ≡ Some second)
earlier_cases None b second e = inr e
earlier_cases (Some a) None second e = inl e
earlier_cases (Some a) (Some b) second e =
    elim (least_of_two a b) [ inl first ↦ inl (cc (e, first)) | inr other ↦ inr (cc (e, other)) ]

-- one link more looked at, where it ends at the node
looked : Arrivals → Labels → ℕ → ℕ → ℕ × ℕ → Option ℕ → Option ℕ
looked arrive labels node i link best = cond (nat_eq link.1 node) (earliest best (along arrive labels (i, link))) best

abbrev best_of : Arrivals → Labels → ℕ → ℕ → List (ℕ × ℕ) → Option ℕ → Option ℕ
best_of arrive labels node i ends best =
    fold earliest best (map (along arrive labels) (filter (λ (l : ℕ × (ℕ × ℕ)). nat_eq l.1.1 node) (enumerate_from i ends)))

one_more : (arrive : Arrivals) (labels : Labels) (node i : ℕ) (link : ℕ × ℕ) (ends : List (ℕ × ℕ)) (best : Option ℕ)
    → best_of arrive labels node i (link ∷ ends) best ≡ best_of arrive labels node (i + 1) ends (looked arrive labels node i link best)
unfolding looked
one_more arrive labels node i link ends best =
    elim (cases_Bool (nat_eq link.1 node)) [ inl yes' ↦ simp yes' | inr no' ↦ simp no' ]

looked_by : (arrive : Arrivals) (labels : Labels) (node i : ℕ) (link : ℕ × ℕ) (best : Option ℕ) (second : ℕ) → IsBy best second
    → IsBy (looked arrive labels node i link best) second
unfolding looked
looked_by arrive labels node i link best second h =
    elim (nat_eq link.1 node) as (λ b. IsBy (cond b (earliest best (along arrive labels (i, link))) best) second) [
      | true ↦ earlier_by_left best (along arrive labels (i, link)) second h
      | false ↦ h
    ]

looked_along : (arrive : Arrivals) (labels : Labels) (node i : ℕ) (link : ℕ × ℕ) (best : Option ℕ) (second : ℕ) → link.1 ≡ node
    → IsBy (along arrive labels (i, link)) second → IsBy (looked arrive labels node i link best) second
unfolding looked
looked_along arrive labels node i link best second ends h =
    let here : nat_eq link.1 node ≡ true = eq-eqb link.1 node ends in
    let P : Bool → Type 0 = λ b. IsBy (cond b (earliest best (along arrive labels (i, link))) best) second in
    subst P (sym here) (earlier_by_right best (along arrive labels (i, link)) second h)

looked_cases : (arrive : Arrivals) (labels : Labels) (node i : ℕ) (link : ℕ × ℕ) (best : Option ℕ) (second : ℕ)
    → looked arrive labels node i link best ≡ Some second
    → (best ≡ Some second) ⊎ ((link.1 ≡ node) × (along arrive labels (i, link) ≡ Some second))
unfolding looked
looked_cases arrive labels node i link best second e =
    elim (cases_Bool (nat_eq link.1 node)) [
      | inl here ↦
          let found : earliest best (along arrive labels (i, link)) ≡ Some second = simp here at e in
          elim (earlier_cases best (along arrive labels (i, link)) second found) [
            | inl before ↦ inl before
            | inr now ↦ inr (eqb-true link.1 node here, now)
          ]
      | inr elsewhere ↦ inl (simp elsewhere at e)
    ]

best_by : (arrive : Arrivals) (labels : Labels) (node i : ℕ) (ends : Ends) (best : Option ℕ) (second : ℕ) → IsBy best second
    → IsBy (best_of arrive labels node i ends best) second
best_by arrive labels node i [] best second h = h
best_by arrive labels node i (link ∷ ends) best second h =
    let P : Option ℕ → Type 0 = λ o. IsBy o second in
    subst P (sym (one_more arrive labels node i link ends best))
    (best_by arrive labels node (i + 1) ends (looked arrive labels node i link best) second
    (looked_by arrive labels node i link best second h))

best_along : (arrive : Arrivals) (labels : Labels) (node i : ℕ) (ends : Ends) (best : Option ℕ) (second e j : ℕ) → j ≡ i + e →
    e < length ends
    → end_of ends e ≡ node → IsBy (along arrive labels (j, get_or ends e (0, 0))) second →
    IsBy (best_of arrive labels node i ends best) second
best_along arrive labels node i [] best second e j at within ends h = absurd (omega arith)
best_along arrive labels node i (link ∷ ends) best second zero j at within here h =
    let P : Option ℕ → Type 0 = λ o. IsBy o second in
    let Q : ℕ → Type 0 = λ k. IsBy (along arrive labels (k, link)) second in
    let same : j ≡ i = omega arith in
    subst P (sym (one_more arrive labels node i link ends best))
    (best_by arrive labels node (i + 1) ends (looked arrive labels node i link best) second
    (looked_along arrive labels node i link best second here (subst Q same h)))
best_along arrive labels node i (link ∷ ends) best second (suc e) j at within here h =
    let P : Option ℕ → Type 0 = λ o. IsBy o second in
    subst P (sym (one_more arrive labels node i link ends best))
    (best_along arrive labels node (i + 1) ends (looked arrive labels node i link best) second e j (omega arith) (omega arith) here h)

-- where a label that is found comes from
abbrev IsFound : Arrivals → Labels → ℕ → ℕ → Ends → ℕ → Type 0
IsFound arrive labels node i ends second =
    (e : ℕ) × (e < length ends) × (end_of ends e ≡ node) × (along arrive labels (i + e, get_or ends e (0, 0)) ≡ Some second)

best_cases : (arrive : Arrivals) (labels : Labels) (node i : ℕ) (ends : Ends) (best : Option ℕ) (second : ℕ)
    → best_of arrive labels node i ends best ≡ Some second → (best ≡ Some second) ⊎ IsFound arrive labels node i ends second
best_cases arrive labels node i [] best second e = inl e
best_cases arrive labels node i (link ∷ ends) best second e =
    elim (best_cases arrive labels node (i + 1) ends (looked arrive labels node i link best) second
    (sym (one_more arrive labels node i link ends best) ∙ e)) [
      | inl before ↦ elim (looked_cases arrive labels node i link best second before) [
        | inl own ↦ inl own
        | inr now ↦ inr (0, omega arith, now.0, ap (λ (k : ℕ). along arrive labels (k, link)) (same_place i) ∙ now.1)
      ]
      | inr later ↦ inr (
        suc later.0,
        let within = later.1 in omega arith,
        later.2,
        ap (λ (k : ℕ). along arrive labels (k, get_or ends later.0 (0, 0))) (next_place i later.0) ∙ later.3,
      )
    ]
  where
    same_place : (i : ℕ) → i + 0 ≡ i
    same_place i = omega arith

    next_place : (i e : ℕ) → i + suc e ≡ i + 1 + e
    next_place i e = omega arith

-- what a label along a link tells of the start of the link
along_some : (arrive : Arrivals) (labels : Labels) (link start second : ℕ) → option_map (arrive link) (label_at labels start) ≡ Some second
    → (left : ℕ) × (label_at labels start ≡ Some left) × (arrive link left ≡ second)
along_some arrive labels link start second e = taken (label_at labels start) refl e
  where
    taken : (o : Option ℕ) → label_at labels start ≡ o → option_map (arrive link) o ≡ Some second
        → (left : ℕ) × (label_at labels start ≡ Some left) × (arrive link left ≡ second)
    taken None is e = absurd (cc e)
    taken (Some left) is e = (left, is, cc e)

-- a node's label after a round is no later than before
pub relabelled_own : (ends : Ends) (arrive : Arrivals) (labels : Labels) (node second : ℕ) → IsBy (label_at labels node) second
    → IsBy (relabelled ends arrive labels node) second
unfolding relabelled
relabelled_own ends arrive labels node second h = best_by arrive labels node 0 ends (label_at labels node) second h

-- nor than the arrival along a link into it
pub relabelled_along : (ends : Ends) (arrive : Arrivals) (labels : Labels) (link left : ℕ) → link < length ends
    → label_at labels (start_of ends link) ≡ Some left → IsBy (relabelled ends arrive labels (end_of ends link)) (arrive link left)
unfolding relabelled
relabelled_along ends arrive labels link left within is =
    best_along arrive labels (end_of ends link) 0 ends (label_at labels (end_of ends link)) (arrive link left) link link
    (omega arith) within refl
    (by_some (along arrive labels (link, get_or ends link (0, 0))) (arrive link left) (arrive link left)
    (ap (λ (o : Option ℕ). option_map (arrive link) o) is) (omega arith))

-- and it is its own, or one along a link into it
pub relabelled_cases : (ends : Ends) (arrive : Arrivals) (labels : Labels) (node second : ℕ) → relabelled ends arrive labels node
    ≡ Some second
    → (label_at labels node ≡ Some second)
    ⊎ ((link left : ℕ) × (link < length ends) × (end_of ends link ≡ node) × (label_at labels (start_of ends link) ≡ Some left) ×
    (arrive link left ≡ second))
unfolding relabelled
relabelled_cases ends arrive labels node second e =
    elim (best_cases arrive labels node 0 ends (label_at labels node) second e) [
      | inl own ↦ inl own
      | inr found ↦
          let at : option_map (arrive found.0) (label_at labels (start_of ends found.0)) ≡ Some second =
          ap (λ (k : ℕ). option_map (arrive k) (label_at labels (start_of ends found.0))) (sym (zero_place found.0)) ∙ found.3 in
          let taken = along_some arrive labels found.0 (start_of ends found.0) second at in
          inr (found.0, taken.0, found.1, found.2, taken.1, taken.2)
    ]
  where
    zero_place : (e : ℕ) → 0 + e ≡ e
    zero_place e = omega arith
