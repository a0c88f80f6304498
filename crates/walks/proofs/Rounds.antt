-- The labels after rounds: where they come from, that they only fall, and that they are the arrivals of walks.
use Rattle.std.{proofs.lemmas.List.FromFn.length-map-range_with_len, specs.List.range_with_len, specs.Prelude.nat_eq, proofs.Common.◌≡◌}
use Rattle.std.proofs.Common.{ℕ, zero, suc, ◌+◌, ◌-◌, ◌<◌, ◌≤◌, Bool, cond, length, map, Option, None, Some, ◌⊎◌, inl, inr, refl, sym, ◌∙◌, ap, subst, arith}
use Rattle.std.proofs.lemmas.{Bool.cases_Bool, Bool.cases_lt, Bool.eq-eqb, Bool.eqb-true, List.get_or_past, List.FromFn.get_or-map-range_with_len}
use Rattle.walks.proofs.Labels.{some_by, relabelled_own, relabelled_along, relabelled_cases}
use Rattle.walks.specs.{Arrivals.Arrivals, Rounds.Labels, Rounds.label_at, Rounds.IsBy, Rounds.start_labels, Rounds.relabelled, Rounds.labels_after}
use Rattle.walks.specs.Walks.{Ends, start_of, end_of, AreWithin}

-- a list of labels made from a function of the node
label_of : (f : ℕ → Option ℕ) (nodes node : ℕ) → node < nodes → label_at (map f (range_with_len 0 nodes)) node ≡ f node
label_of f nodes node within = get_or-map-range_with_len f 0 nodes node node None within (omega arith)

no_label_past : (f : ℕ → Option ℕ) (nodes node : ℕ) → nodes ≤ node → label_at (map f (range_with_len 0 nodes)) node ≡ None
no_label_past f nodes node past = get_or_past (map f (range_with_len 0 nodes)) node None
    (omega (arith, length-map-range_with_len f 0 nodes))

-- a node that has a label is there
labelled_within : (f : ℕ → Option ℕ) (nodes node a : ℕ) → label_at (map f (range_with_len 0 nodes)) node ≡ Some a → node < nodes
labelled_within f nodes node a e =
    elim (cases_lt node nodes) [ inl within ↦ within | inr past ↦ absurd (cc (e, no_label_past f nodes node past)) ]

start_is : (nodes from second : ℕ) → from < nodes → label_at (start_labels nodes from second) from ≡ Some second
unfolding start_labels
start_is nodes from second within =
    label_of (λ node. cond (nat_eq node from) (Some second) None) nodes from within
    ∙ ap (λ (b : Bool). cond b (Some second) None) (eq-eqb from from refl)

start_only : (nodes from second node a : ℕ) → label_at (start_labels nodes from second) node ≡ Some a → (node ≡ from) × (a ≡ second)
unfolding start_labels
start_only nodes from second node a e =
    let within = labelled_within (λ n. cond (nat_eq n from) (Some second) None) nodes node a e in
    let at : cond (nat_eq node from) (Some second) None ≡ Some a =
    sym (label_of (λ n. cond (nat_eq n from) (Some second) None) nodes node within) ∙ e in
    elim (cases_Bool (nat_eq node from)) [
      | inl here ↦ let given : Some second ≡ Some a = simp here at at in (eqb-true node from here, cc given)
      | inr elsewhere ↦ let none : None ≡ Some a = simp elsewhere at at in absurd (cc none)
    ]

-- of a network, a start and its second
module _ (nodes : ℕ) (ends : Ends) (arrive : Arrivals) (from second : ℕ) where
  abbrev pub after : ℕ → Labels
  after rounds = labels_after rounds nodes ends arrive from second

  pub length-after : (rounds : ℕ) → length (after rounds) ≡ nodes
  unfolding labels_after start_labels
  length-after zero = length-map-range_with_len (λ node. cond (nat_eq node from) (Some second) None) 0 nodes
  length-after (suc rounds) = length-map-range_with_len (relabelled ends arrive (after rounds)) 0 nodes

  after_within : (rounds node a : ℕ) → label_at (after rounds) node ≡ Some a → node < nodes
  after_within rounds node a e =
      elim (cases_lt node nodes) [
        | inl within ↦ within
        | inr past ↦ absurd (cc (e, get_or_past (after rounds) node None (omega (arith, length-after rounds))))
      ]

  pub after_start : from < nodes → label_at (after zero) from ≡ Some second
  unfolding labels_after
  after_start within = start_is nodes from second within

  -- a label is no later after a round more
  after_own : (rounds node at : ℕ) → IsBy (label_at (after rounds) node) at → IsBy (label_at (after (suc rounds)) node) at
  unfolding labels_after
  after_own rounds node at h =
      let label = some_by (label_at (after rounds) node) at h in
      let within = after_within rounds node label.0 label.1 in
      let P : Option ℕ → Type 0 = λ o. IsBy o at in
      subst P (sym (label_of (relabelled ends arrive (after rounds)) nodes node within))
      (relabelled_own ends arrive (after rounds) node at h)

  pub after_more : (rounds more node at : ℕ) → IsBy (label_at (after rounds) node) at → IsBy (label_at (after (more + rounds)) node) at
  after_more rounds zero node at h =
      let P : ℕ → Type 0 = λ k. IsBy (label_at (after k) node) at in
      let same : rounds ≡ 0 + rounds = omega arith in
      subst P same h
  after_more rounds (suc more) node at h =
      let P : ℕ → Type 0 = λ k. IsBy (label_at (after k) node) at in
      let same : suc (more + rounds) ≡ suc more + rounds = omega arith in
      subst P same (after_own (more + rounds) node at (after_more rounds more node at h))

  pub after_later : (rounds later node at : ℕ) → rounds ≤ later → IsBy (label_at (after rounds) node) at →
      IsBy (label_at (after later) node) at
  after_later rounds later node at before h =
      let P : ℕ → Type 0 = λ k. IsBy (label_at (after k) node) at in
      let same : later - rounds + rounds ≡ later = omega arith in
      subst P same (after_more rounds (later - rounds) node at h)

  -- a round looks along every link
  pub after_along : AreWithin nodes ends → (rounds link left : ℕ) → link < length ends → label_at (after rounds) (start_of ends link)
      ≡ Some left
      → IsBy (label_at (after (suc rounds)) (end_of ends link)) (arrive link left)
  unfolding labels_after
  after_along inside rounds link left within is =
      let end_within = (inside link (0, 0) within).1 in
      let P : Option ℕ → Type 0 = λ o. IsBy o (arrive link left) in
      subst P (sym (label_of (relabelled ends arrive (after rounds)) nodes (end_of ends link) end_within))
      (relabelled_along ends arrive (after rounds) link left within is)

  -- where a label comes from: it is the start's, or it was reached along a link from a label of an earlier round
  unfoldable pub Origin : ℕ → ℕ → ℕ → Type 0
  Origin rounds node at =
      ((node ≡ from) × (at ≡ second))
      ⊎ ((before link left : ℕ) × (before < rounds) × (link < length ends) × (end_of ends link ≡ node)
      × (label_at (after before) (start_of ends link) ≡ Some left) × (arrive link left ≡ at))

  abbrev origin_more : (rounds node at : ℕ) → Origin rounds node at → Origin (suc rounds) node at
  unfolding Origin
  origin_more rounds node at (inl start) = inl start
  origin_more rounds node at (inr step) = inr (step.0, step.1, step.2, let less = step.3 in omega arith, step.4, step.5, step.6, step.7)

  pub origin : (rounds node at : ℕ) → label_at (after rounds) node ≡ Some at → Origin rounds node at
  unfolding labels_after Origin
  origin zero node at e = inl (start_only nodes from second node at e)
  origin (suc rounds) node at e =
      let within = after_within (suc rounds) node at e in
      let made : relabelled ends arrive (after rounds) node ≡ Some at =
      sym (label_of (relabelled ends arrive (after rounds)) nodes node within) ∙ e in
      elim (relabelled_cases ends arrive (after rounds) node at made) [
        | inl own ↦ origin_more rounds node at (origin rounds node at own)
        | inr step ↦ inr (rounds, step.0, step.1, omega arith, step.2, step.3, step.4, step.5)
      ]
