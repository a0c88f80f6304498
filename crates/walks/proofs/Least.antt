-- Least arrivals: as many rounds as there are nodes find them, and labels that are kept bound every walk.
use Rattle.std.proofs.Common.{◌≡◌, ℕ, zero, suc, ◌+◌, ◌<◌, ◌≤◌, List, [], ◌∷◌, ◌++◌, length, Option, None, Some, inl, inr, refl, sym, ◌∙◌, ap, subst}
use Rattle.std.{proofs.Common.arith, specs.Prelude.MatchOption}
use Rattle.walks.proofs.{Kept.walk_more, Kept.arrival_more, Kept.arrival_later, Kept.by_turns, Kept.kept_by, Kept.kept_from, Labels.by_some, Labels.some_by}
use Rattle.walks.proofs.{Labels.by_later, Ranks.rank-le-length, Ranks.rank_less, Rounds.length-after, Rounds.after_start, Rounds.after_later}
use Rattle.walks.{proofs.Rounds.after_along, proofs.Rounds.Origin, proofs.Rounds.origin, specs.Arrivals.Arrivals, specs.Arrivals.IsFifo}
use Rattle.walks.specs.{Certificates.IsKept, Rounds.Labels, Rounds.label_at, Rounds.IsBy, Rounds.rank, Rounds.labels_after, Rounds.least_labels}
use Rattle.walks.specs.Walks.{Ends, start_of, end_of, AreWithin, IsWalk, NoWalk, arrival, Reached, IsLeast}

-- a walk goes on along a link
pub reached_more : (ends : Ends) (arrive : Arrivals) (from second to at link : ℕ) → Reached ends arrive from second to at →
    link < length ends → start_of ends link ≡ to
    → Reached ends arrive from second (end_of ends link) (arrive link at)
reached_more ends arrive from second to at link walk within begins = (
  walk.0 ++ link ∷ [],
  walk_more ends arrive from walk.0 to link walk.1 within begins,
  arrival_more ends arrive second walk.0 link ∙ ap (arrive link) walk.2,
)

-- labels bound the arrivals of walks where the start has its label and every link is kept
pub bounds_walks : (ends : Ends) (arrive : Arrivals) → IsFifo arrive → (from second : ℕ) (labels : Labels) → label_at labels from
    ≡ Some second
    → ((link : ℕ) → link < length ends → IsKept ends arrive labels link)
    → (to : ℕ) (links : List ℕ) → IsWalk ends from links to → IsBy (label_at labels to) (arrival arrive second links)
bounds_walks ends arrive fifo from second labels start kept to links walk =
    by_turns ends arrive fifo (λ _. labels) (λ k link left within is. kept_by ends arrive labels link left (kept link within) is) links 0
    from to second
    (by_some (label_at labels from) second second start (omega arith)) walk

-- of a network with its links between its nodes, a start at one of them and its second
module _ (nodes : ℕ) (ends : Ends) (arrive : Arrivals) (fifo : IsFifo arrive) (inside : AreWithin nodes ends) (from second : ℕ)
    (within : from < nodes) where
  -- each label is the arrival of a walk
  pub after_reached : (most rounds node at : ℕ) → rounds < most → label_at (labels_after rounds nodes ends arrive from second) node
      ≡ Some at → Reached ends arrive from second node at
  unfolding Origin
  after_reached zero rounds node at less e = absurd (omega arith)
  after_reached (suc most) rounds node at less e =
      elim (origin nodes ends arrive from second rounds node at e) [
        | inl start ↦
            let P : ℕ → Type 0 = λ n. Reached ends arrive from second n at in
            let here : Reached ends arrive from second from at = ([], refl, sym start.1) in
            subst P (sym start.0) here
        | inr step ↦
            let less_before : step.0 < most = let before = step.3 in omega arith in
            let walk = after_reached most step.0 (start_of ends step.1) step.2 less_before step.6 in
            let on = reached_more ends arrive from second (start_of ends step.1) step.2 step.1 walk step.4 refl in
            let P : ℕ → Type 0 = λ n. Reached ends arrive from second n at in
            let Q : ℕ → Type 0 = λ a. Reached ends arrive from second (end_of ends step.1) a in
            subst P step.5 (subst Q step.7 on)
      ]

  -- after so many rounds each walk of so many links is accounted for
  pub walks_in_rounds : (links : List ℕ) (to : ℕ) → IsWalk ends from links to
      → IsBy (label_at (labels_after (length links) nodes ends arrive from second) to) (arrival arrive second links)
  walks_in_rounds links to walk =
      let P : ℕ → Type 0 = λ k. IsBy (label_at (labels_after k nodes ends arrive from second) to) (arrival arrive second links) in
      let same : 0 + length links ≡ length links = omega arith in
      subst P same
      (by_turns ends arrive fifo (λ k. labels_after k nodes ends arrive from second)
      (λ k link left is_link is. after_along nodes ends arrive from second inside k link left is_link is) links 0 from to second
      (by_some (label_at (labels_after 0 nodes ends arrive from second) from) second second
      (after_start nodes ends arrive from second within) (omega arith)) walk)

  -- whatever label comes in whatever round, one as early is there after as many rounds as there are earlier labels then
  by_rank : (rounds bound node at : ℕ) → at < bound → label_at (labels_after rounds nodes ends arrive from second) node ≡ Some at
      → IsBy (label_at (labels_after (rank (labels_after rounds nodes ends arrive from second) at) nodes ends arrive from second) node) at
  unfolding Origin
  by_rank rounds zero node at less e = absurd (omega arith)
  by_rank rounds (suc bound) node at less e =
      let all : Labels = labels_after rounds nodes ends arrive from second in
      elim (origin nodes ends arrive from second rounds node at e) [
        | inl start ↦
            let P : ℕ → Type 0 = λ n. IsBy (label_at (labels_after (rank all at) nodes ends arrive from second) n) at in
            subst P (sym start.0)
            (after_later nodes ends arrive from second 0 (rank all at) from at (omega arith)
            (by_some (label_at (labels_after 0 nodes ends arrive from second) from) second at
            (after_start nodes ends arrive from second within) (let same = start.1 in omega arith)))
        | inr step ↦
            let u : ℕ = start_of ends step.1 in
            let before : step.0 ≤ rounds = let h = step.3 in omega arith in
            let now : IsBy (label_at all u) step.2 =
            after_later nodes ends arrive from second step.0 rounds u step.2 before
            (by_some (label_at (labels_after step.0 nodes ends arrive from second) u) step.2 step.2 step.6 (omega arith)) in
            let left = some_by (label_at all u) step.2 now in
            let later : step.2 < at = let more = fifo.later step.1 step.2 in let is = step.7 in omega arith in
            let left_before : left.0 < at = let h = left.2 in omega arith in
            let found = some_by (label_at (labels_after (rank all left.0) nodes ends arrive from second) u) left.0
            (by_rank rounds bound u left.0 (omega arith) left.1) in
            let reached : IsBy (label_at (labels_after (suc (rank all left.0)) nodes ends arrive from second) (end_of ends step.1))
            (arrive step.1 found.0) =
            after_along nodes ends arrive from second inside (rank all left.0) step.1 found.0 step.4 found.1 in
            let in_order : arrive step.1 found.0 ≤ arrive step.1 step.2 =
            fifo.in_order step.1 found.0 step.2 (let h = found.2 in let k = left.2 in omega arith) in
            let in_time : arrive step.1 found.0 ≤ at = let is = step.7 in omega arith in
            let higher : suc (rank all left.0) ≤ rank all at = let less_rank =
            rank_less all u left.0 at left.1 left_before in omega arith in
            let P : ℕ → Type 0 = λ n. IsBy (label_at (labels_after (rank all at) nodes ends arrive from second) n) at in
            subst P step.5
            (after_later nodes ends arrive from second (suc (rank all left.0)) (rank all at) (end_of ends step.1) at higher
            (by_later (label_at (labels_after (suc (rank all left.0)) nodes ends arrive from second) (end_of ends step.1))
            (arrive step.1 found.0) at reached in_time))
      ]

  -- as many rounds as there are nodes are enough
  pub rounds_enough : (rounds node at : ℕ) → label_at (labels_after rounds nodes ends arrive from second) node ≡ Some at →
      IsBy (label_at (least_labels nodes ends arrive from second) node) at
  rounds_enough rounds node at e =
      let all : Labels = labels_after rounds nodes ends arrive from second in
      let few : rank all at ≤ nodes = let most = rank-le-length all at in let count =
      length-after nodes ends arrive from second rounds in omega arith in
      after_later nodes ends arrive from second (rank all at) nodes node at few (by_rank rounds (suc at) node at (omega arith) e)

  -- the labels bound every walk
  pub least_bounds : (links : List ℕ) (to : ℕ) → IsWalk ends from links to →
      IsBy (label_at (least_labels nodes ends arrive from second) to) (arrival arrive second links)
  least_bounds links to walk =
      let there = some_by (label_at (labels_after (length links) nodes ends arrive from second) to) (arrival arrive second links)
      (walks_in_rounds links to walk) in
      by_later (label_at (least_labels nodes ends arrive from second) to) there.0 (arrival arrive second links)
      (rounds_enough (length links) to there.0 there.1) there.2

  pub least_reached : (node at : ℕ) → label_at (least_labels nodes ends arrive from second) node ≡ Some at →
      Reached ends arrive from second node at
  least_reached node at e = after_reached (suc nodes) nodes node at (omega arith) e

  -- a label is the least arrival over all walks
  pub label_is_least : (to at : ℕ) → label_at (least_labels nodes ends arrive from second) to ≡ Some at →
      IsLeast ends arrive from second to at
  label_is_least to at e = record {
    reached = least_reached to at e;
    none_earlier = λ links walk.
        let there = some_by (label_at (least_labels nodes ends arrive from second) to) (arrival arrive second links)
        (least_bounds links to walk) in
        let same : there.0 ≡ at = cc (there.1, e) in
        let before = there.2 in
        omega arith;
  }

  -- and none is there exactly where no walk leads
  pub none_is_no_walk : (to : ℕ) → label_at (least_labels nodes ends arrive from second) to ≡ None → NoWalk ends from to
  none_is_no_walk to e links walk =
      let there = some_by (label_at (least_labels nodes ends arrive from second) to) (arrival arrive second links)
      (least_bounds links to walk) in
      absurd (cc (there.1, e))

  pub least_start : label_at (least_labels nodes ends arrive from second) from ≡ Some second
  least_start =
      let here = some_by (label_at (least_labels nodes ends arrive from second) from) second (least_bounds [] from refl) in
      let walk = least_reached from here.0 here.1 in
      let later : second ≤ here.0 = let h = arrival_later ends arrive fifo second walk.0 in let is = walk.2 in omega arith in
      let same : here.0 ≡ second = let h = here.2 in omega arith in
      here.1 ∙ ap (λ (a : ℕ). Some a) same

  -- every link is kept
  pub least_kept : (link : ℕ) → link < length ends → IsKept ends arrive (least_labels nodes ends arrive from second) link
  least_kept link is_link =
      kept_from ends arrive (least_labels nodes ends arrive from second) link (λ left is.
      let there = some_by (label_at (labels_after (suc nodes) nodes ends arrive from second) (end_of ends link)) (arrive link left)
      (after_along nodes ends arrive from second inside nodes link left is_link is) in
      by_later (label_at (least_labels nodes ends arrive from second) (end_of ends link)) there.0 (arrive link left)
      (rounds_enough (suc nodes) (end_of ends link) there.0 there.1) there.2)

  pub least_or_none : (to : ℕ) → MatchOption (label_at (least_labels nodes ends arrive from second) to) (NoWalk ends from to)
      (IsLeast ends arrive from second to)
  least_or_none to = by_label (label_at (least_labels nodes ends arrive from second) to) refl
    where
      by_label : (o : Option ℕ) → label_at (least_labels nodes ends arrive from second) to ≡ o →
          MatchOption o (NoWalk ends from to) (IsLeast ends arrive from second to)
      by_label None is = none_is_no_walk to is
      by_label (Some at) is = label_is_least to at is
