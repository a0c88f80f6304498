-- Walks one link longer, and labels that are kept along them.
use Rattle.std.proofs.Common.{◌≡◌, ℕ, suc, ◌+◌, ◌<◌, ◌≤◌, List, [], ◌∷◌, ◌++◌, length, Option, None, Some, refl, sym, ◌∙◌, ap, subst, arith}
use Rattle.std.specs.Prelude.{IfSome}
use Rattle.walks.{proofs.Labels.some_by, proofs.Labels.by_later, specs.Arrivals.Arrivals, specs.Arrivals.IsFifo}
use Rattle.walks.specs.{Certificates.IsKept, Rounds.Labels, Rounds.label_at, Rounds.IsBy, Walks.Ends, Walks.start_of, Walks.end_of, Walks.IsWalk, Walks.arrival}

module _ (ends : Ends) (arrive : Arrivals) where
  pub walk_more : (from : ℕ) (links : List ℕ) (to link : ℕ) → IsWalk ends from links to → link < length ends → start_of ends link ≡ to
      → IsWalk ends from (links ++ link ∷ []) (end_of ends link)
  walk_more from [] to link here within begins = (within, begins ∙ sym here, refl)
  walk_more from (first ∷ links) to link walk within begins =
      (walk.0, walk.1, walk_more (end_of ends first) links to link walk.2 within begins)

  pub arrival_more : (second : ℕ) (links : List ℕ) (link : ℕ) → arrival arrive second (links ++ link ∷ [])
      ≡ arrive link (arrival arrive second links)
  arrival_more second [] link = refl
  arrival_more second (first ∷ links) link = arrival_more (arrive first second) links link

  -- a walk takes no time back
  pub arrival_later : IsFifo arrive → (second : ℕ) (links : List ℕ) → second ≤ arrival arrive second links
  arrival_later fifo second [] = omega arith
  arrival_later fifo second (link ∷ links) =
      let more = fifo.later link second in
      let rest = arrival_later fifo (arrive link second) links in
      omega arith

  -- labels in turn, each kept by the next along every link: along a walk of so many links the label so many turns later is no later than
  -- the arrival
  pub by_turns : IsFifo arrive → (turn : ℕ → Labels)
      → ((k link left : ℕ) → link < length ends → label_at (turn k) (start_of ends link) ≡ Some left →
      IsBy (label_at (turn (suc k)) (end_of ends link)) (arrive link left))
      → (links : List ℕ) (k from to at : ℕ) → IsBy (label_at (turn k) from) at → IsWalk ends from links to
      → IsBy (label_at (turn (k + length links)) to) (arrival arrive at links)
  by_turns fifo turn kept [] k from to at h here =
      let P : ℕ → Type 0 = λ n. IsBy (label_at (turn k) n) at in
      let Q : ℕ → Type 0 = λ n. IsBy (label_at (turn n) to) at in
      let same : k ≡ k + 0 = omega arith in
      subst Q same (subst P here h)
  by_turns fifo turn kept (link ∷ links) k from to at h walk =
      let P : ℕ → Type 0 = λ n. IsBy (label_at (turn n) to) (arrival arrive (arrive link at) links) in
      let same : suc k + length links ≡ k + suc (length links) = omega arith in
      let left = some_by (label_at (turn k) from) at h in
      let here : label_at (turn k) (start_of ends link) ≡ Some left.0 = ap (λ (n : ℕ). label_at (turn k) n) walk.1 ∙ left.1 in
      let reached = by_later (label_at (turn (suc k)) (end_of ends link)) (arrive link left.0) (arrive link at)
      (kept k link left.0 walk.0 here) (fifo.in_order link left.0 at left.2) in
      subst P same (by_turns fifo turn kept links (suc k) (end_of ends link) to (arrive link at) reached walk.2)

  -- what a kept link says
  pub kept_by : (labels : Labels) (link left : ℕ) → IsKept ends arrive labels link → label_at labels (start_of ends link) ≡ Some left
      → IsBy (label_at labels (end_of ends link)) (arrive link left)
  kept_by labels link left kept is =
      let P : Option ℕ → Type 0 = λ o. IfSome o (λ a. IsBy (label_at labels (end_of ends link)) (arrive link a)) in
      subst P is kept

  pub kept_from : (labels : Labels) (link : ℕ) → ((left : ℕ) → label_at labels (start_of ends link) ≡ Some left →
      IsBy (label_at labels (end_of ends link)) (arrive link left))
      → IsKept ends arrive labels link
  kept_from labels link h = from_cases (label_at labels (start_of ends link)) refl
    where
      from_cases : (o : Option ℕ) → label_at labels (start_of ends link) ≡ o →
          IfSome o (λ a. IsBy (label_at labels (end_of ends link)) (arrive link a))
      from_cases None is = tt
      from_cases (Some left) is = h left is
