-- Labels that hold up to a second: those by it are the least, and the route followed back from such a node is the chosen one.
use Rattle.std.proofs.Common.{◌≡◌, ℕ, zero, suc, ◌+◌, ◌<◌, ◌≤◌, Bool, true, false, cond, List, [], ◌∷◌, ◌++◌, length, Option, None, Some, ◌⊎◌, inl, inr, refl}
use Rattle.std.proofs.{Common.sym, Common.◌∙◌, Common.ap, Common.subst, Common.arith, Math.Path.fun_ext, lemmas.Bool.cases_lt, lemmas.List.same_lists}
use Rattle.std.{proofs.lemmas.List.get_or_default, specs.List.range_with_len, specs.Option.option_map_or, specs.Prelude.nat_eq, specs.Prelude.find}
use Rattle.walks.proofs.{Followed.link_leads, Followed.leads_from, Followed.leads_there, Kept.kept_from, Labels.by_some, Labels.some_by, Labels.by_later}
use Rattle.walks.{proofs.Least.bounds_walks, proofs.Least.least_bounds, proofs.Least.least_reached, proofs.Rounds.length-after, specs.Arrivals.Arrivals}
use Rattle.walks.specs.{Arrivals.IsFifo, Chosen.leads, Chosen.link_before, Chosen.followed, Rounds.Labels, Rounds.label_at, Rounds.IsBy, Rounds.least_labels}
use Rattle.walks.specs.Walks.{Ends, start_of, end_of, AreWithin, IsWalk, arrival, Reached}

-- labels that hold up to a second: the start has its own, each is the arrival of a walk, and along every link that is entered before that
-- second the end is reached by its label
pub record IsSettledTo (ends : List (ℕ × ℕ)) (arrive : ℕ → ℕ → ℕ) (from second now : ℕ) (labels : List (Option ℕ)) : Type 0 where
  pub start : label_at labels from ≡ Some second
  pub reached : (node at : ℕ) → label_at labels node ≡ Some at → Reached ends arrive from second node at
  pub kept : (link left : ℕ) → link < length ends → label_at labels (start_of ends link) ≡ Some left → left < now →
      IsBy (label_at labels (end_of ends link)) (arrive link left)

module _ (ends : Ends) (arrive : Arrivals) (fifo : IsFifo arrive) (from second now : ℕ) (labels : Labels)
    (settled : IsSettledTo ends arrive from second now labels) where
  -- along a walk, either a label is as early as the arrival, or the arrival is no longer before that second
  along_walk : (links : List ℕ) (node to at : ℕ) → IsBy (label_at labels node) at ⊎ (now ≤ at) → IsWalk ends node links to
      → IsBy (label_at labels to) (arrival arrive at links) ⊎ (now ≤ arrival arrive at links)
  along_walk [] node to at h here = let P : ℕ → Type 0 = λ n. IsBy (label_at labels n) at ⊎ (now ≤ at) in subst P here h
  along_walk (link ∷ links) node to at (inr past) walk =
      along_walk links (end_of ends link) to (arrive link at) (inr (let more = fifo.later link at in omega arith)) walk.2
  along_walk (link ∷ links) node to at (inl by) walk =
      let left = some_by (label_at labels node) at by in
      let starts : label_at labels (start_of ends link) ≡ Some left.0 = ap (λ (n : ℕ). label_at labels n) walk.1 ∙ left.1 in
      let in_order = fifo.in_order link left.0 at left.2 in
      elim (cases_lt left.0 now) [
        | inl before ↦
            let reached = settled.kept link left.0 walk.0 starts before in
            along_walk links (end_of ends link) to (arrive link at)
            (inl (by_later (label_at labels (end_of ends link)) (arrive link left.0) (arrive link at) reached in_order)) walk.2
        | inr past ↦
            let more = fifo.later link at in
            let later = left.2 in
            along_walk links (end_of ends link) to (arrive link at) (inr (omega arith)) walk.2
      ]

  pub settled_bounds : (links : List ℕ) (to : ℕ) → IsWalk ends from links to →
      IsBy (label_at labels to) (arrival arrive second links) ⊎ (now ≤ arrival arrive second links)
  settled_bounds links to walk = along_walk links from to second
      (inl (by_some (label_at labels from) second second settled.start (omega arith))) walk

module _ (nodes : ℕ) (ends : Ends) (arrive : Arrivals) (fifo : IsFifo arrive) (inside : AreWithin nodes ends) (from second : ℕ)
    (within : from < nodes)
    (now : ℕ) (labels : Labels) (settled : IsSettledTo ends arrive from second now labels) where
  -- a label by that second is the least one
  pub settled_is_least : (node at : ℕ) → label_at labels node ≡ Some at → at ≤ now →
      label_at (least_labels nodes ends arrive from second) node ≡ Some at
  settled_is_least node at is by =
      let walk = settled.reached node at is in
      let bound = some_by (label_at (least_labels nodes ends arrive from second) node) (arrival arrive second walk.0)
      (least_bounds nodes ends arrive fifo inside from second within walk.0 node walk.1) in
      let best = least_reached nodes ends arrive fifo inside from second within node bound.0 bound.1 in
      let lower : bound.0 ≤ at = let h = bound.2 in let e = walk.2 in omega arith in
      let upper : at ≤ bound.0 = elim (settled_bounds ends arrive fifo from second now labels settled best.0 node best.1) [
        | inl there ↦ let other = some_by (label_at labels node) (arrival arrive second best.0) there in let same : other.0 ≡ at =
            cc (other.1, is) in let h = other.2 in let e = best.2 in omega arith
        | inr past ↦ let e = best.2 in omega arith
      ] in
      let same : bound.0 ≡ at = omega arith in
      bound.1 ∙ ap (λ (n : ℕ). Some n) same

  -- and a least one before that second is there
  least_is_settled : (node at : ℕ) → label_at (least_labels nodes ends arrive from second) node ≡ Some at → at < now →
      label_at labels node ≡ Some at
  least_is_settled node at is before =
      let best = least_reached nodes ends arrive fifo inside from second within node at is in
      elim (settled_bounds ends arrive fifo from second now labels settled best.0 node best.1) [
        | inl there ↦
            let other = some_by (label_at labels node) (arrival arrive second best.0) there in
            let by : other.0 ≤ now = let h = other.2 in let e = best.2 in omega arith in
            let same : other.0 ≡ at = cc (settled_is_least node other.0 other.1 by, is) in
            other.1 ∙ ap (λ (n : ℕ). Some n) same
        | inr past ↦ absurd (let e = best.2 in omega arith)
      ]

  -- the same links lead to a node whose label is settled
  same_leads : (node at link : ℕ) → label_at labels node ≡ Some at → at ≤ now → leads ends arrive labels node link
      ≡ leads ends arrive (least_labels nodes ends arrive from second) node link
  same_leads node at link is by =
      both (leads ends arrive labels node link) (leads ends arrive (least_labels nodes ends arrive from second) node link) forth back
    where
      both : (a b : Bool) → (a ≡ true → b ≡ true) → (b ≡ true → a ≡ true) → a ≡ b
      both true b forth back = sym (forth refl)
      both false true forth back = back refl
      both false false forth back = refl

      forth : leads ends arrive labels node link ≡ true → leads ends arrive (least_labels nodes ends arrive from second) node link ≡ true
      forth led =
          let from_start = leads_from ends arrive labels node link led in
          let reached : arrive link from_start.1.0 ≡ at = cc (from_start.1.2, is) in
          let early : from_start.1.0 ≤ now = let more = fifo.later link from_start.1.0 in omega arith in
          let start_least = settled_is_least (start_of ends link) from_start.1.0 from_start.1.1 early in
          let node_least = settled_is_least node at is by in
          leads_there ends arrive (least_labels nodes ends arrive from second) node link from_start.1.0 from_start.0 start_least
          (node_least ∙ ap (λ (n : ℕ). Some n) (sym reached))

      back : leads ends arrive (least_labels nodes ends arrive from second) node link ≡ true → leads ends arrive labels node link ≡ true
      back led =
          let from_start = leads_from ends arrive (least_labels nodes ends arrive from second) node link led in
          let node_least = settled_is_least node at is by in
          let reached : arrive link from_start.1.0 ≡ at = cc (from_start.1.2, node_least) in
          let early : from_start.1.0 < now = let more = fifo.later link from_start.1.0 in omega arith in
          let start_here = least_is_settled (start_of ends link) from_start.1.0 from_start.1.1 early in
          leads_there ends arrive labels node link from_start.1.0 from_start.0 start_here (is ∙ ap (λ (n : ℕ). Some n) (sym reached))

  same_before : (node at : ℕ) → label_at labels node ≡ Some at → at ≤ now → link_before ends arrive labels node
      ≡ link_before ends arrive (least_labels nodes ends arrive from second) node
  unfolding link_before
  same_before node at is by =
      let same : (λ link. leads ends arrive labels node link)
      ≡ (λ link. leads ends arrive (least_labels nodes ends arrive from second) node link) =
      fun_ext (λ link. same_leads node at link is by) in
      ap (λ (p : ℕ → Bool). find p (range_with_len 0 (length ends))) same

  -- the links followed back behind the link before a node, where there is one
  step_least : ℕ → Option ℕ → List ℕ
  step_least most o = option_map_or (λ link. followed ends arrive (least_labels nodes ends arrive from second) from most
      (start_of ends link) ++ link ∷ []) o []

  behind : (most node at : ℕ) → label_at labels node ≡ Some at → at ≤ now
      → ((n a : ℕ) → label_at labels n ≡ Some a → a ≤ now → followed ends arrive labels from most n
      ≡ followed ends arrive (least_labels nodes ends arrive from second) from most n)
      → (o : Option ℕ) → link_before ends arrive labels node ≡ o
      → option_map_or (λ link. followed ends arrive labels from most (start_of ends link) ++ link ∷ []) o [] ≡ step_least most o
  unfolding step_least
  behind most node at is by rest None found = refl
  behind most node at is by rest (Some link) found =
      let led = (link_leads ends arrive labels node link found).1 in
      let from_start = leads_from ends arrive labels node link led in
      let reached : arrive link from_start.1.0 ≡ at = cc (from_start.1.2, is) in
      let early : from_start.1.0 ≤ now = let more = fifo.later link from_start.1.0 in omega arith in
      ap (λ (links : List ℕ). links ++ link ∷ []) (rest (start_of ends link) from_start.1.0 from_start.1.1 early)

  -- so the same links are followed back
  pub same_followed : (most node at : ℕ) → label_at labels node ≡ Some at → at ≤ now
      → followed ends arrive labels from most node ≡ followed ends arrive (least_labels nodes ends arrive from second) from most node
  unfolding followed step_least
  same_followed zero node at is by = refl
  same_followed (suc most) node at is by =
      ap (λ (links : List ℕ). cond (nat_eq node from) [] links)
      (behind most node at is by (λ n a i b. same_followed most n a i b) (link_before ends arrive labels node) refl ∙ ap
      (step_least most) (same_before node at is by))

-- labels of which every link is kept are the least ones
pub kept_are_least : (nodes : ℕ) (ends : Ends) (arrive : Arrivals) → IsFifo arrive → AreWithin nodes ends → (from second : ℕ) →
    from < nodes → (labels : Labels)
    → length labels ≡ nodes → label_at labels from ≡ Some second →
    ((node at : ℕ) → label_at labels node ≡ Some at → Reached ends arrive from second node at)
    → ((link left : ℕ) → link < length ends → label_at labels (start_of ends link) ≡ Some left →
    IsBy (label_at labels (end_of ends link)) (arrive link left))
    → labels ≡ least_labels nodes ends arrive from second
kept_are_least nodes ends arrive fifo inside from second within labels count start reached kept =
    same_lists labels (least_labels nodes ends arrive from second) (count ∙ sym (length-after nodes ends arrive from second nodes))
    (λ k d less.
    get_or_default labels k d None less ∙ same_label k (label_at labels k) refl ∙ get_or_default
    (least_labels nodes ends arrive from second) k None d (let n = length-after nodes ends arrive from second nodes in omega arith))
  where
    same_label : (node : ℕ) (o : Option ℕ) → label_at labels node ≡ o → label_at labels node
        ≡ label_at (least_labels nodes ends arrive from second) node
    same_label node (Some at) is =
        let settled : IsSettledTo ends arrive from second at labels =
        record { start = start; reached = reached; kept = λ link left is_link starts _. kept link left is_link starts } in
        is ∙ sym (settled_is_least nodes ends arrive fifo inside from second within at labels settled node at is (omega arith))
    same_label node None is = is ∙ sym (none_there node (label_at (least_labels nodes ends arrive from second) node) refl is)
      where
        none_there : (node : ℕ) (o : Option ℕ) → label_at (least_labels nodes ends arrive from second) node ≡ o → label_at labels node
            ≡ None → label_at (least_labels nodes ends arrive from second) node ≡ None
        none_there node None there none = there
        none_there node (Some at) there none =
            let best = least_reached nodes ends arrive fifo inside from second within node at there in
            let bound = some_by (label_at labels node) (arrival arrive second best.0)
            (bounds_walks ends arrive fifo from second labels start
            (λ link is_link. kept_from ends arrive labels link (λ left starts. kept link left is_link starts)) node best.0 best.1) in
            absurd (cc (bound.1, none))
