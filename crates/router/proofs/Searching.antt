-- A search: its start, a link looked along, a node settled, and what stands where it stops.
use Rattle.std.proofs.Common.{◌≡◌, ℕ, zero, suc, ◌+◌, ◌*◌, ◌^◌, ◌<◌, ◌≤◌, max, Bool, true, false, List, [], ◌∷◌, length, drop, replicate, Option, None}
use Rattle.std.proofs.Common.{Some, ◌⊎◌, inl, inr, refl, sym, ◌∙◌, ap, subst, arith}
use Rattle.std.proofs.lemmas.Bool.{cases_eq, cases_lt, ltb-true, ltb-false, eqb-true, eqb-false}
use Rattle.std.proofs.lemmas.List.{get_or-replicate, get_or_past, get_or-set_same, get_or-set_other, length-set, length-replicate, drop_more, get_or_read}
use Rattle.std.proofs.lemmas.List.Elements.{All-nil, All-cons, All-contains, Contains-get_or}
use Rattle.std.proofs.lemmas.List.{Sorted.All-permutation, Sorted.Contains-permutation, Sorted.IsPermutation-sym, Sorted.length_permutation, Sums.sum_by-set}
use Rattle.std.specs.{List.Sorted.IsPermutation, Option.option_eq}
use Rattle.std.specs.Prelude.{nat_eq, sum_by, slice_index_or, slice_set, All, Contains}
use Rattle.limits.specs.declared.TheConstants.{MAX_NODES}
use Rattle.walks.proofs.{Kept.arrival_later, Labels.by_some, Labels.some_by, Labels.by_later, Least.reached_more, Ranks.rank-le-length, Ranks.rank_by}
use Rattle.walks.proofs.{Ranks.rank_less, Settled.IsSettledTo, Settled.settled_is_least, Settled.same_followed, Settled.kept_are_least}
use Rattle.walks.specs.{Arrivals.Arrivals, Arrivals.IsFifo, Chosen.followed, Rounds.Labels, Rounds.label_at, Rounds.IsBy, Rounds.rank, Rounds.least_labels}
use Rattle.walks.specs.Walks.{Ends, start_of, end_of, AreWithin, Reached}
use Rattle.router.specs.Frontiers.{queued, is_later, IsSearch, IsFrontier, weight, work, IsRelabelled, IsNext, IsDone, IsSettledAt}
use Rattle.router.specs.declared.{frontier.Frontier.Frontier, waiting.Entry.Entry}

abbrev pub Queue : Type 0
Queue = List Entry

-- a label in a list of which one was set
pub label_set : (labels : Labels) (node second : ℕ) → node < length labels → label_at (slice_set labels node (Some second)) node
    ≡ Some second
label_set labels node second within = get_or-set_same labels node (Some second) None within

pub label_other : (labels : Labels) (node second other : ℕ) → (other ≡ node → ⊥) → label_at (slice_set labels node (Some second)) other
    ≡ label_at labels other
label_other labels node second other apart = get_or-set_other labels node other (Some second) None apart

no_label : (nodes node : ℕ) → label_at (replicate nodes None) node ≡ None
no_label nodes node =
    elim (cases_lt node nodes) [
      | inl within ↦ get_or-replicate nodes node None None within
      | inr past ↦ get_or_past (replicate nodes None) node None (let n = length-replicate {A = Option ℕ} nodes None in omega arith)
    ]

contains_head : (x : Entry) (xs : Queue) → Contains (x ∷ xs) x
contains_head x xs = (0, omega arith, refl)

contains_tail : (x y : Entry) (xs : Queue) → Contains xs y → Contains (x ∷ xs) y
contains_tail x y xs found = (suc found.0, let h = found.1 in omega arith, found.2)

-- what is among the open links is the first of them or among the others
open_cases : (link first : ℕ) (rest : List ℕ) → Contains (first ∷ rest) link → (link ≡ first) ⊎ Contains rest link
open_cases link first rest found = by_place found.0 found.1 found.2
  where
    by_place : (k : ℕ) → k < length (first ∷ rest) → slice_index_or (first ∷ rest) k link ≡ link → (link ≡ first) ⊎ Contains rest link
    by_place zero within is = inl (sym is)
    by_place (suc k) within is = inr (k, omega arith, is)

-- at the start only one node has a label, and it waits
pub start_search : (nodes : ℕ) (ends : Ends) (arrive : Arrivals) (from second : ℕ) (labels : Labels) (queue : Queue) → from < nodes →
    second ≤ 2 ^ 33
    → labels ≡ slice_set (replicate nodes None) from (Some second) → IsPermutation (queued second from ∷ []) queue →
    IsSearch nodes ends arrive from second 0 labels queue []
start_search nodes ends arrive from second labels queue within early are waits =
    let blank : Labels = replicate nodes None in
    let P : Labels → Type 0 = λ ls. IsSearch nodes ends arrive from second 0 ls queue [] in
    let here : from < length blank = let n = length-replicate {A = Option ℕ} nodes None in omega arith in
    subst P (sym are) (record {
      count = length-set blank from (Some second) ∙ length-replicate nodes None;
      start = label_set blank from second here;
      reached = λ node at is.
          let only = one node at is in
          let R : ℕ → Type 0 = λ n. Reached ends arrive from second n at in
          let walk : Reached ends arrive from second from at = ([], refl, sym only.1) in
          subst R (sym only.0) walk;
      bounded = λ node at is. let only = one node at is in let same = only.1 in omega arith;
      looked = λ link left within_links is.
          let only = one (start_of ends link) left is in
          let there : Contains queue (queued second from) = Contains-permutation (queued second from ∷ []) queue
          (queued second from) waits (contains_head (queued second from) []) in
          let Q : ℕ → Type 0 = λ s. Contains queue (queued s (start_of ends link)) in
          let R : ℕ → Type 0 = λ n. Contains queue (queued second n) in
          inr (inl (subst Q (sym only.1) (subst R (sym only.0) there)));
      later = λ k d less. omega arith;
      there = All-permutation (λ (e : Entry). e.node < nodes) (queued second from ∷ []) queue waits
          (All-cons (λ (e : Entry). e.node < nodes) (queued second from) [] within
          (All-nil (λ (e : Entry). e.node < nodes)));
    })
  where
    one : (node at : ℕ) → label_at (slice_set (replicate nodes None) from (Some second)) node ≡ Some at → (node ≡ from) × (at ≡ second)
    one node at is = by_node (cases_eq node from)
      where
        by_node : (node ≡ from) ⊎ (node ≡ from → ⊥) → (node ≡ from) × (at ≡ second)
        by_node (inl same) =
            let here : from < length (replicate {A = Option ℕ} nodes None) = let n =
            length-replicate {A = Option ℕ} nodes None in omega arith in
            let set : label_at (slice_set (replicate nodes None) from (Some second)) node ≡ Some second =
            ap (λ (n : ℕ). label_at (slice_set (replicate nodes None) from (Some second)) n) same ∙ label_set
            (replicate nodes None) from second here in
            (same, cc (set, is))
        by_node (inr apart) = absurd (cc (label_other (replicate nodes None) from second node apart, no_label nodes node, is))

-- a label that is not later is one by that second
pub not_later : (label : Option ℕ) (second : ℕ) → is_later label second ≡ false → IsBy label second
not_later None second e = absurd (cc e)
not_later (Some reached) second e = ltb-false second reached e

-- a label that is later
later_some : (label : Option ℕ) (a second : ℕ) → is_later label second ≡ true → label ≡ Some a → second < a
later_some None a second e is = absurd (cc is)
later_some (Some b) a second e is = let same : b ≡ a = cc is in let less = ltb-true second b e in omega arith

module _ (nodes : ℕ) (ends : Ends) (arrive : Arrivals) (fifo : IsFifo arrive) (from second now : ℕ) (labels : Labels) (queue : Queue) where
  -- an arrival is no later than its label lets it be
  pub small : (few : nodes ≤ MAX_NODES) (open_links : List ℕ) → IsSearch nodes ends arrive from second now labels queue open_links →
      (node at : ℕ) → label_at labels node ≡ Some at → at ≤ 2 ^ 33 + 2 ^ 32 * MAX_NODES
  small few open_links search node at is =
      let bound = search.bounded node at is in
      let count = rank-le-length labels at in
      let each = search.count in
      omega arith

  -- the first open link needs no label
  pub look_kept : (link : ℕ) (rest : List ℕ) (left : ℕ) → IsSearch nodes ends arrive from second now labels queue (link ∷ rest) →
      label_at labels (start_of ends link) ≡ Some left
      → IsBy (label_at labels (end_of ends link)) (arrive link left) → IsSearch nodes ends arrive from second now labels queue rest
  look_kept link rest left search starts by = record {
    count = search.count;
    start = search.start;
    reached = search.reached;
    bounded = search.bounded;
    looked = λ other at within is. elim (search.looked other at within is) [
      | inl kept ↦ inl kept
      | inr waits ↦ elim waits [
        | inl there ↦ inr (inl there)
        | inr still ↦ elim (open_cases other link rest still) [
          | inl same ↦ inl (closed other at same is)
          | inr later ↦ inr (inr later)
        ]
      ]
    ];
    later = search.later;
    there = search.there;
  }
    where
      closed : (other at : ℕ) → other ≡ link → label_at labels (start_of ends other) ≡ Some at →
          IsBy (label_at labels (end_of ends other)) (arrive other at)
      closed other at same is =
          let P : ℕ → Type 0 = λ l. IsBy (label_at labels (end_of ends l)) (arrive l at) in
          let left_same : left ≡ at = cc (starts, ap (λ (l : ℕ). label_at labels (start_of ends l)) same, is) in
          let Q : ℕ → Type 0 = λ a. IsBy (label_at labels (end_of ends link)) (arrive link a) in
          subst P (sym same) (subst Q left_same by)

  -- the first open link gives its end an earlier label
  module _ (few : nodes ≤ MAX_NODES) (link : ℕ) (rest : List ℕ) (left : ℕ)
      (search : IsSearch nodes ends arrive from second now labels queue (link ∷ rest)) (is_link : link < length ends)
      (starts : label_at labels (start_of ends link) ≡ Some left) (after_now : now ≤ left) (end_within : end_of ends link < nodes)
      (soon : arrive link left ≤ max left (2 ^ 33) + 2 ^ 32)
      (later : is_later (label_at labels (end_of ends link)) (arrive link left) ≡ true)
      (new_queue : Queue) (pushed : IsPermutation (queued (arrive link left) (end_of ends link) ∷ queue) new_queue) where
    abbrev node : ℕ
    node = end_of ends link

    abbrev new : Labels
    new = slice_set labels (end_of ends link) (Some (arrive link left))

    within : end_of ends link < length labels
    within = let n = search.count in omega arith

    now_there : label_at (slice_set labels (end_of ends link) (Some (arrive link left))) (end_of ends link) ≡ Some (arrive link left)
    now_there = label_set labels (end_of ends link) (arrive link left) within

    -- labels only become earlier
    improved : (n a : ℕ) → label_at labels n ≡ Some a → IsBy (label_at (slice_set labels (end_of ends link) (Some (arrive link left))) n) a
    improved n a is = by_node (cases_eq n (end_of ends link))
      where
        by_node : (n ≡ end_of ends link) ⊎ (n ≡ end_of ends link → ⊥) →
            IsBy (label_at (slice_set labels (end_of ends link) (Some (arrive link left))) n) a
        by_node (inl same) =
            let was : label_at labels (end_of ends link) ≡ Some a = ap (λ (k : ℕ). label_at labels k) (sym same) ∙ is in
            let less = later_some (label_at labels (end_of ends link)) a (arrive link left) later was in
            let P : ℕ → Type 0 = λ k. IsBy (label_at (slice_set labels (end_of ends link) (Some (arrive link left))) k) a in
            subst P (sym same) (by_some (label_at (slice_set labels (end_of ends link) (Some (arrive link left))) (end_of ends link))
            (arrive link left) a now_there (omega arith))
        by_node (inr apart) =
            by_some (label_at (slice_set labels (end_of ends link) (Some (arrive link left))) n) a a
            (label_other labels (end_of ends link) (arrive link left) n apart ∙ is) (omega arith)

    -- a node that has the label which the link's start has is not the one that is relabelled
    apart_from : (n : ℕ) → label_at labels n ≡ Some left → n ≡ end_of ends link → ⊥
    apart_from n is same =
        let was : label_at labels (end_of ends link) ≡ Some left = ap (λ (k : ℕ). label_at labels k) (sym same) ∙ is in
        let less = later_some (label_at labels (end_of ends link)) left (arrive link left) later was in
        let more = fifo.later link left in
        omega arith

    pub left_stays : (n : ℕ) → label_at labels n ≡ Some left → label_at (slice_set labels (end_of ends link) (Some (arrive link left))) n
        ≡ Some left
    left_stays n is = label_other labels (end_of ends link) (arrive link left) n (apart_from n is) ∙ is

    after_start : second ≤ left
    after_start = let walk = search.reached (start_of ends link) left starts in let h =
        arrival_later ends arrive fifo second walk.0 in let e = walk.2 in omega arith

    start_stays : label_at (slice_set labels (end_of ends link) (Some (arrive link left))) from ≡ Some second
    start_stays = label_other labels (end_of ends link) (arrive link left) from (λ same.
        let was : label_at labels (end_of ends link) ≡ Some second = ap (λ (k : ℕ). label_at labels k) (sym same) ∙ search.start in
        let less = later_some (label_at labels (end_of ends link)) second (arrive link left) later was in
        let more = fifo.later link left in
        let start = after_start in
        omega arith) ∙ search.start

    ranks_grow : (a b : ℕ) → a ≤ b → rank labels a ≤ rank (slice_set labels (end_of ends link) (Some (arrive link left))) b
    ranks_grow a b below = rank_by labels (slice_set labels (end_of ends link) (Some (arrive link left))) a b below
        (sym (length-set labels (end_of ends link) (Some (arrive link left)))) improved

    bounded_now : (n a : ℕ) → label_at (slice_set labels (end_of ends link) (Some (arrive link left))) n ≡ Some a
        → a ≤ 2 ^ 33 + 2 ^ 32 * rank (slice_set labels (end_of ends link) (Some (arrive link left))) a
    bounded_now n a is = by_node (cases_eq n (end_of ends link))
      where
        by_node : (n ≡ end_of ends link) ⊎ (n ≡ end_of ends link → ⊥) →
            a ≤ 2 ^ 33 + 2 ^ 32 * rank (slice_set labels (end_of ends link) (Some (arrive link left))) a
        by_node (inl same) =
            let reached : arrive link left ≡ a = cc (
              ap (λ (k : ℕ).
                  label_at (slice_set labels (end_of ends link) (Some (arrive link left))) k) (sym same),
              now_there,
              is,
            ) in
            let before = search.bounded (start_of ends link) left starts in
            let less : left < a = let more = fifo.later link left in omega arith in
            let left_there = left_stays (start_of ends link) starts in
            let higher = rank_less (slice_set labels (end_of ends link) (Some (arrive link left)))
            (start_of ends link) left a left_there less in
            let grown = ranks_grow left left (omega arith) in
            omega arith
        by_node (inr apart) =
            let before = search.bounded n a (sym (label_other labels (end_of ends link) (arrive link left) n apart) ∙ is) in
            let grown = ranks_grow a a (omega arith) in
            omega arith

    looked_now : (other a : ℕ) → other < length ends → label_at (slice_set labels (end_of ends link) (Some (arrive link left)))
        (start_of ends other) ≡ Some a
        → IsBy (label_at (slice_set labels (end_of ends link) (Some (arrive link left))) (end_of ends other)) (arrive other a) ⊎
        (Contains new_queue (queued a (start_of ends other)) ⊎ Contains rest other)
    looked_now other a is_other is = by_start (cases_eq (start_of ends other) (end_of ends link))
      where
        by_start : (start_of ends other ≡ end_of ends link) ⊎ (start_of ends other ≡ end_of ends link → ⊥)
            → IsBy (label_at (slice_set labels (end_of ends link) (Some (arrive link left))) (end_of ends other)) (arrive other a) ⊎
            (Contains new_queue (queued a (start_of ends other)) ⊎ Contains rest other)
        by_start (inl same) =
            let reached : arrive link left ≡ a = cc (
              ap (λ (k : ℕ).
                  label_at (slice_set labels (end_of ends link) (Some (arrive link left))) k) (sym same),
              now_there,
              is,
            ) in
            let there : Contains new_queue (queued (arrive link left) (end_of ends link)) =
            Contains-permutation (queued (arrive link left) (end_of ends link) ∷ queue) new_queue
            (queued (arrive link left) (end_of ends link)) pushed
            (contains_head (queued (arrive link left) (end_of ends link)) queue) in
            let P : ℕ → Type 0 = λ s. Contains new_queue (queued s (start_of ends other)) in
            let Q : ℕ → Type 0 = λ n. Contains new_queue (queued (arrive link left) n) in
            inr (inl (subst P reached (subst Q (sym same) there)))
        by_start (inr apart) =
            let before : label_at labels (start_of ends other) ≡ Some a =
            sym (label_other labels (end_of ends link) (arrive link left) (start_of ends other) apart) ∙ is in
            elim (search.looked other a is_other before) [
              | inl kept ↦
                  let was = some_by (label_at labels (end_of ends other)) (arrive other a) kept in
                  inl (by_later (label_at (slice_set labels (end_of ends link) (Some (arrive link left))) (end_of ends other)) was.0
                  (arrive other a) (improved (end_of ends other) was.0 was.1) was.2)
              | inr waits ↦ elim waits [
                | inl there ↦ inr (inl (Contains-permutation (queued (arrive link left) (end_of ends link) ∷ queue) new_queue
                    (queued a (start_of ends other)) pushed
                    (contains_tail (queued (arrive link left) (end_of ends link)) (queued a (start_of ends other)) queue there)))
                | inr still ↦ elim (open_cases other link rest still) [
                  | inl first ↦
                      let left_same : left ≡ a = cc (starts, ap (λ (l : ℕ). label_at labels (start_of ends l)) first, before) in
                      let P : ℕ → Type 0 = λ l. IsBy (label_at (slice_set labels (end_of ends link) (Some (arrive link left)))
                      (end_of ends l)) (arrive l a) in
                      let Q : ℕ → Type 0 = λ b. IsBy (label_at (slice_set labels (end_of ends link) (Some (arrive link left)))
                      (end_of ends link)) (arrive link b) in
                      let here : IsBy (label_at (slice_set labels (end_of ends link) (Some (arrive link left))) (end_of ends link))
                      (arrive link left) =
                      by_some (label_at (slice_set labels (end_of ends link) (Some (arrive link left))) (end_of ends link))
                      (arrive link left) (arrive link left) now_there (omega arith) in
                      inl (subst P (sym first) (subst Q left_same here))
                  | inr later_one ↦ inr (inr later_one)
                ]
              ]
            ]

    pub look_relabelled : IsSearch nodes ends arrive from second now
        (slice_set labels (end_of ends link) (Some (arrive link left))) new_queue rest
    look_relabelled = record {
      count = length-set labels (end_of ends link) (Some (arrive link left)) ∙ search.count;
      start = start_stays;
      reached = λ n a is. elim (cases_eq n (end_of ends link)) [
        | inl same ↦
            let reached : arrive link left ≡ a = cc (
              ap (λ (k : ℕ).
                  label_at (slice_set labels (end_of ends link) (Some (arrive link left))) k) (sym same),
              now_there,
              is,
            ) in
            let walk = reached_more ends arrive from second (start_of ends link) left link
            (search.reached (start_of ends link) left starts) is_link refl in
            let P : ℕ → Type 0 = λ k. Reached ends arrive from second k a in
            let Q : ℕ → Type 0 = λ b. Reached ends arrive from second (end_of ends link) b in
            subst P (sym same) (subst Q reached walk)
        | inr apart ↦ search.reached n a (sym (label_other labels (end_of ends link) (arrive link left) n apart) ∙ is)
      ];
      bounded = bounded_now;
      looked = looked_now;
      later = All-permutation (λ (e : Entry). now ≤ e.second)
          (queued (arrive link left) (end_of ends link) ∷ queue) new_queue pushed
          (All-cons (λ (e : Entry). now ≤ e.second) (queued (arrive link left) (end_of ends link)) queue
          (let more = fifo.later link left in omega arith) search.later);
      there = All-permutation (λ (e : Entry). e.node < nodes)
          (queued (arrive link left) (end_of ends link) ∷ queue) new_queue pushed
          (All-cons (λ (e : Entry). e.node < nodes) (queued (arrive link left) (end_of ends link)) queue end_within search.there);
    }

    later_weight : (label : Option ℕ) (at : ℕ) → at < 2 ^ 60 → is_later label at ≡ true → at + 1 ≤ weight label
    later_weight None at fits e = omega arith
    later_weight (Some b) at fits e = let less = ltb-true at b e in omega arith

    -- what is left to do does not grow
    pub work_falls : 2 * sum_by weight (slice_set labels (end_of ends link) (Some (arrive link left))) + length new_queue ≤ 2 * sum_by
        weight labels + length queue
    work_falls =
        let bound = small few (link ∷ rest) search (start_of ends link) left starts in
        let fits : arrive link left < 2 ^ 60 = omega arith in
        let set = sum_by-set weight labels (end_of ends link) (Some (arrive link left)) None within in
        let falls = later_weight (label_at labels (end_of ends link)) (arrive link left) fits later in
        let longer = length_permutation (queued (arrive link left) (end_of ends link) ∷ queue) new_queue pushed in
        omega arith

-- the next node is settled: all links that begin there are open
pub next_search : (nodes : ℕ) (ends : Ends) (arrive : Arrivals) (old new : Frontier) (entry : Entry) →
    IsFrontier nodes ends arrive old [] → IsNext old new entry
    → (open_links : List ℕ) → ((link : ℕ) → link < length ends → start_of ends link ≡ entry.node → Contains open_links link) →
    IsFrontier nodes ends arrive new open_links
next_search nodes ends arrive old new entry frontier next open_links all =
    let search = frontier.search in
    let P : Labels → Type 0 = λ ls. IsSearch nodes ends arrive old.from old.second entry.second ls new.queue open_links in
    let F : ℕ → Type 0 = λ f. IsSearch nodes ends arrive f old.second entry.second new.labels.items new.queue open_links in
    let S : ℕ → Type 0 = λ s. IsSearch nodes ends arrive new.from s entry.second new.labels.items new.queue open_links in
    let N : ℕ → Type 0 = λ n. IsSearch nodes ends arrive new.from new.second n new.labels.items new.queue open_links in
    record {
      search = subst N (sym next.horizon) (subst S (sym next.goes_on.second)
          (subst F (sym next.goes_on.from) (subst P (sym next.labels) (record {
            count = search.count;
            start = search.start;
            reached = search.reached;
            bounded = search.bounded;
            looked = λ link left within is. elim (search.looked link left within is) [
              | inl kept ↦ inl kept
              | inr waits ↦ elim waits [
                | inl there ↦ elim (next.kept left (start_of ends link) there
                    (ap (λ (ls : Labels). label_at ls (start_of ends link)) next.labels ∙ is)) [
                      | inl own ↦ inr (inr (all link within own.0))
                      | inr still ↦ inr (inl still)
                    ]
                | inr none ↦ absurd (let h = none.1 in omega arith)
              ]
            ];
            later = next.earliest;
            there = λ k d within.
                All-contains (λ (e : Entry). e.node < nodes) old.queue
                (slice_index_or new.queue k d) search.there
                (next.others (slice_index_or new.queue k d) (Contains-get_or new.queue k d within));
          }))));
    }

-- where nobody waits, every link is kept
all_kept : (nodes : ℕ) (ends : Ends) (arrive : Arrivals) (from second now : ℕ) (labels : Labels) (queue : Queue) →
    IsSearch nodes ends arrive from second now labels queue [] → queue ≡ []
    → (link left : ℕ) → link < length ends → label_at labels (start_of ends link) ≡ Some left →
    IsBy (label_at labels (end_of ends link)) (arrive link left)
all_kept nodes ends arrive from second now labels queue search none link left within is =
    elim (search.looked link left within is) [
      | inl kept ↦ kept
      | inr waits ↦ elim waits [
        | inl there ↦ let empty = ap (λ (q : Queue). length q) none in absurd (let h = there.1 in omega arith)
        | inr still ↦ absurd (let h = still.1 in omega arith)
      ]
    ]

-- a frontier where nobody waits has the least labels
pub all_least : (nodes : ℕ) (ends : Ends) (arrive : Arrivals) → IsFifo arrive → AreWithin nodes ends → (frontier : Frontier) →
    frontier.from < nodes → IsFrontier nodes ends arrive frontier [] → frontier.queue ≡ []
    → frontier.labels.items ≡ least_labels nodes ends arrive frontier.from frontier.second
all_least nodes ends arrive fifo inside frontier within kept none =
    let search = kept.search in
    kept_are_least nodes ends arrive fifo inside frontier.from frontier.second within frontier.labels.items search.count search.start
    search.reached
    (all_kept nodes ends arrive frontier.from frontier.second frontier.horizon frontier.labels.items
    frontier.queue search none)

pub settled_by_end : (nodes : ℕ) (ends : Ends) (arrive : Arrivals) → IsFifo arrive → AreWithin nodes ends →
    (frontier : Frontier) (node : ℕ) → frontier.from < nodes → IsFrontier nodes ends arrive frontier []
    → frontier.queue ≡ [] → IsSettledAt nodes ends arrive frontier node
settled_by_end nodes ends arrive fifo inside frontier node within kept none =
    let all = all_least nodes ends arrive fifo inside frontier within kept none in
    record {
      label = ap (λ (ls : Labels). label_at ls node) all;
      route = λ at is. ap (λ (ls : Labels). followed ends arrive ls frontier.from nodes node) all;
    }

-- up to the second of the node that was settled last, labels hold
holds_to_now : (nodes : ℕ) (ends : Ends) (arrive : Arrivals) (from second now : ℕ) (labels : Labels) (queue : Queue) →
    IsSearch nodes ends arrive from second now labels queue []
    → IsSettledTo ends arrive from second now labels
holds_to_now nodes ends arrive from second now labels queue search = record {
  start = search.start;
  reached = search.reached;
  kept = λ link left within is before. elim (search.looked link left within is) [
    | inl kept ↦ kept
    | inr waits ↦ elim waits [
      | inl there ↦ absurd (let late = All-contains (λ (e : Entry). now ≤ e.second) queue
          (queued left (start_of ends link)) search.later there in omega arith)
      | inr still ↦ absurd (let h = still.1 in omega arith)
    ]
  ];
}

pub settled_by_now : (nodes : ℕ) (ends : Ends) (arrive : Arrivals) → IsFifo arrive → AreWithin nodes ends →
    (frontier : Frontier) (node : ℕ) → frontier.from < nodes → IsFrontier nodes ends arrive frontier []
    → IsBy (label_at frontier.labels.items node) frontier.horizon → IsSettledAt nodes ends arrive frontier node
settled_by_now nodes ends arrive fifo inside frontier node within kept by =
    let search = kept.search in
    let settled = holds_to_now nodes ends arrive frontier.from frontier.second frontier.horizon frontier.labels.items
    frontier.queue search in
    let label = some_by (label_at frontier.labels.items node) frontier.horizon by in
    record {
      label = label.1 ∙ sym (settled_is_least nodes ends arrive fifo inside frontier.from frontier.second within frontier.horizon
          frontier.labels.items settled node label.0 label.1 label.2);
      route = λ at is. same_followed nodes ends arrive fifo inside frontier.from frontier.second within frontier.horizon
          frontier.labels.items settled nodes node label.0 label.1 label.2;
    }

-- the labels of a frontier are small
pub look_small : (nodes : ℕ) (ends : Ends) (arrive : Arrivals) (frontier : Frontier) (open_links : List ℕ) (node left : ℕ) →
    IsFifo arrive → nodes ≤ MAX_NODES → IsFrontier nodes ends arrive frontier open_links
    → label_at frontier.labels.items node ≡ Some left → left < 2 ^ 60
look_small nodes ends arrive frontier open_links node left fifo few kept is =
    let bound = small nodes ends arrive fifo frontier.from frontier.second frontier.horizon frontier.labels.items
    frontier.queue few open_links kept.search node left is in
    omega arith

-- the links still open, the first of them looked at
opened : (links : List ℕ) (place : ℕ) → place < length links → drop place links ≡ slice_index_or links place 0 ∷ drop (place + 1) links
opened links place within = drop_more links place 0 within

-- a link along which its end is no earlier
pub looked_kept : (nodes : ℕ) (ends : Ends) (arrive : Arrivals) (frontier : Frontier) (links : List ℕ) (place left reached node : ℕ) →
    IsFifo arrive → place < length links
    → IsFrontier nodes ends arrive frontier (drop place links) →
    label_at frontier.labels.items (start_of ends (slice_index_or links place 0)) ≡ Some left
    → reached ≡ arrive (slice_index_or links place 0) left → node ≡ end_of ends (slice_index_or links place 0) →
    is_later (label_at frontier.labels.items node) reached ≡ false
    → IsFrontier nodes ends arrive frontier (drop (place + 1) links)
looked_kept nodes ends arrive frontier links place left reached node fifo within kept starts is ending not_earlier =
    let link : ℕ = slice_index_or links place 0 in
    let P : List ℕ → Type 0 = λ open_links. IsSearch nodes ends arrive frontier.from frontier.second frontier.horizon
    frontier.labels.items frontier.queue open_links in
    let by : IsBy (label_at frontier.labels.items node) reached = not_later (label_at frontier.labels.items node) reached not_earlier in
    let Q : ℕ → Type 0 = λ n. IsBy (label_at frontier.labels.items n) reached in
    let R : ℕ → Type 0 = λ a. IsBy (label_at frontier.labels.items (end_of ends (slice_index_or links place 0))) a in
    record {
      search = look_kept nodes ends arrive fifo frontier.from frontier.second frontier.horizon frontier.labels.items
          frontier.queue link (drop (place + 1) links) left
          (subst P (opened links place within) kept.search) starts (subst R is (subst Q ending by));
    }

-- a link along which its end is reached earlier
pub looked_earlier : (nodes : ℕ) (ends : Ends) (arrive : Arrivals) (old new : Frontier) (links : List ℕ) (place left reached node : ℕ) →
    IsFifo arrive → nodes ≤ MAX_NODES → place < length links
    → slice_index_or links place 0 < length ends → IsFrontier nodes ends arrive old (drop place links) →
    label_at old.labels.items (start_of ends (slice_index_or links place 0)) ≡ Some left
    → old.horizon ≤ left → reached ≡ arrive (slice_index_or links place 0) left → reached ≤ max left (2 ^ 33) + 2 ^ 32 → node
    ≡ end_of ends (slice_index_or links place 0) → node < nodes
    → is_later (label_at old.labels.items node) reached ≡ true → IsRelabelled old new node reached
    → IsFrontier nodes ends arrive new (drop (place + 1) links) × (work new ≤ work old)
looked_earlier nodes ends arrive old new links place left reached node fifo few within is_link kept starts horizon is soon ending
    end_within earlier relabelled =
    let link : ℕ = slice_index_or links place 0 in
    let P : List ℕ → Type 0 = λ open_links. IsSearch nodes ends arrive old.from old.second old.horizon old.labels.items
    old.queue open_links in
    let search : IsSearch nodes ends arrive old.from old.second old.horizon old.labels.items old.queue
    (slice_index_or links place 0 ∷ drop (place + 1) links) = subst P (opened links place within) kept.search in
    let E : ℕ → Type 0 = λ n. is_later (label_at old.labels.items n) (arrive (slice_index_or links place 0) left) ≡ true in
    let F : ℕ → Type 0 = λ a. is_later (label_at old.labels.items node) a ≡ true in
    let later : is_later (label_at old.labels.items (end_of ends (slice_index_or links place 0)))
    (arrive (slice_index_or links place 0) left) ≡ true = subst E ending (subst F is earlier) in
    let G : ℕ → Type 0 = λ n. IsPermutation (queued (arrive (slice_index_or links place 0) left) n ∷ old.queue)
    new.queue in
    let H : ℕ → Type 0 = λ a. IsPermutation (queued a node ∷ old.queue) new.queue in
    let pushed : IsPermutation (queued (arrive (slice_index_or links place 0) left)
    (end_of ends (slice_index_or links place 0)) ∷ old.queue) new.queue =
    subst G ending (subst H is relabelled.queue) in
    let labels : new.labels.items ≡ slice_set old.labels.items (end_of ends (slice_index_or links place 0))
    (Some (arrive (slice_index_or links place 0) left)) =
    relabelled.labels ∙ ap (λ (n : ℕ). slice_set old.labels.items n (Some reached)) ending ∙ ap
    (λ (a : ℕ). slice_set old.labels.items (end_of ends (slice_index_or links place 0)) (Some a)) is in
    let within_nodes : end_of ends (slice_index_or links place 0) < nodes = omega arith in
    let in_time : arrive (slice_index_or links place 0) left ≤ max left (2 ^ 33) + 2 ^ 32 = let K : ℕ → Type 0 = λ a.
    a ≤ max left (2 ^ 33) + 2 ^ 32 in subst K is soon in
    let moved = look_relabelled nodes ends arrive fifo old.from old.second old.horizon old.labels.items old.queue few link
    (drop (place + 1) links) left search is_link starts horizon within_nodes in_time later new.queue pushed in
    let less = work_falls nodes ends arrive fifo old.from old.second old.horizon old.labels.items old.queue few link
    (drop (place + 1) links) left search is_link starts horizon within_nodes in_time later new.queue pushed in
    let L : Labels → Type 0 = λ ls. IsSearch nodes ends arrive old.from old.second old.horizon ls new.queue
    (drop (place + 1) links) in
    let A : ℕ → Type 0 = λ f. IsSearch nodes ends arrive f old.second old.horizon new.labels.items new.queue
    (drop (place + 1) links) in
    let B : ℕ → Type 0 = λ s. IsSearch nodes ends arrive new.from s old.horizon new.labels.items new.queue
    (drop (place + 1) links) in
    let C : ℕ → Type 0 = λ h. IsSearch nodes ends arrive new.from new.second h new.labels.items new.queue
    (drop (place + 1) links) in
    let total = ap (λ (ls : Labels). sum_by weight ls) labels in (
      record {
        search = subst C (sym relabelled.horizon) (subst B (sym relabelled.goes_on.second)
            (subst A (sym relabelled.goes_on.from) (subst L (sym labels) moved)));
      },
      omega arith,
    )

-- what a pop of the queue takes out
pub pop_there : (x : Entry) (before after : Queue) → IsPermutation before (x ∷ after) → Contains before x
pop_there x before after popped = Contains-permutation (x ∷ after) before x (IsPermutation-sym before (x ∷ after) popped)
    (contains_head x after)

pub pop_others : (x y : Entry) (before after : Queue) → IsPermutation before (x ∷ after) → Contains after y → Contains before y
pop_others x y before after popped there = Contains-permutation (x ∷ after) before y (IsPermutation-sym before (x ∷ after) popped)
    (contains_tail x y after there)

pub pop_kept : (x : Entry) (at node : ℕ) (before after : Queue) → IsPermutation before (x ∷ after) →
    Contains before (queued at node)
    → ((node ≡ x.node) × (at ≡ x.second)) ⊎ Contains after (queued at node)
pop_kept x at node before after popped there = by_place found.0 found.1 found.2
  where
    found : Contains (x ∷ after) (queued at node)
    found = Contains-permutation before (x ∷ after) (queued at node) popped there

    by_place : (k : ℕ) → k < length (x ∷ after) → slice_index_or (x ∷ after) k (queued at node) ≡ queued at node
        → ((node ≡ x.node) × (at ≡ x.second)) ⊎ Contains after (queued at node)
    by_place zero within is = inl (sym (ap (λ (e : Entry). e.node) is), sym (ap (λ (e : Entry). e.second) is))
    by_place (suc k) within is = inr (k, omega arith, is)

pub pop_fewer : (x : Entry) (before after : Queue) → IsPermutation before (x ∷ after) → length after + 1 ≡ length before
pop_fewer x before after popped = let same = length_permutation before (x ∷ after) popped in omega arith

-- a node that waits is one of the nodes
pub pop_within : (x : Entry) (first before after : Queue) (nodes : ℕ) → All (λ e. e.node < nodes) first →
    ((other : Entry) → Contains before other → Contains first other)
    → IsPermutation before (x ∷ after) → x.node < nodes
pop_within x first before after nodes there others popped =
    All-contains (λ (e : Entry). e.node < nodes) first x there (others x (pop_there x before after popped))

same_option : (o : Option ℕ) (a : ℕ) → option_eq nat_eq o (Some a) ≡ true → o ≡ Some a
same_option None a e = absurd (cc e)
same_option (Some b) a e = ap (λ (n : ℕ). Some n) (eqb-true b a e)

other_option : (o : Option ℕ) (a : ℕ) → option_eq nat_eq o (Some a) ≡ false → o ≡ Some a → ⊥
other_option None a e is = cc is
other_option (Some b) a e is = eqb-false b a e (cc is)

-- a label that was read and compared
pub stands : (labels : Labels) (node second : ℕ) (label : Option ℕ) (equal : Bool) → node < length labels → label
    ≡ slice_index_or labels node label → equal ≡ option_eq nat_eq label (Some second) → equal ≡ true
    → label_at labels node ≡ Some second
stands labels node second label equal within read is yes' =
    sym (get_or_read labels node label within read None) ∙ same_option label second (sym is ∙ yes')

pub stands_no_more : (labels : Labels) (node second : ℕ) (label : Option ℕ) (equal : Bool) → node < length labels → label
    ≡ slice_index_or labels node label → equal ≡ option_eq nat_eq label (Some second) → equal ≡ false
    → label_at labels node ≡ Some second → ⊥
stands_no_more labels node second label equal within read is no' here =
    other_option label second (sym is ∙ no') (get_or_read labels node label within read None ∙ here)

-- a label that was read and tested
pub later_read : (labels : Labels) (node reached : ℕ) (label : Option ℕ) (later : Bool) → node < length labels → label
    ≡ slice_index_or labels node label → later ≡ is_later label reached
    → is_later (label_at labels node) reached ≡ later
later_read labels node reached label later within read is =
    ap (λ (o : Option ℕ). is_later o reached) (sym (get_or_read labels node label within read None)) ∙ sym is

-- where nobody waits whose label stands, the search is done
pub done_search : (nodes : ℕ) (ends : Ends) (arrive : Arrivals) (old new : Frontier) → IsFrontier nodes ends arrive old [] →
    IsDone old new → IsFrontier nodes ends arrive new []
done_search nodes ends arrive old new frontier done =
    let search = frontier.search in
    let L : Labels → Type 0 = λ ls. IsSearch nodes ends arrive old.from old.second new.horizon ls new.queue [] in
    let A : ℕ → Type 0 = λ f. IsSearch nodes ends arrive f old.second new.horizon new.labels.items new.queue [] in
    let B : ℕ → Type 0 = λ s. IsSearch nodes ends arrive new.from s new.horizon new.labels.items new.queue [] in
    let empty : length new.queue ≡ 0 = ap (λ (q : Queue). length q) done.none in
    record {
      search = subst B (sym done.goes_on.second) (subst A (sym done.goes_on.from) (subst L (sym done.labels) (record {
        count = search.count;
        start = search.start;
        reached = search.reached;
        bounded = search.bounded;
        looked = λ link left within is. elim (search.looked link left within is) [
          | inl kept ↦ inl kept
          | inr waits ↦ elim waits [
            | inl there ↦ absurd (done.gone left (start_of ends link) there
                (ap (λ (ls : Labels). label_at ls (start_of ends link)) done.labels ∙ is))
            | inr none ↦ absurd (let h = none.1 in omega arith)
          ]
        ];
        later = λ k d within. absurd (omega arith);
        there = λ k d within. absurd (omega arith);
      })));
    }
