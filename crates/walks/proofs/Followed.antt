-- The route that is followed back: there is a link before each labelled node but the start, and the links are a walk that arrives in the
-- second of the label.
use Rattle.std.proofs.Common.{◌≡◌, ℕ, zero, suc, ◌+◌, ◌<◌, ◌≤◌, Bool, true, false, cond, List, [], ◌∷◌, ◌++◌, length, Option, None, Some, inl, inr}
use Rattle.std.proofs.Common.{refl, sym, ◌∙◌, ap, subst, arith}
use Rattle.std.proofs.lemmas.Bool.{cases_Bool, eq-eqb, eqb-true, eqb-false, and_parts, and_from, false_from_ne_true}
use Rattle.std.specs.{List.range_with_len, Option.option_eq, Option.option_map_or, Prelude.nat_eq, Prelude.find}
use Rattle.walks.proofs.{Kept.walk_more, Kept.arrival_more, Kept.kept_by, Labels.some_by, Least.bounds_walks, Least.least_reached, Least.least_start}
use Rattle.walks.proofs.{Least.least_kept, Ranks.rank-le-length, Ranks.rank_less, Rounds.length-after}
use Rattle.walks.specs.{Arrivals.Arrivals, Arrivals.IsFifo, Certificates.IsKept, Chosen.leads, Chosen.link_before, Chosen.followed, Chosen.chosen_route}
use Rattle.walks.specs.Rounds.{Labels, label_at, IsBy, rank, least_labels}
use Rattle.walks.specs.Walks.{Ends, start_of, end_of, AreWithin, IsWalk, arrival}

-- the first number that passes, where one does
pub find_some : (p : ℕ → Bool) (low count found : ℕ) → find p (range_with_len low count) ≡ Some found →
    (low ≤ found) × (found < low + count) × (p found ≡ true)
find_some p low zero found e = absurd (cc e)
find_some p low (suc count) found e =
    elim (cases_Bool (p low)) [
      | inl passes ↦
          let first : Some low ≡ Some found = simp passes at e in
          let same : low ≡ found = cc first in
          (omega arith, omega arith, sym (ap p same) ∙ passes)
      | inr fails ↦
          let later : find p (range_with_len (low + 1) count) ≡ Some found = simp fails at e in
          let rest = find_some p (low + 1) count found later in
          (let h = rest.0 in omega arith, let h = rest.1 in omega arith, rest.2)
    ]

pub find_there : (p : ℕ → Bool) (low count there : ℕ) → low ≤ there → there < low + count → p there ≡ true →
    (found : ℕ) × (find p (range_with_len low count) ≡ Some found)
find_there p low zero there above below passes = absurd (omega arith)
find_there p low (suc count) there above below passes =
    elim (cases_Bool (p low)) [
      | inl here ↦ (low, ap (λ (b : Bool). cond b (Some low) (find p (range_with_len (low + 1) count))) here)
      | inr fails ↦
          let later : low + 1 ≤ there = above_first low there above fails passes in
          let rest = find_there p (low + 1) count there later (omega arith) passes in
          (rest.0, ap (λ (b : Bool). cond b (Some low) (find p (range_with_len (low + 1) count))) fails ∙ rest.1)
    ]
  where
    above_first : (low there : ℕ) → low ≤ there → p low ≡ false → p there ≡ true → low + 1 ≤ there
    above_first low there above fails passes =
        let apart : low ≡ there → ⊥ = λ same. let both = ap p same in cc (fails, passes, both) in
        omega arith

same_option : (a : ℕ) (o : Option ℕ) → option_eq nat_eq (Some a) o ≡ true → o ≡ Some a
same_option a None e = absurd (cc e)
same_option a (Some b) e = ap (λ (n : ℕ). Some n) (sym (eqb-true a b e))

-- what a link that leads to a node tells
pub leads_from : (ends : Ends) (arrive : Arrivals) (labels : Labels) (node link : ℕ) → leads ends arrive labels node link ≡ true
    → (end_of ends link ≡ node) × ((left : ℕ) × (label_at labels (start_of ends link) ≡ Some left) ×
    (label_at labels node ≡ Some (arrive link left)))
leads_from ends arrive labels node link e =
    let test : Option ℕ → Bool = λ o. option_map_or (λ left. option_eq nat_eq (Some (arrive link left)) (label_at labels node)) o false in
    let parts = and_parts (nat_eq (end_of ends link) node) (test (label_at labels (start_of ends link))) e in
    (eqb-true (end_of ends link) node parts.0, taken (label_at labels (start_of ends link)) refl parts.1)
  where
    taken : (o : Option ℕ) → label_at labels (start_of ends link) ≡ o →
        option_map_or (λ left. option_eq nat_eq (Some (arrive link left)) (label_at labels node)) o false ≡ true
        → (left : ℕ) × (label_at labels (start_of ends link) ≡ Some left) × (label_at labels node ≡ Some (arrive link left))
    taken None is none = absurd (cc none)
    taken (Some left) is same = (left, is, same_option (arrive link left) (label_at labels node) same)

pub leads_there : (ends : Ends) (arrive : Arrivals) (labels : Labels) (node link left : ℕ) → end_of ends link ≡ node →
    label_at labels (start_of ends link) ≡ Some left
    → label_at labels node ≡ Some (arrive link left) → leads ends arrive labels node link ≡ true
leads_there ends arrive labels node link left ending starts is =
    let test : Option ℕ → Bool = λ o. option_map_or (λ l. option_eq nat_eq (Some (arrive link l)) (label_at labels node)) o false in
    and_from (nat_eq (end_of ends link) node) (test (label_at labels (start_of ends link))) (eq-eqb (end_of ends link) node ending)
    (ap test starts ∙ ap (λ (o : Option ℕ). option_eq nat_eq (Some (arrive link left)) o) is ∙ eq-eqb (arrive link left)
    (arrive link left) refl)

-- the link before a node leads there
pub link_leads : (ends : Ends) (arrive : Arrivals) (labels : Labels) (node link : ℕ) → link_before ends arrive labels node ≡ Some link
    → (link < length ends) × (leads ends arrive labels node link ≡ true)
unfolding link_before
link_leads ends arrive labels node link found =
    let known = find_some (leads ends arrive labels node) 0 (length ends) link found in
    (let h = known.1 in omega arith, known.2)

-- the last link of a walk, and the walk before it
abbrev pub LastLink : Ends → Arrivals → ℕ → ℕ → List ℕ → ℕ → Type 0
LastLink ends arrive from second links to =
    (before : List ℕ) × (link : ℕ) × (link < length ends) × (end_of ends link ≡ to) × IsWalk ends from before (start_of ends link)
    × (arrival arrive second links ≡ arrive link (arrival arrive second before))

last_link : (ends : Ends) (arrive : Arrivals) (from second first : ℕ) (links : List ℕ) (to : ℕ) → IsWalk ends from (first ∷ links) to
    → LastLink ends arrive from second (first ∷ links) to
last_link ends arrive from second first [] to walk = ([], first, walk.0, walk.2, sym walk.1, refl)
last_link ends arrive from second first (next ∷ links) to walk =
    let rest = last_link ends arrive (end_of ends first) (arrive first second) next links to walk.2 in
    (first ∷ rest.0, rest.1, rest.2, rest.3, (walk.0, walk.1, rest.4), rest.5)

pub last_link_of : (ends : Ends) (arrive : Arrivals) (from second : ℕ) (links : List ℕ) (to : ℕ) → IsWalk ends from links to →
    (to ≡ from → ⊥)
    → LastLink ends arrive from second links to
last_link_of ends arrive from second [] to walk apart = absurd (apart (sym walk))
last_link_of ends arrive from second (first ∷ links) to walk apart = last_link ends arrive from second first links to walk

-- labels of which each but the start's is reached along a link
pub record AreReached (ends : List (ℕ × ℕ)) (arrive : ℕ → ℕ → ℕ) (from second : ℕ) (labels : List (Option ℕ)) : Type 0 where
  pub start : label_at labels from ≡ Some second
  pub others : (node at : ℕ) → (node ≡ from → ⊥) → label_at labels node ≡ Some at
      → (link left : ℕ) × (link < length ends) × (end_of ends link ≡ node) × (label_at labels (start_of ends link) ≡ Some left) ×
      (arrive link left ≡ at)

module _ (ends : Ends) (arrive : Arrivals) (fifo : IsFifo arrive) (from second : ℕ) (labels : Labels)
    (reached : AreReached ends arrive from second labels) where
  -- the link before a labelled node, and the label where it begins
  pub before_is : (node at : ℕ) → (node ≡ from → ⊥) → label_at labels node ≡ Some at
      → (link left : ℕ) × (link_before ends arrive labels node ≡ Some link) × (link < length ends) × (end_of ends link ≡ node) ×
      (label_at labels (start_of ends link) ≡ Some left) × (arrive link left ≡ at)
  unfolding link_before
  before_is node at apart is =
      let along = reached.others node at apart is in
      let there : leads ends arrive labels node along.0 ≡ true =
      leads_there ends arrive labels node along.0 along.1 along.3 along.4 (is ∙ ap (λ (n : ℕ). Some n) (sym along.5)) in
      let found = find_there (leads ends arrive labels node) 0 (length ends) along.0 (omega arith) (let h = along.2 in omega arith) there in
      let known = find_some (leads ends arrive labels node) 0 (length ends) found.0 found.1 in
      let led = leads_from ends arrive labels node found.0 known.2 in
      let reached_then : arrive found.0 led.1.0 ≡ at = cc (led.1.2, is) in
      (found.0, led.1.0, found.1, let h = known.1 in omega arith, led.0, led.1.1, reached_then)

  earlier_rank : (link left at : ℕ) → label_at labels (start_of ends link) ≡ Some left → arrive link left ≡ at →
      rank labels left < rank labels at
  earlier_rank link left at is same =
      let more = fifo.later link left in
      rank_less labels (start_of ends link) left at is (omega arith)

  -- one step back
  pub followed_step : (most node at : ℕ) → (apart : node ≡ from → ⊥) → (is : label_at labels node ≡ Some at)
      → followed ends arrive labels from (suc most) node ≡ followed ends arrive labels from most
      (start_of ends (before_is node at apart is).0) ++ (before_is node at apart is).0 ∷ []
  unfolding followed
  followed_step most node at apart is =
      let step : Option ℕ → List ℕ = λ o. option_map_or (λ link. followed ends arrive labels from most (start_of ends link) ++ link ∷ [])
      o [] in
      ap (λ (b : Bool). cond b [] (step (link_before ends arrive labels node)))
      (false_from_ne_true (nat_eq node from) (λ same. apart (eqb-true node from same)))
      ∙ ap step (before_is node at apart is).2

  pub followed_start : (most node : ℕ) → node ≡ from → followed ends arrive labels from most node ≡ []
  unfolding followed
  followed_start zero node same = refl
  followed_start (suc most) node same =
      let step : Option ℕ → List ℕ = λ o. option_map_or (λ link. followed ends arrive labels from most (start_of ends link) ++ link ∷ [])
      o [] in
      ap (λ (b : Bool). cond b [] (step (link_before ends arrive labels node))) (eq-eqb node from same)

  -- a walk to the node that arrives in that second
  Arrives : List ℕ → ℕ → ℕ → Type 0
  Arrives links node at = IsWalk ends from links node × (arrival arrive second links ≡ at)

  at_start : (most node at : ℕ) → node ≡ from → label_at labels node ≡ Some at →
      Arrives (followed ends arrive labels from most node) node at
  unfolding Arrives
  at_start most node at same is =
      let P : List ℕ → Type 0 = λ links. IsWalk ends from links node × (arrival arrive second links ≡ at) in
      let label : Some second ≡ Some at = sym reached.start ∙ ap (λ (n : ℕ). label_at labels n) (sym same) ∙ is in
      subst P (sym (followed_start most node same)) (sym same, cc label)

  pub followed_walk : (most node at : ℕ) → rank labels at ≤ most → label_at labels node ≡ Some at
      → IsWalk ends from (followed ends arrive labels from most node) node ×
      (arrival arrive second (followed ends arrive labels from most node) ≡ at)
  unfolding Arrives
  followed_walk zero node at enough is =
      elim (cases_Bool (nat_eq node from)) [
        | inl same ↦ at_start zero node at (eqb-true node from same) is
        | inr apart ↦
            let back = before_is node at (eqb-false node from apart) is in
            let less = earlier_rank back.0 back.1 at back.5 back.6 in
            absurd (omega arith)
      ]
  followed_walk (suc most) node at enough is =
      elim (cases_Bool (nat_eq node from)) [
        | inl same ↦ at_start (suc most) node at (eqb-true node from same) is
        | inr apart ↦
            let differ = eqb-false node from apart in
            let back = before_is node at differ is in
            let less = earlier_rank back.0 back.1 at back.5 back.6 in
            let before = followed_walk most (start_of ends back.0) back.1 (omega arith) back.5 in
            let links : List ℕ = followed ends arrive labels from most (start_of ends back.0) in
            let P : List ℕ → Type 0 = λ ls. IsWalk ends from ls node × (arrival arrive second ls ≡ at) in
            let Q : ℕ → Type 0 = λ n. IsWalk ends from (links ++ back.0 ∷ []) n in
            subst P (sym (followed_step most node at differ is)) (
              subst Q back.4 (walk_more ends arrive from links (start_of ends back.0) back.0 before.0 back.3 refl),
              arrival_more ends arrive second links back.0 ∙ ap (arrive back.0) before.1 ∙ back.6,
            )
      ]

-- of labels that are kept, and of which each is the arrival of a walk, each but the start's is reached along a link
pub reached_along : (ends : Ends) (arrive : Arrivals) → IsFifo arrive → (from second : ℕ) (labels : Labels) → label_at labels from
    ≡ Some second
    → ((node at : ℕ) → label_at labels node ≡ Some at → (links : List ℕ) × IsWalk ends from links node × (arrival arrive second links ≡ at))
    → ((link : ℕ) → link < length ends → IsKept ends arrive labels link) → AreReached ends arrive from second labels
reached_along ends arrive fifo from second labels start walks kept = record {
  start = start;
  others = λ node at apart is.
      let walk = walks node at is in
      let last = last_link_of ends arrive from second walk.0 node walk.1 apart in
      let bound = some_by (label_at labels (start_of ends last.1)) (arrival arrive second last.0)
      (bounds_walks ends arrive fifo from second labels start kept (start_of ends last.1) last.0 last.4) in
      let in_time : arrive last.1 bound.0 ≤ at = let order =
      fifo.in_order last.1 bound.0 (arrival arrive second last.0) bound.2 in let same = last.5 in let whole = walk.2 in omega arith in
      let P : ℕ → Type 0 = λ n. IsBy (label_at labels n) (arrive last.1 bound.0) in
      let here = some_by (label_at labels node) (arrive last.1 bound.0)
      (subst P last.3 (kept_by ends arrive labels last.1 bound.0 (kept last.1 last.2) bound.1)) in
      let same : here.0 ≡ at = cc (here.1, is) in
      (last.1, bound.0, last.2, last.3, bound.1, let h = here.2 in omega arith);
}

-- the labels of the least arrivals are such
pub least_are_reached : (nodes : ℕ) (ends : Ends) (arrive : Arrivals) → IsFifo arrive → AreWithin nodes ends → (from second : ℕ) →
    from < nodes
    → AreReached ends arrive from second (least_labels nodes ends arrive from second)
least_are_reached nodes ends arrive fifo inside from second within =
    reached_along ends arrive fifo from second (least_labels nodes ends arrive from second)
    (least_start nodes ends arrive fifo inside from second within)
    (least_reached nodes ends arrive fifo inside from second within) (least_kept nodes ends arrive fifo inside from second within)

pub chosen_is_least : (nodes : ℕ) (ends : Ends) (arrive : Arrivals) → IsFifo arrive → AreWithin nodes ends → (from second : ℕ) →
    from < nodes → (to at : ℕ)
    → label_at (least_labels nodes ends arrive from second) to ≡ Some at
    → IsWalk ends from (chosen_route nodes ends arrive (least_labels nodes ends arrive from second) from to) to
    × (arrival arrive second (chosen_route nodes ends arrive (least_labels nodes ends arrive from second) from to) ≡ at)
chosen_is_least nodes ends arrive fifo inside from second within to at is =
    let labels : Labels = least_labels nodes ends arrive from second in
    let most : rank labels at ≤ nodes = let few = rank-le-length labels at in let count =
    length-after nodes ends arrive from second nodes in omega arith in
    followed_walk ends arrive fifo from second labels (least_are_reached nodes ends arrive fifo inside from second within) nodes to at
    most is
