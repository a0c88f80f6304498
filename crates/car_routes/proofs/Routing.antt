-- Legs and plans with the routes that were found for them, one after the other.
use Rattle.std.proofs.Common.{◌≡◌, ℕ, zero, suc, ◌+◌, ◌-◌, ◌<◌, ◌≤◌, Bool, true, List, [], ◌∷◌, ◌++◌, length, map, drop, inl, inr, refl, sym, ◌∙◌, ap, subst}
use Rattle.std.proofs.{Common.arith, Common.append_assoc, lemmas.Bool.and_from, lemmas.Bool.and_parts, lemmas.Bool.cases_lt}
use Rattle.std.proofs.lemmas.List.{append-nil, drop_more, drop_all, get_or_past, length-map, Folds.list_all-append}
use Rattle.std.proofs.lemmas.List.FromFn.{length-range_with_len, get_or-range_with_len, get_or-map-range_with_len, length-map-range_with_len}
use Rattle.std.specs.{List.list_all, List.range_with_len, Prelude.slice_index_or}
use Rattle.rows.specs.{Joined.ends_of, Plan.is_leg, PlanRows.PlanRows, declared.network.LinkRow.LinkRow, declared.plan.Act.Act, declared.plan.Leg.Leg}
use Rattle.travel_times.{proofs.Free.free_alike, specs.Times.LinkProfile, specs.Times.arrivals, specs.Times.free_of, specs.Times.free_times}
use Rattle.walks.specs.{Alike.TakesAlike, Arrivals.Arrivals}
use Rattle.router.{proofs.LegWays.ends_count, specs.Graphs.Graph, specs.Legs.each_leg}
use Rattle.car_routes.{proofs.Finding.WayList, specs.Found.ways_from}
use Rattle.car_routes.specs.{Found.AreNext, Plans.routed_leg, Plans.routed_plan, Plans.all_routed, Wanted.Pairs, Wanted.wanted_in, Wanted.row_of}

module _ {Y : Type 0} (graph : Graph) (arrive : Arrivals) where
  -- one more of some is made, and its routes are taken out
  pub go_step : (found next : List WayList) (own left later rest : Pairs) (made making after all : List Y) (one y : Y) (behind : List Y)
      → left ≡ own ++ later → making ≡ one ∷ behind
      → (made ++ making ≡ all) × AreNext graph arrive found (left ++ rest)
      → ((more : Pairs) → AreNext graph arrive found (own ++ more) → (y ≡ one) × AreNext graph arrive next more)
      → after ≡ made ++ y ∷ []
      → (after ++ behind ≡ all) × AreNext graph arrive next (later ++ rest)
  go_step found next own left later rest made making after all one y behind split first so_far gives pushed =
      let P : Pairs → Type 0 = λ ps. AreNext graph arrive found ps in
      let wanted : AreNext graph arrive found (own ++ (later ++ rest)) =
      subst P (ap (λ (ps : Pairs). ps ++ rest) split ∙ append_assoc own later rest) so_far.1 in
      let got = gives (later ++ rest) wanted in (
        ap (λ (ys : List Y). ys ++ behind) (pushed ∙ ap (λ (z : Y). made ++ z ∷ []) got.0)
            ∙ append_assoc made (one ∷ []) behind
            ∙ ap (λ (ys : List Y). made ++ ys) (sym first)
            ∙ so_far.0,
        got.1,
      )

  -- all are made
  pub go_end : (found : List WayList) (left rest : Pairs) (made making all : List Y) → left ≡ [] → making ≡ []
      → (made ++ making ≡ all) × AreNext graph arrive found (left ++ rest) → (made ≡ all) × AreNext graph arrive found rest
  go_end found left rest made making all none nothing so_far =
      let P : Pairs → Type 0 = λ ps. AreNext graph arrive found (ps ++ rest) in
      (sym (append-nil made) ∙ ap (λ (ys : List Y). made ++ ys) (sym nothing) ∙ so_far.0, subst P none so_far.1)

-- the item at a place by a function, and those behind it
pub made_more : {X Y Z : Type 0} (f : X → Y) (g : Y → Z) (xs : List X) (i : ℕ) (x : X) → i < length xs → x ≡ slice_index_or xs i x
    → map g (map f (drop i xs)) ≡ g (f x) ∷ map g (map f (drop (i + 1) xs))
made_more f g xs i x less is =
    ap (λ ys. map g (map f ys)) (drop_more xs i x less ∙ ap (λ y. y ∷ drop (i + 1) xs) (sym is))

pub made_all : {X Y Z : Type 0} (f : X → Y) (g : Y → Z) (xs : List X) (i : ℕ) → length xs ≤ i → map g (map f (drop i xs)) ≡ []
made_all f g xs i done = ap (λ ys. map g (map f ys)) (drop_all i xs done)

-- what holds of all holds of one
at_one : {X : Type 0} (p : X → Bool) (xs : List X) (i : ℕ) (x : X) → i < length xs → x ≡ slice_index_or xs i x → list_all p xs ≡ true → p x ≡ true
at_one p [] i x less is all = absurd (omega arith)
at_one p (y ∷ ys) zero x less is all = ap p is ∙ (and_parts (p y) (list_all p ys) all).0
at_one p (y ∷ ys) (suc i) x less is all = at_one p ys i x (omega arith) is (and_parts (p y) (list_all p ys) all).1

-- what holds of all, seen by a function, holds of one
pub at_mapped : {X Y : Type 0} (f : X → Y) (p : Y → Bool) (xs : List X) (i : ℕ) (x : X) → i < length xs → x ≡ slice_index_or xs i x
    → list_all p (map f xs) ≡ true → p (f x) ≡ true
at_mapped f p [] i x less is all = absurd (omega arith)
at_mapped f p (y ∷ ys) zero x less is all = ap (λ z. p (f z)) is ∙ (and_parts (p (f y)) (list_all p (map f ys)) all).0
at_mapped f p (y ∷ ys) (suc i) x less is all = at_mapped f p ys i x (omega arith) is (and_parts (p (f y)) (list_all p (map f ys)) all).1

-- one leg more is still a leg
pub sound_push : (legs new : List Leg) (i : ℕ) (own leg : Leg) → i < length legs → own ≡ slice_index_or legs i own → list_all is_leg new ≡ true
    → (is_leg own ≡ true → is_leg leg ≡ true) → list_all is_leg legs ≡ true → list_all is_leg (new ++ leg ∷ []) ≡ true
sound_push legs new i own leg less is so_far kept all =
    list_all-append is_leg new (leg ∷ [])
    ∙ and_from (list_all is_leg new) (list_all is_leg (leg ∷ [])) so_far
    (and_from (is_leg leg) true (kept (at_one is_leg legs i own less is all)) refl)

-- a plan whose legs have their routes
pub plan_step : (graph : Graph) (arrive : Arrivals) (found next : List WayList) (plan : PlanRows) (from_acts : List Act) (from_legs : List Leg)
    (acts : List Act) (legs : List Leg) (rest : Pairs) → from_acts ≡ plan.acts → from_legs ≡ plan.legs → acts ≡ plan.acts
    → (AreNext graph arrive found (wanted_in graph.ends from_acts from_legs ++ rest)
    → (legs ≡ each_leg (routed_leg graph arrive) from_acts from_legs) × AreNext graph arrive next rest)
    → AreNext graph arrive found (wanted_in graph.ends plan.acts plan.legs ++ rest)
    → (record { acts = acts; legs = legs } ≡ routed_plan graph arrive plan) × AreNext graph arrive next rest
plan_step graph arrive found next plan from_acts from_legs acts legs rest acts_are legs_are copy gives wanted =
    let P : List Act → List Leg → Type 0 = λ a l. AreNext graph arrive found (wanted_in graph.ends a l ++ rest) in
    let got = gives (subst (λ (a : List Act). P a from_legs) (sym acts_are) (subst (λ (l : List Leg). P plan.acts l) (sym legs_are) wanted)) in
    let legs_is : legs ≡ each_leg (routed_leg graph arrive) plan.acts plan.legs =
    got.0 ∙ ap (λ (a : List Act). each_leg (routed_leg graph arrive) a from_legs) acts_are ∙ ap (each_leg (routed_leg graph arrive) plan.acts) legs_are in
    let both : List Act → List Leg → PlanRows = λ a l. record { acts = a; legs = l } in
    (ap (λ (a : List Act). both a legs) copy ∙ ap (both plan.acts) legs_is, got.1)

-- A NETWORK AND ITS FREE TIMES
pub links_counted : (nodes : ℕ) (links : List LinkRow) (graph : Graph) → graph ≡ record { nodes = nodes; ends = ends_of links }
    → length graph.ends ≡ length links
links_counted nodes links graph is = ap (λ (g : Graph). length g.ends) is ∙ ends_count links

pub times_counted : (nodes : ℕ) (links : List LinkRow) (graph : Graph) (times : List LinkProfile)
    → graph ≡ record { nodes = nodes; ends = ends_of links } → times ≡ free_times links → length times ≡ length graph.ends
times_counted nodes links graph times is free =
    ap (λ (ts : List LinkProfile). length ts) free ∙ length-map links (λ link. record { free = free_of link; times = [] })
    ∙ sym (links_counted nodes links graph is)

pub routed_is : (nodes : ℕ) (links : List LinkRow) (graph : Graph) (times : List LinkProfile) (plans routed : List (List PlanRows))
    → graph ≡ record { nodes = nodes; ends = ends_of links } → times ≡ free_times links
    → (TakesAlike (arrivals times) → routed ≡ all_routed graph (arrivals times) plans)
    → routed ≡ all_routed (record { nodes = nodes; ends = ends_of links }) (arrivals (free_times links)) plans
routed_is nodes links graph times plans routed is free gives =
    gives (subst (λ (ts : List LinkProfile). TakesAlike (arrivals ts)) (sym free) (free_alike links))
    ∙ ap (λ (ts : List LinkProfile). all_routed graph (arrivals ts) plans) free
    ∙ ap (λ (g : Graph). all_routed g (arrivals (free_times links)) plans) is

-- NODE BY NODE
-- a number of a range
pub in_range : (n len k d : ℕ) → n ≡ len → k < length (range_with_len 0 (n - 0)) → slice_index_or (range_with_len 0 (n - 0)) k d < len
in_range n len k d same less =
    let count = length-range_with_len 0 (n - 0) in
    let at = get_or-range_with_len 0 (n - 0) k d (omega (arith, count, less)) in
    omega (arith, at, count, same, less)

-- the list of a node, where each node has one by a function, and no node beyond has any
pub ranged : {X : Type 0} (f : ℕ → List X) (n node : ℕ) → (n ≤ node → f node ≡ []) → row_of (map f (range_with_len 0 n)) node ≡ f node
ranged f n node beyond = elim (cases_lt node n) [
  | inl less ↦ get_or-map-range_with_len f 0 n node node [] less (omega arith)
  | inr past ↦ get_or_past (map f (range_with_len 0 n)) node [] (omega (arith, length-map-range_with_len f 0 n)) ∙ sym (beyond past)
]

-- the ways from each node to its targets
pub ways_ranged : (graph : Graph) (arrive : Arrivals) (targets : List (List ℕ)) (found : List WayList)
    → found ≡ map (λ node. ways_from graph arrive node (row_of targets node)) (range_with_len 0 (length targets))
    → (node : ℕ) → row_of found node ≡ ways_from graph arrive node (row_of targets node)
ways_ranged graph arrive targets found is node =
    ap (λ (ws : List WayList). row_of ws node) is
    ∙ ranged (λ node. ways_from graph arrive node (row_of targets node)) (length targets) node
    (λ past. ap (ways_from graph arrive node) (get_or_past targets node [] past))

pub ways_counted : (graph : Graph) (arrive : Arrivals) (targets : List (List ℕ)) (found : List WayList)
    → found ≡ map (λ node. ways_from graph arrive node (row_of targets node)) (range_with_len 0 (length targets))
    → length found ≡ length targets
ways_counted graph arrive targets found is =
    ap (λ (ws : List WayList). length ws) is
    ∙ length-map-range_with_len (λ node. ways_from graph arrive node (row_of targets node)) 0 (length targets)
