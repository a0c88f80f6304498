-- The routes that were found, in the order in which they are wanted.
use Rattle.std.proofs.Common.{◌≡◌, ℕ, ◌+◌, ◌<◌, Bool, true, false, cond, ◌&&◌, List, [], ◌∷◌, ◌++◌, length, drop, get_or, Option, None, Some, ◌⊎◌, inl, inr}
use Rattle.std.proofs.Common.{refl, sym, ◌∙◌, ap, subst, arith, length-append}
use Rattle.std.proofs.lemmas.{Bool.cases_eq, Bool.eq-eqb, Bool.ne_eqb, List.get_or-set_same, List.get_or-set_other}
use Rattle.std.specs.{Option.option_map, Prelude.slice_set, Prelude.nat_eq, Prelude.nat_le, Prelude.not, Prelude.option_to_list, Prelude.unwrap_or}
use Rattle.limits.specs.declared.TheConstants.{MAX_ROUTE_LINKS}
use Rattle.rows.specs.declared.plan.Act.{Act}
use Rattle.rows.specs.declared.plan.Leg.TheVariants as leg
use Rattle.walks.{proofs.Delayed.delayed_label, proofs.Delayed.delayed_labels, proofs.Delayed.delayed_route, specs.Alike.TakesAlike}
use Rattle.walks.specs.{Arrivals.Arrivals, Chosen.chosen_route, Rounds.Labels, Rounds.label_at, Rounds.least_labels, Walks.start_of, Walks.end_of}
use Rattle.router.proofs.LegWays.{route_here, route_there}
use Rattle.router.specs.{Graphs.Graph, Legs.route_between, Routes.way_to, Routes.allowed}
use Rattle.car_routes.{proofs.Wanting.from_here, proofs.Wanting.from_elsewhere, specs.Found.short}
use Rattle.car_routes.specs.{Found.short_way, Found.ways_from, Found.AreNext, Plans.filled, Wanted.Pairs, Wanted.wanted, Wanted.wanted_from, Wanted.row_of}

abbrev pub WayList : Type 0
WayList = List (Option (List ℕ))

same_given : {B : Type 0} (later : ℕ) (x : B) (o : Option ℕ) → option_map (λ (at : ℕ). x) (option_map (λ at. later + at) o) ≡ option_map (λ (at : ℕ). x) o
same_given later x None = refl
same_given later x (Some at) = refl

-- A WAY THAT IS TOO LONG
with_ends : (here there : ℕ) (way : List ℕ) → length (here ∷ way ++ there ∷ []) ≡ length way + 2
with_ends here there way = omega (arith, length-append way (there ∷ []))

long_by : (here there : ℕ) (way : List ℕ) (b : Bool) → nat_le (length way + 2) MAX_ROUTE_LINKS ≡ b
    → allowed (option_map (λ way. here ∷ way ++ there ∷ []) (cond b (Some way) None)) ≡ allowed (Some (here ∷ way ++ there ∷ []))
long_by here there way true is = refl
long_by here there way false is =
    sym (ap (λ (n : ℕ). cond (nat_le n MAX_ROUTE_LINKS) (Some (here ∷ way ++ there ∷ [])) None) (with_ends here there way)
    ∙ ap (λ (b : Bool). cond b (Some (here ∷ way ++ there ∷ [])) None) is)

-- a way that is left out makes no route that is allowed
short_allowed : (here there : ℕ) (o : Option (List ℕ))
    → allowed (option_map (λ way. here ∷ way ++ there ∷ []) (short o)) ≡ allowed (option_map (λ way. here ∷ way ++ there ∷ []) o)
short_allowed here there None = refl
short_allowed here there (Some way) = long_by here there way (nat_le (length way + 2) MAX_ROUTE_LINKS) refl

module _ (graph : Graph) (arrive : Arrivals) where
  -- where links take as long whenever they are entered, a search in any second finds the routes of the one in second 0
  pub any_second : TakesAlike arrive → (from second to : ℕ) → way_to graph arrive from second to ≡ way_to graph arrive from 0 to
  unfolding way_to
  any_second alike from second to =
      ap (λ (labels : Labels). option_map (λ (at : ℕ). chosen_route graph.nodes graph.ends arrive
      (least_labels graph.nodes graph.ends arrive from second) from to) (label_at labels to))
      (delayed_labels arrive alike second graph.nodes graph.ends from)
      ∙ ap (option_map (λ (at : ℕ). chosen_route graph.nodes graph.ends arrive (least_labels graph.nodes graph.ends arrive from second) from to))
      (delayed_label arrive alike second (least_labels graph.nodes graph.ends arrive from 0) to)
      ∙ same_given second (chosen_route graph.nodes graph.ends arrive (least_labels graph.nodes graph.ends arrive from second) from to)
      (label_at (least_labels graph.nodes graph.ends arrive from 0) to)
      ∙ ap (λ (links : List ℕ). option_map (λ (at : ℕ). links) (label_at (least_labels graph.nodes graph.ends arrive from 0) to))
      (delayed_route arrive alike second graph.nodes graph.ends from to)

  -- the next route from a node is taken out
  pub next_taken : (found : List WayList) (from to : ℕ) (rest : Pairs) → from < length found → AreNext graph arrive found ((from, to) ∷ rest)
      → (get_or (row_of found from) 0 None ≡ short_way graph arrive from to)
      × AreNext graph arrive (slice_set found from (drop 1 (row_of found from))) rest
  next_taken found from to rest within next =
      let here : row_of found from ≡ short_way graph arrive from to ∷ ways_from graph arrive from (wanted_from from rest) =
      next from ∙ ap (ways_from graph arrive from) (from_here from to rest) in
      (ap (λ (ws : WayList). get_or ws 0 None) here, λ node. by_node here node (cases_eq node from))
    where
      by_node : row_of found from ≡ short_way graph arrive from to ∷ ways_from graph arrive from (wanted_from from rest)
          → (node : ℕ) → (node ≡ from) ⊎ (node ≡ from → ⊥)
          → row_of (slice_set found from (drop 1 (row_of found from))) node ≡ ways_from graph arrive node (wanted_from node rest)
      by_node here node (inl same) =
          let P : ℕ → Type 0 = λ n. row_of (slice_set found from (drop 1 (row_of found from))) n ≡ ways_from graph arrive n (wanted_from n rest) in
          subst P (sym same) (get_or-set_same found from (drop 1 (row_of found from)) [] within ∙ ap (λ (ws : WayList). drop 1 ws) here)
      by_node here node (inr apart) =
          get_or-set_other found from node (drop 1 (row_of found from)) [] apart ∙ next node
          ∙ ap (ways_from graph arrive node) (from_elsewhere node from to rest (λ same. apart (sym same)))

  -- with the two links of its leg
  pub route_taken : (found new : List WayList) (here there from : ℕ) (next route : Option (List ℕ)) (rest : Pairs)
      → from ≡ end_of graph.ends here → from < length found → next ≡ get_or (row_of found from) 0 None
      → new ≡ slice_set found from (drop 1 (row_of found from)) → route ≡ allowed (option_map (λ way. here ∷ way ++ there ∷ []) next)
      → AreNext graph arrive found ((end_of graph.ends here, start_of graph.ends there) ∷ rest)
      → (route ≡ allowed (option_map (λ way. here ∷ way ++ there ∷ []) (way_to graph arrive (end_of graph.ends here) 0 (start_of graph.ends there))))
      × AreNext graph arrive new rest
  route_taken found new here there from next route rest at within first left is wanted =
      let P : ℕ → Type 0 = λ n. AreNext graph arrive found ((n, start_of graph.ends there) ∷ rest) in
      let Q : List WayList → Type 0 = λ ws. AreNext graph arrive ws rest in
      let taken = next_taken found from (start_of graph.ends there) rest within (subst P (sym at) wanted) in
      let answer : next ≡ short_way graph arrive (end_of graph.ends here) (start_of graph.ends there) =
      first ∙ taken.0 ∙ ap (λ (n : ℕ). short_way graph arrive n (start_of graph.ends there)) at in (
        is ∙ ap (λ (o : Option (List ℕ)). allowed (option_map (λ way. here ∷ way ++ there ∷ []) o)) answer
            ∙ short_allowed here there (way_to graph arrive (end_of graph.ends here) 0 (start_of graph.ends there)),
        subst Q (sym left) taken.1,
      )

  -- A ROUTE FILLED
  -- what a car leg wants, by whether it has no link and whether its links differ
  abbrev wanted_by_tests : ℕ → ℕ → Bool → Bool → Option (ℕ × ℕ)
  wanted_by_tests here there none apart = cond (none && apart) (Some (end_of graph.ends here, start_of graph.ends there)) None

  abbrev filled_by_test : Act → ℕ → List ℕ → Bool → List ℕ
  filled_by_test here there route none = cond none (unwrap_or (route_between graph arrive here there) []) route

  -- a leg to the link on which it begins
  pub filled_here : (here : Act) (there : ℕ) (route new : List ℕ) (found : List WayList) (rest : Pairs) → nat_eq (length route) 0 ≡ true
      → here.link ≡ there → new ≡ here.link ∷ []
      → AreNext graph arrive found (option_to_list (wanted graph.ends here.link there (leg.Car route)) ++ rest)
      → (new ≡ filled graph arrive here there route) × AreNext graph arrive found rest
  filled_here here there route new found rest none same is next =
      let P : Bool → Type 0 = λ b. AreNext graph arrive found
      (option_to_list (wanted_by_tests here.link there b (not (nat_eq here.link there))) ++ rest) in
      let Q : Bool → Type 0 = λ b. AreNext graph arrive found (option_to_list (wanted_by_tests here.link there true (not b)) ++ rest) in (
        is ∙ sym (ap (λ (o : Option (List ℕ)). unwrap_or o []) (route_here graph arrive (unwrap_or here.end 0) here.link there same))
            ∙ sym (ap (filled_by_test here there route) none),
        subst Q (eq-eqb here.link there same) (subst P none next),
      )

  -- a leg to another link
  pub filled_there : (here : Act) (there : ℕ) (route new : List ℕ) (given : Option (List ℕ)) (found left : List WayList) (rest : Pairs)
      → TakesAlike arrive → nat_eq (length route) 0 ≡ true → (here.link ≡ there → ⊥) → new ≡ unwrap_or given []
      → (AreNext graph arrive found ((end_of graph.ends here.link, start_of graph.ends there) ∷ rest)
      → (given ≡ allowed (option_map (λ way. here.link ∷ way ++ there ∷ [])
      (way_to graph arrive (end_of graph.ends here.link) 0 (start_of graph.ends there))))
      × AreNext graph arrive left rest)
      → AreNext graph arrive found (option_to_list (wanted graph.ends here.link there (leg.Car route)) ++ rest)
      → (new ≡ filled graph arrive here there route) × AreNext graph arrive left rest
  filled_there here there route new given found left rest alike none apart is gives next =
      let P : Bool → Type 0 = λ b. AreNext graph arrive found
      (option_to_list (wanted_by_tests here.link there b (not (nat_eq here.link there))) ++ rest) in
      let Q : Bool → Type 0 = λ b. AreNext graph arrive found (option_to_list (wanted_by_tests here.link there true (not b)) ++ rest) in
      let got = gives (subst Q (ne_eqb here.link there apart) (subst P none next)) in
      let second : ℕ = unwrap_or here.end 0 in
      let searched : given ≡ route_between graph arrive here there =
      got.0
      ∙ ap (λ (o : Option (List ℕ)). allowed (option_map (λ way. here.link ∷ way ++ there ∷ []) o))
      (sym (any_second alike (end_of graph.ends here.link) (unwrap_or here.end 0) (start_of graph.ends there)))
      ∙ sym (ap allowed (route_there graph arrive (unwrap_or here.end 0) here.link there apart)) in
      (is ∙ ap (λ (o : Option (List ℕ)). unwrap_or o []) searched ∙ sym (ap (filled_by_test here there route) none), got.1)
