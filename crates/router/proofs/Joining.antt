-- The route of a leg leads from the one link to the other.
use Rattle.std.proofs.Common.{◌≡◌, ℕ, suc, ◌+◌, ◌-◌, ◌<◌, ◌≤◌, Bool, true, false, cond, List, [], ◌∷◌, ◌++◌, length, get_or, Option, None, Some, inl, inr, refl}
use Rattle.std.proofs.Common.{sym, ◌∙◌, ap, subst, arith, length-append}
use Rattle.std.proofs.lemmas.{Bool.and_from, Bool.eq-eqb, Bool.ne_eqb, Bool.cases_eq, Bool.Decides.nat_tests, List.Folds.list_all-append}
use Rattle.std.specs.{List.list_all, Option.option_map, Prelude.nat_eq, Prelude.nat_lt, Prelude.nat_le, Prelude.IfSome}
use Rattle.limits.specs.declared.TheConstants.{MAX_ROUTE_LINKS}
use Rattle.rows.specs.Joined.{is_joined}
use Rattle.walks.{proofs.Followed.chosen_is_least, specs.Arrivals.Arrivals, specs.Arrivals.IsFifo}
use Rattle.walks.specs.{Chosen.chosen_route, Rounds.label_at, Rounds.least_labels, Walks.Ends, Walks.start_of, Walks.end_of, Walks.IsWalk, Walks.AreWithin}
use Rattle.router.specs.{Graphs.Graph, Legs.Joins, Routes.way_to, Routes.leg_route, Routes.allowed}

is_below : (n m : ℕ) → n < m → nat_lt n m ≡ true
is_below n m less = grind (arith, nat_tests)

at_most : (n m : ℕ) → nat_le n m ≡ true → n ≤ m
at_most n m test = grind (arith, nat_tests)

-- WALKS BETWEEN TWO LINKS
-- a walk with the links before and behind it is joined
walk_joined : (ends : Ends) (here there : ℕ) (way : List ℕ) → IsWalk ends (end_of ends here) way (start_of ends there)
    → is_joined ends (here ∷ way ++ there ∷ []) ≡ true
unfolding is_joined
walk_joined ends here there [] walk =
    and_from (nat_eq (get_or ends here (0, 0)).1 (get_or ends there (0, 0)).0) true
    (eq-eqb (get_or ends here (0, 0)).1 (get_or ends there (0, 0)).0 walk) refl
walk_joined ends here there (link ∷ links) walk =
    and_from (nat_eq (get_or ends here (0, 0)).1 (get_or ends link (0, 0)).0) (is_joined ends (link ∷ links ++ there ∷ []))
    (eq-eqb (get_or ends here (0, 0)).1 (get_or ends link (0, 0)).0 (sym walk.1)) (walk_joined ends link there links walk.2)

-- its links are there
walk_within : (ends : Ends) (from to : ℕ) (way : List ℕ) → IsWalk ends from way to
    → list_all (λ l. nat_lt l (length ends)) way ≡ true
walk_within ends from to [] walk = refl
walk_within ends from to (link ∷ links) walk =
    and_from (nat_lt link (length ends)) (list_all (λ l. nat_lt l (length ends)) links) (is_below link (length ends) walk.0)
    (walk_within ends (end_of ends link) to links walk.2)

-- the last of some numbers
last_is : (xs : List ℕ) (x : ℕ) → get_or (xs ++ x ∷ []) (length (xs ++ x ∷ []) - 1) 0 ≡ x
last_is [] x = refl
last_is (y ∷ ys) x =
    let more : length (ys ++ x ∷ []) ≡ length ys + 1 = length-append ys (x ∷ []) in
    let place : suc (length (ys ++ x ∷ [])) - 1 ≡ suc (length (ys ++ x ∷ []) - 1) = omega arith in
    ap (λ (k : ℕ). get_or (y ∷ (ys ++ x ∷ [])) k 0) place ∙ last_is ys x

module _ (ends : Ends) (here there : ℕ) (here_in : here < length ends) (there_in : there < length ends) where
  -- the route over one link
  one_joins : here ≡ there → Joins ends here there (here ∷ [])
  unfolding is_joined
  one_joins same = record {
    some = omega arith;
    short = omega arith;
    first = refl;
    last = same;
    within = and_from (nat_lt here (length ends)) true (is_below here (length ends) here_in) refl;
    joined = refl;
  }

  -- a walk with both links
  way_joins : (way : List ℕ) → IsWalk ends (end_of ends here) way (start_of ends there) → length (here ∷ way ++ there ∷ []) ≤ MAX_ROUTE_LINKS
      → Joins ends here there (here ∷ way ++ there ∷ [])
  way_joins way walk few =
      let test : ℕ → Bool = λ l. nat_lt l (length ends) in
      let front = and_from (nat_lt here (length ends)) (list_all (λ l. nat_lt l (length ends)) way) (is_below here (length ends) here_in)
      (walk_within ends (end_of ends here) (start_of ends there) way walk) in
      let back = and_from (nat_lt there (length ends)) true (is_below there (length ends) there_in) refl in
      record {
        some = omega arith;
        short = few;
        first = refl;
        last = last_is (here ∷ way) there;
        within = list_all-append (λ l. nat_lt l (length ends)) (here ∷ way) (there ∷ [])
            ∙ and_from (list_all (λ l. nat_lt l (length ends)) (here ∷ way)) (list_all (λ l. nat_lt l (length ends)) (there ∷ [])) front back;
        joined = walk_joined ends here there way walk;
      }

-- ALLOWED ROUTES
allowed_by : (b : Bool) (own route : List ℕ) → nat_le (length own) MAX_ROUTE_LINKS ≡ b → cond b (Some own) None ≡ Some route
    → (own ≡ route) × (length route ≤ MAX_ROUTE_LINKS)
allowed_by true own route test is =
    let same : own ≡ route = cc in (same, subst (λ (r : List ℕ). length r ≤ MAX_ROUTE_LINKS) same (at_most (length own) MAX_ROUTE_LINKS test))
allowed_by false own route test is = absurd (cc is)

-- a route that is allowed is the one that there is, and short enough
allowed_some : (o : Option (List ℕ)) (route : List ℕ) → allowed o ≡ Some route → (o ≡ Some route) × (length route ≤ MAX_ROUTE_LINKS)
allowed_some None route is = absurd (cc is)
allowed_some (Some own) route is =
    let both = allowed_by (nat_le (length own) MAX_ROUTE_LINKS) own route refl is in (ap Some both.0, both.1)

module _ (graph : Graph) (arrive : Arrivals) (fifo : IsFifo arrive) (inside : AreWithin graph.nodes graph.ends)
    (second here there : ℕ) (here_in : here < length graph.ends) (there_in : there < length graph.ends) where
  -- the way of a label is a walk
  by_label : (label : Option ℕ) (route : List ℕ)
      → label_at (least_labels graph.nodes graph.ends arrive (end_of graph.ends here) second) (start_of graph.ends there) ≡ label
      → option_map (λ way. here ∷ way ++ there ∷ []) (option_map (λ (at : ℕ). chosen_route graph.nodes graph.ends arrive
      (least_labels graph.nodes graph.ends arrive (end_of graph.ends here) second) (end_of graph.ends here) (start_of graph.ends there)) label)
      ≡ Some route
      → length route ≤ MAX_ROUTE_LINKS → Joins graph.ends here there route
  by_label None route label is few = absurd (cc is)
  by_label (Some at) route label is few =
      let from : ℕ = end_of graph.ends here in
      let way : List ℕ = chosen_route graph.nodes graph.ends arrive (least_labels graph.nodes graph.ends arrive (end_of graph.ends here) second)
      (end_of graph.ends here) (start_of graph.ends there) in
      let same : here ∷ way ++ there ∷ [] ≡ route = cc in
      let begins : end_of graph.ends here < graph.nodes = (inside here (0, 0) here_in).1 in
      let walk = (chosen_is_least graph.nodes graph.ends arrive fifo inside (end_of graph.ends here) second begins (start_of graph.ends there) at
      label).0 in
      subst (Joins graph.ends here there) same (way_joins graph.ends here there here_in there_in way walk
      (subst (λ (r : List ℕ). length r ≤ MAX_ROUTE_LINKS) (sym same) few))

  apart_joins : (route : List ℕ) → option_map (λ way. here ∷ way ++ there ∷ [])
      (way_to graph arrive (end_of graph.ends here) second (start_of graph.ends there)) ≡ Some route
      → length route ≤ MAX_ROUTE_LINKS → Joins graph.ends here there route
  unfolding way_to
  apart_joins route is few =
      by_label (label_at (least_labels graph.nodes graph.ends arrive (end_of graph.ends here) second) (start_of graph.ends there)) route refl is few

  -- where a leg has a route that is allowed, it leads from the one link to the other
  pub allowed_joins : (route : List ℕ) → allowed (leg_route graph arrive second here there) ≡ Some route → Joins graph.ends here there route
  unfolding leg_route
  allowed_joins route is =
      let both = allowed_some (leg_route graph arrive second here there) route is in
      let far : Option (List ℕ) = option_map (λ way. here ∷ way ++ there ∷ [])
      (way_to graph arrive (end_of graph.ends here) second (start_of graph.ends there)) in
      elim (cases_eq here there) [
        | inl same ↦
            let one : Some (here ∷ []) ≡ Some route = sym (ap (λ (b : Bool). cond b (Some (here ∷ []))
            (option_map (λ way. here ∷ way ++ there ∷ []) (way_to graph arrive (end_of graph.ends here) second (start_of graph.ends there))))
            (eq-eqb here there same)) ∙ both.0 in
            let route_is : here ∷ [] ≡ route = cc in
            subst (Joins graph.ends here there) route_is (one_joins graph.ends here there here_in there_in same)
        | inr apart ↦
            apart_joins route (sym (ap (λ (b : Bool). cond b (Some (here ∷ []))
            (option_map (λ way. here ∷ way ++ there ∷ []) (way_to graph arrive (end_of graph.ends here) second (start_of graph.ends there))))
            (ne_eqb here there apart)) ∙ both.0) both.1
      ]

  some_joins : (o : Option (List ℕ)) → allowed (leg_route graph arrive second here there) ≡ o → IfSome o (Joins graph.ends here there)
  some_joins None is = tt
  some_joins (Some route) is = allowed_joins route is

  pub leg_joins : IfSome (allowed (leg_route graph arrive second here there)) (Joins graph.ends here there)
  leg_joins = some_joins (allowed (leg_route graph arrive second here there)) refl
