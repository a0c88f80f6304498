use Rattle.std.proofs.Common.{◌≡◌, ◌∙◌, ◌+◌, ◌∷◌, ◌++◌, [], ℕ, List, length, map, drop, ap, sym, subst, arith, rules, length-append}
use Rattle.std.proofs.lemmas.{Iterator.Adapters.YieldsList-from_vec, Iterator.Consumers.YieldsList-turn, Iterator.Consumers.YieldsList-end, List.map-append}
use Rattle.rows.specs.{PlanRows.plan_rows, PlanRows.all_plan_rows, declared.plan.Plan.Plan}
use Rattle.car_routes.proofs.{Routing.go_step, Routing.go_end, Routing.made_more, Routing.made_all, Routing.at_mapped, Wanting.by_all_step, Wanting.by_all_past}
use Rattle.car_routes.specs.{Found.AreNext, Plans.routed_plan, Plans.all_routed, Plans.own_are_on, Wanted.wanted_by_all}
use Rattle.car_routes.proofs.plans.routed_all.Goals as goal

pub routed_own-requires-clause-on : goal.routed_own-requires-clause-on
routed_own-requires-clause-on c =
    let turn = YieldsList-turn (YieldsList-from_vec {s = c.into_iter-own-iterator.result} c.args.plans (search rules) (search rules))
    c.loop-own.yielded c.loop-own.own-iterator c.loop-own.yielded_by c.next.result c.next.new.self c.in-Some.own c.in-Some.is c.next.ensures.steps in
    at_mapped (map plan_rows) (own_are_on _) c.args.plans (length c.loop-own.yielded) c.in-Some.own turn.0 turn.1 c.requires.on

pub loop-own-preserved : goal.loop-own-preserved
loop-own-preserved c =
    let G = c.args.adjacency.now in
    let plans = c.args.plans in
    let turn = YieldsList-turn (YieldsList-from_vec {s = c.into_iter-own-iterator.result} c.args.plans (search rules) (search rules))
    c.loop-own.yielded c.loop-own.own-iterator c.loop-own.yielded_by c.next.result c.next.new.self c.in-Some.own c.in-Some.is c.next.ensures.steps in
    let n = length c.loop-own.yielded in
    let count : length (c.loop-own.yielded ++ c.in-Some.own ∷ []) ≡ length c.loop-own.yielded + 1 =
    length-append c.loop-own.yielded (c.in-Some.own ∷ []) in
    record {
      plans = λ arrive alike next.
          let Q : ℕ → Type 0 = λ k. (all_plan_rows c.push.new.self.items ++ all_routed G arrive (all_plan_rows (drop k plans))
          ≡ all_routed G arrive (all_plan_rows plans))
          × AreNext G arrive c.routed_own.new.found (wanted_by_all G.ends (all_plan_rows (drop k plans)) ++ []) in
          subst Q (sym count)
          (go_step G arrive c.loop-own.found c.routed_own.new.found _ _ _ [] (all_plan_rows c.loop-own.rows.items) _ _ _ _ _ _
          (by_all_step G.ends plans n c.in-Some.own turn.0 turn.1)
          (made_more (map plan_rows) (map (routed_plan G arrive)) plans n c.in-Some.own turn.0 turn.1)
          (c.loop-own.invariant.plans arrive alike next)
          (λ more wanted. c.in_ok-routed.ensures.plans arrive more alike wanted)
          (ap (λ (ps : List (List Plan)). all_plan_rows ps) c.in_ok-push.ensures.items
          ∙ map-append (map plan_rows) c.loop-own.rows.items (c.in_ok-routed.routed ∷ [])));
      nodes = c.in_ok-routed.ensures.count ∙ c.loop-own.invariant.nodes;
    }

pub returns : goal.returns
returns c =
    let end = YieldsList-end (YieldsList-from_vec {s = c.into_iter-own-iterator.result} c.args.plans (search rules) (search rules))
    c.loop-own.yielded c.loop-own.own-iterator c.loop-own.yielded_by c.next.result c.next.new.self c.in-None.is c.next.ensures.steps in
    λ arrive alike next.
    (go_end c.args.adjacency.now arrive c.loop-own.found _ [] (all_plan_rows c.loop-own.rows.items) _ _
    (by_all_past c.args.adjacency.now.ends c.args.plans (length c.loop-own.yielded) (omega (arith, end.1)))
    (made_all (map plan_rows) (map (routed_plan c.args.adjacency.now arrive)) c.args.plans (length c.loop-own.yielded) (omega (arith, end.1)))
    (c.loop-own.invariant.plans arrive alike next)).0
