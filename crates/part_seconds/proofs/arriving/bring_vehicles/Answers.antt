use Rattle.std.proofs.Common.{◌∙◌, ◌++◌, [], ◌∷◌, List, ap}
use Rattle.node_move.specs.declared.crossings.Entering.{Entering}
use Rattle.part_seconds.proofs.{Coming.come_next, Lists.flat_push, Lists.next_all}
use Rattle.part_seconds.specs.Arriving.{riding_in, all_riding, entering_by}
use Rattle.part_seconds.proofs.arriving.bring_vehicles.Goals as goal

pub loop-moved-preserved : goal.loop-moved-preserved
loop-moved-preserved c =
    let m = c.in-Some.moved in
    let before = c.loop-moved.yielded in
    let was = c.loop-moved.invariant in
    let one = c.in_ok-bring_vehicle.ensures in
    record {
      come =
          come_next c.args.day.now (λ i. all_riding i before) (λ i. riding_in i m) (λ i. all_riding i (before ++ m ∷ []))
          c.args.persons.now c.loop-moved.persons c.bring_vehicle.new.persons was.come one.persons (λ i. flat_push (riding_in i) before m);
      plans = one.persons.count ∙ was.plans;
      wakes = one.persons.wakes;
      entering =
          one.entering ∙ ap (λ (xs : List Entering). xs ++ entering_by m ∷ []) was.entering
          ∙ next_all entering_by c.args.entering.now.items before m;
    }
