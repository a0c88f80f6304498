use Rattle.traffic.proofs.Common.{◌∙◌, ap, sym, ◌++◌, done, told}
use Rattle.std.proofs.lemmas.List.{flat_map_more}
use Rattle.town.specs.Views.{setup}
use Rattle.person_moves.proofs.Running.{run_more}
use Rattle.person_moves.proofs.moving.do_moves.Goals as goal

pub loop-step-preserved : goal.loop-step-preserved
loop-step-preserved c =
    let S = setup c.args.day.now in
    record {
      world =
          c.in_ok-do_move.ensures.world ∙ ap (done S c.args.second c.in-Some.step) c.loop-step.invariant.world
          ∙ sym (run_more S c.args.second c.loop-step.yielded c.in-Some.step c.args.world.now);
      told =
          c.in_ok-do_move.ensures.told ∙ ap (λ xs. xs ++ told c.in-Some.step) c.loop-step.invariant.told
          ∙ flat_map_more told c.args.said.now.items c.loop-step.yielded c.in-Some.step;
    }
