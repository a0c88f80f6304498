use Rattle.scenario.proofs.{Common.length-map, Common.numbers_of, Renumbered.still_legs}
use Rattle.scenario.proofs.renumbering.plan_in_town.Goals as goal

pub invariant_of-result : goal.invariant_of-result
invariant_of-result c =
    let N = numbers_of c.args.numbering.now in
    let plan = c.args.plan in
    record {
      one_more = rw (c.in_ok-legs.ensures, length-map) plan.one_more;
      few = rw (c.in_ok-legs.ensures, length-map) plan.few;
      ends = plan.ends;
      sound = rw (c.in_ok-legs.ensures, still_legs N plan.legs) plan.sound;
    }
