use Rattle.std.{proofs.Common.◌∙◌, proofs.Common.◌++◌, proofs.Common.[], proofs.Common.◌∷◌, specs.List.flat_map}
use Rattle.part_seconds.{proofs.Coming.come_next, proofs.Lists.flat_push, specs.Arriving.teleporting_in}
use Rattle.part_seconds.proofs.arriving.bring_teleported.Goals as goal

pub loop-sent-preserved : goal.loop-sent-preserved
loop-sent-preserved c =
    let s = c.args.second in
    let f = c.in-Some.sent in
    let before = c.loop-sent.yielded in
    let was = c.loop-sent.invariant in
    let one = c.in_ok-bring.ensures in
    record {
      come =
          come_next c.args.day.now (λ i. flat_map (teleporting_in i s) before) (λ i. teleporting_in i s f) (λ i. flat_map (teleporting_in i s) (before ++ f ∷ []))
          c.args.persons.now c.loop-sent.persons c.bring.new.persons was.come one (λ i. flat_push (teleporting_in i s) before f);
      plans = one.count ∙ was.plans;
      wakes = one.wakes;
    }
