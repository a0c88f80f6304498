use Rattle.std.proofs.{Common.◌∙◌, Common.ap, Common.arith, Common.length, lemmas.List.length_push}
use Rattle.workers.proofs.Starting.{none_at, each_next}
use Rattle.workers.proofs.days.first_parts.Goals as goal

pub loop-number-init : goal.loop-number-init
loop-number-init g c =
    let run = c.args.run.now in
    record {
      many = ap length c.new-parts.ensures.items;
      start = none_at g.T.Part.nothing g.T.Part.see (g.T.Part.stands run) (λ p. length (g.T.Part.borders run p)) _;
    }

pub loop-number-preserved : goal.loop-number-preserved
loop-number-preserved g c =
    let run = c.args.run.now in
    let held = c.loop-number.invariant in
    let long = ap length c.in_ok-push.ensures.items ∙ length_push c.loop-number.parts.items c.in_ok-start.field-0 in
    record {
      many = (let m = held.many in omega (arith, long, m));
      start = each_next g.T.Part.nothing g.T.Part.see (g.T.Part.stands run) (λ p. length (g.T.Part.borders run p)) c.loop-number.number
          c.loop-number.parts.items c.push.new.self.items c.in_ok-start.field-0 held.many held.start c.in_ok-start.ensures
          c.in_ok-push.ensures.items;
    }
