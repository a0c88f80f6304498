use Rattle.std.proofs.Common.{IsTrue, ◌↔◌, Bool, sym, subst}
use Rattle.scoring.{proofs.MayLemmas.may_take, specs.Taken.MayFollow}
use Rattle.scoring.proofs.scorer.Scorer.may_take.Goals as goal

pub returns-then-event-le-LAST_SECOND : goal.returns-then-event-le-LAST_SECOND
returns-then-event-le-LAST_SECOND c = λ tables taken stands few.
    subst (λ (b : Bool). IsTrue b ↔ MayFollow taken c.args.event.now) (sym c.is_next.ensures)
    (may_take tables c.args.self.now taken c.args.event.now stands few c.if-event-le-LAST_SECOND.true)
