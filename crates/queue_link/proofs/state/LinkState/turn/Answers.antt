use Rattle.queue_link.proofs.Steps.{leads_then_halt}
use Rattle.queue_link.proofs.state.LinkState.turn.Goals as goal

pub returns-in-Some-clause-goes_on : goal.returns-in-Some-clause-goes_on
returns-in-Some-clause-goes_on c = λ dwell ws. rw c.in-Some.is at (c.in_ok-turn.ensures.leads dwell ws)

pub returns-in_ok-turn-in-None-clause-goes_on : goal.returns-in_ok-turn-in-None-clause-goes_on
returns-in_ok-turn-in-None-clause-goes_on c =
    leads_then_halt c.args.self.now c.turn_queue.new.self _ c.args.second c.args.said.now.items c.turn_queue.new.said.items
    c.in_ok-turn.ensures.same
    (λ dwell ws. rw c.in-None.is at (c.in_ok-turn.ensures.leads dwell ws)) c.in_ok-turn-in-None.ensures.goes_on
