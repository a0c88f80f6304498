use Rattle.queue_link.proofs.Dues.{bay_grows}
use Rattle.queue_link.proofs.state.LinkState.park.Goals as goal

pub invariant_of-self-2 : goal.invariant_of-self-2
invariant_of-self-2 c = (
  c.self.invariant.0,
  c.self.invariant.1,
  bay_grows c.self.inside.bay.items c.push.new.self.items _ c.self.inside.bay_due c.earliest-self-inside.result
      c.in_ok-push.ensures.items c.self.invariant.2 c.earliest-self-inside.ensures,
)
