use Rattle.law_sleeping.proofs.Skipping.{events_awake, lists_awake, marks_tell_nothing, credit_tells_nothing, marks_touch_buffers, credit_touches_nothing}
use Rattle.law_sleeping.proofs.seconds.sleepers_may_be_left_out.Goals as goal

pub returns : goal.returns
returns c = assumption (events_awake, lists_awake, marks_tell_nothing, credit_tells_nothing, marks_touch_buffers, credit_touches_nothing)
