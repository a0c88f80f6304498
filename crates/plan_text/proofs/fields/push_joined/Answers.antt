use Rattle.plan_text.proofs.Joins.{first_joined}
use Rattle.plan_text.proofs.fields.push_joined.Goals as goal

pub loop-rest-init : goal.loop-rest-init
loop-rest-init c = first_joined c.args.separator c.args.pieces.now _ c.args.text.now.items c.extend_from_slice.new.self.items c.in-len1-up.len_at_least c.in_ok-extend_from_slice.ensures.items
