use Rattle.std.proofs.Common.{arith}
use Rattle.parted_day.proofs.Ended.{table_length}
use Rattle.parted_day.proofs.ends.tell_ends.Goals as goal

pub push_ends-requires-clause-links : goal.push_ends-requires-clause-links
push_ends-requires-clause-links c =
    let ridden = c.in_ok-ridden.ridden in
    let long = table_length c.len.result c.args.links.now ridden.items c.in_ok-ridden.ensures in
    let own = ridden.ok.0 in
    let many = c.len.ensures in
    let all = c.args.states.ok.0 in
    let left = c.deref-2.ensures.len in
    let right = c.deref.ensures.len in
    omega arith
