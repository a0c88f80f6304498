use Rattle.std.proofs.Common.{◌∙◌, refl, ap, sym, length}
use Rattle.part_seconds.specs.Starting.{started, all_started, woken_for, woken_for_all}
use Rattle.part_seconds.proofs.Started.{started_length, woken_length, started_last, woken_last}
use Rattle.part_seconds.proofs.starting.start_all.Goals as goal

pub loop-row-init : goal.loop-row-init
unfolding all_started woken_for_all
loop-row-init c = record { links = refl; wakes = refl; count = c.requires.wakes }

pub loop-row-preserved : goal.loop-row-preserved
loop-row-preserved c =
    let r = c.in-Some.row in
    let before = c.loop-row.yielded in
    let was = c.loop-row.invariant in
    let one = c.in_ok-start.ensures in
    record {
      links = one.links ∙ ap (started r) was.links ∙ sym (started_last before r c.args.links.now);
      wakes = one.wakes ∙ ap (woken_for c.args.second r) was.wakes ∙ sym (woken_last c.args.second before r c.args.wakes.now);
      count =
          ap length one.wakes ∙ woken_length c.args.second r c.loop-row.wakes ∙ was.count
          ∙ sym (ap length one.links ∙ started_length r c.loop-row.links);
    }
