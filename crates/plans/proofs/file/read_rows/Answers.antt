use Rattle.records.proofs.Common.{◌≡◌, ℕ, length, ◌∙◌, arith, map, ◌<◌, sym, subst, ◌^◌, length-map, fields_of}
use Rattle.std.specs.List.{All}
use Rattle.plans.proofs.{Answering.all_read, Answering.none_left, FileRead.last_there, FileRead.finish_is, FileRead.finish_sound, FileRead.starts_early}
use Rattle.plans.specs.{Read.progress_of, Values.PlanFileRows}
use Rattle.plans.proofs.file.read_rows.Goals as goal

pub finished-requires : goal.finished-requires
finished-requires c =
    let some = c.requires.some in
    let end : c.loop-place.place ≡ length c.args.rows.now = omega arith in
    let all = all_read c.args.links.now c.args.ends.now c.args.rows.now c.loop-place.place (progress_of c.loop-place.read) c.loop-place.invariant end in
    last_there c.args.links.now c.args.ends.now (map fields_of c.args.rows.now) (progress_of c.loop-place.read) all

pub returns-in-Ok-finished : goal.returns-in-Ok-finished
returns-in-Ok-finished c =
    let some = c.requires.some in
    let end : c.loop-place.place ≡ length c.args.rows.now = omega arith in
    let rows = map fields_of c.args.rows.now in
    let p = progress_of c.loop-place.read in
    let all = all_read c.args.links.now c.args.ends.now c.args.rows.now c.loop-place.place p c.loop-place.invariant end in
    record {
      read = (none_left c.args.links.now c.args.ends.now rows p all, c.in-Ok-finished.ensures ∙ finish_is c.args.links.now c.args.ends.now rows p all);
      sound = rw c.in-Ok-finished.ensures (finish_sound c.args.links.now c.args.ends.now rows p all);
      starts = subst (λ (file : PlanFileRows). All (λ (row : ℕ). row < 2 ^ 30) file.starts) (sym c.in-Ok-finished.ensures)
          (starts_early c.args.links.now c.args.ends.now rows p (2 ^ 30) all (rw length-map c.requires.few));
    }
