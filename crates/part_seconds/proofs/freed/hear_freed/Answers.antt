use Rattle.std.proofs.Common.{subst, sym, length}
use Rattle.town.specs.Views.{setup}
use Rattle.part_places.specs.Taking.{Taking, AreTakenOf}
use Rattle.part_seconds.{proofs.Heard.heard_last, proofs.Heard.can_before, proofs.Heard.can_last, specs.Freed.heard_all}
use Rattle.part_seconds.proofs.freed.hear_freed.Goals as goal

pub loop-freed_places-init : goal.loop-freed_places-init
unfolding heard_all
loop-freed_places-init c = λ begins t T can stand. stand

pub loop-freed_places-preserved : goal.loop-freed_places-preserved
loop-freed_places-preserved c = λ begins t T can stand.
    let S = setup c.args.day.now in
    let s = c.args.second in
    let f = c.in-Some.freed_places in
    let before = c.loop-freed_places.yielded in
    let now = c.loop-freed_places.invariant begins t T (can_before S begins t s before f T can) stand in
    let new = c.in_ok-hear.ensures begins t (heard_all S s before T) (can_last S begins t s before f T can) now in
    subst (λ (U : Taking). AreTakenOf begins (length S.links) c.args.day.now.town.now.settings.end_second t U c.hear.new.places)
    (sym (heard_last S s before f T)) new
