use Rattle.std.proofs.Common.{◌∙◌, ◌++◌, List, ap, append-nil, sym}
use Rattle.events.specs.declared.event.Event.{Event}
use Rattle.parted_day.proofs.Ended.{none_keyed}
use Rattle.parted_day.proofs.ends.push_stranded.Goals as goal

pub returns-in-None : goal.returns-in-None
returns-in-None c =
    let events = c.args.events.now.items in
    let end = c.args.day.now.town.now.settings.end_second in
    sym (append-nil events)
    ∙ ap (λ (es : List Event). events ++ es) (none_keyed end c.args.person _ c.in-None.ensures)
