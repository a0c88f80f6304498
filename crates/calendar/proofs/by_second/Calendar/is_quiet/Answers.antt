use Rattle.std.proofs.Common.{List, ◌∙◌, ap, sym}
use Rattle.calendar.{proofs.InBlocks.due_is, proofs.Laid.none_hangs, specs.Blocks.Block, specs.Blocks.head_at}
use Rattle.calendar.proofs.by_second.Calendar.is_quiet.Goals as goal

pub returns : goal.returns
returns c = λ quiet.
    let blocks = c.self.inside.blocks.items in
    let hooks = c.self.inside.hooks.items in
    let t = c.args.second in
    rw (← c.self.view_is)
    (due_is hooks blocks t
    ∙ none_hangs hooks (head_at blocks t) (ap (λ (bs : List Block). head_at bs t) (sym c.deref.ensures.value) ∙ c.is_quiet_at.ensures quiet))
