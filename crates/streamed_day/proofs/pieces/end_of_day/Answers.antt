use Rattle.std.proofs.Common.{◌∙◌, ap, sym, subst, length, List}
use Rattle.step_core.specs.Views.{EachAt}
use Rattle.streamed_day.proofs.Views.{running_each}
use Rattle.streamed_day.proofs.pieces.end_of_day.Goals as goal

pub ends_of-requires-clause-count : goal.ends_of-requires-clause-count
ends_of-requires-clause-count g c = ap length c.into_parts.ensures ∙ c.requires.running.core.many

pub ends_of-requires-clause-ended : goal.ends_of-requires-clause-ended
ends_of-requires-clause-ended g c =
    let run = c.args.run.now in
    subst (λ (xs : List g.row.T.Denot). EachAt g.T.Part.nothing g.T.Part.see (g.T.Part.stands run) (g.T.Part.net run).end
    (λ p. length (g.T.Part.borders run p)) (g.T.Part.net run).parts xs) (sym c.into_parts.ensures)
    (running_each g.T.Part.nothing (g.T.Part.net run) (g.T.Part.borders run) g.T.Part.see (g.T.Part.stands run) g.T.Part.spent
    (g.T.Part.right run)
    _ _ _ _ _ _ c.requires.running)
