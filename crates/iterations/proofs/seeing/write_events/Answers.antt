use Rattle.std.proofs.Common.{List, ℕ, ◌++◌, sym, ap}
use Rattle.events.specs.Lines.{event_lines}
use Rattle.town.specs.Views.{setup}
use Rattle.traffic.specs.Day as traffic_day
use Rattle.iterations.proofs.Outside.{none_done, text_then, text_failed}
use Rattle.iterations.{proofs.Streamed.streamed, proofs.Streamed.not_streamed_as, specs.Texts.events_text}
use Rattle.iterations.proofs.seeing.write_events.Goals as goal

pub returns-in_default-clause-performed : goal.returns-in_default-clause-performed
returns-in_default-clause-performed g c = none_done _ _

pub returns-in-Err-clause-performed : goal.returns-in-Err-clause-performed
unfolding events_text
returns-in-Err-clause-performed g c =
    let d = c.args.day.now in
    text_failed _ _ _ _ _ _ _
    (ap (λ (l : List ℕ). l ++ event_lines (traffic_day.day (setup d)) d.town.now.book) (sym c.in-Ok.ensures)) c.in-Err.ensures.performed

pub returns-in-Ok-write_day-clause-performed : goal.returns-in-Ok-write_day-clause-performed
unfolding events_text
returns-in-Ok-write_day-clause-performed g c =
    let d = c.args.day.now in
    text_then _ _ _ _ _ _ _ _ _
    (ap (λ (l : List ℕ). l ++ event_lines (traffic_day.day (setup d)) d.town.now.book) (sym c.in-Ok.ensures))
    c.in-Ok-write.ensures.performed (streamed _ _ _ _ _ _ _ _ c.in-Ok-write_day.ensures.written)

pub returns-in-Ok-write_day-clause-seen : goal.returns-in-Ok-write_day-clause-seen
returns-in-Ok-write_day-clause-seen g c = c.in-Ok-write_day.ensures.seen

pub returns-in-Ok-write_day-clause-links : goal.returns-in-Ok-write_day-clause-links
returns-in-Ok-write_day-clause-links g c = c.in-Ok-write_day.ensures.links

pub returns-in-Err-write_day-clause-performed : goal.returns-in-Err-write_day-clause-performed
unfolding events_text
returns-in-Err-write_day-clause-performed g c =
    let d = c.args.day.now in
    text_then _ _ _ _ _ _ _ _ _
    (ap (λ (l : List ℕ). l ++ event_lines (traffic_day.day (setup d)) d.town.now.book) (sym c.in-Ok.ensures))
    c.in-Ok-write.ensures.performed
    (not_streamed_as _ _ _ _ _ _ _ _ _ c.effect_error.ensures c.in-Err-write_day.ensures.written)
