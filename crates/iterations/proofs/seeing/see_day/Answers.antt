use Rattle.traffic.proofs.Common.{ℕ, List, ◌∙◌, ap, length, map, plan_rows, Plan}
use Rattle.std.proofs.Common.{ℤ}
use Rattle.day_scores.specs.Texts.{scores_text}
use Rattle.town.specs.{Views.rows_of, declared.town.Town.Town}
use Rattle.iterations.proofs.{Outside.none_done, Outside.one_then, Outside.first_failed, Outside.done_with, Outside.failed_as, SeenDays.given, SeenDays.seen_is}
use Rattle.iterations.{proofs.SeenDays.text_is, proofs.Streamed.other_text, specs.Acts.chosen_numbers, specs.Scored.IsSeenOf, specs.Views.run_rows}
use Rattle.iterations.proofs.seeing.see_day.Goals as goal

pub returns-in_default-clause-performed : goal.returns-in_default-clause-performed
returns-in_default-clause-performed g c = none_done _ _

pub returns-in_default-chosen_numbers-clause-performed : goal.returns-in_default-chosen_numbers-clause-performed
returns-in_default-chosen_numbers-clause-performed g c = none_done _ _

pub write_events-requires-clause-given : goal.write_events-requires-clause-given
write_events-requires-clause-given g c κs within =
    given (run_rows c.args.run.now) c.args.iteration c.args.memories.now c.day_of-day.result
    (ap (λ (t : Town). rows_of t) c.day_of-day.ensures.town)
    (ap (λ (ps : List Plan). map plan_rows ps) (c.day_of-day.ensures.chosen ∙ c.deref.ensures.value) ∙ c.in-Ok.ensures)
    c.day_of-day.ensures.iteration c.requires

pub returns-in-Err-clause-performed : goal.returns-in-Err-clause-performed
returns-in-Err-clause-performed g c =
    first_failed _ _ _ _ _ (other_text _ _ _ _ _ _
    (text_is (run_rows c.args.run.now) c.args.iteration c.args.memories.now c.day_of-day.result
    (ap (λ (t : Town). rows_of t) c.day_of-day.ensures.town)
    (ap (λ (ps : List Plan). map plan_rows ps) (c.day_of-day.ensures.chosen ∙ c.deref.ensures.value) ∙ c.in-Ok.ensures)
    c.day_of-day.ensures.iteration c.requires)
    c.in-Err.ensures.performed)

pub returns-in-Ok-write_scores-clause-performed : goal.returns-in-Ok-write_scores-clause-performed
returns-in-Ok-write_scores-clause-performed g c =
    let R = run_rows c.args.run.now in
    let k = c.args.iteration in
    let ms = c.args.memories.now in
    let persons = c.args.run.now.town.now.book.persons in
    let town_is = ap (λ (t : Town). rows_of t) c.day_of-day.ensures.town in
    let chosen_is = ap (λ (ps : List Plan). map plan_rows ps) (c.day_of-day.ensures.chosen ∙ c.deref.ensures.value) ∙ c.in-Ok.ensures in
    let seen : IsSeenOf R k ms c.in-Ok-write_events.seen =
    seen_is R k ms c.day_of-day.result town_is chosen_is c.day_of-day.ensures.iteration
    c.requires c.in-Ok-write_events.seen
    c.in-Ok-write_events.ensures.links c.in-Ok-write_events.ensures.seen in
    done_with _ _ _ tt _ (one_then _ _ _ _ _ _ _ (other_text _ _ _ _ _ _
    (text_is R k ms c.day_of-day.result town_is chosen_is c.day_of-day.ensures.iteration
    c.requires) c.in-Ok-write_events.ensures.performed)
    (other_text _ _ _ _ _ _
    (ap (λ (ns : List ℕ). scores_text k persons ns c.deref-2.result.now) (c.deref-3.ensures.value ∙ c.in-Ok-chosen_numbers.ensures)
    ∙ ap (λ (ss : List ℤ). scores_text k persons (chosen_numbers ms) ss) (c.deref-2.ensures.value ∙ seen.scores))
    c.in-Ok-write_scores.ensures.performed))

pub returns-clause-performed : goal.returns-clause-performed
returns-clause-performed g c =
    let R = run_rows c.args.run.now in
    let k = c.args.iteration in
    let ms = c.args.memories.now in
    let persons = c.args.run.now.town.now.book.persons in
    let town_is = ap (λ (t : Town). rows_of t) c.day_of-day.ensures.town in
    let chosen_is = ap (λ (ps : List Plan). map plan_rows ps) (c.day_of-day.ensures.chosen ∙ c.deref.ensures.value) ∙ c.in-Ok.ensures in
    let seen : IsSeenOf R k ms c.in-Ok-write_events.seen =
    seen_is R k ms c.day_of-day.result town_is chosen_is c.day_of-day.ensures.iteration
    c.requires c.in-Ok-write_events.seen
    c.in-Ok-write_events.ensures.links c.in-Ok-write_events.ensures.seen in
    failed_as _ _ _ _ (one_then _ _ _ _ _ _ _ (other_text _ _ _ _ _ _
    (text_is R k ms c.day_of-day.result town_is chosen_is c.day_of-day.ensures.iteration
    c.requires) c.in-Ok-write_events.ensures.performed)
    (other_text _ _ _ _ _ _
    (ap (λ (ns : List ℕ). scores_text k persons ns c.deref-2.result.now) (c.deref-3.ensures.value ∙ c.in-Ok-chosen_numbers.ensures)
    ∙ ap (λ (ss : List ℤ). scores_text k persons (chosen_numbers ms) ss) (c.deref-2.ensures.value ∙ seen.scores))
    c.in-Err-write_scores.ensures.performed))

pub write_scores-requires-clause-each_score : goal.write_scores-requires-clause-each_score
write_scores-requires-clause-each_score g c =
    let seen : IsSeenOf (run_rows c.args.run.now) c.args.iteration c.args.memories.now c.in-Ok-write_events.seen =
    seen_is (run_rows c.args.run.now) c.args.iteration c.args.memories.now c.day_of-day.result
    (ap (λ (t : Town). rows_of t) c.day_of-day.ensures.town)
    (ap (λ (ps : List Plan). map plan_rows ps) (c.day_of-day.ensures.chosen ∙ c.deref.ensures.value) ∙ c.in-Ok.ensures)
    c.day_of-day.ensures.iteration c.requires c.in-Ok-write_events.seen
    c.in-Ok-write_events.ensures.links c.in-Ok-write_events.ensures.seen in
    ap (λ (ss : List ℤ). length ss) c.deref-2.ensures.value ∙ seen.each

pub returns-in-Ok-write_scores-clause-seen : goal.returns-in-Ok-write_scores-clause-seen
returns-in-Ok-write_scores-clause-seen g c =
    seen_is (run_rows c.args.run.now) c.args.iteration c.args.memories.now c.day_of-day.result
    (ap (λ (t : Town). rows_of t) c.day_of-day.ensures.town)
    (ap (λ (ps : List Plan). map plan_rows ps) (c.day_of-day.ensures.chosen ∙ c.deref.ensures.value) ∙ c.in-Ok.ensures)
    c.day_of-day.ensures.iteration c.requires c.in-Ok-write_events.seen
    c.in-Ok-write_events.ensures.links c.in-Ok-write_events.ensures.seen
