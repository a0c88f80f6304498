-- What is seen of the day of an iteration.
use Rattle.traffic.proofs.Common.{◌≡◌, ℕ, List, ◌∙◌, length, ap, refl, sym, subst, length-map, map, Event, PlanRows, plan_rows, day}
use Rattle.std.{proofs.Common.subst₂, specs.List.list_all, specs.Prelude.true}
use Rattle.events.specs.declared.event.Book.{Book}
use Rattle.day_scores.specs.Scores.{first_kind, scores_of}
use Rattle.travel_times.specs.{Known.Knows, Observed.AreOnLinks}
use Rattle.law_in_range.specs.Setups.{HaveFittingPlans}
use Rattle.event_handler.specs.{Counts.AreCounted, Handling.links_seen, Handling.IsSeen, declared.handling.SeenDay.SeenDay}
use Rattle.plan_memory.specs.Memories.{MemoryRows}
use Rattle.town.specs.{Fits.fits, Rows.TownRows, Setups.setup_of, Views.rows_of, Views.chosen_in, Views.setup, declared.day_input.DayInput.DayInput}
use Rattle.iterations.proofs.{Marked.plans_fit, Marked.plans_count, ScoredDays.scores_each}
use Rattle.iterations.specs.{Days.followed_plans, Days.events_of, Days.scores_in, Runs.RunRows, Runs.CanRun, Scored.IsSeenOf, Texts.events_text}
use Rattle.written_day.proofs.Handled.{day_on_links}

module _ (R : RunRows) (k : ℕ) (memories : List MemoryRows) (d : DayInput) (town_is : rows_of d.town.now ≡ R.town)
    (chosen_is : chosen_in d ≡ followed_plans memories) (iteration_is : d.iteration ≡ k) (can : CanRun R memories) where
  book_is : d.town.now.book ≡ R.town.book
  book_is = ap (λ (T : TownRows). T.book) town_is

  pub given : HaveFittingPlans d
  given = record {
    each =
        ap (λ (T : TownRows). length T.book.persons) town_is ∙ plans_count R memories (chosen_in d) can chosen_is
        ∙ length-map d.chosen.now plan_rows;
    fit = subst (λ (T : TownRows). list_all (fits T) (chosen_in d) ≡ true) (sym town_is) (plans_fit R memories (chosen_in d) can chosen_is);
  }

  pub events_are : day (setup d) ≡ events_of R k memories
  unfolding events_of
  events_are =
      ap (λ (T : TownRows). day (setup_of T (chosen_in d) d.iteration)) town_is
      ∙ ap (λ (ps : List PlanRows). day (setup_of R.town ps d.iteration)) chosen_is
      ∙ ap (λ (i : ℕ). day (setup_of R.town (followed_plans memories) i)) iteration_is

  pub text_is : events_text d.iteration (day (setup d)) d.town.now.book ≡ events_text k (events_of R k memories) R.town.book
  text_is =
      ap (λ (i : ℕ). events_text i (day (setup d)) d.town.now.book) iteration_is
      ∙ ap (λ (es : List Event). events_text k es d.town.now.book) events_are
      ∙ ap (λ (b : Book). events_text k (events_of R k memories) b) book_is

  pub seen_is : (seen : SeenDay) → links_seen seen ≡ length d.town.now.network.links
      → IsSeen R.scoring (map first_kind (chosen_in d)) (day (setup d)) seen → IsSeenOf R k memories seen
  unfolding scores_in
  seen_is seen ls s =
      let own : map first_kind (chosen_in d) ≡ map first_kind (followed_plans memories) = ap (map first_kind) chosen_is in
      let count : length d.town.now.network.links ≡ length R.town.links = ap (λ (T : TownRows). length T.links) town_is in
      record {
        scores =
            s.scores ∙ ap (λ (l : List ℕ). scores_of R.scoring l (day (setup d))) own
            ∙ ap (λ (es : List Event). scores_of R.scoring (map first_kind (followed_plans memories)) es) events_are;
        each =
            scores_each R.scoring (followed_plans memories) (map first_kind (chosen_in d)) (day (setup d)) seen.scores.items own s.scores
            ∙ sym (plans_count R memories (followed_plans memories) can refl);
        within = s.within;
        observed = record {
          known = subst (λ (es : List Event). Knows seen.known es) events_are s.known;
          count = ls ∙ count;
          on_links = subst₂ (λ (n : ℕ) (es : List Event). AreOnLinks n es) (sym ls) events_are (day_on_links d given);
        };
        counts = subst (λ (es : List Event). AreCounted seen.counts es) events_are s.counts;
      }
