-- What is due to be taken.
use Rattle.std.proofs.Common.{◌≡◌, ℕ, ◌+◌, ◌-◌, ◌*◌, ◌<◌, ◌≤◌, List, [], ◌∷◌, ◌++◌, arith, sym, ◌∙◌, ap, subst, append-nil}
use mathlib.Core.Logic.{dite}
use native.Mathlib.Decide.{dec_lt}
use Rattle.events.specs.declared.event.Event.{Event}
use Rattle.event_handler.specs.{Handling.HasHandled, declared.handling.EventHandler.EventHandler}
use Rattle.event_pipe.specs.{Pieces.label, Pipes.parts, Pipes.gathered}
use Rattle.law_in_range.specs.Setups.{HaveFittingPlans}
use Rattle.partition.specs.declared.owner.Owner.{Owner}
use Rattle.scoring.specs.Tables.{ScoringRows}
use Rattle.streamed_day.specs.Coming.{seconds_from}
use Rattle.town.specs.{Views.setup, declared.day_input.DayInput.DayInput}
use Rattle.traffic.specs.Setup.{Setup}
use Rattle.collected_day.specs.{Jobs.HasRunSpan, Streams.TellsOf, Streams.IsComing, Streams.span_length, Taking.IsTaking, Taking.HasHandledMore}
use Rattle.collected_day.specs.declared.{spans.TheConstants.SPAN_SECONDS, taking.Taking.Taking}

-- nothing is
pub none_due : (S : Setup) (w t : ℕ) → t ≤ w → seconds_from S w (t - w) ≡ []
unfolding seconds_from
none_due S w t past = let e : t - w ≡ 0 = omega arith in ap (seconds_from S w) e

pub none_handled : (scoring : ScoringRows) (events : List Event) (handler : EventHandler) → events ≡ []
    → HasHandledMore scoring events handler handler
none_handled scoring events handler none taken rest has can =
    subst (HasHandled scoring handler) (sym (append-nil taken) ∙ ap (λ l. taken ++ l) (sym none)) has

module _ {S : Type 0} (told : ℕ → ℕ → List Event) (day : DayInput) (owner : Owner) (end t : ℕ) (x : Taking S)
    (h : IsTaking told day owner end t x) where
  -- the next span is
  pub due_is : x.second < t → seconds_from (setup day) (h.spans * SPAN_SECONDS) (span_length end h.spans)
      ≡ seconds_from (setup day) x.second (t - x.second)
  due_is later =
      let first = h.begins (h.early later) in
      let last = h.due later in
      let long : span_length end h.spans ≡ t - x.second = omega arith in
      ap (λ s. seconds_from (setup day) s (span_length end h.spans)) (sym first) ∙ ap (seconds_from (setup day) x.second) long

  -- once it was taken
  pub taken_next : x.second < t → (y : Taking S) → y.second ≡ t → IsComing told day owner end (h.spans + 1) y.gather
      → IsTaking told day owner end t y
  taken_next later y at coming =
      let first = h.begins (h.early later) in
      let last = h.due later in
      record {
        spans = h.spans + 1;
        coming = coming;
        begins = λ lt. omega arith;
        ended = λ over. omega arith;
        due = λ lt. absurd (omega arith);
        early = λ lt. absurd (omega arith);
        within = omega arith;
      }

-- all before a second was taken, and one span more was done
pub due_next : {S : Type 0} (told : ℕ → ℕ → List Event) (day : DayInput) (owner : Owner) (end t v : ℕ) (x : Taking S)
    → IsTaking told day owner end t x → x.second ≡ t → t < end → HasRunSpan end t v → IsTaking told day owner end v x
due_next told day owner end t v x h at early ran =
    let begins = h.begins (omega arith) in
    let later = ran.later in
    let within = ran.within in
    let short = ran.short in
    record {
      spans = h.spans;
      coming = h.coming;
      begins = h.begins;
      ended = h.ended;
      due = λ lt. dite (dec_lt v end) (λ before. (let whole = ran.whole before in omega arith)) (λ last. omega arith);
      early = λ lt. omega arith;
      within = omega arith;
    }

-- of a day before its first second nothing was
pub first_taking : {S : Type 0} (told : ℕ → ℕ → List Event) (day : DayInput) (owner : Owner) (end : ℕ) (x : Taking S)
    → HaveFittingPlans day → TellsOf told day owner end → parts x.gather ≡ owner.parts
    → ((p : ℕ) → p < owner.parts → gathered x.gather p ≡ label p ∷ []) → x.second ≡ 0 → IsTaking told day owner end 0 x
first_taking told day owner end x given tells many labels first = record {
  spans = 0;
  coming = record { given = given; tells = tells; has = record { many = many; pieces = labels } };
  begins = λ lt. first;
  ended = λ over. omega arith;
  due = λ lt. absurd (omega arith);
  early = λ lt. absurd (omega arith);
  within = omega arith;
}
