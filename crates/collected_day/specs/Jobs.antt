-- What is done at the same time.
use Rattle.std.specs.Prelude.{⊤, ◌≡◌, ℕ, ◌+◌, ◌-◌, ◌<◌, ◌≤◌, List}
use Rattle.events.specs.{Lines.AreInBook, declared.event.Book.Book, declared.event.Event.Event}
use Rattle.partition.specs.declared.owner.Owner.{Owner}
use Rattle.scoring.specs.Tables.{ScoringRows}
use Rattle.step_core.specs.{Nets.Net, Views.PartView, declared.part.Border.Border}
use Rattle.streamed_day.specs.Coming.{seconds_from}
use Rattle.town.specs.{Views.setup, declared.day_input.DayInput.DayInput}
use Rattle.collected_day.specs.{Spans.IsUnderWay, Taking.IsTaking, Taking.HasTaken, Taking.CanHandleMore}
use Rattle.collected_day.specs.declared.{jobs.Job.Job, spans.TheConstants.SPAN_SECONDS}
use Rattle.collected_day.specs.declared.jobs.Job.TheVariants as job

-- one span more was done, or what was left of a day of so many seconds
pub record HasRunSpan (end old_second new_second : ℕ) : Type 0 where
  pub later : old_second < new_second
  pub within : new_second ≤ end
  pub short : new_second ≤ old_second + SPAN_SECONDS
  pub whole : new_second < end → new_second ≡ old_second + SPAN_SECONDS

module _ {S T R P : Type 0} (net : R → Net) (borders : R → ℕ → List Border) (nothing : P) (see : T → PartView P)
    (stands : R → T → Type 0) (spent : T → Type 0) (right : R → ℕ → ℕ → ℕ → P → Type 0) (run : R)
    (told : ℕ → ℕ → List Event) (day : DayInput) (owner : Owner) (second : ℕ) (scoring : ScoringRows) (book : Book) where
  -- the partitions of a run have seconds left, or what they told up to this second can be taken
  abbrev pub CanBeDone : Job S T R P → Type 0
  CanBeDone (job.Run partitions) = IsUnderWay net borders nothing see stands spent right run partitions.second partitions.running
      × (partitions.second < (net run).end)
  CanBeDone (job.Take taking) = IsTaking told day owner (net run).end second taking
      × AreInBook (seconds_from (setup day) taking.second (second - taking.second)) book
      × CanHandleMore scoring (seconds_from (setup day) taking.second (second - taking.second)) taking.handler
  CanBeDone job.Spent = ⊤

  -- what came of it: the partitions have done a span, or that was taken, or memory was wanting
  abbrev pub IsDone : Job S T R P → Job S T R P → Type 0
  IsDone old job.Spent = ⊤
  IsDone (job.Run old) (job.Run new) = IsUnderWay net borders nothing see stands spent right run new.second new.running
      × HasRunSpan (net run).end old.second new.second
  IsDone (job.Take old) (job.Take new) = HasTaken told day owner (net run).end second scoring book old new
  IsDone old new = ⊥
