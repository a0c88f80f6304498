-- What an event makes of a scorer, and what is added at the end.
use Rattle.std.specs.Prelude.{ℕ, ◌+◌, ◌-◌, Bool, true, false, nat_eq, Option, None, Some, List, if◌then◌else◌, ℤ, pos, ◌+ℤ◌, ◌*ℤ◌}
use Rattle.events.specs.declared.event.{More.More, Word.Word}
use Rattle.events.specs.declared.event.More.TheVariants as more
use Rattle.events.specs.declared.event.Word.TheVariants as word
use Rattle.scoring.specs.Tables.{ScoringRows, activity_worth, leg_worth, seconds_late}
use Rattle.scoring.specs.declared.{TheConstants.SCORING_DAY, scorer.Doing.Doing, scorer.Scorer.Scorer, table.Table.Table}
use Rattle.scoring.specs.declared.scorer.Doing.TheVariants as doing

-- an activity ends: of the first one it is kept when, any other one is worth what it took
abbrev pub with_activity_ended : List Table → Scorer → ℕ → Doing → Option ℕ → Scorer
with_activity_ended tables s second (doing.Activity kind since) None = record s { first_end = Some second; doing = doing.Leaving }
with_activity_ended tables s second (doing.Activity kind since) (Some left) =
    record s { doing = doing.Leaving; sum = s.sum +ℤ activity_worth tables kind (second - since) }
with_activity_ended tables s second _ _ = s

-- a leg departs
abbrev pub with_leg_begun : Scorer → ℕ → More → Scorer
with_leg_begun s second (more.Mode mode) = record s { doing = doing.Leg mode second }
with_leg_begun s second _ = s

-- a leg ends: the person arrives or is stuck, and something is paid besides
abbrev pub with_leg_ended : ScoringRows → Scorer → ℕ → ℤ → Doing → Doing → Scorer
with_leg_ended tables s second paid next (doing.Leg mode since) =
    record s { doing = next; sum = s.sum +ℤ (leg_worth tables.modes mode (second - since) +ℤ paid) }
with_leg_ended tables s second paid next _ = s

-- an activity starts, maybe late
abbrev pub with_activity_begun : ScoringRows → Scorer → ℕ → More → Scorer
with_activity_begun tables s second (more.Kind kind) =
    record s { doing = doing.Activity kind second; sum = s.sum +ℤ tables.late_per_second *ℤ pos (seconds_late tables.tables kind second) }
with_activity_begun tables s second _ = s

-- the scorer behind an event
abbrev pub with_event : ScoringRows → Scorer → Word → More → ℕ → Scorer
with_event tables s word.ActEnd more second = with_activity_ended tables.tables s second s.doing s.first_end
with_event tables s word.Departure more second = with_leg_begun s second more
with_event tables s word.Arrival more second = with_leg_ended tables s second (pos 0) doing.Arriving s.doing
with_event tables s word.ActStart more second = with_activity_begun tables s second more
with_event tables s word.StuckAndAbort more second = with_leg_ended tables s second tables.stuck doing.Stuck s.doing
with_event tables s _ more second = s

-- what the first activity and one that has not ended are worth: one over midnight, or each by itself
abbrev pub last_worth : List Table → ℕ → Option ℕ → Doing → ℤ
last_worth tables first None (doing.Activity kind since) = activity_worth tables kind (SCORING_DAY - since)
last_worth tables first None _ = pos 0
last_worth tables first (Some left) (doing.Activity kind since) =
    if nat_eq kind first then activity_worth tables first (SCORING_DAY + left - since)
    else activity_worth tables first left +ℤ activity_worth tables kind (SCORING_DAY - since)
last_worth tables first (Some left) _ = activity_worth tables first left

-- whether an event comes next: in turn, with what it is scored by
abbrev pub is_next : Word → More → Doing → Bool
is_next word.ActEnd more (doing.Activity kind since) = true
is_next word.ActEnd more _ = false
is_next word.Departure (more.Mode mode) doing.Leaving = true
is_next word.Departure _ _ = false
is_next word.Arrival more (doing.Leg mode since) = true
is_next word.Arrival more _ = false
is_next word.ActStart (more.Kind kind) doing.Arriving = true
is_next word.ActStart _ _ = false
is_next word.StuckAndAbort more (doing.Leg mode since) = true
is_next word.StuckAndAbort more _ = false
is_next _ _ _ = true
