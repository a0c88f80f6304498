-- TimeMutation: a plan whose activities end at other seconds.
use Rattle.std.specs.{Int.int_max, Int.RustNames.unsigned_abs, List.enumerate_from}
use Rattle.std.specs.Prelude.{ℕ, ◌+◌, min, List, map, option_map, ℤ, pos, neg_ℤ, ◌+ℤ◌}
use Rattle.draws.specs.{Choices.between, Words.Source, Words.word}
use Rattle.rows.specs.{PlanRows.PlanRows, declared.plan.Act.Act}
use Rattle.replanning.specs.declared.acts.TheConstants.{FIRST_ACT_WORD}

-- a second moved by so many seconds, raised to 0 and cut to the end of the day
abbrev pub moved : ℕ → ℤ → ℕ → ℕ
moved end by second = min end (unsigned_abs (int_max (pos 0) (pos second +ℤ by)))

-- by how many seconds the end of the activity at a place is moved: from a range down to a range up, by the word of the place
abbrev pub move_of : ℕ → Source → ℕ → ℤ
move_of range words place = between (neg_ℤ (pos range)) (pos range) (word words (FIRST_ACT_WORD + place))

-- an activity, with its place, whose planned end is moved; the last one has none
abbrev pub moved_act : ℕ → ℕ → Source → ℕ × Act → Act
moved_act range end words act =
    record { kind = act.1.kind; link = act.1.link; end = option_map (moved end (move_of range words act.0)) act.1.end }

-- all activities of a plan
unfoldable pub moved_acts : ℕ → ℕ → Source → List Act → List Act
moved_acts range end words acts = map (moved_act range end words) (enumerate_from 0 acts)

-- the plan with these ends
abbrev pub mutated_plan : ℕ → ℕ → Source → PlanRows → PlanRows
mutated_plan range end words plan = record { acts = moved_acts range end words plan.acts; legs = plan.legs }
