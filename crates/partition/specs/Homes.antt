-- In which partition of its network each person begins a day.
use Rattle.std.specs.Prelude.{ℕ, List, map}
use Rattle.rows.specs.PlanRows.{PlanRows, act_in}
use Rattle.traffic.specs.Setup.{Setup}
use Rattle.parts.specs.Owners.{Owner, owner_of}

-- the partition that has the link of a plan's first activity
abbrev pub home_of : Setup → Owner → PlanRows → ℕ
home_of S own plan = owner_of S own (act_in plan 0).link

-- that of each person's chosen plan, by number
abbrev pub homes_of : Setup → Owner → List ℕ
homes_of S own = map (home_of S own) S.persons
