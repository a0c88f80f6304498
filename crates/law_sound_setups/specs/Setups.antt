-- Setups whose days stay sound.
use Rattle.std.specs.Prelude.{◌≡◌, ◌<◌, ◌+◌, ◌==◌, ℕ, List, length, get_or, All, None}
use Rattle.rows.specs.{Plan.HasRoute, PlanRows.PlanRows, declared.plan.Act.Act}
use Rattle.traffic.specs.{Setup.Setup, Setup.Departure, Worlds.HasEnd, Worlds.AreServable}

-- the k-th activity of a plan has an end exactly where it is not the last one
abbrev pub EndsAsPlanned : List Act → ℕ → Type 0
EndsAsPlanned acts k = HasEnd (k + 1 == length acts) (get_or acts k (record { kind = 0; link = 0; end = None })).end

pub record IsSoundPlan (plan : PlanRows) : Type 0 where
  -- there is one activity more than legs
  pub one_more : length plan.acts ≡ length plan.legs + 1
  -- every activity but the last has an end, and the last has none
  pub ends : (k : ℕ) → k < length plan.acts → EndsAsPlanned plan.acts k
  -- each leg by car has a route with a link
  pub legs : All HasRoute plan.legs

pub record IsSoundRun (departure : Departure) : Type 0 where
  -- the route has a link
  pub some : 0 < length departure.route
  -- the calls can all be served in order along the route
  pub calls : AreServable departure.calls departure.route

pub record IsSoundSetup (S : Setup) : Type 0 where
  -- each person's chosen plan is sound
  pub persons : All IsSoundPlan S.persons
  -- so is each departure
  pub departures : All IsSoundRun S.departures
