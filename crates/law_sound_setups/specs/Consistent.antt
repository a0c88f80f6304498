-- Setups whose plans and calls are on the links that they name.
use Rattle.std.specs.Prelude.{◌≡◌, ℕ, ◌+◌, ◌-◌, ◌<◌, ◌≤◌, List, [], length, get_or, All, None}
use Rattle.events.specs.declared.lists.StopCall.{StopCall}
use Rattle.rows.specs.{PlanRows.PlanRows, declared.plan.Act.Act, declared.plan.Leg.Leg}
use Rattle.rows.specs.declared.plan.Leg.TheVariants as leg
use Rattle.traffic.specs.Setup.{Setup, Departure, link_of_stop}

-- A leg leads from this link to that one: a route begins on the one and ends on the other, and so the stops of a transit leg lie; a
-- teleported leg takes a second or more.
abbrev pub LeadsFrom : Setup → ℕ → ℕ → Leg → Type 0
LeadsFrom S here there (leg.Car route) = (get_or route 0 0 ≡ here) × (get_or route (length route - 1) 0 ≡ there)
LeadsFrom S here there (leg.Teleport mode seconds) = 1 ≤ seconds
LeadsFrom S here there (leg.Transit line access egress) = (link_of_stop S access ≡ here) × (link_of_stop S egress ≡ there)

-- the link of the k-th of these activities
abbrev pub link_of_act : List Act → ℕ → ℕ
link_of_act acts k = (get_or acts k (record { kind = 0; link = 0; end = None })).link

-- each leg of a plan leads from the link of the activity before it to that of the one after it
abbrev pub IsConsistentPlan : Setup → PlanRows → Type 0
IsConsistentPlan S plan =
    (k : ℕ) → k < length plan.legs
    → LeadsFrom S (link_of_act plan.acts k) (link_of_act plan.acts (k + 1)) (get_or plan.legs k (leg.Car []))

-- these calls are on the links of their stops
abbrev pub AreAtStops : Setup → List StopCall → Type 0
AreAtStops S calls = All (λ (c : StopCall). link_of_stop S c.stop ≡ c.link) calls

pub record IsConsistentSetup (S : Setup) : Type 0 where
  -- the chosen plan of each person is consistent
  pub persons : All (IsConsistentPlan S) S.persons
  -- so are the calls of each departure
  pub departures : All (λ (d : Departure). AreAtStops S d.calls) S.departures
