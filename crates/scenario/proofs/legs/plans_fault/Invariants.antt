use Rattle.scenario.proofs.Common.{◌≡◌, map, ◌<◌, ◌^◌, drop, All, plan_rows, leg_checks_of, plans_fault}
use Rattle.scenario.proofs.legs.plans_fault.Given as goal

-- the first fault of the plans that are left is that of all
abbrev pub invariant-loop-plan : goal.invariant-loop-plan
invariant-loop-plan l = record {
  same : plans_fault (leg_checks_of l.numbering l.schedule) l.rest (drop l.plan-index (map plan_rows l.plans))
      ≡ plans_fault (leg_checks_of l.numbering l.schedule) l.rows (map plan_rows l.plans);
  early : All (λ row. row < 2 ^ 30) l.rest;
}
