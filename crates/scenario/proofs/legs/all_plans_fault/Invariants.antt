use Rattle.scenario.proofs.Common.{◌≡◌, ◌<◌, ◌^◌, drop, All, all_plan_rows, leg_checks_of, all_plans_fault}
use Rattle.scenario.proofs.legs.all_plans_fault.Given as goal

-- the first fault of the plans that are left is that of all
abbrev pub invariant-loop-own : goal.invariant-loop-own
invariant-loop-own l = record {
  same : all_plans_fault (leg_checks_of l.numbering l.schedule) l.rest (drop l.own-index (all_plan_rows l.plans))
      ≡ all_plans_fault (leg_checks_of l.numbering l.schedule) l.rows (all_plan_rows l.plans);
  early : All (λ row. row < 2 ^ 30) l.rest;
}
