use Rattle.std.proofs.Common.{◌∙◌, ap}
use Rattle.law_in_range.proofs.Days.{one_each}
use Rattle.part_persons.proofs.Beginning.{begun, begun_fit}
use Rattle.town.specs.Views.{setup}
use Rattle.traffic.specs.Rows.{World}
use Rattle.part_persons.proofs.persons.Persons.new.Goals as goal

pub first_wakes-requires-clause-plans : goal.first_wakes-requires-clause-plans
first_wakes-requires-clause-plans c =
    one_each c.args.day.now _
    (begun_fit c.args.day.now c.args.homes.now c.args.partition _ _ c.requires.given c.in_ok-rows.ensures c.start_with-world.ensures)

pub returns-clause-world : goal.returns-clause-world
returns-clause-world c = λ own e.
    begun (setup c.args.day.now) own c.args.homes.now c.args.partition _ _ e c.in_ok-rows.ensures c.start_with-world.ensures

pub returns-clause-fit : goal.returns-clause-fit
returns-clause-fit c = begun_fit c.args.day.now c.args.homes.now c.args.partition _ _ c.requires.given c.in_ok-rows.ensures c.start_with-world.ensures

pub first_wakes-requires-clause-rows : goal.first_wakes-requires-clause-rows
first_wakes-requires-clause-rows c = ap (λ (W : World). W.persons) c.start_with-world.ensures ∙ c.in_ok-rows.ensures
