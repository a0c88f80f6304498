use Rattle.std.proofs.Common.{ap, refl}
use Rattle.traffic.specs.Rows.{World, nobody}
use Rattle.part_persons.proofs.Told.{idle_followed}
use Rattle.part_persons.proofs.persons.Persons.give_out.Goals as goal

pub returns-clause-followed : goal.returns-clause-followed
returns-clause-followed c = λ S end t h.
    idle_followed S end t c.args.person nobody c.args.self.now.world.persons _ c.args.self.now.wakes (λ j. refl)
    (ap (λ (W : World). W.persons) c.take_out.ensures) h
