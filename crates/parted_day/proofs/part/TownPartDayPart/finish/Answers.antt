use Rattle.std.proofs.Common.{ℕ, subst}
use Rattle.partition.specs.Owned.{owner_in}
use Rattle.town.specs.Views.{setup}
use Rattle.law_parcels.specs.Worlds.{world_held}
use Rattle.parts.specs.Parts.{held}
use Rattle.parted_day.{proofs.Telling.told_in_all, specs.Strays.AreStrays}
use Rattle.part_seconds.specs.Stands.{AreaStands}
use Rattle.parted_day.proofs.part.TownPartDayPart.finish.Goals as goal

pub end_events-requires-clause-there : goal.end_events-requires-clause-there
end_events-requires-clause-there c = c.requires.there

pub end_events-requires-clause-stands : goal.end_events-requires-clause-stands
end_events-requires-clause-stands c =
    let day = c.args.run.now.day.now in
    let own = owner_in c.args.run.now.owner.now.of_node in
    let p = c.args.self.number in
    subst (λ (n : ℕ). AreaStands day own p n n n c.args.self.area (held (setup day) own p n) (world_held (setup day) own p n))
    c.requires.at.seconds c.requires.at.holds.stands

pub end_events-requires-clause-strays : goal.end_events-requires-clause-strays
end_events-requires-clause-strays c =
    let run = c.args.run.now in
    subst (λ (n : ℕ). AreStrays (setup run.day.now) (owner_in run.owner.now.of_node) run.owner.now.parts c.args.self.number n
    c.args.self.strays.items) c.requires.at.seconds c.requires.at.holds.stray

pub returns : goal.returns
returns c =
    let run = c.args.run.now in
    let part = c.args.self in
    told_in_all run.streams run.day.now run.owner.now part.number part.done part.told.events.items c.in_ok-ended.ended.items
    c.in_ok-rows.rows.items c.requires.at.seconds c.requires.at.holds.events c.in_ok-ended.ensures c.in_ok-rows.ensures
