use Rattle.law_in_range.proofs.{Days.chosen_fit, Towns.town_sound_fit}
use Rattle.plain_day.proofs.days.plain_second.Goals as goal

pub fit_second-requires-clause-fit : goal.fit_second-requires-clause-fit
fit_second-requires-clause-fit c =
    let given = c.requires.given in
    town_sound_fit c.args.day.now c.args.world.now (chosen_fit c.args.day.now given) given.each c.requires.links c.requires.one_place c.requires.sound
