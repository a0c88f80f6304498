use Rattle.std.proofs.Common.{◌<◌, ◌^◌, length, sym, ◌∙◌}
use Rattle.events.proofs.NameSets.{texts, adds_new, adds_held, names_new}
use Rattle.events.proofs.names.Names.add.Goals as goal

pub invariant_of-self-then-new : goal.invariant_of-self-then-new
invariant_of-self-then-new c =
    let room : length (texts c.self.inside.set.keys) < 2 ^ 31 = rw c.self.view_is c.requires in
    names_new c.self.inside.set.keys c.insert_full.new.self.keys c.name.inside.bytes c.self.invariant c.name.invariant room (sym c.if-new.true ∙ c.in-Ok.ensures.added) c.in-Ok.ensures.keys

pub returns-then-new : goal.returns-then-new
returns-then-new c =
    let fact = adds_new c.self.inside.set.keys c.insert_full.new.self.keys c.name.inside.bytes c.in-Ok.found.0 (sym c.if-new.true ∙ c.in-Ok.ensures.added) c.in-Ok.ensures.keys c.in-Ok.ensures.index in
    rw (← c.self.view_is, ← c.name.view_is) fact

pub returns : goal.returns
returns c =
    let fact = adds_held c.self.inside.set.keys c.insert_full.new.self.keys c.name.inside.bytes c.in-Ok.found.0 (sym c.if-new.false ∙ c.in-Ok.ensures.added) c.in-Ok.ensures.keys c.in-Ok.ensures.index in
    rw (← c.self.view_is, ← c.name.view_is) fact
