use Rattle.std.proofs.Common.{sym}
use Rattle.std.specs.Prelude.{None, Some}
use Rattle.node_move.proofs.Entries.{found_there, none_read, places_are}
use Rattle.node_move.specs.Entries.{rows_of}
use Rattle.node_move.proofs.space.Space.places.Goals as goal

pub returns-in-None : goal.returns-in-None
returns-in-None c =
    rw (← c.self.view_is) (sym (places_are (rows_of c.self.inside.starts.items c.self.inside.entries.items) c.args.link None
    (none_read c.self.inside.starts.items c.deref.result.now c.self.inside.entries.items c.deref-2.result.now c.args.link c.deref.ensures.value c.deref-2.ensures.value c.in-None.ensures)))

pub returns-in-Some : goal.returns-in-Some
returns-in-Some c =
    rw (← c.self.view_is) (sym (places_are (rows_of c.self.inside.starts.items c.self.inside.entries.items) c.args.link (Some c.index.result.now)
    (found_there c.self.inside.starts.items c.deref.result.now c.self.inside.entries.items c.deref-2.result.now c.args.link c.in-Some.number c.index.result.now
    c.deref.ensures.value c.deref-2.ensures.value c.in-Some.ensures c.index.ensures)))
