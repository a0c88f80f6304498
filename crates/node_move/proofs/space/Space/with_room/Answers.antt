use Rattle.std.proofs.Common.{ap, List, length, arith}
use Rattle.std.specs.Prelude.{None}
use Rattle.node_move.proofs.{Blocks.no_blocks, Entries.none_there, Entries.places_are, Entries.holes_are}
use Rattle.node_move.specs.{Entries.rows_of, declared.space.Entry.Entry}
use Rattle.node_move.proofs.space.Space.with_room.Goals as goal

pub returns-clause-places : goal.returns-clause-places
returns-clause-places c = λ m.
    let n = ap (λ (es : List Entry). length es) c.in_ok-entries.ensures.items in
    places_are (rows_of c.new.result.items c.in_ok-entries.entries.items) m None (none_there c.new.result.items c.in_ok-entries.entries.items m (omega arith))

pub returns-clause-holes : goal.returns-clause-holes
returns-clause-holes c = λ m.
    let n = ap (λ (es : List Entry). length es) c.in_ok-entries.ensures.items in
    holes_are (rows_of c.new.result.items c.in_ok-entries.entries.items) m None (none_there c.new.result.items c.in_ok-entries.entries.items m (omega arith))

pub invariant_of-result : goal.invariant_of-result
invariant_of-result c = rw (c.in_ok-entries.ensures.items) (no_blocks c.new.result.items)
