use Rattle.std.proofs.Common.{◌-◌, ℕ, ap, refl, sym}
use Rattle.std.specs.Prelude.{Some}
use Rattle.node_move.proofs.Blocks.{blocks_stay}
use Rattle.node_move.proofs.Entries.{found_there, named_there, none_read, none_fewer, none_holes, replaced_there, placed_by, holes_become, holes_are}
use Rattle.node_move.specs.{Entries.rows_of, Entries.freed, Entries.fewer, Spaces.holes_in, declared.space.Entry.Entry}
use Rattle.node_move.proofs.space.Space.free_place.Goals as goal

pub returns-in-Some-clause-places : goal.returns-in-Some-clause-places
returns-in-Some-clause-places c =
    let ks = c.self.inside.starts.items in
    let es = c.self.inside.entries.items in
    let rows = rows_of ks es in
    let d : Entry = c.index.result.now in
    let was = found_there ks c.deref.result.now es c.deref-2.result.now c.args.link c.in-Some.number d c.deref.ensures.value c.deref-2.ensures.value c.in-Some.ensures c.index.ensures in
    let named = named_there c.deref.result.now es c.deref-2.result.now c.args.link c.in-Some.number d c.deref-2.ensures.value c.in-Some.ensures c.index.ensures in
    rw (← c.self.view_is, c.freed-entry.ensures) (λ m. placed_by _ rows c.args.link d (freed d) (fewer 1) m was refl
    (replaced_there ks c.deref.result.now es c.deref-2.result.now c.args.link c.in-Some.number (freed d) m named c.deref.ensures.value c.deref-2.ensures.value c.in-Some.ensures))

pub returns-in-Some-clause-holes : goal.returns-in-Some-clause-holes
returns-in-Some-clause-holes c =
    let ks = c.self.inside.starts.items in
    let es = c.self.inside.entries.items in
    let rows = rows_of ks es in
    let d : Entry = c.index.result.now in
    let was = found_there ks c.deref.result.now es c.deref-2.result.now c.args.link c.in-Some.number d c.deref.ensures.value c.deref-2.ensures.value c.in-Some.ensures c.index.ensures in
    let named = named_there c.deref.result.now es c.deref-2.result.now c.args.link c.in-Some.number d c.deref-2.ensures.value c.in-Some.ensures c.index.ensures in
    rw (← c.self.view_is, c.freed-entry.ensures) (λ m. holes_become _ rows c.args.link (holes_in rows c.args.link - 1) (freed d) m
    (ap (λ (k : ℕ). k - 1) (sym (holes_are rows c.args.link (Some d) was)))
    (replaced_there ks c.deref.result.now es c.deref-2.result.now c.args.link c.in-Some.number (freed d) m named c.deref.ensures.value c.deref-2.ensures.value c.in-Some.ensures))

pub returns-in-None-clause-places : goal.returns-in-None-clause-places
returns-in-None-clause-places c =
    rw (← c.self.view_is) (λ m. none_fewer (rows_of c.self.inside.starts.items c.self.inside.entries.items) c.args.link m
    (none_read c.self.inside.starts.items c.deref.result.now c.self.inside.entries.items c.deref-2.result.now c.args.link c.deref.ensures.value c.deref-2.ensures.value c.in-None.ensures))

pub returns-in-None-clause-holes : goal.returns-in-None-clause-holes
returns-in-None-clause-holes c =
    rw (← c.self.view_is) (λ m. none_holes (rows_of c.self.inside.starts.items c.self.inside.entries.items) c.args.link m
    (none_read c.self.inside.starts.items c.deref.result.now c.self.inside.entries.items c.deref-2.result.now c.args.link c.deref.ensures.value c.deref-2.ensures.value c.in-None.ensures))

pub invariant_of-self : goal.invariant_of-self
invariant_of-self c =
    let ks = c.self.inside.starts.items in
    let es = c.self.inside.entries.items in
    let d : Entry = c.index.result.now in
    let named = named_there c.deref.result.now es c.deref-2.result.now c.args.link c.in-Some.number d c.deref-2.ensures.value c.in-Some.ensures c.index.ensures in
    rw c.freed-entry.ensures
    (blocks_stay ks c.deref.result.now es c.deref-2.result.now c.args.link c.in-Some.number (freed d) named c.deref.ensures.value
    c.deref-2.ensures.value c.in-Some.ensures c.self.invariant)
