use Rattle.std.proofs.Common.{◌+◌, ap, arith, refl}
use Rattle.std.specs.Prelude.{None, Some}
use Rattle.node_move.proofs.Blocks.{blocks_stay}
use Rattle.node_move.proofs.Entries.{found_there, none_read, replaced_there, places_are, placed, holes_stay, taken, nothing}
use Rattle.node_move.specs.{Entries.rows_of, Entries.taken_of, Spaces.places_in, declared.space.Entry.Entry}
use Rattle.node_move.proofs.space.Space.take_place.Goals as goal

pub returns-in-None-clause-places : goal.returns-in-None-clause-places
returns-in-None-clause-places c =
    let rows = rows_of c.self.inside.starts.items c.self.inside.entries.items in
    rw (← c.self.view_is) (nothing (places_in rows) c.args.link (places_are rows c.args.link None
    (none_read c.self.inside.starts.items c.deref.result.now c.self.inside.entries.items c.deref-2.result.now c.args.link c.deref.ensures.value c.deref-2.ensures.value c.in-None.ensures)))

pub returns-in-Some-checked_add-clause-places : goal.returns-in-Some-checked_add-clause-places
returns-in-Some-checked_add-clause-places c =
    let ks = c.self.inside.starts.items in
    let es = c.self.inside.entries.items in
    let rows = rows_of ks es in
    let d : Entry = c.index-entry.result.now in
    let e : Entry = record d { link = c.args.link; places = record d.places { taken = d.places.taken + 1 } } in
    let was = found_there ks c.deref.result.now es c.deref-2.result.now c.args.link c.in-Some.number d c.deref.ensures.value c.deref-2.ensures.value c.in-Some.ensures c.index-entry.ensures in
    let more = c.in-Some-checked_add.ensures in
    rw (more.1, ← c.self.view_is) (taken (places_in rows) _ c.args.link d.places (places_are rows c.args.link (Some d) was)
    (λ m. placed _ rows c.args.link e m
    (replaced_there ks c.deref.result.now es c.deref-2.result.now c.args.link c.in-Some.number e m refl c.deref.ensures.value c.deref-2.ensures.value c.in-Some.ensures)))

pub returns-in-Some-checked_add-clause-holes : goal.returns-in-Some-checked_add-clause-holes
returns-in-Some-checked_add-clause-holes c =
    let ks = c.self.inside.starts.items in
    let es = c.self.inside.entries.items in
    let rows = rows_of ks es in
    let d : Entry = c.index-entry.result.now in
    let e : Entry = record d { link = c.args.link; places = record d.places { taken = d.places.taken + 1 } } in
    let was = found_there ks c.deref.result.now es c.deref-2.result.now c.args.link c.in-Some.number d c.deref.ensures.value c.deref-2.ensures.value c.in-Some.ensures c.index-entry.ensures in
    let more = c.in-Some-checked_add.ensures in
    rw (more.1, ← c.self.view_is) (λ m. holes_stay _ rows c.args.link d e m was refl
    (replaced_there ks c.deref.result.now es c.deref-2.result.now c.args.link c.in-Some.number e m refl c.deref.ensures.value c.deref-2.ensures.value c.in-Some.ensures))

pub invariant_of-self : goal.invariant_of-self
invariant_of-self c =
    let ks = c.self.inside.starts.items in
    let es = c.self.inside.entries.items in
    let e : Entry = (record c.index-entry.result.now { link = c.args.link; places = record c.index-entry.result.now.places { taken = c.index-entry.result.now.places.taken + 1 } }) in
    let more = c.in-Some-checked_add.ensures in
    rw more.1
    (blocks_stay ks c.deref.result.now es c.deref-2.result.now c.args.link c.in-Some.number e refl c.deref.ensures.value
    c.deref-2.ensures.value c.in-Some.ensures c.self.invariant)

pub returns-in_default-clause-full : goal.returns-in_default-clause-full
returns-in_default-clause-full c =
    let ks = c.self.inside.starts.items in
    let es = c.self.inside.entries.items in
    let rows = rows_of ks es in
    let d : Entry = c.index-entry.result.now in
    let was = found_there ks c.deref.result.now es c.deref-2.result.now c.args.link c.in-Some.number d c.deref.ensures.value
    c.deref-2.ensures.value c.in-Some.ensures c.index-entry.ensures in
    let many = ap taken_of (places_are rows c.args.link (Some d) was) in
    rw (← c.self.view_is) (omega (arith, c.in_default.ensures))
