use Rattle.std.proofs.Common.{refl}
use Rattle.node_move.proofs.Blocks.{blocks_stay}
use Rattle.node_move.proofs.Entries.{found_there, none_read, none_put, replaced_there, places_stay, holes_are_put}
use Rattle.node_move.specs.{Entries.rows_of, declared.space.Entry.Entry}
use Rattle.node_move.proofs.space.Space.set_holes.Goals as goal

pub returns-in-Some-clause-places : goal.returns-in-Some-clause-places
returns-in-Some-clause-places c =
    let ks = c.self.inside.starts.items in
    let es = c.self.inside.entries.items in
    let rows = rows_of ks es in
    let d : Entry = c.index.result.now in
    let e : Entry = record d { link = c.args.link; holes = c.args.holes } in
    let was = found_there ks c.deref.result.now es c.deref-2.result.now c.args.link c.in-Some.number d c.deref.ensures.value c.deref-2.ensures.value c.in-Some.ensures c.index.ensures in
    rw (← c.self.view_is) (λ m. places_stay _ rows c.args.link d e m was refl
    (replaced_there ks c.deref.result.now es c.deref-2.result.now c.args.link c.in-Some.number e m refl c.deref.ensures.value c.deref-2.ensures.value c.in-Some.ensures))

pub returns-in-Some-clause-holes : goal.returns-in-Some-clause-holes
returns-in-Some-clause-holes c =
    let ks = c.self.inside.starts.items in
    let es = c.self.inside.entries.items in
    let rows = rows_of ks es in
    let d : Entry = c.index.result.now in
    let e : Entry = record d { link = c.args.link; holes = c.args.holes } in
    let was = found_there ks c.deref.result.now es c.deref-2.result.now c.args.link c.in-Some.number d c.deref.ensures.value c.deref-2.ensures.value c.in-Some.ensures c.index.ensures in
    rw (← c.self.view_is) (λ m. holes_are_put _ rows c.args.link c.args.holes d e m was refl
    (replaced_there ks c.deref.result.now es c.deref-2.result.now c.args.link c.in-Some.number e m refl c.deref.ensures.value c.deref-2.ensures.value c.in-Some.ensures))

pub returns-in-None-clause-holes : goal.returns-in-None-clause-holes
returns-in-None-clause-holes c =
    rw (← c.self.view_is) (λ m. none_put (rows_of c.self.inside.starts.items c.self.inside.entries.items) c.args.link c.args.holes m
    (none_read c.self.inside.starts.items c.deref.result.now c.self.inside.entries.items c.deref-2.result.now c.args.link c.deref.ensures.value c.deref-2.ensures.value c.in-None.ensures))

pub invariant_of-self : goal.invariant_of-self
invariant_of-self c =
    let ks = c.self.inside.starts.items in
    let es = c.self.inside.entries.items in
    let e : Entry = (record c.index.result.now { link = c.args.link; holes = c.args.holes }) in
    blocks_stay ks c.deref.result.now es c.deref-2.result.now c.args.link c.in-Some.number e refl c.deref.ensures.value
    c.deref-2.ensures.value c.in-Some.ensures c.self.invariant
