use Rattle.std.proofs.Common.{◌∙◌, ap, refl}
use Rattle.std.specs.Prelude.{Some, ◌==◌, if◌then◌else◌}
use Rattle.node_move.proofs.{Blocks.blocks_filled, Blocks.filled_there, Entries.on_ok, Entries.on_err, Entries.placed, Entries.holed}
use Rattle.node_move.proofs.Entries.{same_places, same_holes}
use Rattle.node_move.specs.{Entries.SpaceRows, Entries.entry_in, declared.space.Entry.Entry}
use Rattle.node_move.proofs.space.Space.set.Goals as goal

pub returns-in-None-clause-ok : goal.returns-in-None-clause-ok
returns-in-None-clause-ok c =
    let e : Entry = record { link = c.args.link; holes = 0; places = c.args.places } in
    on_ok c.add_block.result (λ f m. placed c.add_block.new.self c.args.self.now c.args.link e m (f m)) c.add_block.ensures.ok

pub returns-in-None-clause-holes : goal.returns-in-None-clause-holes
returns-in-None-clause-holes c =
    let e : Entry = record { link = c.args.link; holes = 0; places = c.args.places } in
    on_ok c.add_block.result (λ f m. holed c.add_block.new.self c.args.self.now c.args.link e m (f m)) c.add_block.ensures.ok

pub returns-in-None-clause-err : goal.returns-in-None-clause-err
returns-in-None-clause-err c = on_err c.add_block.result (λ f m. same_places c.add_block.new.self c.args.self.now m (f m)) c.add_block.ensures.err

pub returns-in-None-clause-err_holes : goal.returns-in-None-clause-err_holes
returns-in-None-clause-err_holes c = on_err c.add_block.result (λ f m. same_holes c.add_block.new.self c.args.self.now m (f m)) c.add_block.ensures.err

pub returns-in-Some-clause-ok : goal.returns-in-Some-clause-ok
returns-in-Some-clause-ok c = λ m.
    let e : Entry = record { link = c.args.link; holes = 0; places = c.args.places } in
    placed _ c.args.self.now c.args.link e m
    (filled_there c.self.inside.starts.items c.deref.result.now c.self.inside.entries.items c.deref-2.result.now c.args.link c.in-Some.number e m refl
    c.deref.ensures.value c.deref-2.ensures.value c.in-Some.ensures
    ∙ ap (λ (rows : SpaceRows). if m == c.args.link then Some e else entry_in rows m) c.self.view_is)

pub returns-in-Some-clause-holes : goal.returns-in-Some-clause-holes
returns-in-Some-clause-holes c = λ m.
    let e : Entry = record { link = c.args.link; holes = 0; places = c.args.places } in
    holed _ c.args.self.now c.args.link e m
    (filled_there c.self.inside.starts.items c.deref.result.now c.self.inside.entries.items c.deref-2.result.now c.args.link c.in-Some.number e m refl
    c.deref.ensures.value c.deref-2.ensures.value c.in-Some.ensures
    ∙ ap (λ (rows : SpaceRows). if m == c.args.link then Some e else entry_in rows m) c.self.view_is)

pub invariant_of-self : goal.invariant_of-self
invariant_of-self c =
    let e : Entry = record { link = c.args.link; holes = 0; places = c.args.places } in
    blocks_filled c.self.inside.starts.items c.deref.result.now c.self.inside.entries.items c.deref-2.result.now c.args.link c.in-Some.number e refl
    c.deref.ensures.value c.deref-2.ensures.value c.in-Some.ensures c.self.invariant
