use Rattle.std.proofs.Common.{◌≡◌, List, [], ◌∷◌, Some, sym, ◌∙◌, ap, arith, rules}
use Rattle.edge_files.proofs.Performing.{one_more, one_in_part, no_save_here}
use Rattle.edge_files.proofs.{Worlds.writes_does, Worlds.writes_part_does, Worlds.save_does, Worlds.save_part_does, effects.perform.Goals.in-Write+else-is_err}
use Rattle.edge_files.{proofs.effects.perform.Goals.in-Save+in_default, specs.Effects.steps_of, specs.Effects.is_save}
use Rattle.edge_files.specs.{Keeping.Becomes, Keeping.kept_of, World.Saved, World.Writes, World.WritesPart, World.byte_steps, declared.keeping.KeptRow.KeptRow}
use Rattle.edge_files.proofs.effects.perform.Goals as goal

pub returns-then-is_err-clause-part : goal.returns-then-is_err-clause-part
returns-then-is_err-clause-part g c =
    let same : steps_of c.effect-item.result ≡ byte_steps c.in-Write.file c.deref.result.now =
    ap steps_of c.in-Write.is ∙ ap (byte_steps c.in-Write.file) (sym (c.deref.ensures.value ∙ c.text.view_is)) in
    let part : WritesPart (g.O.Outputs.written c.loop-effect.outputs) (g.O.Outputs.written c.write_whole.new.outputs) c.in-Write.file c.deref.result.now = search rules in
    one_in_part _ _ _ c.loop-effect-test.true c.effect-item.is _ _ _ _ _ same c.loop-effect.invariant.performing (writes_part_does _ _ _ _ _ part)

pub returns-in-Err-clause-part : goal.returns-in-Err-clause-part
returns-in-Err-clause-part g c =
    let same : steps_of c.effect-item.result ≡ Saved (kept_of c.in-Save.iteration c.deref-in-Save.result.now) ∷ [] =
    ap steps_of c.in-Save.is ∙ ap (λ (rows : List KeptRow). Saved (kept_of c.in-Save.iteration rows) ∷ []) (sym (c.deref-in-Save.ensures.value ∙ c.rows.view_is)) in
    one_in_part _ _ _ c.loop-effect-test.true c.effect-item.is _ _ _ _ _ same c.loop-effect.invariant.performing (save_part_does _ _ _ _ c.in-Err.ensures.err)

pub loop-effect-preserved : goal.loop-effect-preserved
loop-effect-preserved g c =
    let so_far = c.loop-effect.invariant in
    elim c.match-effect.branch [
      | in-Write+else-is_err w ↦
          let same : steps_of c.effect-item.result ≡ byte_steps w.in-Write.file w.deref.result.now =
          ap steps_of w.in-Write.is ∙ ap (byte_steps w.in-Write.file) (sym (w.deref.ensures.value ∙ w.text.view_is)) in
          let did : Writes (g.O.Outputs.written c.loop-effect.outputs) (g.O.Outputs.written w.write_whole.new.outputs) (byte_steps w.in-Write.file w.deref.result.now) = search rules in
          rw (w.outputs-is, w.keeper-is) (record {
            performing = one_more _ _ _ c.loop-effect-test.true c.effect-item.is _ _ _ _ _ same so_far.performing (writes_does _ _ _ _ _ did);
            write_later = omega (arith, so_far.write_later, w.write_whole.ensures.cause.later);
            keep_later = so_far.keep_later;
            untouched = so_far.untouched;
          })
      | in-Save+in_default w ↦
          let same : steps_of c.effect-item.result ≡ Saved (kept_of w.in-Save.iteration w.deref-in-Save.result.now) ∷ [] =
          ap steps_of w.in-Save.is ∙ ap (λ (rows : List KeptRow). Saved (kept_of w.in-Save.iteration rows) ∷ []) (sym (w.deref-in-Save.ensures.value ∙ w.rows.view_is)) in
          let did : Becomes (g.K.Keeper.kept c.loop-effect.keeper) (g.K.Keeper.kept w.save.new.self) (Some (kept_of w.in-Save.iteration w.deref-in-Save.result.now)) = search rules in
          rw (w.outputs-is, w.keeper-is) (record {
            performing = one_more _ _ _ c.loop-effect-test.true c.effect-item.is _ _ _ _ _ same so_far.performing (save_does _ _ _ _ did);
            write_later = so_far.write_later;
            keep_later = omega (arith, so_far.keep_later, w.save.ensures.cause.later);
            untouched = λ none. let no = no_save_here _ _ _ c.loop-effect-test.true c.effect-item.is none in let saves = ap is_save w.in-Save.is in cc;
          })
    ]
