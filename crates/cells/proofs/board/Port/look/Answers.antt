use Rattle.std.proofs.Common.{rules, arith, ◌≡◌, ◌<◌, ◌+◌, sym, ap, ◌∙◌, subst, refl, length, vec_len, true≢false, IsOk, vec_capacity}
use Rattle.std.proofs.lemmas.List.{get_or_default}
use Rattle.cells.proofs.Fitting.{room_for, looked_port, again_is, same_port, stays_here}
use Rattle.cells.proofs.board.Port.look.Goals.{else-border-t-via-then-border-t+else-word-t, else-border-t-via-else-border-t}
use Rattle.cells.specs.{Ports.handover_at, Rule.no_border, declared.board.Handover.TheVariants.Awaited, declared.table.Border.Border}
use Rattle.cells.proofs.board.Port.look.Goals as goal

pub unreachable-requires : goal.unreachable-requires
unreachable-requires g c = let p = c.args.self.now in let f = c.requires.port in let l = f.long in
    let away = get_or_default p.handovers.items c.args.k Awaited _ (omega arith) ∙ sym c.index.ensures ∙ c.in-Awaited.is in
    let long : length p.order.items ≡ vec_len p.order = search rules in
    let ok = c.push.ensures.succeeds (subst (λ z. z < vec_capacity p.order) long
    (room_for g.T.Exchange.right c.args.board.now p f c.args.k c.requires.neighbour away)) in
    true≢false (sym (subst IsOk c.in-Err.is ok))

pub returns-in-Ok-clause-port : goal.returns-in-Ok-clause-port
returns-in-Ok-clause-port g c = let p = c.args.self.now in let f = c.requires.port in let l = f.long in
    let away = get_or_default p.handovers.items c.args.k Awaited _ (omega arith) ∙ sym c.index.ensures ∙ c.in-Awaited.is in
    let border = c.index-border.ensures ∙ get_or_default p.borders.items c.args.k _ no_border c.requires.neighbour in
    let far : p.done < c.read-word.result + c.index-border.result.now.lag =
    elim c.else-border-t.branch [
      | else-border-t-via-then-border-t+else-word-t w ↦ omega arith
      | else-border-t-via-else-border-t w ↦ omega arith
    ] in
    looked_port g.T.Exchange.right c.args.board.now p _ f c.args.k c.read-word.result c.requires.neighbour
    c.index-border.result.now border away c.read-word.new.seat.me c.unload.result c.read-word.ensures.looks far
    c.unload.ensures.same.2 c.unload.ensures.parcel c.unload.ensures.none (c.unload.ensures.same.0
    ∙ c.read-word.ensures.same.0) refl refl refl refl refl (search rules) (search rules)

pub returns-in_default : goal.returns-in_default
returns-in_default g c = let p = c.args.self.now in let f = c.requires.port in let l = f.long in
    let at = get_or_default p.handovers.items c.args.k Awaited _ (omega arith) ∙ sym c.index.ensures in
    let border = c.index-border.ensures ∙ get_or_default p.borders.items c.args.k _ no_border c.requires.neighbour in
    let far : p.done < c.read-word.result + c.index-border.result.now.lag =
    elim c.else-border-t.branch [
      | else-border-t-via-then-border-t+else-word-t w ↦ omega arith
      | else-border-t-via-else-border-t w ↦ omega arith
    ] in
    let ne = λ (e : handover_at p.handovers.items c.args.k ≡ Awaited). c.in_default.not-Awaited (sym at ∙ e) in
    let is = again_is g.T.Exchange.right c.args.board.now p f c.args.k c.read-word.result c.requires.neighbour
    c.index-border.result.now border ne c.read-word.new.seat.me c.read-word.ensures.looks far in record {
      port = same_port g.T.Exchange.right c.args.board.now p _ f c.read-word.ensures.same.0 _
          refl refl refl refl refl is refl refl refl refl refl refl;
      same = record { partition = refl; done = refl; neighbours = refl; borders = refl; still = ap (λ m. m.0.still) is };
      read = (ap (λ m. m.0.looks) is, ap (λ m. m.0.read_partition) is ∙ ap (λ (r : Border). r.from) border);
      answer = (
        (let s : c.read-word.new.seat.me.0.read_word ≡ c.read-word.result = ap (λ m. m.0.read_word) is in
            let e = ap (λ (r : Border). r.lag) border in omega arith),
        ap (λ m. m.0.waits) is,
        (
          λ _. refl,
          λ away. absurd (true≢false (sym away ∙ stays_here g.T.Exchange.right c.args.board.now p c.args.k ne)),
          λ away. absurd (true≢false (sym away ∙ stays_here g.T.Exchange.right c.args.board.now p c.args.k ne)),
        ),
      );
      taken = λ k lt. refl;
    }
