use Rattle.std.proofs.Common.{rules, arith, ◌≡◌, length, map, vec_len, ap, ◌∙◌, subst, refl}
use Rattle.cells.{proofs.Fillings.fresh_port, proofs.Fillings.away_at, proofs.board.Hub.split.Given.Over, specs.Ports.is_awaited, specs.Ports.handover_at}
use Rattle.cells.specs.{Ports.AreBorders, declared.board.Handover.Handover, declared.board.Handover.TheVariants.Awaited, declared.table.Border.Border}
use Rattle.cells.proofs.board.Hub.split.Goals as goal

handovers_are : (g : Over) (c : goal.After-split_seat-seat g)
    → c.in_ok-handovers.handovers.items ≡ map {A = Border} {B = Handover g.row.T-Parcel.Denot} (λ _. Awaited) c.in_ok-borders.borders.items
handovers_are g c = c.in_ok-handovers.ensures ∙ ap (map (λ (_ : Border). Awaited)) c.as_slice-3.ensures.value

pub returns-clause-port : goal.returns-clause-port
returns-clause-port g c = let b = c.args.board.now in let h = c.requires.hub in let s = c.split_seat-seat.ensures.new in
    let r = c.in_ok-borders.ensures in
    let l : length c.in_ok-borders.borders.items ≡ vec_len c.in_ok-borders.borders = search rules in (
      fresh_port g.T.Exchange.right b _ c.args.self.now.seat.me.0.run c.args.p (s.0 ∙ h.table) s.1 h.run refl refl c.requires.below
          (subst (λ z. AreBorders z c.args.p c.in_ok-borders.borders.items) c.as_slice.ensures.value r)
          (c.in_ok-neighbours.ensures ∙ ap (map (λ (x : Border). x.from)) c.as_slice-2.ensures.value)
          (handovers_are g c)
          c.in_ok-order.ensures.items
          (let e = c.len.ensures in let x = c.in_ok-order.ensures.exact in omega arith),
      refl,
      refl,
    )

pub returns-clause-counts : goal.returns-clause-counts
returns-clause-counts g c = let s = c.split_seat-seat.ensures.new in
    (ap (λ m. m.0.looks) s.1, ap (λ m. m.0.waits) s.1, ap (λ m. m.0.still) s.1)

pub returns-clause-awaited : goal.returns-clause-awaited
returns-clause-awaited g c k lt = ap is_awaited (ap (λ z. handover_at z k) (handovers_are g c)
    ∙ away_at g.T.Exchange.right c.args.board.now c.in_ok-borders.borders.items k)
