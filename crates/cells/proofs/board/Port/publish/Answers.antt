use Rattle.std.proofs.Common.{◌≡◌, ◌+◌, length, List, Vec, Global, sym, ap, ◌∙◌, subst, refl, arith}
use Rattle.cells.proofs.{Allowed.sends, Fillings.filled_all, Fillings.marks_all, Fillings.published_port, Takings.takes_next}
use Rattle.cells.specs.{Carried.AreOfSecond, Carried.CarriesBoth, Ports.run_of, Rule.contains, Rule.is_port, Rule.from_of, Rule.to_of, Rule.lag_of}
use Rattle.cells.specs.{Rule.twin_of, declared.table.Border.Border, declared.table.Channel.Channel}
use Rattle.cells.proofs.board.Port.publish.Goals as goal

pub store-requires : goal.store-requires
store-requires g c = let b = c.args.board.now in let q = c.args.self.now in let p = c.fill.new.self in let f = c.requires.port in
    let l = c.fill.ensures.filled in let cs : List Channel = b.channels.items in
    let same : p.seat.me.0 ≡ q.seat.me.0 = l.seat.2 in
    let w = filled_all g.T.Exchange.right b q p f l c.fill.ensures.empty in
    let done : p.seat.me.0.done ≡ q.done = ap (λ v. v.done) same ∙ f.done in (
      l.seat.0 ∙ f.table,
      (let w' = b.words_are in let n = f.named in let o = l.partition in omega arith),
      sends g.T.Exchange.right b.table.shared.key cs b.channels_are _ _ p.partition _ p.seat.me (ap (λ v. v.partition) same ∙ f.partition
          ∙ sym l.partition) (ap (λ v. is_port v.role) same ∙ f.role)
          (ap (λ z. z + 1) (l.done ∙ sym done))
          (subst (λ z. AreOfSecond (g.T.Exchange.right (run_of b)) (length cs) (from_of cs) (to_of cs) (lag_of cs)
          (twin_of cs) z p.seat.me.0.done p.seat.me.1) (sym l.partition)
          (subst (λ z. AreOfSecond (g.T.Exchange.right (run_of b)) (length cs) (from_of cs) (to_of cs) (lag_of cs)
          (twin_of cs) q.partition z p.seat.me.1) (sym done) w.0))
          (λ e lt at. subst (λ z. CarriesBoth (g.T.Exchange.right (run_of b)) (length cs) (from_of cs) (to_of cs) (lag_of cs)
          (twin_of cs) z p.seat.me.0.done p.seat.me.1 e) (sym l.partition)
          (subst (λ z. CarriesBoth (g.T.Exchange.right (run_of b)) (length cs) (from_of cs) (to_of cs) (lag_of cs)
          (twin_of cs) q.partition z p.seat.me.1 e) (sym done) (w.1 e lt (at ∙ l.partition))))
          (λ e lt at. ap (λ v. contains v.marks e) same ∙ marks_all g.T.Exchange.right b q f c.requires.all e lt (at ∙ l.partition)),
    )

pub returns-clause-port : goal.returns-clause-port
returns-clause-port g c =
    published_port g.T.Exchange.right c.args.board.now c.args.self.now c.fill.new.self _ c.requires.port
    c.fill.ensures.filled c.fill.ensures.empty c.store.ensures.0 c.store.ensures.2 refl refl refl refl refl refl

pub returns-clause-taken : goal.returns-clause-taken
returns-clause-taken g c k lt = let l = c.fill.ensures.filled in
    takes_next c.args.self.now c.fill.new.self (ap (λ (z : Vec Border Global). z.items) l.borders) l.done (λ j lj. (c.requires.all j lj).0)
    (λ j lj. l.through j lj (ap (λ z. contains z j) c.fill.ensures.empty)) k lt
