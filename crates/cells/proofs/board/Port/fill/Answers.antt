use Rattle.std.proofs.Common.{rules, arith, ◌≡◌, length, ◌++◌, sym, ap, ap₂, ◌∙◌, refl, subst, Vec, Global, vec_len, get_or, set}
use Rattle.std.proofs.lemmas.List.{get_or_default}
use Rattle.cells.proofs.Fillings.{starts, in_borders, is_waiting, ahead, fill_step, goes_taken}
use Rattle.cells.specs.Ports.{is_taken, GoesOut, border_at, slots_of, filled_slots_of}
use Rattle.cells.specs.{Rule.no_border, declared.board.Handover.TheVariants.Awaited, declared.table.Border.Border}
use Rattle.cells.proofs.board.Port.fill.Goals as goal

pub loop-k-init : goal.loop-k-init
loop-k-init g c = starts g.T.Exchange.right c.args.board.now c.args.self.now c.requires.port c.requires.all

pub index-border-requires : goal.index-border-requires
index-border-requires g c = let f = c.loop-k.invariant in let b = c.args.board.now in let i = c.in-Some.ensures.items in
    let lt = in_borders g.T.Exchange.right b c.args.self.now c.loop-k.self f c.pop.new.self.items c.in-Some.k i in
    let r : length c.loop-k.self.borders.items ≡ length c.args.self.now.borders.items =
    ap (λ (z : Vec Border Global). length z.items) f.borders in
    let l : vec_len c.loop-k.self.borders ≡ length c.loop-k.self.borders.items = search rules in omega arith

pub index_mut-requires : goal.index_mut-requires
index_mut-requires g c = let f = c.loop-k.invariant in let b = c.args.board.now in let i = c.in-Some.ensures.items in
    let lt = in_borders g.T.Exchange.right b c.args.self.now c.loop-k.self f c.pop.new.self.items c.in-Some.k i in let r = f.long in
    let l : vec_len c.loop-k.self.handovers ≡ length c.loop-k.self.handovers.items = search rules in omega arith

pub take_put-parcel-requires : goal.take_put-parcel-requires
take_put-parcel-requires g c = let f = c.loop-k.invariant in let b = c.args.board.now in let i = c.in-Some.ensures.items in
    let lt = in_borders g.T.Exchange.right b c.args.self.now c.loop-k.self f c.pop.new.self.items c.in-Some.k i in let r = f.long in
    let w = is_waiting g.T.Exchange.right b c.args.self.now c.loop-k.self f c.pop.new.self.items c.in-Some.k i in
    ap is_taken (c.index_mut.ensures.value ∙ get_or_default c.loop-k.self.handovers.items c.in-Some.k _ Awaited (omega arith))
    ∙ goes_taken g.T.Exchange.right b _ w.0 w.1

pub load_out-requires-clause-there : goal.load_out-requires-clause-there
load_out-requires-clause-there g c = let f = c.loop-k.invariant in let b = c.args.board.now in let i = c.in-Some.ensures.items in
    let q = c.args.self.now in let p = c.loop-k.self in
    let lt = in_borders g.T.Exchange.right b q p f c.pop.new.self.items c.in-Some.k i in
    let rs : p.borders.items ≡ q.borders.items = ap (λ (z : Vec Border Global). z.items) f.borders in
    let border : c.index-border.result.now ≡ border_at q.borders.items c.in-Some.k = c.index-border.ensures
    ∙ ap (λ z. get_or z c.in-Some.k c.index-border.result.now) rs ∙ get_or_default q.borders.items c.in-Some.k _ no_border lt in
    let a = ahead g.T.Exchange.right b q p f c.pop.new.self.items c.in-Some.k i in
    λ κs _. (a.0, a.1 ∙ ap₂ (λ r t. slots_of r t ++ a.0) (sym border) (sym f.done))

pub loop-k-preserved : goal.loop-k-preserved
loop-k-preserved g c = let f = c.loop-k.invariant in let b = c.args.board.now in let i = c.in-Some.ensures.items in
    let q = c.args.self.now in let p = c.loop-k.self in
    let lt = in_borders g.T.Exchange.right b q p f c.pop.new.self.items c.in-Some.k i in let r = f.long in
    let rs : p.borders.items ≡ q.borders.items = ap (λ (z : Vec Border Global). z.items) f.borders in
    let border : c.index-border.result.now ≡ border_at q.borders.items c.in-Some.k = c.index-border.ensures
    ∙ ap (λ z. get_or z c.in-Some.k c.index-border.result.now) rs ∙ get_or_default q.borders.items c.in-Some.k _ no_border lt in
    let y = c.take_put-parcel.result in
    fill_step g.T.Exchange.right b q p f c.pop.new.self.items c.in-Some.k i c.requires.port y
    (subst (λ h. GoesOut y h)
    (sym (get_or_default p.handovers.items c.in-Some.k Awaited _ (omega arith) ∙ sym c.index_mut.ensures.value))
    c.take_put-parcel.ensures.0) _ c.load_out.ensures.same
    (λ d e. c.load_out.ensures.loaded d (e ∙ ap₂ (λ r t. slots_of r t ++ d) (sym border) (sym f.done))
    ∙ ap₂ (λ r t. d ++ filled_slots_of r t y) border f.done)
    refl refl refl refl (ap (λ h. set p.handovers.items c.in-Some.k h) c.take_put-parcel.ensures.1) refl c.pop.ensures.capacity
