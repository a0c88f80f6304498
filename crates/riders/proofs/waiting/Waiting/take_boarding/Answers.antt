use Rattle.std.proofs.Common.{rules, ◌∙◌, ap, sym, subst, refl, List}
use Rattle.std.specs.Prelude.{map}
use Rattle.traffic.specs.{Stops.rider, declared.world.Waiter.Waiter}
use Rattle.riders.specs.Waiting.{AreWaiting}
use Rattle.riders.proofs.Lines.{boards_by, left_by, left_wait, nobody_boards, all_left}
use Rattle.riders.proofs.waiting.Waiting.take_boarding.Goals as goal

pub returns-then-not-anybody_boards-clause-boarded : goal.returns-then-not-anybody_boards-clause-boarded
returns-then-not-anybody_boards-clause-boarded c =
    c.new.ensures.items
    ∙ nobody_boards c.args.vehicle.now c.args.self.now c.self.inside.rows.items c.deref.result.now c.args.stay c.saturating_sub-seats.result
    c.self.invariant (sym c.self.view_is) c.deref.ensures.value c.requires.count (search rules) (sym c.anybody_boards.ensures ∙ c.if-not-anybody_boards.true)

pub returns-then-not-anybody_boards-clause-left : goal.returns-then-not-anybody_boards-clause-left
returns-then-not-anybody_boards-clause-left c =
    all_left c.args.vehicle.now c.args.self.now c.self.inside.rows.items c.deref.result.now c.args.stay c.saturating_sub-seats.result
    c.self.invariant (sym c.self.view_is) c.deref.ensures.value c.requires.count (search rules) (sym c.anybody_boards.ensures ∙ c.if-not-anybody_boards.true)

pub returns-clause-boarded : goal.returns-clause-boarded
returns-clause-boarded c =
    c.in_ok-all.ensures.boarded
    ∙ ap (λ (ws : List Waiter). map rider ws) (boards_by c.args.vehicle.now c.args.self.now c.self.inside.rows.items c.deref-2.result.now
    c.args.stay c.saturating_sub-seats.result c.self.invariant (sym c.self.view_is) c.deref-2.ensures.value c.requires.count (search rules))

pub returns-clause-left : goal.returns-clause-left
returns-clause-left c =
    c.in_ok-all.ensures.left
    ∙ left_by c.args.vehicle.now c.args.self.now c.self.inside.rows.items c.deref-2.result.now c.args.stay c.saturating_sub-seats.result
    c.self.invariant (sym c.self.view_is) c.deref-2.ensures.value c.requires.count (search rules)

pub invariant_of-self : goal.invariant_of-self
invariant_of-self c =
    subst (λ (ws : List Waiter). AreWaiting ws) (sym (c.in_ok-all.ensures.left
    ∙ left_by c.args.vehicle.now c.self.inside.rows.items c.self.inside.rows.items c.deref-2.result.now c.args.stay c.saturating_sub-seats.result
    c.self.invariant refl c.deref-2.ensures.value c.requires.count (search rules)))
    (left_wait c.args.vehicle.now c.self.inside.rows.items c.self.invariant)
