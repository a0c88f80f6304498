use Rattle.std.proofs.Common.{◌≡◌, ◌∙◌, ap, sym, subst, false, rules}
use Rattle.queue_link.{proofs.Dues.bay_none, proofs.Dues.bay_stays, proofs.Dues.nobody_tells, specs.Links.LinkView, specs.Waking.bay_due, specs.Waking.is_by}
use Rattle.queue_link.proofs.state.LinkState.let_leave.Goals as goal

pub returns-then-not-has_come-clause-left : goal.returns-then-not-has_come-clause-left
returns-then-not-has_come-clause-left c =
    bay_stays c.args.second c.args.self.now
    (subst (λ (v : LinkView). is_by c.args.second (bay_due v.lists.bay) ≡ false) c.self.view_is
    (ap (is_by c.args.second) (sym c.self.invariant.2) ∙ sym c.has_come.ensures ∙ c.if-not-has_come.true))

pub returns-then-not-has_come-clause-told : goal.returns-then-not-has_come-clause-told
returns-then-not-has_come-clause-told c =
    nobody_tells c.args.second c.args.self.now.lists.bay c.args.said.now.items
    (subst (λ (v : LinkView). is_by c.args.second (bay_due v.lists.bay) ≡ false) c.self.view_is
    (ap (is_by c.args.second) (sym c.self.invariant.2) ∙ sym c.has_come.ensures ∙ c.if-not-has_come.true))

pub invariant_of-self : goal.invariant_of-self
invariant_of-self c = (c.self.invariant.0, c.self.invariant.1, bay_none c.replace-bay.new.dest.items (search rules))
