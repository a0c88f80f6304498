use Rattle.std.{proofs.Common.◌∙◌, proofs.Common.sym, proofs.Common.subst, specs.Int.IsGcd}
use Rattle.rows.specs.Greens.{Phases, IsLawful}
use Rattle.signals.{proofs.Exact.clash_is, proofs.Exact.clash_decides, specs.Arcs.IsBetween}
use Rattle.signals.proofs.clashes.clash.Goals as goal

pub returns-clause-is : goal.returns-clause-is
returns-clause-is c =
    let first = subst (λ (p : Phases). IsLawful p) c.first.view_is c.first.invariant in
    let second = subst (λ (p : Phases). IsLawful p) c.second.view_is c.second.invariant in
    let g = c.common_divisor.result in
    let told = c.common_divisor.ensures in
    let divisor = subst (λ (p : Phases). IsGcd c.args.first.now.cycle p.cycle g) c.second.view_is (subst (λ (p : Phases). IsGcd p.cycle c.second.inside.cycle g) c.first.view_is told.divisor) in
    let between = subst (λ (p : Phases). IsBetween c.args.first.now.cycle p.cycle g) c.second.view_is (subst (λ (p : Phases). IsBetween p.cycle c.second.inside.cycle g) c.first.view_is told.between) in
    c.some_meet.ensures ∙ clash_is c.args.first.now c.args.second.now first second g told.some divisor between

pub returns-clause-exact : goal.returns-clause-exact
returns-clause-exact c =
    let first = subst (λ (p : Phases). IsLawful p) c.first.view_is c.first.invariant in
    let second = subst (λ (p : Phases). IsLawful p) c.second.view_is c.second.invariant in
    let told = returns-clause-is c in
    let decides = clash_decides c.args.first.now c.args.second.now first second in
    ((λ h. decides.0 (sym told ∙ h)), λ h. told ∙ decides.1 h)
