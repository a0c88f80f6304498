use Rattle.std.proofs.Common.{◌≢◌, ap, sym, subst, ◌∙◌, arith, List}
use Rattle.cells.{proofs.Rings.mark_else, specs.Ports.had_port, specs.Rule.contains}
use Rattle.cell_tests.{proofs.Listing.members_more, specs.Members.AreMembers, specs.declared.members.Member.Member}
use Rattle.cell_tests.proofs.trials.all_members.Goals as goal

pub loop-p-preserved : goal.loop-p-preserved
loop-p-preserved c = let n = c.in_ok-new_member.ensures in let i = c.loop-p.invariant in let p = c.loop-p.p in (
  n.hub.0,
  (λ q le. let ne : q ≢ p = λ e. absurd (omega arith) in
      ap (λ z. contains z q) n.hub.1 ∙ mark_else (contains (had_port c.loop-p.hub)) p q ne ∙ i.1 q (omega arith)),
  subst (λ (z : List Member). AreMembers c.args.board.now z) (sym {A = List Member} c.in_ok-push.ensures.items)
      (members_more c.args.board.now c.loop-p.members.items c.in_ok-new_member.field-0 i.2 n.member),
)
