use Rattle.std.proofs.Common.{◌≡◌, ap, sym, ◌∙◌, arith, length, vec_len, rules}
use mathlib.Core.Logic.{dite}
use native.Mathlib.Decide.{ℕ_discrete}
use Rattle.cells.{proofs.Rings.mark_here, proofs.Rings.mark_else, specs.Ports.joined, specs.Ports.partition_of, specs.Rule.contains}
use Rattle.cell_tests.proofs.Listing.{members_last}
use Rattle.cell_tests.proofs.trials.closes.Goals as goal

pub join-requires-clause-port : goal.join-requires-clause-port
join-requires-clause-port c κs = (members_last c.args.trial.board c.pop.new.self.items c.loop-member.members.items c.in-Some.member
    c.loop-member.invariant.1 c.in-Some.ensures.items).1.port

pub join-requires-clause-awaited : goal.join-requires-clause-awaited
join-requires-clause-awaited c κs = (members_last c.args.trial.board c.pop.new.self.items c.loop-member.members.items c.in-Some.member
    c.loop-member.invariant.1 c.in-Some.ensures.items).1.resting c.if-not-is_resting.false

pub loop-member-preserved : goal.loop-member-preserved
loop-member-preserved c =
    let m = c.in-Some.member in let i = c.loop-member.invariant in
    let w = members_last c.args.trial.board c.pop.new.self.items c.loop-member.members.items m i.1 c.in-Some.ensures.items in
    let v : vec_len c.pop.new.self ≡ length c.pop.new.self.items = search rules in
    let at : partition_of m.port ≡ length c.pop.new.self.items = sym c.partition.ensures ∙ c.if-partition-len.false
    ∙ c.len-else-not-is_resting.ensures ∙ v in let l = w.2 in (
      c.join.ensures.hub,
      w.0,
      (λ p le lt. ap (λ z. contains z p) c.join.ensures.lists.1 ∙ dite (ℕ_discrete p (partition_of m.port))
          (λ e. mark_here (contains (joined c.loop-member.hub)) (partition_of m.port) p e)
          (λ ne. mark_else (contains (joined c.loop-member.hub)) (partition_of m.port) p ne ∙ i.2 p (omega arith) lt)),
    )
