use Rattle.std.proofs.Common.{◌++◌, ◌-◌, ◌∙◌, ℕ, List, ap, sym, arith}
use Rattle.std.specs.Prelude.{reverse}
use Rattle.calendar.proofs.Laid.{walk_done, walk_more, walk_end, last_done, last_more, last_end}
use Rattle.calendar.specs.Hooks.{walk}
use Rattle.calendar.proofs.hooks.hanging.Goals as goal

pub chain-preserved-in-None : goal.chain-preserved-in-None
chain-preserved-in-None c =
    let hooks = c.args.hooks.now in
    let so = c.chain.invariant in
    record {
      numbers = walk_done hooks c.chain.numbers.items c.chain.left c.chain.rest (sym c.get.ensures.same ∙ c.in-None.is) ∙ so.numbers;
      last = last_done hooks c.chain.left c.chain.last c.chain.rest (sym c.get.ensures.same ∙ c.in-None.is) ∙ so.last;
    }

pub chain-preserved : goal.chain-preserved
chain-preserved c =
    let hooks = c.args.hooks.now in
    let hook = c.hook_at-hook.result in
    let left = c.chain.left in
    let so = c.chain.invariant in
    record {
      numbers =
          ap (λ (xs : List ℕ). xs ++ walk hooks (left - 1) hook.next) c.in_ok-push_with_room-in-Some.ensures.ok
          ∙ walk_more hooks c.chain.numbers.items left (left - 1) hook c.chain.rest c.in-Some.place (sym c.get.ensures.same ∙ c.in-Some.is) c.hook_at-hook.ensures
          (omega arith)
          ∙ so.numbers;
      last =
          last_more hooks left (left - 1) c.chain.last c.in-Some.place hook c.chain.rest (sym c.get.ensures.same ∙ c.in-Some.is) c.hook_at-hook.ensures (omega arith)
          ∙ so.last;
    }

pub returns-clause-numbers : goal.returns-clause-numbers
returns-clause-numbers c =
    c.reverse.ensures.items
    ∙ ap reverse (sym (walk_end c.args.hooks.now c.chain.numbers.items c.chain.left c.chain.rest (omega arith)) ∙ c.chain.invariant.numbers)

pub returns-clause-last : goal.returns-clause-last
returns-clause-last c =
    sym (last_end c.args.hooks.now c.chain.left c.chain.last c.chain.rest (omega arith)) ∙ c.chain.invariant.last
