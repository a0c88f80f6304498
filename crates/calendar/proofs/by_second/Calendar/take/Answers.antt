use Rattle.std.proofs.Common.{◌≡◌, ◌∙◌, ℕ, List, [], ap, sym}
use Rattle.std.specs.Prelude.{◌==◌, if◌then◌else◌}
use Rattle.calendar.proofs.{InBlocks.due_is, Laid.taken_all, Laid.IsTaken, Quiet.none_taken, by_second.Calendar.take.Goals.After-clear}
use Rattle.calendar.specs.{Blocks.Block, Blocks.head_at, Hooks.numbers_at, declared.by_second.Hook.Hook}
use Rattle.calendar.proofs.by_second.Calendar.take.Goals as goal

head_is : (c : After-clear) → c.head_of-head.result ≡ head_at c.self.inside.blocks.items c.args.second
head_is c = c.head_of-head.ensures ∙ ap (λ (bs : List Block). head_at bs c.args.second) c.deref.ensures.value

taken : (c : After-clear) → IsTaken (head_at c.self.inside.blocks.items) (head_at c.clear.new.blocks.items) c.self.inside.hooks.items
    c.give_back.new.hooks.items c.give_back.new.free c.args.second
taken c =
    taken_all (head_at c.self.inside.blocks.items) (head_at c.clear.new.blocks.items) c.self.inside.hooks.items c.give_back.new.hooks.items
    c.self.inside.free c.give_back.new.free c.head_of-head.result c.args.second c.self.invariant (sym (head_is c)) c.give_back.ensures.free
    c.give_back.ensures.hooks c.clear.ensures

pub returns-then-is_quiet-clause-rest : goal.returns-then-is_quiet-clause-rest
returns-then-is_quiet-clause-rest c = none_taken c.args.second c.args.self.now (c.is_quiet.ensures c.if-is_quiet.true)

pub invariant_of-self : goal.invariant_of-self
invariant_of-self c = (taken (goal.at.invariant_of-self c).After-clear).laid

pub returns-clause-due : goal.returns-clause-due
returns-clause-due c =
    let hooks = c.self.inside.hooks.items in
    rw (← c.self.view_is)
    (c.in_ok-all.ensures.numbers ∙ ap (λ (hs : List Hook). numbers_at hs c.head_of-head.result) c.deref-2.ensures.value
    ∙ ap (numbers_at hooks) (head_is (goal.at.returns-clause-due c).After-clear)
    ∙ sym (due_is hooks c.self.inside.blocks.items c.args.second))

pub returns-clause-rest : goal.returns-clause-rest
returns-clause-rest c =
    rw (← c.self.view_is) (λ u.
    due_is c.give_back.new.hooks.items c.clear.new.blocks.items u ∙ (taken (goal.at.returns-clause-rest c).After-clear).numbers u
    ∙ ap (λ (xs : List ℕ). if u == c.args.second then [] else xs) (sym (due_is c.self.inside.hooks.items c.self.inside.blocks.items u)))
