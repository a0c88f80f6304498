use Rattle.std.proofs.Common.{◌∙◌, ℕ, List, [], ◌∷◌, ◌++◌, ap, sym}
use Rattle.std.{proofs.lemmas.Result.err_from_is_err_and, specs.Prelude.◌==◌, specs.Prelude.if◌then◌else◌}
use Rattle.calendar.{proofs.InBlocks.due_is, proofs.Laid.laid_same, proofs.Laid.hung_up, proofs.Laid.IsHung, proofs.by_second.Calendar.add.Goals.After-put_head}
use Rattle.calendar.specs.{Blocks.Block, Blocks.head_at, Hooks.numbers_at, declared.by_second.Hook.Hook}
use Rattle.calendar.proofs.by_second.Calendar.add.Goals as goal

hung : (c : After-put_head) → IsHung (head_at c.reach.new.blocks.items) (head_at c.put_head.new.blocks.items) c.self.inside.hooks.items
    c.hook_up.new.hooks.items c.hook_up.new.free c.args.second c.args.number
hung c =
    let blocks = c.reach.new.blocks.items in
    hung_up (head_at blocks) (head_at c.put_head.new.blocks.items) c.self.inside.hooks.items c.hook_up.new.hooks.items _ c.in_ok-hook.hook
    c.args.second c.self.inside.free c.hook_up.new.free
    (laid_same (head_at c.self.inside.blocks.items) (head_at blocks) c.self.inside.hooks.items c.self.inside.free c.self.invariant
    c.reach.ensures.same)
    c.in_ok-hook.ensures.ok
    (sym (c.head_of-next.ensures ∙ ap (λ (bs : List Block). head_at bs c.args.second) c.deref.ensures.value))
    c.put_head.ensures

pub returns-in_err-reach-clause-err : goal.returns-in_err-reach-clause-err
returns-in_err-reach-clause-err c =
    let p = err_from_is_err_and c.from_residual.result c.from_residual.ensures.1 in
    let hooks = c.self.inside.hooks.items in
    rw (p.1, ← c.self.view_is) (λ u.
    due_is hooks c.reach.new.blocks.items u ∙ ap (numbers_at hooks) (c.reach.ensures.same u) ∙ sym (due_is hooks c.self.inside.blocks.items u))

pub returns-in_err-hook-clause-err : goal.returns-in_err-hook-clause-err
returns-in_err-hook-clause-err c =
    let p = err_from_is_err_and c.from_residual-in_err-hook.result c.from_residual-in_err-hook.ensures.1 in
    let hooks = c.self.inside.hooks.items in
    let blocks = c.reach.new.blocks.items in
    rw (p.1, ← c.self.view_is) (λ u.
    due_is c.hook_up.new.hooks.items blocks u
    ∙ ap (λ (hs : List Hook). numbers_at hs (head_at blocks u)) c.in_err-hook.ensures.hooks
    ∙ ap (numbers_at hooks) (c.reach.ensures.same u) ∙ sym (due_is hooks c.self.inside.blocks.items u))

pub invariant_of-self-2 : goal.invariant_of-self-2
invariant_of-self-2 c = (hung (goal.at.invariant_of-self-2 c).After-put_head).laid

pub returns-clause-ok : goal.returns-clause-ok
returns-clause-ok c =
    let hooks = c.self.inside.hooks.items in
    let t = c.args.second in
    rw (← c.self.view_is) (λ u.
    due_is c.hook_up.new.hooks.items c.put_head.new.blocks.items u ∙ (hung (goal.at.returns-clause-ok c).After-put_head).numbers u
    ∙ ap (λ (xs : List ℕ). if u == t then xs ++ c.args.number ∷ [] else xs)
    (ap (numbers_at hooks) (c.reach.ensures.same u) ∙ sym (due_is hooks c.self.inside.blocks.items u)))
