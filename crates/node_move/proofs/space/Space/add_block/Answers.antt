use Rattle.std.proofs.Common.{◌≡◌, ℕ, ◌/◌, List, length, ◌∙◌, ap, arith, subst, sym}
use Rattle.std.{proofs.lemmas.Result.err_from_is_err_and, specs.Prelude.Some, specs.Prelude.◌==◌, specs.Prelude.if◌then◌else◌}
use Rattle.node_move.proofs.Blocks.{has_none, same_entries, same_blocks, BeginsAt, put_only, added, blocks_put, blocks_more}
use Rattle.node_move.specs.Entries.{SpaceRows, entry_in, rows_of, AreBlocks, HasNone}
use Rattle.node_move.specs.declared.{TheConstants.BLOCK_LINKS, space.Entry.Entry}
use Rattle.node_move.proofs.space.Space.add_block.Goals.{In_ok-put_start}
use Rattle.node_move.proofs.space.Space.add_block.Goals as goal

none_there : (c : In_ok-put_start) → HasNone c.self.inside.entries.items (c.args.entry.link / BLOCK_LINKS)
none_there c =
    has_none c.self.inside.starts.items c.self.inside.entries.items c.args.entry.link c.self.invariant (rw (← c.self.view_is) at c.requires)

begun : (c : In_ok-put_start) → BeginsAt (c.args.entry.link / BLOCK_LINKS) (length c.self.inside.entries.items) c.self.inside.starts.items
    c.put_start.new.starts.items
begun c =
    let n : c.in-Ok.start ≡ length c.self.inside.entries.items = omega (arith, c.in-Ok.ensures) in
    subst (λ (k : ℕ). BeginsAt (c.args.entry.link / BLOCK_LINKS) k c.self.inside.starts.items c.put_start.new.starts.items) n
    (subst (λ (q : ℕ). BeginsAt q c.in-Ok.start c.self.inside.starts.items c.put_start.new.starts.items) c.block_of.ensures
    c.in_ok-put_start.ensures.ok)

pub invariant_of-self : goal.invariant_of-self
invariant_of-self c =
    same_blocks c.self.inside.starts.items c.put_start.new.starts.items c.self.inside.entries.items c.in_err-put_start.ensures.err c.self.invariant

pub returns-in_err-put_start-clause-err : goal.returns-in_err-put_start-clause-err
returns-in_err-put_start-clause-err c =
    let p = err_from_is_err_and c.from_residual.result c.from_residual.ensures.1 in
    rw (p.1, ← c.self.view_is) (λ m.
    same_entries c.self.inside.starts.items c.put_start.new.starts.items c.self.inside.entries.items m c.in_err-put_start.ensures.err)

pub invariant_of-self-in_err-add_copies : goal.invariant_of-self-in_err-add_copies
invariant_of-self-in_err-add_copies c =
    let es = c.self.inside.entries.items in
    let w = (goal.at.invariant_of-self-in_err-add_copies c).In_ok-put_start in
    subst (λ (xs : List Entry). AreBlocks c.put_start.new.starts.items xs) (sym c.in_err-add_copies.ensures.err)
    (blocks_put c.self.inside.starts.items c.put_start.new.starts.items es (c.args.entry.link / BLOCK_LINKS) (length es) c.self.invariant
    (none_there w) (begun w))

pub returns-in_err-add_copies-clause-err : goal.returns-in_err-add_copies-clause-err
returns-in_err-add_copies-clause-err c =
    let es = c.self.inside.entries.items in
    let w = (goal.at.returns-in_err-add_copies-clause-err c).In_ok-put_start in
    let p = err_from_is_err_and c.from_residual-in_err-add_copies.result c.from_residual-in_err-add_copies.ensures.1 in
    rw (p.1, ← c.self.view_is) (λ m.
    ap (λ (xs : List Entry). entry_in (rows_of c.put_start.new.starts.items xs) m) c.in_err-add_copies.ensures.err
    ∙ put_only c.self.inside.starts.items c.put_start.new.starts.items es (c.args.entry.link / BLOCK_LINKS) (length es) m
    (none_there w) (begun w))

pub invariant_of-self-2 : goal.invariant_of-self-2
invariant_of-self-2 c =
    let w = (goal.at.invariant_of-self-2 c).In_ok-put_start in
    subst (λ (xs : List Entry). AreBlocks c.put_start.new.starts.items xs) (sym c.in_ok-add_copies.ensures.ok)
    (blocks_more c.self.inside.starts.items c.put_start.new.starts.items c.self.inside.entries.items c.args.entry c.self.invariant
    (none_there w) (begun w))

pub returns-clause-ok : goal.returns-clause-ok
returns-clause-ok c = λ m.
    let w = (goal.at.returns-clause-ok c).In_ok-put_start in
    ap (λ (xs : List Entry). entry_in (rows_of c.put_start.new.starts.items xs) m) c.in_ok-add_copies.ensures.ok
    ∙ added c.self.inside.starts.items c.put_start.new.starts.items c.self.inside.entries.items c.args.entry m (none_there w) (begun w)
    ∙ ap (λ (rows : SpaceRows). if m == c.args.entry.link then Some c.args.entry else entry_in rows m) c.self.view_is
