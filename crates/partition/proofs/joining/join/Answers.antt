use Rattle.std.proofs.Common.{sym, subst, set, true}
use Rattle.partition.{proofs.Tables.joined_once, specs.Neighbours.AreJoined, specs.Neighbours.is_either, specs.Neighbours.place_of}
use Rattle.partition.proofs.joining.join.Goals as goal

pub returns : goal.returns
returns c =
    let old = c.args.joined.now in
    let from = c.args.from in
    let to = c.args.to in
    subst (λ a. AreJoined (is_either from to) old (set (set old a true) c.place_of-2.result true)) (sym c.place_of.ensures.value)
    (subst (λ b. AreJoined (is_either from to) old (set (set old (place_of from to) true) b true)) (sym c.place_of-2.ensures.value)
    (joined_once from to old c.requires.from c.requires.to c.requires.long))
