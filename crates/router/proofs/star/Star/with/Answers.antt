use Rattle.std.proofs.Common.{rules, List, ◌∷◌, ◌++◌, [], ap, ◌∙◌}
use Rattle.router.proofs.Stars.{lists_push}
use Rattle.router.specs.declared.star.Spoke.{Spoke}
use Rattle.router.proofs.star.Star.with.Goals as goal

pub returns : goal.returns
returns c =
    lists_push c.self.inside.starts.items c.self.inside.links.items c.args.more.now c.push.new.self.items
    c.extend_from_slice.new.self.items c.self.invariant (search rules) (search rules)
    ∙ ap (λ (ls : List (List Spoke)). ls ++ c.args.more.now ∷ []) c.self.view_is
