use Rattle.std.proofs.Common.{rules, arith, ◌≡◌, List, ap, length}
use Rattle.router.proofs.Stars.{length-lists}
use Rattle.router.specs.declared.star.Spoke.{Spoke}
use Rattle.router.proofs.star.Star.len.Goals as goal

pub returns : goal.returns
returns c =
    let count : c.len.result ≡ length c.self.inside.starts.items = search rules in
    let lists = length-lists c.self.inside.starts.items c.self.inside.links.items in
    let same = ap (λ (ls : List (List Spoke)). length ls) c.self.view_is in
    omega arith
