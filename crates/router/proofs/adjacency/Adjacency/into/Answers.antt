use Rattle.std.proofs.Common.{List, ◌<◌, ◌≡◌, length, map, sym, subst}
use Rattle.std.specs.Prelude.{All, Contains}
use Rattle.walks.specs.Walks.{start_of, end_of}
use Rattle.router.{proofs.Graphs.into_each, proofs.Graphs.into_every, specs.declared.star.Spoke.Spoke}
use Rattle.router.proofs.adjacency.Adjacency.into.Goals as goal

pub returns-clause-each : goal.returns-clause-each
returns-clause-each c =
    subst (λ (ls : List Spoke). All (λ spoke. (spoke.link < length c.args.self.now.ends)
    × (end_of c.args.self.now.ends spoke.link ≡ c.args.node) × (spoke.node ≡ start_of c.args.self.now.ends spoke.link)
    × (spoke.node < c.args.self.now.nodes)) ls)
    (sym c.links_of.ensures) (into_each c.self.inside c.args.self.now c.self.invariant c.self.view_is c.args.node)

pub returns-clause-every : goal.returns-clause-every
returns-clause-every c link within beside =
    subst (λ (ls : List Spoke). Contains (map (λ (spoke : Spoke). spoke.link) ls) link) (sym c.links_of.ensures)
    (into_every c.self.inside c.args.self.now c.self.invariant c.self.view_is c.args.node link within beside)
