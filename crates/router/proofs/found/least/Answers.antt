use Rattle.std.proofs.Common.{◌≡◌, ℕ, List, length, sym, ap, ◌∙◌}
use Rattle.travel_times.{proofs.Networks.length-ends_of, specs.Times.LinkProfile}
use Rattle.router.proofs.{Answering.is_certificate, Graphs.network_within}
use Rattle.router.specs.{Graphs.Graph, Ways.Query, Ways.least_of, Ways.query_on}
use Rattle.router.proofs.found.least.Goals as goal

pub new-requires-clause-times : goal.new-requires-clause-times
new-requires-clause-times c =
    c.requires.times ∙ sym (ap (λ (g : Graph). length g.ends) c.in-Ok.ensures ∙ length-ends_of c.args.network.now.links)

pub returns-clause-certificate : goal.returns-clause-certificate
returns-clause-certificate c =
    let network = c.args.network.now in
    let asked : c.in-Ok-way_to.search ≡ query_on network c.args.times.now c.args.from c.args.second =
    c.in-Ok-way_to.ensures.same ∙ c.in-Ok-new.ensures ∙ ap (λ (g : Graph). on g c.args.times.now c.args.from c.args.second)
    c.in-Ok.ensures in
    is_certificate (query_on network c.args.times.now c.args.from c.args.second) c.in-Ok-finish.labels
    (network_within (length network.nodes) network.links network.sound) c.requires.from
    (c.in-Ok-finish.ensures.least ∙ ap (λ (q : Query). least_of q) asked)
    c.in-Ok-finish.ensures.small
  where
    on : Graph → List LinkProfile → ℕ → ℕ → Query
    on graph times from second = record { graph = graph; times = times; from = from; second = second }
