use Rattle.std.proofs.Common.{◌≡◌, ◌∙◌, List, ℕ, Option, Some, ap, length, rules, subst, sym}
use Rattle.rows.specs.Joined.{ends_of}
use Rattle.travel_times.specs.Times.{arrivals}
use Rattle.walks.specs.{Certificates.IsCertificate, Rounds.label_at}
use Rattle.router.specs.declared.found.Found.{Found}
use Rattle.route_report.proofs.Telling.{links_named}
use Rattle.route_report.proofs.report.checked_lines.Goals as goal

pub unreachable-requires : goal.unreachable-requires
unreachable-requires c =
    let args = c.args in
    let network = args.network.now in
    let same : c.deref.result.now ≡ args.found.now.labels = search rules in
    let label : label_at c.deref.result.now args.to ≡ Some args.found.now.arrival =
    ap (λ (l : List (Option ℕ)). label_at l args.to) (same ∙ c.requires.labels) ∙ c.requires.way.label in
    let certificate : IsCertificate (length network.nodes) (ends_of network.links) (arrivals args.times.now) args.from args.second c.deref.result.now =
    subst (λ (l : List (Option ℕ)). IsCertificate (length network.nodes) (ends_of network.links) (arrivals args.times.now) args.from args.second l)
    (sym same) c.requires.certificate in
    let passed = c.check.ensures.certificate.1 (certificate, label ∙ ap (λ (f : Found). Some f.arrival) (sym c.found.view_is)) in
    search rules

pub route_lines-requires-clause-links : goal.route_lines-requires-clause-links
route_lines-requires-clause-links c = links_named c.args.network.now c.args.from c.args.to c.args.found.now.links c.requires.way.walk
