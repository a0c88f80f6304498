use Rattle.std.proofs.Common.{◌<◌, ℕ, subst, sym}
use Rattle.events.proofs.NameLists.{name_at-number_of}
use Rattle.route_report.proofs.report.route_text.Goals as goal

pub text_between-requires-clause-from : goal.text_between-requires-clause-from
text_between-requires-clause-from c =
    subst (λ (n : ℕ). c.in-Some.start < n) c.args.network.now.each_node
    (name_at-number_of c.args.from.now c.args.network.now.node_names c.in-Some.start (sym c.in-Some.ensures)).0

pub text_between-requires-clause-to : goal.text_between-requires-clause-to
text_between-requires-clause-to c =
    subst (λ (n : ℕ). c.in-Some-find.end < n) c.args.network.now.each_node
    (name_at-number_of c.args.to.now c.args.network.now.node_names c.in-Some-find.end (sym c.in-Some-find.ensures)).0
