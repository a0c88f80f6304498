use Rattle.std.proofs.Common.{ℕ, List, ap}
use Rattle.rows.specs.declared.network.NodeRow.{NodeRow}
use Rattle.network.proofs.Free.{few_nodes}
use Rattle.network.proofs.nodes.read_nodes.Goals as goal

pub returns-in-Ok-clause-few : goal.returns-in-Ok-clause-few
returns-in-Ok-clause-few c = few_nodes c.args.bytes.now c.in-Ok.field-0.rows.items c.in-Ok.ensures.0 (ap (λ (p : List (List ℕ) × List NodeRow). p.1) c.in-Ok.ensures.1)
