use Rattle.std.proofs.Common.{lit≤}
use Rattle.edge_files.proofs.InMemoryReads.{reads_tells}
use Rattle.edge_files.proofs.memory_inputs.SureInputsInputs.TheImpl.Goals as goal

pub read-tells : goal.read-tells
read-tells c =
    let told = reads_tells _ _ _ _ _ _ c.ensures 0 0 (lit≤ tt) in
    record { bound = told.bound; bytes = told.bytes; others = told.others; empty = told.empty; cause = told.cause }
