use Rattle.edge_files.proofs.InMemoryReads.{read_tells}
use Rattle.edge_files.proofs.memory_inputs.MemoryInputsInputs.TheImpl.Goals as goal

pub read-tells : goal.read-tells
read-tells c =
    let told = read_tells _ _ _ _ _ _ c.ensures.empty c.ensures.fails c.ensures.reads in
    record { bound = told.bound; bytes = told.bytes; others = told.others; empty = told.empty; cause = told.cause }
