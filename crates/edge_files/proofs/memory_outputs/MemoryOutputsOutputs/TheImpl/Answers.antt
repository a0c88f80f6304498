use Rattle.edge_files.proofs.InMemoryWrites.{write_tells}
use Rattle.edge_files.proofs.memory_outputs.MemoryOutputsOutputs.TheImpl.Goals as goal

pub write-tells : goal.write-tells
write-tells c =
    let told = write_tells _ _ _ _ _ c.ensures.empty c.ensures.fails c.ensures.takes in
    record { bound = told.bound; some = told.some; bytes = told.bytes; empty = told.empty; cause = told.cause }
