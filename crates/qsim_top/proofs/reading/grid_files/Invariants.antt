use Rattle.scenario.proofs.Common.{texts_of}
use Rattle.workload.specs.Texts.{grid_texts}
use Rattle.qsim_top.proofs.InTurn.{PutTo}
use Rattle.qsim_top.proofs.reading.grid_files.Given as goal

abbrev pub invariant-loop-file : goal.invariant-loop-file
invariant-loop-file l = PutTo (texts_of l.files) (grid_texts l.grid.size l.grid.seed l.grid.last_iteration) l.file-index
