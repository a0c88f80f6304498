use Rattle.scenario.proofs.Common.{◌≤◌, texts_of}
use Rattle.qsim_top.proofs.InTurn.{ReadTo}
use Rattle.qsim_top.proofs.reading.read_files.Given as goal

abbrev pub invariant-loop-file : goal.invariant-loop-file
invariant-loop-file g l = record {
  read : ReadTo (g.I.Inputs.left l.initial.inputs) (g.I.Inputs.left l.inputs) (texts_of l.files) l.file-index;
  later : g.I.Inputs.faults l.initial.inputs ≤ g.I.Inputs.faults l.inputs;
}
