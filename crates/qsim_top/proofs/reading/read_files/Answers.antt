use Rattle.scenario.proofs.Common.{refl, arith, get_or, texts_of}
use Rattle.edge_files.specs.declared.files.InFile.TheVariants as file
use Rattle.edge_files.specs.declared.files.TheConstants.{SCENARIO_FILES}
use Rattle.qsim_top.proofs.InTurn.{read_none, read_more, read_all}
use Rattle.qsim_top.proofs.reading.read_files.Goals as goal

pub loop-file-init : goal.loop-file-init
loop-file-init g c = record { read = read_none _ _; later = omega arith }

pub loop-file-preserved : goal.loop-file-preserved
loop-file-preserved g c = record {
  read = read_more (g.I.Inputs.left c.args.inputs.now) (g.I.Inputs.left c.loop-file.inputs) (g.I.Inputs.left c.read_text.new.inputs) (texts_of c.loop-file.files) (texts_of c.put.new.self)
      c.loop-file.file-index file.Settings (get_or SCENARIO_FILES c.loop-file.file-index file.Settings) c.in_ok-text.text
      c.loop-file.invariant.read c.loop-file-test.true refl c.in_ok-text.ensures.text c.in_ok-text.ensures.others c.put.ensures.put c.put.ensures.others;
  later = omega arith;
}

pub returns-clause-files : goal.returns-clause-files
returns-clause-files g c = read_all _ _ _ _ c.loop-file.invariant.read (omega arith)
