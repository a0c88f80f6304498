use Rattle.scenario.proofs.Common.{refl, arith, ◌∙◌, get_or, texts_of}
use Rattle.edge_files.specs.declared.files.InFile.TheVariants as file
use Rattle.edge_files.specs.declared.files.TheConstants.{SCENARIO_FILES}
use Rattle.qsim_top.proofs.InTurn.{put_none, put_more, put_all}
use Rattle.qsim_top.proofs.reading.grid_files.Goals as goal

pub loop-file-init : goal.loop-file-init
loop-file-init c = put_none _ _

pub loop-file-preserved : goal.loop-file-preserved
loop-file-preserved c =
    put_more (texts_of c.loop-file.files) (texts_of c.put.new.self) _ c.loop-file.file-index file.Settings
    (get_or SCENARIO_FILES c.loop-file.file-index file.Settings) c.loop-file.invariant c.loop-file-test.true refl
    (c.put.ensures.put ∙ c.in_ok-text.ensures) c.put.ensures.others

pub returns : goal.returns
returns c = put_all _ _ _ c.loop-file.invariant (omega arith)
