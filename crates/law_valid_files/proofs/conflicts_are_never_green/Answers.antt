use Rattle.law_valid_files.proofs.Conflicts.{conflicts_kept}
use Rattle.law_valid_files.proofs.conflicts_are_never_green.Goals as goal

pub returns : goal.returns
returns c = conflicts_kept
