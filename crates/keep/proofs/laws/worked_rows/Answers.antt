use Rattle.std.{proofs.Common.refl, specs.Fmt.digits}
use Rattle.plan_text.specs.Lines.{row_line, act_row, element_rows, element_lines}
use Rattle.keep.specs.Kept.{kept_rows}
use Rattle.keep.proofs.laws.worked_rows.Goals as goal

pub returns : goal.returns
unfolding digits kept_rows row_line act_row element_rows element_lines
returns c = refl
