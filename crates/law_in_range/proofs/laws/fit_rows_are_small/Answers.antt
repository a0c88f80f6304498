use Rattle.law_in_range.proofs.Sizes.{call_offset, buffer_next, buffer_next_link}
use Rattle.law_in_range.proofs.laws.fit_rows_are_small.Goals as goal

pub returns : goal.returns
returns c = assumption (call_offset, buffer_next, buffer_next_link)
