use Rattle.law_in_range.proofs.Towns.{setup_fit, town_fit, book_of}
use Rattle.law_in_range.proofs.laws.towns_are_fit.Goals as goal

pub returns : goal.returns
returns c = assumption (setup_fit, town_fit, book_of)
