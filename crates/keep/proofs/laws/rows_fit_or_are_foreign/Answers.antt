use Rattle.keep.proofs.Either.{fit_or_foreign, one_list, one_place}
use Rattle.keep.proofs.laws.rows_fit_or_are_foreign.Goals as goal

pub returns-clause-either : goal.returns-clause-either
returns-clause-either c T rows are = fit_or_foreign T are rows

pub returns-clause-never_both : goal.returns-clause-never_both
returns-clause-never_both c T rows memories place fit foreign = foreign.unfit memories fit

pub returns-clause-one_list : goal.returns-clause-one_list
returns-clause-one_list c T rows memories others are fit other = one_list T are rows memories others fit other

pub returns-clause-one_place : goal.returns-clause-one_place
returns-clause-one_place c T rows a b is other = one_place T rows a b is other
