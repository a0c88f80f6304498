use Rattle.qsim_top.proofs.Lawful.{lawful, files_follow, files_go, files_keep}
use Rattle.qsim_top.{proofs.Resumes.files_resume, proofs.Routed.files_report, specs.Laws.day_of}
use Rattle.qsim_top.proofs.laws.know_days.Goals as goal

pub returns-clause-lawful : goal.returns-clause-lawful
returns-clause-lawful c = λ keeps S k. lawful (day_of keeps S k)

pub returns-clause-planned : goal.returns-clause-planned
returns-clause-planned c = files_follow

pub returns-clause-routed : goal.returns-clause-routed
returns-clause-routed c = files_report

pub returns-clause-conflicts : goal.returns-clause-conflicts
returns-clause-conflicts c = files_keep

pub returns-clause-parted : goal.returns-clause-parted
returns-clause-parted c = files_go

pub returns-clause-resumed : goal.returns-clause-resumed
returns-clause-resumed c = files_resume
