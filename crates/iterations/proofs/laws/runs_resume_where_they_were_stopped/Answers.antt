use Rattle.iterations.{proofs.ReadBack.run_back, proofs.Tails.resumes, specs.Acts.memories_at, specs.Days.memories_after}
use Rattle.iterations.proofs.laws.runs_resume_where_they_were_stopped.Goals as goal

pub returns-clause-resumed : goal.returns-clause-resumed
returns-clause-resumed c R last first k effects is within goes = resumes R last first k effects is within goes

pub returns-clause-read_back : goal.returns-clause-read_back
returns-clause-read_back c R first k is = run_back R first is k

pub returns-clause-never_foreign : goal.returns-clause-never_foreign
returns-clause-never_foreign c R first k place is foreign =
    foreign.unfit (memories_after R k (memories_at R first k)) (run_back R first is k)
