-- The partitions of a run on their way through it.
use Rattle.std.specs.Prelude.{ℕ, ◌<◌, ◌≤◌, List}
use Rattle.step_core.specs.{Nets.Net, Views.PartView, declared.part.Border.Border}
use Rattle.workers.specs.{Members.IsBoardOfRun, Members.AreMembers, Members.AllEnd, Sharing.HasOne, declared.days.Running.Running}

-- they are all partitions of the run, in any order, each after t seconds, and none found no memory
pub record IsRunning {T R P : Type 0} (net : R → Net) (borders : R → ℕ → List Border) (nothing : P) (see : T → PartView P)
    (stands : R → T → Type 0) (spent : T → Type 0) (right : R → ℕ → ℕ → ℕ → P → Type 0) (run : R) (t : ℕ) (x : Running T R P)
    : Type 0 where
  pub board : IsBoardOfRun net borders nothing right run x.board
  pub some : 1 ≤ x.workers
  pub members : AreMembers (net run).end borders nothing see stands spent right run x.board x.bundle.members.items
  pub level : AllEnd t x.bundle.members.items
  pub all : (p : ℕ) → p < (net run).parts → HasOne p x.bundle.members.items
