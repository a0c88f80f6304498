-- A core: partitions at their own seconds, and what they sent to one another and did not absorb yet.
use Rattle.std.specs.Prelude.{◌≡◌, ℕ, ◌+◌, ◌-◌, ◌%◌, ◌<◌, ◌≤◌, ◌==◌, if◌then◌else◌, Bool, true, false, List, [], length, get_or, set}
use Rattle.step_core.specs.{Nets.Net, Nets.IsNet, Nets.AreBorders, Nets.MayStep, Views.PartView, Views.IsAt, Wheels.IsNoted, Wheels.lag_in, Wheels.IsFilled}
use Rattle.step_core.specs.{Wheels.HasRoom, declared.cores.Step.Step, declared.cores.Step.TheVariants.Done}
use Rattle.step_core.specs.declared.{cores.Step.TheVariants.Waits, cores.Step.TheVariants.Ended, part.Border.Border, wheel.Wheel.Wheel}

abbrev pub done_at : List ℕ → ℕ → ℕ
done_at done p = get_or done p 0

-- partition p found no memory in a second, and takes part no more
abbrev pub is_stopped : List Bool → ℕ → Bool
is_stopped stopped p = get_or stopped p false

-- Of so many partitions each that goes on stands at its own seconds, its wheel has of each neighbour what that one sent and it has not
-- absorbed, and none is further ahead of a neighbour than the lag. Who was stopped found no memory.
pub record IsCore {T P : Type 0} (nothing : P) (N : Net) (borders : ℕ → List Border) (see : T → PartView P) (stands spent : T → Type 0)
    (right : ℕ → ℕ → ℕ → P → Type 0) (done : List ℕ) (stopped : List Bool) (tables : List (List Border)) (parts : List T)
    (wheels : List (Wheel P)) : Type 0 where
  pub net : IsNet N
  pub dones : length done ≡ N.parts
  pub flags : length stopped ≡ N.parts
  pub lists : length tables ≡ N.parts
  pub many : length parts ≡ N.parts
  pub places : length wheels ≡ N.parts
  pub rows : (p : ℕ) → p < N.parts → AreBorders N p (get_or tables p [])
  pub given : (p : ℕ) → p < N.parts → get_or tables p [] ≡ borders p
  pub early : (p : ℕ) → p < N.parts → done_at done p ≤ N.end
  pub close : (a b : ℕ) → N.near a b ≡ true → done_at done a ≤ done_at done b + N.lag b a
  pub noted : (b : ℕ) (d : Wheel P) → b < N.parts → IsNoted nothing (get_or wheels b d)
  pub lags : (a b : ℕ) (d : Wheel P) → N.near a b ≡ true → lag_in (get_or wheels b d) a ≡ N.lag a b
  pub room : (a b : ℕ) (d : Wheel P) → N.near a b ≡ true
      → HasRoom nothing (done_at done a) (done_at done b) (N.lag a b) a (get_or wheels b d)
  pub filled : (a b : ℕ) (d : Wheel P) → N.near a b ≡ true → is_stopped stopped b ≡ false
      → IsFilled nothing (right a b) (done_at done a) (done_at done b) (N.lag a b) a (get_or wheels b d)
  pub members : (p : ℕ) (d : T) → p < N.parts → is_stopped stopped p ≡ false
      → IsAt nothing see stands p (done_at done p) (length (get_or tables p [])) (get_or parts p d)
  pub halted : (p : ℕ) (d : T) → p < N.parts → is_stopped stopped p ≡ true → spent (get_or parts p d)

-- what a step on p came to: by the done seconds before it and after it
abbrev pub CameTo : Net → ℕ → List ℕ → List ℕ → Step → Type 0
CameTo N p old new Done = MayStep N p (done_at old) × (new ≡ set old p (done_at old p + 1))
CameTo N p old new (Waits q published) =
    (done_at old p < N.end) × (N.near q p ≡ true) × (published ≡ done_at old q) × (published + N.lag q p ≤ done_at old p)
    × ((r : ℕ) → r < q → N.near r p ≡ true → done_at old p < done_at old r + N.lag r p) × (new ≡ old)
CameTo N p old new Ended = (done_at old p ≡ N.end) × (new ≡ old)

-- all partitions have done so many seconds, and none was stopped
pub record AllAt (count t : ℕ) (done : List ℕ) (stopped : List Bool) : Type 0 where
  pub all : (p : ℕ) → p < count → done_at done p ≡ t
  pub goes : (p : ℕ) → p < count → is_stopped stopped p ≡ false

-- who is the k-th of so many partitions in the round of second t: by number in every other round, and backwards in the others
abbrev pub number_in_round : ℕ → ℕ → ℕ → ℕ
number_in_round count t k = if t % 2 == 0 then k else count - 1 - k

-- in this order the first k have done second t, and the others are about to
pub record AreRound (turn : ℕ → ℕ) (count k t : ℕ) (done : List ℕ) (stopped : List Bool) : Type 0 where
  pub before : (j : ℕ) → j < k → done_at done (turn j) ≡ t + 1
  pub behind : (j : ℕ) → k ≤ j → j < count → done_at done (turn j) ≡ t
  pub goes : (p : ℕ) → p < count → is_stopped stopped p ≡ false
