-- Which partitions a run has, which of them are neighbours, and which of them may do their next second.
use Rattle.std.specs.Prelude.{◌≡◌, ℕ, ◌+◌, ◌<◌, ◌≤◌, Bool, true, false, List, [], ◌∷◌, length, get_or, ◌==◌, if◌then◌else◌}
use Rattle.limits.specs.declared.TheConstants.{MAX_PARTITIONS, MAX_LAG, LAST_SECOND}
use Rattle.step_core.specs.declared.part.Border.{Border}

-- how many partitions there are, which are neighbours, with which lag what the first does becomes known to the second, and how many
-- seconds each has to do
pub record Net : Type 0 where
  pub parts : ℕ
  pub near : ℕ → ℕ → Bool
  pub lag : ℕ → ℕ → ℕ
  pub end : ℕ

-- neighbours are different partitions that are there, each of the other, and lags are 1 to 32 seconds
pub record IsNet (N : Net) : Type 0 where
  pub few : N.parts ≤ MAX_PARTITIONS
  pub short : N.end ≤ LAST_SECOND
  pub there : (q p : ℕ) → N.near q p ≡ true → (q < N.parts) × (p < N.parts)
  pub others : (p : ℕ) → N.near p p ≡ false
  pub both : (q p : ℕ) → N.near q p ≡ N.near p q
  pub some : (q p : ℕ) → N.near q p ≡ true → 1 ≤ N.lag q p
  pub most : (q p : ℕ) → N.near q p ≡ true → N.lag q p ≤ MAX_LAG

abbrev pub no_border : Border
no_border = record { neighbour = 0; lag = 0 }

abbrev pub border_at : List Border → ℕ → Border
border_at rows k = get_or rows k no_border

-- these are the neighbours of p, ascending, with the lags from them
pub record AreBorders (N : Net) (p : ℕ) (rows : List Border) : Type 0 where
  pub each : (k : ℕ) → k < length rows → N.near (border_at rows k).neighbour p ≡ true
  pub lags : (k : ℕ) → k < length rows → (border_at rows k).lag ≡ N.lag (border_at rows k).neighbour p
  pub all : (q : ℕ) → N.near q p ≡ true → (k : ℕ) × (k < length rows) × ((border_at rows k).neighbour ≡ q)
  pub ascend : (j k : ℕ) → j < k → k < length rows → (border_at rows j).neighbour < (border_at rows k).neighbour

-- p may do its next second where it has not come to the end and no neighbour is behind it by the lag or more
pub record MayStep (N : Net) (p : ℕ) (done : ℕ → ℕ) : Type 0 where
  pub is_part : p < N.parts
  pub before_end : done p < N.end
  pub heard : (q : ℕ) → N.near q p ≡ true → done p < done q + N.lag q p

-- the done seconds once p did one more
abbrev pub stepped : ℕ → (ℕ → ℕ) → ℕ → ℕ
stepped p done x = if x == p then done p + 1 else done x

-- partitions that did so many seconds may do one second each in this order, and have then done so many
abbrev pub ComesTo : Net → List ℕ → (ℕ → ℕ) → (ℕ → ℕ) → Type 0
ComesTo N [] done later = (p : ℕ) → later p ≡ done p
ComesTo N (p ∷ ps) done later = MayStep N p done × ComesTo N ps (stepped p done) later

-- some partition may step
pub record SomeMayStep (N : Net) (done : ℕ → ℕ) : Type 0 where
  pub who : ℕ
  pub may : MayStep N who done
