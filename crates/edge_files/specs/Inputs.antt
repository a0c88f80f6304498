-- What is left of the files that are read.
use Rattle.std.specs.Prelude.{◌≡◌, ◌≢◌, ◌<◌, ◌≤◌, ℕ, List, length, Option, None, Some}
use Rattle.std.specs.Io.KnownBytes.{Consumes}
use Rattle.edge_files.specs.declared.files.InFile.{InFile}

-- what is left of each file, where it is told
abbrev pub Left : Type 0
Left = InFile → Option (List ℕ)

-- every file but one is as it was
abbrev pub OthersStay : Left → Left → InFile → Type 0
OthersStay old new file = (other : InFile) → other ≢ file → new other ≡ old other

-- the bytes are all that was left
abbrev pub IsWhole : Option (List ℕ) → List ℕ → Type 0
IsWhole None bytes = Unit {0}
IsWhole (Some left) bytes = bytes ≡ left

-- more bytes than the limit were left
abbrev pub IsLonger : Option (List ℕ) → ℕ → Type 0
IsLonger None limit = Unit {0}
IsLonger (Some left) limit = limit < length left

-- at most so many bytes of a file were taken, from its front
pub record TakesAtMost (old new : Option (List ℕ)) (count : ℕ) : Type 0 where
  pub taken : List ℕ
  pub took : Consumes old new taken
  pub within : length taken ≤ count
