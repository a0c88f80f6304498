-- What a run does to its output files and to its keeper, step by step.
use Rattle.std.specs.Prelude.{◌≡◌, ◌==◌, ℕ, List, [], ◌∷◌, ◌++◌, map, take, Bool, cond, Option, None, Some, Result, MatchResult}
use Rattle.std.specs.Io.KnownBytes.{Appends}
use Rattle.edge_files.specs.{Files.out_place, Keeping.Kept, Keeping.Told, declared.files.OutFile.OutFile}

-- what was written to each file, where it is told
abbrev pub Written : Type 0
Written = OutFile → Option (List ℕ)

-- the outside that a run changes
pub record World : Type 0 where
  pub written : Written
  pub kept : Told

-- what outputs and a keeper tell
abbrev pub outside : Written → Told → World
outside written kept = record { written = written; kept = kept }

-- one byte goes to the end of a file, or an iteration's plans are kept
pub data Step : Type 0 where
  Byte : OutFile → ℕ → Step
  Saved : Kept → Step

-- these bytes in turn, all to one file
abbrev pub byte_steps : OutFile → List ℕ → List Step
byte_steps file bytes = map (Byte file) bytes

-- whether it is the same file
abbrev pub is_same : OutFile → OutFile → Bool
is_same file to = out_place file == out_place to

-- the bytes that go to a file
abbrev pub bytes_of : OutFile → List Step → List ℕ
bytes_of file [] = []
bytes_of file (Byte to b ∷ steps) = cond (is_same file to) (b ∷ bytes_of file steps) (bytes_of file steps)
bytes_of file (Saved kept ∷ steps) = bytes_of file steps

-- what is kept behind the steps: the last save, or what was kept before
abbrev pub kept_after : Option Kept → List Step → Option Kept
kept_after before [] = before
kept_after before (Byte to b ∷ steps) = kept_after before steps
kept_after before (Saved kept ∷ steps) = kept_after (Some kept) steps

-- each told file grew by exactly its bytes
pub record Writes (old new : Written) (steps : List Step) : Type 0 where
  pub each : (file : OutFile) → Appends (old file) (new file) (bytes_of file steps)

-- a front of a piece was written
pub record WritesPart (old new : Written) (file : OutFile) (piece : List ℕ) : Type 0 where
  pub done : List ℕ
  pub rest : List ℕ
  pub front : done ++ rest ≡ piece
  pub writes : Writes old new (byte_steps file done)

-- a write took the first n bytes at Ok(n), and none where it failed
abbrev pub WriteDid : {E : Type 0} → Written → Written → OutFile → Result ℕ E → List ℕ → Type 0
WriteDid old new file result piece = MatchResult result (λ n. Writes old new (byte_steps file (take n piece))) (λ _. Writes old new [])

-- a keeper that told holds the last save, or what it held
abbrev pub KeptBecomes : Told → Told → List Step → Type 0
KeptBecomes None new steps = Unit {0}
KeptBecomes (Some before) new steps = new ≡ Some (kept_after before steps)

-- so, or the keeper tells no more
abbrev pub KeptBecomesIfTold : Told → Told → List Step → Type 0
KeptBecomesIfTold None new steps = Unit {0}
KeptBecomesIfTold (Some before) None steps = Unit {0}
KeptBecomesIfTold (Some before) (Some after) steps = after ≡ kept_after before steps

-- the steps were done: each told file grew by its bytes, and a told keeper holds the last save
pub record Does (old new : World) (steps : List Step) : Type 0 where
  pub files : Writes old.written new.written steps
  pub keeper : KeptBecomes old.kept new.kept steps

-- a front of the steps was done, and the keeper may have stopped telling
pub record DoesPart (old new : World) (all : List Step) : Type 0 where
  pub done : List Step
  pub rest : List Step
  pub front : done ++ rest ≡ all
  pub files : Writes old.written new.written done
  pub keeper : KeptBecomesIfTold old.kept new.kept done
