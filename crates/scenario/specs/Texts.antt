-- The files of a scenario.
use Rattle.std.specs.Prelude.{ℕ, List, [], Option, unwrap_or}
use Rattle.edge_files.specs.declared.files.InFile.{InFile}

-- the bytes of each file, or none where it is too long
abbrev pub Texts : Type 0
Texts = InFile → Option (List ℕ)

-- the bytes that are read of a file: none of one that is too long
abbrev pub bytes_in : Texts → InFile → List ℕ
bytes_in T file = unwrap_or (T file) []
