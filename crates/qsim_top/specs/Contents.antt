-- What the files of a scenario hold.
use Rattle.std.specs.Prelude.{◌≡◌, ℕ, List, All, Option, None, Some, if◌then◌else◌}
use Rattle.edge_files.specs.{Inputs.Left, declared.files.InFile.InFile, declared.files.TheConstants.SCENARIO_FILES}
use Rattle.records.specs.Files.{is_too_long}
use Rattle.scenario.specs.Texts.{Texts}

-- the bytes of each file
abbrev pub Contents : Type 0
Contents = InFile → List ℕ

-- these bytes are left of each file of a scenario, and that is told
abbrev pub AreLeft : Left → Contents → Type 0
AreLeft left contents = All (λ file. left file ≡ Some (contents file)) SCENARIO_FILES

-- a file of more than 2^28 bytes is too long
unfoldable pub text_of : List ℕ → Option (List ℕ)
text_of bytes = if is_too_long bytes then None else Some bytes

-- the files as a scenario takes them
abbrev pub texts_in : Contents → Texts
texts_in contents file = text_of (contents file)

-- of each file of a scenario the same
abbrev pub AreAlike : Texts → Texts → Type 0
AreAlike a b = All (λ file. a file ≡ b file) SCENARIO_FILES
