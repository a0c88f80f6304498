-- Each file that is read stands at its place among all of them.
use Rattle.std.proofs.Common.{◌≡◌, ◌<◌, ◌∙◌, get_or, length, refl, sym, ap, ℕ, lit<}
use Rattle.edge_files.specs.{Files.in_place, declared.files.InFile.InFile, declared.files.TheConstants.SCENARIO_FILES}
use Rattle.edge_files.specs.declared.files.InFile.TheVariants as file

-- the last case is every other file
pub is_among : (f : InFile) → in_place f < length SCENARIO_FILES
is_among file.Settings = lit< tt
is_among _ = lit< tt

pub file_at_place : (f : InFile) → get_or SCENARIO_FILES (in_place f) file.Settings ≡ f
file_at_place file.Settings = refl
file_at_place _ = refl

-- two files at one place are the same
pub same_place : (f other : InFile) → in_place f ≡ in_place other → f ≡ other
same_place f other same = sym (file_at_place f) ∙ ap (λ (place : ℕ). get_or SCENARIO_FILES place file.Settings) same ∙ file_at_place other
