-- A refusal writes to the report alone.
use Rattle.traffic.proofs.Common.{◌≡◌, ℕ, List, ◌∙◌, ap, refl, [], ◌∷◌, true, ◌++◌, Bool, subst, false, ◌≢◌, cond, list_all, and_parts}
use Rattle.std.specs.Io.KnownBytes.{Appends}
use Rattle.edge_files.{proofs.Written.bytes_of-append, specs.Effects.steps_of, specs.Effects.all_steps, specs.World.World}
use Rattle.edge_files.specs.{World.byte_steps, World.bytes_of, World.is_same, World.Does, declared.effects.Effect.Effect, declared.files.OutFile.OutFile}
use Rattle.edge_files.specs.declared.files.OutFile.TheVariants as out
use Rattle.edge_files.specs.declared.effects.Effect.TheVariants as effect
use Rattle.qsim_top.specs.Answer.{is_report, OnlyReports}

other_file : (file : OutFile) → file ≢ out.Report → is_same file out.Report ≡ false
other_file out.Events h = refl
other_file out.Scores h = refl
other_file out.Plans h = refl
other_file out.Report h = absurd (h refl)

none_of : (file : OutFile) (text : List ℕ) → is_same file out.Report ≡ false → bytes_of file (byte_steps out.Report text) ≡ []
none_of file [] other = refl
none_of file (b ∷ text) other = ap (λ (same : Bool). cond same (b ∷ bytes_of file (byte_steps out.Report text)) (bytes_of file (byte_steps out.Report text))) other ∙ none_of file text other

none_of_write : (file to : OutFile) (text : List ℕ) → is_same file out.Report ≡ false → is_same to out.Report ≡ true → bytes_of file (byte_steps to text) ≡ []
none_of_write file out.Events text other same = cc
none_of_write file out.Scores text other same = cc
none_of_write file out.Plans text other same = cc
none_of_write file out.Report text other same = none_of file text other

none_of_effect : (file : OutFile) (effect : Effect) → is_same file out.Report ≡ false → is_report effect ≡ true → bytes_of file (steps_of effect) ≡ []
none_of_effect file (effect.Write to text) other same = none_of_write file to text other same
none_of_effect file (effect.Save iteration rows) other same = cc

none_of_all : (file : OutFile) (effects : List Effect) → is_same file out.Report ≡ false → list_all is_report effects ≡ true → bytes_of file (all_steps effects) ≡ []
none_of_all file [] other all = refl
none_of_all file (effect ∷ effects) other all =
    let parts = and_parts (is_report effect) (list_all is_report effects) all in
    bytes_of-append file (steps_of effect) (all_steps effects)
    ∙ ap (λ (bytes : List ℕ). bytes ++ bytes_of file (all_steps effects)) (none_of_effect file effect other parts.0)
    ∙ none_of_all file effects other parts.1

pub only_reports : (old new : World) (effects : List Effect) → list_all is_report effects ≡ true → Does old new (all_steps effects) → OnlyReports old.written new.written
only_reports old new effects all does file other =
    let P : List ℕ → Type 0 = λ bytes. Appends (old.written file) (new.written file) bytes in
    subst P (none_of_all file effects (other_file file other) all) (does.files.each file)
