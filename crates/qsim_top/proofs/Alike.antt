-- Files of which each is the same are the same.
use Rattle.std.specs.Prelude.{IfOk}
use Rattle.std.proofs.Common.{◌≡◌, Result, Ok, Err, true, sym, ◌∙◌, subst}
use Rattle.command_line.specs.declared.commands.Command.{Command}
use Rattle.command_line.specs.declared.commands.Command.TheVariants as command
use Rattle.edge_files.{proofs.Placed.is_among, proofs.Placed.file_at_place, specs.Files.in_place, specs.Inputs.Left, specs.declared.files.InFile.InFile}
use Rattle.edge_files.specs.declared.files.InFile.TheVariants as file
use Rattle.scenario.specs.{Texts.Texts, Views.texts_of, declared.files.Files.Files}
use Rattle.qsim_top.specs.{Came.AreRead, Came.HasFiles, Came.reads_files, Contents.Contents, Contents.AreLeft, Contents.AreAlike, Contents.texts_in}

pub alike_texts : (a b : Texts) → AreAlike a b → a ≡ b
alike_texts a b alike = λ i f. each f i
  where
    each : (f : InFile) → a f ≡ b f
    each f = subst (λ (g : InFile). a g ≡ b g) (file_at_place f) (alike (in_place f) file.Settings (is_among f))

-- a command that makes no files has those that are read
read_has : (c : Command) (left : Left) (texts : Texts) → reads_files c ≡ true → HasFiles c left texts → AreRead left texts
read_has command.Run left texts reads has = has
read_has command.Resume left texts reads has = has
read_has command.Check left texts reads has = has
read_has (command.Route from to second) left texts reads has = has
read_has (command.Generate size seed last_iteration) left texts reads has = absurd (cc)

alike_read : (files : Files) (left : Left) (texts : Texts)
    → ((contents : Contents) → AreLeft left contents → AreAlike (texts_of files) (texts_in contents)) → AreRead left texts → texts_of files ≡ texts
alike_read files left texts read (contents, told, same) = alike_texts (texts_of files) (texts_in contents) (read contents told) ∙ sym same

pub files_read : {E : Type 0} (r : Result Files E) (c : Command) (left : Left) → reads_files c ≡ true
    → IfOk r (λ files. (contents : Contents) → AreLeft left contents → AreAlike (texts_of files) (texts_in contents))
    → IfOk r (λ files. (texts : Texts) → HasFiles c left texts → texts_of files ≡ texts)
files_read (Ok files) c left reads read = λ texts has. alike_read files left texts read (read_has c left texts reads has)
files_read (Err e) c left reads read = tt
