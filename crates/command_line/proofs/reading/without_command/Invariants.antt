use Rattle.std.proofs.Common.{◌≡◌, ◌∷◌, map, string_bytes, take}
use Rattle.command_line.proofs.reading.without_command.Given as goal

-- the program's name and the words so far are taken
abbrev pub invariant-loop-word : goal.invariant-loop-word
invariant-loop-word l = map (λ s. s.now) l.kept.items ≡ string_bytes l.program ∷ map string_bytes (take l.word-index l.others)
