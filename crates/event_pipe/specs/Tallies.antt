-- How far a tally has come.
use Rattle.std.specs.Prelude.{ℕ, ◌+◌}
use Rattle.event_pipe.specs.declared.tally.Tally.{Tally, TheVariants.Nothing, TheVariants.OneMore'}

-- one more for each tally inside
abbrev pub count_of : Tally → ℕ
count_of Nothing = 0
count_of (OneMore' marker before) = count_of before + 1
