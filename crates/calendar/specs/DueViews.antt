-- What contracts see of a calendar, and what it keeps.
use Rattle.std.specs.Prelude.{map}
use Rattle.calendar.specs.{Blocks.head_at, Blocks.all_seconds, Due.Due, Hooks.numbers_at, Hooks.AreLaid}
use Rattle.calendar.specs.declared.{TheConstants.BLOCK_SECONDS, by_second.Calendar.TheInside.Inside}

abbrev pub due_view : Inside → Due
due_view d = all_seconds BLOCK_SECONDS (map (λ rows. map (numbers_at d.hooks.items) rows.items) d.blocks.items)

abbrev pub is_laid : Inside → Type 0
is_laid d = AreLaid (head_at d.blocks.items) d.hooks.items d.free
