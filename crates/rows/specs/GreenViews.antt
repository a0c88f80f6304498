-- What contracts see of a signal.
use Rattle.rows.specs.{Greens.Phases, Greens.IsLawful, declared.greens.Green.TheInside.Inside}

abbrev pub phases_of : Inside → Phases
phases_of g = record { cycle = g.cycle; offset = g.offset; spans = g.spans }

abbrev pub is_lawful : Inside → Type 0
is_lawful g = IsLawful (phases_of g)
