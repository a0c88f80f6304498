-- What contracts see of the credits of links.
use Rattle.std.specs.Prelude.{ℕ, List}
use Rattle.person_moves.specs.{Credits.credits_in, declared.link_credits.LinkCredits.TheInside.Inside}

abbrev pub credits_view : Inside → List ℕ
credits_view c = credits_in c.links c.each.items
