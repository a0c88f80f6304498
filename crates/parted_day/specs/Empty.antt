-- The links of a partition at the start of a day.
use Rattle.std.specs.Prelude.{ℕ, List, map}
use Rattle.law_partitions.specs.Alone.{my_links}
use Rattle.parts.specs.Owners.{Owner}
use Rattle.queue_link.specs.{Links.LinkView, Links.fresh, Numbers.numbers_of}
use Rattle.traffic.specs.Setup.{Setup, link_row}

-- link l: no vehicle is on it, and it has credit for one
abbrev pub empty_link : Setup → ℕ → LinkView
empty_link S l = fresh (numbers_of l (link_row S l) S.settings)

-- all links that end in p, by number
abbrev pub empty_links : Setup → Owner → ℕ → List LinkView
empty_links S own p = map (empty_link S) (my_links S own p)
