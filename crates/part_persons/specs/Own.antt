-- Who begins a day in one partition of its network, and which departures start there.
use Rattle.std.specs.Prelude.{ℕ, Bool, List, length, map, filter, get_or, ◌==◌, if◌then◌else◌}
use Rattle.traffic.specs.Day.{at_home, world_start}
use Rattle.traffic.specs.{Lists.below, Rows.nobody, Rows.person_of, Setup.Setup, Setup.person_plan, Setup.departure, declared.world.Person.Person}
use Rattle.parts.specs.Owners.{Owner, owner_of, owner_of_person}

-- the persons of partition p at the start of a day; nobody stands for each of the others
abbrev pub own_person : Setup → Owner → ℕ → ℕ → Person
own_person S own p i = if owner_of_person S own (world_start S) i == p then person_of i (world_start S) else nobody

abbrev pub own_persons : Setup → Owner → ℕ → List Person
own_persons S own p = map (own_person S own p) (below (length S.persons))

-- the row in partition p, at the start of a day, of person i who begins it in the partition home
abbrev pub row_of : Setup → ℕ → ℕ → ℕ → Person
row_of S p home i = if home == p then at_home (person_plan S i) else nobody

-- that of person i, and those of all, out of all their homes, by number
abbrev pub first_row : Setup → List ℕ → ℕ → ℕ → Person
first_row S homes p i = row_of S p (get_or homes i 0) i

abbrev pub first_rows : Setup → List ℕ → ℕ → List Person
first_rows S homes p = map (first_row S homes p) (below (length S.persons))

-- whether a departure starts on a link of partition p, and those that do, by number
abbrev pub starts_in : Setup → Owner → ℕ → ℕ → Bool
starts_in S own p d = owner_of S own (get_or (departure S d).route 0 0) == p

abbrev pub own_departures : Setup → Owner → ℕ → List ℕ
own_departures S own p = filter (starts_in S own p) (below (length S.departures))

-- those of them that start in second t
abbrev pub own_departs_in : Setup → Owner → ℕ → ℕ → List ℕ
own_departs_in S own p t = filter (λ d. (departure S d).second == t) (own_departures S own p)
