-- The tables of persons and of the links on which they ride, once strays stand in them.
use Rattle.std.specs.Prelude.{ℕ, List, [], ◌∷◌, set}
use Rattle.traffic.specs.declared.world.Person.{Person}
use Rattle.parted_day.specs.declared.straying.Stray.{Stray}

-- a table by person, once this stands in it of each stray
unfoldable pub with_each : {X : Type 0} → (Stray → X) → List Stray → List X → List X
with_each of [] table = table
with_each of (x ∷ xs) table = with_each of xs (set table x.person (of x))

-- the states of persons, and the links of who rides
abbrev pub with_states : List Stray → List Person → List Person
with_states strays persons = with_each (λ (x : Stray). x.state) strays persons

abbrev pub with_links : List Stray → List ℕ → List ℕ
with_links strays links = with_each (λ (x : Stray). x.link) strays links
