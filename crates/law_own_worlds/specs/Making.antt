-- What a partition holds, made a world.
use Rattle.std.specs.Prelude.{◌≡◌, ℕ, ◌-◌, ◌≤◌, true, List, [], ◌++◌, length, map, replicate, Option, None, Some}
use Rattle.std.specs.List.{flat_map, AllByRecursion as Each}
use Rattle.traffic.specs.{Lists.below, Rows.World, Rows.on, Rows.nobody, Setup.Setup, declared.stage.Stage.Stage}
use Rattle.traffic.specs.declared.stage.Stage.TheVariants.{Queue, Buffer, Wait, Bay}
use Rattle.traffic.specs.declared.world.{Hole.Hole, Person.Person, Row.Row}
use Rattle.parts.specs.{Owners.Owner, Owners.begins_in, Parts.Held}

-- the row of a person whom it has, or that of nobody
abbrev pub or_nobody : Option Person → Person
or_nobody None = nobody
or_nobody (Some P) = P

-- the rows of a link, list by list
abbrev pub rows_on : Held → ℕ → List Row
rows_on H l = H.list l Queue ++ (H.list l Buffer ++ (H.list l Wait ++ H.list l Bay))

-- a place of link m that was left in second s
abbrev pub hole : ℕ → ℕ → Hole
hole m s = record { link = m; second = s }

-- The holes of a link before second t: those that it knows, and one of this second for each row of the queue that it does not have, which
-- takes as much room.
abbrev pub holes_on : Held → ℕ → ℕ → List Hole
holes_on H t m = map (hole m) (H.holes m ++ replicate (H.rows m - length (H.list m Queue)) t)

-- a world with what it holds, before second t
unfoldable pub own_world : Setup → ℕ → Held → World
own_world S t H =
    record {
      rows = flat_map (rows_on H) (below (length S.links));
      persons = map (λ i. or_nobody (H.person i)) (below (length S.persons));
      credits = map H.credit (below (length S.links));
      holes = flat_map (holes_on H t) (below (length S.links));
    }

-- What partition p holds is of persons and links that are there: each row of a list stands on its link and stage, and of a link that
-- begins in p it knows of no fewer rows than it has.
pub record IsKnown (S : Setup) (own : Owner) (p : ℕ) (H : Held) : Type 0 where
  pub on : (l : ℕ) (s : Stage) → Each (λ (r : Row). on l s r ≡ true) (H.list l s)
  pub links : (l : ℕ) (s : Stage) → length S.links ≤ l → H.list l s ≡ []
  pub rows : (m : ℕ) → length S.links ≤ m → H.rows m ≡ 0
  pub holes : (m : ℕ) → length S.links ≤ m → H.holes m ≡ []
  pub persons : (i : ℕ) → length S.persons ≤ i → H.person i ≡ None
  pub queue : (m : ℕ) → begins_in S own m ≡ p → length (H.list m Queue) ≤ H.rows m
