-- What a partition makes of the parcels that it absorbs, one after the other.
use Rattle.std.specs.Prelude.{◌≡◌, ℕ, ◌+◌, ◌-◌, ◌<◌, true, false, List, [], ◌∷◌, ◌++◌, length, get_or, replicate, ◌==◌}
use Rattle.std.specs.List.{flat_map, AllByRecursion as Each}
use Rattle.traffic.specs.{Rows.rank, Setup.Setup}
use Rattle.traffic.specs.declared.{stage.Stage.Stage, stage.Stage.TheVariants.Queue, world.Person.Person, world.Row.Row}
use Rattle.parts.specs.Owners.{Owner, owner_of, begins_in, leads, near, lag}
use Rattle.parts.specs.Parts.{Passed, Freed, held, ready, out}
use Rattle.law_partitions.specs.Alone.{rows_to, freed_of, person_in, given}
use Rattle.law_own_worlds.specs.Making.{or_nobody}

-- these are the neighbours of p, and others from which it has no parcel, each once
pub record HearsFrom (S : Setup) (own : Owner) (p : ℕ) (ns : List ℕ) : Type 0 where
  pub all : (q : ℕ) → near S own q p ≡ true → (k : ℕ) × (k < length ns) × (get_or ns k 0 ≡ q)
  pub ascend : (j k : ℕ) → j < k → k < length ns → get_or ns j 0 < get_or ns k 0

-- What their parcels bring before second t, in order: the rows that come into the queue of link l, the places of link m that were left,
-- by their seconds, and the rows of person i.
abbrev pub heard_rows : Setup → Owner → ℕ → ℕ → List ℕ → ℕ → List Row
heard_rows S own p t ns l = flat_map (λ q. rows_to l (given S own p t q)) ns

abbrev pub heard_holes : Setup → Owner → ℕ → ℕ → List ℕ → ℕ → List ℕ
heard_holes S own p t ns m = flat_map (λ q. replicate (freed_of m (given S own p t q)) (t - lag S own q p)) ns

abbrev pub heard_persons : Setup → Owner → ℕ → ℕ → List ℕ → ℕ → List Person
heard_persons S own p t ns i = flat_map (λ q. person_in i (t - lag S own q p) (given S own p t q)) ns

-- the last of these persons, or this one where there is none
abbrev pub last_or : Person → List Person → Person
last_or P [] = P
last_or P (x ∷ xs) = last_or x xs

-- All of it, put to what p holds, is what it has then.
pub record IsReadyBy (S : Setup) (own : Owner) (p t : ℕ) (ns : List ℕ) : Type 0 where
  pub queue : (l : ℕ) → owner_of S own l ≡ p → (ready S own p t).list l Queue ≡ (held S own p t).list l Queue ++ heard_rows S own p t ns l
  pub list : (l : ℕ) (s : Stage) → (rank s == 0) ≡ false → (ready S own p t).list l s ≡ (held S own p t).list l s
  pub credit : (l : ℕ) → (ready S own p t).credit l ≡ (held S own p t).credit l
  -- no more places were left than p knows rows
  pub rows : (m : ℕ) → begins_in S own m ≡ p → (ready S own p t).rows m + length (heard_holes S own p t ns m) ≡ (held S own p t).rows m
  pub holes : (m : ℕ) → begins_in S own m ≡ p → (ready S own p t).holes m ≡ (held S own p t).holes m ++ heard_holes S own p t ns m
  -- whoever comes twice, or is there, comes as he is
  pub person :
      (i : ℕ) → i < length S.persons
      → or_nobody ((ready S own p t).person i) ≡ last_or (or_nobody ((held S own p t).person i)) (heard_persons S own p t ns i)

-- what a parcel brings from q to p concerns the links that lead there, and those that lead back
pub record IsBetween (S : Setup) (own : Owner) (q p s : ℕ) : Type 0 where
  pub vehicles : Each (λ (y : Passed). leads S own q p y.row.link ≡ true) (out S own q p s).vehicles
  pub freed_places : Each (λ (f : Freed). (leads S own p q f.link ≡ true) × (f.link < length S.links)) (out S own q p s).freed
