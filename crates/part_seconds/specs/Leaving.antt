-- Who is left once others went to other partitions.
use Rattle.std.specs.Prelude.{◌≡◌, ℕ, ◌<◌, Bool, false, List, length, if◌then◌else◌, ◌==◌}
use Rattle.traffic.specs.{Rows.person_of, Rows.nobody, Setup.Setup}
use Rattle.parts.specs.Owners.{Owner}
use Rattle.step_core.specs.{Nets.border_at, declared.part.Border.Border}
use Rattle.law_parcels.specs.Sending.{is_gone}
use Rattle.part_persons.specs.{Dues.AreFollowed, declared.persons.Persons.Persons}

-- nobody stands for those who went; all else is as it was
pub record AreWithout (went : ℕ → Bool) (old new : Persons) : Type 0 where
  pub each :
      (i : ℕ) → i < length old.world.persons → person_of i new.world ≡ (if went i then nobody else person_of i old.world)
  pub count : length new.world.persons ≡ length old.world.persons
  pub rest : new.world ≡ record old.world { persons = new.world.persons }
  pub followed :
      (S : Setup) (end t : ℕ) → AreFollowed S end t old.world.persons old.wakes → AreFollowed S end t new.world.persons new.wakes
  pub wakes : length new.wakes ≡ length old.wakes

-- so those who went from partition p in second t
abbrev pub HaveGone : Setup → Owner → ℕ → ℕ → Persons → Persons → Type 0
HaveGone S own p t old new = AreWithout (is_gone S own p t) old new

-- these are neighbours of partition p, ascending
pub record AreOthers (p : ℕ) (borders : List Border) : Type 0 where
  pub each : (k : ℕ) → k < length borders → ((border_at borders k).neighbour == p) ≡ false
  pub ascend : (j k : ℕ) → j < k → k < length borders → (border_at borders j).neighbour < (border_at borders k).neighbour
