-- Members that lie in any order, and their partitions by number.
use Rattle.std.specs.Prelude.{◌≡◌, ℕ, ◌<◌, List, length, get_or, Contains}
use Rattle.workers.specs.{Members.number_of, declared.members.Member.Member}

module _ {T R P : Type 0} where
  -- some member is that of partition p
  abbrev pub HasOne : ℕ → List (Member T R P) → Type 0
  HasOne p ms = (m : Member T R P) × Contains ms m × (number_of m ≡ p)

  -- it is that of partition p
  abbrev pub IsPartIn : ℕ → List (Member T R P) → T → Type 0
  IsPartIn p ms x = (m : Member T R P) × Contains ms m × (number_of m ≡ p) × (x ≡ m.part)

  -- these are the partitions below n of members, by number
  pub record ArePartsOf (ms : List (Member T R P)) (n : ℕ) (parts : List T) : Type 0 where
    pub many : length parts ≡ n
    pub each : (p : ℕ) (d : T) → p < n → IsPartIn p ms (get_or parts p d)
