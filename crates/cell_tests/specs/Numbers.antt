-- The numbers that the tests send.
use Rattle.std.specs.Prelude.{◌≡◌, ◌≢◌, ℕ, ◌+◌, ◌*◌, ◌%◌, Option, Some, None}

-- the number of a run, of a sender and of a second
abbrev pub number_of : ℕ → ℕ → ℕ → ℕ
number_of run sender second = 1000000 * run + 10000 * sender + second

-- what is right of a run, from a sender in a second: none where sender and second leave 2 of 3, and else the number
pub record IsMessage (run sender second : ℕ) (x : Option ℕ) : Type 0 where
  pub silent : (sender + second) % 3 ≡ 2 → x ≡ None
  pub told : (sender + second) % 3 ≢ 2 → x ≡ Some (number_of run sender second)

-- the same for each receiver
abbrev pub IsNumber : ℕ → ℕ → ℕ → ℕ → Option ℕ → Type 0
IsNumber run sender receiver second x = IsMessage run sender second x
