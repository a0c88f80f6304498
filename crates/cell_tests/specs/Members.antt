-- What the tests know of their boards and members.
use Rattle.std.specs.Prelude.{◌≡◌, ℕ, ◌<◌, ◌≤◌, true, List, length, slice_index_or}
use Rattle.cells.specs.declared.board.Board.{Board}
use Rattle.cells.specs.Ports.{IsHub, IsPort, IsUntouched, degree, handover, is_awaited, run_of, count_of}
use Rattle.cell_tests.specs.{Numbers.IsNumber, declared.members.Member.Member, declared.members.Trial.Trial, declared.numbers.Numbers.Numbers}

abbrev pub NumberBoard : Type 0
NumberBoard = Board Numbers ℕ ℕ

-- it is a board of run 5
pub record IsTestBoard (b : NumberBoard) : Type 0 where
  pub run : run_of b ≡ 5
  pub few : count_of b ≤ 64

-- a port of this board, of which nothing was taken and nothing put in this second, and which holds nothing where it rests
pub record IsMember (b : NumberBoard) (m : Member) : Type 0 where
  pub port : IsPort IsNumber b m.port
  pub untouched : IsUntouched m.port
  pub resting : m.is_resting ≡ true → (k : ℕ) → k < degree m.port → is_awaited (handover m.port k) ≡ true

abbrev pub AreMembers : NumberBoard → List Member → Type 0
AreMembers b ms = (i : ℕ) (d : Member) → i < length ms → IsMember b (slice_index_or ms i d)

-- as many members as before, all of this board
abbrev pub KeepsMembers : NumberBoard → List Member → List Member → Type 0
KeepsMembers b old new = (i : ℕ) (d : Member) → i < length old → IsMember b (slice_index_or new i d)

-- a board of run 5, its hub, and members of it
pub record IsTrial (t : Trial) : Type 0 where
  pub board : IsTestBoard t.board
  pub count : t.count ≡ count_of t.board
  pub hub : IsHub t.board t.hub
  pub members : AreMembers t.board t.members.items
