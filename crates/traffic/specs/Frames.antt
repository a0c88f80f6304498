-- What moves leave as it was, and turns that do not change what others see.
use Rattle.std.specs.Prelude.{◌≡◌, ℕ, ◌≢◌, Bool, false, true, List, [], ◌∷◌, ◌==◌, Option, None, Some}
use Rattle.events.specs.{Keys.key_before, declared.event.Event.Event}
use Rattle.traffic.specs.{Day.TurnMoves, Day.Turn, Moves.Move, Moves.Transfer, Moves.Remove, Moves.Enter, Moves.SetFrontSince, Moves.Credit, Moves.LeaveHole}
use Rattle.traffic.specs.{Moves.Report, Moves.run, Moves.touches, Rows.World, Setup.Setup, Setup.link_row, Telling.Occurrence, declared.stage.Stage.Stage}
use Rattle.traffic.specs.declared.stage.Stage.TheVariants.{Queue, Buffer, Wait, Bay}

-- no move changes the rows of link l at stage s
abbrev pub Untouched : ℕ → Stage → List Move → Type 0
Untouched l s [] = Unit {0}
Untouched l s (m ∷ ms) = (touches l s m ≡ false) × Untouched l s ms

-- all that a move changes of vehicles is at link l
abbrev pub IsAt : ℕ → Move → Type 0
IsAt l (Transfer a s k was now) = (a ≡ l) × (now.link ≡ l)
IsAt l (Remove a s k was) = a ≡ l
IsAt l (Enter now) = now.link ≡ l
IsAt l (SetFrontSince a t) = a ≡ l
IsAt l (Credit a c) = a ≡ l
IsAt l (LeaveHole a t) = a ≡ l
IsAt l (Report says) = Unit {0}

abbrev pub AreAt : ℕ → List Move → Type 0
AreAt l [] = Unit {0}
AreAt l (m ∷ ms) = IsAt l m × AreAt l ms

-- a move takes rows out of buffers alone, and changes no credit and no hole
abbrev pub IsFromBuffer : Move → Type 0
IsFromBuffer (Transfer a s k was now) = s ≡ Buffer
IsFromBuffer (Remove a s k was) = s ≡ Buffer
IsFromBuffer (Enter now) = Unit {0}
IsFromBuffer (SetFrontSince a t) = Unit {0}
IsFromBuffer (Credit a c) = ⊥
IsFromBuffer (LeaveHole a t) = ⊥
IsFromBuffer (Report says) = Unit {0}

abbrev pub AreFromBuffers : List Move → Type 0
AreFromBuffers [] = Unit {0}
AreFromBuffers (m ∷ ms) = IsFromBuffer m × AreFromBuffers ms

-- what is told is of this person, or of none
abbrev pub IsOf : ℕ → Option ℕ → Type 0
IsOf i None = Unit {0}
IsOf i (Some j) = j ≡ i

abbrev pub AreOf : ℕ → List Occurrence → Type 0
AreOf i [] = Unit {0}
AreOf i (e ∷ es) = IsOf i e.person × AreOf i es

-- a node sees the buffers of the links into it and the queues of the links out of it
abbrev pub sees : Setup → ℕ → ℕ → Stage → Bool
sees S n l Queue = (link_row S l).from == n
sees S n l Buffer = (link_row S l).to == n
sees S n l Wait = false
sees S n l Bay = false

-- no one's turn changes what another one sees
abbrev pub Apart : Setup → ℕ → TurnMoves → Type 0
Apart S t moves = (n m : ℕ) (W : World) → n ≢ m → moves n (run S t (moves m W) W) ≡ moves n W

-- the turn of n in a world
abbrev pub turn_of : TurnMoves → World → ℕ → Turn
turn_of moves W n = record { number = n; moves = moves n W }

-- each event's key is before those of all later ones
abbrev pub IsBefore : Event → Event → Type 0
IsBefore a b = key_before a.key b.key ≡ true

abbrev pub AreAfter : Event → List Event → Type 0
AreAfter a [] = Unit {0}
AreAfter a (b ∷ bs) = IsBefore a b × AreAfter a bs

abbrev pub Ascends : List Event → Type 0
Ascends [] = Unit {0}
Ascends (a ∷ bs) = AreAfter a bs × Ascends bs
