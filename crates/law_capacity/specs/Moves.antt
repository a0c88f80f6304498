-- How a vehicle comes into a queue, in the world of that moment.
use Rattle.std.specs.Prelude.{◌≡◌, ◌≢◌, ℕ, ◌-◌, ◌<◌, ◌≤◌, ◌⊎◌, true, false, List, [], ◌∷◌, ◌++◌, slice_get, Some}
use Rattle.events.specs.declared.event.Phase.{Phase}
use Rattle.traffic.specs.{Day.moves_of, Day.after, Day.turns_in, Day.phases, Nodes.taken_at, Rows.World, Rows.at, Setup.Setup, Setup.storage_of}
use Rattle.traffic.specs.declared.moves.Move.{Move, TheVariants.Transfer, TheVariants.Enter}
use Rattle.traffic.specs.declared.{stage.Stage.Stage, stage.Stage.TheVariants.Queue, stage.Stage.TheVariants.Buffer, world.Row.Row}

-- a move brings no row to this stage of a link
abbrev pub IsElsewhere : Stage → Move → Type 0
IsElsewhere s (Transfer l z k was now) = now.stage ≢ s
IsElsewhere s (Enter now) = now.stage ≢ s
IsElsewhere s _ = Unit {0}

-- the moves of phases of second t, one after the other, and those of the whole second
unfoldable pub moves_in : Setup → ℕ → List Phase → World → List Move
moves_in S t [] W = []
moves_in S t (p ∷ ps) W = moves_of (turns_in S t p W) ++ moves_in S t ps (after S t (turns_in S t p W) W)

abbrev pub second_moves : Setup → ℕ → World → List Move
second_moves S t W = moves_in S t phases W

-- In world W of second t a row comes into a queue, as now, where it was before: the link has room, and the vehicle is not one that
-- was pushed; or the link is full, stuck vehicles are pushed in, this one has been first for so long, and it is one that was pushed.
abbrev pub IsLetIn : Setup → ℕ → World → Row → Row → Type 0
IsLetIn S t W was now =
    ((taken_at S t now.link W < storage_of S now.link) × (now.vehicle.pushed ≡ false))
    ⊎ ((storage_of S now.link ≤ taken_at S t now.link W) × (S.settings.stuck.push ≡ true) × (S.settings.stuck.seconds ≤ t - was.second) × (now.vehicle.pushed ≡ true))

-- in world W it stands first in the buffer of link l, as it was
abbrev pub IsFirst : World → ℕ → Row → Type 0
IsFirst W l was = slice_get (at l Buffer W) 0 ≡ Some was

-- a row that a move of world W puts into a queue was the first of a buffer, and is let in
abbrev pub KeepsRule : Setup → ℕ → World → Move → Type 0
KeepsRule S t W (Transfer l s k was now) = now.stage ≡ Queue → (s ≡ Buffer) × (k ≡ 0) × IsFirst W l was × IsLetIn S t W was now
KeepsRule S t W (Enter now) = now.stage ≢ Queue
KeepsRule S t W _ = Unit {0}
