-- Until when no link into a node can hand over.
use Rattle.std.specs.Prelude.{◌≡◌, ◌≢◌, ℕ, ◌+◌, ◌<◌, ◌≤◌, ◌⊎◌, true, false, max, suc, List, [], ◌∷◌, length}
use Rattle.std.specs.List.{AllByRecursion as Each}
use Rattle.traffic.specs.{Day.second, Nodes.next_link, Nodes.taken_at, Nodes.out_link, Nodes.has_room, Nodes.is_stuck, Rows.World, Rows.holes_at, Setup.Setup}
use Rattle.traffic.specs.{Setup.link_row, Setup.hole_of, Setup.storage_of, declared.world.Row.Row}
use Rattle.law_sleeping.specs.Marks.{last_red, Buffers}

-- In all seconds after t and before due in which link l into node n is green, the front of these rows has no room by world V, and is not
-- stuck.
abbrev pub FrontSleeps : Setup → ℕ → ℕ → ℕ → ℕ → World → List Row → Type 0
FrontSleeps S t due n l V [] = Unit {0}
FrontSleeps S t due n l V (r ∷ rs) =
    (u : ℕ) → t < u → u < due → S.green l u ≡ true
    → (has_room (out_link S u n V (next_link r.vehicle)) ≡ false)
    × (is_stuck S.settings.stuck u (max r.second (last_red (S.green l) u)) ≡ false)

-- No link into the node can hand over after second t and before second due, as long as no front and no room comes.
abbrev pub NodeSleeps : Setup → ℕ → ℕ → ℕ → Buffers → World → Type 0
NodeSleeps S t due n rows V = (l : ℕ) → l < length S.links → (link_row S l).to ≡ n → FrontSleeps S t due n l V (rows l)

-- In world V link m has no place free in this second, and none comes before second due by the end of a hole.
pub record IsFull (S : Setup) (now due m : ℕ) (V : World) : Type 0 where
  pub taken : storage_of S m ≤ taken_at S now m V
  pub holes : Each (λ (s : ℕ). now < s + hole_of S m → due ≤ s + hole_of S m) (holes_at m V)

-- The reasons for which a front sleeps: its link is red; or it is not stuck before that second, and its next link is full or is no
-- link out of the node.
abbrev pub IsRedUntil : Setup → ℕ → ℕ → ℕ → Type 0
IsRedUntil S t due l = (u : ℕ) → t < u → u < due → S.green l u ≡ false

pub record IsHeldUp (S : Setup) (now t due n l : ℕ) (V : World) (r : Row) : Type 0 where
  pub patient : due ≤ max r.second (last_red (S.green l) (suc t)) + S.settings.stuck.seconds
  pub room : ((link_row S (next_link r.vehicle)).from ≢ n) ⊎ IsFull S now due (next_link r.vehicle) V

-- the same front, or none in both
abbrev pub SameFront : List Row → List Row → Type 0
SameFront [] [] = Unit {0}
SameFront [] (y ∷ ys) = ⊥
SameFront (x ∷ xs) [] = ⊥
SameFront (x ∷ xs) (y ∷ ys) = x ≡ y

-- of the next link of the front, if there is a front
abbrev pub ForFront : (ℕ → Type 0) → List Row → Type 0
ForFront P [] = Unit {0}
ForFront P (r ∷ rs) = P (next_link r.vehicle)

-- no place of link m that is taken in world V comes free in world U in the seconds after t and before due
abbrev pub NoneFree : Setup → ℕ → ℕ → ℕ → World → World → ℕ → Type 0
NoneFree S t due n V U m = (link_row S m).from ≡ n → (u : ℕ) → t < u → u < due → taken_at S u m V ≤ taken_at S u m U

-- the holes that second t leaves on link m outlast the sleep, or there are none
abbrev pub NoneLeft : Setup → ℕ → ℕ → World → ℕ → Type 0
NoneLeft S t due W m = (due ≤ t + hole_of S m) ⊎ (holes_at m (second S t W) ≡ holes_at m W)
