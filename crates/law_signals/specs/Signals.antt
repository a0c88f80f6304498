-- What signals let happen in a day.
use Rattle.std.specs.Prelude.{◌≡◌, ◌≢◌, ℕ, true, Option, None, Some, Contains}
use Rattle.events.specs.{Keys.phase_code, declared.event.Event.Event, declared.event.Word.Word}
use Rattle.events.specs.declared.event.Phase.TheVariants as phase
use Rattle.events.specs.declared.event.Word.TheVariants as word
use Rattle.traffic.specs.{Day.day, Setup.Setup}

-- a link is named, and it is green in second t
abbrev pub IsGreen : Setup → ℕ → Option ℕ → Type 0
IsGreen S t None = ⊥
IsGreen S t (Some l) = S.green l t ≡ true

-- What signals let happen in second t, in the phase of this code: a vehicle leaves a link, or is removed from its buffer, only where the link
-- is green, and a rider is removed with it, in the phase of the nodes, only there.
abbrev pub IsLet : Setup → ℕ → ℕ → Option ℕ → Word → Type 0
IsLet S t code link word.LeftLink = IsGreen S t link
IsLet S t code link word.VehicleAborts = IsGreen S t link
IsLet S t code link word.StuckAndAbort = code ≡ phase_code phase.C → IsGreen S t link
IsLet S t code link _ = Unit {0}

-- the same of an event
abbrev pub KeepsSignals : Setup → Event → Type 0
KeepsSignals S e = IsLet S e.key.second e.key.phase e.link e.word

-- a vehicle leaves link l
pub record Leaves (l : ℕ) (e : Event) : Type 0 where
  pub left : e.word ≡ word.LeftLink
  pub from : e.link ≡ Some l

-- in no second of the day do vehicles leave both of these links
abbrev pub NeverTogether : Setup → ℕ → ℕ → Type 0
NeverTogether S a b = (x y : Event) → Contains (day S) x → Contains (day S) y → Leaves a x → Leaves b y → x.key.second ≢ y.key.second
