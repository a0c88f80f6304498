-- What the laws of a day in parts ask of a setup and of its day.
use Rattle.std.specs.Prelude.{◌≡◌, ℕ, ◌+◌, ◌/◌, ◌<◌, ◌≤◌, List, [], ◌∷◌, length, get_or}
use Rattle.std.specs.List.{AllByRecursion as Each}
use Rattle.events.specs.declared.event.Phase.TheVariants as phase
use Rattle.traffic.specs.{Day.through, Day.world_at, Rows.World, Rows.at, Rows.person_of, Setup.Setup, Setup.person_plan, Setup.act_at, Setup.leg_at}
use Rattle.traffic.specs.{Setup.link_of_stop, Worlds.Sound, declared.stage.Stage.Stage}
use Rattle.rows.specs.declared.plan.Leg.TheVariants as leg
use Rattle.law_sound_setups.specs.Alighting.{AlightAll}
use Rattle.parts.specs.Owners.{Hop, hops}

-- each teleported leg takes a second or more
abbrev pub LongHops : Setup → Type 0
LongHops S = Each (λ (h : Hop). 1 ≤ h.seconds) (hops S)

pub record Lawful (S : Setup) : Type 0 where
  pub long : LongHops S
  -- a plan has one activity more than legs
  pub one_more : (i : ℕ) → i < length S.persons → length (person_plan S i).acts ≡ length (person_plan S i).legs + 1
  -- a route begins on the link of the activity before it, and a stop of access lies there
  pub drive : (i e : ℕ) (route : List ℕ) → i < length S.persons → e / 2 < length (person_plan S i).legs → leg_at S i e ≡ leg.Car route
      → get_or route 0 0 ≡ (act_at S i e).link
  pub access : (i e line access egress : ℕ) → i < length S.persons → e / 2 < length (person_plan S i).legs
      → leg_at S i e ≡ leg.Transit line access egress → link_of_stop S access ≡ (act_at S i e).link
  -- the day is sound
  pub sound : (t : ℕ) → Sound S (world_at S t)

-- the world before phase D of second t
abbrev pub before_D : Setup → ℕ → World
before_D S t = through S t (phase.A ∷ phase.B1 ∷ phase.B2 ∷ phase.C ∷ []) (world_at S t)

-- in each second, whoever alights on a link has the next activity there
pub record Arrivals (S : Setup) : Type 0 where
  pub alight : (t i l : ℕ) (s : Stage) → i < length S.persons → AlightAll S l i (person_of i (before_D S t)).element (at l s (before_D S t))
