-- What hearing of vehicles that left queues makes of the places of links.
use Rattle.std.specs.Prelude.{◌≡◌, ℕ, ◌+◌, ◌-◌, ◌<◌, ◌≤◌, Bool, true, List, [], ◌∷◌, length}
use Rattle.traffic.specs.Setup.{Setup, hole_of}
use Rattle.part_places.specs.Taking.{Taking, later}
use Rattle.part_seconds.specs.declared.contents.FreedPlaces.{FreedPlaces}

-- of vehicles that left the queue of a link in second s, and of all these
abbrev pub heard : Setup → ℕ → FreedPlaces → Taking → Taking
heard S s f T = later f.link (T.queued f.link - f.count) (s + hole_of S f.link) T

unfoldable pub heard_all : Setup → ℕ → List FreedPlaces → Taking → Taking
heard_all S s [] T = T
heard_all S s (f ∷ fs) T = heard_all S s fs (heard S s f T)

-- It can be heard before second t: the link begins here, so many are in its queue, and none of the places is free before that second.
pub record CanHear (S : Setup) (begins : ℕ → Bool) (t s : ℕ) (f : FreedPlaces) (T : Taking) : Type 0 where
  pub there : f.link < length S.links
  pub here : begins f.link ≡ true
  pub queued : f.count ≤ T.queued f.link
  pub still : t ≤ s + hole_of S f.link

unfoldable pub CanHearAll : Setup → (ℕ → Bool) → ℕ → ℕ → List FreedPlaces → Taking → Type 0
CanHearAll S begins t s [] T = Unit {0}
CanHearAll S begins t s (f ∷ fs) T = CanHear S begins t s f T × CanHearAll S begins t s fs (heard S s f T)
