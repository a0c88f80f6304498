-- Hearing of one link more.
use Rattle.traffic.proofs.Common.{◌≡◌, ℕ, Bool, List, [], ◌∷◌, ◌++◌, refl, Setup}
use Rattle.part_places.specs.Taking.{Taking}
use Rattle.part_seconds.specs.{Freed.heard, Freed.heard_all, Freed.CanHear, Freed.CanHearAll, declared.contents.FreedPlaces.FreedPlaces}

pub heard_last : (S : Setup) (s : ℕ) (fs : List FreedPlaces) (f : FreedPlaces) (T : Taking)
    → heard_all S s (fs ++ f ∷ []) T ≡ heard S s f (heard_all S s fs T)
unfolding heard_all
heard_last S s [] f T = refl
heard_last S s (g ∷ fs) f T = heard_last S s fs f (heard S s g T)

pub can_before : (S : Setup) (begins : ℕ → Bool) (t s : ℕ) (fs : List FreedPlaces) (f : FreedPlaces) (T : Taking)
    → CanHearAll S begins t s (fs ++ f ∷ []) T
    → CanHearAll S begins t s fs T
unfolding CanHearAll
can_before S begins t s [] f T h = tt
can_before S begins t s (g ∷ fs) f T h = (h.0, can_before S begins t s fs f (heard S s g T) h.1)

pub can_last : (S : Setup) (begins : ℕ → Bool) (t s : ℕ) (fs : List FreedPlaces) (f : FreedPlaces) (T : Taking)
    → CanHearAll S begins t s (fs ++ f ∷ []) T
    → CanHear S begins t s f (heard_all S s fs T)
unfolding heard_all CanHearAll
can_last S begins t s [] f T h = h.0
can_last S begins t s (g ∷ fs) f T h = can_last S begins t s fs f (heard S s g T) h.1
