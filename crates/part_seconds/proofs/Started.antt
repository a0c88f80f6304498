-- Links and wakes are as many as before, and rows come one after the other.
use Rattle.std.proofs.Common.{◌≡◌, ℕ, List, [], ◌∷◌, ◌++◌, length, refl, inl, inr}
use Rattle.std.{proofs.lemmas.Bool.cases_Bool, proofs.lemmas.List.length-set, specs.Prelude.Option, specs.Prelude.nat_lt}
use Rattle.traffic.specs.declared.world.Row.{Row}
use Rattle.calendar.specs.Waking.{wake_of, earlier}
use Rattle.queue_link.specs.Links.{LinkView}
use Rattle.node_seconds.specs.Networks.{lane}
use Rattle.part_seconds.specs.Starting.{with_waiting, started, all_started, woken_for, woken_for_all}

pub started_length : (r : Row) (links : List LinkView) → length (started r links) ≡ length links
started_length r links =
    elim (cases_Bool (nat_lt r.link (length links))) [
      | inl e ↦ rw e (length-set links r.link (with_waiting r.vehicle (lane links r.link)))
      | inr e ↦ rw e refl
    ]

pub woken_length : (t : ℕ) (r : Row) (wakes : List (Option ℕ)) → length (woken_for t r wakes) ≡ length wakes
woken_length t r wakes =
    elim (cases_Bool (nat_lt r.link (length wakes))) [
      | inl e ↦ rw e (length-set wakes r.link (earlier t (wake_of wakes r.link)))
      | inr e ↦ rw e refl
    ]

pub started_last : (rs : List Row) (r : Row) (links : List LinkView) → all_started (rs ++ r ∷ []) links ≡ started r (all_started rs links)
unfolding all_started
started_last [] r links = refl
started_last (x ∷ rs) r links = started_last rs r (started x links)

pub woken_last : (t : ℕ) (rs : List Row) (r : Row) (wakes : List (Option ℕ)) → woken_for_all t (rs ++ r ∷ []) wakes ≡ woken_for t r (woken_for_all t rs wakes)
unfolding woken_for_all
woken_last t [] r wakes = refl
woken_last t (x ∷ rs) r wakes = woken_last t rs r (woken_for t x wakes)
