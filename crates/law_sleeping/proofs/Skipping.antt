-- Turns that do nothing may be left out of a phase.
use Rattle.std.proofs.Common.{◌≡◌, ◌≢◌, ℕ, Bool, false, List, [], ◌∷◌, ◌++◌, refl, ap, sym, ◌∙◌, subst, inl, inr}
use Rattle.std.{proofs.lemmas.Bool.cases_Bool, specs.List.flat_map, specs.Prelude.map, specs.Prelude.filter}
use Rattle.events.specs.{Keys.phase_code, declared.event.Event.Event, declared.event.Phase.Phase}
use Rattle.traffic.proofs.{Phases.phase_at_once, Phases.plans_apart, Turns.Distinct-numbers, Turns.at-phase}
use Rattle.traffic.specs.{Day.Turn, Day.turns_of, Day.count_of, Day.turns_in, Day.keyed, Day.events_of, Day.events_in, Day.after, Frames.turn_of}
use Rattle.traffic.specs.{Frames.Untouched, Lists.below, Moves.told, Moves.same, Moves.at_after_all, Nodes.mark, Rows.World, Rows.at, Setup.Setup}
use Rattle.traffic.specs.declared.{moves.Move.Move, moves.Move.TheVariants.Credit, moves.Occurrence.Occurrence, node_views.InLink.InLink, stage.Stage.Stage}
use Rattle.traffic.specs.declared.stage.Stage.TheVariants.{Queue, Buffer, Wait, Bay}

-- WHAT IS TOLD
marks_quiet : (t : ℕ) (es : List InLink) → flat_map told (map (mark t) es) ≡ []
marks_quiet t [] = refl
marks_quiet t (e ∷ es) = marks_quiet t es

pub marks_tell_nothing : (t : ℕ) (es : List InLink) (ms : List Move) → ms ≡ map (mark t) es → flat_map told ms ≡ []
marks_tell_nothing t es ms e = ap (λ (xs : List Move). flat_map told xs) e ∙ marks_quiet t es

pub credit_tells_nothing : (l c : ℕ) (ms : List Move) → ms ≡ Credit l c ∷ [] → flat_map told ms ≡ []
credit_tells_nothing l c ms e = ap (λ (xs : List Move). flat_map told xs) e

no_events : (t : ℕ) (p : Phase) (u : Turn) → flat_map told u.moves ≡ [] → events_of t p u ≡ []
unfolding keyed
no_events t p u e = ap (λ (xs : List Occurrence). keyed t (phase_code p) u.number 0 xs) e

skipped : (t : ℕ) (p : Phase) (turn : ℕ → Turn) (awake : ℕ → Bool) → ((n : ℕ) → awake n ≡ false → flat_map told (turn n).moves ≡ [])
    → (ns : List ℕ)
    → events_in t p (map turn ns) ≡ events_in t p (map turn (filter awake ns))
skipped t p turn awake h [] = refl
skipped t p turn awake h (n ∷ ns) =
    let r = skipped t p turn awake h ns in
    elim (cases_Bool (awake n)) [
      | inl q ↦ simp q (ap (λ (es : List Event). events_of t p (turn n) ++ es) r)
      | inr q ↦ let e = no_events t p (turn n) (h n q) in simp q (ap (λ (es : List Event). es ++ events_in t p (map turn ns)) e ∙ r)
    ]

-- the events of a phase are those of the turns that tell something
pub events_awake : (S : Setup) (t : ℕ) (p : Phase) (W : World) (awake : ℕ → Bool)
    → ((n : ℕ) → awake n ≡ false → flat_map told (turns_of S t p n W) ≡ [])
    → events_in t p (turns_in S t p W) ≡ events_in t p (map (turn_of (turns_of S t p) W) (filter awake (below (count_of S p))))
events_awake S t p W awake h = ap (events_in t p) (phase_at_once S t p W)
    ∙ skipped t p (turn_of (turns_of S t p) W) awake h (below (count_of S p))

-- WHAT IS DONE
-- a list after a phase is what those make of it who touch it
pub lists_awake : (S : Setup) (t l : ℕ) (s : Stage) (p : Phase) (W : World) (awake : ℕ → Bool)
    → ((n : ℕ) → awake n ≡ false → Untouched l s (turns_of S t p n W))
    → at l s (after S t (turns_in S t p W) W) ≡ at_after_all l s (flat_map (λ n. turns_of S t p n W) (filter awake (below (count_of S p))))
    (at l s W)
unfolding turns_in
lists_awake S t l s p W awake h = at-phase S t (turns_of S t p) (plans_apart S t p) awake l s W h (below (count_of S p))
    (Distinct-numbers 0 (count_of S p))

-- marks of fronts touch buffers alone, and credit touches no list
mark_apart : (l a : ℕ) (s : Stage) → s ≢ Buffer → same l s a Buffer ≡ false
mark_apart l a Queue ne = refl
mark_apart l a Buffer ne = absurd (ne refl)
mark_apart l a Wait ne = refl
mark_apart l a Bay ne = refl

marks_apart : (t l : ℕ) (s : Stage) (es : List InLink) → s ≢ Buffer → Untouched l s (map (mark t) es)
marks_apart t l s [] ne = tt
marks_apart t l s (e ∷ es) ne = (mark_apart l e.link s ne, marks_apart t l s es ne)

pub marks_touch_buffers : (t l : ℕ) (s : Stage) (es : List InLink) (ms : List Move) → s ≢ Buffer → ms ≡ map (mark t) es → Untouched l s ms
marks_touch_buffers t l s es ms ne e = subst (Untouched l s) (sym e) (marks_apart t l s es ne)

pub credit_touches_nothing : (l a c : ℕ) (s : Stage) (ms : List Move) → ms ≡ Credit a c ∷ [] → Untouched l s ms
credit_touches_nothing l a c s ms e = subst (Untouched l s) (sym e) (refl, tt)
