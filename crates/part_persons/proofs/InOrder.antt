-- Turns one after the other.
use Rattle.traffic.proofs.Common.{◌≡◌, ℕ, zero, suc, ◌+◌, ◌<◌, ◌≤◌, List, ◌∙◌, ap, refl, sym, subst, arith, [], ◌∷◌, ◌++◌, length, get_or}
use Rattle.traffic.proofs.Common.{append-nil, append_assoc, Event, Phase, turns_of, moves_of, after, events_in, Turn, turns, events_of, run, World, Setup}
use Rattle.traffic.proofs.Sublists.{run-append}
use Rattle.std.proofs.{Common.drop, lemmas.List.drop_more}
use Rattle.calendar.specs.Due.{AreIn}

abbrev pub turn : Setup → ℕ → Phase → ℕ → World → Turn
turn S t p n W = record { number = n; moves = turns_of S t p n W }

abbrev pub all_turns : Setup → ℕ → Phase → List ℕ → World → List Turn
all_turns S t p ns W = turns S t (turns_of S t p) ns W

-- what the turns that are left give, done and told after what came before, is what all of them give
pub record Going (S : Setup) (t : ℕ) (p : Phase) (ns rest : List ℕ) (from now : World) (old out : List Event) : Type 0 where
  pub world : after S t (all_turns S t p rest now) now ≡ after S t (all_turns S t p ns from) from
  pub events : out ++ events_in t p (all_turns S t p rest now) ≡ old ++ events_in t p (all_turns S t p ns from)

pub after_more : (S : Setup) (t : ℕ) (u : Turn) (us : List Turn) (W : World) → after S t (u ∷ us) W ≡ after S t us (run S t u.moves W)
after_more S t u us W = run-append S t u.moves (moves_of us) W

pub going_more : (S : Setup) (t : ℕ) (p : Phase) (n : ℕ) (ns rest : List ℕ) (from now next : World) (old out more : List Event)
    → next ≡ run S t (turns_of S t p n now) now → more ≡ out ++ events_of t p (turn S t p n now)
    → Going S t p ns (n ∷ rest) from now old out → Going S t p ns rest from next old more
unfolding turns
going_more S t p n ns rest from now next old out more e f g =
    let us = all_turns S t p rest (run S t (turns_of S t p n now) now) in
    record {
      world = ap (λ W. after S t (all_turns S t p rest W) W) e ∙ sym (after_more S t (turn S t p n now) us now) ∙ g.world;
      events =
          ap (λ xs. xs ++ events_in t p (all_turns S t p rest next)) f
          ∙ ap (λ W. (out ++ events_of t p (turn S t p n now)) ++ events_in t p (all_turns S t p rest W)) e
          ∙ append_assoc out (events_of t p (turn S t p n now)) (events_in t p us) ∙ g.events;
    }

-- from a place of the list on
pub going_start : (S : Setup) (t : ℕ) (p : Phase) (ns : List ℕ) (from : World) (old : List Event) → Going S t p ns (drop 0 ns) from from old old
going_start S t p ns from old = record { world = refl; events = refl }

drop_place : (ns : List ℕ) (i : ℕ) → i < length ns → drop i ns ≡ get_or ns i 0 ∷ drop (i + 1) ns
drop_place ns i lt = drop_more ns i 0 lt

pub going_next : (S : Setup) (t : ℕ) (p : Phase) (i : ℕ) (ns : List ℕ) (from now next : World) (old out more : List Event) → i < length ns
    → next ≡ run S t (turns_of S t p (get_or ns i 0) now) now → more ≡ out ++ events_of t p (turn S t p (get_or ns i 0) now)
    → Going S t p ns (drop i ns) from now old out → Going S t p ns (drop (i + 1) ns) from next old more
going_next S t p i ns from now next old out more lt e f g =
    going_more S t p (get_or ns i 0) ns (drop (i + 1) ns) from now next old out more e f
    (subst (λ (xs : List ℕ). Going S t p ns xs from now old out) (drop_place ns i lt) g)

drop_end : (ns : List ℕ) (i : ℕ) → length ns ≤ i → drop i ns ≡ []
drop_end [] zero le = refl
drop_end [] (suc i) le = refl
drop_end (n ∷ ns) zero le = absurd (omega arith)
drop_end (n ∷ ns) (suc i) le = drop_end ns i (omega arith)

gone : (S : Setup) (t : ℕ) (p : Phase) (i : ℕ) (ns : List ℕ) (from now : World) (old out : List Event) → length ns ≤ i
    → Going S t p ns (drop i ns) from now old out → Going S t p ns [] from now old out
gone S t p i ns from now old out le g = subst (λ (xs : List ℕ). Going S t p ns xs from now old out) (drop_end ns i le) g

all_world : (S : Setup) (t : ℕ) (p : Phase) (ns : List ℕ) (from now : World) (old out : List Event) → Going S t p ns [] from now old out
    → now ≡ after S t (all_turns S t p ns from) from
unfolding turns
all_world S t p ns from now old out g = g.world

all_events : (S : Setup) (t : ℕ) (p : Phase) (ns : List ℕ) (from now : World) (old out : List Event) → Going S t p ns [] from now old out
    → out ≡ old ++ events_in t p (all_turns S t p ns from)
unfolding turns
all_events S t p ns from now old out g = sym (append-nil out) ∙ g.events

pub going_world : (S : Setup) (t : ℕ) (p : Phase) (i : ℕ) (ns : List ℕ) (from now : World) (old out : List Event) → length ns ≤ i
    → Going S t p ns (drop i ns) from now old out → now ≡ after S t (all_turns S t p ns from) from
going_world S t p i ns from now old out le g = all_world S t p ns from now old out (gone S t p i ns from now old out le g)

pub going_events : (S : Setup) (t : ℕ) (p : Phase) (i : ℕ) (ns : List ℕ) (from now : World) (old out : List Event) → length ns ≤ i
    → Going S t p ns (drop i ns) from now old out → out ≡ old ++ events_in t p (all_turns S t p ns from)
going_events S t p i ns from now old out le g = all_events S t p ns from now old out (gone S t p i ns from now old out le g)

-- numbers below a bound, by their places
pub below_at : (count : ℕ) (ns : List ℕ) (i : ℕ) → AreIn count ns → i < length ns → get_or ns i 0 < count
below_at count [] i h lt = absurd (omega arith)
below_at count (n ∷ ns) zero h lt = h.0
below_at count (n ∷ ns) (suc i) h lt = below_at count ns i h.1 (omega arith)
