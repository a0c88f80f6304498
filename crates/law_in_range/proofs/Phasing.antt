-- A phase turn by turn, and a day second by second.
use Rattle.traffic.proofs.Common.{◌≡◌, ℕ, List, ◌∙◌, ap, refl, sym, [], ◌∷◌, arith, ◌<◌, ◌++◌, ◌+◌, ◌≤◌, suc, ◌-◌, append_assoc, add-one, Event, Phase}
use Rattle.traffic.proofs.Common.{turns_of, turns_in, moves_of, through, world_from, after, events_from, count_of, events_in, told_in, Turn, second, turns}
use Rattle.traffic.proofs.Common.{events_of, numbers, run, World, Setup}
use Rattle.traffic.{proofs.Sublists.run-append, specs.Day.second_events}
use Rattle.std.proofs.lemmas.List.{append-nil}
use Rattle.events.specs.declared.event.Phase.TheVariants as phase

-- the turns from number n on, of so many, in the world that the ones before it left
abbrev pub rest : Setup → ℕ → Phase → ℕ → ℕ → World → List Turn
rest S t p count n W = turns S t (turns_of S t p) (numbers n (count - n)) W

abbrev turn : Setup → ℕ → Phase → ℕ → World → Turn
turn S t p n W = record { number = n; moves = turns_of S t p n W }

-- what the turns from n on give, done and told after what came before, is what all turns give
pub record Going (S : Setup) (t : ℕ) (p : Phase) (count n : ℕ) (from now : World) (old out : List Event) : Type 0 where
  pub world : after S t (rest S t p count n now) now ≡ after S t (rest S t p count 0 from) from
  pub events : out ++ events_in t p (rest S t p count n now) ≡ old ++ events_in t p (rest S t p count 0 from)

rest_more : (S : Setup) (t : ℕ) (p : Phase) (count n : ℕ) (W : World) → n < count → rest S t p count n W ≡ turn S t p n W ∷ rest S t p count (n + 1) (run S t (turns_of S t p n W) W)
unfolding turns
rest_more S t p count n W h =
    let e : count - n ≡ suc (count - (n + 1)) = omega arith in
    ap (λ k. turns S t (turns_of S t p) (numbers n k) W) e

after_more : (S : Setup) (t : ℕ) (u : Turn) (us : List Turn) (W : World) → after S t (u ∷ us) W ≡ after S t us (run S t u.moves W)
after_more S t u us W = run-append S t u.moves (moves_of us) W

pub going_more : (S : Setup) (t : ℕ) (p : Phase) (count n : ℕ) (from now next : World) (old out more : List Event) → n < count
    → next ≡ run S t (turns_of S t p n now) now → more ≡ out ++ events_of t p (turn S t p n now)
    → Going S t p count n from now old out → Going S t p count (n + 1) from next old more
going_more S t p count n from now next old out more h e f g =
    let us = rest S t p count (n + 1) (run S t (turns_of S t p n now) now) in
    let split = rest_more S t p count n now h in
    record {
      world = rw (e, ← after_more S t (turn S t p n now) us now) (rw split at g.world);
      events = rw (f, e, append_assoc out (events_of t p (turn S t p n now)) (events_in t p us)) (rw split at g.events);
    }

rest_none : (S : Setup) (t : ℕ) (p : Phase) (count n : ℕ) (W : World) → count ≤ n → rest S t p count n W ≡ []
unfolding turns
rest_none S t p count n W h =
    let e : count - n ≡ 0 = omega arith in
    ap (λ k. turns S t (turns_of S t p) (numbers n k) W) e

rest_all : (S : Setup) (t : ℕ) (p : Phase) (W : World) → rest S t p (count_of S p) 0 W ≡ turns_in S t p W
unfolding turns_in
rest_all S t p W =
    let e : count_of S p - 0 ≡ count_of S p = omega arith in
    ap (λ k. turns S t (turns_of S t p) (numbers 0 k) W) e

-- once all have had their turn the world is that after the phase, and its events are told
pub gone_world : (S : Setup) (t : ℕ) (p : Phase) (n : ℕ) (from now : World) (old out : List Event) → count_of S p ≤ n
    → Going S t p (count_of S p) n from now old out → now ≡ after S t (turns_in S t p from) from
gone_world S t p n from now old out h g =
    ap (λ us. after S t us now) (sym (rest_none S t p (count_of S p) n now h)) ∙ g.world ∙ ap (λ us. after S t us from) (rest_all S t p from)

pub gone_events : (S : Setup) (t : ℕ) (p : Phase) (n : ℕ) (from now : World) (old out : List Event) → count_of S p ≤ n
    → Going S t p (count_of S p) n from now old out → out ≡ old ++ events_in t p (turns_in S t p from)
gone_events S t p n from now old out h g =
    sym (append-nil out) ∙ ap (λ us. out ++ events_in t p us) (sym (rest_none S t p (count_of S p) n now h)) ∙ g.events
    ∙ ap (λ us. old ++ events_in t p us) (rest_all S t p from)

-- a second is its five phases
pub second_world : (S : Setup) (t : ℕ) (W a b1 b2 c d : World) → a ≡ after S t (turns_in S t phase.A W) W → b1 ≡ after S t (turns_in S t phase.B1 a) a
    → b2 ≡ after S t (turns_in S t phase.B2 b1) b1 → c ≡ after S t (turns_in S t phase.C b2) b2 → d ≡ after S t (turns_in S t phase.D c) c → d ≡ second S t W
unfolding through
second_world S t W a b1 b2 c d ea eb1 eb2 ec ed = rw (ed, ec, eb2, eb1, ea) refl

pub second_told : (S : Setup) (t : ℕ) (W a b1 b2 c : World) (o o1 o2 o3 o4 o5 : List Event) → a ≡ after S t (turns_in S t phase.A W) W → b1 ≡ after S t (turns_in S t phase.B1 a) a
    → b2 ≡ after S t (turns_in S t phase.B2 b1) b1 → c ≡ after S t (turns_in S t phase.C b2) b2
    → o1 ≡ o ++ events_in t phase.A (turns_in S t phase.A W) → o2 ≡ o1 ++ events_in t phase.B1 (turns_in S t phase.B1 a) → o3 ≡ o2 ++ events_in t phase.B2 (turns_in S t phase.B2 b1)
    → o4 ≡ o3 ++ events_in t phase.C (turns_in S t phase.C b2) → o5 ≡ o4 ++ events_in t phase.D (turns_in S t phase.D c) → o5 ≡ o ++ second_events S t W
unfolding told_in
second_told S t W a b1 b2 c o o1 o2 o3 o4 o5 ea eb1 eb2 ec e1 e2 e3 e4 e5 =
    rw (← ea, ← eb1, ← eb2, ← ec, e5, e4, e3, e2, e1) (simp (append_assoc, append-nil))

-- one second more
pub world_more : (S : Setup) (W : World) (t : ℕ) (now next : World) → now ≡ world_from S W t → next ≡ second S t now → next ≡ world_from S W (t + 1)
unfolding world_from
world_more S W t now next e f = f ∙ ap (second S t) e ∙ ap (world_from S W) (sym (add-one t))

pub events_more : (S : Setup) (W : World) (t : ℕ) (now : World) (out more : List Event) → now ≡ world_from S W t → out ≡ events_from S W t
    → more ≡ out ++ second_events S t now → more ≡ events_from S W (t + 1)
unfolding events_from
events_more S W t now out more e f g =
    g ∙ ap (λ (l : List Event). l ++ second_events S t now) f ∙ ap (λ (X : World). events_from S W t ++ second_events S t X) e ∙ ap (events_from S W) (sym (add-one t))
