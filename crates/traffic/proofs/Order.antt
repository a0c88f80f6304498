-- The events of a day are in the order of their keys.
use Rattle.traffic.proofs.Common.{◌≡◌, ℕ, List, length, refl, [], ◌∷◌, arith, ◌<◌, true, ◌++◌, ◌+◌, ◌≤◌, suc, zero, nat_tests, flat_map, phase_code, Event, Key}
use Rattle.traffic.proofs.Common.{Phase, world_at, after, turns_of, turns_in, world_start, keyed, world_from, events_from, count_of, phases, events_in, day}
use Rattle.traffic.proofs.Common.{end_events, told_in, turns, TurnMoves, event_at, AreAfter, Ascends, numbers, run, told, stranded, World, Setup, Occurrence}
use Rattle.traffic.{proofs.Each.each_append, proofs.Each.each_weaker, specs.Frames.IsBefore}
use Rattle.std.specs.List.{AllByRecursion as Each}
use Rattle.events.specs.declared.event.Phase.TheVariants as phase
use Rattle.events.specs.Keys.{key_before}

after_every : (a : Event) (Q : Event → Type 0) → ((b : Event) → Q b → IsBefore a b) → (ys : List Event) → Each Q ys → AreAfter a ys
after_every a Q f [] h = tt
after_every a Q f (y ∷ ys) h = (f y h.0, after_every a Q f ys h.1)

after_append : (a : Event) (xs ys : List Event) → AreAfter a xs → AreAfter a ys → AreAfter a (xs ++ ys)
after_append a [] ys h g = g
after_append a (x ∷ xs) ys h g = (h.0, after_append a xs ys h.1 g)

-- lists that ascend, where all of the first are before all of the second
pub Ascends-append : (P Q : Event → Type 0) → ((a b : Event) → P a → Q b → IsBefore a b) → (xs ys : List Event) → Each P xs → Each Q ys → Ascends xs → Ascends ys → Ascends (xs ++ ys)
Ascends-append P Q f [] ys p q h g = g
Ascends-append P Q f (x ∷ xs) ys p q h g = (after_append x xs ys h.0 (after_every x Q (λ b. f x b p.0) ys q), Ascends-append P Q f xs ys p.1 q h.1 g)

pub by_second : (a b : Key) → a.second < b.second → key_before a b ≡ true
unfolding key_before
by_second a b h = grind (arith, nat_tests)

-- of one turn, with an index from i on; of one phase, with a number from n on; of one second, with a phase from c on
abbrev pub OfTurn : ℕ → ℕ → ℕ → ℕ → Event → Type 0
OfTurn t c n i e = (e.key.second ≡ t) × (e.key.phase ≡ c) × (e.key.number ≡ n) × (i ≤ e.key.index)

abbrev pub OfPhase : ℕ → ℕ → ℕ → Event → Type 0
OfPhase t c n e = (e.key.second ≡ t) × (e.key.phase ≡ c) × (n ≤ e.key.number)

abbrev pub OfSecond : ℕ → ℕ → Event → Type 0
OfSecond t c e = (e.key.second ≡ t) × (c ≤ e.key.phase)

pub keyed-of : (t c n i : ℕ) (xs : List Occurrence) → Each (OfTurn t c n i) (keyed t c n i xs)
unfolding keyed
keyed-of t c n i [] = tt
keyed-of t c n i (x ∷ xs) = (
  (refl, refl, refl, omega arith),
  each_weaker (OfTurn t c n (i + 1)) (OfTurn t c n i) (λ e h. (h.0, h.1, h.2, let k = h.3 in omega arith)) (keyed t c n (i + 1) xs) (keyed-of t c n (i + 1) xs),
)

pub keyed-ascends : (t c n i : ℕ) (xs : List Occurrence) → Ascends (keyed t c n i xs)
unfolding keyed key_before
keyed-ascends t c n i [] = tt
keyed-ascends t c n i (x ∷ xs) = (
  after_every (event_at t c n i x) (OfTurn t c n (i + 1)) (λ b h. grind (arith, nat_tests)) (keyed t c n (i + 1) xs) (keyed-of t c n (i + 1) xs),
  keyed-ascends t c n (i + 1) xs,
)

pub before_in_phase : (t c k : ℕ) (a b : Event) → OfTurn t c k 0 a → OfPhase t c (k + 1) b → IsBefore a b
unfolding key_before
before_in_phase t c k a b h g = grind (arith, nat_tests)

-- of one phase, with numbers from k on, and in order
abbrev InPhase : ℕ → ℕ → ℕ → List Event → Type 0
InPhase t c k es = Each (OfPhase t c k) es × Ascends es

-- what the turn of k tells, and after it those of later ones
turn_first : (t c k : ℕ) (says : List Occurrence) (ys : List Event) → InPhase t c (k + 1) ys → InPhase t c k (keyed t c k 0 says ++ ys)
turn_first t c k says ys h =
    let xs = keyed t c k 0 says in
    let of = keyed-of t c k 0 says in (
      each_append (OfPhase t c k) xs ys (each_weaker (OfTurn t c k 0) _ (λ e g. (g.0, g.1, omega arith)) xs of)
          (each_weaker _ _ (λ e g. (g.0, g.1, omega arith)) ys h.0),
      Ascends-append (OfTurn t c k 0) (OfPhase t c (k + 1)) (before_in_phase t c k) xs ys of h.0 (keyed-ascends t c k 0 says) h.1,
    )

-- what is told by numbers from k on, one after the other
told_phase : (t c k n : ℕ) (says : ℕ → List Occurrence) → InPhase t c k (flat_map (λ i. keyed t c i 0 (says i)) (numbers k n))
told_phase t c k zero says = (tt, tt)
told_phase t c k (suc n) says = turn_first t c k (says k) _ (told_phase t c (k + 1) n says)

-- the events of turns with numbers from k on
turns_phase : (S : Setup) (t : ℕ) (p : Phase) (plan : TurnMoves) (k n : ℕ) (W : World) →
    InPhase t (phase_code p) k (events_in t p (turns S t plan (numbers k n) W))
unfolding turns
turns_phase S t p plan k zero W = (tt, tt)
turns_phase S t p plan k (suc n) W = turn_first t (phase_code p) k (flat_map told (plan k W)) _ (turns_phase S t p plan (k + 1) n (run S t (plan k W) W))

phase_all : (S : Setup) (t : ℕ) (p : Phase) (W : World) → InPhase t (phase_code p) 0 (events_in t p (turns_in S t p W))
unfolding turns_in
phase_all S t p W = turns_phase S t p (turns_of S t p) 0 (count_of S p) W

-- phases that follow one another, from this code on
abbrev pub Rising : ℕ → List Phase → Type 0
Rising c [] = Unit {0}
Rising c (p ∷ ps) = (c ≤ phase_code p) × Rising (phase_code p + 1) ps

phase_before : (t d : ℕ) (a b : Event) → OfPhase t d 0 a → OfSecond t (d + 1) b → IsBefore a b
unfolding key_before
phase_before t d a b g k = grind (arith, nat_tests)

second_all : (S : Setup) (t c : ℕ) (ps : List Phase) (W : World) → Rising c ps → Each (OfSecond t c) (told_in S t ps W) × Ascends (told_in S t ps W)
unfolding told_in
second_all S t c [] W h = (tt, tt)
second_all S t c (p ∷ ps) W h =
    let d = phase_code p in
    let xs = events_in t p (turns_in S t p W) in
    let one = phase_all S t p W in
    let more = second_all S t (d + 1) ps (after S t (turns_in S t p W) W) h.1 in (
      each_append (OfSecond t c) xs _ (each_weaker (OfPhase t d 0) _ (λ e g. (g.0, omega arith)) xs one.0)
          (each_weaker (OfSecond t (d + 1)) _ (λ e g. (g.0, omega arith)) _ more.0),
      Ascends-append (OfPhase t d 0) (OfSecond t (d + 1)) (phase_before t d) xs _ one.0 more.0 one.1 more.1,
    )

rising : Rising 0 phases
rising = (omega arith, (omega arith, (omega arith, (omega arith, (omega arith, tt)))))

abbrev pub Before : ℕ → Event → Type 0
Before t e = e.key.second < t

pub from-before : (S : Setup) (W : World) (t : ℕ) → Each (Before t) (events_from S W t)
unfolding events_from
from-before S W zero = tt
from-before S W (suc t) =
    each_append (Before (suc t)) (events_from S W t) _
    (each_weaker (Before t) (Before (suc t)) (λ e h. omega arith) (events_from S W t) (from-before S W t))
    (each_weaker (OfSecond t 0) (Before (suc t)) (λ e h. let q = h.0 in omega arith) _ (second_all S t 0 phases (world_from S W t) rising).0)

pub from-ascends : (S : Setup) (W : World) (t : ℕ) → Ascends (events_from S W t)
unfolding events_from
from-ascends S W zero = tt
from-ascends S W (suc t) =
    Ascends-append (Before t) (OfSecond t 0) (λ a b h g. by_second a.key b.key (let q = g.0 in omega arith)) (events_from S W t) _
    (from-before S W t) (second_all S t 0 phases (world_from S W t) rising).0 (from-ascends S W t) (second_all S t 0 phases (world_from S W t) rising).1

pub day-ascends : (S : Setup) → Ascends (day S)
unfolding day end_events
day-ascends S =
    let T = S.settings.end_second in
    let ends = told_phase T (phase_code phase.E) 0 (length S.persons) (stranded S (world_at S T)) in
    Ascends-append (Before T) (OfPhase T (phase_code phase.E) 0) (λ a b h g. by_second a.key b.key (let q = g.0 in omega arith)) (events_from S (world_start S) T) _
    (from-before S (world_start S) T) ends.0 (from-ascends S (world_start S) T) ends.1
