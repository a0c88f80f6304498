-- Each flight began in an earlier second, and stays as it began.
use Rattle.traffic.proofs.Common.{◌≡◌, ℕ, List, ◌∙◌, length, ap, refl, sym, [], ◌∷◌, arith, ◌<◌, ◌++◌, inl, inr, subst, suc, eqb, zero, get_or, ◌≢◌, ◌⊎◌}
use Rattle.traffic.proofs.Common.{cases_Bool, eqb-true, eqb-false, flat_map, map, Some, None, Option, More, VehicleId, Word, PlanRows, world_at, moves_of}
use Rattle.traffic.proofs.Common.{turns_in, world_start, world_from, landing_turns, leaving_turns, at_home, below, ride, person_by, wait_at, lose, run, told}
use Rattle.traffic.proofs.Common.{person_after_all, start_act, person_after, told_of, landing_moves, leaving_moves, departure_moves, person_of, nobody, Setup}
use Rattle.traffic.proofs.{Persons.landing_moves-of, Persons.leaving_moves-of, Waiting.run-length}
use Rattle.traffic.specs.declared.{moves.Move.Move, moves.Occurrence.Occurrence, world.Person.Person, world.Place.Place}
use Rattle.traffic.specs.declared.world.Place.TheVariants.{At, Teleporting, Waiting, Riding, Aborted}
use Rattle.events.specs.declared.event.Phase.TheVariants as phase
use Rattle.events.specs.declared.event.Word.TheVariants as word
use Rattle.events.specs.declared.event.More.TheVariants as more
use Rattle.law_one_place.proofs.Turns.{always_kept}
use Rattle.law_partitions.proofs.{Begins.of-quiet, Begins.own-turn, Begins.departures-quiet, Early.A_world, Early.B1_world, Early.mid, Early.A_moves-are}
use Rattle.law_partitions.proofs.{Early.B1_moves-are, Early.B2_moves-are, Early.world-next, Quiet.person_moves, Quiet.person_moves-append, Quiet.person-run}
use Rattle.law_partitions.proofs.{Quiet.quiet_same, Second.C_world, Second.C_moves, Second.D_moves, Second.C-length}

pub few_mid : (S : Setup) (t : ℕ) → length (mid S t).persons ≡ length S.persons
few_mid S t =
    let W0 = world_at S t in
    let W1 = A_world S t W0 in
    let W2 = B1_world S t W1 in
    run-length S t (moves_of (turns_in S t phase.B2 W2)) W2 ∙ run-length S t (moves_of (turns_in S t phase.B1 W1)) W1 ∙ run-length S t (moves_of (turns_in S t phase.A W0)) W0 ∙ (always_kept S t).one_row

-- BEFORE PHASE C
pub mid_is : (S : Setup) (t i : ℕ) → i < length S.persons → let now = person_of i (A_world S t (world_at S t)) in person_of i (mid S t) ≡ person_moves S t i (leaving_moves S t i now) now
mid_is S t i lt =
    let W = world_at S t in
    let W1 = A_world S t W in
    let W2 = B1_world S t W1 in
    let few = (always_kept S t).one_row in
    let f1 = run-length S t (moves_of (turns_in S t phase.A W)) W in
    let f2 = run-length S t (moves_of (turns_in S t phase.B1 W1)) W1 in
    let c = length S.persons in
    let now = person_of i W1 in
    let all = flat_map (departure_moves S t) (below (length S.departures)) in
    let two : person_of i W2 ≡ person_moves S t i (leaving_moves S t i now) now =
    ap (λ ms. person_of i (run S t ms W1)) (B1_moves-are S t W1) ∙ person-run S t i (flat_map (λ i. leaving_turns S t i W1) (below c)) W1 (omega arith)
    ∙ own-turn S t i c (λ n. leaving_turns S t n W1) (λ n g. of-quiet S t n i (leaving_turns S t n W1) g (leaving_moves-of S t n (person_of n W1))) lt now in
    ap (λ us. person_of i (run S t us W2)) (B2_moves-are S t W2) ∙ person-run S t i all W2 (omega arith)
    ∙ quiet_same S t i all (person_of i W2) (departures-quiet S t i (below (length S.departures))) ∙ two

-- A FLIGHT OF AN EARLIER SECOND
abbrev NotSince : ℕ → Place → Type 0
NotSince s (Teleporting start) = start ≢ s
NotSince s _ = Unit {0}

-- an event of second t leaves a person as he was, or lets him fly since t or be elsewhere
abbrev Kept_or : ℕ → Person → Person → Type 0
Kept_or s P Q = (Q ≡ P) ⊎ NotSince s Q.place

start_kept : (S : Setup) (t i s : ℕ) (P : Person) (pl : Place) → Kept_or s P (start_act S t i P pl)
start_kept S t i s P (Waiting stop since) = inl refl
start_kept S t i s P (At end) = inr tt
start_kept S t i s P (Teleporting start) = inr tt
start_kept S t i s P (Riding v) = inr tt
start_kept S t i s P (Aborted l) = inr tt

ride_kept : (s : ℕ) (o : Option VehicleId) (P : Person) → Kept_or s P (ride o P)
ride_kept s None P = inl refl
ride_kept s (Some v) P = inr tt

wait_kept : (s t : ℕ) (m : More) (P : Person) → Kept_or s P (wait_at m t P)
wait_kept s t (more.Stop stop) P = inr tt
wait_kept s t _ P = inl refl

lose_kept : (s : ℕ) (o : Option ℕ) (P : Person) → Kept_or s P (lose o P)
lose_kept s None P = inl refl
lose_kept s (Some l) P = inr tt

by_kept : (S : Setup) (t i s : ℕ) → t ≢ s → (e : Occurrence) (w : Word) (P : Person) → Kept_or s P (person_by S t i e w P)
by_kept S t i s ne e word.Departure P = inr ne
by_kept S t i s ne e word.WaitingForPt P = wait_kept s t e.more P
by_kept S t i s ne e word.PersonEntersVehicle P = ride_kept s e.vehicle P
by_kept S t i s ne e word.ActStart P = start_kept S t i s P P.place
by_kept S t i s ne e word.StuckAndAbort P = lose_kept s e.link P
by_kept S t i s ne e _ P = inl refl

one_kept : (S : Setup) (t i s : ℕ) → t ≢ s → (e : Occurrence) (o : Option ℕ) (P : Person) → Kept_or s P (told_of S t i e o P)
unfolding person_after
one_kept S t i s ne e None P = inl refl
one_kept S t i s ne e (Some j) P = elim (cases_Bool (eqb j i)) [ inl f ↦ rw f (by_kept S t i s ne e e.word P) | inr f ↦ rw f (inl refl) ]

then_kept : (s : ℕ) (P Q R : Person) → Kept_or s P Q → Kept_or s Q R → Kept_or s P R
then_kept s P Q R (inl e) (inl f) = inl (f ∙ e)
then_kept s P Q R (inr n) (inl f) = inr (subst (λ (X : Person). NotSince s X.place) (sym f) n)
then_kept s P Q R (inl e) (inr n) = inr n
then_kept s P Q R (inr m) (inr n) = inr n

all_kept : (S : Setup) (t i s : ℕ) → t ≢ s → (es : List Occurrence) (P : Person) → Kept_or s P (person_after_all S t i es P)
all_kept S t i s ne [] P = inl refl
all_kept S t i s ne (e ∷ es) P = let Q = told_of S t i e e.person P in then_kept s P Q (person_after_all S t i es Q) (one_kept S t i s ne e e.person P) (all_kept S t i s ne es Q)

pub moves_kept : (S : Setup) (t i s : ℕ) → t ≢ s → (ms : List Move) (P : Person) → Kept_or s P (person_moves S t i ms P)
moves_kept S t i s ne [] P = inl refl
moves_kept S t i s ne (m ∷ ms) P = let Q = person_after_all S t i (told m) P in then_kept s P Q (person_moves S t i ms Q) (all_kept S t i s ne (told m) P) (moves_kept S t i s ne ms Q)

-- the whole second
second_moves : (S : Setup) (t i : ℕ) → i < length S.persons → (ms : List Move) × (person_of i (world_at S (suc t)) ≡ person_moves S t i ms (person_of i (world_at S t)))
second_moves S t i lt =
    let W = world_at S t in
    let P = person_of i W in
    let few0 = (always_kept S t).one_row in
    let few = few_mid S t in
    let f2 = C-length S t (mid S t) in
    let V = mid S t in
    let U = C_world S t V in
    let c = length S.persons in
    let now = person_of i (A_world S t W) in
    let a = landing_moves S t i P in
    let ea : now ≡ person_moves S t i a P = ap (λ ms. person_of i (run S t ms W)) (A_moves-are S t W) ∙ person-run S t i (flat_map (λ i. landing_turns S t i W) (below c)) W (omega arith)
    ∙ own-turn S t i c (λ n. landing_turns S t n W) (λ n g. of-quiet S t n i (landing_turns S t n W) g (landing_moves-of S t n (person_of n W))) lt P in
    let b = leaving_moves S t i now in
    let d = C_moves S t V in
    let f = D_moves S t U in
    let all : person_of i (world_at S (suc t)) ≡ person_moves S t i f (person_moves S t i d (person_moves S t i b (person_moves S t i a P))) =
    ap (person_of i) (world-next S t) ∙ person-run S t i f U (omega arith) ∙ ap (person_moves S t i f) (person-run S t i d V (omega arith) ∙ ap (person_moves S t i d) (mid_is S t i lt ∙ ap (person_moves S t i b) ea)) in
    (a ++ (b ++ (d ++ f)), all ∙ sym (person_moves-append S t i a (b ++ (d ++ f)) P ∙ person_moves-append S t i b (d ++ f) (person_moves S t i a P) ∙ person_moves-append S t i d f (person_moves S t i b (person_moves S t i a P))))

-- who flies since another second flew so before
pub flight_kept : (S : Setup) (t i s : ℕ) → i < length S.persons → t ≢ s → (person_of i (world_at S (suc t))).place ≡ Teleporting s → person_of i (world_at S (suc t)) ≡ person_of i (world_at S t)
flight_kept S t i s lt ne e =
    let m = second_moves S t i lt in
    elim (moves_kept S t i s ne m.0 (person_of i (world_at S t))) [
      | inl q ↦ m.1 ∙ q
      | inr n ↦ let z = subst (λ pl. NotSince s pl) (ap (λ (X : Person). X.place) (sym m.1) ∙ e) n in absurd (z refl)
    ]

at_start : (ps : List PlanRows) (i s : ℕ) → (get_or (map at_home ps) i nobody).place ≡ Teleporting s → ⊥
at_start [] i s e = cc
at_start (x ∷ xs) zero s e = cc
at_start (x ∷ xs) (suc i) s e = at_start xs i s e

-- so each flight began before
pub flights_began : (S : Setup) (t i s : ℕ) → i < length S.persons → (person_of i (world_at S t)).place ≡ Teleporting s → s < t
unfolding world_from world_start
flights_began S zero i s lt e = absurd (at_start S.persons i s e)
flights_began S (suc t) i s lt e = elim (cases_Bool (eqb t s)) [
  | inl q ↦ let f = eqb-true t s q in omega arith
  | inr q ↦ let ne = eqb-false t s q in let same = flight_kept S t i s lt ne e in let r = flights_began S t i s lt (ap (λ (X : Person). X.place) (sym same) ∙ e) in omega arith
]
