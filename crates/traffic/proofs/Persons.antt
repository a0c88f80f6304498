-- The turn of a person changes his own row alone.
use Rattle.traffic.proofs.Common.{◌≡◌, ℕ, List, ◌∙◌, ap, refl, [], ◌∷◌, arith, ◌+◌, get_or, ◌≢◌, get_or-set_other, Some, None, Option, Act, Leg, landing_turns}
use Rattle.traffic.proofs.Common.{leaving_turns, departure_turns, IsOf, AreOf, Apart, Move, persons_by, run, done, told, persons_after, sets_out, landing_moves}
use Rattle.traffic.proofs.Common.{leaving_moves, departure_moves, Person, World, person_of, nobody, Setup, act_after, leg_at, Occurrence}
use Rattle.traffic.proofs.Walks.{flight_walk, leave_walk, departure_walk}
use Rattle.rows.specs.declared.plan.Leg.TheVariants as leg

-- all that these moves tell is of person i
abbrev pub TellOf : ℕ → List Move → Type 0
TellOf i [] = Unit {0}
TellOf i (m ∷ ms) = AreOf i (told m) × TellOf i ms

other_by : (S : Setup) (t i j : ℕ) (e : Occurrence) (o : Option ℕ) (ps : List Person) → j ≢ i → IsOf i o → get_or (persons_by S t e o ps) j nobody ≡ get_or ps j nobody
other_by S t i j e None ps ne h = refl
other_by S t i j e (Some k) ps ne h = get_or-set_other ps k j _ nobody (λ q. ne (q ∙ h))

other_after : (S : Setup) (t i j : ℕ) (es : List Occurrence) (ps : List Person) → j ≢ i → AreOf i es → get_or (persons_after S t es ps) j nobody ≡ get_or ps j nobody
other_after S t i j [] ps ne h = refl
other_after S t i j (e ∷ es) ps ne h = other_after S t i j es (persons_by S t e e.person ps) ne h.1 ∙ other_by S t i j e e.person ps ne h.0

-- moves that tell of person i alone leave the rows of all others as they were
pub other_person : (S : Setup) (t i j : ℕ) (ms : List Move) (W : World) → j ≢ i → TellOf i ms → person_of j (run S t ms W) ≡ person_of j W
other_person S t i j [] W ne h = refl
other_person S t i j (m ∷ ms) W ne h = other_person S t i j ms (done S t m W) ne h.1 ∙ other_after S t i j (told m) W.persons ne h.0

pub landing_moves-of : (S : Setup) (t i : ℕ) (P : Person) → TellOf i (landing_moves S t i P)
landing_moves-of S t i P = flight_walk (TellOf i) S t i P tt (λ mode seconds start p w e. ((refl, (refl, (refl, tt))), tt))

sets_out-of : (S : Setup) (i : ℕ) (w : Leg) (next : Act) → TellOf i (sets_out S i w next)
sets_out-of S i (leg.Teleport mode seconds) next = tt
sets_out-of S i _ next = ((refl, tt), tt)

pub leaving_moves-of : (S : Setup) (t i : ℕ) (P : Person) → TellOf i (leaving_moves S t i P)
leaving_moves-of S t i P = leave_walk (TellOf i) S t i P tt (λ e. ((refl, (refl, tt)), sets_out-of S i (leg_at S i P.element) (act_after S i P.element)))

pub flights_apart : (S : Setup) (t : ℕ) → Apart S t (landing_turns S t)
flights_apart S t n m W ne = ap (landing_moves S t n) (other_person S t m n (landing_turns S t m W) W ne (landing_moves-of S t m (person_of m W)))

pub leaves_apart : (S : Setup) (t : ℕ) → Apart S t (leaving_turns S t)
leaves_apart S t n m W ne = ap (leaving_moves S t n) (other_person S t m n (leaving_turns S t m W) W ne (leaving_moves-of S t m (person_of m W)))

pub departures_apart : (S : Setup) (t : ℕ) → Apart S t (departure_turns S t)
departures_apart S t n m W ne = refl

-- the turn of a departure changes nobody's row
pub departure_keeps : (S : Setup) (t d j : ℕ) (W : World) → person_of j (run S t (departure_turns S t d W) W) ≡ person_of j W
departure_keeps S t d j W = other_person S t (j + 1) j (departure_moves S t d) W (λ e. omega arith) (departure_walk (TellOf (j + 1)) S t d tt (λ e. ((tt, tt), tt)))
