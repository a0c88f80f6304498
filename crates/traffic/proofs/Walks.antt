-- The walk over a second: the turns of persons and departures, and turns, phases, seconds and days one after the other.
use Rattle.traffic.proofs.Common.{◌≡◌, ℕ, List, ◌∙◌, length, ap, refl, [], ◌∷◌, arith, ◌<◌, ◌++◌, ◌+◌, inl, inr, subst, suc, eqb, zero, cases_Bool, eqb-true}
use Rattle.traffic.proofs.Common.{length-replicate, Some, Mode, Phase, VEHICLE_COST, Act, Leg, moves_of, after, turns_of, turns_in, world_start, through}
use Rattle.traffic.proofs.Common.{world_from, count_of, phases, second, turns, TurnMoves, below, numbers, Move, Enter, run, landing, sets_out, transit_vehicle}
use Rattle.traffic.proofs.Common.{departs, landing_moves, leaving_moves, departure_moves, lands, leaving, Teleporting, At, Place, Person, World, Setup}
use Rattle.traffic.proofs.{Common.act_after, Common.leg_at, Common.act_at, Common.departure, Each.each_number, Moments.Along, Moments.along_append}
use Rattle.traffic.{proofs.Sublists.run-append, proofs.Sublists.credits-run, specs.Moves.Report}
use Rattle.std.specs.List.{AllByRecursion as Each}
use Rattle.rows.specs.declared.plan.Leg.TheVariants as leg

-- PERSONS AND DEPARTURES
-- T holds of no moves, and of those by which a teleported leg of person j ends in second t
landing_walk : (T : List Move → Type 0) (t j : ℕ) (w : Leg) (next : Act) (pl : Place) → T [] → ((mode : Mode) (seconds start : ℕ) → pl ≡ Teleporting start → w ≡ leg.Teleport mode seconds → start + seconds ≡ t → T (Report (lands j mode seconds next) ∷ [])) → T (landing t j w next pl)
landing_walk T t j (leg.Teleport mode seconds) next (Teleporting start) none f = elim (cases_Bool (eqb (start + seconds) t)) [ inl e ↦ rw e (f mode seconds start refl refl (eqb-true (start + seconds) t e)) | inr e ↦ rw e none ]
landing_walk T t j _ next _ none f = none

pub flight_walk : (T : List Move → Type 0) (S : Setup) (t j : ℕ) (P : Person) → T []
    → ((mode : Mode) (seconds start : ℕ) → P.place ≡ Teleporting start → leg_at S j P.element ≡ leg.Teleport mode seconds → start + seconds ≡ t → T (Report (lands j mode seconds (act_after S j P.element)) ∷ []))
    → T (landing_moves S t j P)
unfolding landing_moves
flight_walk T S t j P none f = landing_walk T t j (leg_at S j P.element) (act_after S j P.element) P.place none f

-- and so of those by which his activity ends then, and the leg after it begins
leaving_walk : (T : List Move → Type 0) (S : Setup) (t j : ℕ) (here : Act) (w : Leg) (next : Act) (pl : Place) → T [] → (pl ≡ At (Some t) → T (Report (departs j here w) ∷ sets_out S j w next)) → T (leaving S t j here w next pl)
leaving_walk T S t j here w next (At (Some end)) none f = elim (cases_Bool (eqb end t)) [ inl e ↦ rw e (f (ap (λ (x : ℕ). At (Some x)) (eqb-true end t e))) | inr e ↦ rw e none ]
leaving_walk T S t j here w next _ none f = none

pub leave_walk : (T : List Move → Type 0) (S : Setup) (t j : ℕ) (P : Person) → T []
    → (P.place ≡ At (Some t) → T (Report (departs j (act_at S j P.element) (leg_at S j P.element)) ∷ sets_out S j (leg_at S j P.element) (act_after S j P.element)))
    → T (leaving_moves S t j P)
unfolding leaving_moves
leave_walk T S t j P none f = leaving_walk T S t j (act_at S j P.element) (leg_at S j P.element) (act_after S j P.element) P.place none f

-- and of that by which a departure's vehicle starts
pub departure_walk : (T : List Move → Type 0) (S : Setup) (t d : ℕ) → T [] → ((departure S d).second ≡ t → T (Enter (transit_vehicle d (departure S d)) ∷ [])) → T (departure_moves S t d)
unfolding departure_moves
departure_walk T S t d none f = elim (cases_Bool (eqb (departure S d).second t)) [ inl e ↦ rw e (f (eqb-true (departure S d).second t e)) | inr e ↦ rw e none ]

-- TURNS AND PHASES
-- what holds of no moves, and of two lists of moves one after the other
pub record IsWalk (S : Setup) (t : ℕ) (T : World → List Move → Type 0) : Type 0 where
  pub none : (W : World) → T W []
  pub append : (xs ys : List Move) (W : World) → T W xs → T (run S t xs W) ys → T W (xs ++ ys)

pub along_is : (F : World → Move → Type 0) (S : Setup) (t : ℕ) → IsWalk S t (λ W ms. Along F S t ms W)
along_is F S t = record { none = λ W. tt; append = along_append F S t }

turns_walk : (T : World → List Move → Type 0) (S : Setup) (t m : ℕ) (plan : TurnMoves) → IsWalk S t T → ((n : ℕ) (W : World) → n < m → T W (plan n W)) → (ns : List ℕ) (W : World) → Each (λ n. n < m) ns → T W (moves_of (turns S t plan ns W))
unfolding turns
turns_walk T S t m plan walk f [] W h = walk.none W
turns_walk T S t m plan walk f (n ∷ ns) W h = walk.append (plan n W) _ W (f n W h.0) (turns_walk T S t m plan walk f ns (run S t (plan n W) W) h.1)

-- by number: I holds of the number of whose turn comes next
pub numbers_walk : (I : ℕ → World → Type 0) (S : Setup) (t : ℕ) (plan : TurnMoves) → ((n : ℕ) (W : World) → I n W → I (n + 1) (run S t (plan n W) W)) → (k n : ℕ) (W : World) → I k W → I (k + n) (after S t (turns S t plan (numbers k n) W) W)
unfolding turns
numbers_walk I S t plan f k zero W h = subst (λ (m : ℕ). I m W) (omega arith) h
numbers_walk I S t plan f k (suc n) W h =
    let V = run S t (plan k W) W in
    let us = turns S t plan (numbers (k + 1) n) V in
    let e : (k + 1) + n ≡ k + suc n = omega arith in
    rw (run-append S t (plan k W) (moves_of us) W) (subst (λ (m : ℕ). I m (after S t us V)) e (numbers_walk I S t plan f (k + 1) n V (f k W h)))

pub phase_walk : (T : World → List Move → Type 0) (S : Setup) (t : ℕ) (p : Phase) → IsWalk S t T → ((n : ℕ) (W : World) → n < count_of S p → T W (turns_of S t p n W)) → (W : World) → T W (moves_of (turns_in S t p W))
unfolding turns_in
phase_walk T S t p walk f W = turns_walk T S t (count_of S p) (turns_of S t p) walk f (below (count_of S p)) W (each_number (count_of S p) 0 (count_of S p) (omega arith))

-- WHAT ALL TURNS KEEP
pub phase_keeps : (I : World → Type 0) (S : Setup) (t : ℕ) (p : Phase) → ((n : ℕ) (W : World) → n < count_of S p → I W → I (run S t (turns_of S t p n W) W)) → (W : World) → I W → I (after S t (turns_in S t p W) W)
phase_keeps I S t p f W = phase_walk (λ V ms. I V → I (run S t ms V)) S t p
    (record { none = λ V i. i; append = λ xs ys V f g i. rw (run-append S t xs ys V) (g (f i)) }) f W

pub phases_keep : (I : World → Type 0) (S : Setup) (t : ℕ) → ((p : Phase) (n : ℕ) (W : World) → n < count_of S p → I W → I (run S t (turns_of S t p n W) W)) → (ps : List Phase) (W : World) → I W → I (through S t ps W)
unfolding through
phases_keep I S t f [] W h = h
phases_keep I S t f (p ∷ ps) W h = phases_keep I S t f ps (after S t (turns_in S t p W) W) (phase_keeps I S t p (f p) W h)

pub seconds_keep : (I : World → Type 0) (S : Setup) → ((t : ℕ) (W : World) → I W → I (second S t W)) → (W : World) (t : ℕ) → I W → I (world_from S W t)
unfolding world_from
seconds_keep I S f W zero h = h
seconds_keep I S f W (suc t) h = f t (world_from S W t) (seconds_keep I S f W t h)

-- each link has its credit
pub credits_start : (S : Setup) → length (world_start S).credits ≡ length S.links
unfolding world_start
credits_start S = length-replicate (length S.links) VEHICLE_COST

pub credits_day : (S : Setup) (W : World) (t : ℕ) → length W.credits ≡ length S.links → length (world_from S W t).credits ≡ length S.links
credits_day S W t e =
    let I : World → Type 0 = λ V. length V.credits ≡ length S.links in
    seconds_keep I S (λ s V f. phases_keep I S s (λ p n U lt g. credits-run S s (turns_of S s p n U) U ∙ g) phases V f) W t e
