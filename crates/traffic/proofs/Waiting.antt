-- A link's turn changes nobody who waits at a stop of another link.
use Rattle.traffic.proofs.Common.{◌≡◌, ℕ, List, ◌∙◌, length, ap, refl, sym, [], ◌∷◌, arith, ◌<◌, true, ◌++◌, ◌+◌, Bool, inl, inr, ◌≤◌, false, suc, eqb, zero}
use Rattle.traffic.proofs.Common.{◌≢◌, drop-append_seam, cases_Bool, eqb-true, ne_eqb, flat_map, map, Some, None, Option, VehicleId, Word, Act, Leg, Dwelling}
use Rattle.traffic.proofs.Common.{Rules, buffered, LinkState, link_moves, below, numbers, Move, Transfer, ride, person_by, run, done, told, person_after_all}
use Rattle.traffic.proofs.Common.{start_act, person_after, told_of, waiter, waits_on, waiters, Row, Place, Waiting, Person, World, person_of, Setup, act_after}
use Rattle.traffic.proofs.Common.{leg_at, link_of_stop, Waiter, served_row, next_call, alighting, rider, staying, served_vehicle, boarding, riders_after}
use Rattle.traffic.proofs.Common.{Occurrence, boarded, arrives, enters, leaves, starts, serves}
use Rattle.traffic.proofs.Each.{each_all, each_append, each_if, each_boarding, each_left}
use Rattle.traffic.proofs.{LinkEach.serving_stage, LinkEach.FrontMoves, LinkEach.Have, LinkEach.link_each, Sublists.persons-length}
use Rattle.traffic.{proofs.Sublists.person_after_all-is, specs.Moves.Remove as Quit, specs.Rows.VehicleState, specs.declared.riders.Rider.Rider}
use Rattle.std.specs.List.{AllByRecursion as Each}
use Rattle.events.specs.declared.event.Word.TheVariants as word
use Rattle.rows.specs.declared.plan.Leg.TheVariants as leg

-- all of these persons are such
abbrev pub AreSuch : (ℕ → Type 0) → List Waiter → Type 0
AreSuch Q ws = Each (λ (w : Waiter). Q w.person) ws

abbrev pub Such : (ℕ → Type 0) → Option ℕ → Type 0
Such Q None = Unit {0}
Such Q (Some i) = Q i

-- an event begins no leg and no waiting, loses nobody, and lets only such persons board
abbrev pub Calm_word : (ℕ → Type 0) → Word → Option ℕ → Type 0
Calm_word Q word.Departure o = ⊥
Calm_word Q word.WaitingForPt o = ⊥
Calm_word Q word.StuckAndAbort o = ⊥
Calm_word Q word.PersonEntersVehicle o = Such Q o
Calm_word Q _ o = Unit {0}

abbrev pub Calm : (ℕ → Type 0) → List Occurrence → Type 0
Calm Q es = Each (λ (e : Occurrence). Calm_word Q e.word e.person) es

abbrev pub Calm_moves : (ℕ → Type 0) → List Move → Type 0
Calm_moves Q ms = Each (λ (m : Move). Calm Q (told m)) ms

Calm-append : (Q : ℕ → Type 0) (xs ys : List Occurrence) → Calm Q xs → Calm Q ys → Calm Q (xs ++ ys)
Calm-append Q xs ys h g = each_append (λ (e : Occurrence). Calm_word Q e.word e.person) xs ys h g

-- WHAT A LINK'S TURN TELLS IS CALM
calm_leaves : (Q : ℕ → Type 0) (v : VehicleId) (l : ℕ) (rs : List Rider) → Calm Q (flat_map (leaves v l) rs)
calm_leaves Q v l [] = tt
calm_leaves Q v l (r ∷ rs) = (tt, (tt, (tt, calm_leaves Q v l rs)))

calm_enters : (Q : ℕ → Type 0) (v : VehicleId) (ws : List Waiter) → AreSuch Q ws → Calm Q (flat_map (enters v) (map rider ws))
calm_enters Q v [] h = tt
calm_enters Q v (w ∷ ws) h = (h.0, calm_enters Q v ws h.1)

pub boarded-are : (v : VehicleState) (ws : List Waiter) → boarded (next_call v).stop v.riders (riders_after v ws) ≡ map rider (boarding v ws)
unfolding riders_after
boarded-are v ws = drop-append_seam (staying (next_call v).stop v.riders) (map rider (boarding v ws))

calm_serves : (Q : ℕ → Type 0) (D : Dwelling) (t l : ℕ) (ws : List Waiter) (r : Row) → AreSuch Q (boarding r.vehicle ws) → Calm Q (serves r (served_row D t l ws r.vehicle))
unfolding served_vehicle
calm_serves Q D t l ws r h =
    let e = boarded-are r.vehicle ws in
    (tt, Calm-append Q _ _ (calm_leaves Q r.vehicle.id r.link (alighting (next_call r.vehicle).stop r.vehicle.riders)) (rw e (calm_enters Q r.vehicle.id (boarding r.vehicle ws) h)))

calm_starts : (Q : ℕ → Type 0) (r : Row) → Calm Q (starts r)
calm_starts Q r = each_if (λ (e : Occurrence). Calm_word Q e.word e.person) r.vehicle.started [] _ tt (tt, tt)

calm_arrives : (Q : ℕ → Type 0) (r : Row) → Calm Q (arrives r)
calm_arrives Q r = (tt, calm_leaves Q r.vehicle.id r.link r.vehicle.riders)

pub gone_calm : (Q : ℕ → Type 0) (l : ℕ) (s : Bool) (r : Row) → Calm Q (told (Quit l (serving_stage s) 0 r))
gone_calm Q l true r = Calm-append Q (starts r) (arrives r) (calm_starts Q r) (calm_arrives Q r)
gone_calm Q l false r = calm_arrives Q r

pub pass_calm : (Q : ℕ → Type 0) (t l b : ℕ) (s : Bool) (r : Row) → Calm Q (told (Transfer l (serving_stage s) 0 r (buffered t l b r)))
pass_calm Q t l b true r = Calm-append Q (starts r) [] (calm_starts Q r) tt
pass_calm Q t l b false r = tt

pub serve_calm : (Q : ℕ → Type 0) (D : Dwelling) (t l : ℕ) (s : Bool) (ws : List Waiter) (r : Row) → AreSuch Q (boarding r.vehicle ws) → Calm Q (told (Transfer l (serving_stage s) 0 r (served_row D t l ws r.vehicle)))
unfolding served_vehicle
serve_calm Q D t l true ws r h = Calm-append Q (starts r) _ (calm_starts Q r) (calm_serves Q D t l ws r h)
serve_calm Q D t l false ws r h = calm_serves Q D t l ws r h

front-calm : (Q : ℕ → Type 0) (K : Rules) (t l : ℕ) (s : Bool) → FrontMoves K t l (λ v. Unit {0}) (AreSuch Q) (λ m. Calm Q (told m)) s
front-calm Q K t l s =
    record {
      serve = λ ws r h w. serve_calm Q K.dwell t l s ws r (each_boarding (λ (x : Waiter). Q x.person) _ r.vehicle (λ x e g. g) ws w);
      left = λ v ws w. each_left (λ (x : Waiter). Q x.person) v ws w;
      arrive = λ r h. gone_calm Q l s r;
      pass = λ b r h. pass_calm Q t l b s r;
      pay = λ c. tt;
    }

pub link_moves-calm : (Q : ℕ → Type 0) (K : Rules) (t l : ℕ) (ws : List Waiter) (L : LinkState) → AreSuch Q ws → Calm_moves Q (link_moves K t l ws L)
link_moves-calm Q K t l ws L h =
    let all : (xs : List Row) → Have (λ v. Unit {0}) xs = λ xs. each_all _ (λ r. tt) xs in
    link_each K t l (λ v. Unit {0}) (AreSuch Q) (λ m. Calm Q (told m)) (front-calm Q K t l) (λ k r g. (tt, tt)) tt ws L h (all L.queue) (all L.wait) (all L.bay)

-- CALM EVENTS LEAVE THOSE WHO WAIT ELSEWHERE
start_kept : (S : Setup) (t a i : ℕ) (P : Person) (pl : Place) → P.place ≡ pl → waiter S a i (start_act S t i P pl) ≡ waiter S a i P
start_kept S t a i P (Waiting stop since) e = refl
start_kept S t a i P _ e = rw e refl

ride_kept : (S : Setup) (a i : ℕ) (o : Option VehicleId) (P : Person) → waiter S a i P ≡ [] → waiter S a i (ride o P) ≡ waiter S a i P
ride_kept S a i None P h = refl
ride_kept S a i (Some v) P h = sym h

word_kept : (S : Setup) (t a i : ℕ) (Q : ℕ → Type 0) (e : Occurrence) (w : Word) (P : Person) → (Q i → waiter S a i P ≡ []) → Calm_word Q w (Some i) → waiter S a i (person_by S t i e w P) ≡ waiter S a i P
word_kept S t a i Q e word.Departure P h c = absurd c
word_kept S t a i Q e word.WaitingForPt P h c = absurd c
word_kept S t a i Q e word.StuckAndAbort P h c = absurd c
word_kept S t a i Q e word.PersonEntersVehicle P h c = ride_kept S a i e.vehicle P (h c)
word_kept S t a i Q e word.ActStart P h c = start_kept S t a i P P.place refl
word_kept S t a i Q e _ P h c = refl

said_kept : (S : Setup) (t a i : ℕ) (Q : ℕ → Type 0) (e : Occurrence) (o : Option ℕ) (P : Person) → (Q i → waiter S a i P ≡ []) → Calm_word Q e.word o → waiter S a i (told_of S t i e o P) ≡ waiter S a i P
unfolding person_after
said_kept S t a i Q e None P h c = refl
said_kept S t a i Q e (Some j) P h c =
    elim (cases_Bool (eqb j i)) [
      | inl f ↦ let q = eqb-true j i f in rw f (word_kept S t a i Q e e.word P h (rw q at c))
      | inr f ↦ rw f refl
    ]

pub all_kept : (S : Setup) (t a i : ℕ) (Q : ℕ → Type 0) (es : List Occurrence) (P : Person) → (Q i → waiter S a i P ≡ []) → Calm Q es → waiter S a i (person_after_all S t i es P) ≡ waiter S a i P
all_kept S t a i Q [] P h c = refl
all_kept S t a i Q (e ∷ es) P h c =
    let f = said_kept S t a i Q e e.person P h c.0 in
    all_kept S t a i Q es (told_of S t i e e.person P) (λ q. f ∙ h q) c.1 ∙ f

-- the rows of persons after moves
pub run-length : (S : Setup) (t : ℕ) (ms : List Move) (W : World) → length (run S t ms W).persons ≡ length W.persons
run-length S t [] W = refl
run-length S t (m ∷ ms) W = run-length S t ms (done S t m W) ∙ persons-length S t (told m) W.persons

run_kept : (S : Setup) (t a i : ℕ) (Q : ℕ → Type 0) (ms : List Move) (W : World) → i < length W.persons → (Q i → waiter S a i (person_of i W) ≡ []) → Calm_moves Q ms → waiter S a i (person_of i (run S t ms W)) ≡ waiter S a i (person_of i W)
run_kept S t a i Q [] W lt h c = refl
run_kept S t a i Q (m ∷ ms) W lt h c =
    let e = ap (waiter S a i) (person_after_all-is S t i (told m) W.persons lt) in
    let f = all_kept S t a i Q (told m) (person_of i W) h c.0 in
    let lt2 : i < length (done S t m W).persons = (let q = persons-length S t (told m) W.persons in omega arith) in
    run_kept S t a i Q ms (done S t m W) lt2 (λ q. e ∙ f ∙ h q) c.1 ∙ e ∙ f

-- who waits on link l waits on no other one
abbrev Elsewhere : Setup → ℕ → World → ℕ → Type 0
Elsewhere S a W i = waiter S a i (person_of i W) ≡ []

other_stop : (S : Setup) (l a i : ℕ) (Q : ℕ → Type 0) → a ≢ l → (w : Leg) (next : Act) (pl : Place) → (waits_on S a i w next pl ≡ [] → Q i) → AreSuch Q (waits_on S l i w next pl)
other_stop S l a i Q ne (leg.Transit line access egress) next (Waiting stop since) h =
    elim (cases_Bool (eqb (link_of_stop S stop) l)) [
      | inl e ↦ let q = eqb-true (link_of_stop S stop) l e in let g = ne_eqb (link_of_stop S stop) a (λ p. ne (sym p ∙ q)) in let k = simp g at h in simp e (k refl, tt)
      | inr e ↦ simp e tt
    ]
other_stop S l a i Q ne w next (Waiting stop since) h = each_if _ (eqb (link_of_stop S stop) l) _ _ tt tt
other_stop S l a i Q ne w next _ h = tt

waiters-elsewhere : (S : Setup) (l a : ℕ) (W : World) → a ≢ l → (is : List ℕ) → AreSuch (Elsewhere S a W) (flat_map (λ i. waiter S l i (person_of i W)) is)
waiters-elsewhere S l a W ne [] = tt
waiters-elsewhere S l a W ne (i ∷ is) =
    let P = person_of i W in
    each_append (λ (w : Waiter). Elsewhere S a W w.person) (waiter S l i P) _ (other_stop S l a i (Elsewhere S a W) ne (leg_at S i P.element) (act_after S i P.element) P.place (λ h. h)) (waiters-elsewhere S l a W ne is)

same_waiters : (S : Setup) (a : ℕ) (W U : World) (k n : ℕ) → k + n ≤ length W.persons → ((i : ℕ) → i < length W.persons → waiter S a i (person_of i U) ≡ waiter S a i (person_of i W)) →
    flat_map (λ i. waiter S a i (person_of i U)) (numbers k n) ≡ flat_map (λ i. waiter S a i (person_of i W)) (numbers k n)
same_waiters S a W U k zero h g = refl
same_waiters S a W U k (suc n) h g = let e = g k (omega arith) in let f = same_waiters S a W U (k + 1) n (omega arith) g in cc

-- moves that are calm for those who do not wait on link a leave those who wait there as they were
pub waiters-kept : (S : Setup) (t a : ℕ) (ms : List Move) (W : World) → Calm_moves (Elsewhere S a W) ms → waiters S a (run S t ms W) ≡ waiters S a W
unfolding waiters
waiters-kept S t a ms W c =
    let U = run S t ms W in
    ap (λ n. flat_map (λ i. waiter S a i (person_of i U)) (below n)) (run-length S t ms W)
    ∙ same_waiters S a W U 0 (length W.persons) (omega arith) (λ i lt. run_kept S t a i (Elsewhere S a W) ms W lt (λ q. q) c)

pub waiters-calm : (S : Setup) (a l : ℕ) (W : World) → a ≢ l → AreSuch (Elsewhere S a W) (waiters S l W)
unfolding waiters
waiters-calm S a l W ne = waiters-elsewhere S l a W ne (below (length W.persons))

-- the turn of a link leaves those who wait on another one as they were
pub waiters-other : (S : Setup) (t l a : ℕ) (K : Rules) (L : LinkState) (W : World) → a ≢ l → waiters S a (run S t (link_moves K t l (waiters S l W) L) W) ≡ waiters S a W
waiters-other S t l a K L W ne =
    waiters-kept S t a (link_moves K t l (waiters S l W) L) W (link_moves-calm (Elsewhere S a W) K t l (waiters S l W) L (waiters-calm S a l W ne))
