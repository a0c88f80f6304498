-- Who leaves a vehicle, is lost with it, or boards it at a stop.
use Rattle.traffic.proofs.Common.{◌≡◌, ℕ, List, ◌∙◌, length, ap, refl, [], ◌∷◌, arith, ◌<◌, true, ◌+◌, Bool, inl, inr, ◌≤◌, false, suc, eqb, zero, ◌-◌}
use Rattle.traffic.proofs.Common.{cases_Bool, cases_lt, nat_tests, sum_by-cons, flat_map, list_any, map, filter, Some, None, not, Option, if◌then◌else◌, ◌==◌}
use Rattle.traffic.proofs.Common.{count_by, VehicleId, Act, Leg, Dwelling, numbers, person_after, person_after_all, start_act, told_of, waiters, waiter}
use Rattle.traffic.proofs.Common.{waits_on, World, person_of, Setup, act_after, leg_at, link_of_stop, served_row, served_vehicle, boarding, next_call}
use Rattle.traffic.proofs.Common.{alighting, left_behind, rider, staying, in_turn, riders_after, alights, among, may_board, is_person, arrives, enters, leaves}
use Rattle.traffic.proofs.Common.{starts, serves, strands, driver, of_driver, aborts, VehicleState}
use Rattle.traffic.proofs.{LeftBehind.after-append, Waiting.boarded-are}
use Rattle.traffic.specs.declared.{moves.Occurrence.Occurrence, riders.Rider.Rider, world.Person.Person}
use Rattle.traffic.specs.declared.world.{Place.Place, Place.TheVariants.Waiting, Place.TheVariants.Riding, Place.TheVariants.Aborted, Row.Row, Waiter.Waiter}
use Rattle.std.proofs.lemmas.List.{Filters.sum_by-filter_both, Sums.sum_by-append, Sums.sum_by-take-le}
use Rattle.events.specs.declared.event.Word.TheVariants as word
use Rattle.rows.specs.declared.plan.Leg.TheVariants as leg
use Rattle.law_one_place.proofs.Places.{part_le, among_riders, rides, same_either, IsOff, Change, Stays, Leaves, Enters}

-- WHAT IS TOLD OF EACH RIDER
abbrev pub one_rider : ℕ → Rider → ℕ
one_rider i x = if x.person == i then 1 else 0

-- nobody else is changed; who is among them once is changed so, and the place of whoever is among n is such
abbrev pub IsTold : (Person → Person) → (Place → Type 0) → ℕ → Person → Person → Type 0
IsTold does Q n P now = (n ≡ 0 → now ≡ P) × (n ≡ 1 → now ≡ does P) × (1 ≤ n → Q now.place)

-- these events do this to the rider, and nothing to others
abbrev pub Does : Setup → ℕ → ℕ → (Rider → List Occurrence) → (Person → Person) → Type 0
Does S t i tells does = (r : Rider) (P : Person) → person_after_all S t i (tells r) P ≡ (if r.person == i then does P else P)

each_told : (S : Setup) (t i : ℕ) (tells : Rider → List Occurrence) (does : Person → Person) (Q : Place → Type 0) → Does S t i tells does → ((P : Person) → Q (does P).place) → (rs : List Rider) (P : Person) → IsTold does Q (among_riders i rs) P (person_after_all S t i (flat_map tells rs) P)
each_told S t i tells does Q f g [] P = ((λ h. refl), (λ h. absurd (omega arith)), (λ h. absurd (omega arith)))
each_told S t i tells does Q f g (r ∷ rs) P =
    let c = sum_by-cons (one_rider i) r rs in
    rw (after-append S t i (tells r) (flat_map tells rs) P) (elim (cases_Bool (eqb r.person i)) [
      | inl e ↦
          let y = each_told S t i tells does Q f g rs (does P) in
          rw (simp e at (f r P)) ((λ h. absurd (grind arith)), (λ h. y.0 (grind arith)), (λ h. elim (cases_lt 0 (among_riders i rs)) [ inl lt ↦ y.2 (omega arith) | inr ge ↦ rw (y.0 (omega arith)) (g P) ]))
      | inr e ↦
          let y = each_told S t i tells does Q f g rs P in rw (simp e at (f r P)) ((λ h. y.0 (grind arith)), (λ h. y.1 (grind arith)), (λ h. y.2 (grind arith)))
    ])

pub start_off : (S : Setup) (t i : ℕ) (P : Person) (pl : Place) → P.place ≡ pl → IsOff (start_act S t i P pl).place
start_off S t i P (Waiting stop since) e = rw e tt
start_off S t i P _ e = tt

leaves_does : (S : Setup) (t i : ℕ) (v : VehicleId) (l : ℕ) → Does S t i (leaves v l) (λ P. start_act S t i P P.place)
unfolding person_after
leaves_does S t i v l r P = elim (cases_Bool (eqb r.person i)) [ inl e ↦ simp e | inr e ↦ simp e ]

pub leaves_told : (S : Setup) (t i : ℕ) (v : VehicleId) (l : ℕ) (rs : List Rider) (P : Person) → IsTold (λ Q. start_act S t i Q Q.place) IsOff (among_riders i rs) P (person_after_all S t i (flat_map (leaves v l) rs) P)
leaves_told S t i v l rs P = each_told S t i (leaves v l) (λ P. start_act S t i P P.place) IsOff (leaves_does S t i v l) (λ P. start_off S t i P P.place refl) rs P

pub enters_told : (S : Setup) (t i : ℕ) (v : VehicleId) (rs : List Rider) (P : Person) → IsTold (λ Q. record Q { place = Riding v }) (λ (pl : Place). pl ≡ Riding v) (among_riders i rs) P (person_after_all S t i (flat_map (enters v) rs) P)
unfolding person_after
enters_told S t i v rs P = each_told S t i (enters v) (λ P. record P { place = Riding v }) (λ (pl : Place). pl ≡ Riding v) (λ r P. refl) (λ P. refl) rs P

pub strands_told : (S : Setup) (t i : ℕ) (v : VehicleId) (l : ℕ) (rs : List Rider) (P : Person) → IsTold (λ Q. record Q { place = Aborted l }) IsOff (among_riders i rs) P (person_after_all S t i (flat_map (strands v l) rs) P)
unfolding person_after
strands_told S t i v l rs P = each_told S t i (strands v l) (λ P. record P { place = Aborted l }) IsOff (λ r P. refl) (λ P. tt) rs P

-- whoever rides is out, and nobody else is changed
out : (id : VehicleId) (a : ℕ) (P now : Person) → (a ≡ 0 → now ≡ P) → (1 ≤ a → IsOff now.place) → Change id a 0 P.place now.place
out id a P now none off = elim (cases_lt 0 a) [ inl lt ↦ Leaves (omega arith) refl (off (omega arith)) | inr ge ↦ Stays (omega arith) (ap (λ (x : Person). x.place) (none (omega arith))) ]

-- a vehicle that enters traffic or leaves it changes nobody
pub quiet : (S : Setup) (t i : ℕ) (e : Occurrence) (o : Option ℕ) (P : Person) → person_after S t i e P ≡ P → told_of S t i e o P ≡ P
quiet S t i e None P h = refl
quiet S t i e (Some j) P h = ap (λ (x : Person). if eqb j i then x else P) h ∙ same_either (eqb j i) P

pub starts_none : (S : Setup) (t i : ℕ) (r : Row) (P : Person) → person_after_all S t i (starts r) P ≡ P
unfolding person_after
starts_none S t i r P = elim (cases_Bool r.vehicle.started) [ inl e ↦ rw e refl | inr e ↦ rw e (quiet S t i (of_driver word.VehicleEntersTraffic r.vehicle.id r.link) (driver r.vehicle.id) P refl) ]

pub arrives_out : (S : Setup) (t i : ℕ) (r : Row) (P : Person) → Change r.vehicle.id (rides i r.vehicle) 0 P.place (person_after_all S t i (arrives r) P).place
unfolding person_after
arrives_out S t i r P =
    let v = r.vehicle in
    let e : person_after_all S t i (arrives r) P ≡ person_after_all S t i (flat_map (leaves v.id r.link) v.riders) P =
    ap (person_after_all S t i (flat_map (leaves v.id r.link) v.riders)) (quiet S t i (of_driver word.VehicleLeavesTraffic v.id r.link) (driver v.id) P refl) in
    let y = leaves_told S t i v.id r.link v.riders P in rw e (out v.id (rides i v) P _ y.0 y.2)

pub aborts_out : (S : Setup) (t i : ℕ) (r : Row) (P : Person) → Change r.vehicle.id (rides i r.vehicle) 0 P.place (person_after_all S t i (aborts r) P).place
aborts_out S t i r P = let y = strands_told S t i r.vehicle.id r.link r.vehicle.riders P in out r.vehicle.id (rides i r.vehicle) P _ y.0 y.2

-- WHO BOARDS, AND WHO IS LEFT
-- how often a person is among those who wait
abbrev pub in_line : ℕ → List Waiter → ℕ
in_line i ws = count_by (is_person i) ws

abbrev one : ℕ → Waiter → ℕ
one i w = if w.person == i then 1 else 0

count_filter : (p : Waiter → Bool) (i : ℕ) (ws : List Waiter) → in_line i (filter p ws) ≤ in_line i ws
count_filter p i ws = omega (arith, sum_by-filter_both p (λ x. not (p x)) (λ x. refl) (one i) ws)

count_among : (i : ℕ) (w : Waiter) (ws : List Waiter) → in_line i (among w ws) ≡ one i w + in_line i ws
unfolding among
count_among i w [] = sum_by-cons (one i) w []
count_among i w (x ∷ xs) = grind (arith, sum_by-cons (one i) x (among w xs), sum_by-cons (one i) x xs, sum_by-cons (one i) w (x ∷ xs), count_among i w xs)

count_turn : (i : ℕ) (ws : List Waiter) → in_line i (in_turn ws) ≡ in_line i ws
unfolding in_turn
count_turn i [] = refl
count_turn i (w ∷ ws) = let y = count_turn i ws in let a = count_among i w (in_turn ws) in let b = sum_by-cons (one i) w ws in omega arith

pub board_few : (i : ℕ) (v : VehicleState) (ws : List Waiter) → in_line i (boarding v ws) ≤ in_line i ws
unfolding boarding
board_few i v ws = omega (arith, sum_by-take-le (one i) (in_turn (filter (may_board v) ws)) (v.seats - length (staying (next_call v).stop v.riders)), count_turn i (filter (may_board v) ws), count_filter (may_board v) i ws)

some_any : (i : ℕ) (ws : List Waiter) → 1 ≤ in_line i ws → list_any (is_person i) ws ≡ true
some_any i [] h = absurd (omega arith)
some_any i (w ∷ ws) h = grind (arith, sum_by-cons (one i) w ws, some_any i ws)

-- a test that fails for a person leaves none of his rows
none_left : (p : ℕ → Bool) (i : ℕ) (ws : List Waiter) → p i ≡ false → in_line i (filter (λ (w : Waiter). p w.person) ws) ≡ 0
none_left p i [] h = refl
none_left p i (w ∷ ws) h = grind (arith, nat_tests, ap p, sum_by-cons (one i) w (filter (λ (w : Waiter). p w.person) ws), none_left p i ws h)

pub left_few : (i : ℕ) (v : VehicleState) (ws : List Waiter) → in_line i (left_behind v ws) ≤ in_line i ws
unfolding left_behind
left_few i v ws = count_filter (λ w. not (list_any (is_person w.person) (boarding v ws))) i ws

pub left_none : (i : ℕ) (v : VehicleState) (ws : List Waiter) → 1 ≤ in_line i (boarding v ws) → in_line i (left_behind v ws) ≡ 0
unfolding left_behind
left_none i v ws h = none_left (λ j. not (list_any (is_person j) (boarding v ws))) i ws (ap not (some_any i (boarding v ws) h))

-- ONE VEHICLE AT A STOP
-- of those who wait on a link this person is one at most, and then he is in no vehicle
pub record IsInLine (i : ℕ) (ws : List Waiter) (pl : Place) : Type 0 where
  pub once : in_line i ws ≤ 1
  pub off : 1 ≤ in_line i ws → IsOff pl

pub as_riders : (i : ℕ) (ws : List Waiter) → among_riders i (map rider ws) ≡ in_line i ws
as_riders i [] = refl
as_riders i (w ∷ ws) = grind (arith, sum_by-cons (one_rider i) (rider w) (map rider ws), as_riders i ws, sum_by-cons (one i) w ws)

-- the riders before a stop, and those after it
pub riders_are : (i stop : ℕ) (rs : List Rider) → among_riders i (alighting stop rs) + among_riders i (staying stop rs) ≡ among_riders i rs
riders_are i stop rs = sum_by-filter_both (alights stop) (λ r. not (alights stop r)) (λ r. refl) (one_rider i) rs

pub served_are : (i : ℕ) (v : VehicleState) (ws : List Waiter) → rides i (served_vehicle v ws) ≡ among_riders i (staying (next_call v).stop v.riders) + in_line i (boarding v ws)
unfolding riders_after served_vehicle
served_are i v ws =
    let stay = staying (next_call v).stop v.riders in
    sum_by-append (one_rider i) stay (map rider (boarding v ws)) ∙ ap (λ (n : ℕ). among_riders i stay + n) (as_riders i (boarding v ws))

-- o times he alights, y times he stays, n times he boards
at_stop : (id : VehicleId) (a b o y n : ℕ) (P Q now : Person) → o + y ≡ a → b ≡ y + n → a ≤ 1 → n ≤ 1 → (1 ≤ n → IsOff P.place) → (1 ≤ n → a ≡ 0) → (o ≡ 0 → Q ≡ P) → (1 ≤ o → IsOff Q.place) → (n ≡ 0 → now ≡ Q) → (1 ≤ n → now.place ≡ Riding id) → Change id a b P.place now.place
at_stop id a b o y n P Q now e f few once off none stays leaves waits boards =
    elim (cases_lt 0 n) [
      | inl lt ↦ let z = none (omega arith) in Enters z (omega arith) (off (omega arith)) (boards (omega arith))
      | inr ge ↦ rw (waits (omega arith)) (elim (cases_lt 0 o) [
        | inl lt ↦ Leaves (omega arith) (omega arith) (leaves (omega arith))
        | inr le ↦ Stays (omega arith) (ap (λ (x : Person). x.place) (stays (omega arith)))
      ])
    ]

pub served : (S : Setup) (t i : ℕ) (D : Dwelling) (l : ℕ) (ws : List Waiter) (r : Row) (P : Person) → rides i r.vehicle ≤ 1 → (IsOff P.place → rides i r.vehicle ≡ 0) → IsInLine i ws P.place →
    Change r.vehicle.id (rides i r.vehicle) (rides i (served_vehicle r.vehicle ws)) P.place (person_after_all S t i (serves r (served_row D t l ws r.vehicle)) P).place
unfolding served_vehicle
served S t i D l ws r P few none w =
    let v = r.vehicle in
    let stop = (next_call v).stop in
    let outs = alighting stop v.riders in
    let ins = map rider (boarding v ws) in
    let Q = person_after_all S t i (flat_map (leaves v.id r.link) outs) P in
    let a = board_few i v ws in
    let b = as_riders i (boarding v ws) in
    let off : 1 ≤ in_line i (boarding v ws) → IsOff P.place = λ h. w.off (omega arith) in
    let outs_told = leaves_told S t i v.id r.link outs P in
    let ins_told = enters_told S t i v.id ins Q in
    rw (boarded-are v ws, after-append S t i (flat_map (leaves v.id r.link) outs) (flat_map (enters v.id) ins) P)
    (at_stop v.id (rides i v) _ (among_riders i outs) (among_riders i (staying stop v.riders)) (in_line i (boarding v ws)) P Q _ (riders_are i stop v.riders) (served_are i v ws) few (omega arith) off (λ h. none (off h))
    outs_told.0 outs_told.2 (λ z. ins_told.0 (omega arith)) (λ z. ins_told.2 (omega arith)))

-- THOSE WHO WAIT ON A LINK
pub waits_few : (S : Setup) (l j i : ℕ) (w : Leg) (next : Act) (pl : Place) → in_line i (waits_on S l j w next pl) ≤ (if j == i then 1 else 0)
waits_few S l j i (leg.Transit line access egress) next (Waiting stop since) = elim (cases_Bool (eqb (link_of_stop S stop) l)) [ inl e ↦ simp e (omega arith) | inr e ↦ simp e (omega arith) ]
waits_few S l j i w next (Waiting stop since) = elim (cases_Bool (eqb (link_of_stop S stop) l)) [ inl e ↦ simp e (omega arith) | inr e ↦ simp e (omega arith) ]
waits_few S l j i w next _ = omega arith

waits_off : (S : Setup) (l j i : ℕ) (w : Leg) (next : Act) (pl : Place) → 1 ≤ in_line i (waits_on S l j w next pl) → IsOff pl
waits_off S l j i w next (Riding v) h = absurd (omega arith)
waits_off S l j i w next _ h = tt

line_none : (f : ℕ → List Waiter) (i : ℕ) → ((j : ℕ) → in_line i (f j) ≤ (if j == i then 1 else 0)) → (k n : ℕ) → i < k → in_line i (flat_map f (numbers k n)) ≡ 0
line_none f i h k zero lt = refl
line_none f i h k (suc n) lt = grind (arith, nat_tests, h k, sum_by-append (one i) (f k) (flat_map f (numbers (k + 1) n)), line_none f i h (k + 1) n)

pub line_one : (f : ℕ → List Waiter) (i : ℕ) → ((j : ℕ) → in_line i (f j) ≤ (if j == i then 1 else 0)) → (k n : ℕ) → in_line i (flat_map f (numbers k n)) ≤ in_line i (f i)
line_one f i h k zero = omega arith
line_one f i h k (suc n) = grind (arith, nat_tests, h k, ap (λ (x : ℕ). in_line i (f x)), sum_by-append (one i) (f k) (flat_map f (numbers (k + 1) n)), line_none f i h (k + 1) n, line_one f i h (k + 1) n)

pub waiters_in_line : (S : Setup) (l i : ℕ) (W : World) → IsInLine i (waiters S l W) (person_of i W).place
unfolding waiters
waiters_in_line S l i W =
    let f = λ (j : ℕ). waiter S l j (person_of j W) in
    let few : (j : ℕ) → in_line i (f j) ≤ (if j == i then 1 else 0) = λ j. waits_few S l j i (leg_at S j (person_of j W).element) (act_after S j (person_of j W).element) (person_of j W).place in
    let a = line_one f i few 0 (length W.persons) in
    let P = person_of i W in
    record { once = (let b = few i in let c = part_le (eqb i i) 1 in omega arith); off = λ h. waits_off S l i i (leg_at S i P.element) (act_after S i P.element) P.place (omega arith) }
