-- In a link's turn those who wait there are, in the world of each move, the ones whom the services before it left behind.
use Rattle.traffic.proofs.Common.{◌≡◌, ℕ, List, ◌∙◌, length, ap, refl, sym, [], ◌∷◌, arith, ◌<◌, true, ◌++◌, ◌+◌, Bool, inl, inr, ◌≤◌, false, suc, eqb, zero}
use Rattle.traffic.proofs.Common.{◌≢◌, append_assoc, cases_Bool, eqb-false, or_parts, filter-append, flat_map, list_any, map, filter, not, if◌then◌else◌}
use Rattle.traffic.proofs.Common.{VehicleId, Act, Leg, Dwelling, below, numbers, Move, Transfer, done, told, person_after_all, person_after, told_of, waiter}
use Rattle.traffic.proofs.Common.{waits_on, waiters, Row, Place, Waiting, Riding, Person, World, person_of, Setup, act_after, leg_at, link_of_stop, Waiter}
use Rattle.traffic.proofs.Common.{served_row, next_call, alighting, rider, served_vehicle, boarding, left_behind, is_person, Occurrence, enters, leaves, starts}
use Rattle.traffic.{proofs.Each.each_if, specs.Telling.of_vehicle}
use Rattle.std.specs.List.{AllByRecursion as Each}
use Rattle.events.specs.declared.event.Word.TheVariants as word
use Rattle.events.specs.declared.event.More.TheVariants as more
use Rattle.rows.specs.declared.plan.Leg.TheVariants as leg
pub use Rattle.traffic.proofs.LinkEach.{serving_stage}
use Rattle.traffic.proofs.Sublists.{person-done}
use Rattle.traffic.proofs.Waiting.{Calm, all_kept, boarded-are, serve_calm, run-length, waiters-kept}

-- what is told, one list after the other
pub after-append : (S : Setup) (t i : ℕ) (xs ys : List Occurrence) (P : Person) → person_after_all S t i (xs ++ ys) P ≡ person_after_all S t i ys (person_after_all S t i xs P)
after-append S t i [] ys P = refl
after-append S t i (x ∷ xs) ys P = after-append S t i xs ys (told_of S t i x x.person P)

-- whether person i is among these
abbrev is_among : ℕ → List Waiter → Bool
is_among i ws = list_any (is_person i) ws

-- who boards rides from then on
riding_on : (S : Setup) (t i : ℕ) (v : VehicleId) (ws : List Waiter) (P : Person) → P.place ≡ Riding v → (person_after_all S t i (flat_map (enters v) (map rider ws)) P).place ≡ Riding v
unfolding person_after
riding_on S t i v [] P h = h
riding_on S t i v (w ∷ ws) P h = elim (cases_Bool (eqb w.person i)) [ inl e ↦ simp e (riding_on S t i v ws (record P { place = Riding v }) refl) | inr e ↦ simp e (riding_on S t i v ws P h) ]

boards : (S : Setup) (t i : ℕ) (v : VehicleId) (ws : List Waiter) (P : Person) → is_among i ws ≡ true → (person_after_all S t i (flat_map (enters v) (map rider ws)) P).place ≡ Riding v
unfolding person_after
boards S t i v [] P h = absurd (cc)
boards S t i v (w ∷ ws) P h = grind (arith, riding_on S t i v ws (record P { place = Riding v }) refl, boards S t i v ws P)

not_among : (i : ℕ) (ws : List Waiter) → is_among i ws ≡ false → Each (λ (w : Waiter). w.person ≢ i) ws
not_among i [] h = tt
not_among i (w ∷ ws) h = let p = or_parts (eqb w.person i) (is_among i ws) h in (eqb-false w.person i p.0, not_among i ws p.1)

-- a person's own row of those who wait
own_row : (S : Setup) (l i : ℕ) (w : Leg) (next : Act) (pl : Place) → Each (λ (x : Waiter). x.person ≡ i) (waits_on S l i w next pl)
own_row S l i (leg.Transit line access egress) next (Waiting stop since) = each_if _ (eqb (link_of_stop S stop) l) _ _ (refl, tt) tt
own_row S l i w next (Waiting stop since) = each_if _ (eqb (link_of_stop S stop) l) _ _ tt tt
own_row S l i w next _ = tt

-- a test of persons keeps all rows of a person, or none
keeps_all : (p : ℕ → Bool) (i : ℕ) (ws : List Waiter) → Each (λ (x : Waiter). x.person ≡ i) ws → p i ≡ true → filter (λ (x : Waiter). p x.person) ws ≡ ws
keeps_all p i [] h e = refl
keeps_all p i (w ∷ ws) h e = let q = ap p h.0 ∙ e in rw q (ap (λ (xs : List Waiter). w ∷ xs) (keeps_all p i ws h.1 e))

keeps_none : (p : ℕ → Bool) (i : ℕ) (ws : List Waiter) → Each (λ (x : Waiter). x.person ≡ i) ws → p i ≡ false → filter (λ (x : Waiter). p x.person) ws ≡ []
keeps_none p i [] h e = refl
keeps_none p i (w ∷ ws) h e = let q = ap p h.0 ∙ e in rw q (keeps_none p i ws h.1 e)

each_line : (f g : ℕ → List Waiter) (p : Waiter → Bool) (m k n : ℕ) → k + n ≤ m → ((i : ℕ) → i < m → f i ≡ filter p (g i)) → flat_map f (numbers k n) ≡ filter p (flat_map g (numbers k n))
each_line f g p m k zero le h = refl
each_line f g p m k (suc n) le h =
    let e = h k (omega arith) in let y = each_line f g p m (k + 1) n (omega arith) h in let q = filter-append p (g k) (flat_map g (numbers (k + 1) n)) in cc

-- the front of the queue or of the wait list is served at a stop
abbrev pub serving : Bool → Dwelling → ℕ → ℕ → List Waiter → Row → Move
serving s D t l ws r = Transfer l (serving_stage s) 0 r (served_row D t l ws r.vehicle)

-- what is told of it before whoever boards enters
abbrev first_told : Bool → ℕ → Row → List Occurrence
first_told s stop r =
    let v = r.vehicle in
    (if s then starts r else []) ++ of_vehicle word.VehicleArrivesAtFacility v.id r.link (more.Stop stop) ∷ flat_map (leaves v.id r.link) (alighting stop v.riders)

told_is : (s : Bool) (D : Dwelling) (t l : ℕ) (ws : List Waiter) (r : Row) → told (serving s D t l ws r) ≡ first_told s (next_call r.vehicle).stop r ++ flat_map (enters r.vehicle.id) (map rider (boarding r.vehicle ws))
unfolding served_vehicle
told_is true D t l ws r = rw (boarded-are r.vehicle ws) (sym (append_assoc (starts r) _ _))
told_is false D t l ws r = rw (boarded-are r.vehicle ws) refl

-- a person's row of those who wait, after the service
person_line : (S : Setup) (t l i : ℕ) (s : Bool) (D : Dwelling) (ws : List Waiter) (r : Row) (W : World) → i < length W.persons →
    waiter S l i (person_of i (done S t (serving s D t l ws r) W)) ≡ filter (λ (w : Waiter). not (is_among w.person (boarding r.vehicle ws))) (waiter S l i (person_of i W))
person_line S t l i s D ws r W lt =
    let v = r.vehicle in
    let m = serving s D t l ws r in
    let P = person_of i W in
    let N = person_after_all S t i (told m) P in
    let p = λ (j : ℕ). not (is_among j (boarding v ws)) in
    let own = own_row S l i (leg_at S i P.element) (act_after S i P.element) P.place in
    rw (person-done S t i m W lt) (elim (cases_Bool (is_among i (boarding v ws))) [
      | inl e ↦
          let place : N.place ≡ Riding v.id =
          ap (λ (es : List Occurrence). (person_after_all S t i es P).place) (told_is s D t l ws r) ∙ ap (λ (x : Person). x.place) (after-append S t i (first_told s (next_call v).stop r) _ P)
          ∙ boards S t i v.id (boarding v ws) (person_after_all S t i (first_told s (next_call v).stop r) P) e in
          ap (waits_on S l i (leg_at S i N.element) (act_after S i N.element)) place ∙ sym (keeps_none p i (waiter S l i P) own (ap not e))
      | inr e ↦ all_kept S t l i (λ (j : ℕ). j ≢ i) (told m) P (λ q. absurd (q refl)) (serve_calm _ D t l s ws r (not_among i (boarding v ws) e)) ∙ sym (keeps_all p i (waiter S l i P) own (ap not e))
    ])

pub served_line : (S : Setup) (t l : ℕ) (s : Bool) (D : Dwelling) (r : Row) (ws : List Waiter) (W : World) → ws ≡ waiters S l W → left_behind r.vehicle ws ≡ waiters S l (done S t (serving s D t l ws r) W)
unfolding waiters left_behind
served_line S t l s D r ws W e =
    let U = done S t (serving s D t l ws r) W in
    let p = λ (w : Waiter). not (is_among w.person (boarding r.vehicle ws)) in
    ap (filter p) e
    ∙ sym (ap (λ (n : ℕ). flat_map (λ i. waiter S l i (person_of i U)) (below n)) (run-length S t (serving s D t l ws r ∷ []) W)
    ∙ each_line (λ (i : ℕ). waiter S l i (person_of i U)) (λ (i : ℕ). waiter S l i (person_of i W)) p (length W.persons) 0 (length W.persons) (omega arith) (λ i lt. person_line S t l i s D ws r W lt))

-- a move by which nobody boards leaves all who wait
pub calm_line : (S : Setup) (t l : ℕ) (m : Move) (ws : List Waiter) (W : World) → ((Q : ℕ → Type 0) → Calm Q (told m)) → ws ≡ waiters S l W → ws ≡ waiters S l (done S t m W)
calm_line S t l m ws W h e = e ∙ sym (waiters-kept S t l (m ∷ []) W (h _, tt))
