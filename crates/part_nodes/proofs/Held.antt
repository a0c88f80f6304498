-- Nodes rest while the fronts of the links into them wait for places.
use Rattle.traffic.proofs.Common.{◌≡◌, ◌≢◌, ℕ, zero, suc, ◌+◌, ◌-◌, ◌<◌, ◌≤◌, Bool, true, false, List, [], ◌∷◌, ◌∙◌, ap, refl, sym, subst, arith, inl, inr}
use Rattle.traffic.proofs.Common.{length, map, not, ◌&&◌, cases_Bool, cases_lt, eqb, eqb-true, eq-eqb, and_parts, or_parts, true≢false, leb-false, leb-true}
use Rattle.traffic.proofs.Common.{ltb-true, ltb-false, lt-ltb, nat_lt, nat_le, list_any, if◌then◌else◌, Option, None, Some, World, Setup, link_row, at}
use Rattle.traffic.proofs.Common.{holes_at, taken_at, hole_of, storage_of, next_link, has_room, is_stuck, out_link, in_link, red, run, node_turns, Stuck}
use Rattle.traffic.{proofs.Nodes.node-buffers, specs.Lists.is_nil}
use Rattle.traffic.specs.declared.{node_views.InLink.InLink, stage.Stage.TheVariants.Queue, stage.Stage.TheVariants.Buffer, world.Row.Row}
use Rattle.std.proofs.lemmas.{Bool.and_right, Bool.or_from, Bool.le-leb, Bool.le-ltb, Bool.lt-leb, Nat.mod_below}
use Rattle.std.specs.{List.AllByRecursion as Each, Prelude.min}
use Rattle.rows.specs.Greens.{Phases, holds, phase_of, is_green, green_at}
use Rattle.town.specs.{Setups.setup_of, Views.setup, declared.day_input.DayInput.DayInput}
use Rattle.calendar.specs.Waking.{wake_of, is_second, slept, earliest as sooner}
use Rattle.law_joined_routes.specs.Going.{GoesOn}
use Rattle.law_sleeping.{proofs.Places.run_places, specs.Able.can_go, specs.Able.is_able}
use Rattle.queue_link.specs.Links.{LinkView}
use Rattle.node_move.specs.{Entries.SpaceRows, Spaces.places_in}
use Rattle.node_seconds.specs.Networks.{lane, is_among}
use Rattle.part_places.proofs.Counting.{still_is}
use Rattle.part_nodes.specs.Turns.{covers, is_always, always_in, is_held, front_due, link_due, node_due, up_to}
use Rattle.part_nodes.specs.Phase.{places_at, taken_before, IsWokenBy, FrontWaits, BufferWaits}

-- PLACES
-- those that are taken before the second after t are those of second t
pub before_is : (S : Setup) (t m : ℕ) (V : World) → taken_before S (t + 1) m V ≡ taken_at S t m V
before_is S t m V = ap (λ (k : ℕ). length (at m Queue V) + k) (still_is t (hole_of S m) (holes_at m V))

-- no place comes free in the turn of a node
pub node_takes : (S : Setup) (t n m : ℕ) (V : World)
    → taken_before S (t + 1) m V ≤ taken_before S (t + 1) m (run S t (node_turns S t n V) V)
node_takes S t n m V =
    let a = before_is S t m V in
    let b = before_is S t m (run S t (node_turns S t n V) V) in
    let c = run_places S t t m (node_turns S t n V) V (node-buffers S t n V) in
    omega arith

-- WHO WAITS ON
waits_more : (S : Setup) (end p t l : ℕ) (wake : Option ℕ) (V U : World) (rows : List Row) → ((m : ℕ) → taken_before S p m V ≤ taken_before S p m U)
    → BufferWaits S end p t l wake V rows → BufferWaits S end p t l wake U rows
waits_more S end p t l wake V U [] more h = tt
waits_more S end p t l wake V U (r ∷ rs) more h = record {
  green = h.green;
  full = (let a = h.full in let b = more (next_link r.vehicle) in omega arith);
  some_patience = h.some_patience;
  woken = h.woken;
}

-- in another world with the same buffer, in which no place is free that was taken
pub waits_on : (S : Setup) (end p t l : ℕ) (wake : Option ℕ) (V U : World) → at l Buffer U ≡ at l Buffer V
    → ((m : ℕ) → taken_before S p m V ≤ taken_before S p m U)
    → BufferWaits S end p t l wake V (at l Buffer V) → BufferWaits S end p t l wake U (at l Buffer U)
waits_on S end p t l wake V U e more h =
    subst (BufferWaits S end p t l wake U) (sym e) (waits_more S end p t l wake V U (at l Buffer V) more h)

pub none_waits : (S : Setup) (end p t l : ℕ) (wake : Option ℕ) (V : World) → at l Buffer V ≡ [] → BufferWaits S end p t l wake V (at l Buffer V)
none_waits S end p t l wake V e = subst (BufferWaits S end p t l wake V) (sym e) tt

later_than : (t u : ℕ) → t < u → u ≢ t + 1 → t + 1 < u
later_than t u lt ne =
    elim (cases_lt (t + 1) u) [
      | inl q ↦ q
      | inr q ↦ let e : u ≡ t + 1 = omega arith in absurd (ne e)
    ]

woken_on : (end t by : ℕ) (wake : Option ℕ) → wake ≢ Some (t + 1) → IsWokenBy end t by wake → IsWokenBy end (t + 1) by wake
woken_on end t by None ne h = h
woken_on end t by (Some u) ne h = (later_than t u h.0 (λ (e : u ≡ t + 1). ne (ap (λ (k : ℕ). Some k) e)), h.1)

-- in the next second, where the node is not woken in it
pub waits_next : (S : Setup) (end p t l : ℕ) (wake : Option ℕ) (V : World) (rows : List Row) → wake ≢ Some (t + 1)
    → BufferWaits S end p t l wake V rows → BufferWaits S end p (t + 1) l wake V rows
waits_next S end p t l wake V [] ne h = tt
waits_next S end p t l wake V (r ∷ rs) ne h = record {
  green = h.green;
  full = h.full;
  some_patience = h.some_patience;
  woken = woken_on end t (r.second + S.settings.stuck.seconds) wake ne h.woken;
}

-- WHO WAITS CANNOT GO
no_room : (S : Setup) (t n m : ℕ) (V : World) → storage_of S m ≤ taken_at S t m V → has_room (out_link S t n V m) ≡ false
no_room S t n m V h =
    let e = le-ltb (taken_at S t m V) (storage_of S m) h in
    elim (cases_Bool (eqb (link_row S m).from n)) [ inl q ↦ rw q e | inr q ↦ rw q refl ]

not_stuck : (K : Stuck) (end t since : ℕ) (wake : Option ℕ) → t < end → 0 < K.seconds → IsWokenBy end t (since + K.seconds) wake
    → is_stuck K t since ≡ false
not_stuck K end t since None in_day some h = lt-leb K.seconds (t - since) (omega arith)
not_stuck K end t since (Some u) in_day some h =
    let a = h.0 in
    let b = h.1 in
    lt-leb K.seconds (t - since) (omega arith)

cannot_go : (S : Setup) (end t n l : ℕ) (wake : Option ℕ) (V : World) (rows : List Row) → t < end → BufferWaits S end (t + 1) t l wake V rows
    → can_go S.settings.stuck t (out_link S t n V) rows ≡ false
cannot_go S end t n l wake V [] in_day h = refl
cannot_go S end t n l wake V (r ∷ rs) in_day h =
    let m = next_link r.vehicle in
    let a = h.full in
    let b = before_is S t m V in
    let full : storage_of S m ≤ taken_at S t m V = omega arith in
    or_from (has_room (out_link S t n V m)) (is_stuck S.settings.stuck t r.second) (no_room S t n m V full)
    (not_stuck S.settings.stuck end t r.second wake in_day h.some_patience h.woken)

among_later : (k l : ℕ) (ls : List ℕ) → is_among k ls ≡ true → is_among k (l ∷ ls) ≡ true
among_later k l ls a = elim (cases_Bool (eqb l k)) [ inl q ↦ rw q refl | inr q ↦ rw q a ]

among_first : (l : ℕ) (ls : List ℕ) → is_among l (l ∷ ls) ≡ true
among_first l ls = let q = eq-eqb l l refl in rw q refl

pub none_able : (S : Setup) (end t n : ℕ) (wake : Option ℕ) (V : World) (ls : List ℕ) → t < end
    → ((l : ℕ) → is_among l ls ≡ true → BufferWaits S end (t + 1) t l wake V (at l Buffer V))
    → Each (λ (e : InLink). is_able S.settings.stuck t (out_link S t n V) e ≡ false) (map (in_link S t V) ls)
none_able S end t n wake V [] in_day h = tt
none_able S end t n wake V (l ∷ ls) in_day h = (
  and_right (S.green l t) (can_go S.settings.stuck t (out_link S t n V) (at l Buffer V))
      (cannot_go S end t n l wake V (at l Buffer V) in_day (h l (among_first l ls))),
  none_able S end t n wake V ls in_day (λ k a. h k (among_later k l ls a)),
)

green_or_empty : (S : Setup) (end p t u l : ℕ) (wake : Option ℕ) (V : World) (rows : List Row) → BufferWaits S end p t l wake V rows
    → not (is_nil rows) ≡ true → S.green l u ≡ true
green_or_empty S end p t u l wake V [] h e = absurd (true≢false (sym e))
green_or_empty S end p t u l wake V (r ∷ rs) h e = h.green u

pub none_red : (S : Setup) (end p t u : ℕ) (wake : Option ℕ) (V : World) (ls : List ℕ)
    → ((l : ℕ) → is_among l ls ≡ true → BufferWaits S end p t l wake V (at l Buffer V)) → red (map (in_link S u V) ls) ≡ []
none_red S end p t u wake V [] h = refl
none_red S end p t u wake V (l ∷ ls) h =
    let rest = none_red S end p t u wake V ls (λ k a. h k (among_later k l ls a)) in
    elim (cases_Bool (not (is_nil (at l Buffer V)))) [
      | inl q ↦
          let g = green_or_empty S end p t u l wake V (at l Buffer V) (h l (among_first l ls)) q in
          let r : not (S.green l u) ≡ false = ap not g in
          simp (q, r) rest
      | inr q ↦ simp q rest
    ]

-- WHEN A NODE IS WOKEN AGAIN
-- a second is there and not after this one; one that is there is after this one
abbrev IsBy : ℕ → Option ℕ → Type 0
IsBy v None = ⊥
IsBy v (Some u) = u ≤ v

abbrev IsAfter : ℕ → Option ℕ → Type 0
IsAfter t None = Unit {0}
IsAfter t (Some u) = t < u

by_less : (v w : ℕ) (o : Option ℕ) → w ≤ v → IsBy w o → IsBy v o
by_less v w None le h = h
by_less v w (Some u) le h = omega arith

sooner_than : (v : ℕ) (o : Option ℕ) → (w : ℕ) × (sooner (Some v) o ≡ Some w) × (w ≤ v)
sooner_than v None = (v, refl, omega arith)
sooner_than v (Some u) = (min v u, refl, omega arith)

sooner_to : (v : ℕ) (o : Option ℕ) → (w : ℕ) × (sooner o (Some v) ≡ Some w) × (w ≤ v)
sooner_to v None = (v, refl, omega arith)
sooner_to v (Some u) = (min u v, refl, omega arith)

sooner_after : (t : ℕ) (o q : Option ℕ) → IsAfter t o → IsAfter t q → IsAfter t (sooner o q)
sooner_after t None q h g = g
sooner_after t (Some u) None h g = h
sooner_after t (Some u) (Some v) h g = omega arith

due_under : (K : Stuck) (t : ℕ) (always : ℕ → Bool) (space : SpaceRows) (links : List LinkView) (v : ℕ) (ls : List ℕ)
    → IsBy v (node_due K t always space links (Some v) ls)
unfolding node_due
due_under K t always space links v [] = omega arith
due_under K t always space links v (l ∷ ls) =
    let s = sooner_than v (link_due K t always space (lane links l)) in
    subst (λ (o : Option ℕ). IsBy v (node_due K t always space links o ls)) (sym s.1)
    (by_less v s.0 (node_due K t always space links (Some s.0) ls) s.2 (due_under K t always space links s.0 ls))

due_by : (K : Stuck) (t : ℕ) (always : ℕ → Bool) (space : SpaceRows) (links : List LinkView) (due : Option ℕ) (ls : List ℕ) (l d : ℕ)
    → is_among l ls ≡ true → link_due K t always space (lane links l) ≡ Some d → IsBy d (node_due K t always space links due ls)
unfolding node_due
due_by K t always space links due [] l d a e = absurd (true≢false (sym a))
due_by K t always space links due (n ∷ ls) l d a e =
    let front : ℕ → Option ℕ = λ k. link_due K t always space (lane links k) in
    elim (cases_Bool (eqb n l)) [
      | inl q ↦
          let f : front n ≡ Some d = ap front (eqb-true n l q) ∙ e in
          let s = sooner_to d due in
          subst (λ (o : Option ℕ). IsBy d (node_due K t always space links o ls)) (sym (ap (λ (o : Option ℕ). sooner due o) f ∙ s.1))
          (by_less d s.0 (node_due K t always space links (Some s.0) ls) s.2 (due_under K t always space links s.0 ls))
      | inr q ↦ let b : is_among l ls ≡ true = rw q at a in due_by K t always space links (sooner due (front n)) ls l d b e
    ]

was_false : (b : Bool) → not b ≡ true → b ≡ false
was_false true e = sym e
was_false false e = refl

-- a front that is held is of a link that is always green, has no place free before it, and is not stuck
record IsHeld (K : Stuck) (t : ℕ) (always : ℕ → Bool) (space : SpaceRows) (l : ℕ) (r : Row) : Type 0 where
  green : always l ≡ true
  full : has_room (places_in space (next_link r.vehicle)) ≡ false
  patient : t - r.second < K.seconds

held_is : (K : Stuck) (t : ℕ) (always : ℕ → Bool) (space : SpaceRows) (l : ℕ) (r : Row) (rs : List Row)
    → is_held K t always space l (r ∷ rs) ≡ true → IsHeld K t always space l r
held_is K t always space l r rs e =
    elim (cases_Bool (always l)) [
      | inl g ↦
          let f : not (can_go K t (places_in space) (r ∷ rs)) ≡ true = rw g at e in
          let p = or_parts (has_room (places_in space (next_link r.vehicle))) (is_stuck K t r.second)
          (was_false (can_go K t (places_in space) (r ∷ rs)) f) in
          record { green = g; full = p.0; patient = leb-false K.seconds (t - r.second) p.1 }
      | inr g ↦ let f : false ≡ true = rw g at e in absurd (true≢false (sym f))
    ]

front_after : (K : Stuck) (t : ℕ) (always : ℕ → Bool) (space : SpaceRows) (l : ℕ) (rows : List Row)
    → IsAfter t (front_due K t always space l rows)
front_after K t always space l [] = tt
front_after K t always space l (r ∷ rs) =
    elim (cases_Bool (is_held K t always space l (r ∷ rs))) [
      | inl e ↦ let p = (held_is K t always space l r rs e).patient in rw e (omega arith)
      | inr e ↦ rw e (omega arith)
    ]

due_after : (K : Stuck) (t : ℕ) (always : ℕ → Bool) (space : SpaceRows) (links : List LinkView) (due : Option ℕ) (ls : List ℕ)
    → IsAfter t due → IsAfter t (node_due K t always space links due ls)
unfolding node_due
due_after K t always space links due [] h = h
due_after K t always space links due (l ∷ ls) h =
    let v = lane links l in
    let front = link_due K t always space v in
    due_after K t always space links (sooner due front) ls (sooner_after t due front h (front_after K t always space v.numbers.link v.lists.buffer))

next_is : (end t : ℕ) → t < end → up_to end (Some (t + 1)) ≡ Some (t + 1)
next_is end t lt = let q = le-leb (t + 1) end (omega arith) in rw q refl

woken_up_to : (end t by u : ℕ) → t < u → u ≢ t + 1 → u ≤ by → IsWokenBy end (t + 1) by (up_to end (Some u))
woken_up_to end t by u lt ne le =
    elim (cases_Bool (nat_le u end)) [
      | inl q ↦ rw q (later_than t u lt ne, le)
      | inr q ↦ let a = leb-false u end q in rw q (omega arith)
    ]

waits_by : (S : Setup) (end t l : ℕ) (always : ℕ → Bool) (space : SpaceRows) (V : World) (r : Row) (rs : List Row) (o : Option ℕ)
    → t < end → (always l ≡ true → (u : ℕ) → S.green l u ≡ true)
    → places_in space (next_link r.vehicle) ≡ Some (places_at S t V (next_link r.vehicle))
    → IsBy (if is_held S.settings.stuck t always space l (r ∷ rs) then r.second + S.settings.stuck.seconds else t + 1) o → IsAfter t o
    → up_to end o ≢ Some (t + 1) → FrontWaits S end (t + 1) (t + 1) l (up_to end o) V r
waits_by S end t l always space V r rs None in_day green places by late ne = absurd by
waits_by S end t l always space V r rs (Some u) in_day green places by late ne =
    let K = S.settings.stuck in
    let m = next_link r.vehicle in
    let not_next : u ≢ t + 1 = λ (e : u ≡ t + 1). ne (ap (λ (k : ℕ). up_to end (Some k)) e ∙ next_is end t in_day) in
    elim (cases_Bool (is_held K t always space l (r ∷ rs))) [
      | inl e ↦
          let h = held_is K t always space l r rs e in
          let le : u ≤ r.second + K.seconds = rw e at by in
          let b = before_is S t m V in
          let f = ltb-false (taken_at S t m V) (storage_of S m) (sym (ap has_room places) ∙ h.full) in
          let p = h.patient in
          record {
            green = green h.green;
            full = omega arith;
            some_patience = omega arith;
            woken = woken_up_to end t (r.second + K.seconds) u late not_next le;
          }
      | inr e ↦ let le : u ≤ t + 1 = rw e at by in let same : u ≡ t + 1 = omega arith in absurd (not_next same)
    ]

-- a link into a node that had its turn waits, where the node is not woken in the next second
pub waits_again : (mine : ℕ → Bool) (S : Setup) (end t l k : ℕ) (always : ℕ → Bool) (space : SpaceRows) (links : List LinkView) (ks : List ℕ)
    (V : World) (rows : List Row) (wake : Option ℕ) → t < end → mine (link_row S l).to ≡ true → (always l ≡ true → (u : ℕ) → S.green l u ≡ true)
    → ((m : ℕ) → m < length S.links → mine (link_row S m).from ≡ true → places_in space m ≡ Some (places_at S t V m)) → Each (GoesOn S l) rows
    → wake ≡ up_to end (node_due S.settings.stuck t always space links None ks) → wake ≢ Some (t + 1) → is_among k ks ≡ true
    → (lane links k).numbers.link ≡ l → (lane links k).lists.buffer ≡ rows → BufferWaits S end (t + 1) (t + 1) l wake V rows
waits_again mine S end t l k always space links ks V [] wake in_day own green places on e ne a n b = tt
waits_again mine S end t l k always space links ks V (r ∷ rs) wake in_day own green places on e ne a n b =
    let K = S.settings.stuck in
    let o = node_due K t always space links None ks in
    let d = if is_held K t always space l (r ∷ rs) then r.second + K.seconds else t + 1 in
    let m = next_link r.vehicle in
    let here : places_in space m ≡ Some (places_at S t V m) = places m on.0.there (ap mine on.0.joined ∙ own) in
    let front : link_due K t always space (lane links k) ≡ Some d
    = ap (λ (j : ℕ). front_due K t always space j (lane links k).lists.buffer) n ∙ ap (front_due K t always space l) b in
    let by : IsBy d o = due_by K t always space links None ks k d a front in
    let late : IsAfter t o = due_after K t always space links None ks tt in
    subst (λ (w : Option ℕ). FrontWaits S end (t + 1) (t + 1) l w V r) (sym e)
    (waits_by S end t l always space V r rs o in_day green here by late (λ (q : up_to end o ≡ Some (t + 1)). ne (e ∙ q)))

-- THE SIGNALS
some_covers : (cycle place : ℕ) (spans : List (ℕ × ℕ)) → (0 < cycle → place < cycle) → list_any (covers cycle) spans ≡ true
    → list_any (holds place) spans ≡ true
some_covers cycle place [] lt e = e
some_covers cycle place (x ∷ xs) lt e =
    elim (cases_Bool (covers cycle x)) [
      | inl c ↦
          let p = and_parts (eqb x.0 0 && nat_lt 0 cycle) (nat_le cycle x.1) c in
          let q = and_parts (eqb x.0 0) (nat_lt 0 cycle) p.0 in
          let a = eqb-true x.0 0 q.0 in
          let b = leb-true cycle x.1 p.1 in
          let within = lt (ltb-true 0 cycle q.1) in
          let low = le-leb x.0 place (omega arith) in
          let high = lt-ltb place x.1 (omega arith) in
          let h : holds place x ≡ true = rw (low, high) refl in
          rw h refl
      | inr c ↦
          let rest = some_covers cycle place xs lt (rw c at e) in
          elim (cases_Bool (holds place x)) [ inl h ↦ rw h refl | inr h ↦ rw h rest ]
    ]

always_green : (p : Phases) (t : ℕ) → is_always p ≡ true → is_green p t ≡ true
unfolding is_always is_green
always_green p t e = some_covers p.cycle (phase_of p t) p.spans (λ (some : 0 < p.cycle). mod_below (t + p.cycle - p.offset) p.cycle some) e

-- THE TOWN
pub stuck_of : (day : DayInput) → day.town.now.settings.stuck ≡ (setup day).settings.stuck
unfolding setup_of
stuck_of day = refl

pub green_of : (day : DayInput) (l : ℕ) → always_in day.town.now.greens l ≡ true → (u : ℕ) → (setup day).green l u ≡ true
unfolding setup_of
green_of day l e u = always_green (green_at day.town.now.greens l) u e

-- SLEEP
pub slept_at : (t n : ℕ) (wakes : List (Option ℕ)) → wake_of (map (slept t) wakes) n ≡ slept t (wake_of wakes n)
slept_at t n [] = refl
slept_at t zero (w ∷ wakes) = refl
slept_at t (suc n) (w ∷ wakes) = slept_at t n wakes

pub slept_other : (t : ℕ) (wake : Option ℕ) → is_second t wake ≡ false → slept t wake ≡ wake
slept_other t wake e = rw e refl
