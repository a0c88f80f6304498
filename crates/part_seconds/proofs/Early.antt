-- The part of a partition once persons and departures have set out in a second.
use Rattle.traffic.proofs.Common.{◌≡◌, ◌≢◌, ℕ, ◌+◌, ◌<◌, ◌≤◌, Bool, true, false, List, [], ◌∷◌, ◌++◌, ◌∙◌, ap, refl, sym, subst, arith, inl, inr, cases_Bool}
use Rattle.traffic.proofs.Common.{cases_lt, eqb, eqb-true, eq-eqb, ne_eqb, true≢false, length, length-map, length-set, get_or, get_or_past, map, filter}
use Rattle.traffic.proofs.Common.{flat_map, append-nil, All-get_or, All-from_recursion, recursion_from_All, plan_rows, Option, Some, None, Setup, World, Leg}
use Rattle.traffic.proofs.Common.{person_of, nobody, at, on, hole_of, link_of_stop, leg_at, act_after, waiters}
use Rattle.traffic.specs.declared.stage.Stage.{Stage, TheVariants.Queue, TheVariants.Buffer, TheVariants.Wait}
use Rattle.traffic.specs.declared.world.{Person.Person, Place.Place, Place.TheVariants.At, Place.TheVariants.Teleporting, Place.TheVariants.Waiting}
use Rattle.traffic.specs.declared.world.{Place.TheVariants.Riding, Place.TheVariants.Aborted, Row.Row, Waiter.Waiter}
use Rattle.std.specs.List.{AllByRecursion as Each}
use Rattle.rows.specs.declared.plan.Leg.TheVariants as leg
use Rattle.limits.specs.declared.TheConstants.{MAX_PERSONS}
use Rattle.town.specs.{Views.setup, declared.day_input.DayInput.DayInput}
use Rattle.calendar.specs.{Due.Due, Due.HasNone, Due.due_at, Waking.wake_of, Waking.woken}
use Rattle.law_in_range.specs.{Rows.IsFitWorld, Rows.IsFitRow, Rows.IsFitPlace, Setups.IsFitStop, Setups.counts_in, Setups.HaveFittingPlans}
use Rattle.parts.specs.{Owners.Owner, Owners.owner_of, Parts.ready}
use Rattle.law_partitions.specs.Laws.{IsOwner}
use Rattle.law_own_worlds.specs.Days.{world_before, is_there}
use Rattle.law_joined_routes.specs.Going.{GoesOn}
use Rattle.law_parts_of_days.{proofs.SettingOut.others_stay, specs.Persons.PersonsStand}
use Rattle.part_seconds.proofs.{Knowing.known_before, Lengths.one_short, Lengths.all_short, Names.in_second}
use Rattle.part_seconds.proofs.SettingOut.{HasSetOut, same_waiters, each_passes, none_last}
use Rattle.part_seconds.proofs.{Slots.slot_of, Slots.slot_is, Slots.link_there, Slots.link_own, Slots.numbered, Standing.Starts, Standing.in_world}
use Rattle.part_seconds.{proofs.Vacated.taken_alike, proofs.Waking.awaited_on, specs.Settling.places_known, specs.Slots.in_slot, specs.Stands.NetworkStands}
use Rattle.part_seconds.specs.{Stands.AreaStands, Stands.AreOwnDepartures, Starting.all_started, Starting.woken_for_all, declared.area.Area.Area}
use Rattle.link_seconds.specs.Seconds.{HaveLines, AreShort, line_at}
use Rattle.person_moves.specs.Waiting.{waiter_on}
use Rattle.queue_link.specs.Links.{LinkView}
use Rattle.part_lines.specs.Coming.{came, came_to, with_one, CanAllJoin, joined_lines}
use Rattle.part_lines.proofs.Ready.{IsOneOf, HasStop, HaveStops, LinesHave, can_all_join_at, lines_have_at}
use Rattle.part_lines.proofs.Standing.{at_this, as_list, came_of, joined_at, after_early}
use Rattle.part_links.specs.Links.{LinksStandAt, LinesStandAt, AreAsleep}
use Rattle.part_nodes.specs.{Phase.AreAwaitedAt, Phase.GoOnThere, declared.network.NetworkState.NetworkState}
use Rattle.part_persons.proofs.Joining.{AtStart, fit_as}
use Rattle.part_persons.specs.{Dues.AreFollowed, Dues.AreFollowedIn, declared.persons.Persons.Persons}
use Rattle.part_places.specs.{Taking.AreTakenOf, Taking.begins_here, Taking.still, declared.places.Places.Places}
use Rattle.part_seconds.proofs.Standing as starting
use Rattle.divided_day.specs.Slots.{link_in, slot_count, AreSlots}
use Rattle.part_seconds.proofs.Knowing as knowing
use Rattle.part_seconds.proofs.SettingOut as setting

-- WHO COMES TO A STOP
-- whoever comes to a line waits at its stop
record CameThere (p : Place) (x : Waiter) : Type 0 where
  since : ℕ
  place : p ≡ Waiting x.stop since

on_leg : (i : ℕ) (w : Leg) (kind stop since : ℕ) (x : Waiter) → waiter_on i w kind stop since ≡ Some x → CameThere (Waiting stop since) x
on_leg i (leg.Car route) kind stop since x e = absurd (cc)
on_leg i (leg.Teleport mode seconds) kind stop since x e = absurd (cc)
on_leg i (leg.Transit line access egress) kind stop since x e =
    let y : Waiter = record { person = i; stop = stop; line = line; egress = egress; kind = kind; since = since } in
    let same : y ≡ x = cc in
    record { since = since; place = ap (λ (w : Waiter). Waiting w.stop since) same }

at_place : (t i : ℕ) (w : Leg) (kind : ℕ) (p : Place) (x : Waiter) → came_to t i w kind p ≡ Some x → CameThere p x
at_place t i w kind (At end) x e = absurd (cc)
at_place t i w kind (Teleporting start) x e = absurd (cc)
at_place t i w kind (Waiting stop since) x e =
    elim (cases_Bool (eqb since t)) [
      | inl q ↦ on_leg i w kind stop since x (let f = (rw q at e) in f)
      | inr q ↦ absurd (let f = (rw q at e) in cc)
    ]
at_place t i w kind (Riding vehicle) x e = absurd (cc)
at_place t i w kind (Aborted link) x e = absurd (cc)

came_there : (S : Setup) (t i : ℕ) (P : Person) (x : Waiter) → came S t i P ≡ Some x → CameThere P.place x
came_there S t i P x e = at_place t i (leg_at S i P.element) (act_after S i P.element).kind P.place x e

-- nobody comes to a stop to which none of them comes
at_off : (s : ℕ) (o : Option Waiter) → ((x : Waiter) → o ≡ Some x → x.stop ≢ s) → at_this s o ≡ []
unfolding at_this as_list
at_off s None h = refl
at_off s (Some x) h = let e = ne_eqb x.stop s (h x refl) in rw e refl

flat_off : (f : ℕ → List Waiter) (ns : List ℕ) → ((n : ℕ) → f n ≡ []) → flat_map f ns ≡ []
flat_off f [] h = refl
flat_off f (n ∷ ns) h = ap (λ (xs : List Waiter). xs ++ flat_map f ns) (h n) ∙ flat_off f ns h

one_many : (o : Option Waiter) (lines : List (List Waiter)) → length (with_one o lines) ≡ length lines
one_many None lines = refl
one_many (Some w) lines = length-set lines w.stop (line_at lines w.stop ++ w ∷ [])

joined_length : (S : Setup) (t : ℕ) (persons : List Person) (ns : List ℕ) (lines : List (List Waiter))
    → length (joined_lines S t persons ns lines) ≡ length lines
unfolding joined_lines
joined_length S t persons [] lines = refl
joined_length S t persons (n ∷ ns) lines =
    let o = came S t n (get_or persons n nobody) in joined_length S t persons ns (with_one o lines) ∙ one_many o lines

-- VEHICLES IN SLOTS
-- a row that stands last in a wait list, of a link that is there
starts_at : (count : ℕ) (r : Row) → r.link < count → AtStart r → Starts count r
starts_at count r lt h =
    let stages : r ≡ record { vehicle = r.vehicle; link = r.link; stage = Wait; second = r.second }
    = ap (λ (s : Stage). (let x : Row = record { vehicle = r.vehicle; link = r.link; stage = s; second = r.second } in x)) h.stage in
    let seconds = ap (λ (n : ℕ). (let x : Row = record { vehicle = r.vehicle; link = r.link; stage = Wait; second = n } in x)) h.second in
    record { link = lt; row = stages ∙ seconds }

slot_rows : (S : Setup) (own : Owner) (p : ℕ) (slots : List ℕ) → AreSlots S own slots → (rs : List Row) → Each AtStart rs
    → Each (λ (r : Row). (r.link < length S.links) × (owner_of S own r.link ≡ p)) rs
    → Each (Starts (slot_count S own p)) (map (in_slot slots) rs) × (rs ≡ map (in_world (link_in S own p)) (map (in_slot slots) rs))
slot_rows S own p slots are [] h o = (tt, refl)
slot_rows S own p slots are (r ∷ rs) h o =
    let s = slot_is S own p slots are r.link o.0.0 o.0.1 in
    let rest = slot_rows S own p slots are rs h.1 o.1 in (
      (starts_at (slot_count S own p) (in_slot slots r) s.0 (record { stage = h.0.stage; second = h.0.second }), rest.0),
      ap (λ (l : ℕ). (record r { link = l }) ∷ rs) (sym s.1) ∙ ap (λ (xs : List Row). in_world (link_in S own p) (in_slot slots r) ∷ xs) rest.1,
    )

both_hold : (P Q : Row → Type 0) (rs : List Row) → Each P rs → Each Q rs → Each (λ (r : Row). P r × Q r) rs
both_hold P Q [] h g = tt
both_hold P Q (r ∷ rs) h g = ((h.0, g.0), both_hold P Q rs h.1 g.1)

each_as : (P Q : Row → Type 0) → ((r : Row) → P r → Q r) → (rs : List Row) → Each P rs → Each Q rs
each_as P Q f [] h = tt
each_as P Q f (r ∷ rs) h = (f r h.0, each_as P Q f rs h.1)

pub departing : (S : Setup) (own : Owner) (p end t : ℕ) (old new : Due) → HasNone t old new → AreOwnDepartures S own p end t old
    → AreOwnDepartures S own p end (t + 1) new
departing S own p end t old new none h = λ s from to.
    let off : eqb s t ≡ false = ne_eqb s t (λ (e : s ≡ t). absurd (omega arith)) in
    let same : due_at s new ≡ due_at s old = none s ∙ rw off refl in
    same ∙ h s (omega arith) to

module _ (day : DayInput) (own : Owner) (parts p t : ℕ) (slots : List ℕ) (given : HaveFittingPlans day) (shares : IsOwner own parts)
    (are : AreSlots (setup day) own slots) (in_day : t < day.town.now.settings.end_second) (A : Area)
    (h : AreaStands day own p t t t A (ready (setup day) own p t) (world_before (setup day) own p t)) (P1 P2 : World) (ns : List ℕ)
    (out : HasSetOut (setup day) own p t (world_before (setup day) own p t) A.persons.world P1 P2)
    (due : ns ≡ woken t A.persons.wakes) (fit : IsFitWorld (counts_in day) P2) where
  open (in_second day own p t) use {S, end, V2 as V, V3, H, E, num, size}

  fit3 : IsFitWorld (counts_in day) V3
  fit3 = (knowing.stays day own parts p t given shares).set_out_is

  persons_are : P2.persons ≡ V3.persons
  persons_are = setting.persons_are S own p t V A.persons.world P1 P2 out

  early_are : (after_early S t V).persons ≡ V3.persons
  early_are = setting.early_are S own p t V A.persons.world P1 P2 out

  looks : length A.persons.wakes ≡ length V.persons
  looks = h.persons.looks ∙ ap (λ (ps : List Person). length ps) h.persons.persons

  -- LINES
  count : ℕ
  count = length A.lines.items

  has_stop : (i : ℕ) (x : Waiter) → i < length V3.persons → came S t i (get_or V3.persons i nobody) ≡ Some x → HasStop num size S count x
  unfolding count
  has_stop i x lt e =
      let P = person_of i V3 in
      let c = came_there S t i P x e in
      let n = fit3.one_each in
      let fit_in = knowing.fit day own parts p t given shares in
      let np = fit_in.persons in
      let nl = fit_in.links in
      let ns = fit_in.stops in
      let c_is = h.stops in
      let stop_in : x.stop < (counts_in day).stops = subst (IsFitPlace (counts_in day) i P.element) c.place (fit3.persons i) in
      let there : x.stop < length S.stops = omega arith in
      let on : link_of_stop S x.stop < (counts_in day).links
      = All-get_or (IsFitStop (counts_in day)) S.stops x.stop (record { link = 0 }) there fit_in.stop_links in
      elim (cases_Bool (is_there S own p t i)) [
        | inl is ↦
            let o = (knowing.as_in_day day own parts p t given shares).stops i x.stop c.since is c.place in
            record { line = omega arith; link = slot_of S own p (link_of_stop S x.stop) (omega arith) o }
        | inr off ↦
            let gone = knowing.nobody_early day own parts p t given shares i (omega arith) off in
            absurd (let q : Aborted 0 ≡ Waiting x.stop c.since = sym (ap (λ (Q : Person). Q.place) gone) ∙ c.place in cc)
      ]

  have_stops : HaveStops num size S t count (after_early S t V).persons
  have_stops =
      subst (λ (ps : List Person). HaveStops num size S t count ps) (sym early_are) has_stop

  can : CanAllJoin S t (after_early S t V).persons ns A.lines.items
  unfolding count
  can =
      can_all_join_at num size S t count V A.persons.wakes ns A.lines.items (knowing.waited day own parts p t given shares) h.lines refl
      have_stops looks due

  pub can_come : CanAllJoin S t P2.persons ns A.lines.items
  can_come = subst (λ (ps : List Person). CanAllJoin S t ps ns A.lines.items) (early_are ∙ sym persons_are) can

  followed : AreFollowed S end t A.persons.world.persons A.persons.wakes
  followed = h.persons.followed

  have : LinesHave num size S (joined_lines S t (after_early S t V).persons ns A.lines.items) (after_early S t V)
  have =
      lines_have_at num size S t V A.persons.wakes ns A.lines.items (knowing.waited day own parts p t given shares) h.lines looks due
      (others_stay S end t V A.persons.world A.persons.wakes in_day h.persons.persons followed) can

  joined_is : joined_lines S t (after_early S t V).persons ns A.lines.items ≡ joined_lines S t P2.persons ns A.lines.items
  joined_is = ap (λ (ps : List Person). joined_lines S t ps ns A.lines.items) (early_are ∙ sym persons_are)

  lines_stand : LinesStandAt num size S (joined_lines S t P2.persons ns A.lines.items) V3
  lines_stand = λ k lt.
      subst (λ (ls : List (List Waiter)). HaveLines (λ s. eqb (link_of_stop S s) (num k)) ls (waiters S (num k) V3)) joined_is
      (subst (λ (ws : List Waiter). HaveLines (λ s. eqb (link_of_stop S s) (num k)) (joined_lines S t (after_early S t V).persons ns A.lines.items) ws)
      (same_waiters S (num k) (after_early S t V) V3 early_are) (have k lt))

  few_persons : length V3.persons ≤ MAX_PERSONS
  few_persons =
      let n = fit3.one_each in
      let e = given.each in
      let c = length-map day.chosen.now plan_rows in
      let few = day.town.now.sound.few_persons in
      omega arith

  -- whoever comes comes to a stop on an own link
  comes_own : (n : ℕ) (x : Waiter) → came S t n (get_or P2.persons n nobody) ≡ Some x → IsOneOf num size (link_of_stop S x.stop)
  comes_own n x e =
      let same : came S t n (get_or V3.persons n nobody) ≡ Some x
      = ap (λ (ps : List Person). came S t n (get_or ps n nobody)) (sym persons_are) ∙ e in
      elim (cases_lt n (length V3.persons)) [
        | inl lt ↦ (has_stop n x lt same).link
        | inr past ↦
            absurd (let z : None ≡ Some x = ap (came S t n) (sym (get_or_past V3.persons n nobody past)) ∙ same in cc)
      ]

  off_line : (s : ℕ) → (IsOneOf num size (link_of_stop S s) → ⊥) → line_at (joined_lines S t P2.persons ns A.lines.items) s ≡ line_at A.lines.items s
  unfolding came_of
  off_line s off =
      let f = came_of S t s P2.persons in
      joined_at S t P2.persons ns A.lines.items s can_come
      ∙ ap (λ (ws : List Waiter). line_at A.lines.items s ++ ws)
      (flat_off f ns (λ n. at_off s (came S t n (get_or P2.persons n nobody)) (λ x e q.
      off (subst (λ (k : ℕ). IsOneOf num size (link_of_stop S k)) q (comes_own n x e)))))
      ∙ append-nil (line_at A.lines.items s)

  was_short : (s : ℕ) → length (line_at A.lines.items s) ≤ MAX_PERSONS
  was_short s =
      let P : List Waiter → Type 0 = λ ws. length ws ≤ MAX_PERSONS in
      elim (cases_lt s (length A.lines.items)) [
        | inl lt ↦ All-get_or P A.lines.items s [] lt (All-from_recursion P A.lines.items h.short)
        | inr past ↦ subst P (sym (get_or_past A.lines.items s [] past)) (omega arith)
      ]

  short_own : (s : ℕ) → IsOneOf num size (link_of_stop S s) → length (line_at (joined_lines S t P2.persons ns A.lines.items) s) ≤ MAX_PERSONS
  short_own s k =
      let lines = joined_lines S t P2.persons ns A.lines.items in
      let l = link_of_stop S s in
      one_short S l s lines V3 few_persons (eq-eqb l l refl)
      (subst (λ (m : ℕ). HaveLines (λ x. eqb (link_of_stop S x) m) lines (waiters S m V3)) k.1.1 (lines_stand k.0 k.1.0))

  short_at : (s : ℕ) → length (line_at (joined_lines S t P2.persons ns A.lines.items) s) ≤ MAX_PERSONS
  short_at s =
      let l = link_of_stop S s in
      let kept = λ (off : IsOneOf num size l → ⊥). subst (λ (ws : List Waiter). length ws ≤ MAX_PERSONS) (sym (off_line s off)) (was_short s) in
      elim (cases_Bool (eqb (owner_of S own l) p)) [
        | inl o ↦
            elim (cases_lt l (length S.links)) [
              | inl there ↦ short_own s (slot_of S own p l there (eqb-true (owner_of S own l) p o))
              | inr past ↦ kept (λ k. (let lt = link_there S own p k.0 k.1.0 in let e = k.1.1 in absurd (omega arith)))
            ]
        | inr off ↦
            kept (λ k. (
            let e : owner_of S own l ≡ p = ap (owner_of S own) (sym k.1.1) ∙ link_own S own p k.0 k.1.0 in
            true≢false (sym (eq-eqb (owner_of S own l) p e) ∙ off)))
      ]

  -- LINKS
  own_rows : Each (λ (r : Row). (r.link < length S.links) × (owner_of S own r.link ≡ p)) P2.rows
  own_rows =
      let start = setting.at_start S own p t V A.persons.world P1 P2 out in
      let world = setting.world_is S own p t V A.persons.world P1 P2 out in
      let q : ℕ → Bool = λ l. eqb (owner_of S own l) p in
      let none : (l : ℕ) → q l ≡ false → filter (on l Wait) P2.rows ≡ []
      = λ l off. none_last l V P2 (ap (at l Wait) world ∙ (knowing.others day own parts p t given shares).early l Wait off) in
      let n = (knowing.fit day own parts p t given shares).links in
      both_hold (λ (r : Row). r.link < length S.links) (λ (r : Row). owner_of S own r.link ≡ p) P2.rows
      (each_as (IsFitRow (counts_in day)) (λ (r : Row). r.link < length S.links) (λ r f. (let lt = f.link in omega arith)) P2.rows
      (recursion_from_All (IsFitRow (counts_in day)) P2.rows fit.rows))
      (each_as (λ (r : Row). q r.link ≡ true) (λ (r : Row). owner_of S own r.link ≡ p) (λ r e. eqb-true (owner_of S own r.link) p e) P2.rows
      (each_passes q P2.rows start none))

  in_slots : Each (Starts size) (map (in_slot slots) P2.rows) × (P2.rows ≡ map (in_world num) (map (in_slot slots) P2.rows))
  in_slots = slot_rows S own p slots are P2.rows (setting.at_start S own p t V A.persons.world P1 P2 out) own_rows

  abbrev rs : List Row
  rs = map (in_slot slots) P2.rows

  same_buffers : (l : ℕ) → at l Buffer V3 ≡ at l Buffer V
  same_buffers l = (knowing.second day own parts p t given shares).lists l Buffer refl

  goes : GoOnThere (λ n. eqb (own n) p) S V
  goes = λ l lt e. subst (λ (xs : List Row). Each (GoesOn S l) xs) (same_buffers l) (knowing.goes_early day own parts p t given shares l lt e)

  network : (M : NetworkState) → M.links.items ≡ all_started rs A.network.links.items
      → M.link_wakes ≡ woken_for_all t rs A.network.link_wakes → M.places ≡ A.network.places → M.node_wakes ≡ A.network.node_wakes
      → NetworkStands day own p t t M E V3
  network M links wakes places nodes =
      let N = A.network in
      let n = h.network.links.count in
      let K = knowing.places day own parts p t given shares in
      record {
        links = subst (λ (vs : List LinkView). LinksStandAt num size S t vs V3) (sym links)
            (subst (λ (X : World). LinksStandAt num size S t (all_started rs N.links.items) X) (setting.world_is S own p t V A.persons.world P1 P2 out)
            (starting.joined_at num size S t size rs N.links.items V P2 (numbered S own p slots are) (sym n) in_slots.0 in_slots.1 h.network.links));
        asleep = subst (λ (vs : List LinkView). AreAsleep S.settings.dwell end t vs M.link_wakes) (sym links)
            (subst (λ (ws : List (Option ℕ)). AreAsleep S.settings.dwell end t (all_started rs N.links.items) ws) (sym wakes)
            (starting.all_asleep S.settings.dwell end t size rs N.links.items N.link_wakes in_day (sym n) in_slots.0 h.network.asleep));
        places = subst (λ (Q : Places). AreTakenOf (begins_here S own p) (length S.links) end t (places_known S E) Q) (sym places)
            (taken_alike (begins_here S own p) (length S.links) end t (places_known S H) (places_known S E) N.places (record {
              storage = λ m lt b. refl;
              seconds = λ m lt b. refl;
              queued = λ m lt b. K.early_rows m;
              frees = λ m lt b. ap (λ (hs : List ℕ). map (λ (s : ℕ). s + hole_of S m) hs) (K.early_holes m);
            }) h.network.places);
        nodes = ap (λ (ws : List (Option ℕ)). length ws) nodes ∙ h.network.nodes;
        awaited = subst (λ (ws : List (Option ℕ)). AreAwaitedAt (λ k. eqb (own k) p) S end t t ws V3) (sym nodes)
            (awaited_on S own p end t t t N.node_wakes V V3 goes (λ l lt o. same_buffers l) (λ m lt b. (
            let a = known_before S own p t m H V (K.start t (omega arith)) lt b in
            let c = known_before S own p t m E V3 (K.early t (omega arith)) lt b in
            let r = K.early_rows m in
            let g = ap (λ (hs : List ℕ). still t (map (λ (s : ℕ). s + hole_of S m) hs)) (K.early_holes m) in
            omega arith)) h.network.awaited);
        only = λ k off. ap (λ (ws : List (Option ℕ)). wake_of ws k) nodes ∙ h.network.only k off;
      }

  persons_stand : (Q : Persons) → Q.world ≡ record P2 { rows = [] } → AreFollowedIn day (t + 1) P2.persons Q.wakes
      → length Q.wakes ≡ length P2.persons → PersonsStand day (t + 1) Q V3
  persons_stand Q e followed looks =
      let same : Q.world.persons ≡ P2.persons = ap (λ (X : World). X.persons) e in
      let now = same ∙ persons_are in
      let none : Q.world.rows ≡ [] = ap (λ (X : World). X.rows) e in
      record {
        persons = now;
        rows = none;
        fit = fit_as (counts_in day) P2 V3 Q.world fit fit3 none now (ap (λ (X : World). X.credits) e) (ap (λ (X : World). X.holes) e);
        followed = subst (λ (ps : List Person). AreFollowed S end (t + 1) ps Q.wakes) (sym same) followed;
        looks = looks ∙ sym (ap (λ (ps : List Person). length ps) same);
      }

  -- THE PART
  pub set_out_stands : (B : Area) → B.persons.world ≡ record P2 { rows = [] } → AreFollowedIn day (t + 1) P2.persons B.persons.wakes
      → length B.persons.wakes ≡ length P2.persons → HasNone t A.departures B.departures
      → B.lines.items ≡ joined_lines S t P2.persons ns A.lines.items → B.network.links.items ≡ all_started rs A.network.links.items
      → B.network.link_wakes ≡ woken_for_all t rs A.network.link_wakes → B.network.places ≡ A.network.places
      → B.network.node_wakes ≡ A.network.node_wakes → B.queues.items ≡ A.queues.items → AreaStands day own p (t + 1) t t B E V3
  set_out_stands B world followed looks none lines links wakes places nodes queues = record {
    persons = persons_stand B.persons world followed looks;
    departures = departing S own p end t A.departures B.departures none h.departures;
    stops = ap (λ (ls : List (List Waiter)). length ls) lines ∙ joined_length S t P2.persons ns A.lines.items ∙ h.stops;
    lines = subst (λ (ls : List (List Waiter)). LinesStandAt num size S ls V3) (sym lines) lines_stand;
    short = subst (λ (ls : List (List Waiter)). AreShort ls) (sym lines)
        (all_short (joined_lines S t P2.persons ns A.lines.items) (λ s lt. short_at s));
    network = network B.network links wakes places nodes;
    slots = ap (λ (qs : List ℕ). length qs) queues ∙ h.slots;
    queues = λ k lt off.
        ap (λ (qs : List ℕ). get_or qs k 0) queues ∙ h.queues k lt off
        ∙ ap (λ (xs : List Row). length xs) (sym ((knowing.second day own parts p t given shares).lists (num k) Queue refl));
  }
