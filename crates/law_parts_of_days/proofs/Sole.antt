-- The partition that has the whole network holds the day's worlds, and its seconds alone are those of the day.
use Rattle.traffic.proofs.Common.{◌≡◌, ◌∙◌, ◌++◌, ◌-◌, ◌&&◌, ◌+◌, ℕ, zero, suc, Bool, true, false, not, List, [], ◌∷◌, length, refl, ap, sym, arith, append-nil}
use Rattle.traffic.proofs.Common.{inl, inr, cases_Bool, take, filter, flat_map, fun_ext, Setup, hole_of, world_at, world_start, at, holes_at, person_of}
use Rattle.traffic.specs.declared.stage.Stage.{Stage, TheVariants.Queue, TheVariants.Buffer, TheVariants.Wait, TheVariants.Bay}
use Rattle.traffic.specs.declared.world.Place.{Place, TheVariants.At, TheVariants.Teleporting, TheVariants.Waiting, TheVariants.Riding, TheVariants.Aborted}
use Rattle.traffic.specs.{declared.world.Row.Row, Day.events_from, Day.second_events}
use Rattle.std.{proofs.lemmas.List.append_cancel_left, specs.Prelude.◌==◌, specs.Prelude.◌||◌, specs.Prelude.if◌then◌else◌}
use Rattle.events.specs.declared.event.Event.{Event}
use Rattle.parts.specs.Owners.{owner_of, owner_of_person, owner_of_event, links_of, near}
use Rattle.parts.specs.Parts.{came_last, went_last, lasting, late_rows, known_list, rides_in, is_late, is_person, mine, part, unheard, ready, own_events}
use Rattle.law_sound_setups.specs.{Consistent.IsConsistentSetup, Setups.IsSoundSetup}
use Rattle.law_partitions.proofs.{Locality.same_held, Second.take_front, Setting.are_local, Setting.has_neighbours}
use Rattle.law_partitions.specs.Alone.{alone, tells_alone}
use Rattle.law_parts_of_days.specs.Sole.{sole_owner}

-- WHAT IT HOLDS
-- it has heard of everything
late_none : (S : Setup) (k : ℕ → ℕ → ℕ) (t l : ℕ) → late_rows S sole_owner k t l ≡ []
unfolding came_last
late_none S k zero l = refl
late_none S k (suc t) l = refl

all_none : (S : Setup) (k : ℕ → ℕ → ℕ) (t : ℕ) (ns : List ℕ) → flat_map (late_rows S sole_owner k t) ns ≡ []
all_none S k t [] = refl
all_none S k t (n ∷ ns) = ap (λ (xs : List Row). xs ++ flat_map (late_rows S sole_owner k t) ns) (late_none S k t n) ∙ all_none S k t ns

went_none : (S : Setup) (m t : ℕ) → went_last S m t 0 ≡ 0
unfolding went_last
went_none S m zero = refl
went_none S m (suc t) = refl

list_whole : (S : Setup) (k : ℕ → ℕ → ℕ) (t l : ℕ) (s : Stage) → known_list S sole_owner k t l s ≡ at l s (world_at S t)
list_whole S k t l Queue =
    let q = at l Queue (world_at S t) in
    ap (λ (xs : List Row). take (length q - length xs) q) (late_none S k t l)
    ∙ ap (λ (xs : List Row). take (length xs - length {A = Row} []) xs) (sym (append-nil q)) ∙ take_front q []
list_whole S k t l Buffer = refl
list_whole S k t l Wait = refl
list_whole S k t l Bay = refl

not_late : (S : Setup) (k : ℕ → ℕ → ℕ) (t i element : ℕ) (p : Place) → is_late S sole_owner k 0 t i element p ≡ false
not_late S k t i element (Riding v) = ap (rides_in i) (all_none S k t (filter (λ l. owner_of S sole_owner l == 0) (links_of S)))
not_late S k t i element (Teleporting start) = refl
not_late S k t i element (At end) = refl
not_late S k t i element (Waiting stop since) = refl
not_late S k t i element (Aborted l) = refl

known : (S : Setup) (k : ℕ → ℕ → ℕ) (t i : ℕ)
    → (is_person S i && ((owner_of_person S sole_owner (world_at S t) i == 0)
    && not (is_late S sole_owner k 0 t i (person_of i (world_at S t)).element (person_of i (world_at S t)).place)))
    ≡ (is_person S i && (owner_of_person S sole_owner (world_at S t) i == 0))
known S k t i =
    ap (λ (b : Bool). is_person S i && ((owner_of_person S sole_owner (world_at S t) i == 0) && not b))
    (not_late S k t i (person_of i (world_at S t)).element (person_of i (world_at S t)).place)

pub whole_part : (S : Setup) (k : ℕ → ℕ → ℕ) (t : ℕ) → unheard S sole_owner k 0 t ≡ part S sole_owner 0 t (world_at S t)
unfolding unheard
whole_part S k t =
    same_held (unheard S sole_owner k 0 t) (part S sole_owner 0 t (world_at S t)) (fun_ext (λ l. fun_ext (λ s. list_whole S k t l s))) refl
    (fun_ext (λ m. (let z = went_none S m t in omega arith)))
    (fun_ext (λ m. (let z : t - 0 ≡ t = omega arith in ap (λ (j : ℕ). lasting t (hole_of S m) (holes_at m (world_at S j))) z)))
    (fun_ext (λ i. ap (λ (b : Bool). mine b (person_of i (world_at S t))) (known S k t i)))

-- WHAT IT TELLS
zeros : (a b c : Bool) → ◌≡◌ {A = ℕ} (if a then 0 else if b then 0 else if c then 0 else 0) 0
zeros true b c = refl
zeros false true c = refl
zeros false false true = refl
zeros false false false = refl

own_event : (S : Setup) (e : Event) → owner_of_event S sole_owner e ≡ 0
own_event S e = zeros ((e.key.phase == 0) || (e.key.phase == 1)) (e.key.phase == 2) (e.key.phase == 3)

keep_all : (p : Event → Bool) (es : List Event) → ((e : Event) → p e ≡ true) → filter p es ≡ es
keep_all p [] h = refl
keep_all p (e ∷ es) h = rw (h e) (ap (λ (xs : List Event). e ∷ xs) (keep_all p es h))

own_all : (S : Setup) (t : ℕ) → own_events S sole_owner 0 t ≡ events_from S (world_start S) t
unfolding own_events
own_all S t =
    keep_all (λ (e : Event). owner_of_event S sole_owner e == 0) (events_from S (world_start S) t) (λ e. ap (λ (n : ℕ). n == 0) (own_event S e))

events_next : (S : Setup) (t : ℕ) → events_from S (world_start S) (suc t) ≡ events_from S (world_start S) t ++ second_events S t (world_at S t)
unfolding events_from
events_next S t = refl

pub tells_day : (S : Setup) (t : ℕ) → IsSoundSetup S → IsConsistentSetup S
    → tells_alone S sole_owner 0 t (ready S sole_owner 0 t) ≡ second_events S t (world_at S t)
tells_day S t sound consistent =
    let local = are_local S sound consistent sole_owner 1 (λ n. omega arith) in
    append_cancel_left (events_from S (world_start S) t) _ _
    (ap (λ (es : List Event). es ++ tells_alone S sole_owner 0 t (ready S sole_owner 0 t)) (sym (own_all S t)) ∙ local.tells 0 t ∙ own_all S (suc t)
    ∙ events_next S t)

-- ITS SECONDS
pub alone_day : (S : Setup) (t : ℕ) → IsSoundSetup S → IsConsistentSetup S
    → alone S sole_owner 0 t (ready S sole_owner 0 t) ≡ part S sole_owner 0 (suc t) (world_at S (suc t))
alone_day S t sound consistent =
    let local = are_local S sound consistent sole_owner 1 (λ n. omega arith) in local.holds 0 t ∙ whole_part S _ (suc t)

-- ITS NEIGHBOURS
pub no_neighbour : (S : Setup) (q : ℕ) → IsSoundSetup S → IsConsistentSetup S → near S sole_owner 0 q ≡ false
no_neighbour S q sound consistent =
    let h = has_neighbours S sound consistent sole_owner 1 (λ n. omega arith) in
    elim (cases_Bool (near S sole_owner 0 q)) [
      | inl e ↦
          let lt = (h.there 0 q e).1 in
          let z : q ≡ 0 = omega arith in
          ap (near S sole_owner 0) z ∙ h.others 0
      | inr e ↦ e
    ]
