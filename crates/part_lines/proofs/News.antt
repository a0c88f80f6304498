-- Who waits at a stop after events of a second waits since this second, or nothing has changed of him.
use Rattle.traffic.proofs.Common.{◌≡◌, ℕ, ◌+◌, ◌<◌, List, [], ◌∷◌, ◌∙◌, ap, refl, sym, subst, arith, inl, inr, cases_Bool, eqb, eqb-true, eqb-false, length}
use Rattle.traffic.proofs.Common.{get_or, flat_map, Option, None, Some, Phase, VehicleId, Setup, World, person_of, nobody, told, run, person_by, person_after}
use Rattle.traffic.proofs.Common.{persons_by, persons_after, start_act, ride, turns_in, moves_of, through}
use Rattle.traffic.{proofs.Sublists.persons-length, specs.Moves.wait_at, specs.Moves.lose}
use Rattle.traffic.specs.declared.{moves.Move.Move, moves.Occurrence.Occurrence, world.Person.Person, world.Place.Place}
use Rattle.traffic.specs.declared.world.Place.TheVariants.{At, Teleporting, Waiting, Riding, Aborted}
use Rattle.std.{proofs.lemmas.List.get_or-set_same, proofs.lemmas.List.get_or-set_other, specs.Prelude.◌⊎◌}
use Rattle.events.specs.declared.event.{More.More, Word.Word}
use Rattle.events.specs.declared.event.Word.TheVariants as word
use Rattle.events.specs.declared.event.More.TheVariants as more
use Rattle.part_persons.proofs.Told.{run_persons}

-- ONE PERSON
-- who waits does so since second t
abbrev pub WaitsFrom : ℕ → Place → Type 0
WaitsFrom t (At end) = Unit {0}
WaitsFrom t (Teleporting start) = Unit {0}
WaitsFrom t (Waiting stop since) = since ≡ t
WaitsFrom t (Riding vehicle) = Unit {0}
WaitsFrom t (Aborted link) = Unit {0}

abbrev pub IsNews : ℕ → Person → Person → Type 0
IsNews t P Q = (Q ≡ P) ⊎ WaitsFrom t Q.place

both : (t : ℕ) (P Q R : Person) → IsNews t P Q → IsNews t Q R → IsNews t P R
both t P Q R (inl e) (inl f) = inl (f ∙ e)
both t P Q R (inr g) (inl f) = inr (subst (λ (X : Person). WaitsFrom t X.place) (sym f) g)
both t P Q R h (inr g) = inr g

waits : (t : ℕ) (m : More) (P : Person) → IsNews t P (wait_at m t P)
waits t (more.Stop stop) P = inr refl
waits t m P = inl refl

rides : (t : ℕ) (v : Option VehicleId) (P : Person) → IsNews t P (ride v P)
rides t None P = inl refl
rides t (Some v) P = inr tt

starts : (S : Setup) (t i : ℕ) (P : Person) (p : Place) → IsNews t P (start_act S t i P p)
starts S t i P (Waiting stop since) = inl refl
starts S t i P p = inr tt

loses : (t : ℕ) (l : Option ℕ) (P : Person) → IsNews t P (lose l P)
loses t None P = inl refl
loses t (Some l) P = inr tt

by_word : (S : Setup) (t i : ℕ) (e : Occurrence) (w : Word) (P : Person) → IsNews t P (person_by S t i e w P)
by_word S t i e word.Departure P = inr tt
by_word S t i e word.WaitingForPt P = waits t e.more P
by_word S t i e word.PersonEntersVehicle P = rides t e.vehicle P
by_word S t i e word.ActStart P = starts S t i P P.place
by_word S t i e word.StuckAndAbort P = loses t e.link P
by_word S t i e w P = inl refl

by_event : (S : Setup) (t i : ℕ) (e : Occurrence) (P : Person) → IsNews t P (person_after S t i e P)
unfolding person_after
by_event S t i e P = by_word S t i e e.word P

-- AMONG ALL
by_one : (S : Setup) (t i : ℕ) (e : Occurrence) (o : Option ℕ) (ps : List Person) → i < length ps → IsNews t (get_or ps i nobody) (get_or (persons_by S t e o ps) i nobody)
by_one S t i e None ps lt = inl refl
by_one S t i e (Some j) ps lt =
    elim (cases_Bool (eqb j i)) [
      | inl q ↦
          let same : j ≡ i = eqb-true j i q in
          let is : get_or (persons_by S t e (Some j) ps) i nobody ≡ person_after S t i e (get_or ps i nobody)
          = ap (λ (k : ℕ). get_or (persons_by S t e (Some k) ps) i nobody) same ∙ get_or-set_same ps i (person_after S t i e (get_or ps i nobody)) nobody lt in
          subst (λ (X : Person). IsNews t (get_or ps i nobody) X) (sym is) (by_event S t i e (get_or ps i nobody))
      | inr q ↦ inl (get_or-set_other ps j i _ nobody (λ r. eqb-false j i q (sym r)))
    ]

by_all : (S : Setup) (t i : ℕ) (es : List Occurrence) (ps : List Person) → i < length ps → IsNews t (get_or ps i nobody) (get_or (persons_after S t es ps) i nobody)
by_all S t i [] ps lt = inl refl
by_all S t i (e ∷ es) ps lt =
    let n : length (persons_by S t e e.person ps) ≡ length ps = persons-length S t (e ∷ []) ps in
    let next = persons_by S t e e.person ps in
    both t (get_or ps i nobody) (get_or next i nobody) (get_or (persons_after S t es next) i nobody)
    (by_one S t i e e.person ps lt) (by_all S t i es next (omega arith))

by_moves : (S : Setup) (t i : ℕ) (ms : List Move) (W : World) → i < length W.persons → IsNews t (person_of i W) (person_of i (run S t ms W))
by_moves S t i ms W lt =
    let e = run_persons S t ms W in
    subst (λ (ps : List Person). IsNews t (person_of i W) (get_or ps i nobody)) (sym e) (by_all S t i (flat_map told ms) W.persons lt)

pub same_many : (S : Setup) (t : ℕ) (ms : List Move) (W : World) → length (run S t ms W).persons ≡ length W.persons
same_many S t ms W = ap (λ (ps : List Person). length ps) (run_persons S t ms W) ∙ persons-length S t (flat_map told ms) W.persons

-- in phases of a second
pub news_through : (S : Setup) (t i : ℕ) (ps : List Phase) (W : World) → i < length W.persons → IsNews t (person_of i W) (person_of i (through S t ps W))
unfolding through
news_through S t i [] W lt = inl refl
news_through S t i (p ∷ ps) W lt =
    let ms = moves_of (turns_in S t p W) in
    let next = run S t ms W in
    let n = same_many S t ms W in
    both t (person_of i W) (person_of i next) (person_of i (through S t ps next)) (by_moves S t i ms W lt) (news_through S t i ps next (omega arith))

pub many_through : (S : Setup) (t : ℕ) (ps : List Phase) (W : World) → length (through S t ps W).persons ≡ length W.persons
unfolding through
many_through S t [] W = refl
many_through S t (p ∷ ps) W =
    let ms = moves_of (turns_in S t p W) in
    many_through S t ps (run S t ms W) ∙ same_many S t ms W

-- SINCE BEFORE
-- who waits at this place does so since before second t
abbrev pub IsBefore : ℕ → Place → Type 0
IsBefore t (At end) = Unit {0}
IsBefore t (Teleporting start) = Unit {0}
IsBefore t (Waiting stop since) = since < t
IsBefore t (Riding vehicle) = Unit {0}
IsBefore t (Aborted link) = Unit {0}

place_before : (t : ℕ) (p : Place) → WaitsFrom t p → IsBefore (t + 1) p
place_before t (At end) h = tt
place_before t (Teleporting start) h = tt
place_before t (Waiting stop since) h = omega arith
place_before t (Riding vehicle) h = tt
place_before t (Aborted link) h = tt

place_later : (t : ℕ) (p : Place) → IsBefore t p → IsBefore (t + 1) p
place_later t (At end) h = tt
place_later t (Teleporting start) h = tt
place_later t (Waiting stop since) h = omega arith
place_later t (Riding vehicle) h = tt
place_later t (Aborted link) h = tt

news_before : (t : ℕ) (P Q : Person) → IsNews t P Q → IsBefore t P.place → IsBefore (t + 1) Q.place
news_before t P Q (inl e) h = subst (λ (X : Person). IsBefore (t + 1) X.place) (sym e) (place_later t P.place h)
news_before t P Q (inr g) h = place_before t Q.place g

-- everybody who waits in a world does so since before second t
abbrev pub WaitBefore : ℕ → World → Type 0
WaitBefore t W = (i : ℕ) → i < length W.persons → IsBefore t (person_of i W).place

-- a second later this holds for the next second
pub wait_on : (S : Setup) (t : ℕ) (ps : List Phase) (W : World) → WaitBefore t W → WaitBefore (t + 1) (through S t ps W)
wait_on S t ps W h = λ i lt. (
    let n = many_through S t ps W in
    let there : i < length W.persons = omega arith in
    news_before t (person_of i W) (person_of i (through S t ps W)) (news_through S t i ps W there) (h i there))
