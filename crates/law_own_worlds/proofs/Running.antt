-- Moves do the same to what a partition holds and to a world that has it.
use Rattle.traffic.proofs.Common.{◌≡◌, ℕ, zero, suc, ◌+◌, ◌<◌, List, [], ◌∷◌, ◌∙◌, ap, refl, sym, arith, inl, inr, cases_Bool, true, Bool, length, map, filter}
use Rattle.traffic.proofs.Common.{Some, None, Turn, Setup, World, credit_of, person_of, run, done, told, after, moves_of, at_after, credit_after, holes_at}
use Rattle.traffic.proofs.Common.{taken_at, in_force, hole_of, numbers}
use Rattle.traffic.proofs.Sublists.{at-done, at-run_untouched, credit-done, credits-run, holes-run, persons-length, person-done}
use Rattle.traffic.{proofs.Turns.Fresh, proofs.Turns.Distinct, specs.declared.moves.Move.Move, specs.declared.stage.Stage.TheVariants.Queue}
use Rattle.parts.specs.Parts.{Held, mine}
use Rattle.law_partitions.proofs.{Early.AreEarly, Early.early-untouched, Early.early-holes, Early.early-rows, Second.held_run-holes}
use Rattle.law_partitions.specs.Alone.{after_told, held_done, held_run, taken_here}
use Rattle.law_own_worlds.specs.OwnWorlds.{IsWorldOf}

-- A MOVE
one_credit : (S : Setup) (t l : ℕ) (m : Move) (has : ℕ → Bool) (H : Held) (V : World) → IsWorldOf S has H V → l < length S.links
    → credit_after l m (H.credit l) ≡ credit_of l (done S t m V)
one_credit S t l m has H V h lt =
    let n = h.credits in
    let there : l < length V.credits = omega arith in
    ap (credit_after l m) (h.credit l lt) ∙ sym (credit-done S t l m V there)

one_person : (S : Setup) (t i : ℕ) (m : Move) (has : ℕ → Bool) (H : Held) (V : World) → IsWorldOf S has H V
    → after_told S t i (told m) (H.person i) ≡ mine (has i) (person_of i (done S t m V))
one_person S t i m has H V h =
    elim (cases_Bool (has i)) [
      | inl e ↦
          let n = h.one_each in
          let lt = h.there i e in
          let there : i < length V.persons = omega arith in
          let q : H.person i ≡ Some (person_of i V) = h.person i ∙ (rw e refl) in
          rw e (ap (after_told S t i (told m)) q ∙ ap Some (sym (person-done S t i m V there)))
      | inr e ↦ let q : H.person i ≡ None = h.person i ∙ (rw e refl) in rw e (ap (after_told S t i (told m)) q)
    ]

move_keeps : (S : Setup) (t : ℕ) (has : ℕ → Bool) (m : Move) (H : Held) (V : World) → IsWorldOf S has H V
    → IsWorldOf S has (held_done S t m H) (done S t m V)
move_keeps S t has m H V h = record {
  list = λ l s. ap (at_after l s m) (h.list l s) ∙ sym (at-done S t l s m V);
  credit = λ l lt. one_credit S t l m has H V h lt;
  person = λ i. one_person S t i m has H V h;
  there = h.there;
  one_each = persons-length S t (told m) V.persons ∙ h.one_each;
  credits = credits-run S t (m ∷ []) V ∙ h.credits;
}

-- MANY
pub moves_keep : (S : Setup) (t : ℕ) (has : ℕ → Bool) (ms : List Move) (H : Held) (V : World) → IsWorldOf S has H V
    → IsWorldOf S has (held_run S t ms H) (run S t ms V)
moves_keep S t has [] H V h = h
moves_keep S t has (m ∷ ms) H V h = moves_keep S t has ms (held_done S t m H) (done S t m V) (move_keeps S t has m H V h)

-- turns that are the same ones
pub turns_keep : (S : Setup) (t : ℕ) (has : ℕ → Bool) (us vs : List Turn) (H : Held) (V : World) → us ≡ vs → IsWorldOf S has H V
    → IsWorldOf S has (held_run S t (moves_of us) H) (after S t vs V)
turns_keep S t has us vs H V e h =
    rw (← e) (moves_keep S t has (moves_of us) H V h)

-- moves of persons and departures leave places as they are
pub places_stay : (S : Setup) (t m : ℕ) (ms : List Move) (H : Held) (V : World) → AreEarly ms → taken_here S t H m ≡ taken_at S t m V
    → taken_here S t (held_run S t ms H) m ≡ taken_at S t m (run S t ms V)
places_stay S t m ms H V h e =
    let a = early-rows S t m ms H h in
    let b = ap (in_force t (hole_of S m)) (held_run-holes S t m ms H ∙ early-holes m ms (H.holes m) h) in
    let c = ap length (at-run_untouched S t m Queue ms V (early-untouched m Queue ms refl h)) in
    let d = ap (in_force t (hole_of S m)) (holes-run S t m ms V ∙ early-holes m ms (holes_at m V) h) in
    omega arith

-- NUMBERS THAT PASS
fresh_passed : (p : ℕ → Bool) (x : ℕ) (ns : List ℕ) → Fresh x ns → Fresh x (filter p ns)
fresh_passed p x [] h = tt
fresh_passed p x (n ∷ ns) h =
    elim (cases_Bool (p n)) [ inl e ↦ simp e (h.0, fresh_passed p x ns h.1) | inr e ↦ simp e (fresh_passed p x ns h.1) ]

pub distinct_passed : (p : ℕ → Bool) (ns : List ℕ) → Distinct ns → Distinct (filter p ns)
distinct_passed p [] h = tt
distinct_passed p (n ∷ ns) h =
    elim (cases_Bool (p n)) [
      | inl e ↦ simp e (fresh_passed p n ns h.0, distinct_passed p ns h.1)
      | inr e ↦ simp e (distinct_passed p ns h.1)
    ]

turn_with : ℕ → List Move → Turn
turn_with n ms = record { number = n; moves = ms }

-- turns of the same numbers with the same moves
pub same_turns : (f g : ℕ → List Move) (k n : ℕ) → ((i : ℕ) → i < k + n → f i ≡ g i)
    → map (λ (i : ℕ). let u : Turn = record { number = i; moves = f i } in u) (numbers k n)
    ≡ map (λ (i : ℕ). let u : Turn = record { number = i; moves = g i } in u) (numbers k n)
unfolding turn_with
same_turns f g k zero h = refl
same_turns f g k (suc n) h =
    let us = map (λ (i : ℕ). let u : Turn = record { number = i; moves = f i } in u) (numbers (k + 1) n) in
    ap (λ (ms : List Move). turn_with k ms ∷ us) (h k (omega arith))
    ∙ ap (λ (vs : List Turn). turn_with k (g k) ∷ vs) (same_turns f g (k + 1) n (λ i lt. h i (omega arith)))

pub same_passed : (f g : ℕ → List Move) (p : ℕ → Bool) (k n : ℕ) → ((i : ℕ) → i < k + n → p i ≡ true → f i ≡ g i)
    → map (λ (i : ℕ). let u : Turn = record { number = i; moves = f i } in u) (filter p (numbers k n))
    ≡ map (λ (i : ℕ). let u : Turn = record { number = i; moves = g i } in u) (filter p (numbers k n))
unfolding turn_with
same_passed f g p k zero h = refl
same_passed f g p k (suc n) h =
    let rest = same_passed f g p (k + 1) n (λ i lt e. h i (omega arith) e) in
    let us = map (λ (i : ℕ). let u : Turn = record { number = i; moves = f i } in u) (filter p (numbers (k + 1) n)) in
    elim (cases_Bool (p k)) [
      | inl e ↦
          rw e (ap (λ (ms : List Move). turn_with k ms ∷ us) (h k (omega arith) e) ∙ ap (λ (vs : List Turn). turn_with k (g k) ∷ vs) rest)
      | inr e ↦ rw e rest
    ]
