-- What moves tell of one person, and what that makes of his row.
use Rattle.traffic.proofs.Common.{◌≡◌, ℕ, List, ◌∙◌, length, ap, refl, sym, [], ◌∷◌, arith, ◌<◌, ◌++◌, Bool, inl, inr, false, eqb, cases_Bool, flat_map, filter}
use Rattle.traffic.proofs.Common.{Some, None, Option, run, done, told, person_after_all, told_of, World, person_of, Setup}
use Rattle.traffic.proofs.Sublists.{persons-length, person-done}
use Rattle.traffic.specs.declared.{moves.Move.Move, moves.Occurrence.Occurrence, world.Person.Person}
use Rattle.std.specs.List.{AllByRecursion as Each}
use Rattle.parts.specs.Parts.{Held}
use Rattle.law_partitions.specs.Alone.{after_told, held_done, held_run}

-- none of this is told of person i
abbrev pub NotHis : ℕ → Option ℕ → Type 0
NotHis i None = Unit {0}
NotHis i (Some j) = eqb j i ≡ false

abbrev pub Silent : ℕ → List Occurrence → Type 0
Silent i es = Each (λ (e : Occurrence). NotHis i e.person) es

-- a move that changes nothing of his row
abbrev pub IsQuiet : Setup → ℕ → ℕ → Move → Type 0
IsQuiet S t i m = (P : Person) → person_after_all S t i (told m) P ≡ P

abbrev pub Quiet : Setup → ℕ → ℕ → List Move → Type 0
Quiet S t i ms = Each (IsQuiet S t i) ms

-- his row after moves
abbrev pub person_moves : Setup → ℕ → ℕ → List Move → Person → Person
person_moves S t i [] P = P
person_moves S t i (m ∷ ms) P = person_moves S t i ms (person_after_all S t i (told m) P)

pub person_moves-append : (S : Setup) (t i : ℕ) (ms ns : List Move) (P : Person) → person_moves S t i (ms ++ ns) P ≡ person_moves S t i ns (person_moves S t i ms P)
person_moves-append S t i [] ns P = refl
person_moves-append S t i (m ∷ ms) ns P = person_moves-append S t i ms ns (person_after_all S t i (told m) P)

silent_one : (S : Setup) (t i : ℕ) (e : Occurrence) (o : Option ℕ) (P : Person) → NotHis i o → told_of S t i e o P ≡ P
silent_one S t i e None P h = refl
silent_one S t i e (Some j) P h = rw h refl

pub silent_same : (S : Setup) (t i : ℕ) (es : List Occurrence) (P : Person) → Silent i es → person_after_all S t i es P ≡ P
silent_same S t i [] P h = refl
silent_same S t i (e ∷ es) P h = ap (person_after_all S t i es) (silent_one S t i e e.person P h.0) ∙ silent_same S t i es P h.1

pub quiet_same : (S : Setup) (t i : ℕ) (ms : List Move) (P : Person) → Quiet S t i ms → person_moves S t i ms P ≡ P
quiet_same S t i [] P h = refl
quiet_same S t i (m ∷ ms) P h = ap (person_moves S t i ms) (h.0 P) ∙ quiet_same S t i ms P h.1

pub person-run : (S : Setup) (t i : ℕ) (ms : List Move) (W : World) → i < length W.persons → person_of i (run S t ms W) ≡ person_moves S t i ms (person_of i W)
person-run S t i [] W h = refl
person-run S t i (m ∷ ms) W h =
    let q = persons-length S t (told m) W.persons in
    person-run S t i ms (done S t m W) (omega arith) ∙ ap (person_moves S t i ms) (person-done S t i m W h)

-- moves that do not tell of him can be left out
pub person-filter : (S : Setup) (t i : ℕ) (plan : ℕ → List Move) (mine : ℕ → Bool) → ((n : ℕ) → mine n ≡ false → Quiet S t i (plan n)) → (ns : List ℕ) (P : Person) →
    person_moves S t i (flat_map plan ns) P ≡ person_moves S t i (flat_map plan (filter mine ns)) P
person-filter S t i plan mine h [] P = refl
person-filter S t i plan mine h (n ∷ ns) P =
    elim (cases_Bool (mine n)) [
      | inl e ↦ rw e (person_moves-append S t i (plan n) (flat_map plan ns) P ∙ person-filter S t i plan mine h ns (person_moves S t i (plan n) P) ∙ sym (person_moves-append S t i (plan n) (flat_map plan (filter mine ns)) P))
      | inr e ↦ rw e (person_moves-append S t i (plan n) (flat_map plan ns) P ∙ ap (person_moves S t i (flat_map plan ns)) (quiet_same S t i (plan n) P (h n e)) ∙ person-filter S t i plan mine h ns P)
    ]

-- the same of the row that a part has
abbrev pub opt_moves : Setup → ℕ → ℕ → List Move → Option Person → Option Person
opt_moves S t i ms None = None
opt_moves S t i ms (Some P) = Some (person_moves S t i ms P)

opt_none : (S : Setup) (t i : ℕ) (o : Option Person) → o ≡ opt_moves S t i [] o
opt_none S t i None = refl
opt_none S t i (Some P) = refl

opt_step : (S : Setup) (t i : ℕ) (m : Move) (ms : List Move) (o : Option Person) → opt_moves S t i ms (after_told S t i (told m) o) ≡ opt_moves S t i (m ∷ ms) o
opt_step S t i m ms None = refl
opt_step S t i m ms (Some P) = refl

pub person-held : (S : Setup) (t i : ℕ) (ms : List Move) (H : Held) → (held_run S t ms H).person i ≡ opt_moves S t i ms (H.person i)
person-held S t i [] H = opt_none S t i (H.person i)
person-held S t i (m ∷ ms) H = person-held S t i ms (held_done S t m H) ∙ opt_step S t i m ms (H.person i)
