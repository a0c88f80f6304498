-- Fit moves keep a world fit.
use Rattle.traffic.proofs.Common.{set, ◌≡◌, ℕ, List, ◌∙◌, length, refl, sym, [], ◌∷◌, ◌<◌, ◌+◌, inl, inr, subst, get_or, ◌≢◌, cases_lt, get_or-set_same}
use Rattle.traffic.proofs.Common.{get_or-set_other, All-from_recursion, recursion_from_All, Some, None, Option, More, VehicleId, Word, without, persons_by}
use Rattle.traffic.proofs.Common.{ride, person_by, wait_at, lose, run, done, told, at_second, start_act, person_after, ends_at, persons_after, rows_after}
use Rattle.traffic.proofs.{Common.World, Common.on, Common.nobody, Common.Setup, Common.act_at, Each.each_append, Each.each_without, Each.each_with_first}
use Rattle.traffic.{proofs.Moments.Along, proofs.Sublists.persons-length, proofs.Sublists.credits-run, specs.Moves.holes_after, specs.declared.moves.Move.Move}
use Rattle.traffic.specs.declared.moves.Move.TheVariants.{Transfer, Remove, Enter, SetFrontSince, LeaveHole}
use Rattle.traffic.specs.declared.{moves.Occurrence.Occurrence, stage.Stage.TheVariants.Buffer}
use Rattle.traffic.specs.declared.world.{Hole.Hole, Person.Person, Place.Place, Place.TheVariants.At, Place.TheVariants.Waiting, Row.Row}
use Rattle.std.{proofs.lemmas.Bool.cases_eq, proofs.lemmas.List.set_past, specs.List.AllByRecursion as Each}
use Rattle.events.specs.declared.event.Word.TheVariants as word
use Rattle.events.specs.declared.event.More.TheVariants as more
use Rattle.law_in_range.proofs.Boarding.{second_fit}
use Rattle.law_in_range.specs.Moves.{IsBelow, IsFitMore, IsFitOccurrence, AreFitOccurrences, IsFitChange, IsFitMove, AreFitMoves}
use Rattle.law_in_range.specs.{Rows.Counts, Rows.IsFitRow, Rows.IsFitPlace, Rows.IsFitPerson, Rows.IsFitWorld, Setups.IsFitSetup}

-- ROWS
rows_fit : (z : Counts) (m : Move) (rows : List Row) → IsFitChange z m → Each (IsFitRow z) rows → Each (IsFitRow z) (rows_after m rows)
rows_fit z (Transfer l s k was now) rows h g = each_append (IsFitRow z) (without (on l s) k rows) (now ∷ []) (each_without (IsFitRow z) (on l s) k rows g) (h, tt)
rows_fit z (Remove l s k was) rows h g = each_without (IsFitRow z) (on l s) k rows g
rows_fit z (Enter now) rows h g = each_append (IsFitRow z) rows (now ∷ []) g (h, tt)
rows_fit z (SetFrontSince l t) rows h g = each_with_first (IsFitRow z) (on l Buffer) (at_second t) (second_fit z t) rows g
rows_fit z _ rows h g = g

abbrev IsFitHole : Counts → Hole → Type 0
IsFitHole z x = x.link < z.links

holes_fit : (z : Counts) (m : Move) (hs : List Hole) → IsFitChange z m → Each (IsFitHole z) hs → Each (IsFitHole z) (holes_after m hs)
holes_fit z (LeaveHole l t) hs h g = each_append (IsFitHole z) hs _ g (h, tt)
holes_fit z _ hs h g = g

-- PERSONS
ends_fit : (z : Counts) (S : Setup) (t i element : ℕ) (o : Option ℕ) → IsFitSetup z S → i < z.persons → (act_at S i element).end ≡ o → IsFitPlace z i element (At (ends_at o t))
ends_fit z S t i element None f lt e = tt
ends_fit z S t i element (Some planned) f lt e = f.ends i element planned lt e

start_fit : (z : Counts) (S : Setup) (t i : ℕ) (P : Person) (pl : Place) → IsFitSetup z S → i < z.persons → IsFitPerson z i P → IsFitPerson z i (start_act S t i P pl)
start_fit z S t i P (Waiting stop since) f lt h = h
start_fit z S t i P _ f lt h = ends_fit z S t i (P.element + 1) _ f lt refl

ride_fit : (z : Counts) (i : ℕ) (o : Option VehicleId) (P : Person) → IsFitPerson z i P → IsFitPerson z i (ride o P)
ride_fit z i None P h = h
ride_fit z i (Some v) P h = tt

wait_fit : (z : Counts) (t i : ℕ) (m : More) (P : Person) → IsFitMore z m → IsFitPerson z i P → IsFitPerson z i (wait_at m t P)
wait_fit z t i (more.Stop stop) P g h = g
wait_fit z t i _ P g h = h

lose_fit : (z : Counts) (i : ℕ) (o : Option ℕ) (P : Person) → IsFitPerson z i P → IsFitPerson z i (lose o P)
lose_fit z i None P h = h
lose_fit z i (Some l) P h = tt

word_fit : (z : Counts) (S : Setup) (t i : ℕ) (e : Occurrence) (w : Word) (P : Person) → IsFitSetup z S → i < z.persons → IsFitOccurrence z e → IsFitPerson z i P → IsFitPerson z i (person_by S t i e w P)
word_fit z S t i e word.Departure P f lt g h = tt
word_fit z S t i e word.WaitingForPt P f lt g h = wait_fit z t i e.more P g.more h
word_fit z S t i e word.PersonEntersVehicle P f lt g h = ride_fit z i e.vehicle P h
word_fit z S t i e word.ActStart P f lt g h = start_fit z S t i P P.place f lt h
word_fit z S t i e word.StuckAndAbort P f lt g h = lose_fit z i e.link P h
word_fit z S t i e _ P f lt g h = h

person_fit : (z : Counts) (S : Setup) (t i : ℕ) (e : Occurrence) (P : Person) → IsFitSetup z S → i < z.persons → IsFitOccurrence z e → IsFitPerson z i P → IsFitPerson z i (person_after S t i e P)
unfolding person_after
person_fit z S t i e P f lt g h = word_fit z S t i e e.word P f lt g h

abbrev ArePersons : Counts → List Person → Type 0
ArePersons z ps = (i : ℕ) → IsFitPerson z i (get_or ps i nobody)

set_here : (z : Counts) (ps : List Person) (j : ℕ) (P : Person) → ArePersons z ps → IsFitPerson z j P → IsFitPerson z j (get_or (set ps j P) j nobody)
set_here z ps j P h g =
    elim (cases_lt j (length ps)) [
      | inl lt ↦ rw (get_or-set_same ps j P nobody lt) g
      | inr ge ↦ rw (set_past ps j P ge) (h j)
    ]

set_fit : (z : Counts) (ps : List Person) (j : ℕ) (P : Person) → ArePersons z ps → IsFitPerson z j P → ArePersons z (set ps j P)
set_fit z ps j P h g i =
    elim (cases_eq j i) [
      | inl e ↦ subst (λ k. IsFitPerson z k (get_or (set ps j P) k nobody)) e (set_here z ps j P h g)
      | inr ne ↦ let other : i ≢ j = λ q. ne (sym q) in rw (get_or-set_other ps j i P nobody other) (h i)
    ]

by_fit : (z : Counts) (S : Setup) (t : ℕ) (e : Occurrence) (o : Option ℕ) (ps : List Person) → IsFitSetup z S → IsFitOccurrence z e → IsBelow z.persons o → ArePersons z ps → ArePersons z (persons_by S t e o ps)
by_fit z S t e None ps f g lt h = h
by_fit z S t e (Some j) ps f g lt h = set_fit z ps j _ h (person_fit z S t j e (get_or ps j nobody) f lt g (h j))

persons_fit : (z : Counts) (S : Setup) (t : ℕ) (es : List Occurrence) (ps : List Person) → IsFitSetup z S → AreFitOccurrences z es → ArePersons z ps → ArePersons z (persons_after S t es ps)
persons_fit z S t [] ps f g h = h
persons_fit z S t (e ∷ es) ps f g h = persons_fit z S t es (persons_by S t e e.person ps) f g.1 (by_fit z S t e e.person ps f g.0 g.0.person h)

-- WORLDS
done_fit : (z : Counts) (S : Setup) (t : ℕ) (m : Move) (W : World) → IsFitSetup z S → IsFitWorld z W → IsFitMove z m → IsFitWorld z (done S t m W)
done_fit z S t m W f h g =
    record {
      rows = All-from_recursion (IsFitRow z) (rows_after m W.rows) (rows_fit z m W.rows g.0 (recursion_from_All (IsFitRow z) W.rows h.rows));
      persons = persons_fit z S t (told m) W.persons f g.1 h.persons;
      one_each = persons-length S t (told m) W.persons ∙ h.one_each;
      credits = credits-run S t (m ∷ []) W ∙ h.credits;
      holes = All-from_recursion (IsFitHole z) (holes_after m W.holes) (holes_fit z m W.holes g.0 (recursion_from_All (IsFitHole z) W.holes h.holes));
    }

pub run_fit : (z : Counts) (S : Setup) (t : ℕ) (ms : List Move) (W : World) → IsFitSetup z S → IsFitWorld z W → AreFitMoves z ms → IsFitWorld z (run S t ms W)
run_fit z S t [] W f h g = h
run_fit z S t (m ∷ ms) W f h g = run_fit z S t ms (done S t m W) f (done_fit z S t m W f h g.0) g.1

-- moves that are fit where the world is are fit one after the other
pub along_fit : (z : Counts) (S : Setup) (t : ℕ) (ms : List Move) (W : World) → IsFitSetup z S → Along (λ V m. IsFitWorld z V → IsFitMove z m) S t ms W → IsFitWorld z W → AreFitMoves z ms
along_fit z S t [] W f a h = tt
along_fit z S t (m ∷ ms) W f a h = let g = a.0 h in (g, along_fit z S t ms (done S t m W) f a.1 (done_fit z S t m W f h g))
