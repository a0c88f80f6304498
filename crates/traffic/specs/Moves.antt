-- Moves: what happens in a second, as data, and what they do to the world.
use Rattle.std.specs.Prelude.{ℕ, ◌+◌, max, Bool, false, ◌&&◌, ◌||◌, List, [], ◌∷◌, ◌++◌, get_or, set, ◌==◌, if◌then◌else◌, Option, None, Some}
use Rattle.events.specs.declared.event.{More.More, VehicleId.VehicleId, Word.Word}
use Rattle.events.specs.declared.event.Word.TheVariants as word
use Rattle.events.specs.declared.event.More.TheVariants as more
use Rattle.traffic.specs.declared.stage.Stage.{Stage, TheVariants.Buffer}
pub use Rattle.traffic.specs.declared.moves.Move.{Move}
pub use Rattle.traffic.specs.declared.moves.Move.TheVariants.{Transfer, Remove, Enter, SetFrontSince, Credit, LeaveHole, Report}
use Rattle.traffic.specs.Lists.{without, without_at, with_first, on_front}
use Rattle.traffic.specs.Rows.{rank, on, Row, Hole, Place, At, Teleporting, Waiting, Riding, Aborted, Person, World, nobody}
use Rattle.traffic.specs.{Setup.Setup, Setup.act_at, Telling.Occurrence, Telling.told_transfer, Telling.told_removal, Telling.told_entering}

-- the row with this second
abbrev pub at_second : ℕ → Row → Row
at_second t r = record r { second = t }

-- what a move tells
abbrev pub told : Move → List Occurrence
told (Transfer l s k was now) = told_transfer s was now
told (Remove l s k was) = told_removal s was
told (Enter now) = told_entering now.vehicle.id now.link now.vehicle.line
told (SetFrontSince l t) = []
told (Credit l c) = []
told (LeaveHole l t) = []
told (Report says) = says

-- an activity begun in second t ends as planned, but not before the next second; the last one never ends
abbrev pub ends_at : Option ℕ → ℕ → Option ℕ
ends_at None t = None
ends_at (Some planned) t = Some (max planned (t + 1))

-- the leg of a person begins
abbrev pub leave : ℕ → Person → Person
leave t P = record { element = P.element + 1; place = Teleporting t }

-- the leg of a person ends, and the next activity begins
abbrev pub arrive : Setup → ℕ → ℕ → Person → Person
arrive S t i P = record { element = P.element + 1; place = At (ends_at (act_at S i (P.element + 1)).end t) }

-- the next activity begins; a person who waits at a stop has none to begin, and in a day there is no such event
abbrev pub start_act : Setup → ℕ → ℕ → Person → Place → Person
start_act S t i P (Waiting stop since) = P
start_act S t i P _ = arrive S t i P

abbrev pub ride : Option VehicleId → Person → Person
ride None P = P
ride (Some v) P = record P { place = Riding v }

abbrev pub wait_at : More → ℕ → Person → Person
wait_at (more.Stop stop) t P = record P { place = Waiting stop t }
wait_at _ t P = P

abbrev pub lose : Option ℕ → Person → Person
lose None P = P
lose (Some l) P = record P { place = Aborted l }

-- What an event of person i in second t, of this word, makes of his row: with a departure he is under way, and the next event tells
-- where if the leg is not teleported; from then on he is in a vehicle, at a stop, at his next activity, or removed.
abbrev pub person_by : Setup → ℕ → ℕ → Occurrence → Word → Person → Person
person_by S t i e word.Departure P = leave t P
person_by S t i e word.WaitingForPt P = wait_at e.more t P
person_by S t i e word.PersonEntersVehicle P = ride e.vehicle P
person_by S t i e word.ActStart P = start_act S t i P P.place
person_by S t i e word.StuckAndAbort P = lose e.link P
person_by S t i e _ P = P

unfoldable pub person_after : Setup → ℕ → ℕ → Occurrence → Person → Person
person_after S t i e P = person_by S t i e e.word P

-- of the rows of all persons an event changes that of its person alone
abbrev pub persons_by : Setup → ℕ → Occurrence → Option ℕ → List Person → List Person
persons_by S t e None ps = ps
persons_by S t e (Some i) ps = set ps i (person_after S t i e (get_or ps i nobody))

abbrev pub persons_after : Setup → ℕ → List Occurrence → List Person → List Person
persons_after S t [] ps = ps
persons_after S t (e ∷ es) ps = persons_after S t es (persons_by S t e e.person ps)

-- what a move does to the rows of vehicles, to credits and to holes
abbrev pub rows_after : Move → List Row → List Row
rows_after (Transfer l s k was now) rows = without (on l s) k rows ++ now ∷ []
rows_after (Remove l s k was) rows = without (on l s) k rows
rows_after (Enter now) rows = rows ++ now ∷ []
rows_after (SetFrontSince l t) rows = with_first (on l Buffer) (at_second t) rows
rows_after _ rows = rows

abbrev pub credits_after : Move → List ℕ → List ℕ
credits_after (Credit l c) cs = set cs l c
credits_after _ cs = cs

abbrev pub holes_after : Move → List Hole → List Hole
holes_after (LeaveHole l t) hs = hs ++ record { link = l; second = t } ∷ []
holes_after _ hs = hs

-- the world after a move of second t
abbrev pub done : Setup → ℕ → Move → World → World
done S t m W =
    record {
      rows = rows_after m W.rows;
      persons = persons_after S t (told m) W.persons;
      credits = credits_after m W.credits;
      holes = holes_after m W.holes;
    }

-- the world after these moves, one after the other
abbrev pub run : Setup → ℕ → List Move → World → World
run S t [] W = W
run S t (m ∷ ms) W = run S t ms (done S t m W)

-- whether these are one place
abbrev pub same : ℕ → Stage → ℕ → Stage → Bool
same l s a z = (rank z == rank s) && (a == l)

-- what a move does to the rows of link l at stage s, whatever the others are
abbrev pub at_after : ℕ → Stage → Move → List Row → List Row
at_after l s (Transfer a z k was now) xs =
    (if same l s a z then without_at k xs else xs) ++ (if on l s now then now ∷ [] else [])
at_after l s (Remove a z k was) xs = if same l s a z then without_at k xs else xs
at_after l s (Enter now) xs = xs ++ (if on l s now then now ∷ [] else [])
at_after l s (SetFrontSince a t) xs = if same l s a Buffer then on_front (at_second t) xs else xs
at_after l s _ xs = xs

-- what it does to the credit and to the holes of link l
abbrev pub credit_after : ℕ → Move → ℕ → ℕ
credit_after l (Credit a c') c = if a == l then c' else c
credit_after l _ c = c

abbrev pub hole_after : ℕ → Move → List ℕ → List ℕ
hole_after l (LeaveHole a t) hs = if a == l then hs ++ t ∷ [] else hs
hole_after l _ hs = hs

-- what an event does to the row of person i
abbrev pub told_of : Setup → ℕ → ℕ → Occurrence → Option ℕ → Person → Person
told_of S t i e None P = P
told_of S t i e (Some j) P = if j == i then person_after S t i e P else P

abbrev pub person_after_all : Setup → ℕ → ℕ → List Occurrence → Person → Person
person_after_all S t i [] P = P
person_after_all S t i (e ∷ es) P = person_after_all S t i es (told_of S t i e e.person P)

-- the same for moves one after the other
abbrev pub at_after_all : ℕ → Stage → List Move → List Row → List Row
at_after_all l s [] xs = xs
at_after_all l s (m ∷ ms) xs = at_after_all l s ms (at_after l s m xs)

abbrev pub hole_after_all : ℕ → List Move → List ℕ → List ℕ
hole_after_all l [] hs = hs
hole_after_all l (m ∷ ms) hs = hole_after_all l ms (hole_after l m hs)

abbrev pub credit_after_all : ℕ → List Move → ℕ → ℕ
credit_after_all l [] c = c
credit_after_all l (m ∷ ms) c = credit_after_all l ms (credit_after l m c)

-- whether a move may change the rows of link l at stage s
abbrev pub touches : ℕ → Stage → Move → Bool
touches l s (Transfer a z k was now) = same l s a z || on l s now
touches l s (Remove a z k was) = same l s a z
touches l s (Enter now) = on l s now
touches l s (SetFrontSince a t) = same l s a Buffer
touches l s _ = false
