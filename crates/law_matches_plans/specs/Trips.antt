-- What a day tells of one person: the events of his trips, and of all that he does.
use Rattle.std.specs.Prelude.{◌≡◌, ◌<◌, ◌≤◌, ℕ, ◌+◌, List, [], ◌∷◌, length, map, filter, get_or, Option, None, Some}
use Rattle.events.specs.{Persons.is_step, Persons.own_events, declared.event.Event.Event, declared.event.More.More, declared.event.Word.Word}
use Rattle.events.specs.declared.event.More.TheVariants as more
use Rattle.events.specs.declared.event.Word.TheVariants as word
use Rattle.rows.specs.{Plan.mode_of_leg, declared.plan.Act.Act, declared.plan.Leg.Leg, declared.plan.Leg.TheVariants.Car}
use Rattle.traffic.specs.Setup.{Setup, person_plan}

-- activity k of a person's plan
abbrev pub act : Setup → ℕ → ℕ → Act
act S i k = get_or (person_plan S i).acts k (record { kind = 0; link = 0; end = None })

-- the leg that comes after activity k
abbrev pub leg : Setup → ℕ → ℕ → Leg
leg S i k = get_or (person_plan S i).legs k (Car [])

-- how many legs the plan has
abbrev pub legs : Setup → ℕ → ℕ
legs S i = length (person_plan S i).legs

-- no activity of a person's plan ends but one that a leg comes after
pub record IsPlanned (S : Setup) (i : ℕ) : Type 0 where
  pub last : (k : ℕ) → legs S i ≤ k → (act S i k).end ≡ None

-- a word, the link that it names, and what more it tells
abbrev pub Step : Type 0
Step = Word × Option ℕ × More

-- the steps of a person's trips, in the order of these events
unfoldable pub steps : ℕ → List Event → List Step
steps i es = map (λ (e : Event). (e.word, e.link, e.more)) (filter (λ (e : Event). is_step e.word) (own_events i es))

-- which links an event of activity k may name: any, or that of the activity alone
abbrev pub Places : Type 1
Places = ℕ → Option ℕ → Type 0

abbrev pub anywhere : Places
anywhere k link = Unit {0}

abbrev pub at_activities : Setup → ℕ → Places
at_activities S i k link = link ≡ Some (act S i k).link

-- this word, at activity k, with this more
abbrev pub Says : Places → ℕ → Word → More → Step → Type 0
Says places k w m a = (a.0 ≡ w) × places k a.1 × (a.2 ≡ m)

-- activity k ends, of its kind, and leg k of the plan departs there, by its mode
abbrev pub Departs : Places → Setup → ℕ → ℕ → Step → Step → Type 0
Departs places S i k a b =
    (k < legs S i)
    × Says places k word.ActEnd (more.Kind (act S i k).kind) a
    × Says places k word.Departure (more.Mode (mode_of_leg (leg S i k))) b

-- leg k arrives at the activity after it, by its mode, and that activity starts, of its kind
abbrev pub Arrives : Places → Setup → ℕ → ℕ → Step → Step → Type 0
Arrives places S i k a b =
    Says places (k + 1) word.Arrival (more.Mode (mode_of_leg (leg S i k))) a
    × Says places (k + 1) word.ActStart (more.Kind (act S i (k + 1)).kind) b

-- leg k is stuck, wherever that is, by its mode
abbrev pub IsStuck : Setup → ℕ → ℕ → Step → Type 0
IsStuck S i k a = Says anywhere k word.StuckAndAbort (more.Mode (mode_of_leg (leg S i k))) a

-- The steps from leg k of the plan on come in turn, at these places: leg by leg an activity ends and the leg departs; then it arrives and
-- the next activity starts, and the later legs follow; or it is stuck, and nothing follows.
abbrev pub InTurn : Places → Setup → ℕ → ℕ → List Step → Type 0
InTurn places S i k [] = Unit {0}
InTurn places S i k (a ∷ b ∷ c ∷ []) = Departs places S i k a b × IsStuck S i k c
InTurn places S i k (a ∷ b ∷ c ∷ d ∷ es) = Departs places S i k a b × Arrives places S i k c d × InTurn places S i (k + 1) es
InTurn places S i k _ = ⊥
