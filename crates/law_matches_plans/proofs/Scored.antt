-- What a day tells of a person can be scored.
use Rattle.std.proofs.Common.{◌≡◌, ℕ, ◌+◌, ◌<◌, ◌≤◌, Bool, true, false, List, [], ◌∷◌, length, map, filter, get_or, take, drop, refl, sym, ap, ◌∙◌, subst, inl}
use Rattle.std.{proofs.Common.inr, proofs.Common.length-take, proofs.Common.arith, specs.List.AllByRecursion as Each, proofs.lemmas.Bool.cases_Bool}
use Rattle.std.proofs.lemmas.List.{take_more, take-append-drop, Elements.All-filter, Elements.All-get_or, Elements.All-from_recursion}
use Rattle.limits.specs.declared.TheConstants.{LAST_SECOND, MAX_LEGS}
use Rattle.events.specs.{Persons.of_person, Persons.own_events, Persons.is_step, declared.event.Event.Event, declared.event.More.More, declared.event.Word.Word}
use Rattle.events.specs.declared.event.Word.TheVariants as word
use Rattle.traffic.specs.{Day.day, Setup.Setup}
use Rattle.law_matches_plans.proofs.{Days.has_some_day, InTime.day_until}
use Rattle.law_matches_plans.specs.Trips.{Places, anywhere, legs, IsPlanned, Step, steps}
use Rattle.law_matches_plans.specs.Trips as trips
use Rattle.scoring.proofs.LawLemmas.{InTurn-front}
use Rattle.scoring.specs.{Taken.AllFollow, Turns.word_before, Turns.Follow, Turns.InTurn, Turns.tells, declared.TheConstants.MAX_EVENTS}
use Rattle.scoring.specs.Turns as turns

-- ---- the steps of trips

abbrev word_of : Step → Word
word_of x = x.0

-- whether a step tells what it is scored by
abbrev is_told : Step → Bool
is_told x = tells x.0 x.2

-- the words of trips come in turn
words_follow : (A : Places) (S : Setup) (i k : ℕ) (xs : List Step) → trips.InTurn A S i k xs → Follow word.ActStart (map word_of xs)
unfolding Follow
words_follow A S i k [] h = tt
words_follow A S i k (a ∷ b ∷ c ∷ []) h =
    let ends = h.0.1.0 in let departs = h.0.2.0 in let stuck = h.1.0 in
    (ap word_before ends, (ap word_before departs ∙ sym ends, (ap word_before stuck ∙ sym departs, tt)))
words_follow A S i k (a ∷ b ∷ c ∷ d ∷ xs) h =
    let ends = h.0.1.0 in let departs = h.0.2.0 in let arrives = h.1.0.0 in let starts = h.1.1.0 in
    let later : Follow d.0 (map word_of xs) = subst (λ (w : Word). Follow w (map word_of xs)) (sym starts) (words_follow A S i (k + 1) xs h.2) in
    (ap word_before ends, (ap word_before departs ∙ sym ends, (ap word_before arrives ∙ sym departs, (ap word_before starts ∙ sym arrives, later))))
words_follow A S i k _ h = absurd h

-- a departure tells a mode, the start of an activity a kind
steps_tell : (A : Places) (S : Setup) (i k : ℕ) (xs : List Step) → trips.InTurn A S i k xs → Each (λ (x : Step). is_told x ≡ true) xs
steps_tell A S i k [] h = tt
steps_tell A S i k (a ∷ b ∷ c ∷ []) h = (rw h.0.1.0, (rw (h.0.2.0, h.0.2.2), (rw h.1.0, tt)))
steps_tell A S i k (a ∷ b ∷ c ∷ d ∷ xs) h =
    (rw h.0.1.0, (rw (h.0.2.0, h.0.2.2), (rw h.1.0.0, (rw (h.1.1.0, h.1.1.2), steps_tell A S i (k + 1) xs h.2))))
steps_tell A S i k _ h = absurd h

-- ---- the events that they are steps of

abbrev step_of : Event → Step
step_of e = (e.word, e.link, e.more)

abbrev is_event_step : Event → Bool
is_event_step e = is_step e.word

words_are : (es : List Event) → turns.steps es ≡ map word_of (map step_of (filter is_event_step es))
words_are [] = refl
words_are (e ∷ es) = grind (arith, words_are es)

-- an event that is no step tells all that it is scored by
quiet : (w : Word) (m : More) → is_step w ≡ false → tells w m ≡ true
quiet word.Departure m other = cc
quiet word.ActStart m other = cc
quiet _ m other = refl

events_tell : (es : List Event) → Each (λ (x : Step). is_told x ≡ true) (map step_of (filter is_event_step es))
    → Each (λ (e : Event). tells e.word e.more ≡ true) es
events_tell [] h = tt
events_tell (e ∷ es) h = elim (cases_Bool (is_step e.word)) [
  | inl step ↦ (let g = rw step at h in (g.0, events_tell es g.1))
  | inr other ↦ (quiet e.word e.more other, events_tell es (rw other at h))
]

-- ---- the events of a person

abbrev InTime : ℕ → Event → Type 0
InTime end e = e.key.second ≤ end

-- a person's events follow one another
pub can_be_scored : (A : Places) (S : Setup) (i : ℕ) → trips.InTurn A S i 0 (steps i (day S)) → length (own_events i (day S)) ≤ MAX_EVENTS
    → S.settings.end_second ≤ LAST_SECOND → AllFollow (own_events i (day S))
unfolding steps
can_be_scored A S i turn few end = λ k here d.
    let own = own_events i (day S) in
    let in_time = All-filter (of_person i) (InTime S.settings.end_second) (day S) (day_until S) in
    let second : (get_or own k d).key.second ≤ S.settings.end_second = All-get_or (InTime S.settings.end_second) own k d here in_time in
    let whole : InTurn own = subst (Follow word.ActStart) (sym (words_are own)) (words_follow A S i 0 (steps i (day S)) turn) in
    let front : InTurn (take (k + 1) own) =
    InTurn-front (take (k + 1) own) (drop (k + 1) own) (subst InTurn (sym (take-append-drop (k + 1) own)) whole) in
    let told = All-from_recursion (λ (e : Event). tells e.word e.more ≡ true) own (events_tell own (steps_tell A S i 0 (steps i (day S)) turn)) in
    record {
      few = omega (arith, length-take k own);
      in_day = omega arith;
      in_turn = subst InTurn (take_more own k d here) front;
      told = All-get_or (λ (e : Event). tells e.word e.more ≡ true) own k d here told;
    }

pub planned_day : (S : Setup) (i : ℕ) → IsPlanned S i → i < length S.persons → legs S i ≤ MAX_LEGS → S.settings.end_second ≤ LAST_SECOND
    → AllFollow (own_events i (day S))
planned_day S i planned there few end =
    let d = has_some_day S i planned there in
    can_be_scored anywhere S i d.0 (omega arith) end
