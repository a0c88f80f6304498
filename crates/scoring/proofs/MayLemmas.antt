-- A scorer knows which event may come next.
use Rattle.std.proofs.Common.{◌≡◌, ℕ, ◌<◌, ◌≤◌, true, cond, IsTrue, ◌↔◌, inl, inr, List, [], ◌∷◌, ◌++◌, length, refl, sym, ap, ◌∙◌, subst, append-nil}
use Rattle.std.proofs.{Common.length-take, Common.arith, lemmas.Bool.cases_Bool}
use Rattle.limits.specs.declared.TheConstants.{LAST_SECOND}
use Rattle.events.specs.{Persons.is_step, declared.event.Event.Event, declared.event.More.More, declared.event.Word.Word}
use Rattle.events.specs.declared.event.More.TheVariants as more
use Rattle.events.specs.declared.event.Word.TheVariants as word
use Rattle.scoring.{proofs.Shown.added, proofs.Taking.comes, specs.Steps.is_next, specs.Tables.ScoringRows}
use Rattle.scoring.specs.{Taken.MayFollow, Taken.AllFollow, Taken.last_of, Taken.last_step, Taken.word_of, Taken.IsTakenBy, Turns.steps, Turns.word_before}
use Rattle.scoring.specs.{Turns.Follow, Turns.InTurn, Turns.tells, declared.TheConstants.MAX_EVENTS, declared.scorer.Doing.Doing, declared.scorer.Scorer.Scorer}
use Rattle.scoring.specs.declared.scorer.Doing.TheVariants as doing

-- what comes next comes right behind what the person is doing, and tells what it is scored by
next_before : (w : Word) (m : More) (d : Doing) → is_next w m d ≡ true → is_step w ≡ true → word_before w ≡ word_of d
next_before word.ActEnd m (doing.Activity kind since) h s = refl
next_before word.ActEnd m _ h s = cc
next_before word.Departure (more.Mode mode) doing.Leaving h s = refl
next_before word.Departure _ _ h s = cc
next_before word.Arrival m (doing.Leg mode since) h s = refl
next_before word.Arrival m _ h s = cc
next_before word.ActStart (more.Kind kind) doing.Arriving h s = refl
next_before word.ActStart _ _ h s = cc
next_before word.StuckAndAbort m (doing.Leg mode since) h s = refl
next_before word.StuckAndAbort m _ h s = cc
next_before _ m d h s = cc

next_tells : (w : Word) (m : More) (d : Doing) → is_next w m d ≡ true → tells w m ≡ true
next_tells word.Departure (more.Mode mode) d h = refl
next_tells word.Departure _ d h = cc
next_tells word.ActStart (more.Kind kind) d h = refl
next_tells word.ActStart _ d h = cc
next_tells _ m d h = refl

-- and what comes behind it and tells that comes next
is_next_by : (w : Word) (m : More) (d : Doing) → (is_step w ≡ true → word_of d ≡ word_before w) → tells w m ≡ true → is_next w m d ≡ true
is_next_by word.ActEnd m (doing.Activity kind since) behind told = refl
is_next_by word.ActEnd m _ behind told = absurd (let x = behind refl in cc)
is_next_by word.Departure (more.Mode mode) doing.Leaving behind told = refl
is_next_by word.Departure (more.Mode mode) _ behind told = absurd (let x = behind refl in cc)
is_next_by word.Departure _ _ behind told = cc
is_next_by word.Arrival m (doing.Leg mode since) behind told = refl
is_next_by word.Arrival m _ behind told = absurd (let x = behind refl in cc)
is_next_by word.ActStart (more.Kind kind) doing.Arriving behind told = refl
is_next_by word.ActStart (more.Kind kind) _ behind told = absurd (let x = behind refl in cc)
is_next_by word.ActStart _ _ behind told = cc
is_next_by word.StuckAndAbort m (doing.Leg mode since) behind told = refl
is_next_by word.StuckAndAbort m _ behind told = absurd (let x = behind refl in cc)
is_next_by _ m d behind told = refl

Follow-push : (b : Word) (ws : List Word) (w : Word) → Follow b ws → word_before w ≡ last_of b ws → Follow b (ws ++ w ∷ [])
unfolding Follow
Follow-push b [] w turn behind = (behind, tt)
Follow-push b (v ∷ ws) w turn behind = (turn.0, Follow-push v ws w turn.1 behind)

-- with an event that comes next events in turn stay so
turn_more : (es : List Event) (e : Event) → InTurn es → (is_step e.word ≡ true → word_before e.word ≡ last_step es) → InTurn (es ++ e ∷ [])
turn_more es e turn behind =
    elim (cases_Bool (is_step e.word)) [
      | inl counts ↦ (let now : steps (es ++ e ∷ []) ≡ steps es ++ e.word ∷ [] = (added es e).steps ∙ ap (λ b. steps es ++ cond b (e.word ∷ []) []) counts in
          subst (Follow word.ActStart) (sym now) (Follow-push word.ActStart (steps es) e.word turn (behind counts)))
      | inr other ↦ (let now : steps (es ++ e ∷ []) ≡ steps es = (added es e).steps ∙ ap (λ b. steps es ++ cond b (e.word ∷ []) []) other ∙ append-nil (steps es) in
          subst (Follow word.ActStart) (sym now) turn)
    ]

pub may_take : (T : ScoringRows) (s : Scorer) (es : List Event) (e : Event) → IsTakenBy T s es → length es < MAX_EVENTS → e.key.second ≤ LAST_SECOND
    → IsTrue (is_next e.word e.more s.doing) ↔ MayFollow es e
may_take T s es e H few in_day = (
  (λ next. record {
    few = few;
    in_day = in_day;
    in_turn = turn_more es e H.in_turn (λ counts. next_before e.word e.more s.doing next counts ∙ sym H.after);
    told = next_tells e.word e.more s.doing next;
  }),
  (λ F. is_next_by e.word e.more s.doing (λ counts. (comes T s es e e.word e.more H F refl refl counts).after) F.told),
)

-- events that each follow those before them are few
pub few_follow : (es : List Event) (i : ℕ) → i < length es → AllFollow es → i < MAX_EVENTS
few_follow [] i here all = absurd (omega arith)
few_follow (e ∷ es) i here all = let few = (all i here e).few in omega (arith, few, length-take i (e ∷ es))
