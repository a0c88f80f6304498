-- A scorer that takes an event stands for one event more.
use Rattle.std.proofs.Common.{◌≡◌, ◌≢◌, ℕ, ◌+◌, ◌-◌, ◌*◌, ◌≤◌, true, cond, List, [], ◌∷◌, ◌++◌, length, Option, None, Some, ℤ, pos, ◌+ℤ◌, ◌*ℤ◌, ◌≤ℤ◌, refl, sym}
use Rattle.std.proofs.Common.{ap, ◌∙◌, subst, arith, length-append}
use Rattle.std.{proofs.lemmas.Int.ints, proofs.lemmas.Option.none-some, specs.Option.ForSome}
use Rattle.limits.specs.declared.TheConstants.{LAST_SECOND}
use Rattle.events.specs.{Persons.is_step, declared.event.Event.Event, declared.event.Mode.Mode, declared.event.More.More, declared.event.Word.Word}
use Rattle.events.specs.declared.event.More.TheVariants as more
use Rattle.events.specs.declared.event.Word.TheVariants as word
use Rattle.scoring.proofs.{Bounds.product-within, Keeping.first-ends, Keeping.activity-ends, Keeping.leg-begins, Keeping.leg-ends, Keeping.activity-begins}
use Rattle.scoring.proofs.{Pairs.total-push, Shown.Show, Shown.Adds, Shown.adds, Shown.kept, Shown.keeps-shown, WorthLemmas.activity_worth-within}
use Rattle.scoring.{proofs.WorthLemmas.leg_worth-within, proofs.WorthLemmas.seconds_late-most, proofs.WorthLemmas.costs_are, specs.Ranges.IsWithin}
use Rattle.scoring.specs.Score.{Activity, Leg, starts, departures, act_ends, leg_ends, stuck_in, total}
use Rattle.scoring.specs.Steps.{with_activity_ended, with_leg_begun, with_leg_ended, with_activity_begun, with_event}
use Rattle.scoring.specs.Tables.{ScoringRows, scoring_rows, activity_worth, leg_worth, seconds_late}
use Rattle.scoring.specs.Taken.{first_kind_of, MayFollow, last_of, last_step, word_of, bound_of, settled, Keeps, IsTakenBy}
use Rattle.scoring.specs.{Turns.steps, Turns.word_before, Turns.Follow, Turns.tells, declared.TheConstants.MAX_LEG_WORTH}
use Rattle.scoring.specs.declared.{TheConstants.MAX_WORTH, scorer.Doing.Doing, scorer.Scorer.Scorer, table.Table.Table, tables.Tables.Tables}
use Rattle.scoring.specs.declared.scorer.Doing.TheVariants as doing

-- the word that comes last in turn is one before which the last but one comes
Follow-last : (b : Word) (ws : List Word) (w : Word) → Follow b (ws ++ w ∷ []) → word_before w ≡ last_of b ws
unfolding Follow
Follow-last b [] w turn = turn.0
Follow-last b (v ∷ ws) w turn = Follow-last v ws w turn.1

last_of-push : (b : Word) (ws : List Word) (w : Word) → last_of b (ws ++ w ∷ []) ≡ w
last_of-push b [] w = refl
last_of-push b (v ∷ ws) w = last_of-push v ws w

-- no word comes behind a stuck person
not_stuck : (w : Word) → is_step w ≡ true → word_before w ≢ word.StuckAndAbort
not_stuck word.ActEnd step e = cc
not_stuck word.Departure step e = cc
not_stuck word.Arrival step e = cc
not_stuck word.ActStart step e = cc
not_stuck word.StuckAndAbort step e = cc
not_stuck _ step e = cc

-- what is known of an event of one of the five words
pub record Comes (s : Scorer) (es : List Event) (e : Event) (w : Word) (m : More) : Type 0 where
  pub shown : Adds es e w m
  pub last : last_step (es ++ e ∷ []) ≡ w
  pub free : stuck_in es ≡ []
  pub after : word_of s.doing ≡ word_before w
  pub told : tells w m ≡ true

pub comes : (T : ScoringRows) (s : Scorer) (es : List Event) (e : Event) (w : Word) (m : More) → IsTakenBy T s es → MayFollow es e
    → e.word ≡ w → e.more ≡ m → is_step w ≡ true → Comes s es e w m
comes T s es e w m H F is with_more step =
    let shown : Adds es e w m = adds es e w m is with_more in
    let now : steps (es ++ e ∷ []) ≡ steps es ++ w ∷ [] = shown.steps ∙ ap (λ b. steps es ++ cond b (w ∷ []) []) step in
    let before : last_step es ≡ word_before w = sym (Follow-last word.ActStart (steps es) w (subst (Follow word.ActStart) now F.in_turn)) in
    record {
      shown = shown;
      last = ap (last_of word.ActStart) now ∙ last_of-push word.ActStart (steps es) w;
      free = H.free (λ stuck. not_stuck w step (sym before ∙ stuck));
      after = sym H.after ∙ before;
      told = subst (λ (v : Word). tells v m ≡ true) is (subst (λ (x : More). tells e.word x ≡ true) with_more F.told);
    }

-- a scorer that keeps what the events show with one event more stands for them
made : (T : ScoringRows) (s : Scorer) (es : List Event) (e : Event) (a : List Activity) (d : List Leg) (n m k : List ℕ) (w : List Word)
    → Show (es ++ e ∷ []) a d n m k w → MayFollow es e → Keeps T s a d n m k → last_step (es ++ e ∷ []) ≡ word_of s.doing
    → (last_step (es ++ e ∷ []) ≢ word.StuckAndAbort → k ≡ []) → length k ≤ 1 → ForSome s.first_end (λ second. second ≤ LAST_SECOND)
    → IsWithin (bound_of (length es + 1) (length k)) s.sum → IsTakenBy T s (es ++ e ∷ [])
made T s es e a d n m k w shown F K after free once left bound =
    let count : length (es ++ e ∷ []) ≡ length es + 1 = length-append es (e ∷ []) in
    record {
      few = omega (arith, F.few);
      in_turn = F.in_turn;
      after = after;
      free = λ h. shown.stuck ∙ free h;
      once = rw shown.stuck once;
      left_in_day = left;
      keeps = keeps-shown T s (es ++ e ∷ []) a d n m k w shown K;
      bound = subst (λ (c : ℕ). IsWithin (bound_of c (length (stuck_in (es ++ e ∷ [])))) s.sum) (sym count)
          (subst (λ (x : List ℕ). IsWithin (bound_of (length es + 1) (length x)) s.sum) (sym shown.stuck) bound);
    }

-- a sum within the bound of so many events is within that of one more, also with what one event adds
within_more : (c k : ℕ) (z v : ℤ) → IsWithin (bound_of c k) z → IsWithin (pos 1200000000000) v → IsWithin (bound_of (c + 1) k) (z +ℤ v)
within_more c k z v h g = let h0 = h.0 in let h1 = h.1 in let g0 = g.0 in let g1 = g.1 in (omega (arith, ints), omega (arith, ints))

within_same : (c k : ℕ) (z : ℤ) → IsWithin (bound_of c k) z → IsWithin (bound_of (c + 1) k) z
within_same c k z h = let h0 = h.0 in let h1 = h.1 in (omega (arith, ints), omega (arith, ints))

within_stuck : (c : ℕ) (z v u : ℤ) → IsWithin (bound_of c 0) z → IsWithin (pos 1200000000000) v → IsWithin MAX_WORTH u → IsWithin (bound_of (c + 1) 1) (z +ℤ (v +ℤ u))
within_stuck c z v u h g f =
    let h0 = h.0 in let h1 = h.1 in let g0 = g.0 in let g1 = g.1 in let f0 = f.0 in let f1 = f.1 in (omega (arith, ints), omega (arith, ints))

wider : (low high z : ℤ) → low ≤ℤ high → IsWithin low z → IsWithin high z
wider low high z h g = let g0 = g.0 in let g1 = g.1 in (omega (arith, ints), omega (arith, ints))

-- with no event of being stuck the bound is that of the number of events
bound_free : (T : ScoringRows) (s : Scorer) (es : List Event) → IsTakenBy T s es → stuck_in es ≡ [] → IsWithin (bound_of (length es) 0) s.sum
bound_free T s es H free = subst (λ (x : List ℕ). IsWithin (bound_of (length es) (length x)) s.sum) free H.bound

activity_ended : (T : Tables) (s : Scorer) (es : List Event) (e : Event) (d : Doing) (l : Option ℕ) → IsTakenBy (scoring_rows T) s es → MayFollow es e
    → Comes s es e word.ActEnd e.more → s.doing ≡ d → s.first_end ≡ l
    → IsTakenBy (scoring_rows T) (with_activity_ended T.tables s e.key.second d l) (es ++ e ∷ [])
activity_ended T s es e (doing.Activity kind since) None H F C is first =
    made (scoring_rows T) (record s { first_end = Some e.key.second; doing = doing.Leaving }) es e
    (starts es) (departures es) (act_ends es ++ e.key.second ∷ []) (leg_ends es) (stuck_in es) (steps es ++ word.ActEnd ∷ [])
    (record { starts = kept _ _ C.shown.starts; departures = kept _ _ C.shown.departures; act_ends = C.shown.act_ends; leg_ends = kept _ _ C.shown.leg_ends; stuck = kept _ _ C.shown.stuck; steps = C.shown.steps })
    F (first-ends (scoring_rows T) s (starts es) (departures es) (act_ends es) (leg_ends es) (stuck_in es) e.key.second kind since H.keeps is first)
    C.last (λ _. C.free) H.once (λ x second_is. let same : e.key.second ≡ x = cc in subst (λ (y : ℕ). y ≤ LAST_SECOND) same F.in_day)
    (within_same (length es) (length (stuck_in es)) s.sum H.bound)
activity_ended T s es e (doing.Activity kind since) (Some left) H F C is first =
    made (scoring_rows T) (record s { doing = doing.Leaving; sum = s.sum +ℤ activity_worth T.tables kind (e.key.second - since) }) es e
    (starts es) (departures es) (act_ends es ++ e.key.second ∷ []) (leg_ends es) (stuck_in es) (steps es ++ word.ActEnd ∷ [])
    (record { starts = kept _ _ C.shown.starts; departures = kept _ _ C.shown.departures; act_ends = C.shown.act_ends; leg_ends = kept _ _ C.shown.leg_ends; stuck = kept _ _ C.shown.stuck; steps = C.shown.steps })
    F (activity-ends (scoring_rows T) s (starts es) (departures es) (act_ends es) (leg_ends es) (stuck_in es) e.key.second kind since left H.keeps is first)
    C.last (λ _. C.free) H.once H.left_in_day
    (within_more (length es) (length (stuck_in es)) s.sum _ H.bound
    (wider MAX_WORTH (pos 1200000000000) _ (omega (arith, ints)) (activity_worth-within T.tables kind (e.key.second - since) T.tables_in)))
activity_ended T s es e doing.Leaving l H F C is first = absurd (let x : word_of doing.Leaving ≡ word.ActStart = sym (ap word_of is) ∙ C.after in cc)
activity_ended T s es e (doing.Leg mode since) l H F C is first = absurd (let x : word_of (doing.Leg mode since) ≡ word.ActStart = sym (ap word_of is) ∙ C.after in cc)
activity_ended T s es e doing.Arriving l H F C is first = absurd (let x : word_of doing.Arriving ≡ word.ActStart = sym (ap word_of is) ∙ C.after in cc)
activity_ended T s es e doing.Stuck l H F C is first = absurd (let x : word_of doing.Stuck ≡ word.ActStart = sym (ap word_of is) ∙ C.after in cc)

leg_begun : (T : ScoringRows) (s : Scorer) (es : List Event) (e : Event) (d : Doing) (m : More) → IsTakenBy T s es → MayFollow es e
    → Comes s es e word.Departure m → s.doing ≡ d → IsTakenBy T (with_leg_begun s e.key.second m) (es ++ e ∷ [])
leg_begun T s es e doing.Leaving (more.Mode mode) H F C is =
    made T (record s { doing = doing.Leg mode e.key.second }) es e
    (starts es) (departures es ++ (mode, e.key.second) ∷ []) (act_ends es) (leg_ends es) (stuck_in es) (steps es ++ word.Departure ∷ [])
    (record { starts = kept _ _ C.shown.starts; departures = C.shown.departures; act_ends = kept _ _ C.shown.act_ends; leg_ends = kept _ _ C.shown.leg_ends; stuck = kept _ _ C.shown.stuck; steps = C.shown.steps })
    F (leg-begins T s (starts es) (departures es) (act_ends es) (leg_ends es) (stuck_in es) e.key.second mode H.keeps is)
    C.last (λ _. C.free) H.once H.left_in_day
    (within_same (length es) (length (stuck_in es)) s.sum H.bound)
leg_begun T s es e doing.Leaving more.Nothing H F C is = absurd (let x = C.told in cc)
leg_begun T s es e doing.Leaving (more.Kind kind) H F C is = absurd (let x = C.told in cc)
leg_begun T s es e doing.Leaving (more.Seconds seconds) H F C is = absurd (let x = C.told in cc)
leg_begun T s es e doing.Leaving (more.Stop stop) H F C is = absurd (let x = C.told in cc)
leg_begun T s es e doing.Leaving (more.Line line) H F C is = absurd (let x = C.told in cc)
leg_begun T s es e (doing.Activity kind since) m H F C is = absurd (let x : word_of (doing.Activity kind since) ≡ word.ActEnd = sym (ap word_of is) ∙ C.after in cc)
leg_begun T s es e (doing.Leg mode since) m H F C is = absurd (let x : word_of (doing.Leg mode since) ≡ word.ActEnd = sym (ap word_of is) ∙ C.after in cc)
leg_begun T s es e doing.Arriving m H F C is = absurd (let x : word_of doing.Arriving ≡ word.ActEnd = sym (ap word_of is) ∙ C.after in cc)
leg_begun T s es e doing.Stuck m H F C is = absurd (let x : word_of doing.Stuck ≡ word.ActEnd = sym (ap word_of is) ∙ C.after in cc)

leg_short : (T : Tables) (mode : Mode) (t since : ℕ) → t ≤ LAST_SECOND → IsWithin MAX_LEG_WORTH (leg_worth T.modes mode (t - since))
leg_short T mode t since in_day = leg_worth-within T.modes mode (t - since) T.modes_in (omega arith)

leg_arrived : (T : Tables) (s : Scorer) (es : List Event) (e : Event) (d : Doing) → IsTakenBy (scoring_rows T) s es → MayFollow es e
    → Comes s es e word.Arrival e.more → s.doing ≡ d → IsTakenBy (scoring_rows T) (with_leg_ended (scoring_rows T) s e.key.second (pos 0) doing.Arriving d) (es ++ e ∷ [])
leg_arrived T s es e (doing.Leg mode since) H F C is =
    made (scoring_rows T) (record s { doing = doing.Arriving; sum = s.sum +ℤ (leg_worth T.modes mode (e.key.second - since) +ℤ pos 0) }) es e
    (starts es) (departures es) (act_ends es) (leg_ends es ++ e.key.second ∷ []) (stuck_in es) (steps es ++ word.Arrival ∷ [])
    (record { starts = kept _ _ C.shown.starts; departures = kept _ _ C.shown.departures; act_ends = kept _ _ C.shown.act_ends; leg_ends = C.shown.leg_ends; stuck = kept _ _ C.shown.stuck; steps = C.shown.steps })
    F (leg-ends (scoring_rows T) s (starts es) (departures es) (act_ends es) (leg_ends es) (stuck_in es) (stuck_in es) e.key.second since mode (pos 0) doing.Arriving H.keeps is (omega (arith, ints)) refl refl)
    C.last (λ _. C.free) H.once H.left_in_day
    (within_more (length es) (length (stuck_in es)) s.sum _ H.bound (let g = leg_short T mode e.key.second since F.in_day in let g0 = g.0 in let g1 = g.1 in (omega (arith, ints), omega (arith, ints))))
leg_arrived T s es e (doing.Activity kind since) H F C is = absurd (let x : word_of (doing.Activity kind since) ≡ word.Departure = sym (ap word_of is) ∙ C.after in cc)
leg_arrived T s es e doing.Leaving H F C is = absurd (let x : word_of doing.Leaving ≡ word.Departure = sym (ap word_of is) ∙ C.after in cc)
leg_arrived T s es e doing.Arriving H F C is = absurd (let x : word_of doing.Arriving ≡ word.Departure = sym (ap word_of is) ∙ C.after in cc)
leg_arrived T s es e doing.Stuck H F C is = absurd (let x : word_of doing.Stuck ≡ word.Departure = sym (ap word_of is) ∙ C.after in cc)

got_stuck_once : (k : List ℕ) (t : ℕ) → k ≡ [] → length (k ++ t ∷ []) ≡ 1
got_stuck_once k t free = rw free

person_stuck : (T : Tables) (s : Scorer) (es : List Event) (e : Event) (d : Doing) → IsTakenBy (scoring_rows T) s es → MayFollow es e
    → Comes s es e word.StuckAndAbort e.more → s.doing ≡ d → IsTakenBy (scoring_rows T) (with_leg_ended (scoring_rows T) s e.key.second T.stuck doing.Stuck d) (es ++ e ∷ [])
person_stuck T s es e (doing.Leg mode since) H F C is =
    let one : length (stuck_in es ++ e.key.second ∷ []) ≡ 1 = got_stuck_once (stuck_in es) e.key.second C.free in
    let costs = costs_are T.late_per_second T.stuck T.costs_in in
    made (scoring_rows T) (record s { doing = doing.Stuck; sum = s.sum +ℤ (leg_worth T.modes mode (e.key.second - since) +ℤ T.stuck) }) es e
    (starts es) (departures es) (act_ends es) (leg_ends es ++ e.key.second ∷ []) (stuck_in es ++ e.key.second ∷ []) (steps es ++ word.StuckAndAbort ∷ [])
    (record { starts = kept _ _ C.shown.starts; departures = kept _ _ C.shown.departures; act_ends = kept _ _ C.shown.act_ends; leg_ends = C.shown.leg_ends; stuck = C.shown.stuck; steps = C.shown.steps })
    F (leg-ends (scoring_rows T) s (starts es) (departures es) (act_ends es) (leg_ends es) (stuck_in es) (stuck_in es ++ e.key.second ∷ []) e.key.second since mode T.stuck doing.Stuck H.keeps is
    (total-push (λ _. T.stuck) (stuck_in es) e.key.second) refl refl)
    C.last (λ other. absurd (other C.last)) (omega arith) H.left_in_day
    (subst (λ (j : ℕ). IsWithin (bound_of (length es + 1) j) (s.sum +ℤ (leg_worth T.modes mode (e.key.second - since) +ℤ T.stuck))) (sym one)
    (within_stuck (length es) s.sum _ T.stuck (bound_free (scoring_rows T) s es H C.free)
    (wider MAX_LEG_WORTH (pos 1200000000000) _ (omega (arith, ints)) (leg_short T mode e.key.second since F.in_day))
    (costs.stuck_low, (let high = costs.stuck_high in omega (arith, ints)))))
person_stuck T s es e (doing.Activity kind since) H F C is = absurd (let x : word_of (doing.Activity kind since) ≡ word.Departure = sym (ap word_of is) ∙ C.after in cc)
person_stuck T s es e doing.Leaving H F C is = absurd (let x : word_of doing.Leaving ≡ word.Departure = sym (ap word_of is) ∙ C.after in cc)
person_stuck T s es e doing.Arriving H F C is = absurd (let x : word_of doing.Arriving ≡ word.Departure = sym (ap word_of is) ∙ C.after in cc)
person_stuck T s es e doing.Stuck H F C is = absurd (let x : word_of doing.Stuck ≡ word.Departure = sym (ap word_of is) ∙ C.after in cc)

late_little : (T : Tables) (kind t : ℕ) → t ≤ LAST_SECOND → IsWithin (pos 1200000000000) (T.late_per_second *ℤ pos (seconds_late T.tables kind t))
late_little T kind t in_day =
    let costs = costs_are T.late_per_second T.stuck T.costs_in in let low = costs.late_low in let high = costs.late_high in
    let few : seconds_late T.tables kind t ≤ LAST_SECOND = omega (arith, seconds_late-most T.tables kind t) in
    wider (pos 172800000000) (pos 1200000000000) _ (omega (arith, ints)) (product-within T.late_per_second (seconds_late T.tables kind t) 1000000 LAST_SECOND (low, omega (arith, ints)) few)

activity_begun : (T : Tables) (s : Scorer) (es : List Event) (e : Event) (d : Doing) (m : More) → IsTakenBy (scoring_rows T) s es → MayFollow es e
    → Comes s es e word.ActStart m → s.doing ≡ d → IsTakenBy (scoring_rows T) (with_activity_begun (scoring_rows T) s e.key.second m) (es ++ e ∷ [])
activity_begun T s es e doing.Arriving (more.Kind kind) H F C is =
    made (scoring_rows T) (record s { doing = doing.Activity kind e.key.second; sum = s.sum +ℤ T.late_per_second *ℤ pos (seconds_late T.tables kind e.key.second) }) es e
    (starts es ++ (kind, e.key.second) ∷ []) (departures es) (act_ends es) (leg_ends es) (stuck_in es) (steps es ++ word.ActStart ∷ [])
    (record { starts = C.shown.starts; departures = kept _ _ C.shown.departures; act_ends = kept _ _ C.shown.act_ends; leg_ends = kept _ _ C.shown.leg_ends; stuck = kept _ _ C.shown.stuck; steps = C.shown.steps })
    F (activity-begins (scoring_rows T) s (starts es) (departures es) (act_ends es) (leg_ends es) (stuck_in es) e.key.second kind H.keeps is)
    C.last (λ _. C.free) H.once H.left_in_day
    (within_more (length es) (length (stuck_in es)) s.sum _ H.bound (late_little T kind e.key.second F.in_day))
activity_begun T s es e doing.Arriving more.Nothing H F C is = absurd (let x = C.told in cc)
activity_begun T s es e doing.Arriving (more.Mode mode) H F C is = absurd (let x = C.told in cc)
activity_begun T s es e doing.Arriving (more.Seconds seconds) H F C is = absurd (let x = C.told in cc)
activity_begun T s es e doing.Arriving (more.Stop stop) H F C is = absurd (let x = C.told in cc)
activity_begun T s es e doing.Arriving (more.Line line) H F C is = absurd (let x = C.told in cc)
activity_begun T s es e (doing.Activity kind since) m H F C is = absurd (let x : word_of (doing.Activity kind since) ≡ word.Arrival = sym (ap word_of is) ∙ C.after in cc)
activity_begun T s es e doing.Leaving m H F C is = absurd (let x : word_of doing.Leaving ≡ word.Arrival = sym (ap word_of is) ∙ C.after in cc)
activity_begun T s es e (doing.Leg mode since) m H F C is = absurd (let x : word_of (doing.Leg mode since) ≡ word.Arrival = sym (ap word_of is) ∙ C.after in cc)
activity_begun T s es e doing.Stuck m H F C is = absurd (let x : word_of doing.Stuck ≡ word.Arrival = sym (ap word_of is) ∙ C.after in cc)

-- an event of another word shows nothing
quiet : (T : ScoringRows) (s : Scorer) (es : List Event) (e : Event) → IsTakenBy T s es → MayFollow es e
    → Show (es ++ e ∷ []) (starts es ++ []) (departures es ++ []) (act_ends es ++ []) (leg_ends es ++ []) (stuck_in es ++ []) (steps es ++ [])
    → IsTakenBy T s (es ++ e ∷ [])
quiet T s es e H F shown =
    let same : steps (es ++ e ∷ []) ≡ steps es = kept _ _ shown.steps in
    let last : last_step es ≡ last_step (es ++ e ∷ []) = ap (last_of word.ActStart) (sym same) in
    made T s es e (starts es) (departures es) (act_ends es) (leg_ends es) (stuck_in es) (steps es)
    (record { starts = kept _ _ shown.starts; departures = kept _ _ shown.departures; act_ends = kept _ _ shown.act_ends; leg_ends = kept _ _ shown.leg_ends; stuck = kept _ _ shown.stuck; steps = same })
    F H.keeps (sym last ∙ H.after) (λ other. H.free (λ stuck. other (sym last ∙ stuck))) H.once H.left_in_day
    (within_same (length es) (length (stuck_in es)) s.sum H.bound)

taken_as : (T : Tables) (s : Scorer) (es : List Event) (e : Event) (w : Word) (m : More) → IsTakenBy (scoring_rows T) s es → MayFollow es e
    → e.word ≡ w → e.more ≡ m → IsTakenBy (scoring_rows T) (with_event (scoring_rows T) s w m e.key.second) (es ++ e ∷ [])
taken_as T s es e word.ActEnd m H F is with_more = activity_ended T s es e s.doing s.first_end H F (comes (scoring_rows T) s es e word.ActEnd e.more H F is refl refl) refl refl
taken_as T s es e word.Departure m H F is with_more = leg_begun (scoring_rows T) s es e s.doing m H F (comes (scoring_rows T) s es e word.Departure m H F is with_more refl) refl
taken_as T s es e word.Arrival m H F is with_more = leg_arrived T s es e s.doing H F (comes (scoring_rows T) s es e word.Arrival e.more H F is refl refl) refl
taken_as T s es e word.ActStart m H F is with_more = activity_begun T s es e s.doing m H F (comes (scoring_rows T) s es e word.ActStart m H F is with_more refl) refl
taken_as T s es e word.StuckAndAbort m H F is with_more = person_stuck T s es e s.doing H F (comes (scoring_rows T) s es e word.StuckAndAbort e.more H F is refl refl) refl
taken_as T s es e w m H F is with_more = quiet (scoring_rows T) s es e H F (adds es e w m is with_more)

-- the scorer behind an event stands for the events and this one
pub taken_more : (T : Tables) (s : Scorer) (es : List Event) (e : Event) → IsTakenBy (scoring_rows T) s es → MayFollow es e
    → IsTakenBy (scoring_rows T) (with_event (scoring_rows T) s e.word e.more e.key.second) (es ++ e ∷ [])
taken_more T s es e H F = taken_as T s es e e.word e.more H F refl refl

-- what has been summed up so far is within the limit of a score, with room for what comes at the end
pub sum_small : (T : ScoringRows) (s : Scorer) (es : List Event) → IsTakenBy T s es → IsWithin (pos 78000000000000) s.sum
sum_small T s es H =
    let h = H.bound in let h0 = h.0 in let h1 = h.1 in
    let f : length es ≤ 64 = H.few in let o : length (stuck_in es) ≤ 1 = H.once in
    (omega (arith, ints), omega (arith, ints))

-- a new scorer stands for no event
pub none_taken : (T : ScoringRows) (f : ℕ) → IsTakenBy T (record { first_kind = f; first_end = None; doing = doing.Activity f 0; sum = pos 0 }) []
unfolding Follow starts departures act_ends leg_ends stuck_in settled total
none_taken T f = record {
  few = omega arith;
  in_turn = tt;
  after = refl;
  free = λ _. refl;
  once = omega arith;
  left_in_day = λ x none. absurd (none-some x none);
  keeps = record { left = refl; activity = refl; activities = refl; leg = refl; legs = refl; sum = refl };
  bound = (omega (arith, ints), omega (arith, ints));
}

-- no event changes what the kind of the first activity is
ended_kind : (ts : List Table) (s : Scorer) (t : ℕ) (d : Doing) (l : Option ℕ) → first_kind_of (with_activity_ended ts s t d l) ≡ first_kind_of s
ended_kind ts s t (doing.Activity kind since) None = refl
ended_kind ts s t (doing.Activity kind since) (Some left) = refl
ended_kind ts s t _ l = refl

leg_begun_kind : (s : Scorer) (t : ℕ) (m : More) → first_kind_of (with_leg_begun s t m) ≡ first_kind_of s
leg_begun_kind s t (more.Mode mode) = refl
leg_begun_kind s t _ = refl

leg_ended_kind : (T : ScoringRows) (s : Scorer) (t : ℕ) (paid : ℤ) (next d : Doing) → first_kind_of (with_leg_ended T s t paid next d) ≡ first_kind_of s
leg_ended_kind T s t paid next (doing.Leg mode since) = refl
leg_ended_kind T s t paid next _ = refl

begun_kind : (T : ScoringRows) (s : Scorer) (t : ℕ) (m : More) → first_kind_of (with_activity_begun T s t m) ≡ first_kind_of s
begun_kind T s t (more.Kind kind) = refl
begun_kind T s t _ = refl

pub first_kind-with_event : (T : ScoringRows) (s : Scorer) (w : Word) (m : More) (t : ℕ) → first_kind_of (with_event T s w m t) ≡ first_kind_of s
first_kind-with_event T s word.ActEnd m t = ended_kind T.tables s t s.doing s.first_end
first_kind-with_event T s word.Departure m t = leg_begun_kind s t m
first_kind-with_event T s word.Arrival m t = leg_ended_kind T s t (pos 0) doing.Arriving s.doing
first_kind-with_event T s word.ActStart m t = begun_kind T s t m
first_kind-with_event T s word.StuckAndAbort m t = leg_ended_kind T s t T.stuck doing.Stuck s.doing
first_kind-with_event T s _ m t = refl
