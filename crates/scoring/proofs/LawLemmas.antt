-- The laws of values, scores and turns.
use Rattle.std.proofs.Common.{◌≡◌, ℕ, zero, suc, ◌+◌, ◌-◌, ◌*◌, ◌<◌, ◌≤◌, inl, inr, Bool, true, false, int_le, List, [], ◌∷◌, ◌++◌, map, length, filter, All}
use Rattle.std.proofs.Common.{Option, None, ℤ, pos, negsuc, ◌+ℤ◌, ◌-ℤ◌, ◌*ℤ◌, ◌≤ℤ◌, ◌<ℤ◌, FitsSigned, w64, refl, sym, ap, ◌∙◌, subst, lt-ltb, le-ltb, ◌/◌}
use Rattle.std.proofs.{Common.suc-mul, Common.div-mul-le_self, Common.arith, Math.Nat.lt-div-mul-add, lemmas.Bool.and_parts, lemmas.Bool.cases_lt}
use Rattle.std.proofs.lemmas.{Bool.cases_Bool, Int.ints, List.map-append, List.Elements.filter-append, List.Elements.All-head, List.Elements.All-tail}
use Rattle.std.specs.{Int.int_div_euclid, List.filter_map, List.cons_option}
use Rattle.events.specs.{Persons.is_step, declared.event.Event.Event, declared.event.More.More, declared.event.Word.Word}
use Rattle.events.specs.declared.event.Word.TheVariants as word
use Rattle.limits.specs.declared.TheConstants.{MAX_PERSONS}
use Rattle.scoring.specs.{Points.Point, Points.are_rising, Points.are_climbing, Points.on_line, Points.value, Points.along, Ranges.IsWithin}
use Rattle.scoring.specs.Score.{started, departed, act_ended, leg_ended, got_stuck, starts, departures, act_ends, leg_ends, stuck_in, total, score}
use Rattle.scoring.specs.{Tables.ScoringRows, Turns.steps, Turns.Follow, Turns.InTurn, declared.TheConstants.MAX_SCORE}
use borrow.Author.Differences.{neg_is}
use Rattle.scoring.proofs.Lines.{on_line-between, on_line-mono}
use Rattle.scoring.proofs.PointsLemmas.{rising_tail, value-before, value-along, value-skip}

-- ---- values

times_none : (r : ℤ) → r *ℤ pos 0 ≡ pos 0
times_none (pos n) = omega (arith, ints)
times_none (negsuc n) = omega (arith, ints)

none_of : (d : ℕ) → int_div_euclid (pos 0) (pos d) ≡ pos 0
none_of d = omega (arith, ints)

-- a line begins at its first point
on_line-start : (a b : Point) → on_line a b a.0 ≡ a.1
on_line-start a b =
    let same : a.0 - a.0 ≡ 0 = omega arith in
    rw (same, times_none (b.1 -ℤ a.1), none_of (b.0 - a.0)) (omega (arith, ints))

along-start : (a : Point) (points : List Point) → are_rising (a ∷ points) ≡ true → along a points a.0 ≡ a.1
unfolding along
along-start a [] rising = refl
along-start a (b ∷ points) rising = rw (lt-ltb a.0 b.0 (rising_tail a b points rising).0) (on_line-start a b)

value-start : (a : Point) (points : List Point) → are_rising (a ∷ points) ≡ true → value (a ∷ points) a.0 ≡ a.1
value-start a points rising = value-along a points a.0 rising (omega arith) ∙ along-start a points rising

-- the first point of a table is before each other one
rising-below : (a : Point) (before : List Point) (p : Point) (later : List Point) → are_rising (a ∷ (before ++ p ∷ later)) ≡ true → a.0 < p.0
rising-below a [] p later rising = (rising_tail a p later rising).0
rising-below a (b ∷ before) p later rising =
    let g = rising_tail a b (before ++ p ∷ later) rising in
    let low = g.0 in let high = rising-below b before p later g.1 in omega arith

-- the points before one that is reached do not matter
value-past : (before : List Point) (p : Point) (later : List Point) (s : ℕ) → are_rising (before ++ p ∷ later) ≡ true → p.0 ≤ s
    → value (before ++ p ∷ later) s ≡ value (p ∷ later) s
value-past [] p later s rising reached = refl
value-past (a ∷ []) p later s rising reached =
    let low = rising-below a [] p later rising in value-skip a p later s (omega arith) reached
value-past (a ∷ b ∷ before) p later s rising reached =
    let g = rising_tail a b (before ++ p ∷ later) rising in
    let low = g.0 in let high = rising-below b before p later g.1 in
    value-skip a b (before ++ p ∷ later) s (omega arith) (omega arith) ∙ value-past (b ∷ before) p later s g.1 reached

rising-from : (before : List Point) (p : Point) (later : List Point) → are_rising (before ++ p ∷ later) ≡ true → are_rising (p ∷ later) ≡ true
rising-from [] p later rising = rising
rising-from (a ∷ []) p later rising = (rising_tail a p later rising).1
rising-from (a ∷ b ∷ before) p later rising = rising-from (b ∷ before) p later (rising_tail a b (before ++ p ∷ later) rising).1

pub value-exact : (before later : List Point) (p : Point) → are_rising (before ++ p ∷ later) ≡ true → value (before ++ p ∷ later) p.0 ≡ p.1
value-exact before later p rising = value-past before p later p.0 rising (omega arith) ∙ value-start p later (rising-from before p later rising)

pub value-first : (p : Point) (later : List Point) (s : ℕ) → are_rising (p ∷ later) ≡ true → s ≤ p.0 → value (p ∷ later) s ≡ p.1
value-first p later s rising early = elim (cases_lt s p.0) [
  | inl before ↦ value-before p later s rising before
  | inr here ↦ (let same : s ≡ p.0 = omega arith in rw same (value-start p later rising))
]

pub value-last : (before : List Point) (p : Point) (s : ℕ) → are_rising (before ++ p ∷ []) ≡ true → p.0 ≤ s → value (before ++ p ∷ []) s ≡ p.1
unfolding along
value-last before p s rising reached = value-past before p [] s rising reached ∙ value-along p [] s (rising-from before p [] rising) reached

pub value-line : (before later : List Point) (a b : Point) (s : ℕ) → are_rising (before ++ a ∷ b ∷ later) ≡ true → a.0 ≤ s → s < b.0
    → value (before ++ a ∷ b ∷ later) s ≡ on_line a b s
unfolding along
value-line before later a b s rising from to =
    value-past before a (b ∷ later) s rising from ∙ value-along a (b ∷ later) s (rising-from before a (b ∷ later) rising) from ∙ rw (lt-ltb s b.0 to)

next_multiple : (a d q : ℕ) → q * d ≤ a → negsuc a <ℤ ((negsuc q +ℤ pos 1) *ℤ pos d)
next_multiple a d zero h = omega (arith, ints)
next_multiple a d (suc q) h =
    let e : negsuc (suc q) +ℤ pos 1 ≡ negsuc q = omega (arith, ints) in
    rw e (omega (arith, ints, neg_is (pos (suc q * d))))

-- of a quotient, rounded down, the product with the divisor is no more than the number, and one more of it is more
floor_parts : (x : ℤ) (d : ℕ) → 0 < d → ((int_div_euclid x (pos d) *ℤ pos d) ≤ℤ x) × (x <ℤ ((int_div_euclid x (pos d) +ℤ pos 1) *ℤ pos d))
floor_parts (pos a) d some =
    let low : a / d * d ≤ a = div-mul-le_self a d in
    let high : a < a / d * d + d = lt-div-mul-add some in
    let more : (a / d + 1) * d ≡ a / d * d + d = omega arith in
    (omega (arith, ints), omega (arith, ints))
floor_parts (negsuc a) d some =
    let low : a / d * d ≤ a = div-mul-le_self a d in
    let high : a < a / d * d + d = lt-div-mul-add some in
    let more : suc (a / d) * d ≡ a / d * d + d = suc-mul (a / d) d in
    (omega (arith, ints, neg_is (pos (suc (a / d) * d))), next_multiple a d (a / d) low)

-- what a line has risen from its first point
risen : (a b : Point) (s : ℕ) → on_line a b s -ℤ a.1 ≡ int_div_euclid ((b.1 -ℤ a.1) *ℤ pos (s - a.0)) (pos (b.0 - a.0))
risen a b s = omega (arith, ints)

pub on_line-down : (a b : Point) (s : ℕ) → a.0 ≤ s → s < b.0 → ((on_line a b s -ℤ a.1) *ℤ pos (b.0 - a.0)) ≤ℤ ((b.1 -ℤ a.1) *ℤ pos (s - a.0))
on_line-down a b s from to =
    subst (λ (q : ℤ). (q *ℤ pos (b.0 - a.0)) ≤ℤ ((b.1 -ℤ a.1) *ℤ pos (s - a.0))) (sym (risen a b s))
    ((floor_parts ((b.1 -ℤ a.1) *ℤ pos (s - a.0)) (b.0 - a.0) (omega arith)).0)

pub on_line-near : (a b : Point) (s : ℕ) → a.0 ≤ s → s < b.0 → ((b.1 -ℤ a.1) *ℤ pos (s - a.0)) <ℤ ((on_line a b s -ℤ a.1 +ℤ pos 1) *ℤ pos (b.0 - a.0))
on_line-near a b s from to =
    subst (λ (q : ℤ). ((b.1 -ℤ a.1) *ℤ pos (s - a.0)) <ℤ ((q +ℤ pos 1) *ℤ pos (b.0 - a.0))) (sym (risen a b s))
    ((floor_parts ((b.1 -ℤ a.1) *ℤ pos (s - a.0)) (b.0 - a.0) (omega arith)).1)

climbing_tail : (a b : Point) (points : List Point) → are_climbing (a ∷ b ∷ points) ≡ true → (a.1 ≤ℤ b.1) × (are_climbing (b ∷ points) ≡ true)
climbing_tail a b points h = let g = and_parts (int_le a.1 b.1) (are_climbing (b ∷ points)) h in let up = g.0 in (omega (arith, ints), g.1)

-- along points that climb no value is below the first point
along-least : (a : Point) (points : List Point) (s : ℕ) → are_rising (a ∷ points) ≡ true → are_climbing (a ∷ points) ≡ true → a.0 ≤ s → a.1 ≤ℤ along a points s
unfolding along
along-least a [] s rising climbing from = omega (arith, ints)
along-least a (b ∷ points) s rising climbing from =
    let g = rising_tail a b points rising in
    let up = climbing_tail a b points climbing in let step = up.0 in
    elim (cases_lt s b.0) [
      | inl before ↦ rw (lt-ltb s b.0 before) ((on_line-between a b s a.1 b.1 from before (omega (arith, ints)) step step (omega (arith, ints))).0)
      | inr after ↦ rw (le-ltb s b.0 after) (let rest = along-least b points s g.1 up.1 after in omega (arith, ints))
    ]

along-mono : (a : Point) (points : List Point) (s t : ℕ) → are_rising (a ∷ points) ≡ true → are_climbing (a ∷ points) ≡ true → a.0 ≤ s → s ≤ t
    → along a points s ≤ℤ along a points t
unfolding along
along-mono a [] s t rising climbing from later = omega (arith, ints)
along-mono a (b ∷ points) s t rising climbing from later =
    let g = rising_tail a b points rising in
    let up = climbing_tail a b points climbing in let step = up.0 in
    elim (cases_lt s b.0) [
      | inl before ↦ rw (lt-ltb s b.0 before) (elim (cases_lt t b.0) [
        | inl still ↦ rw (lt-ltb t b.0 still) (on_line-mono a b s t g.0 step later)
        | inr after ↦ rw (le-ltb t b.0 after) (
            let top = (on_line-between a b s a.1 b.1 from before (omega (arith, ints)) step step (omega (arith, ints))).1 in
            let rest = along-least b points t g.1 up.1 after in omega (arith, ints))
      ])
      | inr after ↦ rw (le-ltb s b.0 after, le-ltb t b.0 (omega arith)) (along-mono b points s t g.1 up.1 after later)
    ]

value-none : (s : ℕ) → value [] s ≡ pos 0
unfolding value
value-none s = refl

pub value-climbing : (points : List Point) (s t : ℕ) → are_rising points ≡ true → are_climbing points ≡ true → s ≤ t → value points s ≤ℤ value points t
value-climbing [] s t rising climbing later = rw (value-none s, value-none t) (omega (arith, ints))
value-climbing (a ∷ points) s t rising climbing later =
    elim (cases_lt s a.0) [
      | inl before ↦ rw (value-before a points s rising before) (elim (cases_lt t a.0) [
        | inl still ↦ rw (value-before a points t rising still) (omega (arith, ints))
        | inr after ↦ rw (value-along a points t rising after) (along-least a points t rising climbing after)
      ])
      | inr here ↦ rw (value-along a points s rising here, value-along a points t rising (omega arith)) (along-mono a points s t rising climbing here later)
    ]

-- ---- scores

filter_map-filter : {X : Type 0} (h : Event → Option X) (p : Event → Bool) → ((e : Event) → p e ≡ false → None ≡ h e) → (es : List Event)
    → filter_map h es ≡ filter_map h (filter p es)
filter_map-filter h p none [] = refl
filter_map-filter h p none (e ∷ es) =
    let rest = filter_map-filter h p none es in
    elim (cases_Bool (p e)) [
      | inl passes ↦ rw passes (ap (cons_option (h e)) rest)
      | inr fails ↦ rw (fails, ← none e fails) rest
    ]

quiet_started : (w : Word) (m : More) (t : ℕ) → is_step w ≡ false → None ≡ started w m t
quiet_started word.ActStart m t fails = cc
quiet_started _ m t fails = refl

quiet_departed : (w : Word) (m : More) (t : ℕ) → is_step w ≡ false → None ≡ departed w m t
quiet_departed word.Departure m t fails = cc
quiet_departed _ m t fails = refl

quiet_act_ended : (w : Word) (t : ℕ) → is_step w ≡ false → None ≡ act_ended w t
quiet_act_ended word.ActEnd t fails = cc
quiet_act_ended _ t fails = refl

quiet_leg_ended : (w : Word) (t : ℕ) → is_step w ≡ false → None ≡ leg_ended w t
quiet_leg_ended word.Arrival t fails = cc
quiet_leg_ended word.StuckAndAbort t fails = cc
quiet_leg_ended _ t fails = refl

quiet_stuck : (w : Word) (t : ℕ) → is_step w ≡ false → None ≡ got_stuck w t
quiet_stuck word.StuckAndAbort t fails = cc
quiet_stuck _ t fails = refl

abbrev scoring_event : Event → Bool
scoring_event e = is_step e.word

pub score-filter : (T : ScoringRows) (f : ℕ) (es : List Event) → score T f es ≡ score T f (filter (λ (e : Event). is_step e.word) es)
unfolding score starts departures act_ends leg_ends stuck_in
score-filter T f es =
    rw (
      ← filter_map-filter (λ (e : Event). started e.word e.more e.key.second) scoring_event (λ e. quiet_started e.word e.more e.key.second) es,
      ← filter_map-filter (λ (e : Event). departed e.word e.more e.key.second) scoring_event (λ e. quiet_departed e.word e.more e.key.second) es,
      ← filter_map-filter (λ (e : Event). act_ended e.word e.key.second) scoring_event (λ e. quiet_act_ended e.word e.key.second) es,
      ← filter_map-filter (λ (e : Event). leg_ended e.word e.key.second) scoring_event (λ e. quiet_leg_ended e.word e.key.second) es,
      ← filter_map-filter (λ (e : Event). got_stuck e.word e.key.second) scoring_event (λ e. quiet_stuck e.word e.key.second) es,
    )

Follow-front : (b : Word) (ws vs : List Word) → Follow b (ws ++ vs) → Follow b ws
unfolding Follow
Follow-front b [] vs turn = tt
Follow-front b (w ∷ ws) vs turn = (turn.0, Follow-front w ws vs turn.1)

pub InTurn-front : (es later : List Event) → InTurn (es ++ later) → InTurn es
InTurn-front es later turn =
    let parts : steps (es ++ later) ≡ steps es ++ steps later =
    ap (filter is_step) (map-append (λ (x : Event). x.word) es later) ∙ filter-append is_step (map (λ (x : Event). x.word) es) (map (λ (x : Event). x.word) later) in
    Follow-front word.ActStart (steps es) (steps later) (subst (Follow word.ActStart) parts turn)

total-within : (zs : List ℤ) → All (IsWithin MAX_SCORE) zs → IsWithin (pos (100000000000000 * length zs)) (total zs)
unfolding total
total-within [] all = (omega (arith, ints), omega (arith, ints))
total-within (z ∷ zs) all =
    let head = All-head (IsWithin MAX_SCORE) z zs all in let h0 = head.0 in let h1 = head.1 in
    let rest = total-within zs (All-tail (IsWithin MAX_SCORE) z zs all) in let r0 = rest.0 in let r1 = rest.1 in
    (omega (arith, ints), omega (arith, ints))

pub total-fits : (zs : List ℤ) → length zs ≤ MAX_PERSONS → All (IsWithin MAX_SCORE) zs → FitsSigned w64 (total zs)
total-fits zs few all =
    let h = total-within zs all in let h0 = h.0 in let h1 = h.1 in
    let count : length zs ≤ 65536 = few in omega (arith, ints)
