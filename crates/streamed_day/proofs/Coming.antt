-- A day that comes piece by piece.
use Rattle.std.proofs.Common.{◌≡◌, ℕ, zero, suc, ◌+◌, ◌-◌, ◌<◌, ◌≤◌, Bool, true, false, List, ◌++◌, arith, refl, sym, ◌∙◌, ap, append_assoc, append-nil, subst}
use Rattle.events.specs.declared.event.Event.{Event}
use Rattle.traffic.proofs.{Common.events_from, Common.day, Order.from-ascends}
use Rattle.traffic.specs.{Day.second_events, Day.end_events, Day.world_at, Day.world_start, Frames.Ascends, Setup.Setup}
use Rattle.town.specs.{Setups.setup_of, Views.setup, declared.day_input.DayInput.DayInput}
use Rattle.streamed_day.{proofs.Dealing.later_ascend, specs.Coming.seconds_from, specs.Coming.to_come}

-- the next second is a piece
second_comes : (S : Setup) (end t : ℕ) (piece : List Event) → t < end → piece ≡ second_events S t (world_at S t)
    → to_come S end t true ≡ piece ++ to_come S end (t + 1) true
unfolding seconds_from
second_comes S end t piece before is =
    let last = end_events S end (world_at S end) in
    let count : end - t ≡ suc (end - (t + 1)) = omega arith in
    ap (λ n. seconds_from S t n ++ last) count
    ∙ append_assoc (second_events S t (world_at S t)) (seconds_from S (t + 1) (end - (t + 1))) last
    ∙ ap (λ xs. xs ++ to_come S end (t + 1) true) (sym is)

-- behind the last one the end is
end_comes : (S : Setup) (end t later : ℕ) (piece : List Event) → end ≤ t → piece ≡ end_events S end (world_at S end)
    → to_come S end t true ≡ piece ++ to_come S end later false
unfolding seconds_from
end_comes S end t later piece past is =
    let none : end - t ≡ 0 = omega arith in
    ap (λ n. seconds_from S t n ++ end_events S end (world_at S end)) none ∙ sym is ∙ sym (append-nil piece)

-- the same where a test says whether the day goes on
pub second_piece : (S : Setup) (end t : ℕ) (piece : List Event) (before : Bool) → before ≡ true → t < end
    → piece ≡ second_events S t (world_at S t) → to_come S end t before ≡ piece ++ to_come S end (t + 1) true
second_piece S end t piece before goes early is = ap (to_come S end t) goes ∙ second_comes S end t piece early is

pub end_piece : (S : Setup) (end t later : ℕ) (piece : List Event) (before after : Bool) → before ≡ true → after ≡ false → end ≤ t
    → piece ≡ end_events S end (world_at S end) → to_come S end t before ≡ piece ++ to_come S end later after
end_piece S end t later piece before after goes over past is =
    ap (to_come S end t) goes ∙ end_comes S end t later piece past is ∙ sym (ap (λ b. piece ++ to_come S end later b) over)

-- at first all of the day is still to come
pub goes_on : (S : Setup) (t n : ℕ) → events_from S (world_start S) t ++ seconds_from S t n ≡ events_from S (world_start S) (t + n)
unfolding events_from seconds_from
goes_on S t zero =
    let e : t ≡ t + 0 = omega arith in
    append-nil (events_from S (world_start S) t) ∙ ap (events_from S (world_start S)) e
goes_on S t (suc n) =
    let now : t + 1 ≡ suc t = omega arith in
    let later : (t + 1) + n ≡ t + suc n = omega arith in
    sym (append_assoc (events_from S (world_start S) t) (second_events S t (world_at S t)) (seconds_from S (t + 1) n))
    ∙ ap (λ k. events_from S (world_start S) k ++ seconds_from S (t + 1) n) (sym now)
    ∙ goes_on S (t + 1) n ∙ ap (events_from S (world_start S)) later

-- of seconds that follow one another
pub seconds_split : (S : Setup) (t a b : ℕ) → seconds_from S t (a + b) ≡ seconds_from S t a ++ seconds_from S (t + a) b
unfolding seconds_from
seconds_split S t zero b =
    let none : zero + b ≡ b = omega arith in
    let here : t ≡ t + zero = omega arith in
    ap (seconds_from S t) none ∙ ap (λ k. seconds_from S k b) here
seconds_split S t (suc a) b =
    let count : suc a + b ≡ suc (a + b) = omega arith in
    let later : (t + 1) + a ≡ t + suc a = omega arith in
    let this = second_events S t (world_at S t) in
    let rest = seconds_from S (t + 1) a in
    ap (seconds_from S t) count
    ∙ ap (λ es. this ++ es) (seconds_split S (t + 1) a b)
    ∙ sym (append_assoc this rest (seconds_from S ((t + 1) + a) b))
    ∙ ap (λ k. (this ++ rest) ++ seconds_from S k b) later

pub one_more : (S : Setup) (t n : ℕ) → seconds_from S t (n + 1) ≡ seconds_from S t n ++ second_events S (t + n) (world_at S (t + n))
unfolding seconds_from
one_more S t n =
    seconds_split S t n 1
    ∙ ap (λ es. seconds_from S t n ++ es) (append-nil (second_events S (t + n) (world_at S (t + n))))

pub seconds_ascend : (S : Setup) (t n : ℕ) → Ascends (seconds_from S t n)
seconds_ascend S t n =
    later_ascend (events_from S (world_start S) t) (seconds_from S t n)
    (subst (λ (es : List Event). Ascends es) (sym (goes_on S t n)) (from-ascends S (world_start S) (t + n)))

-- several seconds are a piece
pub span_piece : (S : Setup) (end t until : ℕ) (piece : List Event) (before : Bool) → before ≡ true → t ≤ until → until ≤ end
    → piece ≡ seconds_from S t (until - t) → to_come S end t before ≡ piece ++ to_come S end until true
span_piece S end t until piece before goes early within is =
    let last = end_events S end (world_at S end) in
    let now = seconds_from S t (until - t) in
    let count : end - t ≡ (until - t) + (end - until) = omega arith in
    let here : t + (until - t) ≡ until = omega arith in
    ap (to_come S end t) goes
    ∙ ap (λ n. seconds_from S t n ++ last) count
    ∙ ap (λ es. es ++ last) (seconds_split S t (until - t) (end - until))
    ∙ ap (λ k. (now ++ seconds_from S k (end - until)) ++ last) here
    ∙ append_assoc now (seconds_from S until (end - until)) last
    ∙ ap (λ xs. xs ++ to_come S end until true) (sym is)

pub day_comes : (S : Setup) (end : ℕ) → end ≡ S.settings.end_second → to_come S end 0 true ≡ day S
unfolding events_from day
day_comes S end is =
    let count : 0 + (end - 0) ≡ end = omega arith in
    ap (λ xs. xs ++ end_events S end (world_at S end)) (goes_on S 0 (end - 0) ∙ ap (events_from S (world_start S)) count)
    ∙ ap (λ t. events_from S (world_start S) t ++ end_events S t (world_at S t)) is

-- the last second is that of the town
pub end_in : (day : DayInput) → day.town.now.settings.end_second ≡ (setup day).settings.end_second
unfolding setup_of
end_in day = refl
