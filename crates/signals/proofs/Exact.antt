-- Spans that meet are exactly what lets two signals be green in one second.
use Rattle.std.proofs.Common.{◌≡◌, ℕ, ◌+◌, ◌-◌, ◌*◌, ◌<◌, ◌≤◌, refl, sym, ◌∙◌, ap, subst, arith, inl, inr, true, Bool, ◌&&◌, List, [], ◌∷◌, zero, suc}
use Rattle.std.proofs.{Math.Nat.mod-add-mod, lemmas.Bool.Decides.same_from_decides, lemmas.Nat.mod_below, lemmas.Nat.Gcd.IsGcd-swap}
use Rattle.std.proofs.lemmas.Bool.{and_parts, and_from, or_cases, or_left, or_right, lt-ltb, ltb-true, le-leb, leb-true, false≢true, Decides.Decides-below_or}
use Rattle.std.specs.{Bool.Decides, Int.IsGcd, List.list_any, Prelude.◌%◌, Prelude.nat_lt, Prelude.nat_le, Prelude.min}
use Rattle.rows.specs.Greens.{Phases, IsLawful, holds, phase_of, is_green}
use Rattle.signals.proofs.{Meeting.arc, Meeting.meet_where, Meeting.meet_there, Numbers.behind_both, Numbers.place_is, Numbers.same_over, Numbers.place_again}
use Rattle.signals.specs.{Arcs.IsBetween, Arcs.arc_of, Arcs.meet, Arcs.meets_some, Arcs.some_meet, Clash.clash_below, Clash.clash, Clash.AreGreenTogether}

-- an element that passes, with all other tests that it passes
pub some_of : {X : Type 0} (p : X → Bool) (xs : List X) → list_any p xs ≡ true → (x : X) × (p x ≡ true) × ((q : X → Bool) → q x ≡ true → list_any q xs ≡ true)
some_of p [] h = absurd (false≢true h)
some_of p (x ∷ xs) h =
    elim (or_cases (p x) (list_any p xs) h) [
      | inl here ↦ (x, here, λ q e. or_left (q x) (list_any q xs) e)
      | inr later ↦ let y = some_of p xs later in (y.0, y.1, λ q e. or_right (q x) (list_any q xs) (y.2 q e))
    ]

-- ARCS OF SPANS
-- it begins so many seconds behind the beginning of the span as the signal is shifted
arc_is : (g : ℕ) (p : Phases) (s : ℕ × ℕ) → arc_of g p s ≡ arc g (s.0 + p.offset) (min s.1 p.cycle - s.0)
unfolding arc_of
arc_is g p s = ap (λ (n : ℕ). record { start = n; seconds = min s.1 p.cycle - s.0 }) (mod-add-mod s.0 g p.offset)

within : (from until cycle place : ℕ) → from ≤ place → place < until → place < cycle → place - from < min until cycle - from
within from until cycle place h k e = grind arith

within_cycle : (from until cycle i : ℕ) → i < min until cycle - from → (from + i < until) × (from + i < cycle)
within_cycle from until cycle i h = (grind arith, grind arith)

-- the signal is in this place of its cycle in second t, which lies in the span
record IsAt (p : Phases) (s : ℕ × ℕ) (t : ℕ) : Type 0 where
  from : s.0 ≤ phase_of p t
  until : phase_of p t < s.1

is_at : (p : Phases) (s : ℕ × ℕ) (t : ℕ) → holds (phase_of p t) s ≡ true → IsAt p s t
is_at p s t h =
    let parts = and_parts (nat_le s.0 (phase_of p t)) (nat_lt (phase_of p t) s.1) h in
    record { from = leb-true s.0 (phase_of p t) parts.0; until = ltb-true (phase_of p t) s.1 parts.1 }

-- a place of the span, so many cycles behind it
held : (p : Phases) (s : ℕ × ℕ) (place i t : ℕ) → IsLawful p → s.0 ≤ place → place < s.1 → place < p.cycle → t ≡ place + p.offset + p.cycle * i → holds (phase_of p t) s ≡ true
held p s place i t lawful from until less is =
    let e : phase_of p t ≡ place = place_is p.cycle p.offset place i t less lawful.offset is in
    subst (λ (n : ℕ). holds n s ≡ true) (sym e) (and_from (nat_le s.0 place) (nat_lt place s.1) (le-leb s.0 place from) (lt-ltb place s.1 until))

-- what the place in the span leaves over is what the second leaves over
over_is : (g d : ℕ) (p : Phases) (s : ℕ × ℕ) (t : ℕ) → IsLawful p → IsGcd p.cycle d g → IsAt p s t → (s.0 + p.offset + (phase_of p t - s.0)) % g ≡ t % g
over_is g d p s t lawful divisor at =
    let from = at.from in
    let e : s.0 + p.offset + (phase_of p t - s.0) ≡ phase_of p t + p.offset = omega (arith, from) in
    ap (λ (n : ℕ). n % g) e ∙ same_over p.cycle d g p.offset t divisor lawful.offset

in_cycle : (p : Phases) (t : ℕ) → IsLawful p → phase_of p t < p.cycle
in_cycle p t lawful = let some = lawful.least in mod_below (t + p.cycle - p.offset) p.cycle (omega (arith, some))

-- TWO SIGNALS
module _ (a b : Phases) (first : IsLawful a) (second : IsLawful b) (g : ℕ) (some : 0 < g) (divisor : IsGcd a.cycle b.cycle g) (between : IsBetween a.cycle b.cycle g) where
  -- a second in which both are in these spans
  spans_meet : (s r : ℕ × ℕ) (t : ℕ) → holds (phase_of a t) s ≡ true → holds (phase_of b t) r ≡ true → meet g (arc_of g a s) (arc_of g b r) ≡ true
  spans_meet s r t in_first in_second =
      let x = is_at a s t in_first in
      let y = is_at b r t in_second in
      rw (arc_is g a s, arc_is g b r)
      (meet_where g (s.0 + a.offset) (min s.1 a.cycle - s.0) (r.0 + b.offset) (min r.1 b.cycle - r.0) (phase_of a t - s.0) (phase_of b t - r.0) some
      (within s.0 s.1 a.cycle (phase_of a t) x.from x.until (in_cycle a t first)) (within r.0 r.1 b.cycle (phase_of b t) y.from y.until (in_cycle b t second))
      (over_is g b.cycle a s t first divisor x ∙ sym (over_is g a.cycle b r t second (IsGcd-swap a.cycle b.cycle g divisor) y)))

  -- and back
  spans_together : (s r : ℕ × ℕ) → meet g (arc_of g a s) (arc_of g b r) ≡ true → (t : ℕ) × (holds (phase_of a t) s ≡ true) × (holds (phase_of b t) r ≡ true)
  spans_together s r h =
      let common = meet_there g (s.0 + a.offset) (min s.1 a.cycle - s.0) (r.0 + b.offset) (min r.1 b.cycle - r.0) some (rw (arc_is g a s, arc_is g b r) at h) in
      let x = s.0 + common.i in
      let y = r.0 + common.j in
      let in_a = within_cycle s.0 s.1 a.cycle common.i common.in_first in
      let in_b = within_cycle r.0 r.1 b.cycle common.j common.in_second in
      let x_is : x + a.offset ≡ s.0 + a.offset + common.i = omega arith in
      let y_is : y + b.offset ≡ r.0 + b.offset + common.j = omega arith in
      let behind = behind_both a.cycle b.cycle g (x + a.offset) (y + b.offset) between
      (ap (λ (n : ℕ). n % g) x_is ∙ common.same ∙ ap (λ (n : ℕ). n % g) (sym y_is)) in (
        behind.0,
        held a s x behind.1.i behind.0 first (omega arith) in_a.0 in_a.1 behind.1.first,
        held b r y behind.1.j behind.0 second (omega arith) in_b.0 in_b.1 behind.1.second,
      )

  -- some spans meet exactly where both are green in some second
  pub meets_decide : Decides (some_meet g a b) (AreGreenTogether a b)
  unfolding is_green
  meets_decide = (
    λ h.
        let (s, some_r, into_a) = some_of (λ s. meets_some g (arc_of g a s) b) a.spans h in
        let (r, met, into_b) = some_of (λ r. meet g (arc_of g a s) (arc_of g b r)) b.spans some_r in
        let (t, in_s, in_r) = spans_together s r met in
        (t, into_a (holds (phase_of a t)) in_s, into_b (holds (phase_of b t)) in_r),
    λ h.
        let (t, green_a, green_b) = h in
        let (s, in_s, into_a) = some_of (holds (phase_of a t)) a.spans green_a in
        let (r, in_r, into_b) = some_of (holds (phase_of b t)) b.spans green_b in
        into_a (λ s. meets_some g (arc_of g a s) b) (into_b (λ r. meet g (arc_of g a s) (arc_of g b r)) (spans_meet s r t in_s in_r)),
  )

-- SECONDS ALONE
-- a signal is as green after whole cycles
green_again : (p : Phases) (d t : ℕ) → IsLawful p → is_green p t ≡ true → is_green p (t % (p.cycle * d)) ≡ true
unfolding is_green
green_again p d t lawful h = subst (λ (n : ℕ). list_any (holds n) p.spans ≡ true) (sym (place_again p.cycle d p.offset t lawful.offset)) h

positive : (a b : ℕ) → 0 < a → 0 < b → 0 < a * b
positive zero b h k = absurd (omega arith)
positive (suc a) b h k = omega arith

-- the definition by the first seconds tells of all seconds
pub clash_decides : (a b : Phases) → IsLawful a → IsLawful b → Decides (clash a b) (AreGreenTogether a b)
unfolding clash clash_below
clash_decides a b first second =
    let n = a.cycle * b.cycle in
    let least_a = first.least in
    let least_b = second.least in
    let some : 0 < n = positive a.cycle b.cycle (omega (arith, least_a)) (omega (arith, least_b)) in
    let turned : n ≡ b.cycle * a.cycle = omega arith in
    let below = Decides-below_or (λ t. is_green a t && is_green b t) (λ t. (is_green a t ≡ true) × (is_green b t ≡ true)) (clash_below a b)
    (λ t. ((λ h. and_parts (is_green a t) (is_green b t) h), λ h. and_from (is_green a t) (is_green b t) h.0 h.1)) refl (λ t. refl) n in (
      λ h. let (t, less, both) = below.0 h in (t, both.0, both.1),
      λ h.
          let (t, green_a, green_b) = h in
          below.1 (t % n, mod_below t n some, (green_again a b.cycle t first green_a, subst (λ (m : ℕ). is_green b (t % m) ≡ true) (sym turned) (green_again b a.cycle t second green_b))),
    )

-- so the spans tell what the definition tells
pub clash_is : (a b : Phases) → IsLawful a → IsLawful b → (g : ℕ) → 0 < g → IsGcd a.cycle b.cycle g → IsBetween a.cycle b.cycle g → some_meet g a b ≡ clash a b
clash_is a b first second g some divisor between = same_from_decides (some_meet g a b) (clash a b) (meets_decide a b first second g some divisor between) (clash_decides a b first second)
