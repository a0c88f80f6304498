-- What a scorer gives at the end is the score of the events that it has taken.
use Rattle.std.proofs.Common.{◌≡◌, ℕ, ◌+◌, ◌-◌, Bool, true, false, nat_eq, List, [], ◌∷◌, ◌++◌, map, drop, Option, Some, ℤ, pos, ◌+ℤ◌, refl, sym, ap, ◌∙◌}
use Rattle.std.{proofs.Common.append-nil, proofs.Common.arith, proofs.lemmas.Int.ints, specs.List.zip}
use Rattle.events.specs.declared.event.Event.{Event}
use Rattle.events.specs.declared.event.Word.TheVariants as word
use Rattle.scoring.proofs.Pairs.{total-push}
use Rattle.scoring.specs.Score.{Activity, starts, departures, act_ends, leg_ends, stuck_in, ended, unended, until, until_midnight, over_midnight, with_night}
use Rattle.scoring.specs.Score.{spells, spell_worth, spells_worth, rides_worth, lateness_costs, stuck_costs, total, score}
use Rattle.scoring.specs.{Steps.last_worth, Tables.ScoringRows, Tables.activity_worth, Taken.activity_of, Taken.first_of, Taken.word_of, Taken.settled}
use Rattle.scoring.specs.{Taken.IsTakenBy, declared.TheConstants.SCORING_DAY, declared.scorer.Doing.Doing, declared.scorer.Scorer.Scorer}
use Rattle.scoring.specs.declared.scorer.Doing.TheVariants as doing

from_zero : (x : ℕ) → x - 0 ≡ x
from_zero x = omega arith

-- the first activity has not ended: it is the only one
only-spell : (T : ScoringRows) (f : ℕ) (a : List Activity) (kind since : ℕ) → (kind, since) ∷ [] ≡ (f, 0) ∷ a
    → spells_worth T (map until_midnight ((f, 0) ∷ a)) ≡ activity_worth T.tables kind (SCORING_DAY - since)
unfolding total
only-spell T f a kind since e =
    let none : a ≡ [] = cc in
    let same : (f, 0) ≡ (kind, since) = cc in
    ap (λ z. spells_worth T (map until_midnight ((f, 0) ∷ z))) none ∙ ap (λ (z : Activity). activity_worth T.tables z.0 (SCORING_DAY - z.1) +ℤ pos 0) same ∙ omega (arith, ints)

-- the first activity and one that has not ended, joined or apart, with those between them
last-spells : (T : ScoringRows) (f x : ℕ) (b : Bool) (zs : List (ℕ × ℕ)) (kind since : ℕ) → nat_eq kind f ≡ b
    → spells_worth T (with_night (over_midnight f (x ∷ []) ((kind, since) ∷ []) []) ((f, x - 0) ∷ zs) ((kind, SCORING_DAY - since) ∷ []))
    ≡ spells_worth T zs +ℤ last_worth T.tables f (Some x) (doing.Activity kind since)
unfolding total
last-spells T f x true zs kind since e = rw e (omega (arith, ints))
last-spells T f x false zs kind since e =
    rw (e, from_zero x) (let g = total-push (spell_worth T) zs (kind, SCORING_DAY - since) in omega (arith, ints))

-- the person is at no activity
no-last : (T : ScoringRows) (f x : ℕ) (zs : List (ℕ × ℕ)) → spells_worth T (((f, x - 0) ∷ zs) ++ []) ≡ spells_worth T zs +ℤ activity_worth T.tables f x
unfolding total
no-last T f x zs = rw (append-nil zs, from_zero x) (omega (arith, ints))

spells-last : (T : ScoringRows) (f : ℕ) (a : List Activity) (n k : List ℕ) (d : Doing) (l : Option ℕ)
    → l ≡ first_of n → activity_of d ≡ unended f a n → ((kind since : ℕ) → d ≡ doing.Activity kind since → k ≡ [])
    → spells_worth T (spells f a n k) ≡ spells_worth T (drop 1 (map until (ended f a n))) +ℤ last_worth T.tables f l d
unfolding total
spells-last T f a [] k (doing.Activity kind since) l first unended_is free = rw first (only-spell T f a kind since unended_is ∙ omega (arith, ints))
spells-last T f a [] k _ l first unended_is free = absurd (cc)
spells-last T f a (x ∷ n) k (doing.Activity kind since) l first unended_is free =
    rw (first, free kind since refl, ← unended_is) (last-spells T f x (nat_eq kind f) (map until (zip a n)) kind since refl)
spells-last T f a (x ∷ n) k _ l first unended_is free = rw (first, ← unended_is) (no-last T f x (map until (zip a n)))

four : (A B C D E F : ℤ) → E ≡ A +ℤ F → A +ℤ B +ℤ C +ℤ D +ℤ F ≡ E +ℤ B +ℤ C +ℤ D
four A B C D E F e = omega (arith, ints)

-- what is added at the end to what was settled is the score
pub score_is : (T : ScoringRows) (s : Scorer) (es : List Event) → IsTakenBy T s es
    → s.sum +ℤ last_worth T.tables s.first_kind s.first_end s.doing ≡ score T s.first_kind es
unfolding score settled
score_is T s es H =
    let free : (kind since : ℕ) → s.doing ≡ doing.Activity kind since → stuck_in es ≡ [] =
    λ (kind since : ℕ) is. H.free (λ stuck. let x : word.ActStart ≡ word.StuckAndAbort = sym (H.after ∙ ap word_of is) ∙ stuck in cc) in
    ap (λ z. z +ℤ last_worth T.tables s.first_kind s.first_end s.doing) H.keeps.sum
    ∙ four (spells_worth T (drop 1 (map until (ended s.first_kind (starts es) (act_ends es))))) (rides_worth T (departures es) (leg_ends es))
    (lateness_costs T (starts es)) (stuck_costs T (stuck_in es))
    (spells_worth T (spells s.first_kind (starts es) (act_ends es) (stuck_in es))) (last_worth T.tables s.first_kind s.first_end s.doing)
    (spells-last T s.first_kind (starts es) (act_ends es) (stuck_in es) s.doing s.first_end H.keeps.left H.keeps.activity free)
