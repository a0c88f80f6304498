-- What each of the five words makes of what a scorer keeps.
use Rattle.std.proofs.Common.{◌≡◌, ℕ, ◌+◌, ◌-◌, List, [], ◌∷◌, ◌++◌, map, length, drop, None, Some, ℤ, pos, ◌+ℤ◌, ◌*ℤ◌, refl, sym, ap, ◌∙◌, subst, arith}
use Rattle.std.{proofs.Common.length-append, proofs.lemmas.Int.ints, proofs.lemmas.List.map-append, specs.List.zip}
use Rattle.events.specs.declared.event.Mode.{Mode}
use Rattle.scoring.proofs.Pairs.{zip-close, zip-open, zip-nil, drop-close, drop-open, total-push}
use Rattle.scoring.specs.Score.{Activity, Leg, ended, unended, until, spell_worth, spells_worth, ride_worth, rides_worth, lateness_cost, lateness_costs}
use Rattle.scoring.specs.{Score.stuck_costs, Score.total, Tables.ScoringRows, Tables.activity_worth, Tables.leg_worth, Tables.seconds_late, Taken.activity_of}
use Rattle.scoring.specs.{Taken.leg_of, Taken.settled, Taken.Keeps, declared.scorer.Doing.Doing, declared.scorer.Scorer.Scorer}
use Rattle.scoring.specs.declared.scorer.Doing.TheVariants as doing

-- a sum of four parts of which one grows
grow_first : (s A B C D E w : ℤ) → s ≡ A +ℤ B +ℤ C +ℤ D → E ≡ A +ℤ w → s +ℤ w ≡ E +ℤ B +ℤ C +ℤ D
grow_first s A B C D E w e f = omega (arith, ints)

grow_third : (s A B C D E F w : ℤ) → s ≡ A +ℤ B +ℤ C +ℤ D → E ≡ A → F ≡ C +ℤ w → s +ℤ w ≡ E +ℤ B +ℤ F +ℤ D
grow_third s A B C D E F w e f g = omega (arith, ints)

grow_both : (s A B C D E F w v : ℤ) → s ≡ A +ℤ B +ℤ C +ℤ D → E ≡ B +ℤ w → F ≡ D +ℤ v → s +ℤ (w +ℤ v) ≡ A +ℤ E +ℤ C +ℤ F
grow_both s A B C D E F w v e f g = omega (arith, ints)

-- what is kept of the activity and the leg, where it is known what the person is doing
activity_known : (T : ScoringRows) (s : Scorer) (a : List Activity) (d : List Leg) (n m k : List ℕ) (x : List Activity)
    → Keeps T s a d n m k → activity_of s.doing ≡ x → (unended s.first_kind a n ≡ x) × (length n + length x ≡ length a + 1)
activity_known T s a d n m k x K is = (sym K.activity ∙ is, subst (λ (y : List Activity). length n + length y ≡ length a + 1) is K.activities)

leg_known : (T : ScoringRows) (s : Scorer) (a : List Activity) (d : List Leg) (n m k : List ℕ) (x : List Leg)
    → Keeps T s a d n m k → leg_of s.doing ≡ x → (drop (length m) d ≡ x) × (length m + length x ≡ length d)
leg_known T s a d n m k x K is = (sym K.leg ∙ is, subst (λ (y : List Leg). length m + length y ≡ length d) is K.legs)

-- the first activity ends
pub first-ends : (T : ScoringRows) (s : Scorer) (a : List Activity) (d : List Leg) (n m k : List ℕ) (t kind since : ℕ)
    → Keeps T s a d n m k → s.doing ≡ doing.Activity kind since → s.first_end ≡ None
    → Keeps T (record s { first_end = Some t; doing = doing.Leaving }) a d (n ++ t ∷ []) m k
unfolding settled
first-ends T s a d [] m k t kind since K is first =
    let A = activity_known T s a d [] m k ((kind, since) ∷ []) K (ap activity_of is) in
    let L = leg_known T s a d [] m k [] K (ap leg_of is) in
    let count : length a ≡ 0 = omega (arith, A.1) in
    record {
      left = refl;
      activity = sym (drop-close ((s.first_kind, 0) ∷ a) [] t (omega arith));
      activities = omega arith;
      leg = sym L.0;
      legs = L.1;
      sum = K.sum ∙ rw (zip-nil {A = Activity} {B = ℕ} a);
    }
first-ends T s a d (x ∷ n) m k t kind since K is first = absurd (let e = K.left in cc)

-- another activity ends
pub activity-ends : (T : ScoringRows) (s : Scorer) (a : List Activity) (d : List Leg) (n m k : List ℕ) (t kind since left : ℕ)
    → Keeps T s a d n m k → s.doing ≡ doing.Activity kind since → s.first_end ≡ Some left
    → Keeps T (record s { doing = doing.Leaving; sum = s.sum +ℤ activity_worth T.tables kind (t - since) }) a d (n ++ t ∷ []) m k
unfolding settled
activity-ends T s a d [] m k t kind since left K is first = absurd (let e = K.left in cc)
activity-ends T s a d (x ∷ n) m k t kind since left K is first =
    let A = activity_known T s a d (x ∷ n) m k ((kind, since) ∷ []) K (ap activity_of is) in
    let L = leg_known T s a d (x ∷ n) m k [] K (ap leg_of is) in
    let pairs : zip a (n ++ t ∷ []) ≡ zip a n ++ ((kind, since), t) ∷ [] = zip-close a n (kind, since) t A.0 in
    let more : spells_worth T (map until (zip a (n ++ t ∷ []))) ≡ spells_worth T (map until (zip a n)) +ℤ activity_worth T.tables kind (t - since) =
    ap (λ z. spells_worth T (map until z)) pairs ∙ ap (spells_worth T) (map-append until (zip a n) (((kind, since), t) ∷ []))
    ∙ total-push (spell_worth T) (map until (zip a n)) (until ((kind, since), t)) in
    record {
      left = K.left;
      activity = sym (drop-close ((s.first_kind, 0) ∷ a) (x ∷ n) t (omega (arith, A.1)));
      activities = omega (arith, A.1, length-append n (t ∷ []));
      leg = sym L.0;
      legs = L.1;
      sum = grow_first s.sum (spells_worth T (map until (zip a n))) (rides_worth T d m) (lateness_costs T a) (stuck_costs T k)
          (spells_worth T (map until (zip a (n ++ t ∷ [])))) (activity_worth T.tables kind (t - since)) K.sum more;
    }

-- a leg departs
pub leg-begins : (T : ScoringRows) (s : Scorer) (a : List Activity) (d : List Leg) (n m k : List ℕ) (t : ℕ) (mode : Mode)
    → Keeps T s a d n m k → s.doing ≡ doing.Leaving
    → Keeps T (record s { doing = doing.Leg mode t }) a (d ++ (mode, t) ∷ []) n m k
unfolding settled
leg-begins T s a d n m k t mode K is =
    let A = activity_known T s a d n m k [] K (ap activity_of is) in
    let L = leg_known T s a d n m k [] K (ap leg_of is) in
    let even : length m ≡ length d = omega (arith, L.1) in
    record {
      left = K.left;
      activity = sym A.0;
      activities = A.1;
      leg = sym (drop-open d m (mode, t) even);
      legs = omega (arith, L.1, length-append d ((mode, t) ∷ []));
      sum = K.sum ∙ ap (λ z. spells_worth T (drop 1 (map until (ended s.first_kind a n))) +ℤ total (map (ride_worth T) z) +ℤ lateness_costs T a +ℤ stuck_costs T k) (sym (zip-open d m (mode, t) even));
    }

-- a leg ends, and something is paid besides
pub leg-ends : (T : ScoringRows) (s : Scorer) (a : List Activity) (d : List Leg) (n m k l : List ℕ) (t since : ℕ) (mode : Mode) (paid : ℤ) (next : Doing)
    → Keeps T s a d n m k → s.doing ≡ doing.Leg mode since → stuck_costs T l ≡ stuck_costs T k +ℤ paid → activity_of next ≡ [] → leg_of next ≡ []
    → Keeps T (record s { doing = next; sum = s.sum +ℤ (leg_worth T.modes mode (t - since) +ℤ paid) }) a d n (m ++ t ∷ []) l
unfolding settled
leg-ends T s a d n m k l t since mode paid next K is costs no_activity no_leg =
    let A = activity_known T s a d n m k [] K (ap activity_of is) in
    let L = leg_known T s a d n m k ((mode, since) ∷ []) K (ap leg_of is) in
    let more : rides_worth T d (m ++ t ∷ []) ≡ rides_worth T d m +ℤ leg_worth T.modes mode (t - since) =
    ap (λ z. total (map (ride_worth T) z)) (zip-close d m (mode, since) t L.0) ∙ total-push (ride_worth T) (zip d m) ((mode, since), t) in
    record {
      left = K.left;
      activity = no_activity ∙ sym A.0;
      activities = subst (λ (y : List Activity). length n + length y ≡ length a + 1) (sym no_activity) A.1;
      leg = no_leg ∙ sym (drop-close d m t L.1);
      legs = subst (λ (y : List Leg). length (m ++ t ∷ []) + length y ≡ length d) (sym no_leg) (omega (arith, L.1, length-append m (t ∷ [])));
      sum = grow_both s.sum (spells_worth T (drop 1 (map until (ended s.first_kind a n)))) (rides_worth T d m) (lateness_costs T a) (stuck_costs T k)
          (rides_worth T d (m ++ t ∷ [])) (stuck_costs T l) (leg_worth T.modes mode (t - since)) paid K.sum more costs;
    }

-- an activity starts
pub activity-begins : (T : ScoringRows) (s : Scorer) (a : List Activity) (d : List Leg) (n m k : List ℕ) (t kind : ℕ)
    → Keeps T s a d n m k → s.doing ≡ doing.Arriving
    → Keeps T (record s { doing = doing.Activity kind t; sum = s.sum +ℤ T.late_per_second *ℤ pos (seconds_late T.tables kind t) }) (a ++ (kind, t) ∷ []) d n m k
unfolding settled
activity-begins T s a d n m k t kind K is =
    let A = activity_known T s a d n m k [] K (ap activity_of is) in
    let L = leg_known T s a d n m k [] K (ap leg_of is) in
    let even : length n ≡ length ((s.first_kind, 0) ∷ a) = omega (arith, A.1) in
    let same : spells_worth T (drop 1 (map until (ended s.first_kind (a ++ (kind, t) ∷ []) n))) ≡ spells_worth T (drop 1 (map until (ended s.first_kind a n))) =
    ap (λ z. spells_worth T (drop 1 (map until z))) (zip-open ((s.first_kind, 0) ∷ a) n (kind, t) even) in
    record {
      left = K.left;
      activity = sym (drop-open ((s.first_kind, 0) ∷ a) n (kind, t) even);
      activities = omega (arith, A.1, length-append a ((kind, t) ∷ []));
      leg = sym L.0;
      legs = L.1;
      sum = grow_third s.sum (spells_worth T (drop 1 (map until (ended s.first_kind a n)))) (rides_worth T d m) (lateness_costs T a) (stuck_costs T k)
          (spells_worth T (drop 1 (map until (ended s.first_kind (a ++ (kind, t) ∷ []) n)))) (lateness_costs T (a ++ (kind, t) ∷ []))
          (T.late_per_second *ℤ pos (seconds_late T.tables kind t)) K.sum same (total-push (lateness_cost T) a (kind, t));
    }
