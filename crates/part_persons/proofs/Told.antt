-- Who is told of is followed, and nobody else is changed.
use Rattle.std.proofs.Common.{◌≡◌, ◌≢◌, ℕ, ◌+◌, ◌<◌, ◌≤◌, Bool, true, false, List, [], ◌∷◌, ◌++◌, length, get_or, refl, ap, sym, ◌∙◌, inl, inr, arith, eqb}
use Rattle.std.proofs.lemmas.{Bool.cases_Bool, Bool.eqb-true, Bool.eqb-false, Bool.or_parts, Bool.lt-ltb, List.get_or-set_same, List.get_or-set_other}
use Rattle.std.{proofs.lemmas.List.length-set, specs.List.flat_map}
use Rattle.std.specs.Prelude.{Option, None, Some, nat_lt, ◌||◌, set}
use Rattle.traffic.{proofs.Sublists.persons-length, specs.Moves.told, specs.Moves.run, specs.Moves.done, specs.Moves.persons_by, specs.Moves.persons_after}
use Rattle.rows.specs.declared.plan.Leg.{Leg}
use Rattle.traffic.specs.declared.world.Place.{Place, TheVariants.At, TheVariants.Teleporting, TheVariants.Waiting, TheVariants.Riding, TheVariants.Aborted}
use Rattle.traffic.specs.{Rows.World, Rows.nobody, Setup.Setup, Setup.leg_at, declared.moves.Move.Move, declared.moves.Occurrence.Occurrence, declared.world.Person.Person}
use Rattle.calendar.specs.Waking.{wake_of, within}
use Rattle.part_persons.{proofs.Following.followed_length, specs.Dues.person_due, specs.Dues.due_at_place, specs.Dues.is_riding, specs.Dues.followed, specs.Dues.followed_all, specs.Dues.AreFollowed}

-- whether a person is told of
pub is_his : ℕ → Option ℕ → Bool
is_his i None = false
is_his i (Some j) = eqb j i

pub mentions : ℕ → List Occurrence → Bool
mentions i [] = false
mentions i (e ∷ es) = is_his i e.person || mentions i es

-- NOBODY ELSE
other_by : (S : Setup) (t i : ℕ) (e : Occurrence) (o : Option ℕ) (ps : List Person) → is_his i o ≡ false → get_or (persons_by S t e o ps) i nobody ≡ get_or ps i nobody
unfolding is_his
other_by S t i e None ps h = refl
other_by S t i e (Some j) ps h = get_or-set_other ps j i _ nobody (λ q. eqb-false j i h (sym q))

pub other_after : (S : Setup) (t i : ℕ) (es : List Occurrence) (ps : List Person) → mentions i es ≡ false → get_or (persons_after S t es ps) i nobody ≡ get_or ps i nobody
unfolding mentions
other_after S t i [] ps h = refl
other_after S t i (e ∷ es) ps h =
    let p = or_parts (is_his i e.person) (mentions i es) h in
    other_after S t i es (persons_by S t e e.person ps) p.1 ∙ other_by S t i e e.person ps p.0

other_wake : (S : Setup) (end i : ℕ) (persons : List Person) (o : Option ℕ) (wakes : List (Option ℕ)) → is_his i o ≡ false → wake_of (followed S end persons o wakes) i ≡ wake_of wakes i
unfolding is_his
other_wake S end i persons None wakes h = refl
other_wake S end i persons (Some j) wakes h =
    elim (cases_Bool (nat_lt j (length persons))) [
      | inl e ↦ simp e (get_or-set_other wakes j i (within end (person_due S j (get_or persons j nobody))) None (λ q. eqb-false j i h (sym q)))
      | inr e ↦ simp e refl
    ]

other_wakes : (S : Setup) (end i : ℕ) (persons : List Person) (es : List Occurrence) (wakes : List (Option ℕ)) → mentions i es ≡ false → wake_of (followed_all S end persons es wakes) i ≡ wake_of wakes i
unfolding mentions followed_all
other_wakes S end i persons [] wakes h = refl
other_wakes S end i persons (e ∷ es) wakes h =
    let p = or_parts (is_his i e.person) (mentions i es) h in
    other_wakes S end i persons es (followed S end persons e.person wakes) p.1 ∙ other_wake S end i persons e.person wakes p.0

-- WHO IS TOLD OF
either : (a b : Bool) → (a || b) ≡ true → b ≡ false → a ≡ true
either true b h m = refl
either false b h m = absurd (cc)

his_wake : (S : Setup) (end i : ℕ) (persons : List Person) (o : Option ℕ) (wakes : List (Option ℕ)) → is_his i o ≡ true → i < length persons → length wakes ≡ length persons
    → wake_of (followed S end persons o wakes) i ≡ within end (person_due S i (get_or persons i nobody))
unfolding is_his
his_wake S end i persons None wakes h lt n = absurd (cc)
his_wake S end i persons (Some j) wakes h lt n =
    let q = eqb-true j i h in
    let e : nat_lt i (length persons) ≡ true = lt-ltb i (length persons) lt in
    let within_wakes : i < length wakes = omega arith in
    rw q (simp e (get_or-set_same wakes i (within end (person_due S i (get_or persons i nobody))) None within_wakes))

his_wakes : (S : Setup) (end i : ℕ) (persons : List Person) (es : List Occurrence) (wakes : List (Option ℕ)) → mentions i es ≡ true → i < length persons → length wakes ≡ length persons
    → wake_of (followed_all S end persons es wakes) i ≡ within end (person_due S i (get_or persons i nobody))
unfolding mentions followed_all
his_wakes S end i persons [] wakes h lt n = absurd (cc)
his_wakes S end i persons (e ∷ es) wakes h lt n =
    let later = followed S end persons e.person wakes in
    elim (cases_Bool (mentions i es)) [
      | inl m ↦ his_wakes S end i persons es later m lt (followed_length S end persons e.person wakes ∙ n)
      | inr m ↦
          let g : is_his i e.person ≡ true = either (is_his i e.person) (mentions i es) h m in
          other_wakes S end i persons es later m ∙ his_wake S end i persons e.person wakes g lt n
    ]

pub followed_all_length : (S : Setup) (end : ℕ) (persons : List Person) (es : List Occurrence) (wakes : List (Option ℕ)) → length (followed_all S end persons es wakes) ≡ length wakes
unfolding followed_all
followed_all_length S end persons [] wakes = refl
followed_all_length S end persons (e ∷ es) wakes =
    followed_all_length S end persons es (followed S end persons e.person wakes) ∙ followed_length S end persons e.person wakes

-- ALL TOGETHER
in_time : (u end : ℕ) (o : Option ℕ) → u < end → o ≡ Some u → within end o ≡ Some u
in_time u end o lt e = let f : nat_lt u end ≡ true = lt-ltb u end lt in rw e (simp f refl)

pub all_followed : (S : Setup) (end t s : ℕ) (es : List Occurrence) (persons now : List Person) (wakes later : List (Option ℕ)) → length wakes ≡ length persons
    → now ≡ persons_after S t es persons → later ≡ followed_all S end now es wakes
    → AreFollowed S end s persons wakes → AreFollowed S end s now later
all_followed S end t s es persons now wakes later n e f h = λ i u lt from to due.
    let same : length now ≡ length persons = ap length e ∙ persons-length S t es persons in
    let within_old : i < length persons = omega arith in
    rw f (elim (cases_Bool (mentions i es)) [
      | inl m ↦ his_wakes S end i now es wakes m lt (n ∙ sym same) ∙ in_time u end (person_due S i (get_or now i nobody)) to due
      | inr m ↦
          let p : get_or now i nobody ≡ get_or persons i nobody = ap (λ (ps : List Person). get_or ps i nobody) e ∙ other_after S t i es persons m in
          other_wakes S end i now es wakes m ∙ h i u within_old from to (sym (ap (person_due S i) p) ∙ due)
    ])

-- what moves do to the persons is what they tell
persons_both : (S : Setup) (t : ℕ) (xs ys : List Occurrence) (ps : List Person) → persons_after S t (xs ++ ys) ps ≡ persons_after S t ys (persons_after S t xs ps)
persons_both S t [] ys ps = refl
persons_both S t (x ∷ xs) ys ps = persons_both S t xs ys (persons_by S t x x.person ps)

pub run_persons : (S : Setup) (t : ℕ) (ms : List Move) (W : World) → (run S t ms W).persons ≡ persons_after S t (flat_map told ms) W.persons
run_persons S t [] W = refl
run_persons S t (m ∷ ms) W = run_persons S t ms (done S t m W) ∙ sym (persons_both S t (told m) (flat_map told ms) W.persons)

-- A TURN
pub followed_by : (S : Setup) (end t s : ℕ) (ms : List Move) (es : List Occurrence) (W V : World) (wakes later : List (Option ℕ))
    → length wakes ≡ length W.persons → V ≡ run S t ms W → es ≡ flat_map told ms → later ≡ followed_all S end V.persons es wakes
    → AreFollowed S end s W.persons wakes → AreFollowed S end s V.persons later
followed_by S end t s ms es W V wakes later n v e f h =
    let p : V.persons ≡ persons_after S t es W.persons
    = ap (λ (X : World). X.persons) v ∙ run_persons S t ms W ∙ ap (λ (xs : List Occurrence). persons_after S t xs W.persons) (sym e) in
    all_followed S end t s es W.persons V.persons wakes later n p f h

pub wakes_by : (S : Setup) (end t : ℕ) (ms : List Move) (es : List Occurrence) (W V : World) (wakes later : List (Option ℕ))
    → length wakes ≡ length W.persons → V ≡ run S t ms W → later ≡ followed_all S end V.persons es wakes → length later ≡ length V.persons
wakes_by S end t ms es W V wakes later n v f =
    ap length f ∙ followed_all_length S end V.persons es wakes ∙ n
    ∙ sym (ap (λ (X : World). length X.persons) v ∙ ap length (run_persons S t ms W) ∙ persons-length S t (flat_map told ms) W.persons)

pub persons_stay : (S : Setup) (t : ℕ) (ms : List Move) (W V : World) → V ≡ run S t ms W → length V.persons ≡ length W.persons
persons_stay S t ms W V v = ap (λ (X : World). length X.persons) v ∙ ap length (run_persons S t ms W) ∙ persons-length S t (flat_map told ms) W.persons

-- WHAT OTHERS TELL
pub heard_stay : (S : Setup) (t : ℕ) (es : List Occurrence) (W V : World) → V ≡ record W { persons = persons_after S t es W.persons }
    → length V.persons ≡ length W.persons
heard_stay S t es W V v = ap (λ (X : World). length X.persons) v ∙ persons-length S t es W.persons

pub heard_followed : (S : Setup) (end t s : ℕ) (es : List Occurrence) (W V : World) (wakes later : List (Option ℕ))
    → length wakes ≡ length W.persons → V ≡ record W { persons = persons_after S t es W.persons } → later ≡ followed_all S end V.persons es wakes
    → AreFollowed S end s W.persons wakes → AreFollowed S end s V.persons later
heard_followed S end t s es W V wakes later n v f h =
    all_followed S end t s es W.persons V.persons wakes later n (ap (λ (X : World). X.persons) v) f h

pub heard_wakes : (S : Setup) (end t : ℕ) (es : List Occurrence) (W V : World) (wakes later : List (Option ℕ))
    → length wakes ≡ length W.persons → V ≡ record W { persons = persons_after S t es W.persons } → later ≡ followed_all S end V.persons es wakes
    → length later ≡ length V.persons
heard_wakes S end t es W V wakes later n v f =
    ap length f ∙ followed_all_length S end V.persons es wakes ∙ n ∙ sym (heard_stay S t es W V v)

-- EVERYBODY
-- of those below k each who has something to do by himself before the end is looked at in it
abbrev pub AreFollowedBelow : Setup → ℕ → ℕ → List Person → List (Option ℕ) → Type 0
AreFollowedBelow S end k persons wakes =
    (i u : ℕ) → i < k → i < length persons → u < end → person_due S i (get_or persons i nobody) ≡ Some u → wake_of wakes i ≡ Some u

pub one_more : (S : Setup) (end k : ℕ) (persons : List Person) (wakes later : List (Option ℕ)) → length wakes ≡ length persons
    → later ≡ followed S end persons (Some k) wakes → AreFollowedBelow S end k persons wakes → AreFollowedBelow S end (k + 1) persons later
unfolding is_his
one_more S end k persons wakes later n e h = λ i u lt there to due.
    ap (λ (xs : List (Option ℕ)). wake_of xs i) e
    ∙ elim (cases_Bool (eqb k i)) [
      | inl q ↦ his_wake S end i persons (Some k) wakes q there n ∙ in_time u end (person_due S i (get_or persons i nobody)) to due
      | inr q ↦ let ne : k ≢ i = eqb-false k i q in other_wake S end i persons (Some k) wakes q ∙ h i u (omega arith) there to due
    ]

-- for whom nobody stands has nothing to do
pub nobody_more : (S : Setup) (end k : ℕ) (persons : List Person) (wakes : List (Option ℕ)) → (k < length persons → get_or persons k nobody ≡ nobody)
    → AreFollowedBelow S end k persons wakes → AreFollowedBelow S end (k + 1) persons wakes
nobody_more S end k persons wakes none h = λ i u lt there to due.
    elim (cases_Bool (eqb k i)) [
      | inl q ↦
          let own : k ≡ i = eqb-true k i q in
          let gone : get_or persons i nobody ≡ nobody = ap (λ (j : ℕ). get_or persons j nobody) (sym own) ∙ none (omega arith) in
          absurd (let z : None ≡ Some u = sym (ap (person_due S i) gone) ∙ due in cc)
      | inr q ↦ let ne : k ≢ i = eqb-false k i q in h i u (omega arith) there to due
    ]

pub everybody_followed : (S : Setup) (end k t : ℕ) (persons : List Person) (wakes : List (Option ℕ)) → length persons ≤ k
    → AreFollowedBelow S end k persons wakes → AreFollowed S end t persons wakes
everybody_followed S end k t persons wakes le h = λ i u there from to due. h i u (omega arith) there to due

-- ONE WHO COMES OR GOES
pub one_followed : (S : Setup) (end i : ℕ) (P : Person) (persons now : List Person) (wakes later : List (Option ℕ)) → length wakes ≡ length persons
    → now ≡ set persons i P → later ≡ followed S end now (Some i) wakes → (t : ℕ) → AreFollowed S end t persons wakes → AreFollowed S end t now later
unfolding is_his
one_followed S end i P persons now wakes later n e f t h = λ j u there from to due.
    let same : length now ≡ length persons = ap length e ∙ length-set persons i P in
    ap (λ (xs : List (Option ℕ)). wake_of xs j) f
    ∙ elim (cases_Bool (eqb i j)) [
      | inl q ↦ his_wake S end j now (Some i) wakes q there (n ∙ sym same) ∙ in_time u end (person_due S j (get_or now j nobody)) to due
      | inr q ↦
          let ne : i ≢ j = eqb-false i j q in
          let kept : get_or now j nobody ≡ get_or persons j nobody
          = ap (λ (ps : List Person). get_or ps j nobody) e ∙ get_or-set_other persons i j P nobody (λ z. ne (sym z)) in
          other_wake S end j now (Some i) wakes q ∙ h j u (omega arith) from to (sym (ap (person_due S j) kept) ∙ due)
    ]

-- who rides has nothing to do by himself
riding_waits : (w : Leg) (p : Place) → is_riding p ≡ true → due_at_place w p ≡ None
riding_waits w (At end) h = absurd (cc)
riding_waits w (Teleporting start) h = absurd (cc)
riding_waits w (Waiting stop since) h = refl
riding_waits w (Riding vehicle) h = refl
riding_waits w (Aborted link) h = refl

pub riding_idle : (S : Setup) (P : Person) → is_riding P.place ≡ true → (j : ℕ) → person_due S j P ≡ None
riding_idle S P h j = riding_waits (leg_at S j P.element) P.place h

-- who goes, or comes and has nothing to do by himself, need not be looked at
pub idle_followed : (S : Setup) (end t i : ℕ) (P : Person) (persons now : List Person) (wakes : List (Option ℕ)) → ((j : ℕ) → person_due S j P ≡ None)
    → now ≡ set persons i P → AreFollowed S end t persons wakes → AreFollowed S end t now wakes
idle_followed S end t i P persons now wakes idle e h = λ j u there from to due.
    let same : length now ≡ length persons = ap length e ∙ length-set persons i P in
    let within : j < length persons = omega arith in
    elim (cases_Bool (eqb i j)) [
      | inl q ↦
          let one : i ≡ j = eqb-true i j q in
          let his : get_or now j nobody ≡ P
          = ap (λ (ps : List Person). get_or ps j nobody) e ∙ ap (λ (k : ℕ). get_or (set persons k P) j nobody) one
          ∙ get_or-set_same persons j P nobody within in
          absurd (let z : None ≡ Some u = sym (ap (person_due S j) his ∙ idle j) ∙ due in cc)
      | inr q ↦
          let ne : i ≢ j = eqb-false i j q in
          let kept : get_or now j nobody ≡ get_or persons j nobody
          = ap (λ (ps : List Person). get_or ps j nobody) e ∙ get_or-set_other persons i j P nobody (λ z. ne (sym z)) in
          h j u within from to (sym (ap (person_due S j) kept) ∙ due)
    ]
