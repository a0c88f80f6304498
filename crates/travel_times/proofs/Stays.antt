-- The stays that one more event ends: at most one, that of the car that it tells of, on the link that the car has entered.
use Rattle.std.proofs.Common.{◌≡◌, ℕ, suc, ◌+◌, ◌-◌, ◌<◌, Bool, true, false, cond, ◌&&◌, List, [], ◌∷◌, ◌++◌, length, get_or, fold, Option}
use Rattle.std.proofs.Common.{None, Some, ◌⊎◌, inl, inr, refl, sym, ◌∙◌, ap, arith}
use Rattle.std.proofs.lemmas.{Bool.cases_Bool, Bool.cases_eq, Bool.eq-eqb, Bool.eqb-true, Bool.ne_eqb, List.Folds.find-append, List.Sums.fold_push}
use Rattle.std.{proofs.lemmas.List.Sums.sum_by-cons, specs.List.cons_option, specs.Option.option_eq}
use Rattle.std.specs.{Option.option_map, Option.option_map_or, Option.option_or, Prelude.nat_eq, Prelude.find, Prelude.sum_by, Prelude.option_and_then}
use Rattle.events.specs.declared.event.Event.{Event}
use Rattle.travel_times.specs.Observed.{car_of, tells_of, is_entry, enters, leaves, bin_of, seconds_until, observed_from, observed}
use Rattle.travel_times.specs.{Tallies.entry_of, Tallies.ended_stay, Tallies.entry_after, declared.observations.Entry.Entry}

abbrev pub step : ℕ → Option Entry → Event → Option Entry
step car last event = cond (tells_of car event) (entry_of event) last

-- an event of another car, or of none, leaves a car where it is
pub entry_other : (car : ℕ) (events : List Event) (x : Event) → tells_of car x ≡ false → entry_after car (events ++ x ∷ [])
    ≡ entry_after car events
unfolding entry_after
entry_other car events x apart = fold_push (step car) None events x ∙ ap
    (λ (b : Bool). cond b (entry_of x) (fold (step car) None events)) apart

-- an event of the car tells where it is
pub entry_own : (car : ℕ) (events : List Event) (x : Event) → tells_of car x ≡ true → entry_after car (events ++ x ∷ []) ≡ entry_of x
unfolding entry_after
entry_own car events x own = fold_push (step car) None events x ∙ ap (λ (b : Bool). cond b (entry_of x) (fold (step car) None events)) own

pub tells_same : (car c : ℕ) (x : Event) → car_of x.vehicle ≡ Some c → tells_of car x ≡ nat_eq c car
tells_same car c x is = ap (λ (o : Option ℕ). option_eq nat_eq o (Some car)) is

pub tells_none : (car : ℕ) (x : Event) → car_of x.vehicle ≡ None → tells_of car x ≡ false
tells_none car x is = ap (λ (o : Option ℕ). option_eq nat_eq o (Some car)) is

-- where no event tells of a car, it stays where it was
unseen : (car : ℕ) (last : Option Entry) (ys : List Event) → find (tells_of car) ys ≡ None → fold (step car) last ys ≡ last
unseen car last [] e = refl
unseen car last (y ∷ ys) e =
    elim (cases_Bool (tells_of car y)) [
      | inl own ↦ let found : Some y ≡ None = sym (ap (λ (b : Bool). cond b (Some y) (find (tells_of car) ys)) own) ∙ e in absurd (cc found)
      | inr other ↦
          let rest : find (tells_of car) ys ≡ None = sym (ap (λ (b : Bool). cond b (Some y) (find (tells_of car) ys)) other) ∙ e in
          ap (λ (b : Bool). fold (step car) (cond b (entry_of y) last) ys) other ∙ unseen car last ys rest
    ]

-- where one does, it does not matter where it was
seen : (car : ℕ) (last before : Option Entry) (ys : List Event) (z : Event) → find (tells_of car) ys ≡ Some z → fold (step car) last ys
    ≡ fold (step car) before ys
seen car last before [] z e = absurd (cc e)
seen car last before (y ∷ ys) z e =
    elim (cases_Bool (tells_of car y)) [
      | inl own ↦
          ap (λ (b : Bool). fold (step car) (cond b (entry_of y) last) ys) own ∙ sym
          (ap (λ (b : Bool). fold (step car) (cond b (entry_of y) before) ys) own)
      | inr other ↦
          let rest : find (tells_of car) ys ≡ Some z = sym (ap (λ (b : Bool). cond b (Some y) (find (tells_of car) ys)) other) ∙ e in
          ap (λ (b : Bool). fold (step car) (cond b (entry_of y) last) ys) other ∙ seen car last before ys z rest
          ∙ sym (ap (λ (b : Bool). fold (step car) (cond b (entry_of y) before) ys) other)
    ]

-- what some seconds count for, where there are any
abbrev pub weight : (ℕ → ℕ) → Option ℕ → ℕ
weight f seconds = option_map_or f seconds 0

unfoldable pub total : (ℕ → ℕ) → ℕ → ℕ → List Event → ℕ
total f link bin events = sum_by f (observed link bin events)

sum-cons_option : (f : ℕ → ℕ) (o : Option ℕ) (xs : List ℕ) → sum_by f (cons_option o xs) ≡ weight f o + sum_by f xs
sum-cons_option f None xs = at_none (sum_by f xs)
  where
    at_none : (n : ℕ) → n ≡ 0 + n
    at_none n = omega arith
sum-cons_option f (Some x) xs = sum_by-cons f x xs

total-cons : (f : ℕ → ℕ) (link bin : ℕ) (y : Event) (ys : List Event) → total f link bin (y ∷ ys)
    ≡ weight f (observed_from link bin y ys) + total f link bin ys
unfolding total observed
total-cons f link bin y ys = sum-cons_option f (observed_from link bin y ys) (observed link bin ys)

none_either : (b : Bool) → cond {A = Option ℕ} b None None ≡ None
none_either true = refl
none_either false = refl

-- the event begins a stay on this link in this bin
abbrev begins : ℕ → ℕ → Event → Bool
begins link bin y = enters link y && nat_eq (bin_of y) bin

from_none : (link bin : ℕ) (y : Event) (later : List Event) → car_of y.vehicle ≡ None → observed_from link bin y later ≡ None
from_none link bin y later none =
    ap (λ (o : Option ℕ). cond (begins link bin y) (option_and_then (λ car. seconds_until link y.key.second car later) o) None) none ∙
    none_either (begins link bin y)

from_car : (link bin c : ℕ) (y : Event) (later : List Event) → car_of y.vehicle ≡ Some c
    → observed_from link bin y later ≡ cond (begins link bin y) (seconds_until link y.key.second c later) None
from_car link bin c y later is =
    ap (λ (o : Option ℕ). cond (begins link bin y) (option_and_then (λ car. seconds_until link y.key.second car later) o) None) is

-- the seconds of a stay by the next event of the car
abbrev ends_by : ℕ → ℕ → Option Event → Option ℕ
ends_by link second next = option_and_then (λ n. cond (leaves link n) (Some (n.key.second - second)) None) next

same_next : (link bin c : ℕ) (y : Event) (later other : List Event) (next : Option Event) → car_of y.vehicle ≡ Some c →
    find (tells_of c) later ≡ next → find (tells_of c) other ≡ next
    → observed_from link bin y later ≡ observed_from link bin y other
same_next link bin c y later other next is first second =
    from_car link bin c y later is ∙ ap (λ (o : Option Event). cond (begins link bin y) (ends_by link y.key.second o) None)
    (first ∙ sym second) ∙ sym (from_car link bin c y other is)

-- a stay that the very next event of the car ends
ended_at_once : (link bin : ℕ) (y x : Event) → cond (begins link bin y) (ends_by link y.key.second (Some x)) None
    ≡ ended_stay link bin (entry_of y) x
ended_at_once link bin y x = by_word (is_entry y.word) y.link
  where
    by_link : (l : ℕ) (here in_bin : Bool) → nat_eq l link ≡ here
        → cond (here && in_bin) (cond (leaves link x) (Some (x.key.second - y.key.second)) None) None
        ≡ cond (here && in_bin) (cond (leaves l x) (Some (x.key.second - y.key.second)) None) None
    by_link l true in_bin same =
        ap (λ (k : ℕ). cond in_bin (cond (leaves k x) (Some (x.key.second - y.key.second)) None) None) (sym (eqb-true l link same))
    by_link l false in_bin same = refl

    by_word : (entry : Bool) (at : Option ℕ)
        → cond (entry && option_eq nat_eq at (Some link) && nat_eq (bin_of y) bin) (ends_by link y.key.second (Some x)) None
        ≡ ended_stay link bin (cond entry (option_map (λ l. record { link = l; second = y.key.second }) at) None) x
    by_word false at = refl
    by_word true None = refl
    by_word true (Some l) = by_link l (nat_eq l link) (nat_eq (bin_of y) bin) refl

find_push : (c : ℕ) (ys : List Event) (x : Event) (found : Option Event) → find (tells_of c) ys ≡ found
    → find (tells_of c) (ys ++ x ∷ []) ≡ option_or found (cond (tells_of c x) (Some x) None)
find_push c ys x found e = find-append (tells_of c) ys (x ∷ []) ∙ ap
    (λ (o : Option Event). option_or o (cond (tells_of c x) (Some x) None)) e

or_none : {T : Type 0} → (o : Option T) → option_or o None ≡ o
or_none None = refl
or_none (Some x) = refl

-- an event of another car ends no stay of this one
find_other : (c : ℕ) (ys : List Event) (x : Event) → tells_of c x ≡ false → find (tells_of c) (ys ++ x ∷ []) ≡ find (tells_of c) ys
find_other c ys x apart =
    find_push c ys x (find (tells_of c) ys) refl ∙ ap (λ (b : Bool). option_or (find (tells_of c) ys) (cond b (Some x) None)) apart ∙
    or_none (find (tells_of c) ys)

-- what the first event of a list counts for, where an event of a car is added
abbrev Pushes : (ℕ → ℕ) → ℕ → ℕ → ℕ → Event → List Event → Event → Type 0
Pushes f link bin c y ys x =
    weight f (observed_from link bin y (ys ++ x ∷ [])) + weight f (ended_stay link bin (entry_after c ys) x)
    ≡ weight f (observed_from link bin y ys) + weight f (ended_stay link bin (entry_after c (y ∷ ys)) x)

-- it is the same where the first event is not the one that begins the stay
pushes_apart : (f : ℕ → ℕ) (link bin c : ℕ) (y : Event) (ys : List Event) (x : Event) → observed_from link bin y (ys ++ x ∷ [])
    ≡ observed_from link bin y ys
    → entry_after c (y ∷ ys) ≡ entry_after c ys → Pushes f link bin c y ys x
pushes_apart f link bin c y ys x same before =
    ap (λ (o : Option ℕ). weight f o + weight f (ended_stay link bin (entry_after c ys) x)) same
    ∙ ap (λ (e : Option Entry). weight f (observed_from link bin y ys) + weight f (ended_stay link bin e x)) (sym before)

entry_first_other : (c : ℕ) (y : Event) (ys : List Event) → tells_of c y ≡ false → entry_after c (y ∷ ys) ≡ entry_after c ys
unfolding entry_after
entry_first_other c y ys apart = ap (λ (b : Bool). fold (step c) (cond b (entry_of y) None) ys) apart

entry_first_seen : (c : ℕ) (y : Event) (ys : List Event) (z : Event) → find (tells_of c) ys ≡ Some z → entry_after c (y ∷ ys)
    ≡ entry_after c ys
unfolding entry_after
entry_first_seen c y ys z e = seen c (step c None y) None ys z e

entry_first_own : (c : ℕ) (y : Event) (ys : List Event) → tells_of c y ≡ true → find (tells_of c) ys ≡ None →
    (entry_after c (y ∷ ys) ≡ entry_of y) × (entry_after c ys ≡ None)
unfolding entry_after
entry_first_own c y ys own e =
    (ap (λ (b : Bool). fold (step c) (cond b (entry_of y) None) ys) own ∙ unseen c (entry_of y) ys e, unseen c None ys e)

pushes : (f : ℕ → ℕ) (link bin c : ℕ) (y : Event) (ys : List Event) (x : Event) → car_of x.vehicle ≡ Some c → Pushes f link bin c y ys x
pushes f link bin c y ys x told = by_car (car_of y.vehicle) refl
  where
    itself : tells_of c x ≡ true
    itself = tells_same c c x told ∙ eq-eqb c c refl

    own_car : car_of y.vehicle ≡ Some c → (found : Option Event) → find (tells_of c) ys ≡ found → Pushes f link bin c y ys x
    own_car is (Some z) e = pushes_apart f link bin c y ys x
        (same_next link bin c y (ys ++ x ∷ []) ys (Some z) is (find_push c ys x (Some z) e) e) (entry_first_seen c y ys z e)
    own_car is None e =
        let first = entry_first_own c y ys (tells_same c c y is ∙ eq-eqb c c refl) e in
        let next : find (tells_of c) (ys ++ x ∷ []) ≡ Some x = find_push c ys x None e ∙ ap (λ (b : Bool). cond b (Some x) None) itself in
        let now : observed_from link bin y (ys ++ x ∷ []) ≡ ended_stay link bin (entry_of y) x =
        from_car link bin c y (ys ++ x ∷ []) is ∙ ap (λ (o : Option Event). cond (begins link bin y) (ends_by link y.key.second o) None)
        next ∙ ended_at_once link bin y x in
        let before : observed_from link bin y ys ≡ None =
        from_car link bin c y ys is ∙ ap (λ (o : Option Event). cond (begins link bin y) (ends_by link y.key.second o) None) e ∙
        none_either (begins link bin y) in
        ap (λ (o : Option ℕ). weight f o + weight f (ended_stay link bin (entry_after c ys) x)) now
        ∙ ap (λ (e : Option Entry). weight f (ended_stay link bin (entry_of y) x) + weight f (ended_stay link bin e x)) first.1
        ∙ turned (weight f (ended_stay link bin (entry_of y) x))
        ∙ ap (λ (e : Option Entry). 0 + weight f (ended_stay link bin e x)) (sym first.0)
        ∙ ap (λ (o : Option ℕ). weight f o + weight f (ended_stay link bin (entry_after c (y ∷ ys)) x)) (sym before)
      where
        turned : (n : ℕ) → n + 0 ≡ 0 + n
        turned n = omega arith

    by_car : (o : Option ℕ) → car_of y.vehicle ≡ o → Pushes f link bin c y ys x
    by_car None is =
        pushes_apart f link bin c y ys x (from_none link bin y (ys ++ x ∷ []) is ∙ sym (from_none link bin y ys is))
        (entry_first_other c y ys (tells_none c y is))
    by_car (Some d) is =
        elim (cases_eq d c) [
          | inl same ↦ own_car (is ∙ ap (λ (n : ℕ). Some n) same) (find (tells_of c) ys) refl
          | inr apart ↦
              let differ : tells_of d x ≡ false = tells_same d c x told ∙ ne_eqb c d (λ same. apart (sym same)) in
              pushes_apart f link bin c y ys x (same_next link bin d y (ys ++ x ∷ []) ys (find (tells_of d) ys) is
              (find_other d ys x differ) refl)
              (entry_first_other c y ys (tells_same c d y is ∙ ne_eqb d c apart))
        ]

total_alone : (f : ℕ → ℕ) (link bin c : ℕ) (x : Event) → car_of x.vehicle ≡ Some c
    → total f link bin (x ∷ []) ≡ total f link bin [] + weight f (ended_stay link bin (entry_after c []) x)
unfolding total observed entry_after
total_alone f link bin c x told =
    total-cons f link bin x [] ∙ ap (λ (o : Option ℕ). weight f o + total f link bin [])
    (from_car link bin c x [] told ∙ none_either (begins link bin x))

-- one more event of a car counts for the stay that it ends
pub total_car : (f : ℕ → ℕ) (link bin c : ℕ) (events : List Event) (x : Event) → car_of x.vehicle ≡ Some c
    → total f link bin (events ++ x ∷ []) ≡ total f link bin events + weight f (ended_stay link bin (entry_after c events) x)
total_car f link bin c [] x told = total_alone f link bin c x told
total_car f link bin c (y ∷ ys) x told =
    let rest = total_car f link bin c ys x told in
    let first = pushes f link bin c y ys x told in
    let whole = total-cons f link bin y (ys ++ x ∷ []) in
    let before = total-cons f link bin y ys in
    omega arith

-- one more event of no car counts for nothing
pub observed_other : (link bin : ℕ) (events : List Event) (x : Event) → car_of x.vehicle ≡ None → observed link bin (events ++ x ∷ [])
    ≡ observed link bin events
unfolding observed
observed_other link bin [] x told = ap (λ (o : Option ℕ). cons_option o []) (from_none link bin x [] told)
observed_other link bin (y ∷ ys) x told =
    ap (λ (o : Option ℕ). cons_option o (observed link bin (ys ++ x ∷ []))) (first (car_of y.vehicle) refl)
    ∙ ap (λ (xs : List ℕ). cons_option (observed_from link bin y ys) xs) (observed_other link bin ys x told)
  where
    first : (o : Option ℕ) → car_of y.vehicle ≡ o → observed_from link bin y (ys ++ x ∷ []) ≡ observed_from link bin y ys
    first None is = from_none link bin y (ys ++ x ∷ []) is ∙ sym (from_none link bin y ys is)
    first (Some d) is = same_next link bin d y (ys ++ x ∷ []) ys (find (tells_of d) ys) is (find_other d ys x (tells_none d x told)) refl

-- a car that is on a link entered it by an event
pub entered_by : (car : ℕ) (events : List Event) (entry : Entry) → entry_after car events ≡ Some entry →
    (k : ℕ) × (k < length events) × ((d : Event) → entry_of (get_or events k d) ≡ Some entry)
unfolding entry_after
entered_by car events entry e = elim (from_start car None events entry e) [ inl none ↦ absurd (cc none) | inr found ↦ found ]
  where
    from_start : (car : ℕ) (last : Option Entry) (events : List Event) (entry : Entry) → fold (step car) last events ≡ Some entry
        → (last ≡ Some entry) ⊎ ((k : ℕ) × (k < length events) × ((d : Event) → entry_of (get_or events k d) ≡ Some entry))
    from_start car last [] entry e = inl e
    from_start car last (y ∷ ys) entry e =
        elim (from_start car (step car last y) ys entry e) [
          | inl now ↦ elim (cases_Bool (tells_of car y)) [
            | inl own ↦ inr (0, omega arith, λ d. sym (ap (λ (b : Bool). cond b (entry_of y) last) own) ∙ now)
            | inr other ↦ inl (sym (ap (λ (b : Bool). cond b (entry_of y) last) other) ∙ now)
          ]
          | inr later ↦ inr (suc later.0, let within = later.1 in omega arith, later.2)
        ]

-- what an entry tells of its event
pub entry_tells : (x : Event) (entry : Entry) → entry_of x ≡ Some entry → (x.link ≡ Some entry.link) × (x.key.second ≡ entry.second)
entry_tells x entry e = by_word (is_entry x.word) x.link refl e
  where
    by_word : (b : Bool) (at : Option ℕ) → x.link ≡ at → cond b (option_map (λ l. record { link = l; second = x.key.second }) at) None
        ≡ Some entry
        → (x.link ≡ Some entry.link) × (x.key.second ≡ entry.second)
    by_word false at is none = absurd (cc none)
    by_word true None is none = absurd (cc none)
    by_word true (Some l) is some =
        let same : record { link = l; second = x.key.second } ≡ entry = cc some in
        (is ∙ ap (λ (e : Entry). Some e.link) same, ap (λ (e : Entry). e.second) same)
