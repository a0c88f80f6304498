-- A table of wakes with one second more, one less, or without those of a second that has come.
use Rattle.std.proofs.Common.{◌≡◌, ℕ, zero, suc, ◌+◌, ◌<◌, ◌≤◌, true, false, inl, inr, List, [], ◌∷◌, ◌++◌, length, get_or, refl, ap, sym, ◌∙◌, subst}
use Rattle.std.proofs.{Common.append_assoc, Common.arith, Math.Seq.set-append_seam, lemmas.Bool.cases_Bool, lemmas.Bool.eqb-true, lemmas.Bool.eqb-false}
use Rattle.std.proofs.lemmas.{Bool.eq-eqb, List.get_or-set_same, List.get_or-set_other, List.Elements.Contains-append_left, List.Elements.Contains-append_right}
use Rattle.std.specs.List.{Contains}
use Rattle.std.specs.Prelude.{map, set, replicate, filter, drop, ◌⊎◌, ◌==◌, if◌then◌else◌, Option, None, Some}
use Rattle.calendar.specs.Due.{Due, due_at, HasOneMore, HasNone}
use Rattle.calendar.specs.Waking.{wake_of, AreHung, is_second, is_woken, woken_from, woken, slept, asleep}
use Rattle.calendar.proofs.Ascending.{In, in_from, IsBelow, Asc, same_members, asc_filter, in_filter, filter_in}

-- THE CALENDAR BEHIND IT
none_wakes : (count n : ℕ) → wake_of (replicate count None) n ≡ None
none_wakes zero n = refl
none_wakes (suc count) zero = refl
none_wakes (suc count) (suc n) = none_wakes count n

pub hung_new : (count : ℕ) → AreHung (replicate count None) []
hung_new count = record { hung = λ n u e. absurd (let f = sym (none_wakes count n) ∙ e in cc) }

pub hung_set : (due : List (Option ℕ)) (old new : Due) (n t : ℕ) → n < length due → AreHung due old → HasOneMore t n old new
    → AreHung (set due n (Some t)) new
hung_set due old new n t lt h more = record { hung = hung }
  where
    more_at : (u m : ℕ) → Contains (due_at u old) m → Contains (due_at u new) m
    more_at u m c =
        elim (cases_Bool (u == t)) [
          | inl e ↦ let f : due_at u new ≡ due_at u old ++ n ∷ [] = more u ∙ rw e refl in
              subst (λ (xs : List ℕ). Contains xs m) (sym f) (Contains-append_left (due_at u old) (n ∷ []) m c)
          | inr e ↦ let f : due_at u new ≡ due_at u old = more u ∙ rw e refl in subst (λ (xs : List ℕ). Contains xs m) (sym f) c
        ]

    own_at : Contains (due_at t new) n
    own_at =
        let e = eq-eqb t t refl in
        let f : due_at t new ≡ due_at t old ++ n ∷ [] = more t ∙ rw e refl in
        subst (λ (xs : List ℕ). Contains xs n) (sym f) (Contains-append_right (due_at t old) (n ∷ []) n (0, omega arith, refl))

    hung : (m u : ℕ) → wake_of (set due n (Some t)) m ≡ Some u → Contains (due_at u new) m
    hung m u e =
        elim (cases_Bool (m == n)) [
          | inl q ↦
              let s : m ≡ n = eqb-true m n q in
              let a : wake_of (set due n (Some t)) n ≡ Some t = get_or-set_same due n (Some t) None lt in
              let b : wake_of (set due n (Some t)) n ≡ Some u = subst (λ (k : ℕ). wake_of (set due n (Some t)) k ≡ Some u) s e in
              let v : t ≡ u = let w = sym a ∙ b in cc in
              subst (λ (k : ℕ). Contains (due_at u new) k) (sym s) (subst (λ (k : ℕ). Contains (due_at k new) n) v own_at)
          | inr q ↦ more_at u m (h.hung m u (sym (get_or-set_other due n m (Some t) None (eqb-false m n q)) ∙ e))
        ]

pub hung_off : (due : List (Option ℕ)) (calendar : Due) (n : ℕ) → n < length due → AreHung due calendar → AreHung (set due n None) calendar
hung_off due calendar n lt h = record { hung = hung }
  where
    hung : (m u : ℕ) → wake_of (set due n None) m ≡ Some u → Contains (due_at u calendar) m
    hung m u e =
        elim (cases_Bool (m == n)) [
          | inl q ↦
              let s : m ≡ n = eqb-true m n q in
              let a : wake_of (set due n None) n ≡ None = get_or-set_same due n None None lt in
              let b : wake_of (set due n None) n ≡ Some u = subst (λ (k : ℕ). wake_of (set due n None) k ≡ Some u) s e in
              absurd (let w = sym a ∙ b in cc)
          | inr q ↦ h.hung m u (sym (get_or-set_other due n m None None (eqb-false m n q)) ∙ e)
        ]

-- THE SECOND THAT HAS COME
slept_at : (t : ℕ) (due : List (Option ℕ)) (n : ℕ) → wake_of (map (slept t) due) n ≡ slept t (wake_of due n)
slept_at t [] n = refl
slept_at t (d ∷ due) zero = refl
slept_at t (d ∷ due) (suc n) = slept_at t due n

still : (t u : ℕ) (d : Option ℕ) → slept t d ≡ Some u → (d ≡ Some u) × ((u == t) ≡ false)
still t u None e = absurd (cc)
still t u (Some v) e =
    elim (cases_Bool (v == t)) [
      | inl q ↦ absurd (let f : None ≡ Some u = rw q at e in cc)
      | inr q ↦ let f : Some v ≡ Some u = rw q at e in let g : v ≡ u = cc in (f, subst (λ (k : ℕ). (k == t) ≡ false) g q)
    ]

pub hung_taken : (due : List (Option ℕ)) (old new : Due) (t : ℕ) → AreHung due old → HasNone t old new → AreHung (map (slept t) due) new
hung_taken due old new t h none = record { hung = hung }
  where
    hung : (m u : ℕ) → wake_of (map (slept t) due) m ≡ Some u → Contains (due_at u new) m
    hung m u e =
        let s = still t u (wake_of due m) (sym (slept_at t due m) ∙ e) in
        let q = s.1 in
        let f : due_at u new ≡ due_at u old = none u ∙ rw q refl in
        subst (λ (xs : List ℕ). Contains xs m) (sym f) (h.hung m u s.0)

-- WHO IS WOKEN
-- a number from n on that is woken, by its place
record Stands (t n : ℕ) (due : List (Option ℕ)) (m : ℕ) : Type 0 where
  place : ℕ
  is : m ≡ n + place
  woken : is_woken t due place ≡ true

stands_on : (t n m : ℕ) (d : Option ℕ) (due : List (Option ℕ)) → Stands t (suc n) due m → Stands t n (d ∷ due) m
stands_on t n m d due s = record { place = suc s.place; is = let e = s.is in omega arith; woken = s.woken }

woken_in_by : (t n m : ℕ) (d : Option ℕ) (due : List (Option ℕ)) → (In m (woken_from t (suc n) due) → Stands t (suc n) due m)
    → (is_second t d ≡ true) ⊎ (is_second t d ≡ false)
    → In m (if is_second t d then n ∷ woken_from t (suc n) due else woken_from t (suc n) due) → Stands t n (d ∷ due) m
woken_in_by t n m d due r (inl q) g = by_first (rw q at g)
  where
    by_first : In m (n ∷ woken_from t (suc n) due) → Stands t n (d ∷ due) m
    by_first (inl e) = record { place = 0; is = omega arith; woken = q }
    by_first (inr k) = stands_on t n m d due (r k)
woken_in_by t n m d due r (inr q) g = stands_on t n m d due (r (rw q at g))

woken_in : (t n m : ℕ) (due : List (Option ℕ)) → In m (woken_from t n due) → Stands t n due m
unfolding woken_from
woken_in t n m [] h = absurd h
woken_in t n m (d ∷ due) h = woken_in_by t n m d due (woken_in t (suc n) m due) (cases_Bool (is_second t d)) h

in_woken : (t n k m : ℕ) (due : List (Option ℕ)) → is_woken t due k ≡ true → m ≡ n + k → In m (woken_from t n due)
unfolding woken_from
in_woken t n k m [] e s = absurd (cc)
in_woken t n zero m (d ∷ due) e s = rw e (inl (omega arith))
in_woken t n (suc k) m (d ∷ due) e s =
    let i = in_woken t (suc n) k m due e (omega arith) in
    elim (cases_Bool (is_second t d)) [ inl q ↦ rw q (inr i) | inr q ↦ rw q i ]

woken_above : (t n m : ℕ) (due : List (Option ℕ)) → m < n → IsBelow m (woken_from t n due)
unfolding woken_from
woken_above t n m [] lt = tt
woken_above t n m (d ∷ due) lt =
    let i = woken_above t (suc n) m due (omega arith) in
    elim (cases_Bool (is_second t d)) [ inl q ↦ rw q (lt, i) | inr q ↦ rw q i ]

woken_asc : (t n : ℕ) (due : List (Option ℕ)) → Asc (woken_from t n due)
unfolding woken_from
woken_asc t n [] = tt
woken_asc t n (d ∷ due) =
    let i = woken_asc t (suc n) due in
    elim (cases_Bool (is_second t d)) [ inl q ↦ rw q (woken_above t (suc n) n due (omega arith), i) | inr q ↦ rw q i ]

second_is : (t : ℕ) (d : Option ℕ) → is_second t d ≡ true → d ≡ Some t
second_is t None e = absurd (cc)
second_is t (Some u) e = ap Some (eqb-true u t e)

-- of ascending numbers that have all of the calendar at a second, those whose second it is
pub woken_is : (due : List (Option ℕ)) (calendar : Due) (t : ℕ) (numbers : List ℕ) → AreHung due calendar → Asc numbers
    → ((n : ℕ) → Contains (due_at t calendar) n → Contains numbers n) → filter (is_woken t due) numbers ≡ woken t due
woken_is due calendar t numbers h a c =
    same_members (filter (is_woken t due) numbers) (woken t due) (asc_filter (is_woken t due) numbers a) (woken_asc t 0 due)
    (λ n k. let r = filter_in (is_woken t due) n numbers k in in_woken t 0 n n due r.1 (omega arith))
    (λ n k.
    let s = woken_in t 0 n due k in
    let e : n ≡ s.place = let i = s.is in omega arith in
    let w : is_woken t due n ≡ true = subst (λ (m : ℕ). is_woken t due m ≡ true) (sym e) s.woken in
    in_filter (is_woken t due) n numbers (in_from numbers n (c n (h.hung n t (second_is t (wake_of due n) w)))) w)

-- WHO SLEEPS AGAIN
more_length : (xs : List (Option ℕ)) (x : Option ℕ) → length (xs ++ x ∷ []) ≡ suc (length xs)
more_length [] x = refl
more_length (y ∷ xs) x = ap (λ (n : ℕ). suc n) (more_length xs x)

asleep_later : (t : ℕ) (front due : List (Option ℕ)) (x : Option ℕ)
    → ((f : List (Option ℕ)) → asleep (woken_from t (length f) due) (f ++ due) ≡ f ++ map (slept t) due)
    → asleep (woken_from t (suc (length front)) due) (front ++ x ∷ due) ≡ front ++ x ∷ map (slept t) due
asleep_later t front due x h =
    ap (λ (n : ℕ). asleep (woken_from t n due) (front ++ x ∷ due)) (sym (more_length front x))
    ∙ ap (asleep (woken_from t (length (front ++ x ∷ [])) due)) (sym (append_assoc front (x ∷ []) due)) ∙ h (front ++ x ∷ [])
    ∙ append_assoc front (x ∷ []) (map (slept t) due)

asleep_behind : (t : ℕ) (due front : List (Option ℕ)) → asleep (woken_from t (length front) due) (front ++ due) ≡ front ++ map (slept t) due
unfolding woken_from asleep
asleep_behind t [] front = refl
asleep_behind t (d ∷ due) front =
    elim (cases_Bool (is_second t d)) [
      | inl q ↦
          rw q
          (ap (asleep (woken_from t (suc (length front)) due)) (set-append_seam front d due None)
          ∙ asleep_later t front due None (asleep_behind t due))
      | inr q ↦ rw q (asleep_later t front due d (asleep_behind t due))
    ]

pub all_asleep : (t : ℕ) (due : List (Option ℕ)) → asleep (woken t due) due ≡ map (slept t) due
all_asleep t due = asleep_behind t due []

-- A TABLE THAT WAS NOT CHANGED
pub hung_same : (due : List (Option ℕ)) (old new : Due) → AreHung due old → ((u : ℕ) → due_at u new ≡ due_at u old) → AreHung due new
hung_same due old new h same = record { hung = λ n u e. subst (λ (xs : List ℕ). Contains xs n) (sym (same u)) (h.hung n u e) }

pub hung_fresh : (count : ℕ) (due : List (Option ℕ)) (calendar : Due) → due ≡ replicate count None → calendar ≡ [] → AreHung due calendar
hung_fresh count due calendar d e =
    subst (λ (xs : Due). AreHung due xs) (sym e) (subst (λ (xs : List (Option ℕ)). AreHung xs []) (sym d) (hung_new count))

-- ONE NUMBER AFTER THE OTHER
pub asleep_step : (ns : List ℕ) (i : ℕ) (due : List (Option ℕ)) → i < length ns
    → asleep (drop i ns) due ≡ asleep (drop (suc i) ns) (set due (get_or ns i 0) None)
unfolding asleep
asleep_step [] i due lt = absurd (omega arith)
asleep_step (n ∷ ns) zero due lt = refl
asleep_step (n ∷ ns) (suc i) due lt = asleep_step ns i due (omega arith)

pub asleep_done : (ns : List ℕ) (i : ℕ) (due : List (Option ℕ)) → length ns ≤ i → asleep (drop i ns) due ≡ due
unfolding asleep
asleep_done [] zero due le = refl
asleep_done [] (suc i) due le = refl
asleep_done (n ∷ ns) zero due le = absurd (omega arith)
asleep_done (n ∷ ns) (suc i) due le = asleep_done ns i due (omega arith)

pub set_past : (due : List (Option ℕ)) (n : ℕ) (d : Option ℕ) → length due ≤ n → set due n d ≡ due
set_past [] n d le = refl
set_past (x ∷ due) zero d le = absurd (omega arith)
set_past (x ∷ due) (suc n) d le = ap (λ (xs : List (Option ℕ)). x ∷ xs) (set_past due n d (omega arith))
