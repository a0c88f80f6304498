-- How often a key is in a list, and that it is once at most where lists ascend and share none.
use Rattle.std.proofs.Common.{◌≡◌, ℕ, zero, suc, ◌<◌, ◌≤◌, Bool, true, false, List, [], ◌∷◌, arith, refl, sym, ◌∙◌, sum_by, not, ◌&&◌, inl, inr, ◌⊎◌, All}
use Rattle.std.proofs.Common.{subst, true≢false}
use Rattle.std.proofs.lemmas.List.{Elements.Contains-append_right, Elements.All-tail, Elements.All-head, Sums.sum_by-cons, Sums.sum_by-append}
use Rattle.std.specs.{List.Contains, List.AllByRecursion as Each, List.Sorted.IsSortedBy, Prelude.if◌then◌else◌, Prelude.flat_map}
use Rattle.itertools.proofs.KMergeLemmas.{sorted-tail}
use Rattle.events.specs.{Keys.key_before, declared.event.Event.Event, declared.event.Key.Key}
use Rattle.traffic.{proofs.Common.cases_Bool, specs.Frames.Ascends, specs.Frames.AreAfter}
use Rattle.event_merge.specs.Lists.{comes_before, IsApart, AreApart}
use Rattle.event_merge.proofs.Keys.{same_key, never_itself, after_first, sorted_behind}

-- whether an event has this key, also as a number
abbrev has : Key → Event → Bool
has k e = not (key_before k e.key) && not (key_before e.key k)

abbrev pub one_of : Key → Event → ℕ
one_of k e = if has k e then 1 else 0

-- how often a list has it
abbrev pub times : Key → List Event → ℕ
times k xs = sum_by (one_of k) xs

not_and : (a b : Bool) → (not a && not b) ≡ true → (a ≡ false) × (b ≡ false)
not_and true b h = absurd (true≢false (sym h))
not_and false true h = absurd (true≢false (sym h))
not_and false false h = (refl, refl)

its_key : (k : Key) (e : Event) → has k e ≡ true → e.key ≡ k
its_key k e h = let g = not_and (key_before k e.key) (key_before e.key k) h in same_key e.key k g.1 g.0

counted : (k : Key) (x : Event) (xs : List Event) → has k x ≡ true → times k (x ∷ xs) ≡ suc (times k xs)
counted k x xs h = let one : one_of k x ≡ 1 = (rw h refl) in let more = sum_by-cons (one_of k) x xs in omega arith

passed_by : (k : Key) (x : Event) (xs : List Event) → has k x ≡ false → times k (x ∷ xs) ≡ times k xs
passed_by k x xs h = let none : one_of k x ≡ 0 = (rw h refl) in let more = sum_by-cons (one_of k) x xs in omega arith

lacks : (k : Key) (e : Event) → key_before k e.key ≡ true → has k e ≡ false
lacks k e h = rw h refl

-- what comes after an event has another key
none_after : (x : Event) (xs : List Event) → AreAfter x xs → times x.key xs ≡ 0
none_after x [] h = refl
none_after x (y ∷ ys) h = passed_by x.key y ys (lacks x.key y h.0) ∙ none_after x ys h.1

pub once_in_ascending : (k : Key) (xs : List Event) → Ascends xs → times k xs ≤ 1
once_in_ascending k [] h = omega arith
once_in_ascending k (x ∷ xs) h =
    elim (cases_Bool (has k x)) [
      | inl e ↦
          let rest : times k xs ≡ 0 = subst (λ c. times c xs ≡ 0) (its_key k x e) (none_after x xs h.0) in
          let all = counted k x xs e in
          omega arith
      | inr e ↦
          let all = passed_by k x xs e in
          let rest = once_in_ascending k xs h.1 in
          omega arith
    ]

-- a key that a list has is that of one of its events
found : (k : Key) (xs : List Event) → 0 < times k xs → (a : Event) × (Contains xs a × (a.key ≡ k))
found k [] h = absurd (omega (arith, h))
found k (x ∷ xs) h =
    elim (cases_Bool (has k x)) [
      | inl e ↦ (x, ((0, (omega arith), refl), its_key k x e))
      | inr e ↦
          let all = passed_by k x xs e in
          let r = found k xs (omega arith) in
          (r.0, (Contains-append_right (x ∷ []) xs r.0 r.1.0, r.1.1))
    ]

none_or_some : (n : ℕ) → (n ≡ 0) ⊎ (0 < n)
none_or_some zero = inl refl
none_or_some (suc n) = inr (omega arith)

apart_counts : (k : Key) (xs ys : List Event) → IsApart xs ys → 0 < times k xs → times k ys ≡ 0
apart_counts k xs ys apart h =
    elim (none_or_some (times k ys)) [
      | inl e ↦ e
      | inr g ↦
          let a = found k xs h in
          let b = found k ys g in
          absurd (apart a.0 b.0 a.1.0 b.1.0 (a.1.1 ∙ sym b.1.1))
    ]

abbrev pub all_of : List (List Event) → List Event
all_of lists = flat_map (λ (xs : List Event). xs) lists

none_in_all : (k : Key) (xs : List Event) → 0 < times k xs → (lists : List (List Event)) → Each (IsApart xs) lists → times k (all_of lists) ≡ 0
none_in_all k xs h [] apart = refl
none_in_all k xs h (ys ∷ lists) apart =
    let all = sum_by-append (one_of k) ys (all_of lists) in
    let one = apart_counts k xs ys apart.0 h in
    let rest = none_in_all k xs h lists apart.1 in
    omega arith

-- in all lists together a key is once at most
pub once_in_all : (k : Key) (lists : List (List Event)) → Each Ascends lists → AreApart lists → times k (all_of lists) ≤ 1
once_in_all k [] ascend apart = omega arith
once_in_all k (xs ∷ lists) ascend apart =
    let all = sum_by-append (one_of k) xs (all_of lists) in
    let one = once_in_ascending k xs ascend.0 in
    let rest = once_in_all k lists ascend.1 apart.1 in
    elim (none_or_some (times k xs)) [
      | inl e ↦ omega arith
      | inr g ↦ let none = none_in_all k xs g lists apart.0 in omega arith
    ]

-- events that do not come before x, and of which none has its key, come after it
come_after : (x : Event) (ys : List Event) → All (λ y. comes_before y x ≡ false) ys → times x.key ys ≡ 0 → AreAfter x ys
come_after x [] low none = tt
come_after x (y ∷ ys) low none =
    let l : comes_before y x ≡ false = All-head (λ z. comes_before z x ≡ false) y ys low in
    elim (cases_Bool (key_before x.key y.key)) [
      | inl e ↦
          let none2 = passed_by x.key y ys (lacks x.key y e) in
          (e, come_after x ys (All-tail (λ z. comes_before z x ≡ false) y ys low) (sym none2 ∙ none))
      | inr e ↦
          let both : has x.key y ≡ true = (rw (e, l) refl) in
          let one = counted x.key y ys both in
          absurd (omega arith)
    ]

-- a sorted list that has each key once at most ascends
pub sorted_ascends : (xs : List Event) → IsSortedBy comes_before xs → ((k : Key) → times k xs ≤ 1) → Ascends xs
sorted_ascends [] up few = tt
sorted_ascends (x ∷ xs) up few =
    let own : has x.key x ≡ true = let e = never_itself x.key in (rw e refl) in
    let one = counted x.key x xs own in
    let all = few x.key in
    let none : times x.key xs ≡ 0 = omega arith in (
      come_after x xs (after_first x xs up) none,
      sorted_ascends xs (sorted-tail comes_before x xs up) (λ k. let more = sum_by-cons (one_of k) x xs in let most = few k in omega arith),
    )

-- a list that ascends is sorted
pub ascending_is_sorted : (xs : List Event) → Ascends xs → IsSortedBy comes_before xs
ascending_is_sorted [] h = λ k d a b. absurd (omega (arith, b))
ascending_is_sorted (x ∷ xs) h = sorted_behind x xs h.0 (ascending_is_sorted xs h.1)
