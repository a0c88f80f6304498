-- What each partition tells is in the order of the keys, and no two tell events with one key.
use Rattle.traffic.proofs.Common.{◌≡◌, ℕ, List, ◌∙◌, length, ap, sym, [], ◌∷◌, arith, ◌<◌, true, ◌+◌, Bool, inl, inr, subst, ◌≤◌, suc, eqb, zero, ◌⊎◌}
use Rattle.traffic.proofs.Common.{cases_Bool, eqb-true, flat_map, filter, phase_code, Event, Key, world_at, world_start, keyed, events_from, AreAfter, Ascends}
use Rattle.traffic.proofs.{Common.numbers, Common.stranded, Common.Setup, Each.each_append, Each.each_weaker, Each.each_filter}
use Rattle.traffic.proofs.Order.{Ascends-append, by_second, OfTurn, OfPhase, before_in_phase, keyed-of, keyed-ascends, Before, from-before, from-ascends}
use Rattle.traffic.specs.declared.moves.Occurrence.{Occurrence}
use Rattle.std.specs.List.{AllByRecursion as Each, slice_index_or, Contains}
use Rattle.events.specs.declared.event.Phase.TheVariants as phase
use Rattle.parts.specs.{Owners.Owner, Owners.owner_of_turn, Owners.owner_of_event, Parts.own_events, Parts.ends_with, Parts.own_end_events}
use Rattle.law_partitions.{proofs.Merging.Shared, specs.Whole.all_told}

-- LISTS THAT ASCEND
after_filter : (p : Event → Bool) (a : Event) (xs : List Event) → AreAfter a xs → AreAfter a (filter p xs)
after_filter p a [] h = tt
after_filter p a (x ∷ xs) h = elim (cases_Bool (p x)) [ inl e ↦ rw e (h.0, after_filter p a xs h.1) | inr e ↦ rw e (after_filter p a xs h.1) ]

ascends_filter : (p : Event → Bool) (xs : List Event) → Ascends xs → Ascends (filter p xs)
ascends_filter p [] h = tt
ascends_filter p (x ∷ xs) h = elim (cases_Bool (p x)) [ inl e ↦ rw e (after_filter p x xs h.0, ascends_filter p xs h.1) | inr e ↦ rw e (ascends_filter p xs h.1) ]

-- the events of some of the persons at the end
some-of : (t c k n : ℕ) (p : ℕ → Bool) (says : ℕ → List Occurrence) → Each (OfPhase t c k) (flat_map (λ i. keyed t c i 0 (says i)) (filter p (numbers k n)))
some-of t c k zero p says = tt
some-of t c k (suc n) p says =
    let more = each_weaker (OfPhase t c (k + 1)) (OfPhase t c k) (λ e h. (h.0, h.1, let q = h.2 in omega arith)) _ (some-of t c (k + 1) n p says) in
    elim (cases_Bool (p k)) [
      | inl e ↦ rw e (each_append (OfPhase t c k) (keyed t c k 0 (says k)) _ (each_weaker (OfTurn t c k 0) (OfPhase t c k) (λ e h. (h.0, h.1, let q = h.2 in omega arith)) (keyed t c k 0 (says k)) (keyed-of t c k 0 (says k))) more)
      | inr e ↦ rw e more
    ]

some-ascends : (t c k n : ℕ) (p : ℕ → Bool) (says : ℕ → List Occurrence) → Ascends (flat_map (λ i. keyed t c i 0 (says i)) (filter p (numbers k n)))
some-ascends t c k zero p says = tt
some-ascends t c k (suc n) p says =
    let more = some-ascends t c (k + 1) n p says in
    elim (cases_Bool (p k)) [
      | inl e ↦ rw e (Ascends-append (OfTurn t c k 0) (OfPhase t c (k + 1)) (before_in_phase t c k) (keyed t c k 0 (says k)) _ (keyed-of t c k 0 (says k)) (some-of t c (k + 1) n p says) (keyed-ascends t c k 0 (says k)) more)
      | inr e ↦ rw e more
    ]

abbrev IsOwned : Setup → Owner → ℕ → Event → Type 0
IsOwned S own p e = Before S.settings.end_second e × (eqb (owner_of_event S own e) p ≡ true)

owned : (S : Setup) (own : Owner) (p : ℕ) → Each (IsOwned S own p) (own_events S own p S.settings.end_second)
unfolding own_events
owned S own p = each_filter (Before S.settings.end_second) (IsOwned S own p) _ (λ e g h. (h, g)) (events_from S (world_start S) S.settings.end_second) (from-before S (world_start S) S.settings.end_second)

pub told_ascends : (S : Setup) (own : Owner) (parts p : ℕ) → Ascends (all_told S own parts p)
unfolding own_events own_end_events
told_ascends S own parts p =
    let T = S.settings.end_second in
    let c = phase_code phase.E in
    Ascends-append (IsOwned S own p) (OfPhase T c 0) (λ a b h g. by_second a.key b.key (let x = h.0 in let q = g.0 in omega arith)) (own_events S own p T) (own_end_events S own parts p)
    (owned S own p) (some-of T c 0 (length S.persons) (ends_with S own parts p) (stranded S (world_at S T)))
    (ascends_filter _ (events_from S (world_start S) T) (from-ascends S (world_start S) T)) (some-ascends T c 0 (length S.persons) (ends_with S own parts p) (stranded S (world_at S T)))

-- NO KEY TWICE
-- an event at the end, of a person who ends with p
abbrev IsEnder : Setup → Owner → ℕ → ℕ → Event → Type 0
IsEnder S own parts p e = (e.key.second ≡ S.settings.end_second) × (e.key.number < length S.persons) × (ends_with S own parts p e.key.number ≡ true)

enders : (S : Setup) (own : Owner) (parts p k n : ℕ) → k + n ≤ length S.persons →
    Each (IsEnder S own parts p) (flat_map (λ i. keyed S.settings.end_second (phase_code phase.E) i 0 (stranded S (world_at S S.settings.end_second) i)) (filter (ends_with S own parts p) (numbers k n)))
enders S own parts p k zero le = tt
enders S own parts p k (suc n) le =
    let T = S.settings.end_second in
    let c = phase_code phase.E in
    let says = stranded S (world_at S T) k in
    let more = enders S own parts p (k + 1) n (omega arith) in
    elim (cases_Bool (ends_with S own parts p k)) [
      | inl e ↦ rw e (each_append (IsEnder S own parts p) (keyed T c k 0 says) _
          (each_weaker (OfTurn T c k 0) (IsEnder S own parts p) (λ x h. (h.0, (let q = h.2 in omega arith), ap (ends_with S own parts p) h.2 ∙ e)) (keyed T c k 0 says) (keyed-of T c k 0 says)) more)
      | inr e ↦ rw e more
    ]

abbrev IsTold : Setup → Owner → ℕ → ℕ → Event → Type 0
IsTold S own parts p e = IsOwned S own p e ⊎ IsEnder S own parts p e

told : (S : Setup) (own : Owner) (parts p : ℕ) → Each (IsTold S own parts p) (all_told S own parts p)
unfolding own_end_events
told S own parts p =
    each_append (IsTold S own parts p) (own_events S own p S.settings.end_second) (own_end_events S own parts p)
    (each_weaker (IsOwned S own p) (IsTold S own parts p) (λ e h. inl h) (own_events S own p S.settings.end_second) (owned S own p))
    (each_weaker (IsEnder S own parts p) (IsTold S own parts p) (λ e h. inr h) (own_end_events S own parts p) (enders S own parts p 0 (length S.persons) (omega arith)))

of_one : (P : Event → Type 0) (xs : List Event) (k : ℕ) (x : Event) → Each P xs → k < length xs → P (slice_index_or xs k x)
of_one P [] k x h lt = absurd (omega arith)
of_one P (y ∷ ys) zero x h lt = h.0
of_one P (y ∷ ys) (suc k) x h lt = of_one P ys k x h.1 (omega arith)

contained : (P : Event → Type 0) (xs : List Event) (x : Event) → Each P xs → Contains xs x → P x
contained P xs x h c = subst P c.2 (of_one P xs c.0 x h c.1)

-- by its key an event tells whose it is
same_teller : (S : Setup) (own : Owner) (parts : ℕ) (ender : ℕ → ℕ) → Shared S own parts ender → (p q : ℕ) → p < parts → q < parts → (a b : Event) → a.key ≡ b.key → IsTold S own parts p a → IsTold S own parts q b → p ≡ q
same_teller S own parts ender sh p q lt le a b e (inl h) (inl g) =
    sym (eqb-true (owner_of_event S own a) p h.1) ∙ ap (λ (k : Key). owner_of_turn S own k.second k.phase k.number) e ∙ eqb-true (owner_of_event S own b) q g.1
same_teller S own parts ender sh p q lt le a b e (inl h) (inr g) = absurd (let s = ap (λ (k : Key). k.second) e in let x = h.0 in let y = g.0 in omega arith)
same_teller S own parts ender sh p q lt le a b e (inr h) (inl g) = absurd (let s = ap (λ (k : Key). k.second) e in let x = h.0 in let y = g.0 in omega arith)
same_teller S own parts ender sh p q lt le a b e (inr h) (inr g) =
    sym (eqb-true (ender a.key.number) p (sym (sh.who p a.key.number lt h.1) ∙ h.2)) ∙ ap (λ (k : Key). ender k.number) e ∙ eqb-true (ender b.key.number) q (sym (sh.who q b.key.number le g.1) ∙ g.2)

pub told_apart : (S : Setup) (own : Owner) (parts : ℕ) (ender : ℕ → ℕ) → Shared S own parts ender → (p q : ℕ) → p < parts → q < parts → (a b : Event) → Contains (all_told S own parts p) a → Contains (all_told S own parts q) b → a.key ≡ b.key → p ≡ q
told_apart S own parts ender sh p q lt le a b in_p in_q e =
    same_teller S own parts ender sh p q lt le a b e (contained (IsTold S own parts p) (all_told S own parts p) a (told S own parts p) in_p) (contained (IsTold S own parts q) (all_told S own parts q) b (told S own parts q) in_q)
