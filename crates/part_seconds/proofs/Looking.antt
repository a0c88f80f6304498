-- Who is looked at when persons set out: nobody else changes.
use Rattle.traffic.proofs.Common.{◌≡◌, ℕ, zero, suc, ◌+◌, ◌<◌, ◌≤◌, Bool, true, false, List, [], ◌∷◌, ◌∙◌, ap, refl, sym, arith, inl, inr, cases_Bool, cases_lt}
use Rattle.traffic.proofs.Common.{eqb, eqb-true, eqb-false, ne_eqb, true≢false, length, get_or, get_or_past, filter, Option, None, Setup, World, person_of}
use Rattle.traffic.{proofs.Common.nobody, proofs.Common.below, proofs.Common.numbers, specs.declared.world.Person.Person}
use Rattle.calendar.specs.Waking.{is_second, is_woken, woken}
use Rattle.node_seconds.specs.Networks.{is_among}
use Rattle.parts.specs.Owners.{Owner}
use Rattle.law_partitions.specs.Alone.{my_runs}
use Rattle.law_own_worlds.specs.OwnWorlds.{set_out}
use Rattle.part_persons.proofs.Early.{woken_all}
use Rattle.part_seconds.proofs.SettingOut as setting
use Rattle.part_seconds.proofs.SettingOut.{HasSetOut, starts_keep}

-- AMONG THOSE THAT PASS
not_among : (q : ℕ → Bool) (i : ℕ) (ns : List ℕ) → q i ≡ false → is_among i (filter q ns) ≡ false
not_among q i [] e = refl
not_among q i (m ∷ ns) e =
    elim (cases_Bool (q m)) [
      | inl f ↦
          let ne : eqb m i ≡ false = ne_eqb m i (λ z. true≢false (sym f ∙ ap q z ∙ e)) in
          rw f (rw ne (not_among q i ns e))
      | inr f ↦ rw f (not_among q i ns e)
    ]

passes_among : (q : ℕ → Bool) (i : ℕ) (ns : List ℕ) → is_among i ns ≡ true → q i ≡ true → is_among i (filter q ns) ≡ true
passes_among q i [] a e = absurd (true≢false (sym a))
passes_among q i (n ∷ ns) a e =
    elim (cases_Bool (eqb n i)) [
      | inl f ↦
          let same : n ≡ i = eqb-true n i f in
          let g : q n ≡ true = ap q same ∙ e in
          rw g (rw f refl)
      | inr f ↦
          let rest = passes_among q i ns (let x = (rw f at a) in x) e in
          elim (cases_Bool (q n)) [
            | inl g ↦ rw g (rw f rest)
            | inr g ↦ rw g rest
          ]
    ]

below_among : (k n i : ℕ) → k ≤ i → i < k + n → is_among i (numbers k n) ≡ true
below_among k zero i low high = absurd (omega arith)
below_among k (suc n) i low high =
    elim (cases_Bool (eqb k i)) [
      | inl q ↦ rw q refl
      | inr q ↦ let ne = eqb-false k i q in rw q (below_among (k + 1) n i (omega arith) (omega arith))
    ]

among_is : (q : ℕ → Bool) (n i : ℕ) → i < n → is_among i (filter q (below n)) ≡ q i
among_is q n i lt =
    elim (cases_Bool (q i)) [
      | inl e ↦ passes_among q i (below n) (below_among 0 n i (omega arith) (omega arith)) e ∙ sym e
      | inr e ↦ not_among q i (below n) e ∙ sym e
    ]

alike_from : (q r : ℕ → Bool) (k n : ℕ) → ((i : ℕ) → i < k + n → q i ≡ r i) → filter q (numbers k n) ≡ filter r (numbers k n)
alike_from q r k zero h = refl
alike_from q r k (suc n) h =
    let rest = alike_from q r (k + 1) n (λ i lt. h i (omega arith)) in
    let here = h k (omega arith) in
    elim (cases_Bool (r k)) [
      | inl e ↦ let f = here ∙ e in rw (f, e) (ap (λ (xs : List ℕ). k ∷ xs) rest)
      | inr e ↦ let f = here ∙ e in rw (f, e) rest
    ]

-- WHO IS LOOKED AT
-- they ascend
pub ascending : (t count : ℕ) (wakes : List (Option ℕ)) (ns : List ℕ) → ns ≡ woken t wakes → length wakes ≡ count
    → ns ≡ filter (λ (i : ℕ). is_among i ns) (below count)
ascending t count wakes ns d e =
    let q = is_woken t wakes in
    let is : ns ≡ filter q (below count) = d ∙ woken_all t wakes ∙ ap (λ (n : ℕ). filter q (below n)) e in
    is ∙ alike_from q (λ (i : ℕ). is_among i ns) 0 count (λ i lt. sym (ap (is_among i) is ∙ among_is q count i (omega arith)))

past_sleeps : (t i : ℕ) (wakes : List (Option ℕ)) → length wakes ≤ i → is_woken t wakes i ≡ false
past_sleeps t i wakes past = ap (is_second t) (get_or_past wakes i None past)

-- who is not among them is not woken
pub not_woken : (t i : ℕ) (wakes : List (Option ℕ)) (ns : List ℕ) → ns ≡ woken t wakes → is_among i ns ≡ false → is_woken t wakes i ≡ false
not_woken t i wakes ns d off =
    elim (cases_lt i (length wakes)) [
      | inl lt ↦ sym (among_is (is_woken t wakes) (length wakes) i lt) ∙ sym (ap (is_among i) (d ∙ woken_all t wakes)) ∙ off
      | inr past ↦ past_sleeps t i wakes past
    ]

-- who stays as he is when persons land and leave is as he was
pub stays : (S : Setup) (own : Owner) (p t i : ℕ) (V P P1 P2 : World) → HasSetOut S own p t V P P1 P2 → person_of i P1 ≡ person_of i P
    → person_of i (set_out S own p t V) ≡ person_of i V
stays S own p t i V P P1 P2 out e =
    let f : List Person → Person = λ (ps : List Person). get_or ps i nobody in
    ap f (sym (setting.persons_are S own p t V P P1 P2 out))
    ∙ ap f (ap (λ (X : World). X.persons) out.second ∙ starts_keep S t (my_runs S own p) P1) ∙ e ∙ ap f out.persons
