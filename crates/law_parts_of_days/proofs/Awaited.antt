-- Which nodes are woken once links have had their turns, and once places came free.
use Rattle.traffic.proofs.Common.{◌≡◌, ◌≢◌, ℕ, suc, ◌+◌, ◌<◌, true, false, List, [], ◌∷◌, ◌∙◌, ap, refl, sym, arith, inl, inr, cases_Bool, true≢false, eqb}
use Rattle.traffic.proofs.Common.{eqb-true, eqb-false, eq-eqb, ne_eqb, length, length-set, get_or-set_same, get_or-set_other, set, lt-ltb, nat_lt, Option, None}
use Rattle.traffic.{proofs.Common.Some, proofs.Common.Setup, proofs.Common.link_row, specs.declared.world.Row.Row}
use Rattle.calendar.specs.Waking.{wake_of}
use Rattle.parts.specs.Owners.{Owner, begins_in}
use Rattle.queue_link.specs.Links.{LinkView}
use Rattle.node_seconds.specs.Networks.{lane, is_among}
use Rattle.part_places.{proofs.Counting.one, proofs.Counting.count_cons, specs.Taking.times, specs.Taking.begins_here}
use Rattle.law_parts_of_days.specs.Settling.{link_at, buffered_in, wake_end, wake_ends, is_own_start, wake_start, wake_starts}

-- AT THE ENDS OF LINKS
pub end_length : (S : Setup) (t n : ℕ) (links : List LinkView) (wakes : List (Option ℕ)) → length (wake_end S t links n wakes) ≡ length wakes
end_length S t n links wakes =
    elim (cases_Bool (nat_lt 0 (buffered_in links n))) [
      | inl e ↦ rw e (length-set wakes (link_row S (link_at links n)).to (Some (t + 1)))
      | inr e ↦ rw e refl
    ]

pub ends_length : (S : Setup) (t : ℕ) (links : List LinkView) (ns : List ℕ) (wakes : List (Option ℕ))
    → length (wake_ends S t links ns wakes) ≡ length wakes
unfolding wake_ends
ends_length S t links [] wakes = refl
ends_length S t links (n ∷ ns) wakes = ends_length S t links ns (wake_end S t links n wakes) ∙ end_length S t n links wakes

-- who is woken in the next second stays so
end_kept : (S : Setup) (t n m : ℕ) (links : List LinkView) (wakes : List (Option ℕ)) → m < length wakes → wake_of wakes m ≡ Some (t + 1)
    → wake_of (wake_end S t links n wakes) m ≡ Some (t + 1)
end_kept S t n m links wakes lt h =
    elim (cases_Bool (nat_lt 0 (buffered_in links n))) [
      | inl e ↦
          let to = (link_row S (link_at links n)).to in
          rw e (elim (cases_Bool (eqb m to)) [
            | inl q ↦
                let same : m ≡ to = eqb-true m to q in
                ap (λ (k : ℕ). wake_of (set wakes k (Some (t + 1))) m) (sym same) ∙ get_or-set_same wakes m (Some (t + 1)) None lt
            | inr q ↦ get_or-set_other wakes to m (Some (t + 1)) None (eqb-false m to q) ∙ h
          ])
      | inr e ↦ rw e h
    ]

-- the node at the end of a link with somebody in its buffer is woken
end_woken : (S : Setup) (t n m : ℕ) (links : List LinkView) (wakes : List (Option ℕ)) → m < length wakes → (link_row S (link_at links n)).to ≡ m
    → nat_lt 0 (buffered_in links n) ≡ true → wake_of (wake_end S t links n wakes) m ≡ Some (t + 1)
end_woken S t n m links wakes lt to e =
    rw e (ap (λ (k : ℕ). wake_of (set wakes k (Some (t + 1))) m) to ∙ get_or-set_same wakes m (Some (t + 1)) None lt)

-- and who is not keeps his second
end_same : (S : Setup) (t n m : ℕ) (links : List LinkView) (wakes : List (Option ℕ)) → m < length wakes
    → wake_of (wake_end S t links n wakes) m ≢ Some (t + 1) → wake_of (wake_end S t links n wakes) m ≡ wake_of wakes m
end_same S t n m links wakes lt h =
    let to = (link_row S (link_at links n)).to in
    elim (cases_Bool (nat_lt 0 (buffered_in links n))) [
      | inl e ↦
          elim (cases_Bool (eqb m to)) [
            | inl q ↦ absurd (h (end_woken S t n m links wakes lt (sym (eqb-true m to q)) e))
            | inr q ↦ rw e (get_or-set_other wakes to m (Some (t + 1)) None (eqb-false m to q))
          ]
      | inr e ↦ rw e refl
    ]

nobody_in : (xs : List Row) → nat_lt 0 (length xs) ≡ false → xs ≡ []
nobody_in [] e = refl
nobody_in (x ∷ xs) e = let q = lt-ltb 0 (suc (length xs)) (omega arith) in absurd (true≢false (sym q ∙ e))

-- a node that is not woken in the next second was not to be, and nobody is in the buffers of those links into it
pub record IsNotWoken (S : Setup) (t m : ℕ) (links : List LinkView) (ns : List ℕ) (wakes : List (Option ℕ)) : Type 0 where
  pub before : wake_of wakes m ≢ Some (t + 1)
  pub same : wake_of (wake_ends S t links ns wakes) m ≡ wake_of wakes m
  pub empty : (k : ℕ) → is_among k ns ≡ true → (link_row S (link_at links k)).to ≡ m → (lane links k).lists.buffer ≡ []

pub not_woken : (S : Setup) (t m : ℕ) (links : List LinkView) (ns : List ℕ) (wakes : List (Option ℕ)) → m < length wakes
    → wake_of (wake_ends S t links ns wakes) m ≢ Some (t + 1) → IsNotWoken S t m links ns wakes
unfolding wake_ends
not_woken S t m links [] wakes lt h = record { before = h; same = refl; empty = λ l e to. absurd (true≢false (sym e)) }
not_woken S t m links (n ∷ ns) wakes lt h =
    let later = wake_end S t links n wakes in
    let many = end_length S t n links wakes in
    let rest = not_woken S t m links ns later (omega arith) h in
    record {
      before = λ e. rest.before (end_kept S t n m links wakes lt e);
      same = rest.same ∙ end_same S t n m links wakes lt rest.before;
      empty = λ l e to.
          elim (cases_Bool (eqb n l)) [
            | inl q ↦
                let same : n ≡ l = eqb-true n l q in
                let ends : (link_row S (link_at links n)).to ≡ m = ap (λ (k : ℕ). (link_row S (link_at links k)).to) same ∙ to in
                elim (cases_Bool (nat_lt 0 (buffered_in links n))) [
                  | inl some ↦ absurd (rest.before (end_woken S t n m links wakes lt ends some))
                  | inr none ↦
                      ap (λ (k : ℕ). (lane links k).lists.buffer) (sym same) ∙ nobody_in (lane links n).lists.buffer none
                ]
            | inr q ↦ rest.empty l (let f = rw q at e in f) to
          ];
    }

pub nobody_waits : (S : Setup) (t m k : ℕ) (links : List LinkView) (ns : List ℕ) (wakes : List (Option ℕ)) → m < length wakes
    → wake_of (wake_ends S t links ns wakes) m ≢ Some (t + 1) → is_among k ns ≡ true → (link_row S (link_at links k)).to ≡ m
    → (lane links k).lists.buffer ≡ []
nobody_waits S t m k links ns wakes lt h = (not_woken S t m links ns wakes lt h).empty k

-- PLACES THAT COME FREE
start_length : (S : Setup) (own : Owner) (p t m : ℕ) (wakes : List (Option ℕ)) → length (wake_start S own p t m wakes) ≡ length wakes
start_length S own p t m wakes =
    elim (cases_Bool (is_own_start S own p m)) [
      | inl e ↦ rw e (length-set wakes (link_row S m).from (Some t))
      | inr e ↦ rw e refl
    ]

pub starts_length : (S : Setup) (own : Owner) (p t : ℕ) (ms : List ℕ) (wakes : List (Option ℕ)) → length (wake_starts S own p t ms wakes) ≡ length wakes
unfolding wake_starts
starts_length S own p t [] wakes = refl
starts_length S own p t (m ∷ ms) wakes = starts_length S own p t ms (wake_start S own p t m wakes) ∙ start_length S own p t m wakes

start_woken : (S : Setup) (own : Owner) (p t m n : ℕ) (wakes : List (Option ℕ)) → n < length wakes → is_own_start S own p m ≡ true → (link_row S m).from ≡ n
    → wake_of (wake_start S own p t m wakes) n ≡ Some t
start_woken S own p t m n wakes lt there from =
    rw there (ap (λ (k : ℕ). wake_of (set wakes k (Some t)) n) from ∙ get_or-set_same wakes n (Some t) None lt)

start_kept : (S : Setup) (own : Owner) (p t m n : ℕ) (wakes : List (Option ℕ)) → n < length wakes → wake_of wakes n ≡ Some t → wake_of (wake_start S own p t m wakes) n ≡ Some t
start_kept S own p t m n wakes lt h =
    let from = (link_row S m).from in
    elim (cases_Bool (is_own_start S own p m)) [
      | inl e ↦
          rw e (elim (cases_Bool (eqb n from)) [
            | inl q ↦
                let same : n ≡ from = eqb-true n from q in
                ap (λ (k : ℕ). wake_of (set wakes k (Some t)) n) (sym same) ∙ get_or-set_same wakes n (Some t) None lt
            | inr q ↦ get_or-set_other wakes from n (Some t) None (eqb-false n from q) ∙ h
          ])
      | inr e ↦ rw e h
    ]

start_same : (S : Setup) (own : Owner) (p t m n : ℕ) (wakes : List (Option ℕ)) → n < length wakes → wake_of (wake_start S own p t m wakes) n ≢ Some t
    → wake_of (wake_start S own p t m wakes) n ≡ wake_of wakes n
start_same S own p t m n wakes lt h =
    let from = (link_row S m).from in
    elim (cases_Bool (is_own_start S own p m)) [
      | inl e ↦
          elim (cases_Bool (eqb n from)) [
            | inl q ↦ absurd (h (start_woken S own p t m n wakes lt e (sym (eqb-true n from q))))
            | inr q ↦ rw e (get_or-set_other wakes from n (Some t) None (eqb-false n from q))
          ]
      | inr e ↦ rw e refl
    ]

-- an own node that is not woken for places in second t was not to be then, keeps its second, and none of these links begins at it
pub record IsNotWokenFor (S : Setup) (own : Owner) (p t n : ℕ) (ms : List ℕ) (wakes : List (Option ℕ)) : Type 0 where
  pub before : wake_of wakes n ≢ Some t
  pub same : wake_of (wake_starts S own p t ms wakes) n ≡ wake_of wakes n
  pub none : (m : ℕ) → m < length S.links → (link_row S m).from ≡ n → times m ms ≡ 0

pub not_woken_for : (S : Setup) (own : Owner) (p t n : ℕ) (ms : List ℕ) (wakes : List (Option ℕ)) → own n ≡ p → n < length wakes
    → wake_of (wake_starts S own p t ms wakes) n ≢ Some t → IsNotWokenFor S own p t n ms wakes
unfolding wake_starts
not_woken_for S own p t n [] wakes o lt h = record { before = h; same = refl; none = λ m there from. refl }
not_woken_for S own p t n (k ∷ ms) wakes o lt h =
    let later = wake_start S own p t k wakes in
    let many = start_length S own p t k wakes in
    let rest = not_woken_for S own p t n ms later o (omega arith) h in
    record {
      before = λ e. rest.before (start_kept S own p t k n wakes lt e);
      same = rest.same ∙ start_same S own p t k n wakes lt rest.before;
      none = λ m there from.
          let ne : eqb k m ≡ false = ne_eqb k m (λ (e : k ≡ m).
          let within : k < length S.links = omega arith in
          let at_k : (link_row S k).from ≡ n = ap (λ (j : ℕ). (link_row S j).from) e ∙ from in
          let mine : begins_here S own p k ≡ true = eq-eqb (begins_in S own k) p (ap own at_k ∙ o) in
          let owned : is_own_start S own p k ≡ true = (let q = lt-ltb k (length S.links) within in rw (q, mine) refl) in
          rest.before (start_woken S own p t k n wakes lt owned at_k)) in
          let one_is : one (λ (x : ℕ). eqb x m) k ≡ 0 = rw ne refl in
          let c = count_cons (λ (x : ℕ). eqb x m) k ms in
          let r = rest.none m there from in
          omega arith;
    }

pub none_begins : (S : Setup) (own : Owner) (p t n m : ℕ) (ms : List ℕ) (wakes : List (Option ℕ)) → own n ≡ p → n < length wakes
    → m < length S.links → (link_row S m).from ≡ n → wake_of (wake_starts S own p t ms wakes) n ≢ Some t → times m ms ≡ 0
none_begins S own p t n m ms wakes o lt there from h = (not_woken_for S own p t n ms wakes o lt h).none m there from
