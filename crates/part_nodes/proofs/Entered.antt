-- The links of a network once vehicles came to them, and that they rest on.
use Rattle.std.proofs.Common.{◌≡◌, ◌≢◌, ℕ, Bool, ◌+◌, ◌<◌, ◌≤◌, true, false, List, [], ◌∷◌, ◌++◌, length, get_or, set, refl, ap, sym, ◌∙◌, subst, inl, inr}
use Rattle.std.proofs.Common.{arith, eqb, append-nil, append_assoc}
use Rattle.std.proofs.lemmas.Bool.{cases_Bool, eqb-true, eqb-false, ltb-true, ltb-false, true≢false, Decides.nat_tests}
use Rattle.std.{proofs.lemmas.List.get_or-set_same, proofs.lemmas.List.get_or-set_other, specs.List.AllByRecursion as Each}
use Rattle.std.specs.Prelude.{Option, None, Some, min, nat_lt, nat_le, if◌then◌else◌}
use Rattle.rows.specs.declared.settings.Dwelling.{Dwelling}
use Rattle.traffic.specs.declared.{numbers.Rules.Rules, stage.Stage.TheVariants.Queue, world.Row.Row}
use Rattle.fixed_flow.specs.Flow.{raised}
use Rattle.calendar.specs.Waking.{wake_of, earlier}
use Rattle.law_sleeping.specs.Quiet.{queue_goes}
use Rattle.law_waking.specs.Resting.{Rests, sleeps_to}
use Rattle.queue_link.specs.{Links.LinkView, Links.row_on, Numbers.rules_of, declared.numbers.LinkNumbers.LinkNumbers}
use Rattle.node_move.specs.{NodeStates.no_link, declared.crossings.Entering.Entering}
use Rattle.link_seconds.specs.Seconds.{lists_at}
use Rattle.node_seconds.specs.Networks.{lane, with_queued, put_queued, wake_queued, accepted, accepted_all, wakes_after, wakes_after_all}
use Rattle.node_seconds.proofs.Lanes.{accepted_length, woken_length}
use Rattle.part_links.specs.Links.{AreAsleep}
use Rattle.part_nodes.proofs.{Crossings.rows_into, Slots.is_slot}

-- LINKS
-- the link in slot k once a vehicle came to this slot, if to any
queued_lane : (t k : ℕ) (e : Entering) (o : Option ℕ) (links : List LinkView) → k < length links
    → lane (put_queued t e o links) k ≡ (if is_slot k o then with_queued t e (lane links k) else lane links k)
queued_lane t k e None links lt = refl
queued_lane t k e (Some j) links lt =
    elim (cases_Bool (eqb j k)) [
      | inl q ↦
          rw q (ap (λ (i : ℕ). lane (set links i (with_queued t e (lane links i))) k) (eqb-true j k q)
          ∙ get_or-set_same links k (with_queued t e (lane links k)) no_link lt)
      | inr q ↦ rw q (get_or-set_other links j k (with_queued t e (lane links j)) no_link (λ (z : k ≡ j). eqb-false j k q (sym z)))
    ]

pub length_all : (place : ℕ → Option ℕ) (t : ℕ) (es : List Entering) (links : List LinkView) → length (accepted_all place t es links) ≡ length links
unfolding accepted_all
length_all place t [] links = refl
length_all place t (e ∷ es) links = length_all place t es (accepted place t e links) ∙ accepted_length place t e links

-- the same link with more rows in its queue
abbrev pub queued_on : LinkView → List Row → LinkView
queued_on v rows = record v { lists = record v.lists { queue = v.lists.queue ++ rows } }

queued_none : (v : LinkView) → v ≡ queued_on v []
queued_none v = ap (λ (xs : List Row). record v { lists = record v.lists { queue = xs } }) (sym (append-nil v.lists.queue))

queued_more : (v : LinkView) (r : Row) (rows : List Row) → queued_on (queued_on v (r ∷ [])) rows ≡ queued_on v (r ∷ rows)
queued_more v r rows = ap (λ (xs : List Row). record v { lists = record v.lists { queue = xs } }) (append_assoc v.lists.queue (r ∷ []) rows)

chosen : (b c : Bool) (x y : LinkView) → b ≡ c → (if b then x else y) ≡ (if c then x else y)
chosen b c x y e = ap (λ (d : Bool). if d then x else y) e

-- the link of number l in slot k once all came who enter it
pub all_accepted : (place : ℕ → Option ℕ) (t l k : ℕ) (es : List Entering) (links : List LinkView) → k < length links
    → (lane links k).numbers.link ≡ l → ((m : ℕ) → is_slot k (place m) ≡ eqb m l)
    → lane (accepted_all place t es links) k ≡ queued_on (lane links k) (rows_into l (t + (lane links k).numbers.seconds) es)
unfolding accepted_all
all_accepted place t l k [] links lt n f = queued_none (lane links k)
all_accepted place t l k (e ∷ es) links lt n f =
    let v = lane links k in
    let next = accepted place t e links in
    let second = t + v.numbers.seconds in
    let within : k < length next = (let q = accepted_length place t e links in omega arith) in
    let one = queued_lane t k e (place e.link) links lt ∙ chosen (is_slot k (place e.link)) (eqb e.link l) (with_queued t e v) v (f e.link) in
    elim (cases_Bool (eqb e.link l)) [
      | inl q ↦
          let row : lane next k ≡ queued_on v (row_on l Queue second e.vehicle ∷ [])
          = one ∙ rw q (ap (λ (j : ℕ). queued_on v (row_on j Queue second e.vehicle ∷ [])) n) in
          let m : (lane next k).numbers.link ≡ l = ap (λ (w : LinkView). w.numbers.link) row ∙ n in
          rw q (
          all_accepted place t l k es next within m f
          ∙ ap (λ (w : LinkView). queued_on w (rows_into l (t + w.numbers.seconds) es)) row
          ∙ queued_more v (row_on l Queue second e.vehicle) (rows_into l second es)
          )
      | inr q ↦
          let same : lane next k ≡ v = one ∙ rw q refl in
          let m : (lane next k).numbers.link ≡ l = ap (λ (w : LinkView). w.numbers.link) same ∙ n in
          rw q (
          all_accepted place t l k es next within m f
          ∙ ap (λ (w : LinkView). queued_on w (rows_into l (t + w.numbers.seconds) es)) same
          )
    ]

-- REST
-- a queue whose front comes in this second lets nobody go before
goes_later : (K : Rules) (u l b credit : ℕ) (r : Row) (rs : List Row) → u < r.second → queue_goes K u l b credit (r ∷ rs) ≡ false
goes_later K u l b credit r rs lt = let e : nat_le r.second u ≡ false = grind (arith, nat_tests) in rw e refl

goes_appended : (K : Rules) (u l b credit : ℕ) (xs : List Row) (r : Row) → queue_goes K u l b credit xs ≡ false → (length xs ≡ 0 → u < r.second)
    → queue_goes K u l b credit (xs ++ r ∷ []) ≡ false
goes_appended K u l b credit [] r h first = goes_later K u l b credit r [] (first refl)
goes_appended K u l b credit (x ∷ xs) r h first = h

-- a link rests on with one more vehicle, up to its second where it is alone in the queue
rests_queued : (D : Dwelling) (t s due : ℕ) (e : Entering) (v : LinkView) → Rests D t due v → (length v.lists.queue ≡ 0 → due ≤ s + v.numbers.seconds)
    → Rests D t due (with_queued s e v)
rests_queued D t s due e v h first u from to =
    let q = h u from to in
    let r = row_on v.numbers.link Queue (s + v.numbers.seconds) e.vehicle in
    record {
      bay = q.bay;
      queue =
          goes_appended (rules_of v.numbers D) u v.numbers.link (length v.lists.buffer) (raised v.numbers.gain (lists_at u v).credit) v.lists.queue r q.queue
          (λ none. (let le = first none in omega arith));
      wait = q.wait;
    }

pub rests_less : (D : Dwelling) (t due less : ℕ) (v : LinkView) → less ≤ due → Rests D t due v → Rests D t less v
rests_less D t due less v le h u from to = h u from (omega arith)

-- a wake in some second or before
pub earlier_less : (end u : ℕ) (w : Option ℕ) → u < end → sleeps_to end (earlier u w) ≤ sleeps_to end w
earlier_less end u None lt = omega arith
earlier_less end u (Some x) lt = omega arith

pub earlier_by : (end u : ℕ) (w : Option ℕ) → sleeps_to end (earlier u w) ≤ u
earlier_by end u None = omega arith
earlier_by end u (Some x) = omega arith

pub earlier_from : (t u x : ℕ) (w : Option ℕ) → t ≤ u → ((y : ℕ) → w ≡ Some y → t ≤ y) → earlier u w ≡ Some x → t ≤ x
earlier_from t u x None le h e = let s : Some u ≡ Some x = e in let q : u ≡ x = cc in omega arith
earlier_from t u x (Some y) le h e = let s : Some (min u y) ≡ Some x = e in let q : min u y ≡ x = cc in let g = h y refl in omega arith

pub earlier_within : (end u x : ℕ) (w : Option ℕ) → u < end → earlier u w ≡ Some x → x < end
earlier_within end u x None lt e = let s : Some u ≡ Some x = e in let q : u ≡ x = cc in omega arith
earlier_within end u x (Some y) lt e = let s : Some (min u y) ≡ Some x = e in let q : min u y ≡ x = cc in omega arith

-- by the wakes of one link: it rests, and is woken neither before t nor from the end on
pub record IsAsleep (D : Dwelling) (end t : ℕ) (v : LinkView) (w : Option ℕ) : Type 0 where
  pub rests : Rests D t (sleeps_to end w) v
  pub later : (u : ℕ) → w ≡ Some u → t ≤ u
  pub soon : (u : ℕ) → w ≡ Some u → u < end

pub asleep_at : (D : Dwelling) (end t l : ℕ) (links : List LinkView) (wakes : List (Option ℕ)) → AreAsleep D end t links wakes → l < length links
    → IsAsleep D end t (lane links l) (wake_of wakes l)
asleep_at D end t l links wakes h lt = record { rests = h.rests l lt; later = λ u e. h.later l u lt e; soon = λ u e. h.soon l u lt e }

pub all_asleep : (D : Dwelling) (end t : ℕ) (links : List LinkView) (wakes : List (Option ℕ)) → length wakes ≡ length links
    → ((l : ℕ) → l < length links → IsAsleep D end t (lane links l) (wake_of wakes l)) → AreAsleep D end t links wakes
all_asleep D end t links wakes n h =
    record { count = n; rests = λ l lt. (h l lt).rests; later = λ l u lt e. (h l lt).later u e; soon = λ l u lt e. (h l lt).soon u e }

sleeps_before : (end : ℕ) (w : Option ℕ) → ((u : ℕ) → w ≡ Some u → u < end) → sleeps_to end w ≤ end
sleeps_before end None h = omega arith
sleeps_before end (Some u) h = let lt = h u refl in omega arith

-- when a link is woken once a vehicle came to it in second t
woken_then : ℕ → ℕ → LinkView → Option ℕ → Option ℕ
woken_then end t v w =
    if eqb (length v.lists.queue) 0 then (if nat_lt (t + v.numbers.seconds) end then earlier (t + v.numbers.seconds) w else w) else w

-- one vehicle comes to a link that is asleep from second t on, in such a second that its own one is not before that
woken_one : (D : Dwelling) (end t s : ℕ) (e : Entering) (v : LinkView) (w : Option ℕ) → t ≤ s + v.numbers.seconds → IsAsleep D end t v w
    → IsAsleep D end t (with_queued s e v) (woken_then end s v w)
unfolding woken_then
woken_one D end t s e v w from h =
    let u = s + v.numbers.seconds in
    elim (cases_Bool (eqb (length v.lists.queue) 0)) [
      | inl q ↦
          elim (cases_Bool (nat_lt u end)) [
            | inl b ↦
                let lt : u < end = ltb-true u end b in
                let less = earlier_less end u w lt in
                let by = earlier_by end u w in
                rw (q, b) (record {
                  rests = rests_queued D t s (sleeps_to end (earlier u w)) e v (rests_less D t (sleeps_to end w) (sleeps_to end (earlier u w)) v less h.rests) (λ none. by);
                  later = λ x y. earlier_from t u x w from h.later y;
                  soon = λ x y. earlier_within end u x w lt y;
                })
            | inr b ↦
                let le : end ≤ u = ltb-false u end b in
                let before = sleeps_before end w h.soon in
                rw (q, b) (record { rests = rests_queued D t s (sleeps_to end w) e v h.rests (λ none. omega arith); later = h.later; soon = h.soon })
          ]
      | inr q ↦
          rw q (record {
            rests = rests_queued D t s (sleeps_to end w) e v h.rests (λ none. absurd (eqb-false (length v.lists.queue) 0 q none));
            later = h.later;
            soon = h.soon;
          })
    ]

pub wake_set : (l k : ℕ) (w : Option ℕ) (wakes : List (Option ℕ)) → k < length wakes → wake_of (set wakes k w) l ≡ (if eqb k l then w else wake_of wakes l)
wake_set l k w wakes lt =
    elim (cases_Bool (eqb k l)) [
      | inl q ↦ let s = eqb-true k l q in rw q (ap (λ (i : ℕ). get_or (set wakes k w) i None) (sym s) ∙ get_or-set_same wakes k w None lt)
      | inr q ↦ rw q (get_or-set_other wakes k l w None (λ (z : l ≡ k). eqb-false k l q (sym z)))
    ]

same_wake : (end t k : ℕ) (links : List LinkView) (wakes : List (Option ℕ)) → k < length wakes
    → wake_of (wake_queued end t (Some k) links wakes) k ≡ woken_then end t (lane links k) (wake_of wakes k)
unfolding woken_then
same_wake end t k links wakes lt =
    let v = lane links k in
    let u = t + v.numbers.seconds in
    elim (cases_Bool (eqb (length v.lists.queue) 0)) [
      | inl q ↦
          elim (cases_Bool (nat_lt u end)) [
            | inl c ↦ rw (q, c) (get_or-set_same wakes k (earlier u (wake_of wakes k)) None lt)
            | inr c ↦ rw (q, c) refl
          ]
      | inr q ↦ rw q refl
    ]

other_wake : (end t j k : ℕ) (links : List LinkView) (wakes : List (Option ℕ)) → k ≢ j
    → wake_of (wake_queued end t (Some j) links wakes) k ≡ wake_of wakes k
other_wake end t j k links wakes ne =
    let v = lane links j in
    let u = t + v.numbers.seconds in
    elim (cases_Bool (eqb (length v.lists.queue) 0)) [
      | inl q ↦
          elim (cases_Bool (nat_lt u end)) [
            | inl c ↦ rw (q, c) (get_or-set_other wakes j k (earlier u (wake_of wakes j)) None ne)
            | inr c ↦ rw (q, c) refl
          ]
      | inr q ↦ rw q refl
    ]

one_wake : (end t k : ℕ) (o : Option ℕ) (links : List LinkView) (wakes : List (Option ℕ)) → k < length wakes
    → wake_of (wake_queued end t o links wakes) k
    ≡ (if is_slot k o then woken_then end t (lane links k) (wake_of wakes k) else wake_of wakes k)
one_wake end t k None links wakes lt = refl
one_wake end t k (Some j) links wakes lt =
    elim (cases_Bool (eqb j k)) [
      | inl q ↦
          rw q (ap (λ (i : ℕ). wake_of (wake_queued end t (Some i) links wakes) k) (eqb-true j k q) ∙ same_wake end t k links wakes lt)
      | inr q ↦ rw q (other_wake end t j k links wakes (λ (z : k ≡ j). eqb-false j k q (sym z)))
    ]

either_asleep : (b : Bool) (D : Dwelling) (end t : ℕ) (v u : LinkView) (w x : Option ℕ) → (b ≡ true → IsAsleep D end t v w) → IsAsleep D end t u x
    → IsAsleep D end t (if b then v else u) (if b then w else x)
either_asleep true D end t v u w x h g = h refl
either_asleep false D end t v u w x h g = g

slot_this : (k : ℕ) (o : Option ℕ) → is_slot k o ≡ true → o ≡ Some k
slot_this k None e = absurd (true≢false (sym e))
slot_this k (Some j) e = ap (λ (i : ℕ). Some i) (eqb-true j k e)

-- a vehicle that comes in second s enters a link on which its own second is not before t
abbrev pub ComesBy : (ℕ → Option ℕ) → ℕ → ℕ → List LinkView → Entering → Type 0
ComesBy place t s links e = (k : ℕ) → k < length links → place e.link ≡ Some k → t ≤ s + (lane links k).numbers.seconds

accepted_asleep : (place : ℕ → Option ℕ) (D : Dwelling) (end t s : ℕ) (e : Entering) (links : List LinkView) (wakes : List (Option ℕ))
    → ComesBy place t s links e → AreAsleep D end t links wakes
    → AreAsleep D end t (accepted place s e links) (wakes_after place end s e links wakes)
accepted_asleep place D end t s e links wakes from h =
    all_asleep D end t (accepted place s e links) (wakes_after place end s e links wakes)
    (woken_length place end s e links wakes ∙ h.count ∙ sym (accepted_length place s e links))
    (λ k there.
    let within : k < length links = (let n = accepted_length place s e links in omega arith) in
    let table : k < length wakes = (let n = h.count in omega arith) in
    let b = is_slot k (place e.link) in
    let v = lane links k in
    let w = wake_of wakes k in
    let was = asleep_at D end t k links wakes h within in
    subst (λ (x : LinkView). IsAsleep D end t x (wake_of (wakes_after place end s e links wakes) k)) (sym (queued_lane s k e (place e.link) links within))
    (subst (λ (y : Option ℕ). IsAsleep D end t (if b then with_queued s e v else v) y) (sym (one_wake end s k (place e.link) links wakes table))
    (either_asleep b D end t (with_queued s e v) v (woken_then end s v w) w
    (λ yes. woken_one D end t s e v w (from k within (slot_this k (place e.link) yes)) was) was)))

same_numbers : (b : Bool) (s : ℕ) (e : Entering) (v : LinkView) → (if b then with_queued s e v else v).numbers ≡ v.numbers
same_numbers true s e v = refl
same_numbers false s e v = refl

comes_on : (place : ℕ → Option ℕ) (t s : ℕ) (e : Entering) (links : List LinkView) (es : List Entering) → Each (ComesBy place t s links) es
    → Each (ComesBy place t s (accepted place s e links)) es
comes_on place t s e links [] h = tt
comes_on place t s e links (f ∷ es) h = (
  λ (k : ℕ) (there : k < length (accepted place s e links)) (is : place f.link ≡ Some k).
      (let within : k < length links = (let n = accepted_length place s e links in omega arith) in
      let same : (lane (accepted place s e links) k).numbers ≡ (lane links k).numbers
      = ap (λ (v : LinkView). v.numbers) (queued_lane s k e (place e.link) links within) ∙ same_numbers (is_slot k (place e.link)) s e (lane links k) in
      subst (λ (x : LinkNumbers). t ≤ s + x.seconds) (sym same) (h.0 k within is)),
  comes_on place t s e links es h.1,
)

-- whoever enters in second s, those links that rest from second t on rest on
pub all_accepted_asleep : (place : ℕ → Option ℕ) (D : Dwelling) (end t s : ℕ) (es : List Entering) (links : List LinkView) (wakes : List (Option ℕ))
    → Each (ComesBy place t s links) es → AreAsleep D end t links wakes
    → AreAsleep D end t (accepted_all place s es links) (wakes_after_all place end s es links wakes)
unfolding accepted_all wakes_after_all
all_accepted_asleep place D end t s [] links wakes from h = h
all_accepted_asleep place D end t s (e ∷ es) links wakes from h =
    all_accepted_asleep place D end t s es (accepted place s e links) (wakes_after place end s e links wakes) (comes_on place t s e links es from.1)
    (accepted_asleep place D end t s e links wakes from.0 h)

-- who enters in this very second does so
pub all_come : (place : ℕ → Option ℕ) (t : ℕ) (links : List LinkView) (es : List Entering) → Each (ComesBy place t t links) es
all_come place t links [] = tt
all_come place t links (e ∷ es) = ((λ (k : ℕ) (lt : k < length links) (is : place e.link ≡ Some k). omega arith), all_come place t links es)
