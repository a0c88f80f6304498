-- The links of a network rest on when some of them hand over, where those that did not are woken.
use Rattle.std.proofs.Common.{◌≡◌, ℕ, ◌<◌, Bool, true, false, List, [], ◌∷◌, length, refl, ap, sym, ◌∙◌, subst, inl, inr, arith, eqb}
use Rattle.std.proofs.lemmas.Bool.{cases_Bool, eqb-true, or_parts, and_parts, true≢false}
use Rattle.std.{proofs.lemmas.List.length-set, specs.List.AllByRecursion as Each}
use Rattle.std.specs.Prelude.{Option, None, Some, map, not, if◌then◌else◌, ◌&&◌, ◌||◌, ◌⊎◌}
use Rattle.rows.specs.declared.settings.Dwelling.{Dwelling}
use Rattle.fixed_flow.specs.Flow.{raised}
use Rattle.traffic.specs.{Lists.is_nil, declared.moves.Move.Move, declared.world.Row.Row}
use Rattle.calendar.specs.{Due.AreIn, Waking.wake_of, Waking.earlier}
use Rattle.law_sleeping.specs.Quiet.{IsQuiet, queue_goes, wait_goes}
use Rattle.law_waking.specs.Resting.{Rests, sleeps_to}
use Rattle.queue_link.specs.{Links.LinkView, Numbers.rules_of}
use Rattle.link_seconds.specs.Seconds.{lists_at}
use Rattle.node_move.specs.NodeStates.{buffer_after}
use Rattle.node_seconds.specs.Networks.{lane, is_among}
use Rattle.part_nodes.proofs.{Clear.nil_is, Entered.IsAsleep, Entered.asleep_at, Entered.all_asleep, Entered.earlier_by, Entered.earlier_from}
use Rattle.part_nodes.{proofs.Entered.earlier_within, proofs.Entered.wake_set, specs.Turns.count_in, specs.Turns.buffered_in, specs.Turns.is_clear}
use Rattle.part_nodes.specs.{Turns.is_emptied, Turns.wake_emptied, Turns.wake_all_emptied, Turns.AreThere, declared.node_turns.Buffered.Buffered}
use Rattle.part_links.specs.Links.{AreAsleep}

-- WHO IS WOKEN
earlier_twice : (t : ℕ) (w : Option ℕ) → earlier t (earlier t w) ≡ earlier t w
earlier_twice t None = ap (λ (n : ℕ). Some n) (omega arith)
earlier_twice t (Some u) = ap (λ (n : ℕ). Some n) (omega arith)

-- whether link l is one of these and emptied
abbrev emptied_at : ℕ → List LinkView → List Buffered → Bool
emptied_at l links [] = false
emptied_at l links (b ∷ bs) = (eqb b.slot l && is_emptied b links) || emptied_at l links bs

one_woken : (t l : ℕ) (b : Buffered) (links : List LinkView) (wakes : List (Option ℕ)) → b.slot < length wakes
    → wake_of (wake_emptied t b links wakes) l ≡ (if eqb b.slot l && is_emptied b links then earlier t (wake_of wakes l) else wake_of wakes l)
one_woken t l b links wakes lt =
    elim (cases_Bool (is_emptied b links)) [
      | inl e ↦
          elim (cases_Bool (eqb b.slot l)) [
            | inl q ↦
                let s = eqb-true b.slot l q in
                rw (e, q) (wake_set l b.slot (earlier t (wake_of wakes b.slot)) wakes lt ∙ rw q (ap (λ (k : ℕ). earlier t (wake_of wakes k)) s))
            | inr q ↦ rw (e, q) (wake_set l b.slot (earlier t (wake_of wakes b.slot)) wakes lt ∙ rw q refl)
          ]
      | inr e ↦ elim (cases_Bool (eqb b.slot l)) [ inl q ↦ rw (e, q) refl | inr q ↦ rw (e, q) refl ]
    ]

one_length : (t : ℕ) (b : Buffered) (links : List LinkView) (wakes : List (Option ℕ)) → length (wake_emptied t b links wakes) ≡ length wakes
one_length t b links wakes =
    elim (cases_Bool (is_emptied b links)) [ inl e ↦ rw e (length-set wakes b.slot (earlier t (wake_of wakes b.slot))) | inr e ↦ rw e refl ]

pub emptied_length : (t : ℕ) (bs : List Buffered) (links : List LinkView) (wakes : List (Option ℕ)) → length (wake_all_emptied t bs links wakes) ≡ length wakes
unfolding wake_all_emptied
emptied_length t [] links wakes = refl
emptied_length t (b ∷ bs) links wakes = emptied_length t bs links (wake_emptied t b links wakes) ∙ one_length t b links wakes

all_woken : (t l : ℕ) (bs : List Buffered) (links : List LinkView) (wakes : List (Option ℕ)) → AreThere (length wakes) bs
    → wake_of (wake_all_emptied t bs links wakes) l ≡ (if emptied_at l links bs then earlier t (wake_of wakes l) else wake_of wakes l)
unfolding wake_all_emptied
all_woken t l [] links wakes h = refl
all_woken t l (b ∷ bs) links wakes h =
    let next = wake_emptied t b links wakes in
    let there : AreThere (length next) bs = subst (λ (n : ℕ). AreThere n bs) (sym (one_length t b links wakes)) h.1 in
    let one = one_woken t l b links wakes h.0 in
    let rest = all_woken t l bs links next there in
    elim (cases_Bool (eqb b.slot l && is_emptied b links)) [
      | inl e ↦
          let w : wake_of next l ≡ earlier t (wake_of wakes l) = one ∙ rw e refl in
          elim (cases_Bool (emptied_at l links bs)) [
            | inl f ↦ rest ∙ rw (e, f) (ap (earlier t) w ∙ earlier_twice t (wake_of wakes l))
            | inr f ↦ rest ∙ rw (e, f) w
          ]
      | inr e ↦
          let w : wake_of next l ≡ wake_of wakes l = one ∙ rw e refl in
          elim (cases_Bool (emptied_at l links bs)) [
            | inl f ↦ rest ∙ rw (e, f) (ap (earlier t) w)
            | inr f ↦ rest ∙ rw (e, f) w
          ]
    ]

not_emptied : (l : ℕ) (old links : List LinkView) (ls : List ℕ) → is_among l ls ≡ true → emptied_at l links (map (buffered_in old) ls) ≡ false
    → is_emptied (buffered_in old l) links ≡ false
not_emptied l old links [] a h = absurd (true≢false (sym a))
not_emptied l old links (n ∷ ls) a h =
    let p = or_parts (eqb n l && is_emptied (buffered_in old n) links) (emptied_at l links (map (buffered_in old) ls)) h in
    elim (cases_Bool (eqb n l)) [
      | inl q ↦
          let s = eqb-true n l q in
          let e : is_emptied (buffered_in old n) links ≡ false = rw q at p.0 in
          ap (λ (k : ℕ). is_emptied (buffered_in old k) links) (sym s) ∙ e
      | inr q ↦ let b : is_among l ls ≡ true = rw q at a in not_emptied l old links ls b p.1
    ]

-- WHO RESTS
quiet_alike : (D : Dwelling) (u : ℕ) (v : LinkView) (buffer : List Row) → length buffer ≡ length v.lists.buffer
    → IsQuiet (rules_of v.numbers D) u v.numbers.link (lists_at u v)
    → IsQuiet (rules_of v.numbers D) u v.numbers.link (lists_at u (record v { lists = record v.lists { buffer = buffer } }))
quiet_alike D u v buffer e h =
    let K = rules_of v.numbers D in
    let credit = raised v.numbers.gain (lists_at u v).credit in
    record {
      bay = h.bay;
      queue = ap (λ (n : ℕ). queue_goes K u v.numbers.link n credit v.lists.queue) e ∙ h.queue;
      wait = ap (λ (n : ℕ). wait_goes K v.numbers.link n credit v.lists.wait) e ∙ h.wait;
    }

rests_alike : (D : Dwelling) (t due : ℕ) (v : LinkView) (buffer : List Row) → length buffer ≡ length v.lists.buffer → Rests D t due v
    → Rests D t due (record v { lists = record v.lists { buffer = buffer } })
rests_alike D t due v buffer e h u from to = quiet_alike D u v buffer e (h u from to)

rests_clear : (D : Dwelling) (t due : ℕ) (v : LinkView) → is_clear v ≡ true → Rests D t due v
rests_clear D t due v c u from to =
    let p = and_parts (is_nil v.lists.queue) (is_nil v.lists.wait && is_nil v.lists.bay) c in
    let q = and_parts (is_nil v.lists.wait) (is_nil v.lists.bay) p.1 in
    let K = rules_of v.numbers D in
    let credit = raised v.numbers.gain (lists_at u v).credit in
    record {
      bay = subst (λ (rows : List Row). Each (λ (r : Row). u < r.second) rows) (sym (nil_is v.lists.bay q.1)) tt;
      queue = ap (queue_goes K u v.numbers.link (length v.lists.buffer) credit) (nil_is v.lists.queue p.0);
      wait = ap (wait_goes K v.numbers.link (length v.lists.buffer) credit) (nil_is v.lists.wait q.0);
    }

either : (a b : Bool) → (not a && not b) ≡ false → (a ≡ true) ⊎ (b ≡ true)
either true b e = inl refl
either false true e = inr refl
either false false e = absurd (true≢false e)

-- a link that handed over rests on, where it was not emptied or nobody else is on it
asleep_after : (D : Dwelling) (end t l : ℕ) (ms : List Move) (old links : List LinkView) (w : Option ℕ) → lane links l ≡ buffer_after ms (lane old l)
    → is_emptied (buffered_in old l) links ≡ false → IsAsleep D end t (lane old l) w → IsAsleep D end t (lane links l) w
asleep_after D end t l ms old links w e f h =
    record {
      rests =
          elim (either (eqb (count_in links l) (count_in old l)) (is_clear (lane links l)) f) [
            | inl q ↦
                let n : length (buffer_after ms (lane old l)).lists.buffer ≡ length (lane old l).lists.buffer
                = ap (λ (v : LinkView). length v.lists.buffer) (sym e) ∙ eqb-true (count_in links l) (count_in old l) q in
                subst (λ (v : LinkView). Rests D t (sleeps_to end w) v) (sym e)
                (rests_alike D t (sleeps_to end w) (lane old l) (buffer_after ms (lane old l)).lists.buffer n h.rests)
            | inr q ↦ rests_clear D t (sleeps_to end w) (lane links l) q
          ];
      later = h.later;
      soon = h.soon;
    }

asleep_now : (D : Dwelling) (end t : ℕ) (v old : LinkView) (w : Option ℕ) → t < end → IsAsleep D end t old w → IsAsleep D end t v (earlier t w)
asleep_now D end t v old w in_day h =
    record {
      rests = λ u from to. (let by = earlier_by end t w in absurd (omega arith));
      later = λ u s. earlier_from t t u w (omega arith) h.later s;
      soon = λ u s. earlier_within end t u w in_day s;
    }

pub buffered_there : (count : ℕ) (old : List LinkView) (ls : List ℕ) → AreIn count ls → AreThere count (map (buffered_in old) ls)
buffered_there count old [] h = tt
buffered_there count old (l ∷ ls) h = (h.0, buffered_there count old ls h.1)

pub handed_over_asleep : (D : Dwelling) (end t : ℕ) (ms : List Move) (ls : List ℕ) (old links : List LinkView) (wakes : List (Option ℕ)) → t < end
    → length links ≡ length old → AreIn (length old) ls
    → ((l : ℕ) → l < length old → lane links l ≡ (if is_among l ls then buffer_after ms (lane old l) else lane old l))
    → AreAsleep D end t old wakes → AreAsleep D end t links (wake_all_emptied t (map (buffered_in old) ls) links wakes)
handed_over_asleep D end t ms ls old links wakes in_day n there lanes h =
    let bs = map (buffered_in old) ls in
    let ts : AreThere (length wakes) bs = subst (λ (k : ℕ). AreThere k bs) (sym h.count) (buffered_there (length old) old ls there) in
    all_asleep D end t links (wake_all_emptied t bs links wakes) (emptied_length t bs links wakes ∙ h.count ∙ sym n)
    (λ l lt.
    let within : l < length old = omega arith in
    let was = asleep_at D end t l old wakes h within in
    let lane_is = lanes l within in
    subst (λ (w : Option ℕ). IsAsleep D end t (lane links l) w) (sym (all_woken t l bs links wakes ts))
    (elim (cases_Bool (emptied_at l links bs)) [
      | inl e ↦ rw e (asleep_now D end t (lane links l) (lane old l) (wake_of wakes l) in_day was)
      | inr e ↦
          elim (cases_Bool (is_among l ls)) [
            | inl a ↦ rw e (asleep_after D end t l ms old links (wake_of wakes l) (lane_is ∙ rw a refl) (not_emptied l old links ls a e) was)
            | inr a ↦ rw e (subst (λ (v : LinkView). IsAsleep D end t v (wake_of wakes l)) (sym (lane_is ∙ rw a refl)) was)
          ]
    ]))
