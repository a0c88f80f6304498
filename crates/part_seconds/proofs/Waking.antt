-- Which nodes of a partition keep their seconds once others were woken; and who waits on then.
use Rattle.traffic.proofs.Common.{◌≡◌, ◌≢◌, ℕ, ◌+◌, ◌<◌, ◌≤◌, true, false, List, [], ◌∷◌, ◌∙◌, ap, refl, sym, subst, arith, inl, inr, cases_Bool, true≢false}
use Rattle.traffic.proofs.Common.{and_parts, eqb, eqb-true, eq-eqb, length, get_or-set_other, nat_lt, Option, None, Some, Setup, World, link_row, at}
use Rattle.traffic.{proofs.Common.storage_of, specs.Links.LinkState, specs.declared.stage.Stage.TheVariants.Buffer, specs.declared.world.Row.Row}
use Rattle.calendar.specs.Waking.{wake_of}
use Rattle.parts.specs.Owners.{Owner, owner_of, begins_in}
use Rattle.queue_link.specs.Links.{LinkView}
use Rattle.node_seconds.specs.Networks.{lane, is_among}
use Rattle.part_lines.proofs.Ready.{IsOneOf}
use Rattle.part_links.{proofs.Standing.link_is, specs.Links.LinksStandAt}
use Rattle.part_places.specs.Taking.{times, begins_here}
use Rattle.part_nodes.{proofs.Held.none_waits, specs.Phase.taken_before, specs.Phase.BufferWaits, specs.Phase.AreAwaitedAt, specs.Phase.GoOnThere}
use Rattle.law_parts_of_days.specs.Settling.{link_at, buffered_in, wake_end, wake_ends, is_own_start, wake_start, wake_starts}
use Rattle.law_parts_of_days.proofs.Awaited.{not_woken, not_woken_for}
use Rattle.part_seconds.proofs.{Knowing.waits_known, Vacated.among_first, Vacated.among_later}

-- WHO IS NOT WOKEN
-- a node at which none of these links ends keeps its second
pub ends_spare : (S : Setup) (t m : ℕ) (links : List LinkView) (ns : List ℕ) (wakes : List (Option ℕ))
    → ((k : ℕ) → is_among k ns ≡ true → (link_row S (link_at links k)).to ≢ m) → wake_of (wake_ends S t links ns wakes) m ≡ wake_of wakes m
unfolding wake_ends
ends_spare S t m links [] wakes h = refl
ends_spare S t m links (n ∷ ns) wakes h =
    ends_spare S t m links ns (wake_end S t links n wakes) (λ k e. h k (among_later k n ns e))
    ∙ elim (cases_Bool (nat_lt 0 (buffered_in links n))) [
      | inl e ↦
          let ne : m ≢ (link_row S (link_at links n)).to = λ q. h n (among_first n ns) (sym q) in
          rw e (get_or-set_other wakes (link_row S (link_at links n)).to m (Some (t + 1)) None ne)
      | inr e ↦ rw e refl
    ]

-- a node of another partition keeps its second
pub starts_spare : (S : Setup) (own : Owner) (p t n : ℕ) (ms : List ℕ) (wakes : List (Option ℕ)) → eqb (own n) p ≡ false
    → wake_of (wake_starts S own p t ms wakes) n ≡ wake_of wakes n
unfolding wake_starts
starts_spare S own p t n [] wakes off = refl
starts_spare S own p t n (m ∷ ms) wakes off =
    starts_spare S own p t n ms (wake_start S own p t m wakes) off
    ∙ elim (cases_Bool (is_own_start S own p m)) [
      | inl e ↦
          let here = (and_parts (nat_lt m (length S.links)) (begins_here S own p m) e).1 in
          let ne : n ≢ (link_row S m).from = λ q. true≢false (sym here ∙ ap (λ (k : ℕ). eqb (own k) p) (sym q) ∙ off) in
          rw e (get_or-set_other wakes (link_row S m).from n (Some t) None ne)
      | inr e ↦ rw e refl
    ]

-- WHO WAITS ON
-- once the places of second t are free and nodes were woken for those links that were full, all others wait on
pub awaited_when_free : (S : Setup) (own : Owner) (p end t : ℕ) (V : World) (wakes : List (Option ℕ)) (ms : List ℕ) → length wakes ≡ S.nodes
    → GoOnThere (λ n. eqb (own n) p) S V
    → ((m : ℕ) → m < length S.links → begins_in S own m ≡ p → times m ms ≡ 0 → storage_of S m ≤ taken_before S t m V
    → storage_of S m ≤ taken_before S (t + 1) m V)
    → AreAwaitedAt (λ n. eqb (own n) p) S end t t wakes V
    → AreAwaitedAt (λ n. eqb (own n) p) S end (t + 1) t (wake_starts S own p t ms wakes) V
awaited_when_free S own p end t V wakes ms many on full h n l lt own_n off there to =
    let within : n < length wakes = omega arith in
    let o = eqb-true (own n) p own_n in
    let w = not_woken_for S own p t n ms wakes o within off in
    subst (λ (x : Option ℕ). BufferWaits S end (t + 1) t l x V (at l Buffer V)) (sym w.same)
    (waits_known S end t (t + 1) t l (wake_of wakes n) V V (at l Buffer V) (on l there (ap (λ (k : ℕ). eqb (own k) p) to ∙ own_n))
    (λ m in_links joined was. full m in_links (ap own (joined ∙ to) ∙ o) (w.none m in_links (joined ∙ to)) was) (h n l lt own_n w.before there to))

-- in a world with the same buffers, where no place of the links that begin here is free that was taken, all wait on
pub awaited_on : (S : Setup) (own : Owner) (p end q u t : ℕ) (wakes : List (Option ℕ)) (V U : World) → GoOnThere (λ n. eqb (own n) p) S V
    → ((l : ℕ) → l < length S.links → owner_of S own l ≡ p → at l Buffer U ≡ at l Buffer V)
    → ((m : ℕ) → m < length S.links → begins_in S own m ≡ p → taken_before S q m V ≤ taken_before S u m U)
    → AreAwaitedAt (λ n. eqb (own n) p) S end q t wakes V → AreAwaitedAt (λ n. eqb (own n) p) S end u t wakes U
awaited_on S own p end q u t wakes V U on buffers more h n l lt own_n off there to =
    let o = eqb-true (own n) p own_n in
    let ends : owner_of S own l ≡ p = ap own to ∙ o in
    subst (λ (rs : List Row). BufferWaits S end u t l (wake_of wakes n) U rs) (sym (buffers l there ends))
    (waits_known S end q u t l (wake_of wakes n) V U (at l Buffer V) (on l there (eq-eqb (owner_of S own l) p ends))
    (λ m in_links joined was. (let k = more m in_links (ap own joined ∙ ends) in omega arith)) (h n l lt own_n off there to))

-- LINKS IN SLOTS
pub buffer_at : (number : ℕ → ℕ) (size : ℕ) (S : Setup) (t k : ℕ) (links : List LinkView) (V : World) → LinksStandAt number size S t links V
    → k < size → (lane links k).lists.buffer ≡ at (number k) Buffer V
buffer_at number size S t k links V h lt = ap (λ (L : LinkState). L.buffer) (h.lists k lt)

pub number_at : (number : ℕ → ℕ) (size : ℕ) (S : Setup) (t k : ℕ) (links : List LinkView) (V : World) → LinksStandAt number size S t links V
    → k < size → link_at links k ≡ number k
number_at number size S t k links V h lt = link_is S (number k) (lane links k) (h.numbers k lt)

-- once the links in these slots had their turns and the nodes at the ends of those with somebody in their buffers were woken, all others
-- wait on
pub awaited_after : (number : ℕ → ℕ) (size : ℕ) (S : Setup) (own : Owner) (p end t : ℕ) (V W : World) (old new : List LinkView) (ks : List ℕ)
    (before wakes : List (Option ℕ)) → ((l : ℕ) → l < length S.links → owner_of S own l ≡ p → IsOneOf number size l)
    → GoOnThere (λ n. eqb (own n) p) S V
    → ((m : ℕ) → m < length S.links → begins_in S own m ≡ p → taken_before S (t + 1) m V ≤ taken_before S (t + 1) m W)
    → LinksStandAt number size S t old V → LinksStandAt number size S (t + 1) new W
    → ((k : ℕ) → is_among k ks ≡ false → lane new k ≡ lane old k) → length before ≡ S.nodes → wakes ≡ wake_ends S t new ks before
    → AreAwaitedAt (λ n. eqb (own n) p) S end (t + 1) (t + 1) before V → AreAwaitedAt (λ n. eqb (own n) p) S end (t + 1) (t + 1) wakes W
awaited_after number size S own p end t V W old new ks before wakes slot on more stood stand others many e h n l lt own_n off there to =
    let within : n < length before = omega arith in
    let o = eqb-true (own n) p own_n in
    let ends : owner_of S own l ≡ p = ap own to ∙ o in
    let w = not_woken S t n new ks before within (subst (λ (ws : List (Option ℕ)). wake_of ws n ≢ Some (t + 1)) e off) in
    let same : wake_of wakes n ≡ wake_of before n = ap (λ (ws : List (Option ℕ)). wake_of ws n) e ∙ w.same in
    let s = slot l there ends in
    let k = s.0 in
    let here : (lane new k).lists.buffer ≡ at l Buffer W = buffer_at number size S (t + 1) k new W stand s.1.0 ∙ ap (λ (m : ℕ). at m Buffer W) s.1.1 in
    subst (λ (x : Option ℕ). BufferWaits S end (t + 1) (t + 1) l x W (at l Buffer W)) (sym same)
    (elim (cases_Bool (is_among k ks)) [
      | inl a ↦
          let at_end : (link_row S (link_at new k)).to ≡ n
          = ap (λ (m : ℕ). (link_row S m).to) (number_at number size S (t + 1) k new W stand s.1.0 ∙ s.1.1) ∙ to in
          none_waits S end (t + 1) (t + 1) l (wake_of before n) W (sym here ∙ w.empty k a at_end)
      | inr a ↦
          let was : at l Buffer W ≡ at l Buffer V
          = sym here ∙ ap (λ (v : LinkView). v.lists.buffer) (others k a) ∙ buffer_at number size S t k old V stood s.1.0
          ∙ ap (λ (m : ℕ). at m Buffer V) s.1.1 in
          subst (λ (rs : List Row). BufferWaits S end (t + 1) (t + 1) l (wake_of before n) W rs) (sym was)
          (waits_known S end (t + 1) (t + 1) (t + 1) l (wake_of before n) V W (at l Buffer V) (on l there (eq-eqb (owner_of S own l) p ends))
          (λ m in_links joined full. (let x = more m in_links (ap own joined ∙ ends) in omega arith)) (h n l lt own_n w.before there to))
    ])
