-- Links have their turns one after the other.
use Rattle.traffic.proofs.Common.{◌≡◌, ℕ, ◌+◌, ◌<◌, Bool, false, List, ◌∙◌, ap, refl, sym, subst, [], ◌∷◌, ◌++◌, inl, inr, arith, append-nil}
use Rattle.traffic.proofs.Common.{length, get_or, set, eqb, eqb-true, eqb-false, ne_eqb, cases_Bool, true≢false, length-set, get_or-set_same, get_or-set_other}
use Rattle.traffic.proofs.Common.{flat_map, Option, None, Event, Setup, World, told, phase_code, keyed, link_moves, link_turns, link_state, rules, waiters}
use Rattle.traffic.{proofs.Common.LinkState, specs.Setup.link_of_stop}
use Rattle.traffic.specs.declared.{moves.Move.Move, moves.Occurrence.Occurrence, numbers.Rules.Rules, world.Waiter.Waiter}
use Rattle.std.{proofs.Common.take, proofs.lemmas.List.flat_map_more, proofs.lemmas.List.take_more, specs.List.AllByRecursion as Each}
use Rattle.events.specs.declared.event.Phase.TheVariants as phase
use Rattle.rows.specs.declared.settings.Dwelling.{Dwelling}
use Rattle.law_sleeping.specs.Quiet.{link_state_after_all}
use Rattle.calendar.specs.{Due.AreIn, Waking.wake_of}
use Rattle.queue_link.specs.{Links.LinkView, Numbers.numbers_of, Numbers.rules_of, declared.numbers.LinkNumbers.LinkNumbers}
use Rattle.link_seconds.specs.Seconds.{HaveLines, StopThere, IsThere, IsSecond, lists_at, line_at, left_after}
use Rattle.node_move.specs.NodeStates.{no_link}
use Rattle.node_seconds.{proofs.Lanes.in_at, proofs.Lanes.among_front, specs.Networks.lane, specs.Networks.is_among, specs.Networks.AreOnce}
use Rattle.part_links.specs.Links.{IsLink, AreNumbered, LinksStandAt, LinesStandAt, StopsThere, CanTurn, lies_on, wake_after}
use Rattle.part_links.specs.Phase.{of_persons, moves_at, IsTurn, turned, keyed_by, told_by, waiting_behind, AreTurned}
use Rattle.part_links.proofs.Numbers.{among_own, among_other}

-- THE NUMBERS OF A LINK
pub link_is : (S : Setup) (l : ℕ) (v : LinkView) → IsLink S l v → v.numbers.link ≡ l
unfolding numbers_of
link_is S l v h = ap (λ (n : LinkNumbers). n.link) h.numbers

pub rules_are : (S : Setup) (l : ℕ) (v : LinkView) → IsLink S l v → rules_of v.numbers S.settings.dwell ≡ rules S l
unfolding numbers_of
rules_are S l v h = ap (λ (n : LinkNumbers). rules_of n S.settings.dwell) h.numbers

-- THE MOVES OF A LINK
pub moves_are : (S : Setup) (t n : ℕ) (V : World) (D : Dwelling) (v : LinkView) → S.settings.dwell ≡ D → IsLink S n v → lists_at t v ≡ link_state n V
    → moves_at D t (waiters S n V) v ≡ link_turns S t n V
moves_are S t n V D v d h e =
    let ws = waiters S n V in
    let K : rules_of v.numbers D ≡ rules S n = ap (rules_of v.numbers) (sym d) ∙ rules_are S n v h in
    ap (λ (R : Rules). link_moves R t v.numbers.link ws (lists_at t v)) K ∙ ap (λ (l : ℕ). link_moves (rules S n) t l ws (lists_at t v)) (link_is S n v h)
    ∙ ap (link_moves (rules S n) t n ws) e

with_turn : ℕ → LinkView → LinkState → LinkView
with_turn t v L = record v { lists = L; raised = t + 1 }

turned_is : (S : Setup) (t n : ℕ) (V : World) (v w : LinkView) (ms : List Move) → IsLink S n v → lists_at t v ≡ link_state n V → ms ≡ link_turns S t n V
    → w ≡ record v { lists = link_state_after_all v.numbers.link ms (lists_at t v); raised = t + 1 } → w ≡ turned S t n V v
unfolding with_turn
turned_is S t n V v w ms h e m g =
    g ∙ ap (λ (l : ℕ). with_turn t v (link_state_after_all l ms (lists_at t v))) (link_is S n v h)
    ∙ ap (λ (xs : List Move). with_turn t v (link_state_after_all n xs (lists_at t v))) m
    ∙ ap (λ (L : LinkState). with_turn t v (link_state_after_all n (link_turns S t n V) L)) e

-- the turn of a link by its second and by what is told of it
pub turn_is : (lies : ℕ → Bool) (D : Dwelling) (t n : ℕ) (ws : List Waiter) (v w : LinkView) (lines later : List (List Waiter))
    (events out : List Event) (said heard now : List Occurrence) → w ≡ record v { lists = w.lists; raised = t + 1 }
    → IsSecond lies (rules_of v.numbers D) t v.numbers.link ws (lists_at t v) [] lines w.lists now later
    → out ≡ events ++ keyed t (phase_code phase.D) n 0 now → heard ≡ said ++ of_persons now → IsTurn lies D t n ws v w lines later events out said heard
unfolding with_turn
turn_is lies D t n ws v w lines later events out said heard now e s o h =
    record {
      link = e ∙ ap (with_turn t v) s.lists;
      events = o ∙ ap (λ (xs : List Occurrence). events ++ keyed t (phase_code phase.D) n 0 xs) s.events;
      said = h ∙ ap (λ (xs : List Occurrence). said ++ of_persons xs) s.events;
      waits = s.waits;
      others = s.others;
    }

-- a link that was put to its place
pub lane_set : (links later : List LinkView) (n : ℕ) (v : LinkView) → n < length links → later ≡ set links n v → lane later n ≡ v
lane_set links later n v lt e = ap (λ (xs : List LinkView). lane xs n) e ∙ get_or-set_same links n v no_link lt

-- the second of a link at its place
pub second_at : (lies : ℕ → Bool) (D : Dwelling) (t n : ℕ) (ws : List Waiter) (links : List LinkView) (v w : LinkView)
    (lines later : List (List Waiter)) (start heard : List Occurrence) → n < length links → v ≡ lane links n → start ≡ []
    → StopThere lies (lane links n) → Each (IsThere lies (lane links n).numbers.link) (lane links n).lists.bay
    → (StopThere lies v → Each (IsThere lies v.numbers.link) v.lists.bay
    → IsSecond lies (rules_of v.numbers D) t v.numbers.link ws (lists_at t v) start lines w.lists heard later)
    → IsSecond lies (rules_of (lane links n).numbers D) t (lane links n).numbers.link ws (lists_at t (lane links n)) [] lines
    (lane (set links n w) n).lists heard later
second_at lies D t n ws links v w lines later start heard lt is none there bay turn =
    let own = lane links n in
    let put : w.lists ≡ (lane (set links n w) n).lists = ap (λ (x : LinkView). x.lists) (sym (get_or-set_same links n w no_link lt)) in
    let at : IsSecond lies (rules_of own.numbers D) t own.numbers.link ws (lists_at t own) start lines w.lists heard later
    = subst (λ (x : LinkView). StopThere lies x → Each (IsThere lies x.numbers.link) x.lists.bay
    → IsSecond lies (rules_of x.numbers D) t x.numbers.link ws (lists_at t x) start lines w.lists heard later) is turn there bay in
    let from_none = subst (λ (said : List Occurrence).
    IsSecond lies (rules_of own.numbers D) t own.numbers.link ws (lists_at t own) said lines w.lists heard later) none at in
    subst (λ (L : LinkState). IsSecond lies (rules_of own.numbers D) t own.numbers.link ws (lists_at t own) [] lines L heard later) put from_none

-- ONE MORE
pub record Turned (S : Setup) (end t n : ℕ) (V : World) (v w : LinkView) (lines later : List (List Waiter)) (out next : List Event) (heard hears : List Occurrence) : Type 0 where
  pub link : w ≡ turned S t n V v
  pub events : next ≡ out ++ keyed_by S t V n
  pub said : hears ≡ heard ++ of_persons (told_by S t V n)
  pub waits : HaveLines (lies_on S n) later (left_after (link_turns S t n V) (waiters S n V))
  pub others : (stop : ℕ) → lies_on S n stop ≡ false → line_at later stop ≡ line_at lines stop

one_turn : (S : Setup) (end t n : ℕ) (V : World) (D : Dwelling) (v w : LinkView) (lines later : List (List Waiter)) (out next : List Event) (heard hears : List Occurrence)
    → S.settings.dwell ≡ D → IsLink S n v → lists_at t v ≡ link_state n V
    → IsTurn (lies_on S n) D t n (waiters S n V) v w lines later out next heard hears → Turned S end t n V v w lines later out next heard hears
one_turn S end t n V D v w lines later out next heard hears d h e g =
    let m = moves_are S t n V D v d h e in
    record {
      link = turned_is S t n V v w (moves_at D t (waiters S n V) v) h e m g.link;
      events = g.events ∙ ap (λ (ms : List Move). out ++ keyed t (phase_code phase.D) n 0 (flat_map told ms)) m;
      said = g.said ∙ ap (λ (ms : List Move). heard ++ of_persons (flat_map told ms)) m;
      waits = subst (λ (ms : List Move). HaveLines (lies_on S n) later (left_after ms (waiters S n V))) m g.waits;
      others = g.others;
    }

other_lines : (S : Setup) (l n : ℕ) (lines later : List (List Waiter)) (ws : List Waiter) → eqb n l ≡ false
    → ((stop : ℕ) → lies_on S n stop ≡ false → line_at later stop ≡ line_at lines stop) → HaveLines (lies_on S l) lines ws → HaveLines (lies_on S l) later ws
other_lines S l n lines later ws ne o h =
    record {
      once = h.once;
      each = λ stop e.
          let here : link_of_stop S stop ≡ l = eqb-true (link_of_stop S stop) l e in
          let far : eqb (link_of_stop S stop) n ≡ false
          = elim (cases_Bool (eqb (link_of_stop S stop) n)) [
            | inl q ↦ absurd (eqb-false n l ne (sym (eqb-true (link_of_stop S stop) n q) ∙ here))
            | inr q ↦ q
          ] in
          o stop far ∙ h.each stop e;
    }

-- links in different slots have different numbers
apart_at : (S : Setup) (size j k : ℕ) (number : ℕ → ℕ) → AreNumbered S size number → j < size → k < size → eqb j k ≡ false
    → eqb (number j) (number k) ≡ false
apart_at S size j k number h lt there ne = ne_eqb (number j) (number k) (λ e. eqb-false j k ne (h.apart j k lt there e))

turn_more : (number : ℕ → ℕ) (S : Setup) (end t n : ℕ) (V : World) (ms : List ℕ) (old links later : List LinkView)
    (lines after : List (List Waiter)) (before wakes more : List (Option ℕ)) (events out next : List Event) (said heard hears : List Occurrence)
    → AreNumbered S (length old) number → n < length old → length before ≡ length old → is_among n ms ≡ false
    → AreTurned number S end t V ms old links lines before wakes events out said heard
    → Turned S end t (number n) V (lane links n) (lane later n) lines after out next heard hears
    → later ≡ set links n (lane later n) → more ≡ set wakes n (wake_after end t (lane later n))
    → AreTurned number S end t V (ms ++ n ∷ []) old later after before more events next said hears
turn_more number S end t n V ms old links later lines after before wakes more events out next said heard hears own lt slots fresh h g e f =
    let others : (l : ℕ) → eqb n l ≡ false → lane later l ≡ lane links l
    = λ l ne. ap (λ (xs : List LinkView). lane xs l) e ∙ get_or-set_other links n l (lane later n) no_link (λ q. eqb-false n l ne (sym q)) in
    let sleepers : (l : ℕ) → eqb n l ≡ false → wake_of more l ≡ wake_of wakes l
    = λ l ne. ap (λ (xs : List (Option ℕ)). wake_of xs l) f ∙ get_or-set_other wakes n l (wake_after end t (lane later n)) None (λ q. eqb-false n l ne (sym q)) in
    record {
      count = ap length e ∙ length-set links n (lane later n) ∙ h.count;
      slots = ap length f ∙ length-set wakes n (wake_after end t (lane later n)) ∙ h.slots;
      done = λ l within among.
          elim (cases_Bool (eqb n l)) [
            | inl q ↦
                let same : n ≡ l = eqb-true n l q in
                subst (λ (k : ℕ). lane later k ≡ turned S t (number k) V (lane old k)) same (g.link ∙ ap (turned S t (number n) V) (h.left n fresh))
            | inr q ↦ others l q ∙ h.done l within (sym (among_other l n ms q) ∙ among)
          ];
      left = λ l out_of.
          elim (cases_Bool (eqb n l)) [
            | inl q ↦
                let same : n ≡ l = eqb-true n l q in
                absurd (true≢false (sym (among_own n ms) ∙ ap (λ (k : ℕ). is_among k (ms ++ n ∷ [])) same ∙ out_of))
            | inr q ↦ others l q ∙ h.left l (sym (among_other l n ms q) ∙ out_of)
          ];
      waits = λ l within.
          elim (cases_Bool (eqb n l)) [
            | inl q ↦
                let same : n ≡ l = eqb-true n l q in
                let mine = among_own n ms in
                subst (λ (k : ℕ). HaveLines (lies_on S (number k)) after (waiting_behind S t (number k) V (is_among k (ms ++ n ∷ [])))) same
                (subst (λ (b : Bool). HaveLines (lies_on S (number n)) after (waiting_behind S t (number n) V b)) (sym mine) g.waits)
            | inr q ↦
                subst (λ (b : Bool). HaveLines (lies_on S (number l)) after (waiting_behind S t (number l) V b)) (sym (among_other l n ms q))
                (other_lines S (number l) (number n) lines after (waiting_behind S t (number l) V (is_among l ms))
                (apart_at S (length old) n l number own lt within q) g.others (h.waits l within))
          ];
      woken = λ l within among.
          elim (cases_Bool (eqb n l)) [
            | inl q ↦
                let same : n ≡ l = eqb-true n l q in
                let there : n < length wakes = (let a = h.slots in omega arith) in
                subst (λ (k : ℕ). wake_of more k ≡ wake_after end t (lane later k)) same
                (ap (λ (xs : List (Option ℕ)). wake_of xs n) f ∙ get_or-set_same wakes n (wake_after end t (lane later n)) None there)
            | inr q ↦
                sleepers l q ∙ h.woken l within (sym (among_other l n ms q) ∙ among) ∙ ap (wake_after end t) (sym (others l q))
          ];
      asleep = λ l out_of.
          elim (cases_Bool (eqb n l)) [
            | inl q ↦
                let same : n ≡ l = eqb-true n l q in
                absurd (true≢false (sym (among_own n ms) ∙ ap (λ (k : ℕ). is_among k (ms ++ n ∷ [])) same ∙ out_of))
            | inr q ↦ sleepers l q ∙ h.asleep l (sym (among_other l n ms q) ∙ out_of)
          ];
      events = g.events ∙ ap (λ (xs : List Event). xs ++ keyed_by S t V (number n)) h.events
          ∙ flat_map_more (λ (k : ℕ). keyed_by S t V (number k)) events ms n;
      said = g.said ∙ ap (λ (xs : List Occurrence). xs ++ of_persons (told_by S t V (number n))) h.said
          ∙ flat_map_more (λ (k : ℕ). of_persons (told_by S t V (number k))) said ms n;
    }

-- by what the turn of a link is for whoever waits
pub turned_next : (number : ℕ → ℕ) (size : ℕ) (S : Setup) (end t n : ℕ) (V : World) (D : Dwelling) (ms : List ℕ) (old links later : List LinkView)
    (lines after : List (List Waiter)) (before wakes more : List (Option ℕ)) (events out next : List Event) (said heard hears : List Occurrence)
    → AreNumbered S size number → S.settings.dwell ≡ D → LinksStandAt number size S t old V
    → ((k : ℕ) → k < size → StopsThere S (number k) (lane old k))
    → n < length old → length before ≡ length old → is_among n ms ≡ false
    → AreTurned number S end t V ms old links lines before wakes events out said heard
    → ((lies : ℕ → Bool) (ws : List Waiter) → HaveLines lies lines ws → StopThere lies (lane links n)
    → Each (IsThere lies (lane links n).numbers.link) (lane links n).lists.bay
    → IsTurn lies D t (lane links n).numbers.link ws (lane links n) (lane later n) lines after out next heard hears)
    → later ≡ set links n (lane later n) → more ≡ set wakes n (wake_after end t (lane later n))
    → AreTurned number S end t V (ms ++ n ∷ []) old later after before more events next said hears
turned_next number size S end t n V D ms old links later lines after before wakes more events out next said heard hears own d stand there lt slots fresh h turn e f =
    let many = stand.count in
    let known : n < size = omega arith in
    let l = number n in
    let same : lane old n ≡ lane links n = sym (h.left n fresh) in
    let waits : HaveLines (lies_on S l) lines (waiters S l V)
    = subst (λ (b : Bool). HaveLines (lies_on S l) lines (waiting_behind S t l V b)) fresh (h.waits n lt) in
    let stops : StopsThere S l (lane links n) = subst (StopsThere S l) same (there n known) in
    let link : IsLink S l (lane links n) = subst (IsLink S l) same (stand.numbers n known) in
    let lists : lists_at t (lane links n) ≡ link_state l V = ap (lists_at t) (sym same) ∙ stand.lists n known in
    let numbered : AreNumbered S (length old) number = subst (λ (k : ℕ). AreNumbered S k number) (sym many) own in
    let now : IsTurn (lies_on S l) D t l (waiters S l V) (lane links n) (lane later n) lines after out next heard hears
    = subst (λ (k : ℕ). IsTurn (lies_on S l) D t k (waiters S l V) (lane links n) (lane later n) lines after out next heard hears)
    (link_is S l (lane links n) link) (turn (lies_on S l) (waiters S l V) waits stops.there stops.bay) in
    turn_more number S end t n V ms old links later lines after before wakes more events out next said heard hears numbered lt slots fresh h
    (one_turn S end t l V D (lane links n) (lane later n) lines after out next heard hears d link lists now) e f

-- before the first turn
pub none_turned : (number : ℕ → ℕ) (size : ℕ) (S : Setup) (end t : ℕ) (V : World) (old : List LinkView) (lines : List (List Waiter))
    (before : List (Option ℕ)) (events : List Event) (said : List Occurrence) → LinksStandAt number size S t old V
    → LinesStandAt number size S lines V → AreTurned number S end t V [] old old lines before before events events said said
none_turned number size S end t V old lines before events said stand lies =
    record {
      count = refl;
      slots = refl;
      done = λ l lt e. absurd (true≢false (sym e));
      left = λ l e. refl;
      waits = λ l lt. lies l (let a = stand.count in omega arith);
      woken = λ l lt e. absurd (true≢false (sym e));
      asleep = λ l e. refl;
      events = sym (append-nil events);
      said = sym (append-nil said);
    }

-- PLACES IN THE LIST OF SLOTS
pub taken_one : (ns : List ℕ) (i : ℕ) → i < length ns → take (i + 1) ns ≡ take i ns ++ get_or ns i 0 ∷ []
taken_one ns i lt = take_more ns i 0 lt

pub left_next : (old links later : List LinkView) (ns : List ℕ) (i n : ℕ) → i < length ns → n ≡ get_or ns i 0 → later ≡ set links n (lane later n)
    → ((l : ℕ) → is_among l (take i ns) ≡ false → lane links l ≡ lane old l)
    → (l : ℕ) → is_among l (take (i + 1) ns) ≡ false → lane later l ≡ lane old l
left_next old links later ns i n lt e f h = λ l out_of.
    let split : take (i + 1) ns ≡ take i ns ++ n ∷ [] = taken_one ns i lt ∙ ap (λ (k : ℕ). take i ns ++ k ∷ []) (sym e) in
    let out_more : is_among l (take i ns ++ n ∷ []) ≡ false = sym (ap (is_among l) split) ∙ out_of in
    elim (cases_Bool (eqb n l)) [
      | inl q ↦ absurd (true≢false (sym (among_own n (take i ns)) ∙ ap (λ (k : ℕ). is_among k (take i ns ++ n ∷ [])) (eqb-true n l q) ∙ out_more))
      | inr q ↦
          ap (λ (xs : List LinkView). lane xs l) f ∙ get_or-set_other links n l (lane later n) no_link (λ z. eqb-false n l q (sym z))
          ∙ h l (sym (among_other l n (take i ns) q) ∙ out_more)
    ]

pub able_left : (t : ℕ) (old links : List LinkView) (ns : List ℕ) (i stops now : ℕ) → AreIn (length old) ns → AreOnce ns → i < length ns → now ≡ stops
    → ((l : ℕ) → l < length old → CanTurn stops t (lane old l)) → ((l : ℕ) → is_among l (take i ns) ≡ false → lane links l ≡ lane old l)
    → CanTurn now t (lane links (get_or ns i 0))
able_left t old links ns i stops now there once lt e able left =
    let n = get_or ns i 0 in
    let within : n < length old = in_at (length old) ns i (length old) there lt refl in
    subst (λ (k : ℕ). CanTurn k t (lane links n)) (sym e)
    (subst (CanTurn stops t) (sym (left n (among_front ns i once lt))) (able n within))
