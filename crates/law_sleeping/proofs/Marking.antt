-- Red marks may be left out.
use Rattle.std.proofs.Common.{◌≡◌, ◌≢◌, ℕ, zero, suc, ◌+◌, ◌-◌, ◌*◌, ◌<◌, ◌≤◌, max, Bool, true, false, List, [], ◌∷◌, ◌++◌, length, get_or}
use Rattle.std.proofs.Common.{refl, ap, sym, ◌∙◌, subst, eqb, arith, inl, inr, append-nil, length-append}
use Rattle.std.specs.Prelude.{map, filter, not, ◌||◌, if◌then◌else◌, Option, nat_le, nat_lt}
use Rattle.std.specs.List.{AllByRecursion as Each}
use Rattle.std.proofs.lemmas.Bool.{cases_Bool, eqb-true, eqb-false, eq-eqb, ne_eqb}
use Rattle.fixed_flow.specs.{Flow.raised, declared.TheConstants.VEHICLE_COST}
use Rattle.traffic.proofs.{Links.link-at, Links.untouched_all, Nodes.nodes_apart, Nodes.node_untouched, Phases.links_apart, Sublists.at_after_all-append}
use Rattle.traffic.{proofs.Turns.at-phase_one, specs.Day.node_turns, specs.Day.link_turns, specs.Day.turns_of, specs.Day.after, specs.Day.turns_in}
use Rattle.traffic.specs.Links.{LinkState, link_state, rules, leave_bay, is_last, may_pass, buffered, waiting, from_wait, from_queue, wait_after, link_moves}
use Rattle.traffic.specs.{Lists.is_nil, Lists.without_at, Lists.on_front, Lists.numbers, Moves.same, Moves.at_second, Moves.at_after, Moves.at_after_all}
use Rattle.traffic.specs.Nodes.{NodeView, in_link, out_link, node_view, next_link, one_more, is_stuck, may_enter, entered, pass_node, since_of, out_links_after}
use Rattle.traffic.specs.Nodes.{pass_node_all, drawn, no_in_link, draw, ready, red, candidates, mark, node_moves}
use Rattle.traffic.specs.{Persons.waiters, Rows.World, Rows.on, Rows.at, Setup.Setup, Setup.link_row, Setup.into, Stops.calls_on, Stops.left_behind}
use Rattle.traffic.specs.{Stops.served_row, declared.moves.Move.Move}
use Rattle.traffic.specs.declared.moves.Move.TheVariants.{Transfer, Remove, SetFrontSince, Credit, LeaveHole}
use Rattle.traffic.specs.declared.{node_views.InLink.InLink, node_views.OutLink.OutLink, numbers.Rules.Rules, stage.Stage.Stage}
use Rattle.traffic.specs.declared.stage.Stage.TheVariants.{Queue, Buffer, Wait, Bay}
use Rattle.traffic.specs.declared.world.{Row.Row, Waiter.Waiter}
use Rattle.rows.specs.declared.settings.Stuck.{Stuck}
use Rattle.events.specs.declared.event.Phase.TheVariants as phase
use Rattle.law_sleeping.specs.Marks.{last_red, caught_up, catch_up, IsBehind, Buffers, lazy_in_link, lazy_node_view, green_moves}
use Rattle.law_sleeping.specs.Marks.{lazy_node_turns, AreBehind, buffers_after}

pub last_red_in : (green : ℕ → Bool) (t : ℕ) → last_red green t ≤ t
unfolding last_red
last_red_in green zero = omega arith
last_red_in green (suc t) = let r = last_red_in green t in elim (cases_Bool (green t)) [
  | inl e ↦ rw e (omega arith)
  | inr e ↦ rw e (omega arith)
]

last_red_green : (green : ℕ → Bool) (t : ℕ) → green t ≡ true → last_red green (suc t) ≡ last_red green t
unfolding last_red
last_red_green green t e = rw e refl

last_red_red : (green : ℕ → Bool) (t : ℕ) → green t ≡ false → last_red green (suc t) ≡ t
unfolding last_red
last_red_red green t e = rw e refl

max_right : (a b : ℕ) → a ≤ b → max a b ≡ b
max_right a b h = grind arith

max_left : (a b : ℕ) → b ≤ a → max a b ≡ a
max_left a b h = grind arith

-- in a red second, the mark is that which is made up from the next second on
marked_red : (green : ℕ → Bool) (t : ℕ) (rows : List Row) → green t ≡ false → since_of rows ≤ t
    → on_front (at_second t) (catch_up green t rows) ≡ catch_up green (suc t) rows
marked_red green t [] e h = refl
marked_red green t (r ∷ rs) e h =
    let f : max r.second (last_red green (suc t)) ≡ t = ap (λ (n : ℕ). max r.second n) (last_red_red green t e) ∙ max_right r.second t h in
    rw f refl

pub behind_red : (green : ℕ → Bool) (t : ℕ) (rows marked : List Row) → green t ≡ false → IsBehind green t rows marked
    → IsBehind green (suc t) rows (on_front (at_second t) marked)
behind_red green t rows marked e b = record {
  marks = ap (on_front (at_second t)) b.marks
      ∙ marked_red green t rows e b.before;
  before = (let h = b.before in omega arith);
}

-- in a green second nothing is marked, and nothing is made up for it
pub behind_green : (green : ℕ → Bool) (t : ℕ) (rows marked : List Row) → green t ≡ true → IsBehind green t rows marked
    → IsBehind green (suc t) rows marked
behind_green green t rows marked e b = record {
  marks = b.marks ∙ ap
      (λ (n : ℕ). on_front (λ (r : Row). record r { second = max r.second n }) rows) (sym (last_red_green green t e));
  before
      = (let h = b.before in omega arith);
}

-- rows whose front is marked in this second are behind in no mark
front_marked : (green : ℕ → Bool) (t : ℕ) (rows : List Row) → catch_up green t (on_front (at_second t) rows) ≡ on_front (at_second t) rows
front_marked green t [] = refl
front_marked green t (r ∷ rs) = let f = max_left t (last_red green t) (last_red_in green t) in rw f refl

since_marked : (t : ℕ) (rows : List Row) → since_of (on_front (at_second t) rows) ≤ t
since_marked t [] = omega arith
since_marked t (r ∷ rs) = omega arith

none_behind : (green : ℕ → Bool) (t : ℕ) (rows : List Row) → IsBehind green t (on_front (at_second t) rows) (on_front (at_second t) rows)
none_behind green t rows = record { marks = sym (front_marked green t rows); before = since_marked t rows }

-- THE SAME MOVES ON BOTH
same_rest : (green : ℕ → Bool) (t : ℕ) (rows : List Row) → IsBehind green t (on_front (at_second t) (without_at 0 rows))
    (on_front (at_second t) (without_at 0 (catch_up green t rows)))
same_rest green t [] = none_behind green t []
same_rest green t (r ∷ rs) = none_behind green t rs

-- a front leaves, and the next one is marked
front_leaves : (green : ℕ → Bool) (t : ℕ) (rows marked : List Row) → IsBehind green t rows marked
    → IsBehind green t (on_front (at_second t) (without_at 0 rows)) (on_front (at_second t) (without_at 0 marked))
front_leaves green t rows marked b =
    subst (λ (ys : List Row). IsBehind green t (on_front (at_second t) (without_at 0 rows)) (on_front (at_second t) (without_at 0 ys)))
    (sym b.marks) (same_rest green t rows)

-- moves that, done on both, leave them so
abbrev Keeps : (ℕ → Bool) → ℕ → ℕ → List Move → Type 0
Keeps green t l ms = (rows marked : List Row) → IsBehind green t rows marked
    → IsBehind green t (at_after_all l Buffer ms rows) (at_after_all l Buffer ms marked)

keeps_if : (green : ℕ → Bool) (t l : ℕ) (b : Bool) (ms ns : List Move) → Keeps green t l ms → Keeps green t l ns
    → Keeps green t l (if b then ms else ns)
keeps_if green t l b ms ns h g = elim b as (λ c. Keeps green t l (if c then ms else ns)) [ true ↦ h | false ↦ g ]

keeps_append : (green : ℕ → Bool) (t l : ℕ) (ms ns : List Move) → Keeps green t l ms → Keeps green t l ns → Keeps green t l (ms ++ ns)
keeps_append green t l ms ns h g = λ rows marked b.
    let e = at_after_all-append l Buffer ms ns rows in
    let f = at_after_all-append l Buffer ms ns marked in
    rw (e, f) (g (at_after_all l Buffer ms rows) (at_after_all l Buffer ms marked) (h rows marked b))

keeps_transfer : (green : ℕ → Bool) (t l a : ℕ) (was now : Row) (ms : List Move) → now.stage ≡ Queue → Keeps green t l ms
    → Keeps green t l (Transfer a Buffer 0 was now ∷ SetFrontSince a t ∷ ms)
keeps_transfer green t l a was now ms q h = λ rows marked b.
    let o : on l Buffer now ≡ false = rw q refl in
    let x = append-nil rows in let y = append-nil marked in let u = append-nil (without_at 0 rows) in let v = append-nil
    (without_at 0 marked) in
    elim (cases_Bool (eqb a l)) [
      | inl e ↦ rw (e, o, u, v) (h _ _ (front_leaves green t rows marked b))
      | inr e ↦ rw (e, o, x, y) (h rows marked b)
    ]

keeps_removal : (green : ℕ → Bool) (t l a : ℕ) (was : Row) (ms : List Move) → Keeps green t l ms
    → Keeps green t l (Remove a Buffer 0 was ∷ SetFrontSince a t ∷ ms)
keeps_removal green t l a was ms h = λ rows marked b.
    elim (cases_Bool (eqb a l)) [
      | inl e ↦ rw e (h _ _ (front_leaves green t rows marked b))
      | inr e ↦ rw e (h rows marked b)
    ]

pass_node_keeps : (green : ℕ → Bool) (K : Stuck) (t l a : ℕ) (out_links : ℕ → Option OutLink) (since : ℕ) (from : List Row)
    → Keeps green t l (pass_node K t a out_links since from)
unfolding pass_node
pass_node_keeps green K t l a out_links since [] = λ rows marked b. b
pass_node_keeps green K t l a out_links since (r ∷ rs) =
    let m = next_link r.vehicle in
    keeps_if green t l (may_enter K t since (out_links m)) _ _
    (keeps_transfer green t l a (at_second since r) (entered t (out_links m) r.vehicle) (pass_node K t a (one_more m out_links) t rs) refl
    (pass_node_keeps green K t l a (one_more m out_links) t rs))
    (keeps_if green t l (is_stuck K t since) _ _ (keeps_removal green t l a (at_second since r) (pass_node K t a out_links t rs)
    (pass_node_keeps green K t l a out_links t rs)) (λ rows marked b. b))

pub draw_keeps : (green : ℕ → Bool) (K : Stuck) (t l : ℕ) (word : ℕ → ℕ) (left j : ℕ) (es : List InLink) (out_links : ℕ → Option OutLink)
    → Keeps green t l (draw K t word left j es out_links)
unfolding draw
draw_keeps green K t l word zero j es out_links = λ rows marked b. b
draw_keeps green K t l word (suc left) j es out_links =
    let k = drawn es (word (16 * t + j)) in
    let e = get_or es k no_in_link in
    let moves = pass_node_all K t out_links e in
    keeps_append green t l moves (draw K t word left (j + 1) (without_at k es) (out_links_after moves out_links))
    (pass_node_keeps green K t l e.link out_links (since_of e.rows) e.rows)
    (draw_keeps green K t l word left (j + 1) (without_at k es) (out_links_after moves out_links))

-- WHAT A NODE SEES
same_in_links : (S : Setup) (t n : ℕ) (rows : Buffers) (V : World) → AreBehind S t rows V → (k count : ℕ) → k + count ≤ length S.links
    → map (in_link S t V) (filter (λ a. eqb (link_row S a).to n) (numbers k count))
    ≡ map (lazy_in_link S t rows) (filter (λ a. eqb (link_row S a).to n) (numbers k count))
same_in_links S t n rows V h k zero le = refl
same_in_links S t n rows V h k (suc count) le =
    let r = same_in_links S t n rows V h (k + 1) count (omega arith) in
    elim (cases_Bool (eqb (link_row S k).to n)) [
      | inl q ↦
          let e : in_link S t V k ≡ lazy_in_link S t rows k =
          ap (λ (xs : List Row). let e : InLink = record { link = k; capacity = (link_row S k).capacity; green = S.green k t; rows = xs }
          in e) (h k (omega arith)).marks in
          simp q (cc)
      | inr q ↦ simp q r
    ]

pub same_node_view : (S : Setup) (t n : ℕ) (rows : Buffers) (V : World) → AreBehind S t rows V → node_view S t n V
    ≡ lazy_node_view S t n rows V
unfolding into
same_node_view S t n rows V h =
    let f = same_in_links S t n rows V h 0 (length S.links) (omega arith) in
    λ i. record { in_links = f i; out_links = out_link S t n V }

pub node_behind : (S : Setup) (t n : ℕ) (rows : Buffers) (V : World) → AreBehind S t rows V → node_turns S t n V
    ≡ map (mark t) (red (node_view S t n V).in_links) ++ lazy_node_turns S t n rows V
unfolding node_moves
node_behind S t n rows V h = ap (λ (see : NodeView). map (mark t) (red (node_view S t n V).in_links) ++ green_moves S.settings.stuck t
    (S.word n) see) (same_node_view S t n rows V h)

-- A LINK PUTS ROWS INTO ITS BUFFER
last_red_below : (green : ℕ → Bool) (t : ℕ) → last_red green (suc t) ≤ t
unfolding last_red
last_red_below green t = let r = last_red_in green t in elim (cases_Bool (green t)) [ inl e ↦ rw e r | inr e ↦ rw e (omega arith) ]

first_come : (green : ℕ → Bool) (t : ℕ) (now : Row) → now.second ≡ t → caught_up green (suc t) now ≡ now
first_come green t now e =
    let b = last_red_below green t in
    ap (λ (n : ℕ). record now { second = n }) (max_left now.second (last_red green (suc t)) (omega arith))

come_behind : (green : ℕ → Bool) (t : ℕ) (now : Row) (rows marked : List Row) → (rows ≡ [] → now.second ≡ t)
    → IsBehind green (suc t) rows marked → IsBehind green (suc t) (rows ++ now ∷ []) (marked ++ now ∷ [])
come_behind green t now [] marked h b =
    record {
      marks = ap (λ (ys : List Row). ys ++ now ∷ []) b.marks
          ∙ ap (λ (r : Row). r ∷ []) (sym (first_come green t now (h refl)));
      before = (let e = h refl in omega arith);
    }
come_behind green t now (r ∷ rs) marked h b = record { marks = ap (λ (ys : List Row). ys ++ now ∷ []) b.marks; before = b.before }

-- moves that, done on both when b rows are in the buffer, leave them so for the next second
abbrev Brings : (ℕ → Bool) → ℕ → ℕ → ℕ → List Move → Type 0
Brings green t l b ms = (rows marked : List Row) → b ≡ length rows → IsBehind green (suc t) rows marked
    → IsBehind green (suc t) (at_after_all l Buffer ms rows) (at_after_all l Buffer ms marked)

brings_if : (green : ℕ → Bool) (t l b : ℕ) (c : Bool) (ms ns : List Move) → Brings green t l b ms → Brings green t l b ns
    → Brings green t l b (if c then ms else ns)
brings_if green t l b c ms ns h g = elim c as (λ c. Brings green t l b (if c then ms else ns)) [ true ↦ h | false ↦ g ]

-- a row that goes elsewhere, from elsewhere
brings_elsewhere : (green : ℕ → Bool) (t l b k : ℕ) (z : Stage) (was now : Row) (ms : List Move) → same l Buffer l z ≡ false
    → on l Buffer now ≡ false → Brings green t l b ms → Brings green t l b (Transfer l z k was now ∷ ms)
brings_elsewhere green t l b k z was now ms e f h = λ rows marked n g. let x = append-nil rows in let y = append-nil marked in rw
    (e, f, x, y) (h rows marked n g)

-- a row that goes into the buffer
brings_in : (green : ℕ → Bool) (t l b k : ℕ) (z : Stage) (was r : Row) (ms : List Move) → same l Buffer l z ≡ false
    → Brings green t l (b + 1) ms → Brings green t l b (Transfer l z k was (buffered t l b r) ∷ ms)
brings_in green t l b k z was r ms e h = λ rows marked n g.
    let now = buffered t l b r in
    let f : on l Buffer now ≡ true = eq-eqb l l refl in
    let first : rows ≡ [] → now.second ≡ t = λ q. let m : b ≡ 0 = n
    ∙ ap (λ (xs : List Row). length xs) q in let z = eq-eqb b 0 m in rw z refl in
    let j = length-append rows (now ∷ []) in
    rw (e, f) (h (rows ++ now ∷ []) (marked ++ now ∷ []) (omega arith) (come_behind green t now rows marked first g))

wait_brings : (green : ℕ → Bool) (K : Rules) (t l : ℕ) (ws : List Waiter) (b c : ℕ) (from : List Row)
    → Brings green t l b (from_wait K t l ws b c from)
unfolding from_wait
wait_brings green K t l ws b c [] = λ rows marked n g. g
wait_brings green K t l ws b c (r ∷ rs) =
    brings_if green t l b (calls_on l r.vehicle) _ _ (brings_elsewhere green t l b 0 Wait r (served_row K.dwell t l ws r.vehicle)
    (from_wait K t l (left_behind r.vehicle ws) b c rs) refl refl (wait_brings green K t l (left_behind r.vehicle ws) b c rs))
    (brings_if green t l b (is_last r.vehicle) _ _ (λ rows marked n g. wait_brings green K t l ws b c rs rows marked n g)
    (brings_if green t l b (may_pass K b c) _ _
    (brings_in green t l b 0 Wait r r (Credit l (c - VEHICLE_COST) ∷ from_wait K t l ws (b + 1) (c - VEHICLE_COST) rs) refl
    (λ rows marked n g. wait_brings green K t l ws (b + 1) (c - VEHICLE_COST) rs rows marked n g))
    (λ rows marked n g. g)))

queue_brings : (green : ℕ → Bool) (K : Rules) (t l : ℕ) (ws : List Waiter) (b c : ℕ) (from wait : List Row)
    → Brings green t l b (from_queue K t l ws b c from wait)
unfolding from_queue
queue_brings green K t l ws b c [] wait = wait_brings green K t l ws b c wait
queue_brings green K t l ws b c (r ∷ rs) wait =
    brings_if green t l b (nat_lt t r.second) _ _ (wait_brings green K t l ws b c wait)
    (brings_if green t l b (calls_on l r.vehicle) _ _
    (brings_elsewhere green t l b 0 Queue r (served_row K.dwell t l ws r.vehicle)
    (LeaveHole l t ∷ from_queue K t l (left_behind r.vehicle ws) b c rs wait) refl refl
    (λ rows marked n g. queue_brings green K t l (left_behind r.vehicle ws) b c rs wait rows marked n g))
    (brings_if green t l b (is_last r.vehicle) _ _ (λ rows marked n g. queue_brings green K t l ws b c rs wait rows marked n g)
    (brings_if green t l b (may_pass K b c) _ _
    (brings_in green t l b 0 Queue r r (LeaveHole l t ∷ Credit l (c - VEHICLE_COST) ∷ from_queue K t l ws (b + 1) (c - VEHICLE_COST) rs
    wait) refl (λ rows marked n g. queue_brings green K t l ws (b + 1) (c - VEHICLE_COST) rs wait rows marked n g))
    (wait_brings green K t l ws b c wait))))

bay_brings : (green : ℕ → Bool) (t l b k : ℕ) (from : List Row) (ms : List Move) → Brings green t l b ms
    → Brings green t l b (leave_bay t l k from ++ ms)
unfolding leave_bay
bay_brings green t l b k [] ms h = h
bay_brings green t l b k (r ∷ rs) ms h =
    elim (cases_Bool (nat_le r.second t)) [
      | inl e ↦ rw e (brings_elsewhere green t l b k Bay r (waiting l r) (leave_bay t l k rs ++ ms) refl refl
          (bay_brings green t l b k rs ms h))
      | inr e ↦ rw e (bay_brings green t l b (k + 1) rs ms h)
    ]

pub link_brings : (green : ℕ → Bool) (K : Rules) (t l : ℕ) (ws : List Waiter) (L : LinkState) (rows marked : List Row) → length L.buffer
    ≡ length rows → IsBehind green (suc t) rows marked
    → IsBehind green (suc t) (at_after_all l Buffer (link_moves K t l ws L) rows) (at_after_all l Buffer (link_moves K t l ws L) marked)
unfolding link_moves
link_brings green K t l ws L =
    bay_brings green t l (length L.buffer) 0 L.bay (Credit l (raised K.gain L.credit) ∷ from_queue K t l ws (length L.buffer)
    (raised K.gain L.credit) L.queue (wait_after t l L))
    (λ rows marked n g. queue_brings green K t l ws (length L.buffer) (raised K.gain L.credit) L.queue (wait_after t l L) rows marked n g)

-- the moves of a link's turn do not depend on its buffer but for its length
pub link_same : (K : Rules) (t l : ℕ) (ws : List Waiter) (L : LinkState) (buffer : List Row) → length buffer ≡ length L.buffer
    → link_moves K t l ws (record L { buffer = buffer }) ≡ link_moves K t l ws L
unfolding link_moves
link_same K t l ws L buffer e =
    let c = raised K.gain L.credit in
    ap (λ (b : ℕ). leave_bay t l 0 L.bay ++ Credit l c ∷ from_queue K t l ws b c L.queue (wait_after t l L)) e

-- A WHOLE PHASE OF NODES
-- no in-link is of link l
abbrev pub Lacks : ℕ → List InLink → Type 0
Lacks l es = Each (λ (e : InLink). e.link ≢ l) es

lacks_without : (l k : ℕ) (es : List InLink) → Lacks l es → Lacks l (without_at k es)
lacks_without l k [] h = tt
lacks_without l zero (e ∷ es) h = h.1
lacks_without l (suc k) (e ∷ es) h = (h.0, lacks_without l k es h.1)

-- moves that leave the buffer of link l as it is
abbrev pub Spares : ℕ → List Move → Type 0
Spares l ms = (xs : List Row) → at_after_all l Buffer ms xs ≡ xs

spares_if : (l : ℕ) (b : Bool) (ms ns : List Move) → Spares l ms → Spares l ns → Spares l (if b then ms else ns)
spares_if l b ms ns h g = elim b as (λ c. Spares l (if c then ms else ns)) [ true ↦ h | false ↦ g ]

spares_cons : (l : ℕ) (m : Move) (ms : List Move) → ((xs : List Row) → at_after l Buffer m xs ≡ xs) → Spares l ms → Spares l (m ∷ ms)
spares_cons l m ms h g = λ xs. ap (at_after_all l Buffer ms) (h xs) ∙ g xs

transfer_spares : (l a k : ℕ) (was now : Row) → a ≢ l → now.stage ≡ Queue → (xs : List Row)
    → at_after l Buffer (Transfer a Buffer k was now) xs ≡ xs
transfer_spares l a k was now ne q xs = let e = ne_eqb a l ne in let o : on l Buffer now ≡ false = rw q refl in rw (e, o) (append-nil xs)

removal_spares : (l a k : ℕ) (was : Row) → a ≢ l → (xs : List Row) → at_after l Buffer (Remove a Buffer k was) xs ≡ xs
removal_spares l a k was ne xs = let e = ne_eqb a l ne in rw e refl

mark_spares : (l a t : ℕ) → a ≢ l → (xs : List Row) → at_after l Buffer (SetFrontSince a t) xs ≡ xs
mark_spares l a t ne xs = let e = ne_eqb a l ne in rw e refl

pub pass_node_spares : (K : Stuck) (t l a : ℕ) → a ≢ l → (out_links : ℕ → Option OutLink) (since : ℕ) (from : List Row)
    → Spares l (pass_node K t a out_links since from)
unfolding pass_node
pass_node_spares K t l a ne out_links since [] = λ xs. refl
pass_node_spares K t l a ne out_links since (r ∷ rs) =
    let m = next_link r.vehicle in
    let was = at_second since r in
    let now = entered t (out_links m) r.vehicle in
    spares_if l (may_enter K t since (out_links m)) _ _
    (spares_cons l (Transfer a Buffer 0 was now) (SetFrontSince a t ∷ pass_node K t a (one_more m out_links) t rs)
    (transfer_spares l a 0 was now ne refl)
    (spares_cons l (SetFrontSince a t) (pass_node K t a (one_more m out_links) t rs) (mark_spares l a t ne)
    (pass_node_spares K t l a ne (one_more m out_links) t rs)))
    (spares_if l (is_stuck K t since) _ _
    (spares_cons l (Remove a Buffer 0 was) (SetFrontSince a t ∷ pass_node K t a out_links t rs) (removal_spares l a 0 was ne)
    (spares_cons l (SetFrontSince a t) (pass_node K t a out_links t rs) (mark_spares l a t ne)
    (pass_node_spares K t l a ne out_links t rs)))
    (λ xs. refl))

drawn_spares : (K : Stuck) (t l : ℕ) (out_links : ℕ → Option OutLink) (k : ℕ) (es : List InLink) → Lacks l es
    → Spares l (pass_node_all K t out_links (get_or es k no_in_link))
unfolding pass_node
drawn_spares K t l out_links k [] h = λ xs. refl
drawn_spares K t l out_links zero (e ∷ es) h = pass_node_spares K t l e.link h.0 out_links (since_of e.rows) e.rows
drawn_spares K t l out_links (suc k) (e ∷ es) h = drawn_spares K t l out_links k es h.1

pub draw_spares : (K : Stuck) (t l : ℕ) (word : ℕ → ℕ) (left j : ℕ) (es : List InLink) (out_links : ℕ → Option OutLink) → Lacks l es
    → Spares l (draw K t word left j es out_links)
unfolding draw
draw_spares K t l word zero j es out_links h = λ xs. refl
draw_spares K t l word (suc left) j es out_links h = λ xs.
    let k = drawn es (word (16 * t + j)) in
    let moves = pass_node_all K t out_links (get_or es k no_in_link) in
    at_after_all-append l Buffer moves (draw K t word left (j + 1) (without_at k es) (out_links_after moves out_links)) xs
    ∙ draw_spares K t l word left (j + 1) (without_at k es) (out_links_after moves out_links) (lacks_without l k es h)
    (at_after_all l Buffer moves xs)
    ∙ drawn_spares K t l out_links k es h xs

marks_spare : (t l : ℕ) (es : List InLink) → Lacks l es → Spares l (map (mark t) es)
marks_spare t l [] h = λ xs. refl
marks_spare t l (e ∷ es) h = spares_cons l (SetFrontSince e.link t) (map (mark t) es) (mark_spares l e.link t h.0) (marks_spare t l es h.1)

-- the lights of in-links are those of their links
abbrev Lit : Setup → ℕ → List InLink → Type 0
Lit S t es = Each (λ (e : InLink). e.green ≡ S.green e.link t) es

lit_filter : (S : Setup) (t : ℕ) (p : InLink → Bool) (es : List InLink) → Lit S t es → Lit S t (filter p es)
lit_filter S t p [] h = tt
lit_filter S t p (e ∷ es) h = elim (cases_Bool (p e)) [
  | inl q ↦ simp q (h.0, lit_filter S t p es h.1)
  | inr q ↦ simp q (lit_filter S t p es h.1)
]

lit_map : (S : Setup) (t : ℕ) (rows : Buffers) (ls : List ℕ) → Lit S t (map (lazy_in_link S t rows) ls)
lit_map S t rows [] = tt
lit_map S t rows (l ∷ ls) = (refl, lit_map S t rows ls)

-- of a green link there is no red in-link, and of a red one no green one
green_lacks : (S : Setup) (t l : ℕ) (es : List InLink) → S.green l t ≡ true → Lit S t es → Lacks l (filter (λ (e : InLink). not e.green) es)
green_lacks S t l [] g h = tt
green_lacks S t l (e ∷ es) g h =
    elim (cases_Bool e.green) [
      | inl q ↦ simp q (green_lacks S t l es g h.1)
      | inr q ↦ simp q (
        (λ i. let a : S.green e.link t ≡ S.green l t = ap (λ (x : ℕ). S.green x t) i in let b = h.0 in absurd (let z : true
            ≡ false = sym g ∙ sym a ∙ sym b ∙ q in cc)),
        green_lacks S t l es g h.1,
      )
    ]

red_lacks : (S : Setup) (t l : ℕ) (es : List InLink) → S.green l t ≡ false → Lit S t es → Lacks l (filter (λ (e : InLink). e.green) es)
red_lacks S t l [] g h = tt
red_lacks S t l (e ∷ es) g h =
    elim (cases_Bool e.green) [
      | inl q ↦ simp q (
        (λ i. let a : S.green e.link t ≡ S.green l t = ap (λ (x : ℕ). S.green x t) i in let b = h.0 in absurd (let z : true
            ≡ false = sym q ∙ b ∙ a ∙ g in cc)),
        red_lacks S t l es g h.1,
      )
      | inr q ↦ simp q (red_lacks S t l es g h.1)
    ]

-- a red in-link of the link is there, if its buffer is not empty
abbrev has : ℕ → List InLink → Bool
has l [] = false
has l (e ∷ es) = eqb e.link l || has l es

front_twice : (t : ℕ) (xs : List Row) → on_front (at_second t) (on_front (at_second t) xs) ≡ on_front (at_second t) xs
front_twice t [] = refl
front_twice t (x ∷ xs) = refl

mark_does : (l a t : ℕ) (xs : List Row) → eqb a l ≡ true → at_after l Buffer (SetFrontSince a t) xs ≡ on_front (at_second t) xs
mark_does l a t xs e = rw e refl

marked_if : (b : Bool) (t : ℕ) (xs : List Row) → (if b then on_front (at_second t) (on_front (at_second t) xs) else on_front (at_second t)
    xs) ≡ on_front (at_second t) xs
marked_if true t xs = front_twice t xs
marked_if false t xs = refl

marks_do : (t l : ℕ) (es : List InLink) (xs : List Row) → at_after_all l Buffer (map (mark t) es) xs
    ≡ (if has l es then on_front (at_second t) xs else xs)
marks_do t l [] xs = refl
marks_do t l (e ∷ es) xs =
    elim (cases_Bool (eqb e.link l)) [
      | inl q ↦
          let r = ap (at_after_all l Buffer (map (mark t) es)) (mark_does l e.link t xs q) ∙ marks_do t l es (on_front (at_second t) xs)
          ∙ marked_if (has l es) t xs in
          let h : has l (e ∷ es) ≡ true = rw q refl in
          r ∙ ap (λ (b : Bool). if b then on_front (at_second t) xs else xs) (sym h)
      | inr q ↦
          let r = ap (at_after_all l Buffer (map (mark t) es)) (mark_spares l e.link t (eqb-false e.link l q) xs) ∙ marks_do t l es xs in
          let h : has l (e ∷ es) ≡ has l es = rw q refl in
          r ∙ ap (λ (b : Bool). if b then on_front (at_second t) xs else xs) (sym h)
    ]

red_from : Setup → ℕ → ℕ → Buffers → ℕ → ℕ → List InLink
red_from S t n rows k count = red (map (lazy_in_link S t rows) (filter (λ a. eqb (link_row S a).to n) (numbers k count)))

has_red : (S : Setup) (t n l : ℕ) (rows : Buffers) (k count : ℕ) → k ≤ l → l < k + count → eqb (link_row S l).to n ≡ true → S.green l t
    ≡ false → is_nil (catch_up (S.green l) t (rows l)) ≡ false → has l (red_from S t n rows k count) ≡ true
unfolding red_from
has_red S t n l rows k zero low high to g ne = absurd (omega arith)
has_red S t n l rows k (suc count) low high to g ne =
    elim (cases_Bool (eqb k l)) [
      | inl q ↦
          let i = eqb-true k l q in
          let a : eqb (link_row S k).to n ≡ true = ap (λ (x : ℕ). eqb (link_row S x).to n) i ∙ to in
          let b : S.green k t ≡ false = ap (λ (x : ℕ). S.green x t) i ∙ g in
          let c : is_nil (catch_up (S.green k) t (rows k)) ≡ false = ap (λ (x : ℕ). is_nil (catch_up (S.green x) t (rows x))) i ∙ ne in
          simp (a, c, b, q)
      | inr q ↦
          let d = eqb-false k l q in
          let r = has_red S t n l rows (k + 1) count (let e : k ≢ l = d in omega arith) (omega arith) to g ne in
          elim (cases_Bool (eqb (link_row S k).to n)) [
            | inl a ↦
                elim (cases_Bool (is_nil (catch_up (S.green k) t (rows k)))) [
                  | inl c ↦ simp (a, c) r
                  | inr c ↦ elim (cases_Bool (S.green k t)) [ inl b ↦ simp (a, c, b) r | inr b ↦ simp (a, c, b, q) r ]
                ]
            | inr a ↦ simp a r
          ]
    ]

nil_is : (xs : List Row) → is_nil xs ≡ true → xs ≡ []
nil_is [] e = refl
nil_is (x ∷ xs) e = absurd (cc)

nothing_marked : (b : Bool) (t : ℕ) → (if b then on_front (at_second t) [] else []) ≡ on_front (at_second t) []
nothing_marked true t = refl
nothing_marked false t = refl

caught_length : (green : ℕ → Bool) (t : ℕ) (xs : List Row) → length (catch_up green t xs) ≡ length xs
caught_length green t [] = refl
caught_length green t (x ∷ xs) = refl

apart_from : (x m : ℕ) → eqb m x ≡ false → eqb x m ≡ false
apart_from x m e = ne_eqb x m (λ i. eqb-false m x e (sym i))

-- what the marks of a node do to the buffer of a red link into it
red_marks : (S : Setup) (t l : ℕ) (rows : Buffers) (V : World) → l < length S.links → S.green l t ≡ false → (xs : List Row) → xs
    ≡ catch_up (S.green l) t (rows l)
    → at_after_all l Buffer (map (mark t) (red (lazy_node_view S t (link_row S l).to rows V).in_links)) xs ≡ on_front (at_second t) xs
unfolding into red_from
red_marks S t l rows V lt g xs e =
    let n = (link_row S l).to in
    let es = red (lazy_node_view S t n rows V).in_links in
    marks_do t l es xs ∙ elim (cases_Bool (is_nil (catch_up (S.green l) t (rows l)))) [
      | inl q ↦ let z : xs ≡ [] = e ∙ nil_is _ q in rw z (nothing_marked (has l es) t)
      | inr q ↦ let h : has l es ≡ true = has_red S t n l rows 0 (length S.links) (omega arith) (omega arith) (eq-eqb n n refl) g q in rw h
          refl
    ]

pub phase_behind_turn : (S : Setup) (t l : ℕ) (rows : Buffers) (V : World) → l < length S.links → AreBehind S t rows V
    → IsBehind (S.green l) (suc t) (buffers_after S t rows V l) (at_after_all l Buffer (node_turns S t (link_row S l).to V) (at l Buffer V))
unfolding into
phase_behind_turn S t l rows V lt h =
    let n = (link_row S l).to in
    let see = lazy_node_view S t n rows V in
    let lit = lit_filter S t (λ (e : InLink). not (is_nil e.rows)) see.in_links (lit_map S t rows (into S n)) in
    let links = candidates see.in_links in
    let marks = map (mark t) (red see.in_links) in
    let moves = lazy_node_turns S t n rows V in
    let e : node_turns S t n V ≡ marks ++ moves = node_behind S t n rows V h
    ∙ ap (λ (s : NodeView). map (mark t) (red s.in_links) ++ moves) (same_node_view S t n rows V h) in
    let a : at_after_all l Buffer (node_turns S t n V) (at l Buffer V)
    ≡ at_after_all l Buffer moves (at_after_all l Buffer marks (at l Buffer V)) =
    ap (λ (ms : List Move). at_after_all l Buffer ms (at l Buffer V)) e ∙ at_after_all-append l Buffer marks moves (at l Buffer V) in
    elim (cases_Bool (S.green l t)) [
      | inl g ↦
          let b : at_after_all l Buffer marks (at l Buffer V) ≡ at l Buffer V = marks_spare t l (red see.in_links)
          (green_lacks S t l (ready see.in_links) g lit) (at l Buffer V) in
          let k = behind_green (S.green l) t _ _ g (draw_keeps (S.green l) S.settings.stuck t l (S.word n) (length links) 0 links
          (out_link S t n V) (rows l) (at l Buffer V) (h l lt)) in
          subst (λ (ys : List Row). IsBehind (S.green l) (suc t) (buffers_after S t rows V l) ys) (sym (a
          ∙ ap (at_after_all l Buffer moves) b)) k
      | inr g ↦
          let b : at_after_all l Buffer marks (at l Buffer V) ≡ on_front (at_second t) (at l Buffer V) = red_marks S t l rows V lt g
          (at l Buffer V) (h l lt).marks in
          let s = draw_spares S.settings.stuck t l (S.word n) (length links) 0 links (out_link S t n V)
          (red_lacks S t l (ready see.in_links) g lit) in
          let k = behind_red (S.green l) t (rows l) (at l Buffer V) g (h l lt) in
          let m : IsBehind (S.green l) (suc t) (rows l) (at_after_all l Buffer (node_turns S t n V) (at l Buffer V)) =
          subst (λ (ys : List Row). IsBehind (S.green l) (suc t) (rows l) ys) (sym (a ∙ ap (at_after_all l Buffer moves) b
          ∙ s (on_front (at_second t) (at l Buffer V)))) k in
          subst (λ (xs : List Row). IsBehind (S.green l) (suc t) xs (at_after_all l Buffer (node_turns S t n V) (at l Buffer V)))
          (sym (s (rows l))) m
    ]

-- the buffer of link l after all nodes had their turns
pub phase_behind : (S : Setup) (t l : ℕ) (rows : Buffers) (V : World) → l < length S.links → (link_row S l).to < S.nodes
    → AreBehind S t rows V
    → IsBehind (S.green l) (suc t) (buffers_after S t rows V l) (at l Buffer (after S t (turns_in S t phase.C V) V))
unfolding turns_in turns_of
phase_behind S t l rows V lt to h =
    let e = at-phase_one S t (node_turns S t) (nodes_apart S t) (link_row S l).to S.nodes l Buffer V to
    (λ m q. node_untouched S t m l Buffer V (apart_from (link_row S l).to m q)) in
    subst (λ (ys : List Row). IsBehind (S.green l) (suc t) (buffers_after S t rows V l) ys) (sym e) (phase_behind_turn S t l rows V lt h)

-- and after all links had theirs
pub phase_links : (S : Setup) (t l : ℕ) (xs : List Row) (V : World) → l < length S.links → IsBehind (S.green l) (suc t) xs (at l Buffer V)
    → IsBehind (S.green l) (suc t) (at_after_all l Buffer (link_turns S t l V) xs) (at l Buffer (after S t (turns_in S t phase.D V) V))
unfolding turns_in turns_of
phase_links S t l xs V lt h =
    let e = at-phase_one S t (link_turns S t) (links_apart S t) l (length S.links) l Buffer V lt
    (λ m q. untouched_all m l Buffer (link_turns S t m V) (λ i. eqb-false m l q (sym i)) (link-at S t m V)) in
    let L = link_state l V in
    let long : length (at l Buffer V) ≡ length xs = ap (λ (ys : List Row). length ys) h.marks ∙ caught_length (S.green l) (suc t) xs in
    subst (λ (ys : List Row). IsBehind (S.green l) (suc t) (at_after_all l Buffer (link_turns S t l V) xs) ys) (sym e)
    (link_brings (S.green l) (rules S l) t l (waiters S l V) L xs (at l Buffer V) long h)
