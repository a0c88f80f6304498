-- A node sleeps while no front and no room comes.
use Rattle.std.proofs.Common.{◌≡◌, ℕ, zero, suc, ◌+◌, ◌-◌, ◌<◌, ◌≤◌, max, Bool, true, false, List, [], ◌∷◌, ◌++◌, length, refl, ap, sym, subst, eqb, arith, inl}
use Rattle.std.proofs.Common.{inr}
use Rattle.std.proofs.lemmas.Bool.{cases_Bool, cases_lt, ne_eqb, eqb-true, lt-leb, le-ltb, lt-ltb, ltb-false, or_from, and_left, and_right}
use Rattle.std.specs.{List.AllByRecursion as Each, Prelude.◌⊎◌, Prelude.not, Prelude.map, Prelude.filter, Prelude.nat_lt}
use Rattle.rows.specs.declared.settings.Stuck.{Stuck}
use Rattle.traffic.{proofs.Each.each_kept, specs.Day.node_turns, specs.Lists.is_nil, specs.Lists.numbers}
use Rattle.traffic.specs.Nodes.{NodeView, in_force, taken_at, out_link, node_view, next_link, has_room, is_stuck, red, mark, node_moves, ready, candidates}
use Rattle.traffic.specs.{Rows.World, Rows.holes_at, Setup.Setup, Setup.link_row, Setup.into, Setup.hole_of, Setup.storage_of}
use Rattle.traffic.specs.declared.{node_views.InLink.InLink, world.Row.Row}
use Rattle.law_sleeping.proofs.{Marking.same_node_view, Marking.last_red_in, Passing.node_rest, Passing.cannot_green, Passing.draw_none}
use Rattle.law_sleeping.specs.Able.{can_go, is_able}
use Rattle.law_sleeping.specs.Marks.{last_red, catch_up, Buffers, lazy_in_link, lazy_node_view, AreBehind, lazy_node_turns}
use Rattle.law_sleeping.specs.Waking.{FrontSleeps, NodeSleeps, IsFull, IsRedUntil, IsHeldUp, SameFront, ForFront, NoneFree}

-- NOBODY CAN
front_cannot : (S : Setup) (t due n l u : ℕ) (V : World) (rows : List Row) → FrontSleeps S t due n l V rows → t < u → u < due → S.green l u
    ≡ true
    → can_go S.settings.stuck u (out_link S u n V) (catch_up (S.green l) u rows) ≡ false
front_cannot S t due n l u V [] h low high g = refl
front_cannot S t due n l u V (r ∷ rs) h low high g =
    let f = h u low high g in or_from (has_room (out_link S u n V (next_link r.vehicle)))
    (is_stuck S.settings.stuck u (max r.second (last_red (S.green l) u))) f.0 f.1

in_link_cannot : (S : Setup) (t due n l u : ℕ) (rows : Buffers) (V : World) → FrontSleeps S t due n l V (rows l) → t < u → u < due
    → is_able S.settings.stuck u (out_link S u n V) (lazy_in_link S u rows l) ≡ false
in_link_cannot S t due n l u rows V h low high =
    elim (cases_Bool (S.green l u)) [
      | inl g ↦ and_right (S.green l u) (can_go S.settings.stuck u (out_link S u n V) (catch_up (S.green l) u (rows l)))
          (front_cannot S t due n l u V (rows l) h low high g)
      | inr g ↦ and_left (S.green l u) (can_go S.settings.stuck u (out_link S u n V) (catch_up (S.green l) u (rows l))) g
    ]

in_links_cannot : (S : Setup) (t due n u : ℕ) (rows : Buffers) (V : World) → NodeSleeps S t due n rows V → t < u → u < due → (k count : ℕ)
    → k + count ≤ length S.links
    → Each (λ (e : InLink). is_able S.settings.stuck u (out_link S u n V) e
    ≡ false) (map (lazy_in_link S u rows) (filter (λ a. eqb (link_row S a).to n) (numbers k count)))
in_links_cannot S t due n u rows V h low high k zero le = tt
in_links_cannot S t due n u rows V h low high k (suc count) le =
    let r = in_links_cannot S t due n u rows V h low high (k + 1) count (omega arith) in
    elim (cases_Bool (eqb (link_row S k).to n)) [
      | inl q ↦ simp q (in_link_cannot S t due n k u rows V (h k (omega arith) (eqb-true (link_row S k).to n q)) low high, r)
      | inr q ↦ simp q r
    ]

node_view_cannot : (S : Setup) (t due n u : ℕ) (rows : Buffers) (V : World) → NodeSleeps S t due n rows V → t < u → u < due
    → Each (λ (e : InLink). is_able S.settings.stuck u (out_link S u n V) e ≡ false) (lazy_node_view S u n rows V).in_links
unfolding into
node_view_cannot S t due n u rows V h low high = in_links_cannot S t due n u rows V h low high 0 (length S.links) (omega arith)

pub node_sleeps : (S : Setup) (t due n u : ℕ) (rows : Buffers) (V : World) → NodeSleeps S t due n rows V → AreBehind S u rows V → t < u
    → u < due
    → node_turns S u n V ≡ map (mark u) (red (node_view S u n V).in_links)
node_sleeps S t due n u rows V h b low high =
    let e = same_node_view S u n rows V b in
    let r = node_rest S.settings.stuck u (S.word n) (lazy_node_view S u n rows V) (node_view_cannot S t due n u rows V h low high) in
    subst (λ (see : NodeView). node_moves S.settings.stuck u (S.word n) see ≡ map (mark u) (red see.in_links)) (sym e) r

-- A SHORTER SLEEP, AND ONE IN ANOTHER WORLD
has_room_not : (S : Setup) (u n m : ℕ) (V : World) → storage_of S m ≤ taken_at S u m V → has_room (out_link S u n V m) ≡ false
has_room_not S u n m V h =
    let e = le-ltb (taken_at S u m V) (storage_of S m) h in
    elim (cases_Bool (eqb (link_row S m).from n)) [ inl q ↦ rw q e | inr q ↦ rw q refl ]

room_kept : (S : Setup) (u n m : ℕ) (V U : World) → taken_at S u m V ≤ taken_at S u m U → has_room (out_link S u n V m) ≡ false
    → has_room (out_link S u n U m) ≡ false
room_kept S u n m V U le h =
    elim (cases_Bool (eqb (link_row S m).from n)) [
      | inl q ↦ let g : nat_lt (taken_at S u m V) (storage_of S m)
          ≡ false = rw q at h in let f = ltb-false (taken_at S u m V) (storage_of S m) g in rw q
          (le-ltb (taken_at S u m U) (storage_of S m) (omega arith))
      | inr q ↦ rw q refl
    ]

pub front_kept : (S : Setup) (t due later less n l : ℕ) (V U : World) (xs ys : List Row) → t ≤ later → less ≤ due → SameFront xs ys
    → ForFront (NoneFree S later less n V U) xs → FrontSleeps S t due n l V xs → FrontSleeps S later less n l U ys
front_kept S t due later less n l V U [] [] a b f g h = tt
front_kept S t due later less n l V U [] (y ∷ ys) a b f g h = absurd f
front_kept S t due later less n l V U (x ∷ xs) [] a b f g h = absurd f
front_kept S t due later less n l V U (x ∷ xs) (y ∷ ys) a b f g h = λ u low high green.
    let m = next_link x.vehicle in
    let q = h u (omega arith) (omega arith) green in
    let room : has_room (out_link S u n U m) ≡ false =
    elim (cases_Bool (eqb (link_row S m).from n)) [
      | inl e ↦ room_kept S u n m V U (g (eqb-true (link_row S m).from n e) u low high) q.0
      | inr e ↦ rw e refl
    ] in
    subst (λ (r : Row). (has_room (out_link S u n U (next_link r.vehicle)) ≡ false)
    × (is_stuck S.settings.stuck u (max r.second (last_red (S.green l) u)) ≡ false)) f (room, q.1)

pub red_sleeps : (S : Setup) (t due n l : ℕ) (V : World) (rows : List Row) → IsRedUntil S t due l → FrontSleeps S t due n l V rows
red_sleeps S t due n l V [] h = tt
red_sleeps S t due n l V (r ∷ rs) h = λ u low high g. absurd (let z = h u low high in cc)

pub node_kept : (S : Setup) (t due later less n : ℕ) (rows other : Buffers) (V U : World) → t ≤ later → less ≤ due
    → ((l : ℕ) → l < length S.links → (link_row S l).to ≡ n → IsRedUntil S later less l
    ⊎ (SameFront (rows l) (other l) × ForFront (NoneFree S later less n V U) (rows l)))
    → NodeSleeps S t due n rows V → NodeSleeps S later less n other U
node_kept S t due later less n rows other V U a b f h = λ l lt to.
    elim (f l lt to) [
      | inl r ↦ red_sleeps S later less n l U (other l) r
      | inr q ↦ front_kept S t due later less n l V U (rows l) (other l) a b q.0 q.1 (h l lt to)
    ]

-- with nobody who can, nothing is done but the marks, and where these are left out nothing
pub lazy_sleeps : (S : Setup) (t due n u : ℕ) (rows : Buffers) (V : World) → NodeSleeps S t due n rows V → t < u → u < due
    → lazy_node_turns S u n rows V ≡ []
lazy_sleeps S t due n u rows V h low high =
    let es = (lazy_node_view S u n rows V).in_links in
    let a = node_view_cannot S t due n u rows V h low high in
    let c = cannot_green S.settings.stuck u (out_link S u n V) (ready es)
    (each_kept (λ (e : InLink). is_able S.settings.stuck u (out_link S u n V) e ≡ false) (λ (e : InLink). not (is_nil e.rows)) es a) in
    draw_none S.settings.stuck u (S.word n) (length (candidates es)) 0 (candidates es) (out_link S u n V) c

-- THE REASONS
last_red_grows : (green : ℕ → Bool) (t d : ℕ) → last_red green t ≤ last_red green (t + d)
unfolding last_red
last_red_grows green t zero = let e : t + zero ≡ t = omega arith in rw e (omega arith)
last_red_grows green t (suc d) =
    let r = last_red_grows green t d in
    let e : t + suc d ≡ suc (t + d) = omega arith in
    let b = last_red_in green (t + d) in
    rw e (elim (cases_Bool (green (t + d))) [ inl q ↦ rw q r | inr q ↦ rw q (omega arith) ])

pub red_later : (green : ℕ → Bool) (t u : ℕ) → t ≤ u → last_red green t ≤ last_red green u
red_later green t u le = let e : t + (u - t) ≡ u = omega arith in subst (λ (x : ℕ). last_red green t ≤ last_red green x) e
    (last_red_grows green t (u - t))

patient_by : (K u since s : ℕ) → u < since + K → since ≤ s → 0 < K → u - s < K
patient_by K u since s h le pos = omega arith

max_more : (a b c : ℕ) → b ≤ c → max a b ≤ max a c
max_more a b c h = grind arith

not_stuck : (K : Stuck) (green : ℕ → Bool) (t u s : ℕ) → 0 < K.seconds → t < u → u < max s (last_red green (suc t)) + K.seconds
    → is_stuck K u (max s (last_red green u)) ≡ false
not_stuck K green t u s pos low high =
    let m = max_more s (last_red green (suc t)) (last_red green u) (red_later green (suc t) u low) in
    lt-leb K.seconds (u - max s (last_red green u)) (patient_by K.seconds u (max s (last_red green (suc t))) (max s (last_red green u))
    high m pos)

-- holes in force do not end before this second
holes_stay : (now due u h : ℕ) (holes : List ℕ) → now ≤ u → u < due → Each (λ (s : ℕ). now < s + h → due ≤ s + h) holes
    → in_force u h holes ≡ in_force now h holes
holes_stay now due u h [] low high e = refl
holes_stay now due u h (s ∷ holes) low high e =
    let r = holes_stay now due u h holes low high e.1 in
    elim (cases_lt now (s + h)) [
      | inl a ↦ let d = e.0 a in let p = lt-ltb now (s + h) a in let q = lt-ltb u (s + h) (omega arith) in simp (p, q) (ap suc r)
      | inr a ↦ let p = le-ltb now (s + h) a in let q = le-ltb u (s + h) (omega arith) in simp (p, q) r
    ]

pub full_until : (S : Setup) (now due m u : ℕ) (V : World) → IsFull S now due m V → now ≤ u → u < due → storage_of S m ≤ taken_at S u m V
full_until S now due m u V f low high = let e = holes_stay now due u (hole_of S m) (holes_at m V) low high f.holes in let g = f.taken
    in omega arith

-- holes that are over do not count
pub old_holes : (u h : ℕ) (old holes : List ℕ) → Each (λ (s : ℕ). s + h ≤ u) old → in_force u h (old ++ holes) ≡ in_force u h holes
old_holes u h [] holes e = refl
old_holes u h (s ∷ old) holes e = let q = le-ltb u (s + h) e.0 in simp q (old_holes u h old holes e.1)

pub held_sleeps : (S : Setup) (now t due n l : ℕ) (V : World) (r : Row) (rs : List Row) → 0 < S.settings.stuck.seconds → now ≤ suc t
    → IsHeldUp S now t due n l V r → FrontSleeps S t due n l V (r ∷ rs)
held_sleeps S now t due n l V r rs pos le h = λ u low high g.
    let m = next_link r.vehicle in
    let p = h.patient in (
      elim h.room [
        | inl a ↦ let e = ne_eqb (link_row S m).from n a in rw e refl
        | inr a ↦ has_room_not S u n m V (full_until S now due m u V a (omega arith) high)
      ],
      not_stuck S.settings.stuck (S.green l) t u r.second pos low (omega arith),
    )
