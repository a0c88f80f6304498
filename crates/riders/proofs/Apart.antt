-- Those who wait at one stop, among all who wait on its link.
use Rattle.std.proofs.Common.{◌≡◌, ◌≢◌, ℕ, ◌+◌, ◌-◌, Bool, true, false, List, [], ◌∷◌, ◌++◌, length, take, refl, ap, sym, ◌∙◌, arith, inl, inr}
use Rattle.std.proofs.lemmas.Bool.{cases_Bool, and_parts, eqb-true, Decides.nat_tests}
use Rattle.std.specs.{List.list_any, List.AllByRecursion as Each, Prelude.not, Prelude.◌&&◌, Prelude.map, Prelude.filter, Prelude.◌==◌, Prelude.if◌then◌else◌}
use Rattle.rows.specs.declared.settings.Dwelling.{Dwelling}
use Rattle.traffic.specs.Stops.{ComesBefore, comes_first, among, in_turn, is_person, next_call, alighting, staying, may_board, boarding, left_behind, rider}
use Rattle.traffic.specs.Stops.{riders_after, served_vehicle, served_row, stays_until, stand, not_before}
use Rattle.traffic.specs.{Vehicles.VehicleState, declared.stage.Stage.TheVariants.Bay, declared.world.Row.Row, declared.world.Waiter.Waiter}
use Rattle.riders.specs.Waiting.{NobodyIs, ComesBeforeAll, AreWaiting, AreOnce, at_stop}
use Rattle.riders.proofs.Lines.{passes_nobody, in_line, none_is, take_nobody}

-- IN TURN
abbrev Sorted : List Waiter → Type 0
Sorted [] = Unit {0}
Sorted (w ∷ ws) = ComesBeforeAll w ws × Sorted ws

before_more : (a w : Waiter) (xs : List Waiter) → ComesBefore a w → ComesBeforeAll a xs → ComesBeforeAll a (among w xs)
unfolding among
before_more a w [] b h = (b, tt)
before_more a w (x ∷ xs) b h =
    elim (cases_Bool (comes_first w x)) [ inl e ↦ rw e (b, h) | inr e ↦ rw e (h.0, before_more a w xs b h.1) ]

first_before : (w x : Waiter) → comes_first w x ≡ true → ComesBefore w x
first_before w x e = grind (arith, nat_tests)

later_before : (w x : Waiter) → comes_first w x ≡ false → ComesBefore x w
later_before w x e = grind (arith, nat_tests)

before_before : (a b c : Waiter) → ComesBefore a b → ComesBefore b c → ComesBefore a c
before_before a b c h g = grind arith

before_all : (a b : Waiter) (xs : List Waiter) → ComesBefore a b → ComesBeforeAll b xs → ComesBeforeAll a xs
before_all a b [] h g = tt
before_all a b (x ∷ xs) h g = (before_before a b x h g.0, before_all a b xs h g.1)

among_sorted : (w : Waiter) (xs : List Waiter) → Sorted xs → Sorted (among w xs)
unfolding among
among_sorted w [] h = (tt, tt)
among_sorted w (x ∷ xs) h =
    elim (cases_Bool (comes_first w x)) [
      | inl e ↦ let b = first_before w x e in rw e ((b, before_all w x xs b h.0), h)
      | inr e ↦ rw e (before_more x w xs (later_before w x e) h.0, among_sorted w xs h.1)
    ]

turn_sorted : (ws : List Waiter) → Sorted (in_turn ws)
unfolding in_turn
turn_sorted [] = tt
turn_sorted (w ∷ ws) = among_sorted w (in_turn ws) (turn_sorted ws)

-- ONCE
nobody_among : (i : ℕ) (w : Waiter) (xs : List Waiter) → w.person ≢ i → NobodyIs i xs → NobodyIs i (among w xs)
unfolding among
nobody_among i w [] n h = (n, tt)
nobody_among i w (x ∷ xs) n h =
    elim (cases_Bool (comes_first w x)) [ inl e ↦ rw e (n, h) | inr e ↦ rw e (h.0, nobody_among i w xs n h.1) ]

nobody_turn : (i : ℕ) (ws : List Waiter) → NobodyIs i ws → NobodyIs i (in_turn ws)
unfolding in_turn
nobody_turn i [] h = tt
nobody_turn i (w ∷ ws) h = nobody_among i w (in_turn ws) h.0 (nobody_turn i ws h.1)

once_among : (w : Waiter) (xs : List Waiter) → NobodyIs w.person xs → AreOnce xs → AreOnce (among w xs)
unfolding among
once_among w [] n h = (tt, tt)
once_among w (x ∷ xs) n h =
    elim (cases_Bool (comes_first w x)) [
      | inl e ↦ rw e (n, h)
      | inr e ↦ rw e (nobody_among x.person w xs (λ q. n.0 (sym q)) h.0, once_among w xs n.1 h.1)
    ]

once_turn : (ws : List Waiter) → AreOnce ws → AreOnce (in_turn ws)
unfolding in_turn
once_turn [] h = tt
once_turn (w ∷ ws) h = once_among w (in_turn ws) (nobody_turn w.person ws h.0) (once_turn ws h.1)

once_filter : (p : Waiter → Bool) (ws : List Waiter) → AreOnce ws → AreOnce (filter p ws)
once_filter p [] h = tt
once_filter p (w ∷ ws) h =
    elim (cases_Bool (p w)) [ inl e ↦ rw e (passes_nobody p w.person ws h.0, once_filter p ws h.1) | inr e ↦ rw e (once_filter p ws h.1) ]

both_wait : (ws : List Waiter) → Sorted ws → AreOnce ws → AreWaiting ws
both_wait [] s o = tt
both_wait (w ∷ ws) s o = (s.0, o.0, both_wait ws s.1 o.1)

turn_waits : (ws : List Waiter) → AreOnce ws → AreWaiting (in_turn ws)
turn_waits ws o = both_wait (in_turn ws) (turn_sorted ws) (once_turn ws o)

pub stop_waits : (s : ℕ) (ws : List Waiter) → AreOnce ws → AreWaiting (at_stop s ws)
stop_waits s ws o = turn_waits (filter (λ (w : Waiter). w.stop == s) ws) (once_filter (λ (w : Waiter). w.stop == s) ws o)

-- SOME OF THEM
first_to_all : (w x : Waiter) (xs : List Waiter) → comes_first w x ≡ true → ComesBeforeAll x xs → Each (λ (y : Waiter). comes_first w y ≡ true) xs
first_to_all w x [] e h = tt
first_to_all w x (y ∷ ys) e h = (first_through w x y e h.0, first_to_all w x ys e h.1)
  where
    first_through : (a b c : Waiter) → comes_first a b ≡ true → ComesBefore b c → comes_first a c ≡ true
    first_through a b c f g = grind (arith, nat_tests)

first_among : (w : Waiter) (xs : List Waiter) → Each (λ (y : Waiter). comes_first w y ≡ true) xs → among w xs ≡ w ∷ xs
unfolding among
first_among w [] h = refl
first_among w (x ∷ xs) h = let e = h.0 in rw e refl

each_kept : (P : Waiter → Type 0) (p : Waiter → Bool) (xs : List Waiter) → Each P xs → Each P (filter p xs)
each_kept P p [] h = tt
each_kept P p (x ∷ xs) h = elim (cases_Bool (p x)) [ inl e ↦ rw e (h.0, each_kept P p xs h.1) | inr e ↦ rw e (each_kept P p xs h.1) ]

filter_among : (p : Waiter → Bool) (w : Waiter) (xs : List Waiter) → Sorted xs → filter p (among w xs) ≡ (if p w then among w (filter p xs) else filter p xs)
unfolding among
filter_among p w [] h = elim (cases_Bool (p w)) [ inl e ↦ rw e refl | inr e ↦ rw e refl ]
filter_among p w (x ∷ xs) h =
    elim (cases_Bool (comes_first w x)) [
      | inl e ↦
          let a : Each (λ (y : Waiter). comes_first w y ≡ true) (x ∷ xs) = (e, first_to_all w x xs e h.0) in
          let f = first_among w (filter p (x ∷ xs)) (each_kept (λ (y : Waiter). comes_first w y ≡ true) p (x ∷ xs) a) in
          let g : filter p (among w (x ∷ xs)) ≡ (if p w then w ∷ filter p (x ∷ xs) else filter p (x ∷ xs)) = rw e refl in
          g ∙ ap (λ (ys : List Waiter). if p w then ys else filter p (x ∷ xs)) (sym f)
      | inr e ↦
          let g : filter p (among w (x ∷ xs)) ≡ filter p (x ∷ among w xs) = rw e refl in
          let i = filter_among p w xs h.1 in
          g ∙ elim (cases_Bool (p x)) [
            | inl q ↦
                let k : among w (x ∷ filter p xs) ≡ x ∷ among w (filter p xs) = rw e refl in
                rw q (ap (λ (ys : List Waiter). x ∷ ys) i ∙ behind (p w) x (among w (filter p xs)) (filter p xs) ∙ ap (λ (ys : List Waiter). if p w then ys else x ∷ filter p xs) (sym k))
            | inr q ↦ rw q i
          ]
    ]
  where
    behind : (b : Bool) (y : Waiter) (ys zs : List Waiter) → y ∷ (if b then ys else zs) ≡ (if b then y ∷ ys else y ∷ zs)
    behind true y ys zs = refl
    behind false y ys zs = refl

filter_turn : (p : Waiter → Bool) (ws : List Waiter) → filter p (in_turn ws) ≡ in_turn (filter p ws)
unfolding in_turn
filter_turn p [] = refl
filter_turn p (w ∷ ws) =
    filter_among p w (in_turn ws) (turn_sorted ws)
    ∙ elim (cases_Bool (p w)) [ inl e ↦ rw e (ap (among w) (filter_turn p ws)) | inr e ↦ rw e (filter_turn p ws) ]

filter_within : (p q : Waiter → Bool) → ((w : Waiter) → p w ≡ true → q w ≡ true) → (ws : List Waiter) → filter p (filter q ws) ≡ filter p ws
filter_within p q f [] = refl
filter_within p q f (w ∷ ws) =
    elim (cases_Bool (q w)) [
      | inl e ↦ rw e (ap (λ (xs : List Waiter). if p w then w ∷ xs else xs) (filter_within p q f ws))
      | inr e ↦
          elim (cases_Bool (p w)) [
            | inl g ↦ absurd (let z : true ≡ false = sym (f w g) ∙ e in cc)
            | inr g ↦ rw (e, g) (filter_within p q f ws)
          ]
    ]

filter_swap : (p q : Waiter → Bool) (ws : List Waiter) → filter p (filter q ws) ≡ filter q (filter p ws)
filter_swap p q [] = refl
filter_swap p q (w ∷ ws) =
    let i = filter_swap p q ws in
    elim (cases_Bool (p w)) [
      | inl e ↦ elim (cases_Bool (q w)) [ inl g ↦ rw (g, e, g) (ap (λ (xs : List Waiter). w ∷ xs) i) | inr g ↦ rw (g, e, g) i ]
      | inr e ↦ elim (cases_Bool (q w)) [ inl g ↦ rw (g, e) i | inr g ↦ rw (g, e) i ]
    ]

-- WHO BOARDS
board_here : (v : VehicleState) (w : Waiter) → may_board v w ≡ true → (w.stop == (next_call v).stop) ≡ true
board_here v w e =
    let p = and_parts ((w.stop == (next_call v).stop) && (w.line == v.line)) _ e in
    let q = and_parts (w.stop == (next_call v).stop) (w.line == v.line) p.0 in
    q.0

pub boards_alike : (v : VehicleState) (ws : List Waiter) → AreOnce ws → boarding v (at_stop (next_call v).stop ws) ≡ boarding v ws
unfolding boarding
boards_alike v ws o =
    let st = λ (w : Waiter). w.stop == (next_call v).stop in
    let a = filter_turn (may_board v) (filter st ws) in
    let b = filter_within (may_board v) st (board_here v) ws in
    let c = in_line (in_turn (filter (may_board v) ws)) (turn_waits (filter (may_board v) ws) (once_filter (may_board v) ws o)) in
    ap (λ (xs : List Waiter). take (v.seats - length (staying (next_call v).stop v.riders)) (in_turn xs)) (a ∙ ap in_turn b)
    ∙ ap (take (v.seats - length (staying (next_call v).stop v.riders))) c

row_by : Dwelling → ℕ → ℕ → VehicleState → List Waiter → Row
row_by D t l v bs =
    record {
      vehicle = record v { started = true; riders = staying (next_call v).stop v.riders ++ map rider bs; served = v.served + 1 };
      link = l;
      stage = Bay;
      second = not_before (next_call v) v.departed (t + stand D (length (alighting (next_call v).stop v.riders)) (length bs));
    }

row_is : (D : Dwelling) (t l : ℕ) (v : VehicleState) (ws : List Waiter) → served_row D t l ws v ≡ row_by D t l v (boarding v ws)
unfolding served_vehicle riders_after stays_until row_by
row_is D t l v ws = refl

pub rows_alike : (D : Dwelling) (t l : ℕ) (v : VehicleState) (ws : List Waiter) → AreOnce ws
    → served_row D t l (at_stop (next_call v).stop ws) v ≡ served_row D t l ws v
rows_alike D t l v ws o =
    row_is D t l v (at_stop (next_call v).stop ws) ∙ ap (row_by D t l v) (boards_alike v ws o) ∙ sym (row_is D t l v ws)

-- WHO IS LEFT
abbrev stays : List Waiter → Waiter → Bool
stays bs w = not (list_any (is_person w.person) bs)

pub left_here : (v : VehicleState) (ws : List Waiter) → AreOnce ws
    → at_stop (next_call v).stop (left_behind v ws) ≡ left_behind v (at_stop (next_call v).stop ws)
unfolding left_behind
left_here v ws o =
    let st = λ (w : Waiter). w.stop == (next_call v).stop in
    let q = stays (boarding v ws) in
    ap in_turn (filter_swap st q ws) ∙ sym (filter_turn q (filter st ws))
    ∙ ap (λ (bs : List Waiter). filter (stays bs) (in_turn (filter st ws))) (sym (boards_alike v ws o))

-- of all who wait, who may not board is none of those who may
abbrev Apart : (Waiter → Bool) → List Waiter → Waiter → Type 0
Apart p ws y = p y ≡ false → NobodyIs y.person (filter p ws)

apart_more : (p : Waiter → Bool) (w : Waiter) (ws ys : List Waiter) → NobodyIs w.person ys → Each (Apart p ws) ys → Each (Apart p (w ∷ ws)) ys
apart_more p w ws [] n h = tt
apart_more p w ws (y ∷ ys) n h =
    ((λ e. elim (cases_Bool (p w)) [ inl q ↦ rw q ((λ z. n.0 (sym z)), h.0 e) | inr q ↦ rw q (h.0 e) ]), apart_more p w ws ys n.1 h.1)

all_apart : (p : Waiter → Bool) (ws : List Waiter) → AreOnce ws → Each (Apart p ws) ws
all_apart p [] o = tt
all_apart p (w ∷ ws) o = ((λ e. rw e (passes_nobody p w.person ws o.0)), apart_more p w ws ws o.0 (all_apart p ws o.1))

not_boarding : (v : VehicleState) (ws : List Waiter) (y : Waiter) → NobodyIs y.person (filter (may_board v) ws) → stays (boarding v ws) y ≡ true
unfolding boarding
not_boarding v ws y h =
    let free = v.seats - length (staying (next_call v).stop v.riders) in
    let n = take_nobody free y.person (in_turn (filter (may_board v) ws)) (nobody_turn y.person (filter (may_board v) ws) h) in
    ap not (none_is y.person (take free (in_turn (filter (may_board v) ws))) n)

kept_there : (v : VehicleState) (ws : List Waiter) (s : ℕ) → s ≢ (next_call v).stop → (ys : List Waiter) → Each (Apart (may_board v) ws) ys
    → filter (λ (w : Waiter). w.stop == s) (filter (stays (boarding v ws)) ys) ≡ filter (λ (w : Waiter). w.stop == s) ys
kept_there v ws s ne [] h = refl
kept_there v ws s ne (y ∷ ys) h =
    let i = kept_there v ws s ne ys h.1 in
    elim (cases_Bool (y.stop == s)) [
      | inl e ↦
          let not_here : may_board v y ≡ false
          = elim (cases_Bool (may_board v y)) [
            | inl q ↦ absurd (ne (sym (eqb-true y.stop s e) ∙ eqb-true y.stop (next_call v).stop (board_here v y q)))
            | inr q ↦ q
          ] in
          let k = not_boarding v ws y (h.0 not_here) in
          rw (k, e) (ap (λ (xs : List Waiter). y ∷ xs) i)
      | inr e ↦ elim (cases_Bool (stays (boarding v ws) y)) [ inl q ↦ rw (q, e) i | inr q ↦ rw (q, e) i ]
    ]

pub left_elsewhere : (v : VehicleState) (ws : List Waiter) (s : ℕ) → AreOnce ws → s ≢ (next_call v).stop → at_stop s (left_behind v ws) ≡ at_stop s ws
unfolding left_behind
left_elsewhere v ws s o ne = ap in_turn (kept_there v ws s ne ws (all_apart (may_board v) ws o))

pub left_once : (v : VehicleState) (ws : List Waiter) → AreOnce ws → AreOnce (left_behind v ws)
unfolding left_behind
left_once v ws o = once_filter (stays (boarding v ws)) ws o
