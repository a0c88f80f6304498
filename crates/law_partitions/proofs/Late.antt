-- Rows that are not due change nothing in phase D: they stay behind the others in the queue.
use Rattle.traffic.proofs.Common.{◌≡◌, ℕ, List, ◌∙◌, length, ap, refl, [], ◌∷◌, arith, ◌<◌, true, ◌++◌, ◌+◌, Bool, ◌≤◌, false, suc, ◌-◌, ◌≢◌, drop, append-nil}
use Rattle.traffic.proofs.Common.{eq-eqb, lt-ltb, nat_tests, sum_by-append, sum_by-cons, if◌then◌else◌, nat_lt, raised, VEHICLE_COST, Untouched, AreAt, IsAt}
use Rattle.traffic.proofs.Common.{buffered, LinkState, is_last, may_pass, link_moves, leave_bay, from_queue, from_wait, wait_after, at_after_all, touches, on}
use Rattle.traffic.proofs.Common.{served_row, calls_on, left_behind}
use Rattle.traffic.proofs.{Each.each_all, LinkEach.bay_each, LinkEach.wait_each, Sublists.at_after_all-untouched, Sublists.at_after_all-append}
use Rattle.traffic.specs.declared.moves.Move.{Move, TheVariants.Transfer, TheVariants.Remove, TheVariants.Credit, TheVariants.LeaveHole}
use Rattle.traffic.specs.declared.{numbers.Rules.Rules, stage.Stage.TheVariants.Queue, world.Row.Row, world.Waiter.Waiter}
use Rattle.std.specs.List.{AllByRecursion as Each}
use Rattle.parts.specs.Parts.{frees, freed}

abbrev pub Late : ℕ → List Row → Type 0
Late t ys = Each (λ (y : Row). t < y.second) ys

pub from_queue_late : (K : Rules) (t l : ℕ) (ws : List Waiter) (b c : ℕ) (xs ys wait : List Row) → Late t ys → from_queue K t l ws b c (xs ++ ys) wait ≡ from_queue K t l ws b c xs wait
unfolding from_queue
from_queue_late K t l ws b c [] [] wait h = refl
from_queue_late K t l ws b c [] (y ∷ ys) wait h = let e = lt-ltb t y.second h.0 in rw e refl
from_queue_late K t l ws b c (r ∷ xs) ys wait h =
    let d = from_queue_late K t l (left_behind r.vehicle ws) b c xs ys wait h in
    let e = from_queue_late K t l ws b c xs ys wait h in
    let f = from_queue_late K t l ws (b + 1) (c - VEHICLE_COST) xs ys wait h in cc

-- the moves are the same without the late rows
pub link_moves_late : (K : Rules) (t l : ℕ) (ws : List Waiter) (L : LinkState) (ys : List Row) → Late t ys → link_moves K t l ws (record L { queue = L.queue ++ ys }) ≡ link_moves K t l ws L
unfolding link_moves
link_moves_late K t l ws L ys h = let e = from_queue_late K t l ws (length L.buffer) (raised K.gain L.credit) L.queue ys (wait_after t l L) h in cc

-- a move that leaves the queue of link l as it was, and frees no place there
abbrev Aside : ℕ → Move → Type 0
Aside l m = (touches l Queue m ≡ false) × (frees l m ≡ 0)

waits_aside : (K : Rules) (t l : ℕ) (ws : List Waiter) (b c : ℕ) (xs : List Row) → Each (Aside l) (from_wait K t l ws b c xs)
waits_aside K t l ws b c xs =
    wait_each K t l (λ v. Unit {0}) (λ us. Unit {0}) (Aside l)
    (record { serve = λ us r h w. (refl, refl); left = λ v us w. tt; arrive = λ r h. (refl, refl); pass = λ n r h. (refl, refl); pay = λ n. (refl, refl) }) ws b c xs tt (each_all _ (λ r. tt) xs)

bay_aside : (t l k : ℕ) (xs : List Row) → Each (Aside l) (leave_bay t l k xs)
bay_aside t l k xs = bay_each (λ v. Unit {0}) (Aside l) t l (λ n r h. (refl, refl)) k xs (each_all _ (λ r. tt) xs)

pub freed-cons : (l : ℕ) (m : Move) (ms : List Move) → freed l (m ∷ ms) ≡ frees l m + freed l ms
freed-cons l m ms = sum_by-cons (frees l) m ms

pub freed-append : (l : ℕ) (ms ns : List Move) → freed l (ms ++ ns) ≡ freed l ms + freed l ns
freed-append l ms ns = sum_by-append (frees l) ms ns

aside_untouched : (l : ℕ) (ms : List Move) → Each (Aside l) ms → Untouched l Queue ms
aside_untouched l [] h = tt
aside_untouched l (m ∷ ms) h = (h.0.0, aside_untouched l ms h.1)

freed_none : (l : ℕ) (ms : List Move) → Each (Aside l) ms → freed l ms ≡ 0
freed_none l [] h = refl
freed_none l (m ∷ ms) h = let e = h.0.1 in let f = freed_none l ms h.1 in let g = freed-cons l m ms in omega arith

-- the moves of another link free no place here
frees_other : (l n : ℕ) (m : Move) → n ≢ l → IsAt n m → frees l m ≡ 0
frees_other l n (LeaveHole a t) ne h = grind (arith, nat_tests)
frees_other l n _ ne h = refl

pub freed_other : (l n : ℕ) (ms : List Move) → n ≢ l → AreAt n ms → freed l ms ≡ 0
freed_other l n [] ne h = refl
freed_other l n (m ∷ ms) ne h = let e = frees_other l n m ne h.0 in let f = freed_other l n ms ne h.1 in let g = freed-cons l m ms in omega arith

-- what the moves of phase D leave in the queue of their own link, with rows behind it
abbrev pub Leaves : ℕ → List Move → List Row → List Row → Type 0
Leaves l ms xs ys = (at_after_all l Queue ms (xs ++ ys) ≡ drop (freed l ms) xs ++ ys) × (freed l ms ≤ length xs)

Leaves-aside : (l : ℕ) (ms : List Move) (xs ys : List Row) → Each (Aside l) ms → Leaves l ms xs ys
Leaves-aside l ms xs ys h = let e = freed_none l ms h in rw e (at_after_all-untouched l Queue ms (xs ++ ys) (aside_untouched l ms h), omega arith)

Leaves-if : (l : ℕ) (b : Bool) (ms ns : List Move) (xs ys : List Row) → Leaves l ms xs ys → Leaves l ns xs ys → Leaves l (if b then ms else ns) xs ys
Leaves-if l b ms ns xs ys h g = elim b as (λ c. Leaves l (if c then ms else ns) xs ys) [ true ↦ h | false ↦ g ]

freed_one : (l t : ℕ) (m : Move) (ms : List Move) → frees l m ≡ 0 → freed l (m ∷ LeaveHole l t ∷ ms) ≡ suc (freed l ms)
freed_one l t m ms e =
    let a = freed-cons l m (LeaveHole l t ∷ ms) in
    let b = freed-cons l (LeaveHole l t) ms in
    let q = eq-eqb l l refl in
    let c : frees l (LeaveHole l t) ≡ 1 = rw q refl in omega arith

Leaves-gone : (l t : ℕ) (r : Row) (ms : List Move) (xs ys : List Row) → Leaves l ms xs ys → Leaves l (Remove l Queue 0 r ∷ LeaveHole l t ∷ ms) (r ∷ xs) ys
Leaves-gone l t r ms xs ys h =
    let e = eq-eqb l l refl in
    let f = freed_one l t (Remove l Queue 0 r) ms refl in
    let k = h.1 in
    rw f (simp e h.0, omega arith)

Leaves-put : (l t : ℕ) (r now : Row) (ms : List Move) (xs ys : List Row) → on l Queue now ≡ false → Leaves l ms xs ys → Leaves l (Transfer l Queue 0 r now ∷ LeaveHole l t ∷ ms) (r ∷ xs) ys
Leaves-put l t r now ms xs ys off h =
    let e = eq-eqb l l refl in
    let f = freed_one l t (Transfer l Queue 0 r now) ms refl in
    let g = append-nil (xs ++ ys) in
    let k = h.1 in
    rw f (simp (e, off, g) h.0, omega arith)

Leaves-credit : (l c : ℕ) (ms : List Move) (xs ys : List Row) → Leaves l ms xs ys → Leaves l (Credit l c ∷ ms) xs ys
Leaves-credit l c ms xs ys h = let z = freed-cons l (Credit l c) ms in let e : freed l (Credit l c ∷ ms) ≡ freed l ms = omega arith in rw e h

from_queue-leaves : (K : Rules) (t l : ℕ) (ws : List Waiter) (b c : ℕ) (xs wait ys : List Row) → Leaves l (from_queue K t l ws b c xs wait) xs ys
unfolding from_queue
from_queue-leaves K t l ws b c [] wait ys = Leaves-aside l (from_wait K t l ws b c wait) [] ys (waits_aside K t l ws b c wait)
from_queue-leaves K t l ws b c (r ∷ xs) wait ys =
    let stays = Leaves-aside l (from_wait K t l ws b c wait) (r ∷ xs) ys (waits_aside K t l ws b c wait) in
    Leaves-if l (nat_lt t r.second) _ _ (r ∷ xs) ys stays
    (Leaves-if l (calls_on l r.vehicle) _ _ (r ∷ xs) ys (Leaves-put l t r (served_row K.dwell t l ws r.vehicle) (from_queue K t l (left_behind r.vehicle ws) b c xs wait) xs ys refl (from_queue-leaves K t l (left_behind r.vehicle ws) b c xs wait ys))
    (Leaves-if l (is_last r.vehicle) _ _ (r ∷ xs) ys (Leaves-gone l t r (from_queue K t l ws b c xs wait) xs ys (from_queue-leaves K t l ws b c xs wait ys))
    (Leaves-if l (may_pass K b c) _ _ (r ∷ xs) ys (Leaves-put l t r (buffered t l b r) (Credit l (c - VEHICLE_COST) ∷ from_queue K t l ws (b + 1) (c - VEHICLE_COST) xs wait) xs ys refl (Leaves-credit l (c - VEHICLE_COST) (from_queue K t l ws (b + 1) (c - VEHICLE_COST) xs wait) xs ys (from_queue-leaves K t l ws (b + 1) (c - VEHICLE_COST) xs wait ys)))
    stays)))

Leaves-after : (l : ℕ) (ms ns : List Move) (xs ys : List Row) → Each (Aside l) ms → Leaves l ns xs ys → Leaves l (ms ++ ns) xs ys
Leaves-after l ms ns xs ys h g =
    let z = freed_none l ms h in let k = freed-append l ms ns in let e : freed l (ms ++ ns) ≡ freed l ns = omega arith in
    rw e (at_after_all-append l Queue ms ns (xs ++ ys) ∙ ap (at_after_all l Queue ns) (at_after_all-untouched l Queue ms (xs ++ ys) (aside_untouched l ms h)) ∙ g.0, g.1)

-- the queue after phase D, with rows behind it that the moves know nothing of
pub link_moves-leaves : (K : Rules) (t l : ℕ) (ws : List Waiter) (L : LinkState) (ys : List Row) → Leaves l (link_moves K t l ws L) L.queue ys
unfolding link_moves
link_moves-leaves K t l ws L ys =
    let credit = raised K.gain L.credit in
    let later = from_queue K t l ws (length L.buffer) credit L.queue (wait_after t l L) in
    Leaves-after l (leave_bay t l 0 L.bay) (Credit l credit ∷ later) L.queue ys (bay_aside t l 0 L.bay) (Leaves-credit l credit later L.queue ys (from_queue-leaves K t l ws (length L.buffer) credit L.queue (wait_after t l L) ys))
