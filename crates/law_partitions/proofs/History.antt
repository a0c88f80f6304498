-- What the last seconds brought: rows at the end of each queue, and holes that still count.
use Rattle.traffic.proofs.Common.{◌≡◌, ℕ, List, ◌∙◌, length, ap, refl, sym, [], ◌∷◌, arith, ◌<◌, true, ◌++◌, ◌+◌, Bool, subst, ◌≤◌, suc, zero, ◌-◌, drop}
use Rattle.traffic.proofs.Common.{append-nil, append_assoc, length-append, take, lt-ltb, nat_tests, filter-append, filter, nat_lt, nat_le, world_at, link_turns}
use Rattle.traffic.proofs.Common.{link_moves, rules, link_state, at_after_all, in_force, waiters, World, at, holes_at, Setup, hole_of, seconds_of}
use Rattle.traffic.{proofs.Each.each_append, specs.declared.stage.Stage.TheVariants.Queue, specs.declared.world.Row.Row}
use Rattle.std.proofs.Math.ListN.{replicate}
use Rattle.parts.specs.Parts.{came, went, came_last, went_last, lasting, freed}
use Rattle.law_partitions.proofs.{Early.mid, Early.mid-list, Early.mid-holes, Early.world-next, Early.came_is, Early.went_is, Handed.From, Handed.From-less}
use Rattle.law_partitions.proofs.{Handed.From-late, Handed.handed-from, Late.Late, Late.link_moves_late, Late.link_moves-leaves, Places.holes-next}
use Rattle.law_partitions.proofs.Second.{C_world, C_moves, came_in, next, C-handed, C-came, D-list, take_front}

-- the rows of a queue without what came in the last d seconds
abbrev pub known : Setup → ℕ → ℕ → ℕ → List Row
known S t d l = let rows = at l Queue (world_at S t) in take (length rows - length (came_last S l t d)) rows

came_from : (S : Setup) (l t : ℕ) → From (t + seconds_of S l) (came S l t)
came_from S l t = let e = came_is S l t in rw e (handed-from S t l (C_moves S t (mid S t)) (C-handed S t (mid S t)))

pub came_last-from : (S : Setup) (l t d : ℕ) → From ((t - d) + seconds_of S l) (came_last S l t d)
unfolding came_last
came_last-from S l zero d = tt
came_last-from S l (suc t) zero = tt
came_last-from S l (suc t) (suc d) =
    each_append (λ (y : Row). (suc t - suc d) + seconds_of S l ≤ y.second) (came_last S l t d) (came S l t)
    (From-less ((t - d) + seconds_of S l) ((suc t - suc d) + seconds_of S l) (came_last S l t d) (omega arith) (came_last-from S l t d))
    (From-less (t + seconds_of S l) ((suc t - suc d) + seconds_of S l) (came S l t) (omega arith) (came_from S l t))

pub came_last-late : (S : Setup) (l t d : ℕ) → d < seconds_of S l → Late t (came_last S l t d)
came_last-late S l t d h = From-late ((t - d) + seconds_of S l) t (came_last S l t d) (omega arith) (came_last-from S l t d)

-- in one second late rows and what came stay at the end of a queue
pub queue_step : (S : Setup) (t l : ℕ) (V : World) (xs ys : List Row) → l < length S.links → at l Queue V ≡ xs ++ ys → Late t (ys ++ came_in S t V l) →
    (zs : List Row) × (at l Queue (next S t V) ≡ zs ++ (ys ++ came_in S t V l))
queue_step S t l V xs ys lt e late =
    let U = C_world S t V in
    let zs = ys ++ came_in S t V l in
    let L = record (link_state l U) { queue = xs } in
    let ws = waiters S l U in
    let ms = link_moves (rules S l) t l ws L in
    let q : at l Queue U ≡ xs ++ zs = C-came S t l V ∙ ap (λ us. us ++ came_in S t V l) e ∙ append_assoc xs ys (came_in S t V l) in
    let same : link_turns S t l U ≡ ms = ap (λ us. link_moves (rules S l) t l ws (record (link_state l U) { queue = us })) q ∙ link_moves_late (rules S l) t l ws L zs late in
    (drop (freed l ms) xs, D-list S t l Queue U lt ∙ ap (λ ns. at_after_all l Queue ns (at l Queue U)) same ∙ ap (at_after_all l Queue ms) q ∙ (link_moves-leaves (rules S l) t l ws L zs).0)

-- what came in the last d seconds stands at the end of its queue
pub tail : (S : Setup) (l t d : ℕ) → l < length S.links → d ≤ seconds_of S l → (xs : List Row) × (at l Queue (world_at S t) ≡ xs ++ came_last S l t d)
unfolding came_last
tail S l zero d lt h = (at l Queue (world_at S zero), sym (append-nil (at l Queue (world_at S zero))))
tail S l (suc t) zero lt h = (at l Queue (world_at S (suc t)), sym (append-nil (at l Queue (world_at S (suc t)))))
tail S l (suc t) (suc d) lt h =
    let r = tail S l t d lt (omega arith) in
    let c = came_is S l t in
    let late : Late t (came_last S l t d ++ came S l t) = From-late ((t - d) + seconds_of S l) t _ (omega arith) (each_append (λ (y : Row). (t - d) + seconds_of S l ≤ y.second) (came_last S l t d) (came S l t) (came_last-from S l t d) (From-less (t + seconds_of S l) ((t - d) + seconds_of S l) (came S l t) (omega arith) (came_from S l t))) in
    let step = queue_step S t l (mid S t) r.0 (came_last S l t d) lt (mid-list S t l Queue refl ∙ r.1) (subst (λ us. Late t (came_last S l t d ++ us)) c late) in
    (step.0, ap (at l Queue) (world-next S t) ∙ step.1 ∙ ap (λ us. step.0 ++ (came_last S l t d ++ us)) (sym c))

pub known_tail : (S : Setup) (l t d : ℕ) → l < length S.links → d ≤ seconds_of S l → at l Queue (world_at S t) ≡ known S t d l ++ came_last S l t d
known_tail S l t d lt h =
    let r = tail S l t d lt h in
    let k : known S t d l ≡ r.0 = ap (λ (q : List Row). take (length q - length (came_last S l t d)) q) r.1 ∙ take_front r.0 (came_last S l t d) in
    r.1 ∙ ap (λ xs. xs ++ came_last S l t d) (sym k)

-- the other end
pub came_none : (S : Setup) (l t : ℕ) → came_last S l t 0 ≡ []
unfolding came_last
came_none S l zero = refl
came_none S l (suc t) = refl

pub came_older : (S : Setup) (l t d : ℕ) → d < t → came_last S l t (suc d) ≡ came S l (t - suc d) ++ came_last S l t d
unfolding came_last
came_older S l zero d h = absurd (omega arith)
came_older S l (suc t) zero h = let i : suc t - suc zero ≡ t = omega arith in ap (λ xs. xs ++ came S l t) (came_none S l t) ∙ ap (came S l) (sym i) ∙ sym (append-nil (came S l (suc t - suc zero)))
came_older S l (suc t) (suc d) h =
    let i : suc t - suc (suc d) ≡ t - suc d = omega arith in
    ap (λ xs. xs ++ came S l t) (came_older S l t d (omega arith))
    ∙ append_assoc (came S l (t - suc d)) (came_last S l t d) (came S l t)
    ∙ ap (λ j. came S l j ++ (came_last S l t d ++ came S l t)) (sym i)

pub came_all : (S : Setup) (l t d : ℕ) → t ≤ d → came_last S l t (suc d) ≡ came_last S l t d
unfolding came_last
came_all S l zero d h = refl
came_all S l (suc t) zero h = absurd (omega arith)
came_all S l (suc t) (suc d) h = ap (λ xs. xs ++ came S l t) (came_all S l t d (omega arith))

pub went_none : (S : Setup) (m t : ℕ) → went_last S m t 0 ≡ 0
unfolding went_last
went_none S m zero = refl
went_none S m (suc t) = refl

pub went_older : (S : Setup) (m t d : ℕ) → d < t → went_last S m t (suc d) ≡ went S m (t - suc d) + went_last S m t d
unfolding went_last
went_older S m zero d h = absurd (omega arith)
went_older S m (suc t) zero h = let i : suc t - suc zero ≡ t = omega arith in let e = ap (went S m) i in let f = went_none S m t in omega arith
went_older S m (suc t) (suc d) h =
    let i : suc t - suc (suc d) ≡ t - suc d = omega arith in
    let e = ap (went S m) i in
    let f = went_older S m t d (omega arith) in omega arith

pub went_all : (S : Setup) (m t d : ℕ) → t ≤ d → went_last S m t (suc d) ≡ went_last S m t d
unfolding went_last
went_all S m zero d h = refl
went_all S m (suc t) zero h = absurd (omega arith)
went_all S m (suc t) (suc d) h = ap (λ x. x + went S m t) (went_all S m t d (omega arith))

-- holes
pub filter_twice : {X : Type 0} (f g : X → Bool) → ((x : X) → f x ≡ true → g x ≡ true) → (xs : List X) → filter f (filter g xs) ≡ filter f xs
filter_twice f g h [] = refl
filter_twice f g h (x ∷ xs) = grind (arith, h x, filter_twice f g h xs)

pub filter_copies : (f : ℕ → Bool) (n x : ℕ) → f x ≡ true → filter f (replicate n x) ≡ replicate n x
filter_copies f zero x h = refl
filter_copies f (suc n) x h = simp h (ap (λ xs. x ∷ xs) (filter_copies f n x h))

pub in_force-append : (x h : ℕ) (xs ys : List ℕ) → in_force x h (xs ++ ys) ≡ in_force x h xs + in_force x h ys
in_force-append x h xs ys = ap length (filter-append (λ s. nat_lt x (s + h)) xs ys) ∙ length-append _ _

pub length_copies : (n x : ℕ) → length (replicate n x) ≡ n
length_copies zero x = refl
length_copies (suc n) x = ap suc (length_copies n x)

pub in_force-copies : (x h n s : ℕ) → x < s + h → in_force x h (replicate n s) ≡ n
in_force-copies x h n s lt = ap length (filter_copies (λ s. nat_lt x (s + h)) n s (lt-ltb x (s + h) lt)) ∙ length_copies n s

pub holes-world : (S : Setup) (t m : ℕ) → holes_at m (world_at S (suc t)) ≡ holes_at m (world_at S t) ++ replicate (went S m t) t
holes-world S t m = ap (holes_at m) (world-next S t) ∙ holes-next S t m (mid S t) ∙ ap (λ n. holes_at m (mid S t) ++ replicate n t) (sym (went_is S m t)) ∙ ap (λ hs. hs ++ replicate (went S m t) t) (mid-holes S t m)

-- a place that was left less than h seconds ago counts like a row
pub in_force-last : (S : Setup) (m x t k : ℕ) → x < (t - k) + hole_of S m →
    in_force x (hole_of S m) (holes_at m (world_at S t)) ≡ in_force x (hole_of S m) (holes_at m (world_at S (t - k))) + went_last S m t k
unfolding went_last
in_force-last S m x zero k h = let i : zero - k ≡ 0 = omega arith in let e = ap (λ j. in_force x (hole_of S m) (holes_at m (world_at S j))) i in omega arith
in_force-last S m x (suc t) zero h = let i : suc t - zero ≡ suc t = omega arith in let e = ap (λ j. in_force x (hole_of S m) (holes_at m (world_at S j))) i in omega arith
in_force-last S m x (suc t) (suc k) h =
    let i : suc t - suc k ≡ t - k = omega arith in
    let e = ap (λ j. in_force x (hole_of S m) (holes_at m (world_at S j))) i in
    let f = in_force-last S m x t k (omega arith) in
    let w = went S m t in
    let g = ap (in_force x (hole_of S m)) (holes-world S t m) in
    let a = in_force-append x (hole_of S m) (holes_at m (world_at S t)) (replicate w t) in
    let c = in_force-copies x (hole_of S m) w t (omega arith) in omega arith

pub in_force-lasting : (t h : ℕ) (hs : List ℕ) → in_force t h (lasting t h hs) ≡ in_force t h hs
in_force-lasting t h hs = ap length (filter_twice (λ s. nat_lt t (s + h)) (λ s. nat_le t (s + h)) (λ s e. grind (arith, nat_tests)) hs)

pub lasting-next : (t h : ℕ) (hs : List ℕ) → lasting (suc t) h (lasting t h hs) ≡ lasting (suc t) h hs
lasting-next t h hs = filter_twice (λ s. nat_le (suc t) (s + h)) (λ s. nat_le t (s + h)) (λ s e. grind (arith, nat_tests)) hs
