-- What a move does to each sublist of the rows, to each credit, to the holes of each link and to each person.
use Rattle.traffic.proofs.Common.{◌≡◌, ℕ, List, ◌∙◌, length, ap, refl, sym, [], ◌∷◌, arith, ◌<◌, true, ◌++◌, Bool, inl, inr, subst, false, suc, eqb, zero}
use Rattle.traffic.proofs.Common.{get_or, append-nil, slice_get, cases_Bool, eqb-true, and_parts, or_parts, nat_tests, get_or-set_same, length-set, map-append}
use Rattle.traffic.proofs.Common.{get_or-set_other, filter-append, All-filter, filter, Some, None, Option, if◌then◌else◌, All, Untouched, on_front, without_at}
use Rattle.traffic.proofs.Common.{without, with_first, Credit, Move, Transfer, Remove, LeaveHole, Enter, SetFrontSince, persons_by, run, done, told}
use Rattle.traffic.proofs.Common.{person_after_all, at_after_all, at_second, touches, credit_after_all, same, told_of, at_after, hole_after_all, credit_after}
use Rattle.traffic.proofs.Common.{hole_after, persons_after, Row, Person, World, person_of, at, on, nobody, rank, holes_at, credit_of, Setup, Occurrence}
use Rattle.traffic.{proofs.Common.person_after, specs.Rows.Hole, specs.declared.stage.Stage.Stage}
use Rattle.traffic.specs.declared.stage.Stage.TheVariants.{Queue, Buffer, Wait, Bay}
use Rattle.std.proofs.lemmas.{List.Elements.filter_agree, List.Elements.filter_passes, Option.slice_get_within, Option.get_or_from_slice_get}

pub filter-without_same : {X : Type 0} (p : X → Bool) (k : ℕ) (xs : List X) → filter p (without p k xs) ≡ without_at k (filter p xs)
filter-without_same p k [] = refl
filter-without_same p zero (x ∷ xs) = elim (cases_Bool (p x)) [ inl e ↦ simp e | inr e ↦ simp e (filter-without_same p zero xs) ]
filter-without_same p (suc k) (x ∷ xs) = elim (cases_Bool (p x)) [ inl e ↦ simp e (ap (λ ys. x ∷ ys) (filter-without_same p k xs)) | inr e ↦ simp e (filter-without_same p (suc k) xs) ]

pub filter-without_other : {X : Type 0} (p q : X → Bool) → ((x : X) → p x ≡ true → q x ≡ false) → (k : ℕ) (xs : List X) → filter q (without p k xs) ≡ filter q xs
filter-without_other p q apart k [] = refl
filter-without_other p q apart zero (x ∷ xs) = grind (arith, apart x, filter-without_other p q apart zero xs)
filter-without_other p q apart (suc k) (x ∷ xs) = grind (arith, apart x, filter-without_other p q apart k xs, filter-without_other p q apart (suc k) xs)

pub filter-with_first_same : {X : Type 0} (p : X → Bool) (f : X → X) → ((x : X) → p x ≡ true → p (f x) ≡ true) → (xs : List X) → filter p (with_first p f xs) ≡ on_front f (filter p xs)
filter-with_first_same p f keeps [] = refl
filter-with_first_same p f keeps (x ∷ xs) = grind (arith, keeps x, filter-with_first_same p f keeps xs)

pub filter-with_first_other : {X : Type 0} (p q : X → Bool) (f : X → X) → ((x : X) → p x ≡ true → q x ≡ false) → ((x : X) → p x ≡ true → p (f x) ≡ true) → (xs : List X) → filter q (with_first p f xs) ≡ filter q xs
filter-with_first_other p q f apart keeps [] = refl
filter-with_first_other p q f apart keeps (x ∷ xs) = grind (arith, apart x, apart (f x), keeps x, filter-with_first_other p q f apart keeps xs)

-- a row at a place of a link stands there, and is one of all rows
pub stage_is : (s z : Stage) → eqb (rank s) (rank z) ≡ true → s ≡ z
stage_is Queue Queue e = refl
stage_is Buffer Buffer e = refl
stage_is Wait Wait e = refl
stage_is Bay Bay e = refl
stage_is s z e = absurd (cc)

pub on_is : (l : ℕ) (s : Stage) (r : Row) → on l s r ≡ true → (r.stage ≡ s) × (r.link ≡ l)
on_is l s r e = let h = and_parts (eqb (rank r.stage) (rank s)) (eqb r.link l) e in (stage_is r.stage s h.0, eqb-true r.link l h.1)

pub at_such : (P : Row → Type 0) (l : ℕ) (s : Stage) (k : ℕ) (r : Row) (rows : List Row) → All P rows → slice_get (filter (on l s) rows) k ≡ Some r → P r × (r.stage ≡ s) × (r.link ≡ l)
at_such P l s k r rows h e =
    let xs = filter (on l s) rows in
    let q = get_or_from_slice_get xs k r r e in
    let lt = slice_get_within xs k r e in
    let there : on l s r ≡ true = subst (λ (x : Row). on l s x ≡ true) q (filter_passes (on l s) rows k r lt) in
    let is = on_is l s r there in (subst P q (All-filter (on l s) P rows h k r lt), is.0, is.1)

-- two places are one, or no row stands at both
pub on_same : (l : ℕ) (s : Stage) (a : ℕ) (z : Stage) → same l s a z ≡ true → (r : Row) → on a z r ≡ on l s r
on_same l s a z e r = let h = and_parts (eqb (rank z) (rank s)) (eqb a l) e in let h0 = eqb-true a l h.1 in let h1 = eqb-true (rank z) (rank s) h.0 in cc

pub on_apart : (l : ℕ) (s : Stage) (a : ℕ) (z : Stage) → same l s a z ≡ false → (r : Row) → on a z r ≡ true → on l s r ≡ false
on_apart l s a z e r h = grind (arith, nat_tests)

filter-same : (l : ℕ) (s : Stage) (a : ℕ) (z : Stage) → same l s a z ≡ true → (xs : List Row) → filter (on a z) xs ≡ filter (on l s) xs
filter-same l s a z e xs = filter_agree (on a z) (on l s) (on_same l s a z e) xs

without_same : (l : ℕ) (s : Stage) (a : ℕ) (z : Stage) → same l s a z ≡ true → (k : ℕ) (xs : List Row) → filter (on l s) (without (on a z) k xs) ≡ without_at k (filter (on l s) xs)
without_same l s a z e k xs =
    sym (filter-same l s a z e (without (on a z) k xs)) ∙ filter-without_same (on a z) k xs ∙ ap (without_at k) (filter-same l s a z e xs)

-- a row that is taken out of one list leaves the others as they were
cut : (l : ℕ) (s : Stage) (a : ℕ) (z : Stage) (k : ℕ) (xs : List Row) → filter (on l s) (without (on a z) k xs) ≡ (if same l s a z then without_at k (filter (on l s) xs) else filter (on l s) xs)
cut l s a z k xs =
    let away = λ (e : same l s a z ≡ false). filter-without_other (on a z) (on l s) (on_apart l s a z e) k xs in
    grind (arith, without_same l s a z)

put : (l : ℕ) (s : Stage) (now : Row) (xs : List Row) → filter (on l s) (xs ++ now ∷ []) ≡ filter (on l s) xs ++ (if on l s now then now ∷ [] else [])
put l s now xs = filter-append (on l s) xs (now ∷ [])

marked_same : (l : ℕ) (s : Stage) (a t : ℕ) → same l s a Buffer ≡ true → (xs : List Row) → filter (on l s) (with_first (on a Buffer) (at_second t) xs) ≡ on_front (at_second t) (filter (on l s) xs)
marked_same l s a t e xs =
    sym (filter-same l s a Buffer e (with_first (on a Buffer) (at_second t) xs)) ∙ filter-with_first_same (on a Buffer) (at_second t) (λ x h. h) xs ∙ ap (on_front (at_second t)) (filter-same l s a Buffer e xs)

marked : (l : ℕ) (s : Stage) (a t : ℕ) (xs : List Row) → filter (on l s) (with_first (on a Buffer) (at_second t) xs) ≡ (if same l s a Buffer then on_front (at_second t) (filter (on l s) xs) else filter (on l s) xs)
marked l s a t xs =
    let away = λ (e : same l s a Buffer ≡ false). filter-with_first_other (on a Buffer) (on l s) (at_second t) (on_apart l s a Buffer e) (λ x h. h) xs in
    grind (arith, marked_same l s a t)

-- What a move does to a sublist of the rows depends on that sublist alone.
pub at-done : (S : Setup) (t l : ℕ) (s : Stage) (m : Move) (W : World) → at l s (done S t m W) ≡ at_after l s m (at l s W)
at-done S t l s (Transfer a z k was now) W = put l s now (without (on a z) k W.rows) ∙ ap (λ ys. ys ++ (if on l s now then now ∷ [] else [])) (cut l s a z k W.rows)
at-done S t l s (Remove a z k was) W = cut l s a z k W.rows
at-done S t l s (Enter now) W = put l s now W.rows
at-done S t l s (SetFrontSince a u) W = marked l s a u W.rows
at-done S t l s _ W = refl

-- the same for moves one after the other
pub at-run : (S : Setup) (t l : ℕ) (s : Stage) (ms : List Move) (W : World) → at l s (run S t ms W) ≡ at_after_all l s ms (at l s W)
at-run S t l s [] W = refl
at-run S t l s (m ∷ ms) W = at-run S t l s ms (done S t m W) ∙ ap (at_after_all l s ms) (at-done S t l s m W)

-- a move that does not touch a list leaves it as it was
pub at_after-untouched : (l : ℕ) (s : Stage) (m : Move) (xs : List Row) → touches l s m ≡ false → at_after l s m xs ≡ xs
at_after-untouched l s (Transfer a z k was now) xs e = let h = or_parts (same l s a z) (on l s now) e in rw (h.0, h.1) (append-nil xs)
at_after-untouched l s (Remove a z k was) xs e = rw e refl
at_after-untouched l s (Enter now) xs e = rw e (append-nil xs)
at_after-untouched l s (SetFrontSince a t) xs e = rw e refl
at_after-untouched l s _ xs e = refl

pub Untouched-append : (l : ℕ) (s : Stage) (xs ys : List Move) → Untouched l s xs → Untouched l s ys → Untouched l s (xs ++ ys)
Untouched-append l s [] ys h g = g
Untouched-append l s (x ∷ xs) ys h g = (h.0, Untouched-append l s xs ys h.1 g)

pub at_after_all-untouched : (l : ℕ) (s : Stage) (ms : List Move) (xs : List Row) → Untouched l s ms → at_after_all l s ms xs ≡ xs
at_after_all-untouched l s [] xs h = refl
at_after_all-untouched l s (m ∷ ms) xs h = ap (at_after_all l s ms) (at_after-untouched l s m xs h.0) ∙ at_after_all-untouched l s ms xs h.1

pub at_after_all-append : (l : ℕ) (s : Stage) (ms ns : List Move) (xs : List Row) → at_after_all l s (ms ++ ns) xs ≡ at_after_all l s ns (at_after_all l s ms xs)
at_after_all-append l s [] ns xs = refl
at_after_all-append l s (m ∷ ms) ns xs = at_after_all-append l s ms ns (at_after l s m xs)

pub run-append : (S : Setup) (t : ℕ) (ms ns : List Move) (W : World) → run S t (ms ++ ns) W ≡ run S t ns (run S t ms W)
run-append S t [] ns W = refl
run-append S t (m ∷ ms) ns W = run-append S t ms ns (done S t m W)

-- lists that no move touches are as they were
pub at-run_untouched : (S : Setup) (t l : ℕ) (s : Stage) (ms : List Move) (W : World) → Untouched l s ms → at l s (run S t ms W) ≡ at l s W
at-run_untouched S t l s ms W h = at-run S t l s ms W ∙ at_after_all-untouched l s ms (at l s W) h

-- What a move does to the holes of a link depends on those alone.
pub holes-done : (S : Setup) (t l : ℕ) (m : Move) (W : World) → holes_at l (done S t m W) ≡ hole_after l m (holes_at l W)
holes-done S t l (LeaveHole a u) W =
    let here = filter (λ (x : Hole). eqb x.link l) W.holes in
    let one : List Hole = record { link = a; second = u } ∷ [] in
    grind (arith, filter-append (λ (x : Hole). eqb x.link l) W.holes one, map-append (λ (x : Hole). x.second) here one, append-nil here)
holes-done S t l _ W = refl

pub holes-run : (S : Setup) (t l : ℕ) (ms : List Move) (W : World) → holes_at l (run S t ms W) ≡ hole_after_all l ms (holes_at l W)
holes-run S t l [] W = refl
holes-run S t l (m ∷ ms) W = holes-run S t l ms (done S t m W) ∙ ap (hole_after_all l ms) (holes-done S t l m W)

-- What a move does to the credit of a link depends on that alone.
pub credit-done : (S : Setup) (t l : ℕ) (m : Move) (W : World) → l < length W.credits → credit_of l (done S t m W) ≡ credit_after l m (credit_of l W)
credit-done S t l (Credit a c) W h = grind (arith, nat_tests, get_or-set_same W.credits l c 0 h, get_or-set_other W.credits a l c 0)
credit-done S t l _ W h = refl

credits-done : (S : Setup) (t : ℕ) (m : Move) (W : World) → length (done S t m W).credits ≡ length W.credits
credits-done S t (Credit a c) W = length-set W.credits a c
credits-done S t _ W = refl

pub credits-run : (S : Setup) (t : ℕ) (ms : List Move) (W : World) → length (run S t ms W).credits ≡ length W.credits
credits-run S t [] W = refl
credits-run S t (m ∷ ms) W = credits-run S t ms (done S t m W) ∙ credits-done S t m W

pub credit-run : (S : Setup) (t l : ℕ) (ms : List Move) (W : World) → l < length W.credits → credit_of l (run S t ms W) ≡ credit_after_all l ms (credit_of l W)
credit-run S t l [] W h = refl
credit-run S t l (m ∷ ms) W h = let e = credits-done S t m W in credit-run S t l ms (done S t m W) (omega arith) ∙ ap (credit_after_all l ms) (credit-done S t l m W h)

-- What an event does to the row of a person depends on that alone.
persons-length_by : (S : Setup) (t : ℕ) (e : Occurrence) (o : Option ℕ) (ps : List Person) → length (persons_by S t e o ps) ≡ length ps
persons-length_by S t e None ps = refl
persons-length_by S t e (Some i) ps = length-set ps i _

pub persons-length : (S : Setup) (t : ℕ) (es : List Occurrence) (ps : List Person) → length (persons_after S t es ps) ≡ length ps
persons-length S t [] ps = refl
persons-length S t (e ∷ es) ps = persons-length S t es (persons_by S t e e.person ps) ∙ persons-length_by S t e e.person ps

person_by : (S : Setup) (t i : ℕ) (e : Occurrence) (o : Option ℕ) (ps : List Person) → i < length ps → get_or (persons_by S t e o ps) i nobody ≡ told_of S t i e o (get_or ps i nobody)
person_by S t i e None ps h = refl
person_by S t i e (Some j) ps h =
    let now = person_after S t j e (get_or ps j nobody) in
    grind (arith, nat_tests, get_or-set_same ps i now nobody h, get_or-set_other ps j i now nobody)

pub person_after_all-is : (S : Setup) (t i : ℕ) (es : List Occurrence) (ps : List Person) → i < length ps → get_or (persons_after S t es ps) i nobody ≡ person_after_all S t i es (get_or ps i nobody)
person_after_all-is S t i [] ps h = refl
person_after_all-is S t i (e ∷ es) ps h =
    person_after_all-is S t i es (persons_by S t e e.person ps) (let q = persons-length_by S t e e.person ps in omega arith)
    ∙ ap (person_after_all S t i es) (person_by S t i e e.person ps h)

pub person-done : (S : Setup) (t i : ℕ) (m : Move) (W : World) → i < length W.persons → person_of i (done S t m W) ≡ person_after_all S t i (told m) (person_of i W)
person-done S t i m W h = person_after_all-is S t i (told m) W.persons h
