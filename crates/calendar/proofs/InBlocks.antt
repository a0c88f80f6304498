-- What is due in a second hangs from its hook, and that one stands in its block.
use Rattle.std.proofs.{Common.◌∙◌, Common.arith, lemmas.Bool.cases_Bool, lemmas.Bool.cases_lt, lemmas.Bool.eqb-true, Common.◌≡◌}
use Rattle.std.proofs.Common.{ℕ, zero, suc, ◌+◌, ◌*◌, ◌/◌, ◌%◌, ◌<◌, ◌≤◌, ◌⊎◌, Bool, true, false, inl, inr, List, [], ◌∷◌, ◌++◌, length, get_or, refl, ap, sym}
use Rattle.std.proofs.lemmas.{Bool.eqb-false, Bool.eq-eqb, List.get_or-set_same, List.get_or-set_other, List.length-map, List.map-set}
use Rattle.std.specs.Prelude.{map, set, vec_items, ◌==◌, if◌then◌else◌, Option, None}
use Rattle.calendar.specs.Blocks.{Block, rows_at, head_at, HasRow, HasHeadIn, HasHead, HaveSameHeadsIn, HaveSameHeads, seconds_of, all_seconds}
use Rattle.calendar.specs.{Due.Due, Due.due_at, Hooks.numbers_at, declared.by_second.Hook.Hook, declared.TheConstants.BLOCK_SECONDS}
use Rattle.calendar.proofs.Laid.{none_hangs}

-- A BLOCK, AND THE BLOCKS BEHIND IT
own_second : (n r : ℕ) (rows later : Due) → r < n → due_at r (seconds_of n rows ++ later) ≡ due_at r rows
unfolding seconds_of
own_second zero r rows later lt = absurd (omega arith)
own_second (suc n) zero [] later lt = refl
own_second (suc n) zero (row ∷ rows) later lt = refl
own_second (suc n) (suc r) [] later lt = own_second n r [] later (omega arith)
own_second (suc n) (suc r) (row ∷ rows) later lt = own_second n r rows later (omega arith)

later_second : (n k u : ℕ) (rows later : Due) → u ≡ n + k → due_at u (seconds_of n rows ++ later) ≡ due_at k later
unfolding seconds_of
later_second zero k u rows later e = let f : u ≡ k = omega arith in ap (λ (x : ℕ). due_at x later) f
later_second (suc n) k zero rows later e = absurd (omega arith)
later_second (suc n) k (suc u) [] later e = later_second n k u [] later (omega arith)
later_second (suc n) k (suc u) (row ∷ rows) later e = later_second n k u rows later (omega arith)

-- THE BLOCK OF A SECOND
in_block : (q r u : ℕ) (blocks : List Due) → r < BLOCK_SECONDS → u ≡ BLOCK_SECONDS * q + r
    → due_at u (all_seconds BLOCK_SECONDS blocks) ≡ due_at r (get_or blocks q [])
unfolding all_seconds
in_block q r u [] lt e = refl
in_block zero r u (rows ∷ blocks) lt e =
    let f : u ≡ r = omega arith in
    ap (λ (x : ℕ). due_at x (seconds_of BLOCK_SECONDS rows ++ all_seconds BLOCK_SECONDS blocks)) f
    ∙ own_second BLOCK_SECONDS r rows (all_seconds BLOCK_SECONDS blocks) lt
in_block (suc q) r u (rows ∷ blocks) lt e =
    let f : u ≡ BLOCK_SECONDS + (BLOCK_SECONDS * q + r) = omega arith in
    later_second BLOCK_SECONDS (BLOCK_SECONDS * q + r) u rows (all_seconds BLOCK_SECONDS blocks) f
    ∙ in_block q r (BLOCK_SECONDS * q + r) blocks lt refl

due_in : (u : ℕ) (blocks : List Due)
    → due_at u (all_seconds BLOCK_SECONDS blocks) ≡ due_at (u % BLOCK_SECONDS) (get_or blocks (u / BLOCK_SECONDS) [])
due_in u blocks =
    let e : u ≡ BLOCK_SECONDS * (u / BLOCK_SECONDS) + u % BLOCK_SECONDS = omega arith in
    let lt : u % BLOCK_SECONDS < BLOCK_SECONDS = omega arith in
    in_block (u / BLOCK_SECONDS) (u % BLOCK_SECONDS) u blocks lt e

-- WHAT HANGS FROM THE HOOK OF A SECOND
in_row : (f : Option ℕ → List ℕ) (rows : List (Option ℕ)) (r : ℕ) → f None ≡ [] → due_at r (map f rows) ≡ f (get_or rows r None)
in_row f [] r e = sym e
in_row f (x ∷ rows) zero e = refl
in_row f (x ∷ rows) (suc r) e = in_row f rows r e

in_rows : (f : Option ℕ → List ℕ) (blocks : List Block) (q : ℕ)
    → get_or (map (λ (block : Block). map f block.items) blocks) q [] ≡ map f (get_or (map vec_items blocks) q [])
in_rows f [] q = refl
in_rows f (x ∷ blocks) zero = refl
in_rows f (x ∷ blocks) (suc q) = in_rows f blocks q

pub due_is : (hooks : List Hook) (blocks : List Block) (u : ℕ)
    → due_at u (all_seconds BLOCK_SECONDS (map (λ (block : Block). map (numbers_at hooks) block.items) blocks))
    ≡ numbers_at hooks (head_at blocks u)
due_is hooks blocks u =
    due_in u (map (λ (block : Block). map (numbers_at hooks) block.items) blocks)
    ∙ ap (due_at (u % BLOCK_SECONDS)) (in_rows (numbers_at hooks) blocks (u / BLOCK_SECONDS))
    ∙ in_row (numbers_at hooks) (rows_at blocks u) (u % BLOCK_SECONDS) (none_hangs hooks None refl)

-- ANOTHER BLOCK IN ITS PLACE
pub read_rows : (blocks : List Block) (q : ℕ) (v : Block) → q < length blocks → v ≡ get_or blocks q v
    → v.items ≡ get_or (map vec_items blocks) q []
read_rows [] q v lt e = absurd (omega arith)
read_rows (x ∷ xs) zero v lt e = ap vec_items e
read_rows (x ∷ xs) (suc q) v lt e = read_rows xs q v (omega arith) e

own_rows : (blocks : List Block) (q : ℕ) (w : Block) → q < length blocks → get_or (map vec_items (set blocks q w)) q [] ≡ w.items
own_rows blocks q w lt =
    let n = length-map blocks vec_items in
    ap (λ (bs : List (List (Option ℕ))). get_or bs q []) (map-set vec_items blocks q w)
    ∙ get_or-set_same (map vec_items blocks) q w.items [] (omega arith)

other_rows : (blocks : List Block) (q p : ℕ) (w : Block) → (p == q) ≡ false
    → get_or (map vec_items (set blocks q w)) p [] ≡ get_or (map vec_items blocks) p []
other_rows blocks q p w ne =
    ap (λ (bs : List (List (Option ℕ))). get_or bs p []) (map-set vec_items blocks q w)
    ∙ get_or-set_other (map vec_items blocks) q p w.items [] (eqb-false p q ne)

pub same_heads : (blocks : List Block) (q : ℕ) (v w : Block) → q < length blocks → v ≡ get_or blocks q v → HaveSameHeadsIn v.items w.items
    → HaveSameHeads blocks (set blocks q w)
same_heads blocks q v w lt e same = λ u. at_place (u / BLOCK_SECONDS) (u % BLOCK_SECONDS)
  where
    at_place : (p r : ℕ) → get_or (get_or (map vec_items (set blocks q w)) p []) r None ≡ get_or (get_or (map vec_items blocks) p []) r None
    at_place p r =
        elim (cases_Bool (p == q)) [
          | inl s ↦
              let a : p ≡ q = eqb-true p q s in
              rw a (ap (λ (xs : List (Option ℕ)). get_or xs r None) (own_rows blocks q w lt) ∙ same r
              ∙ ap (λ (xs : List (Option ℕ)). get_or xs r None) (read_rows blocks q v lt e))
          | inr s ↦ ap (λ (xs : List (Option ℕ)). get_or xs r None) (other_rows blocks q p w s)
        ]

changed_at : (blocks : List Block) (q s p r : ℕ) (x : Option ℕ) (same : Bool) (v w : Block) → q < length blocks → v ≡ get_or blocks q v
    → HasHeadIn s x v.items w.items → (same ≡ true → (p ≡ q) × (r ≡ s)) → (p ≡ q → r ≡ s → same ≡ true)
    → get_or (get_or (map vec_items (set blocks q w)) p []) r None ≡ (if same then x else get_or (get_or (map vec_items blocks) p []) r None)
changed_at blocks q s p r x true v w lt e h there back =
    let a : p ≡ q = (there refl).0 in
    let b : r ≡ s = (there refl).1 in
    let z : (s == s) ≡ true = eq-eqb s s refl in
    let one : get_or w.items s None ≡ x = h s ∙ rw z refl in
    rw (a, b) (ap (λ (xs : List (Option ℕ)). get_or xs s None) (own_rows blocks q w lt) ∙ one)
changed_at blocks q s p r x false v w lt e h there back =
    elim (cases_Bool (p == q)) [
      | inl y ↦
          let a : p ≡ q = eqb-true p q y in
          elim (cases_Bool (r == s)) [
            | inl g ↦ absurd (let z : false ≡ true = back a (eqb-true r s g) in cc)
            | inr g ↦
                let one : get_or w.items r None ≡ get_or v.items r None = h r ∙ rw g refl in
                rw a (ap (λ (xs : List (Option ℕ)). get_or xs r None) (own_rows blocks q w lt) ∙ one
                ∙ ap (λ (xs : List (Option ℕ)). get_or xs r None) (read_rows blocks q v lt e))
          ]
      | inr y ↦ ap (λ (xs : List (Option ℕ)). get_or xs r None) (other_rows blocks q p w y)
    ]

pub changed_head : (blocks : List Block) (t : ℕ) (x : Option ℕ) (v w : Block) → t / BLOCK_SECONDS < length blocks
    → v ≡ get_or blocks (t / BLOCK_SECONDS) v → HasHeadIn (t % BLOCK_SECONDS) x v.items w.items
    → HasHead t x blocks (set blocks (t / BLOCK_SECONDS) w)
changed_head blocks t x v w lt e h = λ u.
    let there : (u == t) ≡ true → (u / BLOCK_SECONDS ≡ t / BLOCK_SECONDS) × (u % BLOCK_SECONDS ≡ t % BLOCK_SECONDS)
    = λ f. (let s : u ≡ t = eqb-true u t f in (ap (λ (n : ℕ). n / BLOCK_SECONDS) s, ap (λ (n : ℕ). n % BLOCK_SECONDS) s)) in
    let back : u / BLOCK_SECONDS ≡ t / BLOCK_SECONDS → u % BLOCK_SECONDS ≡ t % BLOCK_SECONDS → (u == t) ≡ true
    = λ a b. (let s : u ≡ t = omega arith in eq-eqb u t s) in
    changed_at blocks (t / BLOCK_SECONDS) (t % BLOCK_SECONDS) (u / BLOCK_SECONDS) (u % BLOCK_SECONDS) x (u == t) v w lt e h there back

pub long_rows : (blocks : List Block) (t : ℕ) (w : Block) → t / BLOCK_SECONDS < length blocks → BLOCK_SECONDS ≤ length w.items
    → HasRow t (set blocks (t / BLOCK_SECONDS) w)
long_rows blocks t w lt le =
    let e : length (rows_at (set blocks (t / BLOCK_SECONDS) w) t) ≡ length w.items
    = ap (λ (xs : List (Option ℕ)). length xs) (own_rows blocks (t / BLOCK_SECONDS) w lt) in
    let m : t % BLOCK_SECONDS < BLOCK_SECONDS = omega arith in
    omega arith

-- a second that has a row has a block
past_rows : (rows : List (List (Option ℕ))) (q : ℕ) → length rows ≤ q → get_or rows q [] ≡ []
past_rows [] q le = refl
past_rows (x ∷ rows) zero le = absurd (omega arith)
past_rows (x ∷ rows) (suc q) le = past_rows rows q (omega arith)

pub placed_block : (blocks : List Block) (t : ℕ) → HasRow t blocks → t / BLOCK_SECONDS < length blocks
placed_block blocks t h = by_length (cases_lt (t / BLOCK_SECONDS) (length blocks))
  where
    by_length : (t / BLOCK_SECONDS < length blocks) ⊎ (length blocks ≤ t / BLOCK_SECONDS) → t / BLOCK_SECONDS < length blocks
    by_length (inl lt) = lt
    by_length (inr le) =
        let n = length-map blocks vec_items in
        let e : length (rows_at blocks t) ≡ 0
        = ap (λ (xs : List (Option ℕ)). length xs) (past_rows (map vec_items blocks) (t / BLOCK_SECONDS) (omega arith)) in
        absurd (omega arith)

pub placed_row : (blocks : List Block) (t : ℕ) (v : Block) → HasRow t blocks → v ≡ get_or blocks (t / BLOCK_SECONDS) v
    → t % BLOCK_SECONDS < length v.items
placed_row blocks t v h e =
    let f : length v.items ≡ length (rows_at blocks t)
    = ap (λ (xs : List (Option ℕ)). length xs) (read_rows blocks (t / BLOCK_SECONDS) v (placed_block blocks t h) e) in
    omega arith

pub head_past : (blocks : List Block) (t : ℕ) → length blocks ≤ t / BLOCK_SECONDS → head_at blocks t ≡ None
head_past blocks t le =
    let n = length-map blocks vec_items in
    ap (λ (xs : List (Option ℕ)). get_or xs (t % BLOCK_SECONDS) None) (past_rows (map vec_items blocks) (t / BLOCK_SECONDS) (omega arith))

pub bare_block : (blocks : List Block) (t : ℕ) → length blocks ≤ t / BLOCK_SECONDS → HasHead t None blocks blocks
bare_block blocks t le = λ u.
    elim (cases_Bool (u == t)) [
      | inl e ↦ let f : u ≡ t = eqb-true u t e in rw (e, f) (head_past blocks t le)
      | inr e ↦ rw e refl
    ]

pub head_read : (blocks : List Block) (t : ℕ) (v : Block) → t / BLOCK_SECONDS < length blocks → v ≡ get_or blocks (t / BLOCK_SECONDS) v
    → head_at blocks t ≡ get_or v.items (t % BLOCK_SECONDS) None
head_read blocks t v lt e = ap (λ (xs : List (Option ℕ)). get_or xs (t % BLOCK_SECONDS) None) (sym (read_rows blocks (t / BLOCK_SECONDS) v lt e))

-- ONE BLOCK MORE
one_more : (blocks : List Block) (v : Block) (q : ℕ) → v.items ≡ []
    → get_or (map vec_items (blocks ++ v ∷ [])) q [] ≡ get_or (map vec_items blocks) q []
one_more [] v zero e = e
one_more [] v (suc q) e = refl
one_more (x ∷ xs) v zero e = refl
one_more (x ∷ xs) v (suc q) e = one_more xs v q e

pub reached_block : (blocks later : List Block) (v : Block) (u : ℕ) → v.items ≡ [] → later ≡ blocks ++ v ∷ []
    → head_at later u ≡ head_at blocks u
reached_block blocks later v u e f =
    ap (λ (bs : List Block). head_at bs u) f
    ∙ ap (λ (xs : List (Option ℕ)). get_or xs (u % BLOCK_SECONDS) None) (one_more blocks v (u / BLOCK_SECONDS) e)
