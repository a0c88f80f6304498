-- Pieces of a text, one for each of some numbers.
use Rattle.std.proofs.Common.{append_assoc, codes, ◌≡◌, ℕ, zero, suc, ◌+◌, ◌-◌, ◌≤◌, List, [], ◌∷◌, ◌++◌, map, refl, sym, ◌∙◌, ap, arith, add-one, add-zero}
use Rattle.std.proofs.lemmas.List.{append-nil, Concat.flat_map-append}
use Rattle.std.specs.List.{flat_map, range_with_len, join_with_byte}
use Rattle.plan_text.specs.Lines.{row_line}
use Rattle.workload.specs.{Rows.link_name, Rows.call_text, Texts.routes_text}

-- one number more
range_more : (a n : ℕ) → range_with_len a (suc n) ≡ range_with_len a n ++ (a + n) ∷ []
range_more a zero = ap (λ m. m ∷ []) (sym (add-zero a))
range_more a (suc n) =
    let next : a + 1 + n ≡ a + suc n = omega arith in
    ap (λ xs. a ∷ xs) (range_more (a + 1) n ∙ ap (λ m. range_with_len (a + 1) n ++ m ∷ []) next)

pieces_from : {A : Type 0} (f : ℕ → List A) (a n : ℕ) → flat_map f (range_with_len a (suc n)) ≡ flat_map f (range_with_len a n) ++ f (a + n)
pieces_from f a n =
    ap (flat_map f) (range_more a n) ∙ flat_map-append f (range_with_len a n) ((a + n) ∷ []) ∙ ap (λ xs. flat_map f (range_with_len a n) ++ xs)
    (append-nil (f (a + n)))

-- one piece more
pub more_pieces : {A : Type 0} (f : ℕ → List A) (n : ℕ) → flat_map f (range_with_len 0 (n + 1)) ≡ flat_map f (range_with_len 0 n) ++ f n
more_pieces f n =
    let here : 0 + n ≡ n = omega arith in
    ap (λ m. flat_map f (range_with_len 0 m)) (add-one n) ∙ pieces_from f 0 n ∙ ap (λ m. flat_map f (range_with_len 0 n) ++ f m) here

-- the same of pieces from 1 on
pub more_from_one : {A : Type 0} (f : ℕ → List A) (n : ℕ) → 1 ≤ n
    → flat_map f (range_with_len 1 (n + 1 - 1)) ≡ flat_map f (range_with_len 1 (n - 1)) ++ f n
more_from_one f n some =
    let count : n + 1 - 1 ≡ suc (n - 1) = omega arith in
    let here : 1 + (n - 1) ≡ n = omega arith in
    ap (λ m. flat_map f (range_with_len 1 m)) count ∙ pieces_from f 1 (n - 1) ∙ ap (λ m. flat_map f (range_with_len 1 (n - 1)) ++ f m) here

join_first : (c : ℕ) (x : List ℕ) (xs : List (List ℕ)) → join_with_byte c (x ∷ xs) ≡ x ++ flat_map (λ (y : List ℕ). c ∷ y) xs
join_first c x [] = sym (append-nil x)
join_first c x (y ∷ ys) = ap (λ (t : List ℕ). x ++ (c ∷ t)) (join_first c y ys)

pieces_of : (c : ℕ) (f : ℕ → List ℕ) (ns : List ℕ) → flat_map (λ (y : List ℕ). c ∷ y) (map f ns) ≡ flat_map (λ n. c ∷ f n) ns
pieces_of c f [] = refl
pieces_of c f (n ∷ ns) = ap (λ (t : List ℕ). (c ∷ f n) ++ t) (pieces_of c f ns)

-- pieces joined by single bytes
pub joined_is : (c n : ℕ) (f : ℕ → List ℕ) → 1 ≤ n
    → join_with_byte c (map f (range_with_len 0 n)) ≡ f 0 ++ flat_map (λ k. c ∷ f k) (range_with_len 1 (n - 1))
joined_is c zero f some = absurd (omega arith)
joined_is c (suc n) f some =
    let count : suc n - 1 ≡ n = omega arith in
    join_first c (f 0) (map f (range_with_len 1 n)) ∙ ap (λ (t : List ℕ). f 0 ++ t)
    (pieces_of c f (range_with_len 1 n) ∙ ap (λ m. flat_map (λ k. c ∷ f k) (range_with_len 1 m)) (sym count))

-- the one row behind the header, with the first link and the first call apart
row_apart : (link links call calls : List ℕ)
    → codes "line,route,links,stops\n" ++ row_line (codes "bus" ∷ codes "east" ∷ (link ++ links) ∷ (call ++ calls) ∷ [])
    ≡ codes "line,route,links,stops\nbus,east," ++ link ++ links ++ codes "," ++ call ++ calls ++ codes "\n"
unfolding row_line
row_apart link links call calls = simp append_assoc

-- routes.csv
pub route_lines : (size : ℕ) → 2 ≤ size → routes_text size
    ≡ codes "line,route,links,stops\nbus,east," ++ link_name (0, 0 + 1)
    ++ flat_map (λ stop. 32 ∷ link_name (stop, stop + 1)) (range_with_len 1 (size - 1 - 1))
    ++ codes "," ++ call_text 0 ++ flat_map (λ stop. 32 ∷ call_text stop) (range_with_len 1 (size - 1 - 1)) ++ codes "\n"
unfolding routes_text
route_lines size some =
    let stops : 1 ≤ size - 1 = omega arith in
    let ways = joined_is 32 (size - 1) (λ stop. link_name (stop, stop + 1)) stops in
    let calls = joined_is 32 (size - 1) call_text stops in
    ap (λ (t : List ℕ). codes "line,route,links,stops\n" ++ row_line (codes "bus" ∷ codes "east" ∷ t
    ∷ join_with_byte 32 (map call_text (range_with_len 0 (size - 1))) ∷ [])) ways
    ∙ ap (λ (t : List ℕ). codes "line,route,links,stops\n" ++ row_line (codes "bus" ∷ codes "east"
    ∷ (link_name (0, 0 + 1) ++ flat_map (λ stop. 32 ∷ link_name (stop, stop + 1)) (range_with_len 1 (size - 1 - 1))) ∷ t ∷ [])) calls
    ∙ row_apart (link_name (0, 0 + 1)) (flat_map (λ stop. 32 ∷ link_name (stop, stop + 1)) (range_with_len 1 (size - 1 - 1)))
    (call_text 0) (flat_map (λ stop. 32 ∷ call_text stop) (range_with_len 1 (size - 1 - 1)))
