-- Lists that grow at their ends.
use Rattle.traffic.proofs.Common.{◌≡◌, ℕ, zero, suc, List, [], ◌∷◌, ◌++◌, ◌∙◌, ap, refl, sym, Bool, true, false, get_or, flat_map, filter, map, append-nil}
use Rattle.traffic.proofs.Common.{append_assoc, if◌then◌else◌, filter-append, map-append, flat_map-append, replicate, ◌||◌, ◌==◌}
use Rattle.node_seconds.specs.Networks.{is_among}

map_one : {X Y : Type 0} (m : X → Y) (b : Bool) (y : X) → map m (if b then y ∷ [] else []) ≡ (if b then m y ∷ [] else [])
map_one m true y = refl
map_one m false y = refl

pub next_map : {X Y : Type 0} (m : X → Y) (p : X → Bool) (ys : List X) (y : X)
    → map m (filter p (ys ++ y ∷ [])) ≡ map m (filter p ys) ++ (if p y then m y ∷ [] else [])
next_map {X} {Y} m p ys y =
    ap (map m) (filter-append p ys (y ∷ [])) ∙ map-append m (filter p ys) (filter p (y ∷ []))
    ∙ ap (λ (zs : List Y). map m (filter p ys) ++ zs) (map_one m (p y) y)

pub next_all : {X Y : Type 0} (m : X → Y) (first : List Y) (ys : List X) (y : X)
    → (first ++ map m ys) ++ m y ∷ [] ≡ first ++ map m (ys ++ y ∷ [])
next_all {X} {Y} m first ys y =
    append_assoc first (map m ys) (m y ∷ []) ∙ ap (λ (zs : List Y). first ++ zs) (sym (map-append m ys (y ∷ [])))

pub flat_push : {X Y : Type 0} (f : X → List Y) (ys : List X) (y : X) → flat_map f (ys ++ y ∷ []) ≡ flat_map f ys ++ f y
flat_push {X} {Y} f ys y = flat_map-append f ys (y ∷ []) ∙ ap (λ (zs : List Y). flat_map f ys ++ zs) (append-nil (f y))

pub next_flat : {X Y : Type 0} (f : X → List Y) (first : List Y) (ys : List X) (y : X)
    → (first ++ flat_map f ys) ++ f y ≡ first ++ flat_map f (ys ++ y ∷ [])
next_flat {X} {Y} f first ys y =
    append_assoc first (flat_map f ys) (f y) ∙ ap (λ (zs : List Y). first ++ zs) (sym (flat_push f ys y))

pub flat_of_map : {X Y Z : Type 0} (g : X → Y) (f : Y → List Z) (xs : List X) → flat_map f (map g xs) ≡ flat_map (λ x. f (g x)) xs
flat_of_map g f [] = refl
flat_of_map {X} {Y} {Z} g f (x ∷ xs) = ap (λ (zs : List Z). f (g x) ++ zs) (flat_of_map g f xs)

pub map_of_map : {X Y Z : Type 0} (g : X → Y) (f : Y → Z) (xs : List X) → map f (map g xs) ≡ map (λ x. f (g x)) xs
map_of_map g f [] = refl
map_of_map {X} {Y} {Z} g f (x ∷ xs) = ap (λ (zs : List Z). f (g x) ∷ zs) (map_of_map g f xs)

pub same_at : {X : Type 0} (d : X) (n k : ℕ) → get_or (replicate n d) k d ≡ d
same_at d zero k = refl
same_at d (suc n) zero = refl
same_at d (suc n) (suc k) = same_at d n k

-- AMONG NUMBERS
pub or_assoc : (a b c : Bool) → (a || (b || c)) ≡ ((a || b) || c)
or_assoc true b c = refl
or_assoc false b c = refl

pub or_none : (a : Bool) → (a || false) ≡ a
or_none true = refl
or_none false = refl

pub among_append : (i : ℕ) (ms ns : List ℕ) → is_among i (ms ++ ns) ≡ (is_among i ms || is_among i ns)
among_append i [] ns = refl
among_append i (m ∷ ms) ns =
    ap (λ (b : Bool). (m == i) || b) (among_append i ms ns) ∙ or_assoc (m == i) (is_among i ms) (is_among i ns)

pub among_next : (i n : ℕ) (ns : List ℕ) → is_among i (ns ++ n ∷ []) ≡ (is_among i ns || (n == i))
among_next i n ns = among_append i ns (n ∷ []) ∙ ap (λ (b : Bool). is_among i ns || b) (or_none (n == i))
