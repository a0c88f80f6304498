-- What holds of each element of a list, and of each person who waits.
use Rattle.traffic.proofs.Common.{◌≡◌, ℕ, List, [], ◌∷◌, arith, ◌<◌, true, ◌++◌, ◌+◌, Bool, inl, inr, ◌≤◌, false, suc, zero, get_or, take, cases_Bool, flat_map}
use Rattle.traffic.proofs.Common.{map, filter, if◌then◌else◌, numbers, without_at, without, with_first, comes_first, boarding, left_behind, in_turn, may_board}
use Rattle.traffic.{proofs.Common.among, proofs.Common.VehicleState, specs.declared.world.Waiter.Waiter}
use Rattle.std.specs.List.{AllByRecursion as Each}

pub each_all : {X : Type 0} (P : X → Type 0) → ((x : X) → P x) → (xs : List X) → Each P xs
each_all P f [] = tt
each_all P f (x ∷ xs) = (f x, each_all P f xs)

pub each_append : {X : Type 0} (P : X → Type 0) (xs ys : List X) → Each P xs → Each P ys → Each P (xs ++ ys)
each_append P [] ys h g = g
each_append P (x ∷ xs) ys h g = (h.0, each_append P xs ys h.1 g)

pub each_if : {X : Type 0} (P : X → Type 0) (b : Bool) (xs ys : List X) → Each P xs → Each P ys → Each P (if b then xs else ys)
each_if P b xs ys h g = elim b as (λ c. Each P (if c then xs else ys)) [ true ↦ h | false ↦ g ]

pub each_weaker : {X : Type 0} (P Q : X → Type 0) → ((x : X) → P x → Q x) → (xs : List X) → Each P xs → Each Q xs
each_weaker P Q f [] h = tt
each_weaker P Q f (x ∷ xs) h = (f x h.0, each_weaker P Q f xs h.1)

pub each_both : {X : Type 0} (P Q R : X → Type 0) → ((x : X) → P x → Q x → R x) → (xs : List X) → Each P xs → Each Q xs → Each R xs
each_both P Q R f [] h g = tt
each_both P Q R f (x ∷ xs) h g = (f x h.0 g.0, each_both P Q R f xs h.1 g.1)

pub each_filter : {X : Type 0} (P Q : X → Type 0) (p : X → Bool) → ((x : X) → p x ≡ true → P x → Q x) → (xs : List X) → Each P xs → Each Q (filter p xs)
each_filter P Q p f [] h = tt
each_filter P Q p f (x ∷ xs) h = elim (cases_Bool (p x)) [ inl e ↦ simp e (f x e h.0, each_filter P Q p f xs h.1) | inr e ↦ simp e (each_filter P Q p f xs h.1) ]

pub each_kept : {X : Type 0} (P : X → Type 0) (p : X → Bool) (xs : List X) → Each P xs → Each P (filter p xs)
each_kept P p xs h = each_filter P P p (λ x e g. g) xs h

pub each_map : {X Y : Type 0} (P : X → Type 0) (Q : Y → Type 0) (f : X → Y) → ((x : X) → P x → Q (f x)) → (xs : List X) → Each P xs → Each Q (map f xs)
each_map P Q f g [] h = tt
each_map P Q f g (x ∷ xs) h = (g x h.0, each_map P Q f g xs h.1)

pub each_flat : {X Y : Type 0} (P : X → Type 0) (Q : Y → Type 0) (f : X → List Y) → ((x : X) → P x → Each Q (f x)) → (xs : List X) → Each P xs → Each Q (flat_map f xs)
each_flat P Q f g [] h = tt
each_flat P Q f g (x ∷ xs) h = each_append Q (f x) (flat_map f xs) (g x h.0) (each_flat P Q f g xs h.1)

-- of many lists, or of those that pass
pub each_flat_where : {X Y : Type 0} (Q : Y → Type 0) (f : X → List Y) (p : X → Bool) → ((x : X) → p x ≡ true → Each Q (f x)) → (xs : List X) → Each Q (flat_map f (filter p xs))
each_flat_where Q f p h xs = each_flat (λ x. p x ≡ true) Q f h (filter p xs) (each_filter (λ x. Unit {0}) (λ x. p x ≡ true) p (λ x e u. e) xs (each_all (λ x. Unit {0}) (λ x. tt) xs))

pub each_flat_all : {X Y : Type 0} (Q : Y → Type 0) (f : X → List Y) → ((x : X) → Each Q (f x)) → (xs : List X) → Each Q (flat_map f xs)
each_flat_all Q f h xs = each_flat (λ x. Unit {0}) Q f (λ x u. h x) xs (each_all (λ x. Unit {0}) (λ x. tt) xs)

pub each_take : {X : Type 0} (P : X → Type 0) (k : ℕ) (xs : List X) → Each P xs → Each P (take k xs)
each_take P zero xs h = tt
each_take P (suc k) [] h = tt
each_take P (suc k) (x ∷ xs) h = (h.0, each_take P k xs h.1)

pub each_without : {X : Type 0} (P : X → Type 0) (p : X → Bool) (k : ℕ) (xs : List X) → Each P xs → Each P (without p k xs)
each_without P p k [] h = tt
each_without P p zero (x ∷ xs) h = elim (cases_Bool (p x)) [ inl e ↦ simp e h.1 | inr e ↦ simp e (h.0, each_without P p zero xs h.1) ]
each_without P p (suc k) (x ∷ xs) h = elim (cases_Bool (p x)) [ inl e ↦ simp e (h.0, each_without P p k xs h.1) | inr e ↦ simp e (h.0, each_without P p (suc k) xs h.1) ]

pub each_without_at : {X : Type 0} (P : X → Type 0) (k : ℕ) (xs : List X) → Each P xs → Each P (without_at k xs)
each_without_at P k [] h = tt
each_without_at P zero (x ∷ xs) h = h.1
each_without_at P (suc k) (x ∷ xs) h = (h.0, each_without_at P k xs h.1)

pub each_with_first : {X : Type 0} (P : X → Type 0) (p : X → Bool) (f : X → X) → ((x : X) → P x → P (f x)) → (xs : List X) → Each P xs → Each P (with_first p f xs)
each_with_first P p f g [] h = tt
each_with_first P p f g (x ∷ xs) h = elim (cases_Bool (p x)) [ inl e ↦ simp e (g x h.0, h.1) | inr e ↦ simp e (h.0, each_with_first P p f g xs h.1) ]

-- an element, or the one that stands for none
pub each_get_or : {X : Type 0} (P : X → Type 0) (xs : List X) (k : ℕ) (d : X) → P d → Each P xs → P (get_or xs k d)
each_get_or P [] k d g h = g
each_get_or P (x ∷ xs) zero d g h = h.0
each_get_or P (x ∷ xs) (suc k) d g h = each_get_or P xs k d g h.1

pub each_number : (m k n : ℕ) → k + n ≤ m → Each (λ i. i < m) (numbers k n)
each_number m k zero h = tt
each_number m k (suc n) h = (omega arith, each_number m (k + 1) n (omega arith))

-- WHO BOARDS, AND WHO IS LEFT
each_among : (P : Waiter → Type 0) (w : Waiter) (ws : List Waiter) → P w → Each P ws → Each P (among w ws)
unfolding among
each_among P w [] g h = (g, tt)
each_among P w (x ∷ xs) g h = elim (cases_Bool (comes_first w x)) [ inl e ↦ simp e (g, h) | inr e ↦ simp e (h.0, each_among P w xs g h.1) ]

each_turn : (P : Waiter → Type 0) (ws : List Waiter) → Each P ws → Each P (in_turn ws)
unfolding in_turn
each_turn P [] h = tt
each_turn P (w ∷ ws) h = each_among P w (in_turn ws) h.0 (each_turn P ws h.1)

-- whoever boards waits, and may board
pub each_boarding : (P Q : Waiter → Type 0) (v : VehicleState) → ((w : Waiter) → may_board v w ≡ true → P w → Q w) → (ws : List Waiter) → Each P ws → Each Q (boarding v ws)
unfolding boarding
each_boarding P Q v f ws h = each_take Q _ (in_turn (filter (may_board v) ws)) (each_turn Q (filter (may_board v) ws) (each_filter P Q (may_board v) f ws h))

pub each_left : (P : Waiter → Type 0) (v : VehicleState) (ws : List Waiter) → Each P ws → Each P (left_behind v ws)
unfolding left_behind
each_left P v ws h = each_kept P _ ws h
