-- What holds of each move in the world in which it is made.
use Rattle.traffic.proofs.Common.{◌≡◌, ℕ, List, refl, [], ◌∷◌, true, ◌++◌, Bool, false, if◌then◌else◌, Move, run, done, World, Setup}
use Rattle.std.specs.List.{AllByRecursion as Each}

-- each move is such in the world that those before it left
abbrev pub Along : (World → Move → Type 0) → Setup → ℕ → List Move → World → Type 0
Along Q S t [] W = Unit {0}
Along Q S t (m ∷ ms) W = Q W m × Along Q S t ms (done S t m W)

pub along_append : (Q : World → Move → Type 0) (S : Setup) (t : ℕ) (xs ys : List Move) (W : World) → Along Q S t xs W → Along Q S t ys (run S t xs W) → Along Q S t (xs ++ ys) W
along_append Q S t [] ys W h g = g
along_append Q S t (m ∷ xs) ys W h g = (h.0, along_append Q S t xs ys (done S t m W) h.1 g)

pub along_if : (Q : World → Move → Type 0) (S : Setup) (t : ℕ) (b : Bool) (xs ys : List Move) (W : World) → (b ≡ true → Along Q S t xs W) → (b ≡ false → Along Q S t ys W) → Along Q S t (if b then xs else ys) W
along_if Q S t true xs ys W h g = h refl
along_if Q S t false xs ys W h g = g refl

-- a move among them is such in the world that those before it left
pub along_at : (Q : World → Move → Type 0) (S : Setup) (t : ℕ) (xs ys : List Move) (m : Move) (W : World) → Along Q S t (xs ++ m ∷ ys) W → Q (run S t xs W) m
along_at Q S t [] ys m W h = h.0
along_at Q S t (x ∷ xs) ys m W h = along_at Q S t xs ys m (done S t x W) h.1

pub along_weaker : (Q R : World → Move → Type 0) → ((W : World) (m : Move) → Q W m → R W m) → (S : Setup) (t : ℕ) (ms : List Move) (W : World) → Along Q S t ms W → Along R S t ms W
along_weaker Q R f S t [] W h = tt
along_weaker Q R f S t (m ∷ ms) W h = (f W m h.0, along_weaker Q R f S t ms (done S t m W) h.1)

-- what is asked of moves alone
pub along_each : (P : Move → Type 0) (S : Setup) (t : ℕ) (ms : List Move) (W : World) → Along (λ V m. P m) S t ms W → Each P ms
along_each P S t [] W h = tt
along_each P S t (m ∷ ms) W h = (h.0, along_each P S t ms (done S t m W) h.1)

pub each_along : (P : Move → Type 0) (S : Setup) (t : ℕ) (ms : List Move) (W : World) → Each P ms → Along (λ V m. P m) S t ms W
each_along P S t [] W h = tt
each_along P S t (m ∷ ms) W h = (h.0, each_along P S t ms (done S t m W) h.1)

-- A move that keeps I, and is such where I holds. Where all moves are so, each of them is such, and I is kept.
abbrev pub Keeps : (World → Type 0) → (World → Move → Type 0) → Setup → ℕ → World → Move → Type 0
Keeps I Q S t W m = I W → Q W m × I (done S t m W)

pub along_kept : (I : World → Type 0) (Q : World → Move → Type 0) (S : Setup) (t : ℕ) (ms : List Move) (W : World) → Along (Keeps I Q S t) S t ms W → I W → Along Q S t ms W × I (run S t ms W)
along_kept I Q S t [] W h i = (tt, i)
along_kept I Q S t (m ∷ ms) W h i = let k = h.0 i in let y = along_kept I Q S t ms (done S t m W) h.1 k.1 in ((k.0, y.0), y.1)

-- and I holds in the world of each, where all keep it
pub held_along : (I : World → Type 0) (S : Setup) (t : ℕ) (ms : List Move) (W : World) → Along (λ V m. I V → I (done S t m V)) S t ms W → I W → Along (λ V m. I V) S t ms W × I (run S t ms W)
held_along I S t ms W h i = along_kept I (λ V m. I V) S t ms W (along_weaker (λ V m. I V → I (done S t m V)) (Keeps I (λ V m. I V) S t) (λ V m f k. (k, f k)) S t ms W h) i

pub kept_along : (I : World → Type 0) (S : Setup) (t : ℕ) (ms : List Move) (W : World) → Along (λ V m. I V → I (done S t m V)) S t ms W → I W → I (run S t ms W)
kept_along I S t ms W h i = (held_along I S t ms W h i).1

pub along_both : (P Q : World → Move → Type 0) (S : Setup) (t : ℕ) (ms : List Move) (W : World) → Along P S t ms W → Along Q S t ms W → Along (λ V m. P V m × Q V m) S t ms W
along_both P Q S t [] W h g = tt
along_both P Q S t (m ∷ ms) W h g = ((h.0, g.0), along_both P Q S t ms (done S t m W) h.1 g.1)

pub along_given : (P Q : World → Move → Type 0) (S : Setup) (t : ℕ) (ms : List Move) (W : World) → Along (λ V m. P V m → Q V m) S t ms W → Along P S t ms W → Along Q S t ms W
along_given P Q S t [] W f h = tt
along_given P Q S t (m ∷ ms) W f h = (f.0 h.0, along_given P Q S t ms (done S t m W) f.1 h.1)
