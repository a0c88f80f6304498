-- Loops over the numbers of links and persons.
use Rattle.traffic.proofs.Common.{◌≡◌, ℕ, List, ◌∙◌, ap, sym, [], ◌∷◌, arith, ◌<◌, true, ◌++◌, ◌+◌, Bool, ◌≤◌, false, suc, ◌-◌, append-nil}
use Rattle.traffic.proofs.Common.{append_assoc, flat_map, map, filter, numbers, below}

-- the numbers from k to n begin with k
pub numbers-first : (k n : ℕ) → k < n → numbers k (n - k) ≡ k ∷ numbers (k + 1) (n - (k + 1))
numbers-first k n h = let e : n - k ≡ suc (n - (k + 1)) = omega arith in ap (numbers k) e

-- one more that passes, and one that does not
pub went_in : {X : Type 0} (p : ℕ → Bool) (f : ℕ → X) (k n : ℕ) (out : List X) (x : X) (all : List X) → k < n → p k ≡ true → x ≡ f k →
    out ++ map f (filter p (numbers k (n - k))) ≡ all → (out ++ x ∷ []) ++ map f (filter p (numbers (k + 1) (n - (k + 1)))) ≡ all
went_in p f k n out x all h t e g =
    rw (append_assoc, e) (rw (numbers-first k n h, t) at g)

pub went_by : {X : Type 0} (p : ℕ → Bool) (f : ℕ → X) (k n : ℕ) (out all : List X) → k < n → p k ≡ false →
    out ++ map f (filter p (numbers k (n - k))) ≡ all → out ++ map f (filter p (numbers (k + 1) (n - (k + 1)))) ≡ all
went_by p f k n out all h t g =
    rw (numbers-first k n h, t) at g

-- the same where each gives a list
pub went_on : {X : Type 0} (f : ℕ → List X) (k n : ℕ) (out more all : List X) → k < n → more ≡ f k →
    out ++ flat_map f (numbers k (n - k)) ≡ all → (out ++ more) ++ flat_map f (numbers (k + 1) (n - (k + 1))) ≡ all
went_on f k n out more all h e g =
    rw (append_assoc, e) (rw (numbers-first k n h) at g)

-- at the end all are seen
pub went_all : {X : Type 0} (p : ℕ → Bool) (f : ℕ → X) (k n : ℕ) (out all : List X) → n ≤ k → out ++ map f (filter p (numbers k (n - k))) ≡ all → out ≡ all
went_all p f k n out all h g = let e : n - k ≡ 0 = omega arith in sym (append-nil out) ∙ (rw e at g)

pub went_through : {X : Type 0} (f : ℕ → List X) (k n : ℕ) (out all : List X) → n ≤ k → out ++ flat_map f (numbers k (n - k)) ≡ all → out ≡ all
went_through f k n out all h g = let e : n - k ≡ 0 = omega arith in sym (append-nil out) ∙ (rw e at g)

-- of the numbers below n those below k were seen: what passes of them gave a list, and the list is right
pub record AreSeen {X : Type 0} (p : ℕ → Bool) (f : ℕ → X) (IsRight : List X → Type 0) (k n : ℕ) (out : List X) : Type 0 where
  pub seen : out ++ map f (filter p (numbers k (n - k))) ≡ map f (filter p (below n))
  pub right : IsRight out

module _ {X : Type 0} (p : ℕ → Bool) (f : ℕ → X) (IsRight : List X → Type 0) where
  pub seen_none : (n : ℕ) → IsRight [] → AreSeen p f IsRight 0 n []
  seen_none n right = record { seen = ap (λ m. map f (filter p (numbers 0 m))) (omega arith); right = right }

  pub seen_more : (k n : ℕ) (out : List X) (x : X) → AreSeen p f IsRight k n out → k < n → p k ≡ true → x ≡ f k → IsRight (out ++ x ∷ [])
      → AreSeen p f IsRight (k + 1) n (out ++ x ∷ [])
  seen_more k n out x so_far less passes is right = record { seen = went_in p f k n out x _ less passes is so_far.seen; right = right }

  pub seen_past : (k n : ℕ) (out : List X) → AreSeen p f IsRight k n out → k < n → p k ≡ false → AreSeen p f IsRight (k + 1) n out
  seen_past k n out so_far less passes = record { seen = went_by p f k n out _ less passes so_far.seen; right = so_far.right }
