-- Counts of what was told against a sum over all vehicles: what a move tells against what it takes and brings.
use Rattle.traffic.proofs.Common.{◌≡◌, ℕ, List, ap, refl, [], ◌∷◌, ◌++◌, ◌+◌, arith, true, false, Bool, suc, zero, if◌then◌else◌, cases_Bool, inl, inr, map, filter, count_by, sum_by}
use Rattle.traffic.proofs.Common.{sum_by-cons, sum_by-append, sum_by_push, slice_get, Some, rows_after, at_second, without, with_first, on, at, World, Setup}
use Rattle.traffic.specs.declared.moves.Move.{Move, TheVariants.Transfer, TheVariants.Remove, TheVariants.Enter, TheVariants.SetFrontSince}
use Rattle.traffic.specs.declared.{moves.Occurrence.Occurrence, stage.Stage.TheVariants.Buffer}
use Rattle.traffic.specs.declared.world.Row.{Row}
use Rattle.std.specs.List.{AllByRecursion as Each}
use Rattle.law_journeys.proofs.History.{KeepsHistory, spoken, at_time}
use Rattle.law_journeys.specs.News.{News}

-- SUMS
-- a number of each row, and of one in a buffer whatever its second
pub record IsTimeless (h : Row → ℕ) : Type 0 where
  pub same : (t l : ℕ) (r : Row) → on l Buffer r ≡ true → h (at_second t r) ≡ h r

pub sum_without : (h : Row → ℕ) (p : Row → Bool) (k : ℕ) (r : Row) (xs : List Row) → slice_get (filter p xs) k ≡ Some r → sum_by h (without p k xs) + h r ≡ sum_by h xs
sum_without h p k r [] e = absurd (cc)
sum_without h p zero r (x ∷ xs) e = grind (arith, ap h, sum_by-cons h x xs, sum_by-cons h x (without p zero xs), sum_without h p zero r xs)
sum_without h p (suc k) r (x ∷ xs) e = grind (arith, sum_by-cons h x xs, sum_by-cons h x (without p k xs), sum_by-cons h x (without p (suc k) xs), sum_without h p k r xs, sum_without h p (suc k) r xs)

sum_marked : (h : Row → ℕ) → IsTimeless h → (t l : ℕ) (xs : List Row) → sum_by h (with_first (on l Buffer) (at_second t) xs) ≡ sum_by h xs
sum_marked h f t l [] = refl
sum_marked h f t l (x ∷ xs) =
    elim (cases_Bool (on l Buffer x)) [
      | inl e ↦ simp e (omega (arith, f.same t l x e, sum_by-cons h x xs, sum_by-cons h (at_second t x) xs))
      | inr e ↦ simp e (omega (arith, sum_by-cons h x xs, sum_by-cons h x (with_first (on l Buffer) (at_second t) xs), sum_marked h f t l xs))
    ]

-- what a move takes stands where it says
abbrev pub IsStanding : Move → World → Type 0
IsStanding (Transfer l s k was now) W = slice_get (at l s W) k ≡ Some was
IsStanding (Remove l s k was) W = slice_get (at l s W) k ≡ Some was
IsStanding _ W = Unit {0}

abbrev pub takes : (Row → ℕ) → Move → ℕ
takes h (Transfer l s k was now) = h was
takes h (Remove l s k was) = h was
takes h _ = 0

abbrev pub brings : (Row → ℕ) → Move → ℕ
brings h (Transfer l s k was now) = h now
brings h (Enter now) = h now
brings h _ = 0

pub summed : (h : Row → ℕ) → IsTimeless h → (m : Move) (W : World) → IsStanding m W → sum_by h (rows_after m W.rows) + takes h m ≡ sum_by h W.rows + brings h m
summed h f (Transfer l s k was now) W e = omega (arith, sum_without h (on l s) k was W.rows e, sum_by_push h (without (on l s) k W.rows) now)
summed h f (Remove l s k was) W e = let a = sum_without h (on l s) k was W.rows e in omega arith
summed h f (Enter now) W e = let a = sum_by_push h W.rows now in omega arith
summed h f (SetFrontSince l t) W e = let a = sum_marked h f t l W.rows in omega arith
summed h f _ W e = refl

-- COUNTS
abbrev pub one : (News → Bool) → News → ℕ
one p e = if p e then 1 else 0

-- so often what passes the first test was told, as rows weigh and what passes the second was told
abbrev pub IsBalanced : (News → Bool) → (News → Bool) → (Row → ℕ) → List News → World → Type 0
IsBalanced p q h hs W = count_by p hs ≡ sum_by h W.rows + count_by q hs

pub balanced : (p q : News → Bool) (h : Row → ℕ) → IsTimeless h → (S : Setup) (t : ℕ) (m : Move) (W : World) → IsStanding m W → count_by p (spoken t m) + takes h m ≡ brings h m + count_by q (spoken t m) → KeepsHistory (IsBalanced p q h) S t W m
balanced p q h f S t m W e d hs j = omega (arith, summed h f m W e, sum_by-append (one p) hs (spoken t m), sum_by-append (one q) hs (spoken t m))

-- none of these passes
pub none_counted : (p : News → Bool) (t : ℕ) (xs : List Occurrence) → Each (λ x. p (at_time t x) ≡ false) xs → count_by p (map (at_time t) xs) ≡ 0
none_counted p t [] h = refl
none_counted p t (x ∷ xs) h = grind (arith, h.0, sum_by-cons (one p) (at_time t x) (map (at_time t) xs), none_counted p t xs h.1)

pub counted_append : (p : News → Bool) (t : ℕ) (xs ys : List Occurrence) → count_by p (map (at_time t) (xs ++ ys)) ≡ count_by p (map (at_time t) xs) + count_by p (map (at_time t) ys)
counted_append p t [] ys = omega arith
counted_append p t (x ∷ xs) ys = omega (arith, sum_by-cons (one p) (at_time t x) (map (at_time t) (xs ++ ys)), sum_by-cons (one p) (at_time t x) (map (at_time t) xs), counted_append p t xs ys)

pub counted_cons : (p : News → Bool) (t : ℕ) (x : Occurrence) (xs : List Occurrence) → count_by p (map (at_time t) (x ∷ xs)) ≡ one p (at_time t x) + count_by p (map (at_time t) xs)
counted_cons p t x xs = sum_by-cons (one p) (at_time t x) (map (at_time t) xs)
