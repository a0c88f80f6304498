-- How many labels are earlier than a second.
use Rattle.std.proofs.Common.{◌≡◌, ℕ, zero, suc, ◌+◌, ◌<◌, ◌≤◌, cond, [], ◌∷◌, length, Option, None, Some, refl, sym}
use Rattle.std.proofs.{Common.subst, Common.arith, lemmas.Bool.Decides.nat_tests, lemmas.List.Sums.sum_by-cons, lemmas.List.Sums.count_by-le-length}
use Rattle.std.specs.Prelude.{nat_lt}
use Rattle.walks.specs.Rounds.{Labels, label_at, IsBy, is_before, rank}

one : Option ℕ → ℕ → ℕ
one label second = cond (is_before second label) 1 0

rank-cons : (label : Option ℕ) (labels : Labels) (second : ℕ) → rank (label ∷ labels) second ≡ one label second + rank labels second
unfolding rank one
rank-cons label labels second = sum_by-cons (λ (l : Option ℕ). cond (is_before second l) 1 0) label labels

pub rank-le-length : (labels : Labels) (second : ℕ) → rank labels second ≤ length labels
unfolding rank
rank-le-length labels second = count_by-le-length (is_before second) labels

-- what one label counts for does not fall where the second or the label becomes better
one_by : (label better : Option ℕ) (earlier second : ℕ) → earlier ≤ second → ((a : ℕ) → label ≡ Some a → IsBy better a) →
    one label earlier ≤ one better second
unfolding one
one_by None better earlier second before by = grind arith
one_by (Some a) better earlier second before by = at_some better (by a refl)
  where
    at_some : (o : Option ℕ) → IsBy o a → cond (nat_lt a earlier) 1 0 ≤ cond (is_before second o) 1 0
    at_some None h = absurd h
    at_some (Some b) h = grind (arith, nat_tests)

rank_none : (better : Labels) (earlier second : ℕ) → rank [] earlier ≤ rank better second
unfolding rank
rank_none better earlier second = omega arith

-- with labels that are no later, and by a second that is no earlier, there are as many at least
pub rank_by : (labels better : Labels) (earlier second : ℕ) → earlier ≤ second → length labels ≡ length better
    → ((node a : ℕ) → label_at labels node ≡ Some a → IsBy (label_at better node) a) → rank labels earlier ≤ rank better second
rank_by [] better earlier second before same by = rank_none better earlier second
rank_by (label ∷ labels) [] earlier second before same by = absurd (omega arith)
rank_by (label ∷ labels) (other ∷ better) earlier second before same by =
    let first = one_by label other earlier second before (by 0) in
    let rest = rank_by labels better earlier second before (omega arith) (λ node. by (suc node)) in
    let counted = rank-cons label labels earlier in
    let counted_better = rank-cons other better second in
    omega arith

at_first : (label : Option ℕ) (a second : ℕ) → label ≡ Some a → a < second → (one label a ≡ 0) × (one label second ≡ 1)
unfolding one
at_first None a second e h = absurd (cc e)
at_first (Some b) a second e h =
    let same : b ≡ a = cc e in
    (grind (arith, nat_tests), grind (arith, nat_tests))

itself : (labels : Labels) (node a : ℕ) → label_at labels node ≡ Some a → IsBy (label_at labels node) a
itself labels node a e = let P : Option ℕ → Type 0 = λ o. IsBy o a in let here : IsBy (Some a) a = omega arith in subst P (sym e) here

-- a label is counted by a later second, and not by its own
pub rank_less : (labels : Labels) (node a second : ℕ) → label_at labels node ≡ Some a → a < second → rank labels a < rank labels second
rank_less [] node a second e h = absurd (cc e)
rank_less (label ∷ labels) zero a second e h =
    let first = at_first label a second e h in
    let rest = rank_by labels labels a second (omega arith) refl (itself labels) in
    let counted = rank-cons label labels a in
    let counted_later = rank-cons label labels second in
    let no' = first.0 in
    let yes' = first.1 in
    omega arith
rank_less (label ∷ labels) (suc node) a second e h =
    let first = one_by label label a second (omega arith) (λ b is. itself (label ∷ labels) 0 b is) in
    let rest = rank_less labels node a second e h in
    let counted = rank-cons label labels a in
    let counted_later = rank-cons label labels second in
    omega arith
