-- The scores of the persons, one more, and their sum.
use Rattle.std.proofs.Common.{◌≡◌, ℕ, ◌+◌, ◌*◌, ◌<◌, ◌≤◌, List, [], ◌∷◌, ◌++◌, length, map, get_or, take, drop, ℤ, pos, ◌+ℤ◌, w64, to_z, of_z, sym, ap, ◌∙◌}
use Rattle.std.proofs.{Common.subst, Common.append_assoc, Common.append-nil, Common.add-one, Common.drop_of_length-le, Common.arith, Math.Seq.drop-cons}
use Rattle.std.proofs.lemmas.{Int.ints, List.length-map, List.get_or-map, List.take_more, List.FromFn.length-enumerate_from}
use Rattle.std.specs.List.{enumerate_from}
use Rattle.events.specs.{Persons.own_events, declared.event.Event.Event}
use Rattle.scoring.specs.{Ranges.IsWithin, Score.score, Score.total, Tables.ScoringRows, Taken.first_kind_of}
use Rattle.scoring.specs.declared.{TheConstants.MAX_SCORE, scorer.Scorer.Scorer}
use Rattle.day_scores.specs.Scores.{score_of, scores_of}

-- one more score: those so far, and those from this place on, are all
pub scores-more : (R : ScoringRows) (es : List Event) (ss : List Scorer) (i : ℕ) (d : Scorer) (z : ℤ) (zs all : List ℤ) → i < length ss
    → z ≡ score R (first_kind_of (get_or ss i d)) (own_events i es)
    → zs ++ map (score_of R es) (enumerate_from i (drop i (map first_kind_of ss))) ≡ all
    → (zs ++ z ∷ []) ++ map (score_of R es) (enumerate_from (i + 1) (drop (i + 1) (map first_kind_of ss))) ≡ all
scores-more R es ss i d z zs all here is so_far =
    let kinds = map first_kind_of ss in
    let f = score_of R es in
    let few : i < length kinds = subst (λ (n : ℕ). i < n) (sym (length-map ss first_kind_of)) here in
    let kind : get_or kinds i 0 ≡ first_kind_of (get_or ss i d) = get_or-map first_kind_of ss i d 0 here in
    let z_is : z ≡ f (i, get_or kinds i 0) = is ∙ ap (λ (k : ℕ). score R k (own_events i es)) (sym kind) in
    let rest : drop i kinds ≡ get_or kinds i 0 ∷ drop (i + 1) kinds = drop-cons kinds i 0 few ∙ ap (λ (m : ℕ). get_or kinds i 0 ∷ drop m kinds) (sym (add-one i)) in
    let later = map f (enumerate_from (i + 1) (drop (i + 1) kinds)) in
    append_assoc zs (z ∷ []) later ∙ ap (λ (y : ℤ). zs ++ y ∷ later) z_is ∙ ap (λ (ks : List ℕ). zs ++ map f (enumerate_from i ks)) (sym rest) ∙ so_far

-- behind the last one nothing is left
pub scores-all : (R : ScoringRows) (es : List Event) (ss : List Scorer) (i : ℕ) (zs all : List ℤ) → length ss ≤ i
    → zs ++ map (score_of R es) (enumerate_from i (drop i (map first_kind_of ss))) ≡ all → zs ≡ all
scores-all R es ss i zs all done so_far =
    let kinds = map first_kind_of ss in
    let none : drop i kinds ≡ [] = drop_of_length-le kinds (subst (λ (n : ℕ). n ≤ i) (sym (length-map ss first_kind_of)) done) in
    sym (append-nil zs) ∙ ap (λ (ks : List ℕ). zs ++ map (score_of R es) (enumerate_from i ks)) (sym none) ∙ so_far

-- as many scores as persons
pub scores-count : (R : ScoringRows) (kinds : List ℕ) (es : List Event) → length (scores_of R kinds es) ≡ length kinds
unfolding scores_of
scores-count R kinds es = length-map (enumerate_from 0 kinds) (score_of R es) ∙ length-enumerate_from 0 kinds

-- ---- sums

total-push : (zs : List ℤ) (z : ℤ) → total (zs ++ z ∷ []) ≡ total zs +ℤ z
unfolding total
total-push [] z = omega (arith, ints)
total-push (y ∷ zs) z = let e = total-push zs z in omega (arith, ints)

pub sum-more : (zs : List ℤ) (i : ℕ) (d sum : ℤ) → i < length zs → sum ≡ total (take i zs) → sum +ℤ get_or zs i d ≡ total (take (i + 1) zs)
sum-more zs i d sum here is = ap (λ (s : ℤ). s +ℤ get_or zs i d) is ∙ sym (total-push (take i zs) (get_or zs i d)) ∙ ap total (sym (take_more zs i d here))

-- the sum of i scores is at most i times as large as a score
pub sum-within : (i : ℕ) (sum z : ℤ) → IsWithin (pos (100000000000000 * i)) sum → IsWithin MAX_SCORE z → IsWithin (pos (100000000000000 * (i + 1))) (sum +ℤ z)
sum-within i sum z h g = let h0 = h.0 in let h1 = h.1 in let g0 = g.0 in let g1 = g.1 in (omega (arith, ints), omega (arith, ints))

-- what the code's sum is
pub sum-code : (bits : ℕ) (sum z : ℤ) (i : ℕ) → to_z w64 bits ≡ sum → i ≤ 65536 → IsWithin (pos (100000000000000 * i)) sum → IsWithin MAX_SCORE z
    → to_z w64 (of_z w64 (to_z w64 bits +ℤ to_z w64 (of_z w64 z))) ≡ sum +ℤ z
sum-code bits sum z i e few h g = rw e (let h0 = h.0 in let h1 = h.1 in let g0 = g.0 in let g1 = g.1 in omega (arith, ints))

-- a score comes back from its bits
pub score-code : (z : ℤ) → IsWithin MAX_SCORE z → to_z w64 (of_z w64 z) ≡ z
score-code z h = let h0 = h.0 in let h1 = h.1 in omega (arith, ints)
