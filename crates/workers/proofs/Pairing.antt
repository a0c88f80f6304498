-- The pairs of neighbours, one after another.
use Rattle.std.proofs.Common.{◌≡◌, ℕ, ◌+◌, ◌<◌, ◌⊎◌, ⊎_elim, inl, inr, true, false, true≢false, List, [], ◌∷◌, ◌++◌, length, length-append, get_or, sym, ap}
use Rattle.std.proofs.{Common.◌∙◌, Common.refl, Common.subst, Common.arith, lemmas.List.get_or_push, lemmas.List.get_or_append_left}
use mathlib.Core.Logic.{dite}
use native.Mathlib.Decide.{ℕ_discrete, dec_lt}
use Rattle.cells.{proofs.Rings.by_bool, specs.Pairs.Pair, specs.Pairs.pair_at, specs.Pairs.no_pair}
use Rattle.step_core.specs.{Nets.Net, Nets.IsNet, Nets.AreBorders, Nets.border_at, declared.part.Border.Border}
use Rattle.workers.specs.Pairs.{AreTables, IsPairOf, IsBefore, ArePairsTo, ArePairsOf}

module _ (N : Net) where
  -- lists that are those of a run, each of which has the neighbours of its partition
  pub are_tables : (borders : ℕ → List Border) (tables : List (List Border))
      → ((p : ℕ) → p < N.parts → AreBorders N p (borders p))
      → length tables ≡ N.parts → ((p : ℕ) → p < N.parts → get_or tables p [] ≡ borders p) → AreTables N tables
  are_tables borders tables are many same = record {
    many = many;
    each = λ p lt. subst (λ (rows : List Border). AreBorders N p rows) (sym (same p lt)) (are p lt);
  }

  pub none_yet : ArePairsTo N 0 1 []
  none_yet = record {
    each = λ j lt. absurd (omega arith);
    before = λ j lt. absurd (omega arith);
    all = λ a b lt near is. absurd (⊎_elim (λ h. omega arith) (λ h. let e = h.0 in let l = h.1 in omega arith) is);
    distinct = λ i j lt lj e f. absurd (omega arith);
  }

  -- who stands in the list of neighbours of q is near to it, with that lag
  pub near_by : (p q lag : ℕ) (rows : List Border) → AreBorders N q rows
      → (k : ℕ) × (k < length rows) × ((border_at rows k).neighbour ≡ p) × ((border_at rows k).lag ≡ lag)
      → (N.near p q ≡ true) × (lag ≡ N.lag p q)
  near_by p q lag rows are w = (
    ap (λ z. N.near z q) (sym w.2) ∙ are.each w.0 w.1,
    sym w.3 ∙ (are.lags w.0 w.1 ∙ ap (λ z. N.lag z q) w.2),
  )

  -- and who does not is not
  pub not_near : (p q : ℕ) (rows : List Border) → AreBorders N q rows
      → ((k : ℕ) → k < length rows → (border_at rows k).neighbour ≡ p → ⊥) → N.near p q ≡ false
  not_near p q rows are none = by_bool (N.near p q) (λ h. let w = are.all p h in absurd (none w.0 w.1 w.2)) (λ h. h)

  later : (p q a b : ℕ) → IsBefore p q a b → IsBefore p (q + 1) a b
  later p q a b is = ⊎_elim (λ h. inl h) (λ h. inr (h.0, (let l = h.1 in omega arith))) is

  -- those before p and q + 1 are those before p and q, but for p and q themselves
  earlier : (p q a b : ℕ) → IsBefore p (q + 1) a b → IsBefore p q a b ⊎ ((a ≡ p) × (b ≡ q))
  earlier p q a b is = ⊎_elim (λ h. inl (inl h))
      (λ h. dite (ℕ_discrete b q) (λ e. inr (h.0, e)) (λ ne. inl (inr (h.0, (let l = h.1 in omega arith))))) is

  pub skip : (p q : ℕ) (xs : List Pair) → ArePairsTo N p q xs → N.near p q ≡ false → ArePairsTo N p (q + 1) xs
  skip p q xs are apart = record {
    each = are.each;
    before = λ j lt. later p q (pair_at xs j).0 (pair_at xs j).1 (are.before j lt);
    all = λ a b lt near is. ⊎_elim (λ h. are.all a b lt near h)
        (λ h. absurd (true≢false (sym near ∙ (ap (λ z. N.near z b) h.0 ∙ (ap (λ z. N.near p z) h.1 ∙ apart)))))
        (earlier p q a b is);
    distinct = are.distinct;
  }

  pub push : (p q there back : ℕ) (xs : List Pair) → ArePairsTo N p q xs → p < q → N.near p q ≡ true → there ≡ N.lag p q
      → back ≡ N.lag q p → ArePairsTo N p (q + 1) (xs ++ (p, q, there, back) ∷ [])
  push p q there back xs are lt near e f =
      let x : Pair = (p, q, there, back) in
      let more : List Pair = xs ++ x ∷ [] in
      let long = length-append xs (x ∷ []) in
      let last : pair_at more (length xs) ≡ x = get_or_push xs x no_pair (length xs) refl in
      let old : (j : ℕ) → j < length xs → pair_at more j ≡ pair_at xs j = λ j lj. get_or_append_left xs (x ∷ []) no_pair j lj in
      let here : IsPairOf N x = record { ascend = lt; near = near; there = e; back = f } in
      record {
        each = λ j lj. dite (ℕ_discrete j (length xs))
            (λ e. subst (λ (z : Pair). IsPairOf N z) (sym (ap (λ z. pair_at more z) e ∙ last)) here)
            (λ ne. subst (λ (z : Pair). IsPairOf N z) (sym (old j (omega arith))) (are.each j (omega arith)));
        before = λ j lj. dite (ℕ_discrete j (length xs))
            (λ e. subst (λ (z : Pair). IsBefore p (q + 1) z.0 z.1) (sym (ap (λ z. pair_at more z) e ∙ last))
            (inr (refl, (omega arith))))
            (λ ne. subst (λ (z : Pair). IsBefore p (q + 1) z.0 z.1) (sym (old j (omega arith)))
            (later p q (pair_at xs j).0 (pair_at xs j).1 (are.before j (omega arith))));
        all = λ a b lab nab is. ⊎_elim
            (λ h. let w = are.all a b lab nab h in let lw = w.1 in
            (w.0, (omega arith), ap (λ (z : Pair). z.0) (old w.0 w.1) ∙ w.2, ap (λ (z : Pair). z.1) (old w.0 w.1) ∙ w.3))
            (λ h. (length xs, (omega arith), ap (λ (z : Pair). z.0) last ∙ sym h.0, ap (λ (z : Pair). z.1) last ∙ sym h.1))
            (earlier p q a b is);
        distinct = λ i j lij lj e0 e1. dite (ℕ_discrete j (length xs))
            (λ e. let o = old i (omega arith) in
            let l = ap (λ z. pair_at more z) e ∙ last in
            let p0 = ap (λ (z : Pair). z.0) o in let p1 = ap (λ (z : Pair). z.1) o in
            let l0 = ap (λ (z : Pair). z.0) l in let l1 = ap (λ (z : Pair). z.1) l in
            ⊎_elim (λ h. omega arith) (λ h. let h1 = h.1 in omega arith) (are.before i (omega arith)))
            (λ ne. let oi = old i (omega arith) in let oj = old j (omega arith) in
            are.distinct i j lij (omega arith)
            (sym (ap (λ (z : Pair). z.0) oi) ∙ (e0 ∙ ap (λ (z : Pair). z.0) oj))
            (sym (ap (λ (z : Pair). z.1) oi) ∙ (e1 ∙ ap (λ (z : Pair). z.1) oj)));
      }

  pub next : (p : ℕ) (xs : List Pair) → IsNet N → ArePairsTo N p N.parts xs → ArePairsTo N (p + 1) (p + 1 + 1) xs
  next p xs net are = record {
    each = are.each;
    before = λ j lt. ⊎_elim (λ h. inl (omega arith)) (λ h. inl (let e = h.0 in omega arith)) (are.before j lt);
    all = λ a b lt near is. are.all a b lt near (⊎_elim
        (λ h. dite (ℕ_discrete a p) (λ e. inr (e, (net.there a b near).1)) (λ ne. inl (omega arith)))
        (λ h. absurd (let e = h.0 in let l = h.1 in omega arith)) is);
    distinct = are.distinct;
  }

  pub whole : (xs : List Pair) → IsNet N → ArePairsTo N N.parts (N.parts + 1) xs → ArePairsOf N xs
  whole xs net are =
      let found : (a b : ℕ) → a < b → N.near a b ≡ true → (j : ℕ) × (j < length xs) × ((pair_at xs j).0 ≡ a)
      × ((pair_at xs j).1 ≡ b) =
      λ a b lt near. are.all a b lt near (inl (net.there a b near).0) in
      let there_is : (j : ℕ) → j < length xs → (pair_at xs j).2 ≡ N.lag (pair_at xs j).0 (pair_at xs j).1 =
      λ j lt. (are.each j lt).there in
      let back_is : (j : ℕ) → j < length xs → (pair_at xs j).3 ≡ N.lag (pair_at xs j).1 (pair_at xs j).0 =
      λ j lt. (are.each j lt).back in
      let turned : (q p : ℕ) → N.near q p ≡ true → N.near p q ≡ true = λ q p near. sym (net.both q p) ∙ near in
      record {
        pairs = record {
          each = λ j lt. let x = are.each j lt in
              let near_back : N.near (pair_at xs j).1 (pair_at xs j).0 ≡ true = turned (pair_at xs j).0 (pair_at xs j).1 x.near in
              let e = x.there in let f = x.back in
              let some = net.some (pair_at xs j).0 (pair_at xs j).1 x.near in
              let most = net.most (pair_at xs j).0 (pair_at xs j).1 x.near in
              let some_back = net.some (pair_at xs j).1 (pair_at xs j).0 near_back in
              let most_back = net.most (pair_at xs j).1 (pair_at xs j).0 near_back in (
                x.ascend,
                (net.there (pair_at xs j).0 (pair_at xs j).1 x.near).1,
                (omega arith),
                (omega arith),
                (omega arith),
                (omega arith),
              );
          distinct = are.distinct;
        };
        lags = λ q p lag is. let j : ℕ = is.0 in let lt : j < length xs = is.1 in let x = are.each j lt in ⊎_elim
            (λ h. (
              ap (λ z. N.near z p) (sym h.0) ∙ (ap (λ z. N.near (pair_at xs j).0 z) (sym h.1) ∙ x.near),
              sym h.2 ∙ (x.there ∙ (ap (λ z. N.lag z (pair_at xs j).1) h.0 ∙ ap (λ z. N.lag q z) h.1)),
            ))
            (λ h. (
              ap (λ z. N.near z p) (sym h.0) ∙ (ap (λ z. N.near (pair_at xs j).1 z) (sym h.1)
                  ∙ turned (pair_at xs j).0 (pair_at xs j).1 x.near),
              sym h.2 ∙ (x.back ∙ (ap (λ z. N.lag z (pair_at xs j).0) h.0 ∙ ap (λ z. N.lag q z) h.1)),
            ))
            is.2;
        all = λ q p near. dite (dec_lt q p)
            (λ lt. let w = found q p lt near in (
              w.0,
              w.1,
              inl (
                w.2,
                w.3,
                there_is w.0 w.1 ∙ (ap (λ z. N.lag z (pair_at xs w.0).1) w.2 ∙ ap (λ z. N.lag q z) w.3),
              ),
            ))
            (λ ge. dite (ℕ_discrete q p)
            (λ e. absurd (true≢false (sym near ∙ (ap (λ z. N.near z p) e ∙ net.others p))))
            (λ ne. let w = found p q (omega arith) (turned q p near) in (
              w.0,
              w.1,
              inr (
                w.3,
                w.2,
                back_is w.0 w.1 ∙ (ap (λ z. N.lag z (pair_at xs w.0).0) w.3 ∙ ap (λ z. N.lag q z) w.2),
              ),
            )));
      }
