-- How the borders of a port are found.
use Rattle.std.proofs.Common.{◌≡◌, ◌≢◌, ℕ, suc, ◌+◌, ◌<◌, ◌⊎◌, List, [], ◌∷◌, ◌++◌, length, sym, ap, ◌∙◌, refl, subst, inl, inr, ⊎_elim, length-append, arith}
use Rattle.std.proofs.Math.{ListN.get_or-append, Seq.get_or-append_seam}
use mathlib.Core.Logic.{dite}
use native.Mathlib.Decide.{ℕ_discrete, dec_le}
use Rattle.cells.specs.Ports.{IsBorder, border_at, AreFound}
use Rattle.cells.specs.{Rule.no_border, Rule.from_of, Rule.to_of, declared.table.Border.Border, declared.table.Channel.Channel}

module _ (cs : List Channel) (p q e : ℕ) (borders : List Border) (f : AreFound cs p q e borders) where
  -- the channel e is another
  pub found_skip : ((from_of cs e ≡ q) → (to_of cs e ≡ p) → ⊥) → AreFound cs p q (e + 1) borders
  found_skip no_channel = record {
    each = f.each;
    before = λ k lt. ⊎_elim (λ u. inl u) (λ u. let v = u.1 in inr (u.0, omega arith)) (f.before k lt);
    all = λ d lt is b. ⊎_elim (λ u. f.all d lt is (inl u))
        (λ u. let v = u.1 in dite (ℕ_discrete d e) (λ y. absurd (no_channel (ap (from_of cs) (sym y) ∙ u.0) (ap (to_of cs) (sym y) ∙ is)))
        (λ ne. f.all d lt is (inr (u.0, omega arith)))) b;
    once = f.once;
    climbs = f.climbs;
  }

  module _ (r : Border) (ok : IsBorder cs p r) (sender : r.from ≡ q) (at : r.inward ≡ e) where
    abbrev more : List Border
    more = borders ++ r ∷ []

    old_border : (k : ℕ) → k < length borders → border_at more k ≡ border_at borders k
    old_border k lt = get_or-append borders (r ∷ []) no_border k lt

    new_border : (k : ℕ) → k ≡ length borders → border_at more k ≡ r
    new_border k is = ap (border_at more) is ∙ get_or-append_seam borders r [] no_border

    long : length more ≡ length borders + 1
    long = length-append borders (r ∷ [])

    by_place : (k : ℕ) → k < length more → (k < length borders) ⊎ (k ≡ length borders)
    by_place k lt = let l = long in dite (dec_le (suc k) (length borders)) (λ y. inl y) (λ n. inr (omega arith))

    pub found_push : AreFound cs p q (e + 1) more
    found_push = record {
      each = λ k lt. ⊎_elim (λ o. subst (IsBorder cs p) (sym (old_border k o)) (f.each k o))
          (λ o. subst (IsBorder cs p) (sym (new_border k o)) ok) (by_place k lt);
      before = λ k lt. ⊎_elim
          (λ o. subst (λ x. (x.from < q) ⊎ ((x.from ≡ q) × (x.inward < e + 1))) (sym (old_border k o)) (⊎_elim (λ u. inl u)
          (λ u. let v = u.1 in inr (u.0, omega arith)) (f.before k o)))
          (λ o. subst (λ x. (x.from < q) ⊎ ((x.from ≡ q) × (x.inward < e + 1))) (sym (new_border k o)) (inr (sender, omega arith)))
          (by_place k lt);
      all = λ d lt is b. let l = long in
          let old = λ (w : (k : ℕ) × (k < length borders) × ((border_at borders k).inward ≡ d)). let got : (k : ℕ) × (k < length more)
          × ((border_at more k).inward ≡ d) = (
            w.0,
            (let z = w.1 in omega arith),
            ap (λ (x : Border). x.inward) (old_border w.0 w.1)
                ∙ w.2,
          ) in got in
          ⊎_elim (λ u. old (f.all d lt is (inl u))) (λ u. let v = u.1 in dite (ℕ_discrete d e)
          (λ y. (length borders, omega arith, ap (λ (x : Border). x.inward) (new_border (length borders) refl) ∙ at ∙ sym y))
          (λ ne. old (f.all d lt is (inr (u.0, omega arith))))) b;
      once = λ j k lj lk same. ⊎_elim
          (λ oj. ⊎_elim
          (λ ok'. f.once j k oj ok' (ap (λ (x : Border). x.inward) (sym (old_border j oj)) ∙ same
          ∙ ap (λ (x : Border). x.inward) (old_border k ok')))
          (λ nk. absurd (other j oj (ap (λ (x : Border). x.inward) (sym (old_border j oj)) ∙ same
          ∙ ap (λ (x : Border). x.inward) (new_border k nk) ∙ at)))
          (by_place k lk))
          (λ nj. ⊎_elim
          (λ ok'. absurd (other k ok' (ap (λ (x : Border). x.inward) (sym (old_border k ok')) ∙ sym same
          ∙ ap (λ (x : Border). x.inward) (new_border j nj) ∙ at)))
          (λ nk. nj ∙ sym nk)
          (by_place k lk))
          (by_place j lj);
      climbs = λ j k lt lk. ⊎_elim
          (λ ok'. let oj : j < length borders = omega arith in let a = f.climbs j k lt ok' in
          let x = ap (λ (x : Border). x.from) (old_border j oj) in let y = ap (λ (x : Border). x.from) (old_border k ok') in
          omega arith)
          (λ nk. let oj : j < length borders = omega arith in let x = ap (λ (x : Border). x.from) (old_border j oj) in
          let y = ap (λ (x : Border). x.from) (new_border k nk) in
          ⊎_elim (λ u. omega arith) (λ u. let v = u.0 in omega arith) (f.before j oj))
          (by_place k lk);
    }
      where
        other : (j : ℕ) → j < length borders → (border_at borders j).inward ≢ e
        other j lt is = ⊎_elim (λ u. let a = (f.each j lt).sender in let b = ap (from_of cs) is in let c = ap (from_of cs) at in
            let d = ok.sender in omega arith) (λ u. let v = u.1 in omega arith) (f.before j lt)
