-- With which partition a person ends.
use Rattle.traffic.proofs.Common.{◌≡◌, ◌≢◌, ◌⊎◌, ℕ, zero, suc, ◌+◌, ◌<◌, ◌≤◌, Bool, true, [], ◌∷◌, ◌∙◌, ap, refl, sym, arith, inl, inr, cases_Bool}
use Rattle.traffic.proofs.Common.{and_parts, true≢false, eqb, eqb-true, eqb-false, list_any, ◌&&◌, ◌||◌, Setup, below}
use Rattle.std.specs.Prelude.{is_some}
use Rattle.parts.specs.{Owners.Owner, Owners.near, Owners.lag, Parts.Parcel, Parts.held, Parts.out, Parts.sent_last, Parts.carries, Parts.ends_with}
use Rattle.law_partitions.proofs.{Enders.or_true, Enders.or_either, Joined.any_number, Whole.near-both, Whole.near_part}
use Rattle.law_partitions.specs.Laws.{IsOwner}
use Rattle.law_last_parcels.specs.Last.{IsSent, EndsSo}
use Rattle.law_last_parcels.proofs.Some.{any_front, any_behind, front_or_behind, only_one, some_of}

-- PARCELS OF THE LAST SECONDS
module _ (S : Setup) (own : Owner) (p q : ℕ) (f : Parcel → Bool) where
  sent_any : (s : ℕ) → f (out S own p q s) ≡ true → (t k : ℕ) → s < t → t ≤ s + k → list_any f (sent_last S own p q t k) ≡ true
  unfolding sent_last
  sent_any s e zero k h g = absurd (omega arith)
  sent_any s e (suc t) zero h g = absurd (omega arith)
  sent_any s e (suc t) (suc k) h g =
      elim (cases_Bool (eqb s t)) [
        | inl y ↦
            let here : f (out S own p q t) ≡ true = ap (λ (x : ℕ). f (out S own p q x)) (sym (eqb-true s t y)) ∙ e in
            any_behind f (sent_last S own p q t k) (out S own p q t ∷ []) (rw here refl)
        | inr y ↦
            let d : s ≢ t = eqb-false s t y in
            any_front f (sent_last S own p q t k) (out S own p q t ∷ []) (sent_any s e t k (omega arith) (omega arith))
      ]

  any_sent : (t k : ℕ) → list_any f (sent_last S own p q t k) ≡ true
      → (s : ℕ) × ((s < t) × (t ≤ s + k) × (f (out S own p q s) ≡ true))
  unfolding sent_last
  any_sent zero k e = absurd (true≢false (sym e))
  any_sent (suc t) zero e = absurd (true≢false (sym e))
  any_sent (suc t) (suc k) e =
      elim (front_or_behind f (sent_last S own p q t k) (out S own p q t ∷ []) e) [
        | inl y ↦ let r = any_sent t k y in let a = r.1.0 in let b = r.1.1 in (r.0, (omega arith, omega arith, r.1.2))
        | inr y ↦ (t, (omega arith, omega arith, only_one f (out S own p q t) y))
      ]

-- HE ENDS WITH p
module _ (S : Setup) (own : Owner) (parts p i : ℕ) (shares : IsOwner own parts) where
  abbrev end : ℕ
  end = S.settings.end_second

  abbrev has_him : Bool
  has_him = is_some ((held S own p end).person i)

  abbrev sends_him : ℕ → Bool
  sends_him q = near S own p q && list_any (carries i) (sent_last S own p q end (lag S own p q))

  had : has_him ≡ true → ends_with S own parts p i ≡ true
  had e = rw e refl

  sent : IsSent S own p i → ends_with S own parts p i ≡ true
  sent x =
      let q = x.receiver in
      let n : near S own p q ≡ true = x.near_by in
      let some = sent_any S own p q (carries i) x.second x.in_it end (lag S own p q) x.before x.late in
      let here : sends_him q ≡ true = rw (n, some) refl in
      let there : q < parts = near_part S own parts q p shares (sym (near-both S own p q) ∙ n) in
      let all : list_any sends_him (below parts) ≡ true = any_number sends_him q 0 parts (omega arith) (omega arith) here in
      ap (λ (b : Bool). has_him || b) all ∙ or_true has_him

  either : ends_with S own parts p i ≡ true → (has_him ≡ true) ⊎ IsSent S own p i
  either e =
      elim (or_either has_him (list_any sends_him (below parts)) e) [
        | inl y ↦ inl y
        | inr y ↦
            let f = some_of sends_him (below parts) y in
            let q = f.0 in
            let g = and_parts (near S own p q) (list_any (carries i) (sent_last S own p q end (lag S own p q))) f.1 in
            let s = any_sent S own p q (carries i) end (lag S own p q) g.1 in
            inr (record { receiver = q; second = s.0; near_by = g.0; before = s.1.0; late = s.1.1; in_it = s.1.2 })
      ]

  pub ends_so : EndsSo S own parts p i
  ends_so = record { had = had; sent = sent; either = either }
