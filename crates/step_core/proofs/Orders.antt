-- Orders of steps: somebody may always step, each order ends, and one of as many steps as all have seconds brings all to the end.
use Rattle.std.proofs.Common.{◌≡◌, ◌≢◌, ℕ, zero, suc, ◌+◌, ◌-◌, ◌*◌, ◌<◌, ◌≤◌, List, [], ◌∷◌, length, ap, refl, sym, arith, inl, inr}
use Rattle.std.proofs.lemmas.Bool.{eq-eqb, ne_eqb, cases_lt}
use mathlib.Core.Logic.{dite}
use native.Mathlib.Decide.{ℕ_discrete}
use Rattle.step_core.specs.Nets.{Net, IsNet, MayStep, SomeMayStep, stepped, ComesTo}

stepped_here : (p : ℕ) (done : ℕ → ℕ) → stepped p done p ≡ done p + 1
stepped_here p done = rw (eq-eqb p p refl) refl

stepped_other : (p : ℕ) (done : ℕ → ℕ) (x : ℕ) → x ≢ p → stepped p done x ≡ done x
stepped_other p done x ne = rw (ne_eqb x p ne) refl

-- who has done the fewest seconds may step
pub fewest_may : (N : Net) (done : ℕ → ℕ) (p : ℕ) → IsNet N → p < N.parts → done p < N.end → ((q : ℕ) → q < N.parts → done p ≤ done q) → MayStep N p done
fewest_may N done p net there before least = record {
  is_part = there;
  before_end = before;
  heard = λ q n. let some = net.some q p n in let le = least q (net.there q p n).0 in omega arith;
}

-- there is one who has
least_done : (done : ℕ → ℕ) (n : ℕ) → (p : ℕ) × ((p < suc n) × ((q : ℕ) → q < suc n → done p ≤ done q))
least_done done zero = (0, (omega arith, λ q h. let e : q ≡ 0 = omega arith in let f = ap done e in omega arith))
least_done done (suc n) =
    let r = least_done done n in
    let p = r.0 in
    let lt = r.1.0 in
    let low = r.1.1 in
    elim (cases_lt (done (suc n)) (done p)) [
      | inl less ↦ (suc n, (omega arith, λ q h. elim (cases_lt q (suc n)) [ inl i ↦ let z = low q i in omega arith | inr j ↦ let e : q ≡ suc n = omega arith in let f = ap done e in omega arith ]))
      | inr more ↦ (p, (omega arith, λ q h. elim (cases_lt q (suc n)) [ inl i ↦ low q i | inr j ↦ let e : q ≡ suc n = omega arith in let f = ap done e in omega arith ]))
    ]

some_may : (N : Net) (done : ℕ → ℕ) (p m : ℕ) → IsNet N → N.parts ≡ suc m → p < N.parts → done p < N.end → SomeMayStep N done
some_may N done p m net e there before =
    let r = least_done done m in
    let who : ℕ = r.0 in
    let low = r.1.1 in
    let within = r.1.0 in
    let le = low p (omega arith) in
    record { who = who; may = fewest_may N done who net (omega arith) (omega arith) (λ q lt. low q (omega arith)) }

pub no_dead_end : (N : Net) (done : ℕ → ℕ) (p : ℕ) → IsNet N → p < N.parts → done p < N.end → SomeMayStep N done
no_dead_end N done p net there before = let e : N.parts ≡ suc (N.parts - 1) = omega arith in some_may N done p (N.parts - 1) net e there before

module _ (N : Net) where
  -- how many seconds those below n have left to do
  abbrev left_to : (ℕ → ℕ) → ℕ → ℕ
  left_to done zero = 0
  left_to done (suc n) = (N.end - done n) + left_to done n

  left_same : (done later : ℕ → ℕ) (n : ℕ) → ((q : ℕ) → q < n → later q ≡ done q) → left_to later n ≡ left_to done n
  left_same done later zero h = refl
  left_same done later (suc n) h = let e = h n (omega arith) in let r = left_same done later n (λ q lt. h q (omega arith)) in omega arith

  left_step : (p : ℕ) (done : ℕ → ℕ) (n : ℕ) → p < n → done p < N.end → left_to (stepped p done) n + 1 ≡ left_to done n
  left_step p done zero lt before = absurd (omega arith)
  left_step p done (suc n) lt before = dite (ℕ_discrete p n)
      (λ e.
      let here = stepped_here p done in
      let f = ap (stepped p done) e in
      let g = ap done e in
      let r = left_same done (stepped p done) n (λ q l. stepped_other p done q (λ z. absurd (omega arith))) in omega arith)
      (λ ne. let o = stepped_other p done n (λ z. absurd (ne (sym z))) in let r = left_step p done n (omega arith) before in omega arith)

  comes_left : (ps : List ℕ) (done later : ℕ → ℕ) → ComesTo N ps done later → length ps + left_to later N.parts ≡ left_to done N.parts
  comes_left [] done later h = let r : left_to later N.parts ≡ left_to done N.parts = left_same done later N.parts (λ q lt. h q) in omega arith
  comes_left (p ∷ ps) done later h =
      let r = comes_left ps (stepped p done) later h.1 in
      let s = left_step p done N.parts h.0.is_part h.0.before_end in omega arith

  left_all : (n : ℕ) → left_to (λ p. 0) n ≡ n * N.end
  left_all zero = let e : 0 ≡ 0 * N.end = grind arith in e
  left_all (suc n) = let r = left_all n in let e : suc n * N.end ≡ N.end + n * N.end = grind arith in omega arith

  none_left : (d : ℕ → ℕ) (n : ℕ) → left_to d n ≡ 0 → (p : ℕ) → p < n → N.end ≤ d p
  none_left d zero e p lt = absurd (omega arith)
  none_left d (suc n) e p lt = dite (ℕ_discrete p n)
      (λ z. let f = ap d z in omega arith)
      (λ ne. none_left d n (omega arith) p (omega arith))

  comes_within : (ps : List ℕ) (done later : ℕ → ℕ) → ((p : ℕ) → done p ≤ N.end) → ComesTo N ps done later → (p : ℕ) → later p ≤ N.end
  comes_within [] done later w h p = let e = h p in let le = w p in omega arith
  comes_within (x ∷ ps) done later w h p = comes_within ps (stepped x done) later (λ q. dite (ℕ_discrete q x)
      (λ e. let f = ap (stepped x done) e in let g = stepped_here x done in let b = h.0.before_end in omega arith)
      (λ ne. let o = stepped_other x done q ne in let le = w q in omega arith)) h.1 p

  pub no_longer : (ps : List ℕ) (d : ℕ → ℕ) → ComesTo N ps (λ p. 0) d → length ps ≤ N.parts * N.end
  no_longer ps d h = let r = comes_left ps (λ p. 0) d h in let s = left_all N.parts in omega arith

  pub all_end : (ps : List ℕ) (d : ℕ → ℕ) → ComesTo N ps (λ p. 0) d → length ps ≡ N.parts * N.end → (p : ℕ) → p < N.parts → d p ≡ N.end
  all_end ps d h e p lt =
      let r = comes_left ps (λ p. 0) d h in let s = left_all N.parts in
      let z : left_to d N.parts ≡ 0 = omega arith in
      let low = none_left d N.parts z p lt in
      let high = comes_within ps (λ p. 0) d (λ q. omega arith) h p in omega arith
