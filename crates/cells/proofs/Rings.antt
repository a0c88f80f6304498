-- A look that is ready and a publishing keep the rings.
use Rattle.std.proofs.Common.{◌≡◌, ◌≢◌, ℕ, ◌+◌, ◌-◌, ◌*◌, ◌/◌, ◌%◌, ◌<◌, ◌≤◌, Bool, true, false, cond, ◌||◌, suc, Option, Some, None, refl}
use Rattle.std.proofs.Common.{◌⊎◌, inl, inr, sym, ap, ◌∙◌, subst, mod-lt, eq-eqb, ne_eqb, true≢false, arith}
use mathlib.Core.Option.{some, none}
use mathlib.Core.Option as maybe
use mathlib.Core.Logic.{dite}
use native.Mathlib.Decide.{dec_le, ℕ_discrete}
use native.Mathlib.Nat.{add-mod_left}
use Rattle.atomic_table.proofs.Lists.{one_turn}
use Rattle.cells.specs.Rings.{slot, AreChannels, mark, clear, AreRings}

pub same_slot : (a s b r : ℕ) → slot a s ≡ slot b r → (a ≡ b) × (s % 64 ≡ r % 64)
same_slot a s b r e = let x : s % 64 < 64 = mod-lt s (omega arith) in let y : r % 64 < 64 = mod-lt r (omega arith) in let i : ℕ = s % 64 in
    let j : ℕ = r % 64 in let x' : i < 64 = x in let y' : j < 64 = y in let e' : 65 * a + i ≡ 65 * b + j = e in (omega arith, omega arith)

-- two seconds of one slot, the second less than 64 later, are one
pub one_second : (s r : ℕ) → s ≤ r → r < s + 64 → s % 64 ≡ r % 64 → s ≡ r
one_second s r a b e = one_turn s r 64 a b e

-- the one second of 64 from c on that has the slot i of a ring
second_in : (c i : ℕ) → i < 64 → (s : ℕ) × (c ≤ s) × (s < c + 64) × (s % 64 ≡ i)
second_in c i lt = let q : ℕ = c / 64 in let j : ℕ = c % 64 in let e : 64 * q + j ≡ c = omega arith in let b : j < 64 = omega arith in
    dite (dec_le j i) (λ le. (64 * q + i, omega arith, omega arith, omega arith))
    (λ no. (64 * q + 64 + i, omega arith, omega arith, omega arith))

pub by_bool : {P : Type 0} (b : Bool) → (b ≡ true → P) → (b ≡ false → P) → P
by_bool true f g = f refl
by_bool false f g = g refl

pub mark_here : (m : ℕ → Bool) (e x : ℕ) → x ≡ e → mark m e x ≡ true
mark_here m e x is = ap (λ b. b || m x) (eq-eqb x e is)

pub mark_else : (m : ℕ → Bool) (e x : ℕ) → x ≢ e → mark m e x ≡ m x
mark_else m e x ne = ap (λ b. b || m x) (ne_eqb x e ne)

pub mark_more : (m : ℕ → Bool) (e x : ℕ) → m x ≡ true → mark m e x ≡ true
mark_more m e x is = dite (ℕ_discrete x e) (λ y. mark_here m e x y) (λ n. mark_else m e x n ∙ is)

pub clear_here : (m : ℕ → Bool) (to : ℕ → ℕ) (p x : ℕ) → to x ≡ p → clear m to p x ≡ false
clear_here m to p x is = ap (λ b. cond b false (m x)) (eq-eqb (to x) p is)

pub clear_else : (m : ℕ → Bool) (to : ℕ → ℕ) (p x : ℕ) → to x ≢ p → clear m to p x ≡ m x
clear_else m to p x ne = ap (λ b. cond b false (m x)) (ne_eqb (to x) p ne)

module _ {S : Type 0} (right : ℕ → ℕ → ℕ → Option S → Type 0) (count n : ℕ) (from to lag twin : ℕ
    → ℕ) (g : AreChannels count n from to lag twin) where
  abbrev pub Slots : Type 0
  Slots = ℕ → maybe.Option (maybe.Option (Option S))

  abbrev pub Rings : (ℕ → ℕ) → Slots → (ℕ → Bool) → Type 0
  Rings W H m = AreRings right n from to lag twin W H m

  -- what a ready look picks up
  pub out_free : (W : ℕ → ℕ) (H : Slots) (m : ℕ → Bool) → Rings W H m → (e : ℕ) → e < n → m e ≡ false → W (to e) < W (from e) + lag e
      → H (slot (twin e) (W (to e))) ≡ some (some None)
  out_free W H m r e in_n un far =
      let f : W (from (twin e)) ≡ W (to e) = ap W (g.back e in_n) in let t : W (to (twin e)) ≡ W (from e) = ap W (g.forth e in_n) in
      let l = g.late e in_n in let l' = g.late (twin e) (g.twin_in e in_n) in let a = g.soon e in_n in
      r.free (twin e) (W (to e)) (g.twin_in e in_n) (omega arith) (omega arith)
      (λ y. absurd (true≢false (sym y ∙ (ap m (g.again e in_n) ∙ un))))

  pub in_full : (W : ℕ → ℕ) (H : Slots) (m : ℕ → Bool) → Rings W H m → (e : ℕ) → e < n → m e ≡ false → W (to e) < W (from e) + lag e
      → lag e ≤ W (to e)
      → (x : Option S) × (H (slot e (W (to e) - lag e)) ≡ some (some x)) × right (from e) (to e) (W (to e) - lag e) x
  in_full W H m r e in_n un far late = r.full e (W (to e) - lag e) in_n (omega arith) (omega arith) (λ y. absurd (true≢false (sym y ∙ un)))

  pub look_keeps : (W : ℕ → ℕ) (H : Slots) (m : ℕ → Bool) → Rings W H m → (e : ℕ) → e < n → W (to e) < W (from e) + lag e
      → (H' : Slots) → H' (slot (twin e) (W (to e))) ≡ some none → (lag e ≤ W (to e) → H' (slot e (W (to e) - lag e)) ≡ some none)
      → ((k : ℕ) → k ≢ slot (twin e) (W (to e)) → (lag e ≤ W (to e) → k ≢ slot e (W (to e) - lag e)) → H' k ≡ H k) → Rings W H' (mark m e)
  look_keeps W H m r e in_n far H' out_gone in_gone else =
      let f : W (from (twin e)) ≡ W (to e) = ap W (g.back e in_n) in let t : W (to (twin e)) ≡ W (from e) = ap W (g.forth e in_n) in
      let l = g.late e in_n in let l' = g.late (twin e) (g.twin_in e in_n) in
      let a = g.soon e in_n in let nr = r.near e in_n in let nr' = r.near (twin e) (g.twin_in e in_n) in
      record {
        near = r.near;
        ready = λ x in_x is. dite (ℕ_discrete x e) (λ y. subst (λ z. W (to z) < W (from z) + lag z) (sym y) far)
            (λ ne. r.ready x in_x (sym (mark_else m e x ne) ∙ is));
        full = λ x s in_x b c exc. let o = r.full x s in_x b c (λ is. exc (mark_more m e x is)) in
            let same : H' (slot x s) ≡ H (slot x s) = else (slot x s)
            (λ eq. let q = same_slot x s (twin e) (W (to e)) eq in let fx : W (from x) ≡ W (from (twin e)) = ap (λ z. W (from z)) q.0 in
            let tx : W (to x) ≡ W (to (twin e)) = ap (λ z. W (to z)) q.0 in let lx : lag x ≡ lag (twin e) = ap lag q.0 in
            let d = one_second s (W (to e)) (omega arith) (omega arith) q.1 in omega arith)
            (λ late eq. let q = same_slot x s e (W (to e) - lag e) eq in let fx : W (from x) ≡ W (from e) = ap (λ z. W (from z)) q.0 in
            let tx : W (to x) ≡ W (to e) = ap (λ z. W (to z)) q.0 in let lx : lag x ≡ lag e = ap lag q.0 in
            let d = one_second (W (to e) - lag e) s (omega arith) (omega arith) (sym q.1) in exc (mark_here m e x q.0) (omega arith)) in
            (o.0, same ∙ o.1, o.2);
        received = λ x in_x is late. dite (ℕ_discrete x e)
            (λ y. subst (λ z. H' (slot z (W (to z) - lag z)) ≡ some none) (sym y) (in_gone (subst (λ z. lag z ≤ W (to z)) y late)))
            (λ ne. let mx : m x ≡ true = sym (mark_else m e x ne) ∙ is in let fx = r.ready x in_x mx in let c : ℕ = W (to x) - lag x in
            let same : H' (slot x c) ≡ H (slot x c) = else (slot x c)
            (λ eq. let q = same_slot x c (twin e) (W (to e)) eq in let ff : W (from x) ≡ W (from (twin e)) = ap (λ z. W (from z)) q.0 in
            let tt' : W (to x) ≡ W (to (twin e)) = ap (λ z. W (to z)) q.0 in let ll : lag x ≡ lag (twin e) = ap lag q.0 in
            let d = one_second c (W (to e)) (omega arith) (omega arith) q.1 in omega arith)
            (λ late' eq. ne (same_slot x c e (W (to e) - lag e) eq).0) in same ∙ r.received x in_x mx late);
        free = λ x s in_x b c exc. let o = r.free x s in_x b c (λ is. exc (mark_more m e (twin x) is)) in
            let same : H' (slot x s) ≡ H (slot x s) = else (slot x s)
            (λ eq. let q = same_slot x s (twin e) (W (to e)) eq in let fx : W (from x) ≡ W (from (twin e)) = ap (λ z. W (from z)) q.0 in
            let tx : W (to x) ≡ W (to (twin e)) = ap (λ z. W (to z)) q.0 in let lx : lag x ≡ lag (twin e) = ap lag q.0 in
            let d = one_second (W (to e)) s (omega arith) (omega arith) (sym q.1) in
            exc (mark_here m e (twin x) (ap twin q.0 ∙ g.again e in_n)) (omega arith))
            (λ late eq. let q = same_slot x s e (W (to e) - lag e) eq in let fx : W (from x) ≡ W (from e) = ap (λ z. W (from z)) q.0 in
            let tx : W (to x) ≡ W (to e) = ap (λ z. W (to z)) q.0 in let lx : lag x ≡ lag e = ap lag q.0 in
            let d = one_second (W (to e) - lag e) s (omega arith) (omega arith) (sym q.1) in omega arith) in same ∙ o;
        lent = λ x in_x is. dite (ℕ_discrete (twin x) e)
            (λ y. let xe : x ≡ twin e = sym (g.again x in_x) ∙ ap twin y in ap H' (ap (λ z. slot z (W (from z))) xe ∙ ap (slot (twin e)) f)
            ∙ out_gone)
            (λ ne. let mx : m (twin x) ≡ true = sym (mark_else m e (twin x) ne) ∙ is in let s : ℕ = W (from x) in
            let same : H' (slot x s) ≡ H (slot x s) = else (slot x s)
            (λ eq. ne (ap twin (same_slot x s (twin e) (W (to e)) eq).0 ∙ g.again e in_n))
            (λ late eq. let q = same_slot x s e (W (to e) - lag e) eq in let fx : s ≡ W (from e) = ap (λ z. W (from z)) q.0 in
            let fr = r.ready (twin e) (g.twin_in e in_n) (sym (ap (λ z. m (twin z)) q.0) ∙ mx) in
            let d = one_second (W (to e) - lag e) s (omega arith) (omega arith) (sym q.1) in omega arith) in same ∙ r.lent x in_x mx);
      }

  -- a parcel that lies in a slot is the right one, of a second that was sent and is not yet consumed
  pub lies : (W : ℕ → ℕ) (H : Slots) (m : ℕ → Bool) → Rings W H m → (e i : ℕ) (x : S) → e < n → i < 64
      → H (65 * e + i) ≡ some (some (Some x))
      → (s : ℕ) × (s % 64 ≡ i) × (s < W (from e)) × (W (to e) ≤ s + lag e) × right (from e) (to e) s (Some x)
  lies W H m r e i x in_n lt is =
      let sec = second_in (W (to e) - lag e) i lt in let s : ℕ = sec.0 in let a = sec.1 in let b = sec.2 in
      let at : H (slot e s) ≡ some (some (Some x)) = ap (λ z. H (65 * e + z)) sec.3 ∙ is in
      dite (dec_le (suc s) (W (from e)))
      (λ sent.
      let got : (m e ≡ true → W (to e) ≢ s + lag e) → (s : ℕ) × (s % 64 ≡ i) × (s < W (from e)) × (W (to e) ≤ s + lag e)
      × right (from e) (to e) s (Some x) =
      λ exc. let f = r.full e s in_n (omega arith) (omega arith) exc in
      (s, sec.3, omega arith, omega arith, subst (λ z. right (from e) (to e) s z) (same_parcel f.0 x (sym f.1 ∙ at)) f.2) in
      got (λ marked here. let c : W (to e) - lag e ≡ s = omega arith in
      no_parcel x (sym (r.received e in_n marked (omega arith)) ∙ ap (λ z. H (slot e z)) c ∙ at)))
      (λ unsent. absurd (dite (ℕ_discrete s (W (from e)))
      (λ here. by_bool (m (twin e))
      (λ marked. no_parcel x (sym (r.lent e in_n marked) ∙ ap (λ z. H (slot e z)) (sym here) ∙ at))
      (λ un. empty_parcel x (sym (r.free e s in_n (omega arith) (omega arith) (λ y. absurd (true≢false (sym y ∙ un)))) ∙ at)))
      (λ ne. empty_parcel x (sym (r.free e s in_n (omega arith) (omega arith) (λ _. ne)) ∙ at))))
    where
      same_parcel : (y : Option S) (z : S) → some (some y) ≡ some (some (Some z)) → y ≡ Some z
      same_parcel y z e = cc

      no_parcel : (z : S) → some none ≡ some (some (Some z)) → ⊥
      no_parcel z e = cc

      empty_parcel : (z : S) → some (some None) ≡ some (some (Some z)) → ⊥
      empty_parcel z e = cc

  -- what was sent in a second and is still to be absorbed, a parcel or none, lies in its slot, or the receiver, whose turn it is to absorb
  -- it, has it out
  pub stays : (W : ℕ → ℕ) (H : Slots) (m : ℕ → Bool) → Rings W H m → (e s : ℕ) → e < n → s < W (from e) → W (to e) ≤ s + lag e
      → ((x : Option S) × (H (slot e s) ≡ some (some x)) × right (from e) (to e) s x)
      ⊎ ((W (to e) ≡ s + lag e) × (H (slot e s) ≡ some none))
  stays W H m r e s in_n sent due = by_bool (m e)
      (λ marked. dite (ℕ_discrete (W (to e)) (s + lag e))
      (λ now. let c : W (to e) - lag e ≡ s = omega arith in
      inr (now, ap (λ z. H (slot e z)) (sym c) ∙ r.received e in_n marked (omega arith)))
      (λ later. inl (r.full e s in_n due sent (λ _. later))))
      (λ un. inl (r.full e s in_n due sent (λ y. absurd (true≢false (sym y ∙ un)))))

  module _ (W : ℕ → ℕ) (H : Slots) (m : ℕ → Bool) (r : Rings W H m) (p t : ℕ) (here : W p ≡ t) (all : (e : ℕ) → e < n → to e ≡ p
      → m e ≡ true) (W' : ℕ → ℕ) (next : W' p ≡ t + 1) (other : (q : ℕ) → q ≢ p → W' q ≡ W q) (H' : Slots)
      (in_back : (e : ℕ) → e < n → to e ≡ p → lag e ≤ t → H' (slot e (t - lag e)) ≡ some (some None)) (out_back : (e : ℕ) → e < n
      → from e ≡ p → (x : Option S) × (H' (slot e t) ≡ some (some x)) × right p (to e) t x)
      (else : (k : ℕ) → ((e : ℕ) → e < n → to e ≡ p → lag e ≤ t → k ≢ slot e (t - lag e)) → ((e : ℕ) → e < n → from e ≡ p → k ≢ slot e t)
      → H' k ≡ H k) where
    grows : (q : ℕ) → W q ≤ W' q
    grows q = dite (ℕ_discrete q p) (λ y. let a : W q ≡ t = ap W y ∙ here in let b : W' q ≡ t + 1 = ap W' y ∙ next in omega arith)
        (λ ne. let a = other q ne in omega arith)

    -- a channel into p
    far : (e : ℕ) → e < n → to e ≡ p → (W (to e) ≡ t) × (t < W (from e) + lag e)
    far e in_n is = let a : W (to e) ≡ t = ap W is ∙ here in let b = r.ready e in_n (all e in_n is) in (a, omega arith)

    not_in : (e s : ℕ) → to e ≢ p → (d : ℕ) → d < n → to d ≡ p → lag d ≤ t → slot e s ≢ slot d (t - lag d)
    not_in e s ne d in_n is late eq = ne (ap to (same_slot e s d (t - lag d) eq).0 ∙ is)

    not_out : (e s : ℕ) → from e ≢ p → (d : ℕ) → d < n → from d ≡ p → slot e s ≢ slot d t
    not_out e s ne d in_n is eq = ne (ap from (same_slot e s d t eq).0 ∙ is)

    nears : (e : ℕ) → e < n → W' (to e) ≤ W' (from e) + lag e
    nears e in_n = let a = grows (from e) in let b = r.near e in_n in
        dite (ℕ_discrete (to e) p) (λ is. let f = far e in_n is in let c : W' (to e) ≡ t + 1 = ap W' is ∙ next in omega arith)
        (λ ne. let c = other (to e) ne in omega arith)

    readies : (e : ℕ) → e < n → clear m to p e ≡ true → W' (to e) < W' (from e) + lag e
    readies e in_n is = dite (ℕ_discrete (to e) p) (λ y. absurd (true≢false (sym is ∙ clear_here m to p e y)))
        (λ ne. let a = grows (from e) in let b = r.ready e in_n (sym (clear_else m to p e ne) ∙ is) in let c = other (to e) ne in
        omega arith)

    abbrev Full : ℕ → ℕ → Type 0
    Full e s = (x : Option S) × (H' (slot e s) ≡ some (some x)) × right (from e) (to e) s x

    full_in : (e s : ℕ) → e < n → to e ≡ p → W' (to e) ≤ s + lag e → s < W' (from e) → Full e s
    full_in e s in_n is b c =
        let ne : from e ≢ p = λ y. g.apart e in_n (y ∙ sym is) in let f = far e in_n is in let w : W' (to e) ≡ t + 1 = ap W' is ∙ next in
        let v : W' (from e) ≡ W (from e) = other (from e) ne in
        let o = r.full e s in_n (omega arith) (omega arith) (λ _ y. omega arith) in
        let tw : W (from e) ≤ W (to e) + lag (twin e) = subst (λ z. z ≤ W (to e) + lag (twin e)) (ap W (g.forth e in_n))
        (subst (λ z. W (to (twin e)) ≤ z + lag (twin e)) (ap W (g.back e in_n)) (r.near (twin e) (g.twin_in e in_n))) in
        let l = g.late e in_n in let l' = g.late (twin e) (g.twin_in e in_n) in
        let same : H' (slot e s) ≡ H (slot e s) = else (slot e s)
        (λ d in_d is_d late eq. let q = same_slot e s d (t - lag d) eq in let lx : lag d ≡ lag e = ap lag (sym q.0) in
        let u = one_second (t - lag d) s (omega arith) (omega arith) (sym q.1) in omega arith)
        (not_out e s ne) in (o.0, same ∙ o.1, o.2)

    full_out : (e s : ℕ) → e < n → from e ≡ p → to e ≢ p → W' (to e) ≤ s + lag e → s < W' (from e)
        → (clear m to p e ≡ true → W' (to e) ≢ s + lag e) → Full e s
    full_out e s in_n is ne b c exc =
        let w : W' (from e) ≡ t + 1 = ap W' is ∙ next in let v : W' (to e) ≡ W (to e) = other (to e) ne in let u : W (from e) ≡ t = ap W is
        ∙ here in
        dite (ℕ_discrete s t)
        (λ y. let o = out_back e in_n is in (
          o.0,
          ap (λ z. H' (slot e z)) y ∙ o.1,
          subst (λ z. right (from e) (to e) z o.0) (sym y) (subst (λ z. right z (to e) t o.0) (sym is) o.2),
        ))
        (λ no. let less : s < t = omega arith in
        let o = r.full e s in_n (omega arith) (omega arith) (λ y z. exc (clear_else m to p e ne ∙ y) (v ∙ z)) in
        let f = far (twin e) (g.twin_in e in_n) (g.forth e in_n ∙ is) in let fw : W (from (twin e)) ≡ W (to e) = ap W (g.back e in_n) in
        let l = g.late e in_n in let l' = g.late (twin e) (g.twin_in e in_n) in
        let same : H' (slot e s) ≡ H (slot e s) = else (slot e s) (not_in e s ne)
        (λ d in_d is_d eq. let q = same_slot e s d t eq in let k = one_second s t (omega arith) (omega arith) q.1 in omega arith) in
        (o.0, same ∙ o.1, o.2))

    full_else : (e s : ℕ) → e < n → from e ≢ p → to e ≢ p → W' (to e) ≤ s + lag e → s < W' (from e)
        → (clear m to p e ≡ true → W' (to e) ≢ s + lag e) → Full e s
    full_else e s in_n nf nt b c exc =
        let w : W' (from e) ≡ W (from e) = other (from e) nf in let v : W' (to e) ≡ W (to e) = other (to e) nt in
        let o = r.full e s in_n (omega arith) (omega arith) (λ y z. exc (clear_else m to p e nt ∙ y) (v ∙ z)) in
        let same : H' (slot e s) ≡ H (slot e s) = else (slot e s) (not_in e s nt) (not_out e s nf) in (o.0, same ∙ o.1, o.2)

    free_in : (e s : ℕ) → e < n → to e ≡ p → W' (from e) ≤ s → s < 64 + (W' (to e) - lag e)
        → (clear m to p (twin e) ≡ true → s ≢ W' (from e)) → H' (slot e s) ≡ some (some None)
    free_in e s in_n is b c exc =
        let ne : from e ≢ p = λ y. g.apart e in_n (y ∙ sym is) in let f = far e in_n is in let w : W' (to e) ≡ t + 1 = ap W' is ∙ next in
        let v : W' (from e) ≡ W (from e) = other (from e) ne in
        let nt : to (twin e) ≢ p = λ y. ne (sym (g.forth e in_n) ∙ y) in
        dite (dec_le (suc s) (64 + (t - lag e)))
        (λ y. let near : s < 64 + (t - lag e) = omega arith in
        let o = r.free e s in_n (omega arith) (omega arith) (λ z k. exc (clear_else m to p (twin e) nt ∙ z) (k ∙ sym v)) in
        let same : H' (slot e s) ≡ H (slot e s) = else (slot e s)
        (λ d in_d is_d late eq. let q = same_slot e s d (t - lag d) eq in let lx : lag d ≡ lag e = ap lag (sym q.0) in
        let u = one_second (t - lag d) s (omega arith) (omega arith) (sym q.1) in omega arith)
        (not_out e s ne) in same ∙ o)
        (λ no. let late : lag e ≤ t = omega arith in let at : s ≡ 64 + (t - lag e) = omega arith in
        let md : s % 64 ≡ (t - lag e) % 64 = ap (λ z. z % 64) at ∙ add-mod_left 64 (t - lag e) in ap (λ z. H' (65 * e + z)) md
        ∙ in_back e in_n is late)

    free_out : (e s : ℕ) → e < n → from e ≡ p → to e ≢ p → W' (from e) ≤ s → s < 64 + (W' (to e) - lag e) → H' (slot e s) ≡ some (some None)
    free_out e s in_n is ne b c =
        let w : W' (from e) ≡ t + 1 = ap W' is ∙ next in let v : W' (to e) ≡ W (to e) = other (to e) ne in let u : W (from e) ≡ t = ap W is
        ∙ here in let nr = r.near e in_n in
        let o = r.free e s in_n (omega arith) (omega arith) (λ _ z. omega arith) in
        let same : H' (slot e s) ≡ H (slot e s) = else (slot e s) (not_in e s ne)
        (λ d in_d is_d eq. let q = same_slot e s d t eq in let k = one_second t s (omega arith) (omega arith) (sym q.1) in
        omega arith) in same ∙ o

    free_else : (e s : ℕ) → e < n → from e ≢ p → to e ≢ p → W' (from e) ≤ s → s < 64 + (W' (to e) - lag e)
        → (clear m to p (twin e) ≡ true → s ≢ W' (from e)) → H' (slot e s) ≡ some (some None)
    free_else e s in_n nf nt b c exc =
        let w : W' (from e) ≡ W (from e) = other (from e) nf in let v : W' (to e) ≡ W (to e) = other (to e) nt in
        let nn : to (twin e) ≢ p = λ y. nf (sym (g.forth e in_n) ∙ y) in
        let o = r.free e s in_n (omega arith) (omega arith) (λ z k. exc (clear_else m to p (twin e) nn ∙ z) (k ∙ sym w)) in
        let same : H' (slot e s) ≡ H (slot e s) = else (slot e s) (not_in e s nt) (not_out e s nf) in same ∙ o

    -- a receiver with a mark other than p
    received_else : (e : ℕ) → e < n → clear m to p e ≡ true → lag e ≤ W' (to e) → H' (slot e (W' (to e) - lag e)) ≡ some none
    received_else e in_n is late =
        let nt : to e ≢ p = λ y. true≢false (sym is ∙ clear_here m to p e y) in let me : m e ≡ true = sym (clear_else m to p e nt) ∙ is in
        let v : W' (to e) ≡ W (to e) = other (to e) nt in
        let c : ℕ = W (to e) - lag e in let fr = r.ready e in_n me in let l = g.late e in_n in
        let l' = g.late (twin e) (g.twin_in e in_n) in
        let same : H' (slot e c) ≡ H (slot e c) = else (slot e c) (not_in e c nt)
        (λ d in_d is_d eq. let q = same_slot e c d t eq in let from_p : from e ≡ p = ap from q.0 ∙ is_d in
        let w : W (from e) ≡ t = ap W from_p ∙ here in
        let f = far (twin e) (g.twin_in e in_n) (g.forth e in_n ∙ from_p) in let fw : W (from (twin e)) ≡ W (to e) = ap W (g.back e in_n) in
        let k = one_second c t (omega arith) (omega arith) q.1 in omega arith) in
        ap (λ z. H' (slot e (z - lag e))) v ∙ same ∙ r.received e in_n me (let a = v in omega arith)

    -- a sender with a mark other than p
    lent_else : (e : ℕ) → e < n → clear m to p (twin e) ≡ true → H' (slot e (W' (from e))) ≡ some none
    lent_else e in_n is =
        let nf : from e ≢ p = λ y. true≢false (sym is ∙ clear_here m to p (twin e) (g.forth e in_n ∙ y)) in
        let nn : to (twin e) ≢ p = λ y. nf (sym (g.forth e in_n) ∙ y) in let me : m (twin e) ≡ true = sym (clear_else m to p (twin e) nn)
        ∙ is in let v : W' (from e) ≡ W (from e) = other (from e) nf in
        let s : ℕ = W (from e) in let fr = r.ready (twin e) (g.twin_in e in_n) me in
        let fw : W (from (twin e)) ≡ W (to e) = ap W (g.back e in_n) in let tw : W (to (twin e)) ≡ s = ap W (g.forth e in_n) in
        let l = g.late e in_n in let l' = g.late (twin e) (g.twin_in e in_n) in
        let same : H' (slot e s) ≡ H (slot e s) = else (slot e s)
        (λ d in_d is_d late eq. let q = same_slot e s d (t - lag d) eq in let to_p : to e ≡ p = ap to q.0 ∙ is_d in
        let f = far e in_n to_p in let lx : lag d ≡ lag e = ap lag (sym q.0) in
        let k = one_second (t - lag d) s (omega arith) (omega arith) (sym q.1) in omega arith)
        (not_out e s nf) in ap (λ z. H' (slot e z)) v ∙ same ∙ r.lent e in_n me

    pub publish_keeps : Rings W' H' (clear m to p)
    publish_keeps = record {
      near = nears;
      ready = readies;
      received = received_else;
      lent = lent_else;
      full = λ e s in_n b c exc. dite (ℕ_discrete (to e) p) (λ is. full_in e s in_n is b c)
          (λ nt. dite (ℕ_discrete (from e) p) (λ is. full_out e s in_n is nt b c exc) (λ nf. full_else e s in_n nf nt b c exc));
      free = λ e s in_n b c exc. dite (ℕ_discrete (to e) p) (λ is. free_in e s in_n is b c exc)
          (λ nt. dite (ℕ_discrete (from e) p) (λ is. free_out e s in_n is nt b c) (λ nf. free_else e s in_n nf nt b c exc));
    }
