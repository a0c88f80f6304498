-- A state that shows one of the core goes on as that one does.
use Rattle.traffic.proofs.Common.{◌≡◌, ℕ, List, ◌∙◌, ap, refl, sym, [], ◌∷◌, arith, ◌<◌, true, ◌++◌, ◌+◌, Bool, inl, inr, false, eqb, ◌-◌, fun_ext}
use Rattle.traffic.proofs.Common.{cases_Bool, and_parts, map, None, ◌&&◌, if◌then◌else◌, nat_le, numbers}
use Rattle.law_partitions.specs.Kept.{Kept, KeptWhere}
use Rattle.parts.specs.Core.{Core, Rule, first, rest, absorbs, absorbed, advance, Allowed, Shows}

if_same : {X : Type 0} (b : Bool) (x y z : X) → (b ≡ true → x ≡ y) → (if b then x else z) ≡ (if b then y else z)
if_same true x y z h = h refl
if_same false x y z h = refl

module _ {H P E : Type 0} (R : Rule H P E) (there : (a b : ℕ) → R.near a b ≡ true → a < R.parts) (both : (a b : ℕ) → R.near a b ≡ R.near b a) (other : (a : ℕ) → R.near a a ≡ false)
    (goes : ℕ → Bool) (end p : ℕ) (c d : Core H P E) (shows : Shows R goes c d) (on : goes p ≡ true) (al : Allowed R end p c) where
  same_done : c.done p ≡ d.done p
  same_done = shows.done p al.is_part

  allowed : Allowed R end p d
  allowed =
      record {
        is_part = al.is_part;
        before_end = let e = same_done in let lt = al.before_end in omega arith;
        heard = λ q n. let e = same_done in let f = shows.done q (there q p n) in let h = al.heard q n in omega arith;
      }

  same_first : (q : ℕ) → absorbed R c p q ≡ absorbed R d p q
  same_first q =
      ap (λ (t : ℕ). if R.near q p && nat_le (R.lag q p) t then first (c.box q p) else None) same_done
      ∙ if_same (R.near q p && nat_le (R.lag q p) (d.done p)) (first (c.box q p)) (first (d.box q p)) None
      (λ e. ap first (shows.box q p (and_parts (R.near q p) (nat_le (R.lag q p) (d.done p)) e).0 on))

  same_got : absorbed R c p ≡ absorbed R d p
  same_got = fun_ext same_first

  same_held : c.hold p ≡ d.hold p
  same_held = shows.hold p al.is_part on

  -- what it then holds, tells and sends
  same_step : R.step p (c.done p) (c.hold p) (absorbed R c p) ≡ R.step p (d.done p) (d.hold p) (absorbed R d p)
  same_step = λ i. R.step p (same_done i) (same_held i) (same_got i)

  same_tell : R.tell p (c.done p) (c.hold p) (absorbed R c p) ≡ R.tell p (d.done p) (d.hold p) (absorbed R d p)
  same_tell = λ i. R.tell p (same_done i) (same_held i) (same_got i)

  same_send : (b : ℕ) → R.send p (c.done p) (c.hold p) (absorbed R c p) b ≡ R.send p (d.done p) (d.hold p) (absorbed R d p) b
  same_send b = λ i. R.send p (same_done i) (same_held i) (same_got i) b

  next_done : (x : ℕ) → x < R.parts → (advance R p c).done x ≡ (advance R p d).done x
  unfolding advance
  next_done x lt = elim (cases_Bool (eqb x p)) [ inl e ↦ rw e (ap (λ (t : ℕ). t + 1) same_done) | inr e ↦ rw e (shows.done x lt) ]

  next_hold : (x : ℕ) → x < R.parts → goes x ≡ true → (advance R p c).hold x ≡ (advance R p d).hold x
  unfolding advance
  next_hold x lt g = elim (cases_Bool (eqb x p)) [ inl e ↦ rw e same_step | inr e ↦ rw e (shows.hold x lt g) ]

  next_told : (x : ℕ) → x < R.parts → goes x ≡ true → (advance R p c).told x ≡ (advance R p d).told x
  unfolding advance
  next_told x lt g = elim (cases_Bool (eqb x p)) [ inl e ↦ rw e (λ i. shows.told p al.is_part on i ++ same_tell i) | inr e ↦ rw e (shows.told x lt g) ]

  rest_box : (a b : ℕ) → R.near a b ≡ true → goes b ≡ true → (if eqb b p && absorbs R c p a then rest (c.box a b) else c.box a b) ≡ (if eqb b p && absorbs R d p a then rest (d.box a b) else d.box a b)
  rest_box a b n g =
      let e = shows.box a b n g in
      λ i. if eqb b p && (R.near a p && nat_le (R.lag a p) (same_done i)) then rest (e i) else e i

  next_box : (a b : ℕ) → R.near a b ≡ true → goes b ≡ true → (advance R p c).box a b ≡ (advance R p d).box a b
  unfolding advance
  next_box a b n g =
      elim (cases_Bool (eqb a p && R.near p b)) [
        | inl e ↦ rw e (let f = shows.box a b n g in let z = same_send b in λ i. f i ++ z i ∷ [])
        | inr e ↦ rw e (rest_box a b n g)
      ]

  pub shows_next : Allowed R end p d × Shows R goes (advance R p c) (advance R p d)
  shows_next = (allowed, record { done = next_done; hold = next_hold; told = next_told; box = next_box })

-- a state that shows one that has what the day says has it too
pub kept_where : {H P E : Type 0} (R : Rule H P E) (there : (a b : ℕ) → R.near a b ≡ true → a < R.parts) (both : (a b : ℕ) → R.near a b ≡ R.near b a) (goes : ℕ → Bool)
    (hold : ℕ → ℕ → H) (out : ℕ → ℕ → ℕ → P) (own : ℕ → ℕ → List E) (c d : Core H P E) → Kept R hold out own d → Shows R goes c d → KeptWhere R goes hold out own c
kept_where R there both goes hold out own c d k shows =
    record {
      holds = λ p lt g. shows.hold p lt g ∙ k.holds p ∙ ap (hold p) (sym (shows.done p lt));
      tolds = λ p lt g. shows.told p lt g ∙ k.tolds p ∙ ap (own p) (sym (shows.done p lt));
      boxes = λ a b n g.
          let x = sym (shows.done a (there a b n)) in
          let y = sym (shows.done b (there b a (sym (both a b) ∙ n))) in
          shows.box a b n g ∙ k.boxes a b n ∙ (λ i. map (out a b) (numbers (y i - R.lag a b) (x i - (y i - R.lag a b))));
      close = λ a b n.
          let x = shows.done a (there a b n) in
          let y = shows.done b (there b a (sym (both a b) ∙ n)) in
          let le = k.close a b n in omega arith;
    }
