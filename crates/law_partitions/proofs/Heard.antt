-- What p holds is short of late rows alone.
use Rattle.traffic.proofs.Common.{◌≡◌, ℕ, List, ◌∙◌, length, ap, refl, sym, [], arith, ◌<◌, true, ◌++◌, inl, inr, ◌≤◌, false, eqb, ◌-◌, append-nil, take}
use Rattle.traffic.proofs.Common.{cases_Bool, eqb-true, and_parts, true≢false, ltb-true, not, ◌&&◌, if◌then◌else◌, world_at, at, rank, holes_at, Setup, hole_of}
use Rattle.traffic.{proofs.Common.seconds_of, specs.declared.stage.Stage.Stage, specs.declared.stage.Stage.TheVariants.Queue}
use Rattle.traffic.specs.declared.{stage.Stage.TheVariants.Buffer, stage.Stage.TheVariants.Wait, stage.Stage.TheVariants.Bay, world.Row.Row}
use Rattle.parts.specs.Owners.{Owner, owner_of, begins_in, crosses, owner_of_person, lag}
use Rattle.parts.specs.Parts.{came_last, down, up, late_rows, known_list, is_person, knows_of, has, unheard}
use Rattle.law_one_place.proofs.Turns.{always_kept}
use Rattle.law_partitions.proofs.Begins.{Ready}
use Rattle.law_partitions.proofs.History.{known, came_last-late, known_tail, came_none, in_force-last, in_force-lasting}
use Rattle.law_partitions.proofs.{Lags.seconds_some, Lags.hole_some, Lags.in_range, Lags.lag-down, Lags.lag-up, Lags.LongHops, Lags.lag-some, Second.take_front}

pub crossing : (S : Setup) (own : Owner) (p l : ℕ) → eqb (owner_of S own l) p ≡ true → crosses S own l ≡ not (eqb (begins_in S own l) p)
crossing S own p l e = ap (λ x. not (eqb (begins_in S own l) x)) (eqb-true (owner_of S own l) p e)

pub not_crossing : (S : Setup) (own : Owner) (p l : ℕ) → eqb (owner_of S own l) p ≡ true → eqb (begins_in S own l) p ≡ true → crosses S own l ≡ false
not_crossing S own p l e g = crossing S own p l e ∙ ap not g

-- numbers of seconds that a part may not have heard of, when it does its second
pub record Within (S : Setup) (own : Owner) (k : ℕ → ℕ → ℕ) : Type 0 where
  pub down_to : (l : ℕ) → crosses S own l ≡ true → k (begins_in S own l) (owner_of S own l) < seconds_of S l
  pub up_to : (l : ℕ) → crosses S own l ≡ true → k (owner_of S own l) (begins_in S own l) < hole_of S l

pub within : (S : Setup) (own : Owner) → LongHops S → Within S own (λ q p. lag S own q p - 1)
within S own long = record {
  down_to = λ l c. let e = lag-down S own l c in let f = lag-some S own long (begins_in S own l) (owner_of S own l) in omega arith;
  up_to = λ l c. let e = lag-up S own l c in let f = lag-some S own long (owner_of S own l) (begins_in S own l) in omega arith;
}

pub down_less : (S : Setup) (own : Owner) (k : ℕ → ℕ → ℕ) → Within S own k → (l : ℕ) → down S own k l < seconds_of S l
down_less S own k h l = elim (cases_Bool (crosses S own l)) [ inl c ↦ let e = h.down_to l c in rw c e | inr c ↦ rw c (seconds_some S l) ]

pub up_less : (S : Setup) (own : Owner) (k : ℕ → ℕ → ℕ) → Within S own k → (l : ℕ) → up S own k l < hole_of S l
up_less S own k h l = elim (cases_Bool (crosses S own l)) [ inl c ↦ let e = h.up_to l c in rw c e | inr c ↦ rw c (hole_some S l) ]

pub known_whole : (S : Setup) (l t : ℕ) → known S t 0 l ≡ at l Queue (world_at S t)
known_whole S l t =
    let q = at l Queue (world_at S t) in
    ap (λ (xs : List Row). take (length q - length xs) q) (came_none S l t)
    ∙ ap (λ (xs : List Row). take (length xs - length {A = Row} []) xs) (sym (append-nil q)) ∙ take_front q []

known_nothing : (S : Setup) (l t : ℕ) → at l Queue (world_at S t) ≡ known S t 0 l ++ came_last S l t 0
known_nothing S l t = sym (ap (λ xs. known S t 0 l ++ xs) (came_none S l t) ∙ append-nil (known S t 0 l) ∙ known_whole S l t)

-- what the end of a link knows of its queue, and what it does not
pub known_and : (S : Setup) (own : Owner) (k : ℕ → ℕ → ℕ) (l t : ℕ) → down S own k l ≤ seconds_of S l → at l Queue (world_at S t) ≡ known S t (down S own k l) l ++ came_last S l t (down S own k l)
known_and S own k l t h =
    elim (cases_Bool (crosses S own l)) [
      | inl c ↦ known_tail S l t (down S own k l) (in_range S own l c) h
      | inr c ↦ let d : down S own k l ≡ 0 = rw c refl in rw d (known_nothing S l t)
    ]

abbrev pub late_of : Setup → Owner → (ℕ → ℕ → ℕ) → ℕ → ℕ → ℕ → List Row
late_of S own k p t l = if eqb (begins_in S own l) p then [] else late_rows S own k t l

known_else : (S : Setup) (own : Owner) (k : ℕ → ℕ → ℕ) (t l : ℕ) (s : Stage) → eqb (rank s) 0 ≡ false → known_list S own k t l s ≡ at l s (world_at S t)
known_else S own k t l Queue e = absurd (true≢false e)
known_else S own k t l Buffer e = refl
known_else S own k t l Wait e = refl
known_else S own k t l Bay e = refl

-- what p holds is enough for its second
pub heard : (S : Setup) (own : Owner) (k : ℕ → ℕ → ℕ) (p t : ℕ) → Within S own k → Ready S own p t (late_of S own k p t) (has S own k p t) (world_at S t) (unheard S own k p t)
unfolding unheard
heard S own k p t h = record {
  queue = λ l e. elim (cases_Bool (eqb (begins_in S own l) p)) [
    | inl g ↦ let c = not_crossing S own p l e g in simp (e, g, c) (sym (append-nil (known S t 0 l) ∙ known_whole S l t))
    | inr g ↦ let r = down_less S own k h l in let z = known_and S own k l t (omega arith) in rw (e, g) z
  ];
  here = λ l g. rw g refl;
  not_due = λ l. elim (cases_Bool (eqb (begins_in S own l) p)) [ inl g ↦ rw g tt | inr g ↦ rw g (came_last-late S l t (down S own k l) (down_less S own k h l)) ];
  list = λ l s z e. rw e (known_else S own k t l s z);
  credit = λ l e. rw e refl;
  taken = λ m g.
      let u = up S own k m in
      let lt = up_less S own k h m in
      let a = in_force-last S m t t u (omega arith) in
      let b = in_force-lasting t (hole_of S m) (holes_at m (world_at S (t - u))) in
      rw g (omega arith);
  person = λ i. refl;
  few = (always_kept S t).one_row;
  there = λ i e. ltb-true i (length S.persons) (and_parts (is_person S i) ((eqb (owner_of_person S own (world_at S t) i) p) && knows_of S own k p t i) e).0;
}
