-- Legs by a rule, leg by leg.
use Rattle.std.proofs.Common.{◌≡◌, ℕ, zero, suc, ◌+◌, ◌<◌, ◌≤◌, Bool, true, List, [], ◌∷◌, length, drop, get_or, refl, sym, ap, subst, arith}
use Rattle.std.proofs.lemmas.{Bool.and_from, Bool.and_parts, Bool.Decides.nat_tests, List.drop_all}
use Rattle.std.specs.{List.list_all, Prelude.nat_lt}
use Rattle.rows.specs.declared.plan.{Act.Act, Leg.Leg}
use Rattle.router.specs.Legs.{each_leg, are_on}

pub below_is : (n m : ℕ) → nat_lt n m ≡ true → n < m
below_is n m e = grind (arith, nat_tests)

module _ (rule : Act → ℕ → Leg → Leg) where
  leg_at : (acts : List Act) (legs : List Leg) (place : ℕ) (d e : Act) (leg : Leg)
      → length acts ≡ length legs + 1 → place < length legs → leg ≡ get_or legs place leg
      → each_leg rule (drop place acts) (drop place legs)
      ≡ rule (get_or acts place d) (get_or acts (suc place) e).link leg ∷ each_leg rule (drop (suc place) acts) (drop (suc place) legs)
  unfolding each_leg
  leg_at (a ∷ b ∷ acts) (l ∷ legs) zero d e leg count within leg_is =
      ap (λ (m : Leg). rule a b.link m ∷ each_leg rule (b ∷ acts) legs) (sym leg_is)
  leg_at (a ∷ acts) (l ∷ legs) (suc place) d e leg count within leg_is = leg_at acts legs place d e leg (omega arith) (omega arith) leg_is
  leg_at (a ∷ []) (l ∷ legs) zero d e leg count within leg_is = absurd (omega arith)
  leg_at [] (l ∷ legs) place d e leg count within leg_is = absurd (omega arith)
  leg_at acts [] place d e leg count within leg_is = absurd (omega arith)

  -- the leg at a place, and those behind it
  pub leg_more : (acts : List Act) (legs : List Leg) (place : ℕ) (d e : Act) (leg : Leg)
      → length acts ≡ length legs + 1 → place < length legs → leg ≡ get_or legs place leg
      → each_leg rule (drop place acts) (drop place legs)
      ≡ rule (get_or acts place d) (get_or acts (place + 1) e).link leg ∷ each_leg rule (drop (place + 1) acts) (drop (place + 1) legs)
  leg_more acts legs place d e leg count within leg_is =
      let next : suc place ≡ place + 1 = omega arith in
      let At : ℕ → Type 0 = λ k. each_leg rule (drop place acts) (drop place legs)
      ≡ rule (get_or acts place d) (get_or acts k e).link leg ∷ each_leg rule (drop k acts) (drop k legs) in
      subst At next (leg_at acts legs place d e leg count within leg_is)

  -- behind the last leg there is none
  pub none_left : (acts : List Act) (legs : List Leg) (place : ℕ) → length legs ≤ place → each_leg rule (drop place acts) (drop place legs) ≡ []
  unfolding each_leg
  none_left acts legs place done = ap (each_leg rule (drop place acts)) (drop_all place legs done)

  -- there are as many legs as before
  pub leg_count : (acts : List Act) (legs : List Leg) → length (each_leg rule acts legs) ≡ length legs
  unfolding each_leg
  leg_count [] [] = refl
  leg_count [] (leg ∷ legs) = refl
  leg_count (a ∷ []) [] = refl
  leg_count (a ∷ []) (leg ∷ legs) = refl
  leg_count (a ∷ b ∷ acts) [] = refl
  leg_count (a ∷ b ∷ acts) (leg ∷ legs) = ap suc (leg_count (b ∷ acts) legs)

  -- what the rule keeps of a leg between links of which there are so many, all legs keep
  pub leg_kept : (p : Leg → Bool) (links : ℕ)
      → ((here : Act) (there : ℕ) (leg : Leg) → here.link < links → there < links → p leg ≡ true → p (rule here there leg) ≡ true)
      → (acts : List Act) (legs : List Leg) → are_on links acts ≡ true → list_all p legs ≡ true → list_all p (each_leg rule acts legs) ≡ true
  unfolding each_leg
  leg_kept p links keeps [] [] on all = refl
  leg_kept p links keeps [] (leg ∷ legs) on all = all
  leg_kept p links keeps (a ∷ []) [] on all = refl
  leg_kept p links keeps (a ∷ []) (leg ∷ legs) on all = all
  leg_kept p links keeps (a ∷ b ∷ acts) [] on all = refl
  leg_kept p links keeps (a ∷ b ∷ acts) (leg ∷ legs) on all =
      let here = and_parts (nat_lt a.link links) (are_on links (b ∷ acts)) on in
      let there = and_parts (nat_lt b.link links) (are_on links acts) here.1 in
      let own = and_parts (p leg) (list_all p legs) all in
      and_from (p (rule a b.link leg)) (list_all p (each_leg rule (b ∷ acts) legs))
      (keeps a b.link leg (below_is a.link links here.0) (below_is b.link links there.0) own.0)
      (leg_kept p links keeps (b ∷ acts) legs here.1 own.1)
