-- Activities whose ends are moved are activities of a plan.
use Rattle.std.proofs.Common.{◌≡◌, ℕ, suc, ◌+◌, ◌≤◌, true, List, [], ◌∷◌, length, map, Option, None, Some, ℤ, refl, ap, arith}
use Rattle.std.proofs.lemmas.Bool.{and_from, and_parts, Decides.nat_tests}
use Rattle.std.specs.{List.enumerate_from, Option.option_map}
use Rattle.limits.specs.declared.TheConstants.{LAST_SECOND}
use Rattle.draws.specs.Words.{Source}
use Rattle.rows.specs.{Plan.is_end, Plan.has_end, Plan.is_open, Plan.are_acts, declared.plan.Act.Act}
use Rattle.replanning.specs.Acts.{moved, move_of, moved_act, moved_acts}

module _ (range end : ℕ) (words : Source) (within : end ≤ LAST_SECOND) where
  end_kept : (by : ℤ) (o : Option ℕ) → is_end o ≡ true → is_end (option_map (moved end by) o) ≡ true
  end_kept by None e = e
  end_kept by (Some second) e = grind (arith, nat_tests)

  open_kept : (by : ℤ) (o : Option ℕ) → is_open o ≡ true → is_open (option_map (moved end by) o) ≡ true
  open_kept by None e = refl
  open_kept by (Some second) e = e

  acts_from : (k : ℕ) (acts : List Act) → are_acts acts ≡ true → are_acts (map (moved_act range end words) (enumerate_from k acts)) ≡ true
  unfolding are_acts
  acts_from k [] e = e
  acts_from k (act ∷ []) e = open_kept (move_of range words k) act.end e
  acts_from k (act ∷ next ∷ acts) e =
      let parts = and_parts (has_end act) (are_acts (next ∷ acts)) e in
      and_from (has_end (moved_act range end words (k, act))) (are_acts (map (moved_act range end words) (enumerate_from (k + 1) (next ∷ acts))))
      (end_kept (move_of range words k) act.end parts.0) (acts_from (k + 1) (next ∷ acts) parts.1)

  pub moved_are_acts : (acts : List Act) → are_acts acts ≡ true → are_acts (moved_acts range end words acts) ≡ true
  unfolding moved_acts
  moved_are_acts acts e = acts_from 0 acts e

count_from : (range end : ℕ) (words : Source) (k : ℕ) (acts : List Act)
    → length (map (moved_act range end words) (enumerate_from k acts)) ≡ length acts
count_from range end words k [] = refl
count_from range end words k (act ∷ acts) = ap suc (count_from range end words (k + 1) acts)

pub moved_count : (range end : ℕ) (words : Source) (acts : List Act) → length (moved_acts range end words acts) ≡ length acts
unfolding moved_acts
moved_count range end words acts = count_from range end words 0 acts
