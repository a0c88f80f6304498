-- A plan is closed behind an activity.
use Rattle.records.proofs.Common.{◌≡◌, List, ap, [], None, ◌++◌, ◌∷◌, true, list_all}
use Rattle.std.{proofs.lemmas.Bool.and_parts, specs.Cmp.Derive.both_true}
use Rattle.rows.specs.{Plan.has_end, Plan.is_open, Plan.are_acts, declared.plan.Act.Act}

-- activities that have an end, and then one that has none
pub are_acts_closed : (acts : List Act) (last : Act) → last.end ≡ None → list_all has_end acts ≡ true → are_acts (acts ++ last ∷ []) ≡ true
unfolding are_acts
are_acts_closed [] last none ends = ap is_open none
are_acts_closed (act ∷ []) last none ends = both_true (and_parts (has_end act) true ends).0 (ap is_open none)
are_acts_closed (act ∷ next ∷ acts) last none ends =
    let parts = and_parts (has_end act) _ ends in both_true parts.0 (are_acts_closed (next ∷ acts) last none parts.1)
