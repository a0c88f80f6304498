use Rattle.std.{proofs.Common.◌≡◌, proofs.Common.◌++◌, proofs.Common.drop, specs.List.flat_map, specs.List.zip}
use Rattle.day_scores.specs.Texts.{row_line}
use Rattle.day_scores.proofs.texts.scores_text.Given as goal

-- the lines so far and those of the persons from here on are all
abbrev pub invariant-loop-person : goal.invariant-loop-person
invariant-loop-person l =
    l.text.items ++ flat_map (row_line l.iteration) (zip (drop l.person l.persons) (zip (drop l.person l.chosen) (drop l.person l.scores)))
    ≡ flat_map (row_line l.iteration) (zip l.persons (zip l.chosen l.scores))
