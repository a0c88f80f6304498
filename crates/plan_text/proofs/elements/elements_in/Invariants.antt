use Rattle.records.proofs.Common.{◌≡◌, length, map, ◌++◌, parts_of}
use Rattle.plan_text.specs.Elements.{acts_in, legs_in}
use Rattle.plan_text.proofs.elements.elements_in.Given as goal

abbrev pub invariant-loop-rest : goal.invariant-loop-rest
invariant-loop-rest l = record {
  acts : l.read.acts.items ++ acts_in l.book (map (parts_of 44) (map (λ line. line.now) l.rest)) ≡ acts_in l.book (map (parts_of 44) (map (λ line. line.now) l.initial.rest));
  legs : l.read.legs.items ++ legs_in l.book (map (parts_of 44) (map (λ line. line.now) l.rest)) ≡ legs_in l.book (map (parts_of 44) (map (λ line. line.now) l.initial.rest));
}

abbrev pub decreases-loop-rest : goal.decreases-loop-rest
decreases-loop-rest l = length l.rest
