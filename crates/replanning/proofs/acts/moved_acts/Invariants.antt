use Rattle.std.{proofs.Common.◌≡◌, proofs.Common.map, proofs.Common.take, specs.List.enumerate_from}
use Rattle.replanning.specs.Acts.{moved_act}
use Rattle.replanning.proofs.acts.moved_acts.Given as goal

abbrev pub invariant-loop-place : goal.invariant-loop-place
invariant-loop-place l = l.moved.items ≡ map (moved_act l.range l.end l.words) (enumerate_from 0 (take l.place l.acts))
