use Rattle.std.proofs.Common.{◌≡◌, take}
use Rattle.router.proofs.search.options_of.Given as goal

abbrev pub invariant-loop-label : goal.invariant-loop-label
invariant-loop-label l = l.options.items ≡ take l.label-index l.labels
