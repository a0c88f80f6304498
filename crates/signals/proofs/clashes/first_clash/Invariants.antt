use Rattle.std.{proofs.Common.◌≡◌, proofs.Common.length, proofs.Common.true, specs.List.list_all, specs.Prelude.find}
use Rattle.signals.specs.Signals.{is_among, is_clash}
use Rattle.signals.proofs.clashes.first_clash.Given as goal

abbrev pub invariant-loop-rest : goal.invariant-loop-rest
invariant-loop-rest l = record {
  found : find (is_clash l.greens) l.rest ≡ find (is_clash l.greens) l.conflicts;
  there : list_all (is_among (length l.greens)) l.rest ≡ true;
}

abbrev pub decreases-loop-rest : goal.decreases-loop-rest
decreases-loop-rest l = length l.rest
