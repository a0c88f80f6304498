use Rattle.std.proofs.{Common.◌≡◌, Common.arith, Math.Nat.pos_of_dvd_of_pos}
use Rattle.std.proofs.lemmas.Nat.Gcd.{IsGcd-from_zero, IsGcd-from_mod, le_of_dvd}
use Rattle.signals.proofs.Numbers.{between_first, between_second, between_rest}
use Rattle.signals.proofs.arcs.common_divisor.Goals as goal

pub loop-smaller-init : goal.loop-smaller-init
loop-smaller-init c = record {
  divisor = λ g h. h;
  larger = between_first c.args.first c.args.second c.requires.second;
  smaller = between_second c.args.first c.args.second c.requires.first;
}

pub loop-smaller-preserved : goal.loop-smaller-preserved
loop-smaller-preserved c =
    let so_far = c.loop-smaller.invariant in
    record {
      divisor = λ g h. so_far.divisor g (IsGcd-from_mod c.loop-smaller.larger c.loop-smaller.smaller g h);
      larger = so_far.smaller;
      smaller = between_rest c.args.first c.args.second c.loop-smaller.larger c.loop-smaller.smaller so_far.larger so_far.smaller;
    }

pub returns-clause-divisor : goal.returns-clause-divisor
returns-clause-divisor c =
    let none : c.loop-smaller.smaller ≡ 0 = omega arith in
    c.loop-smaller.invariant.divisor c.loop-smaller.larger (IsGcd-from_zero c.loop-smaller.larger c.loop-smaller.smaller none)

pub returns-clause-some : goal.returns-clause-some
returns-clause-some c = pos_of_dvd_of_pos (returns-clause-divisor c).0 c.requires.first

pub returns-clause-most : goal.returns-clause-most
returns-clause-most c = le_of_dvd c.requires.first (returns-clause-divisor c).0
