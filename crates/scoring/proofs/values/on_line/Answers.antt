use Rattle.std.proofs.Common.{◌≡◌, ◌-◌, ◌≤◌, pos, ◌-ℤ◌, ◌*ℤ◌, arith}
use Rattle.std.specs.Int.{int_div_euclid}
use Rattle.scoring.proofs.Lines.{rise_same, seconds_same, product_fits, product_same, point_second, line_fits, line_same}
use Rattle.scoring.proofs.values.on_line.Goals as goal

pub overflow_mul-rise : goal.overflow_mul-rise
overflow_mul-rise c =
    let last : c.args.to.0 ≤ 1000000 = point_second c.args.to c.requires.to_in in
    let few : c.args.seconds - c.args.from.0 ≤ 1000000 = omega (arith, c.requires.not_passed) in
    rw (rise_same c.args.from c.args.to c.requires.from_in c.requires.to_in, seconds_same (c.args.seconds - c.args.from.0) c.from.result few c.from.ensures)
    (product_fits c.args.from c.args.to (c.args.seconds - c.args.from.0) c.requires.from_in c.requires.to_in few)

pub overflow_add-result : goal.overflow_add-result
overflow_add-result c =
    let last : c.args.to.0 ≤ 1000000 = point_second c.args.to c.requires.to_in in
    let few : c.args.seconds - c.args.from.0 ≤ 1000000 = omega (arith, c.requires.not_passed) in
    let run : c.args.to.0 - c.args.from.0 ≤ 1000000 = omega arith in
    let q : c.div_euclid.result ≡ int_div_euclid ((c.args.to.1 -ℤ c.args.from.1) *ℤ pos (c.args.seconds - c.args.from.0)) (pos (c.args.to.0 - c.args.from.0)) =
    rw (
      rise_same c.args.from c.args.to c.requires.from_in c.requires.to_in,
      seconds_same (c.args.seconds - c.args.from.0) c.from.result few c.from.ensures,
      product_same c.args.from c.args.to (c.args.seconds - c.args.from.0) c.requires.from_in c.requires.to_in few,
      seconds_same (c.args.to.0 - c.args.from.0) c.from-2.result run c.from-2.ensures,
    ) at c.div_euclid.ensures in
    line_fits c.args.from c.args.to c.args.seconds c.div_euclid.result c.requires.from_in c.requires.to_in c.requires.reached c.requires.not_passed q

pub returns : goal.returns
returns c =
    let last : c.args.to.0 ≤ 1000000 = point_second c.args.to c.requires.to_in in
    let few : c.args.seconds - c.args.from.0 ≤ 1000000 = omega (arith, c.requires.not_passed) in
    let run : c.args.to.0 - c.args.from.0 ≤ 1000000 = omega arith in
    let q : c.div_euclid.result ≡ int_div_euclid ((c.args.to.1 -ℤ c.args.from.1) *ℤ pos (c.args.seconds - c.args.from.0)) (pos (c.args.to.0 - c.args.from.0)) =
    rw (
      rise_same c.args.from c.args.to c.requires.from_in c.requires.to_in,
      seconds_same (c.args.seconds - c.args.from.0) c.from.result few c.from.ensures,
      product_same c.args.from c.args.to (c.args.seconds - c.args.from.0) c.requires.from_in c.requires.to_in few,
      seconds_same (c.args.to.0 - c.args.from.0) c.from-2.result run c.from-2.ensures,
    ) at c.div_euclid.ensures in
    line_same c.args.from c.args.to c.args.seconds c.div_euclid.result c.requires.from_in c.requires.to_in c.requires.reached c.requires.not_passed q
