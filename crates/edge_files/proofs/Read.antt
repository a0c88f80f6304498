-- How reads go on.
use Rattle.std.proofs.Common.{ℕ, ◌+◌, ◌≤◌, List, ◌++◌, length, take, Option, length-append, length-take, arith}
use Rattle.std.{proofs.KnownBytes.Consumes-trans, specs.Io.KnownBytes.Consumes}
use Rattle.edge_files.specs.Inputs.{TakesAtMost}

pub takes_more : (a b c : Option (List ℕ)) (xs ys : List ℕ) (n limit : ℕ) → Consumes a b xs → Consumes b c (take n ys) → length xs + n ≤ limit → TakesAtMost a c limit
takes_more a b c xs ys n limit first second within = record {
  taken = xs ++ take n ys;
  took = Consumes-trans a b c xs (take n ys) first second;
  within = omega (arith, length-append xs (take n ys), length-take n ys, within);
}
