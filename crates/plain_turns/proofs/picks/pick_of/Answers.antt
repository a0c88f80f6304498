use Rattle.traffic.{proofs.Common.◌≡◌, proofs.Common.ap, proofs.Common.arith, proofs.Common.sum, proofs.Common.map, specs.Nodes.weight_of}
use Rattle.plain_turns.proofs.Drawing.{sum_least, sum_most}
use Rattle.plain_turns.proofs.picks.pick_of.Goals as goal

pub pick-requires-clause-some : goal.pick-requires-clause-some
pick-requires-clause-some c =
    let e : sum c.args.weights.now ≡ sum (map weight_of c.args.in_links.now) = ap sum c.requires.weights in
    let h = sum_least c.args.in_links.now c.requires.are in omega arith

pub pick-requires-clause-fits : goal.pick-requires-clause-fits
pick-requires-clause-fits c =
    let e : sum c.args.weights.now ≡ sum (map weight_of c.args.in_links.now) = ap sum c.requires.weights in
    let h = sum_most c.args.in_links.now c.requires.are in omega arith
