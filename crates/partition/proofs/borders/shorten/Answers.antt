use Rattle.std.proofs.Common.{sym, subst, set, min, get_or}
use Rattle.partition.{proofs.Tables.shortened_once, specs.Neighbours.AreShorter, specs.Neighbours.shortened}
use Rattle.partition.proofs.borders.shorten.Goals as goal

pub returns : goal.returns
returns c =
    let old = c.args.lags.now in
    let from = c.args.from in
    let to = c.args.to in
    let seconds = c.args.seconds in
    subst (λ m. AreShorter (shortened from to seconds) old (set old c.place_of-place.result m)) (sym c.min.ensures)
    (subst (λ a. AreShorter (shortened from to seconds) old (set old a (min seconds (get_or old a 0)))) (sym c.place_of-place.ensures.value)
    (shortened_once from to seconds old c.requires.from c.requires.to c.requires.long))
