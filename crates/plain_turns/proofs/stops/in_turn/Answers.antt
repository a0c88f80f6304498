use Rattle.traffic.proofs.Common.{◌≡◌, sym, IsSortedByKey, IsStableByKey, reverse}
use Rattle.std.proofs.{Common.rules, lemmas.Fn.always_returns_same}
use Rattle.plain_turns.proofs.Sorting.{key_of, key_cmp, sorted_in_turn}
use Rattle.plain_turns.proofs.stops.in_turn.Goals as goal

pub returns : goal.returns
returns c =
    let computes = always_returns_same _ (λ a r. r ≡ key_of a.0.now) _ (λ a r q k. search rules) in
    let up : IsSortedByKey key_of key_cmp c.sort_by_key.new.self.items = c.in_ok-sort_by_key.ensures.sorted key_of computes in
    let alike : IsStableByKey key_of key_cmp (reverse c.args.waiters.items) c.sort_by_key.new.self.items = rw (sym c.reverse.ensures.items) (c.in_ok-sort_by_key.ensures.stable key_of computes) in
    sorted_in_turn c.args.waiters.items c.sort_by_key.new.self.items up alike
