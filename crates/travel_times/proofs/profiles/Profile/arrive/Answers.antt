use Rattle.std.proofs.Common.{rules, arith, ◌≡◌, ℕ, suc, ◌+◌, length, ap, ◌∙◌}
use Rattle.travel_times.proofs.{Arriving.arrival_later, Arriving.least_time, Held.free_is, Held.binned_read}
use Rattle.travel_times.specs.Times.{LinkProfile, time_in, arrival_by}
use Rattle.travel_times.proofs.profiles.Profile.arrive.Goals as goal

pub returns-in_default-clause-value : goal.returns-in_default-clause-value
returns-in_default-clause-value c =
    let none : length c.self.inside.bins.items ≡ 0 = search rules in
    ap (λ (n : ℕ). c.args.second + n) c.from.ensures ∙ free_is c.self.inside c.args.second c.self.invariant none
    ∙ ap (λ (p : LinkProfile). arrival_by (time_in p) c.args.second) c.self.view_is

value_is : (c : goal.After-max) → c.max.result ≡ arrival_by (time_in c.args.self.now) c.args.second
value_is c =
    let count : c.len.result ≡ length c.self.inside.bins.items = search rules in
    let some : suc c.in-Some.last ≡ length c.self.inside.bins.items = let from_len = c.in-Some.ensures in omega arith in
    binned_read c.self.inside c.args.second c.in-Some.last c.min-place.result c.from-2.result c.from-3.result c.max.result
    c.index.result.now c.self.invariant some
    c.min-place.ensures c.index.ensures c.from-2.ensures c.from-3.ensures c.max.ensures
    ∙ ap (λ (p : LinkProfile). arrival_by (time_in p) c.args.second) c.self.view_is

pub returns-clause-value : goal.returns-clause-value
returns-clause-value c = value_is c

pub returns-clause-later : goal.returns-clause-later
returns-clause-later c =
    let is = value_is c in
    let later = arrival_later (time_in c.args.self.now) c.args.second (least_time c.args.self.now) in
    omega arith
