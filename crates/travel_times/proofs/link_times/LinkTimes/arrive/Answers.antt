use Rattle.std.proofs.Common.{rules, arith, ◌≡◌, ◌+◌, ◌<◌, ℕ, List, length, map, ap, sym, ◌∙◌, subst}
use Rattle.std.specs.Prelude.{slice_index}
use Rattle.travel_times.proofs.{Arriving.arrival_in_order, Arriving.read_arrival, Steadying.steady_arrival}
use Rattle.travel_times.specs.{Steadily.steady_of, Times.LinkProfile, Times.time_in, Times.profile_at, Times.arrivals}
use Rattle.travel_times.proofs.link_times.LinkTimes.arrive.Goals as goal

quick : (c : goal.After-from) → c.args.second + c.from.result ≡ arrivals c.args.self.now c.args.link c.args.second
quick c =
    let table : c.deref.result.now ≡ map steady_of c.args.self.now =
    c.deref.ensures.value ∙ c.self.invariant ∙ ap (map steady_of) c.self.view_is in
    let seconds : c.from.result ≡ slice_index (map steady_of c.args.self.now) c.args.link =
    c.from.ensures ∙ c.seconds_at-steady.ensures ∙ ap (λ (ls : List ℕ). slice_index ls c.args.link) table in
    steady_arrival c.args.self.now c.args.link c.args.second c.from.result c.requires.link seconds (omega arith)

pub returns-then-steady-gt0-clause-value : goal.returns-then-steady-gt0-clause-value
returns-then-steady-gt0-clause-value c = quick c

pub returns-then-steady-gt0-clause-in_order : goal.returns-then-steady-gt0-clause-in_order
returns-then-steady-gt0-clause-in_order c earlier before =
    let is = quick c in
    let order = arrival_in_order (time_in (profile_at c.args.self.now c.args.link)) earlier c.args.second before in
    omega arith

pub returns-clause-in_order : goal.returns-clause-in_order
returns-clause-in_order c earlier before =
    let is : c.arrive.result ≡ arrivals c.args.self.now c.args.link c.args.second =
    read_arrival c.args.self.now c.args.link c.args.second c.arrive.result c.index-profile.result.now c.requires.link
    (search rules) c.arrive.ensures.value in
    let order = arrival_in_order (time_in (profile_at c.args.self.now c.args.link)) earlier c.args.second before in
    omega arith
