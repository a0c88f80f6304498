use Rattle.std.proofs.Common.{arith, ◌≤◌, List, length, take}
use Rattle.std.{proofs.lemmas.List.length-map, proofs.lemmas.List.length-take-le, specs.Prelude.slice_index_or}
use Rattle.travel_times.proofs.Binning.{makes_profile, seen_is}
use Rattle.travel_times.specs.{Binned.tallies_of, Tallies.no_tally, declared.tallies.Tally.Tally}
use Rattle.travel_times.proofs.seen.seen_profile.Goals as goal

pub invariant_of-result : goal.invariant_of-result
invariant_of-result c =
    let front : List (List Tally) = take c.seen_bins-seen.result c.args.rows.now in
    let few : length (tallies_of c.args.link front) ≤ 4772186 =
    let mapped = length-map front (λ (row : List Tally). slice_index_or row c.args.link no_tally) in
    let cut = length-take-le c.seen_bins-seen.result c.args.rows.now c.seen_bins-seen.ensures.within in
    omega arith in
    makes_profile (record { free = c.args.free; bins = c.in_ok-bins.bins })
    (tallies_of c.args.link front) c.in_ok-bins.ensures c.requires.free few

pub returns : goal.returns
returns c =
    seen_is c.args.link c.seen_bins-seen.result c.args.rows.now
    (record { free = c.args.free; bins = c.in_ok-bins.bins }) c.seen_bins-seen.ensures.within c.seen_bins-seen.ensures.unseen
    c.in_ok-bins.ensures
