use Rattle.std.proofs.{Common.ℕ, Common.List, Common.ap, Common.length, Common.sym, Common.◌∙◌, Common.subst, Math.Path.fun_ext}
use Rattle.travel_times.{proofs.Binning.seen_time, proofs.Networks.all_move, specs.Tallies.HasRows, specs.Times.LinkProfile}
use Rattle.travel_times.specs.Times.{time_in, arrival_by, arrivals, profile_at}
use Rattle.travel_times.proofs.link_times.LinkTimes.seen.Goals as goal

pub seen_profiles-requires-clause-moving : goal.seen_profiles-requires-clause-moving
seen_profiles-requires-clause-moving c = all_move (length c.args.network.now.nodes) c.args.network.now.links c.args.network.now.sound

pub seen_profiles-requires-clause-rows : goal.seen_profiles-requires-clause-rows
seen_profiles-requires-clause-rows c =
    subst (λ (n : ℕ). HasRows n c.deref.result.now) c.requires.links
    (subst (HasRows c.args.known.now.links) (sym c.deref.ensures.value) c.requires.known.1.rows_kept)

pub returns-clause-times : goal.returns-clause-times
returns-clause-times c = λ events known link bin within.
    ap (λ (times : List LinkProfile). time_in (profile_at times link) bin) c.in_ok-times.ensures
    ∙ seen_time c.args.network.now.links events c.args.known.now.links c.args.known.now.rows.items c.deref.result.now
    c.args.known.now.entries.items link bin (profile_at c.in_ok-links.links.items link) c.deref.ensures.value known
    (c.in_ok-links.ensures.seen link within)

pub returns-clause-arrivals : goal.returns-clause-arrivals
returns-clause-arrivals c = λ events known link second within.
    ap (λ (times : List LinkProfile). arrivals times link second) c.in_ok-times.ensures
    ∙ ap (λ (time : ℕ → ℕ). arrival_by time second) (fun_ext (λ bin.
    seen_time c.args.network.now.links events c.args.known.now.links c.args.known.now.rows.items c.deref.result.now
    c.args.known.now.entries.items link bin (profile_at c.in_ok-links.links.items link) c.deref.ensures.value known
    (c.in_ok-links.ensures.seen link within)))
