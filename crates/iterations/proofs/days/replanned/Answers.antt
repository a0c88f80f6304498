use Rattle.std.proofs.Common.{ℕ, length, refl, sym, ◌∙◌, ap, subst}
use Rattle.router.{proofs.LegWays.ends_count, specs.Graphs.Graph}
use Rattle.travel_times.specs.Observed.{AreOnLinks}
use Rattle.iterations.{proofs.Basing.all_on, proofs.Basing.replanned_as, specs.Views.run_rows}
use Rattle.iterations.proofs.days.replanned.Goals as goal

pub seen-requires-clause-known : goal.seen-requires-clause-known
seen-requires-clause-known g c = (c.requires.known.0, c.requires.known.1.known)

pub seen-requires-clause-links : goal.seen-requires-clause-links
seen-requires-clause-links g c = c.requires.known.1.count

pub replan-requires-clause-basis : goal.replan-requires-clause-basis
replan-requires-clause-basis g c κs within =
    let links = c.args.run.now.town.now.network.links in
    record {
      times = c.in_ok-times.ensures.count ∙ sym (ends_count links) ∙ sym (ap (λ (n : Graph). length n.ends) c.requires.network);
      basis = record { learning = c.requires.can.learning; end_second = c.args.run.now.town.now.sound.settings.ends };
    }

pub replan-requires-clause-on : goal.replan-requires-clause-on
replan-requires-clause-on g c κs within =
    all_on (run_rows c.args.run.now) (length c.args.adjacency.now.ends) c.args.memories.items c.requires.can
    (ap (λ (n : Graph). length n.ends) c.requires.network ∙ ends_count c.args.run.now.town.now.network.links)

pub returns : goal.returns
returns g c = λ events observed.
    replanned_as (run_rows c.args.run.now) c.args.iteration c.args.adjacency.now c.in_ok-times.times events events
    c.args.memories.items c.in_ok-new.new.items c.requires.network refl c.in_ok-times.ensures.count
    (subst (λ (n : ℕ). AreOnLinks n events) observed.count observed.on_links)
    (λ link second lt. c.in_ok-times.ensures.arrivals events observed.known link second lt) c.in_ok-new.ensures
