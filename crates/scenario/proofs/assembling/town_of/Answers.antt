use Rattle.scenario.proofs.Common.{◌≡◌, List, ℕ, sym, ap, length, subst, true, list_all, ends_of}
use Rattle.events.specs.declared.event.Book.{Book}
use Rattle.rows.specs.Schedules.{is_route}
use Rattle.scenario.proofs.assembling.town_of.Goals as goal

pub invariant_of-result : goal.invariant_of-result
invariant_of-result c =
    let network = c.args.network in
    let schedule = c.args.schedule in
    let is = c.requires.schedule in
    let lines = ap (λ (b : Book). b.lines) c.requires.book in
    record {
      sound = record {
        settings = c.args.settings.in_range;
        few_persons = c.requires.few;
        few_links = network.few_links;
        links = network.sound;
        few_stops = is.few_stops;
        stops = is.stops;
        few_routes = is.few_routes;
        routes = subst (λ (names : List (List ℕ)). list_all (is_route (length names) (length network.links) (ends_of network.links) schedule.stops.rows) schedule.routes.rows ≡ true) (sym lines) is.routes;
        few_departures = is.few_departures;
        departures = is.departures;
        greens = c.requires.greens;
      };
      named = record {
        links = ap (λ (b : Book). b.links) c.requires.book;
        stops = ap (λ (b : Book). b.stops) c.requires.book;
        lines = lines;
        departures = ap (λ (b : Book). b.departures) c.requires.book;
      };
    }
