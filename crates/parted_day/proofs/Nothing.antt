-- A parcel in which nothing goes.
use Rattle.traffic.proofs.Common.{◌≡◌, ℕ, List, ◌∙◌, ap, refl, sym, subst, append-nil, length, get_or, Option, Some}
use Rattle.town.specs.{Views.setup, declared.day_input.DayInput.DayInput}
use Rattle.parts.specs.{Owners.Owner, Parts.held}
use Rattle.law_parcels.specs.Hearing.{heard_persons}
use Rattle.law_partitions.specs.Alone.{person_in}
use Rattle.law_parts_of_days.specs.Settling.{queued_in}
use Rattle.queue_link.specs.Links.{LinkView}
use Rattle.node_seconds.specs.Networks.{lane, accepted_all, wakes_after_all}
use Rattle.part_links.specs.Links.{AreAsleep}
use Rattle.part_places.specs.Taking.{begins_here}
use Rattle.part_seconds.{proofs.Coming.come_next, proofs.Coming.come_none, specs.Contents.parcel_of, specs.Freed.heard_all, specs.Freed.CanHearAll}
use Rattle.part_seconds.specs.{Parcels.nothing, Settling.places_known, Settling.put_queues, declared.area.Area.Area, declared.contents.Contents.Contents}
use Rattle.parted_day.specs.Absorbed.{places_heard, HasAbsorbedParcel, HasAbsorbed}

pub none_come : (day : DayInput) (slots : List ℕ) (s : ℕ) (A : Area) → length A.persons.wakes ≡ length A.persons.world.persons
    → HasAbsorbedParcel day slots s nothing A A
unfolding accepted_all wakes_after_all heard_all put_queues
none_come day slots s A wakes = record {
  persons = come_none day (λ i. person_in i s (Some (parcel_of (setup day) s nothing))) A.persons wakes (λ i lt. refl);
  departures = refl;
  lines = refl;
  links = refl;
  wakes = refl;
  places = λ begins u T can taken. taken;
  nodes = refl;
  queues = refl;
}

-- the part is then as it was
pub nothing_comes : (day : DayInput) (slots : List ℕ) (s : ℕ) (x : Contents) (A : Area) → x ≡ nothing
    → length A.persons.wakes ≡ length A.persons.world.persons
    → HasAbsorbedParcel day slots s x A A
nothing_comes day slots s x A e wakes =
    subst (λ (y : Contents). HasAbsorbedParcel day slots s y A A) (sym e) (none_come day slots s A wakes)

-- it has absorbed what it had before
pub nothing_more : (day : DayInput) (own : Owner) (p t : ℕ) (ns slots : List ℕ) (s : ℕ) (old now new : Area)
    → HasAbsorbed day own p t ns old now
    → HasAbsorbedParcel day slots s nothing now new → HasAbsorbed day own p t ns old new
unfolding accepted_all wakes_after_all heard_all CanHearAll put_queues
nothing_more day own p t ns slots s old now new g e =
    let S = setup day in
    let end = day.town.now.settings.end_second in
    let links : new.network.links.items ≡ now.network.links.items = e.links in
    let wakes : new.network.link_wakes ≡ now.network.link_wakes = e.wakes in
    let queues : new.queues.items ≡ now.queues.items = e.queues in
    record {
      persons =
          come_next day (heard_persons S own p t ns) (λ i. person_in i s (Some (parcel_of S s nothing)))
          (heard_persons S own p t ns) old.persons now.persons new.persons g.persons e.persons
          (λ i. sym (append-nil (heard_persons S own p t ns i)));
      departures = e.departures ∙ g.departures;
      lines = e.lines ∙ g.lines;
      count = ap (λ (vs : List LinkView). length vs) links ∙ g.count;
      links = λ k lt. ap (λ (vs : List LinkView). lane vs k) links ∙ g.links k lt;
      asleep = λ a.
          subst (λ (vs : List LinkView). AreAsleep S.settings.dwell end t vs new.network.link_wakes) (sym links)
          (subst (λ (ws : List (Option ℕ)). AreAsleep S.settings.dwell end t now.network.links.items ws) (sym wakes) (g.asleep a));
      places = λ a. e.places (begins_here S own p) t (places_heard S own p t ns (places_known S (held S own p t))) tt (g.places a);
      nodes = e.nodes ∙ g.nodes;
      slots = ap (λ (qs : List ℕ). length qs) queues ∙ g.slots;
      queues = λ k lt first.
          ap (λ (qs : List ℕ). get_or qs k 0) queues ∙ g.queues k lt first
          ∙ ap (λ (vs : List LinkView). queued_in vs k) (sym links);
    }
