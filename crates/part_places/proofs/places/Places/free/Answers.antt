use Rattle.std.{proofs.Common.ℕ, proofs.Common.◌-◌, proofs.Common.List, proofs.Common.ap, proofs.Common.◌∙◌, specs.Prelude.filter}
use Rattle.node_move.specs.{Entries.fewer, Spaces.places_in, Spaces.holes_in}
use Rattle.part_places.proofs.Freed.{freed_is, full_is}
use Rattle.part_places.specs.{Taking.is_full_in, Taking.times, declared.places.Places.Places}
use Rattle.part_places.proofs.places.Places.free.Goals as goal

pub returns-clause-places : goal.returns-clause-places
returns-clause-places c = λ begins count end T lt h.
    let was = c.args.self.now in
    let now : Places = record {
      space = c.free_all.new.space;
      freed = c.take.new.self;
    } in
    let d = c.deref-2.ensures.value in
    freed_is begins count end c.args.second T was now c.in_ok-links.links.items lt c.in_ok-links.ensures.due c.in_ok-links.ensures.rest
    (λ m. c.free_all.ensures.space m ∙ ap (λ (ns : List ℕ). fewer (times m ns) (places_in was.space m)) d)
    (λ m. c.free_all.ensures.holes m ∙ ap (λ (ns : List ℕ). holes_in was.space m - times m ns) d) h

pub returns-clause-full : goal.returns-clause-full
returns-clause-full c = λ begins count end T lt h.
    full_is begins count end c.args.second T c.args.self.now c.in_ok-links.links.items c.in_ok-full.full.items lt c.in_ok-links.ensures.due
    (c.in_ok-full.ensures ∙ ap (filter (is_full_in c.args.self.now.space)) c.deref.ensures.value) h

pub returns-clause-links : goal.returns-clause-links
returns-clause-links c =
    c.in_ok-full.ensures ∙ ap (filter (is_full_in c.args.self.now.space)) (c.deref.ensures.value ∙ c.in_ok-links.ensures.due)
