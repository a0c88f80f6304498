use Rattle.std.proofs.Common.{arith, ◌<◌, None, [], length, refl, subst, sym, ap, ◌∙◌}
use Rattle.std.proofs.lemmas.List.{get_or_read}
use Rattle.travel_times.{proofs.Arriving.arrivals_are_fifo, specs.Times.arrivals}
use Rattle.walks.specs.{Certificates.AreSmall, Chosen.followed, Rounds.Labels}
use Rattle.router.{proofs.Answering.small_labels, proofs.Answering.way_is, proofs.Answering.no_way_is, specs.Searches.asked}
use Rattle.router.proofs.search.settled_way.Goals as goal

pub returns-in_default : goal.returns-in_default
returns-in_default c =
    let here : c.args.to < length c.args.frontier.now.labels.items = let count = c.requires.search.search.count in let to = c.requires.to
    in omega arith in
    no_way_is (asked c.args.adjacency.now c.args.times.now c.args.frontier.now) c.args.frontier.now c.requires.inside
    c.requires.from refl refl c.args.to c.requires.settled
    (sym (get_or_read c.args.frontier.now.labels.items c.args.to c.index.result.now here c.index.ensures None) ∙ sym c.get.ensures ∙ c.in_default.is)

pub followed_back-requires-clause-small : goal.followed_back-requires-clause-small
followed_back-requires-clause-small c =
    let P : Labels → Type 0 = λ ls. AreSmall ls in
    subst P (sym c.deref.ensures.value)
    (small_labels c.args.adjacency.now.nodes c.args.adjacency.now.ends (arrivals c.args.times.now) c.args.frontier.now []
    (arrivals_are_fifo c.args.times.now) c.requires.few c.requires.search)

pub returns : goal.returns
returns c =
    let here : c.args.to < length c.args.frontier.now.labels.items = let count = c.requires.search.search.count in let to = c.requires.to
    in omega arith in
    way_is (asked c.args.adjacency.now c.args.times.now c.args.frontier.now) c.args.frontier.now c.requires.inside c.requires.from
    refl refl c.args.to c.requires.settled c.in_ok-rows.rows.items c.in-Some.arrival
    (sym (get_or_read c.args.frontier.now.labels.items c.args.to c.index.result.now here c.index.ensures None) ∙ sym c.get.ensures ∙ c.in-Some.is)
    (c.in_ok-rows.ensures ∙ ap (λ (ls : Labels). followed c.args.adjacency.now.ends (arrivals c.args.times.now) ls
    c.args.frontier.now.from c.args.adjacency.now.nodes c.args.to) c.deref.ensures.value)
