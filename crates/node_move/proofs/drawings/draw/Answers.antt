use Rattle.std.proofs.Common.{◌≡◌, ◌∙◌, ◌<◌, ◌+◌, ◌*◌, ℕ, List, length, refl, ap, sym, subst, arith}
use Rattle.std.specs.Prelude.{map, sum}
use Rattle.draws.specs.{Choices.pick, Words.word}
use Rattle.traffic.specs.{Lists.without_at, Nodes.weight_of, declared.moves.Move.Move, declared.node_views.InLink.InLink}
use Rattle.node_move.proofs.Drawing.{draws_lazily, draws_nobody, only_passes, one_pick, sum_least, sum_most, have_without, weights_without}
use Rattle.node_move.proofs.Places.{number_at, number_within, places_without, length_seen, length_without, seen_rest}
use Rattle.node_move.specs.{NodeStates.node_state, NodeStates.node_run, NodeStates.seen, NodeStates.ArePlaces, NodeStates.HaveWeights, Spaces.places_in}
use Rattle.node_move.proofs.drawings.draw.Goals as goal

pub returns-in-Nobody-clause-run : goal.returns-in-Nobody-clause-run
returns-in-Nobody-clause-run c =
    let t = c.args.turn.now in
    let N = node_state c.args.in_links.now (places_in c.args.space.now) c.args.crossings.now.entering.items c.args.crossings.now.removed.items c.args.said.now.items in
    let g = rw c.deref.ensures.value at c.in-Nobody.ensures.moves in
    sym (
    ap (λ (ms : List Move). node_run ms N) (draws_lazily t.draws t.stuck t.second c.args.in_links.now c.args.left.places.items (places_in c.args.space.now) c.requires.some)
    ∙ c.picks.invariant.run
    ∙ draws_nobody t.stuck t.second (word t.draws) (length c.picks.left.places.items) c.picks.number (seen c.picks.in_links c.picks.left.places.items)
    (places_in c.picks.space) (node_state c.picks.in_links (places_in c.picks.space) c.picks.crossings.entering.items c.picks.crossings.removed.items c.picks.said.items) g)

pub pass_at-requires-clause-within : goal.pass_at-requires-clause-within
pass_at-requires-clause-within c =
    let lt : c.in-Only.k < length c.picks.left.places.items = rw c.deref.ensures.value at (c.in-Only.ensures.within c.in-Only.k refl) in
    number_within (length c.picks.in_links) c.picks.left.places.items c.in-Only.k c.index.result.now c.picks.invariant.places lt
    (number_at c.picks.left.places.items c.in-Only.k c.index.result.now lt c.index.ensures)

pub returns-in-Only-clause-run : goal.returns-in-Only-clause-run
returns-in-Only-clause-run c =
    let t = c.args.turn.now in
    let N = node_state c.args.in_links.now (places_in c.args.space.now) c.args.crossings.now.entering.items c.args.crossings.now.removed.items c.args.said.now.items in
    let g = rw c.deref.ensures.value at c.in-Only.ensures.moves in
    let lt : c.in-Only.k < length c.picks.left.places.items = rw c.deref.ensures.value at (c.in-Only.ensures.within c.in-Only.k refl) in
    sym (
    ap (λ (ms : List Move). node_run ms N) (draws_lazily t.draws t.stuck t.second c.args.in_links.now c.args.left.places.items (places_in c.args.space.now) c.requires.some)
    ∙ c.picks.invariant.run
    ∙ only_passes t.stuck t.second (word t.draws) c.picks.number c.in-Only.k c.index.result.now c.picks.in_links c.picks.left.places.items
    (places_in c.picks.space) (node_state c.picks.in_links (places_in c.picks.space) c.picks.crossings.entering.items c.picks.crossings.removed.items c.picks.said.items)
    (node_state c.pass_at.new.in_links (places_in c.pass_at.new.space) c.pass_at.new.crossings.entering.items c.pass_at.new.crossings.removed.items c.pass_at.new.said.items) g lt (number_at c.picks.left.places.items c.in-Only.k c.index.result.now lt c.index.ensures)
    c.in_ok-pass_at-in-Only.ensures.run)

pub returns-in-Only-clause-holes : goal.returns-in-Only-clause-holes
returns-in-Only-clause-holes c = λ m. c.in_ok-pass_at-in-Only.ensures.holes m ∙ c.picks.invariant.holes m

pub take-place-requires-clause-some : goal.take-place-requires-clause-some
take-place-requires-clause-some c =
    let es = seen c.picks.in_links c.picks.left.places.items in
    let lt : 0 < length c.picks.left.places.items = rw c.deref.ensures.value at (c.in-Several.ensures.several refl) in
    let a = sum_least es c.picks.invariant.some in
    let n = length_seen c.picks.in_links c.picks.left.places.items in
    let e : sum c.picks.left.weights.items ≡ sum (map weight_of es) = ap sum c.picks.invariant.weights in
    omega arith

pub take-place-requires-clause-fits : goal.take-place-requires-clause-fits
take-place-requires-clause-fits c =
    let es = seen c.picks.in_links c.picks.left.places.items in
    let a = sum_most es c.picks.invariant.some in
    let n = length_seen c.picks.in_links c.picks.left.places.items in
    let e : sum c.picks.left.weights.items ≡ sum (map weight_of es) = ap sum c.picks.invariant.weights in
    let k = c.picks.invariant.count in
    omega arith

pub pass_at-requires-in-Several-clause-within : goal.pass_at-requires-in-Several-clause-within
pass_at-requires-in-Several-clause-within c =
    number_within (length c.picks.in_links) c.picks.left.places.items _ c.take-place.result c.picks.invariant.places c.take-place.ensures.within
    c.take-place.ensures.place

pub picks-smaller : goal.picks-smaller
picks-smaller c =
    let ks = c.picks.left.places.items in
    let k = pick c.picks.left.weights.items c.word-word.result in
    let e = length_without k ks c.take-place.ensures.within in
    let n : length c.take-place.new.self.places.items ≡ length (without_at k ks) = ap (λ (xs : List ℕ). length xs) c.take-place.ensures.places in
    let r : length c.take-place.new.self.places.items < length ks = omega (arith, e, n) in
    r

pub picks-preserved : goal.picks-preserved
picks-preserved c =
    let t = c.args.turn.now in
    let i = c.picks.invariant in
    let vs = c.picks.in_links in
    let us = c.pass_at-in-Several.new.in_links in
    let ks = c.picks.left.places.items in
    let ls = c.take-place.new.self.places.items in
    let ws = c.picks.left.weights.items in
    let k = pick ws c.word-word.result in
    let taken = c.take-place.ensures in
    let passed = c.in_ok-pass_at-in-Several.ensures in
    let new = c.pass_at-in-Several.new in
    let g = rw c.deref.ensures.value at c.in-Several.ensures.moves in
    let wd : c.word-word.result ≡ word t.draws (16 * t.second + c.picks.number)
    = c.word-word.ensures ∙ ap (λ (x : ℕ). word t.draws (16 * x + c.picks.number)) c.from.ensures in
    let left : seen us ls ≡ without_at k (seen vs ks)
    = ap (seen us) taken.places
    ∙ seen_rest vs us (length vs) ks k i.places taken.within (λ q ne. passed.others q (λ (x : q ≡ c.take-place.result). ne (x ∙ taken.place))) in
    let e = length_without k ks taken.within in
    let n : length ls ≡ length (without_at k ks) = ap (λ (xs : List ℕ). length xs) taken.places in
    record {
      run =
          i.run
          ∙ one_pick t.stuck t.second (word t.draws) c.picks.number c.word-word.result c.take-place.result vs us ks ls ws (places_in c.picks.space)
          (places_in new.space) c.picks.crossings.entering.items new.crossings.entering.items c.picks.crossings.removed.items
          new.crossings.removed.items c.picks.said.items new.said.items i.places i.weights wd taken.place taken.within taken.places passed.run
          passed.others g;
      places =
          subst (λ (m : ℕ). ArePlaces m ls) (sym passed.count)
          (subst (λ (xs : List ℕ). ArePlaces (length vs) xs) (sym taken.places) (places_without (length vs) ks k i.places));
      weights = weights_without k (seen vs ks) (seen us ls) ws c.take-place.new.self.weights.items i.weights taken.weights left;
      some = subst (λ (es : List InLink). HaveWeights es) (sym left) (have_without k (seen vs ks) i.some);
      ready = passed.ready;
      apart = passed.apart;
      holes = λ m. passed.holes m ∙ i.holes m;
      count = omega (arith, i.count, e, n);
    }
