use Rattle.std.proofs.Common.{◌<◌, true, false, length, get_or, rules, arith}
use Rattle.law_sleeping.specs.Able.{able_now}
use Rattle.node_move.proofs.{Drawing.able_at, Drawing.two_found, Drawing.found_first, Drawing.found_none, Places.places_within, Places.length_seen}
use Rattle.node_move.proofs.candidates.count_able.Goals.{then-can_pass+in-None, else-can_pass}
use Rattle.node_move.specs.{NodeStates.seen, Spaces.places_in}
use Rattle.node_move.proofs.candidates.count_able.Goals as goal

pub bounds-in_links-places : goal.bounds-in_links-places
bounds-in_links-places c = places_within (length c.args.in_links.now) c.args.places.now c.loop-k.k c.requires c.loop-k-test.true

pub offset_bounds-in_links-places : goal.offset_bounds-in_links-places
offset_bounds-in_links-places c =
    let lt : get_or c.args.places.now c.loop-k.k 0 < length c.args.in_links.now
    = places_within (length c.args.in_links.now) c.args.places.now c.loop-k.k c.requires c.loop-k-test.true in
    search rules

pub returns-in-Some-clause-moves : goal.returns-in-Some-clause-moves
returns-in-Some-clause-moves c =
    let vs = c.args.in_links.now in
    let ks = c.args.places.now in
    let k = c.loop-k.k in
    let K = c.args.turn.now.stuck in
    let t = c.args.turn.now.second in
    let P = places_in c.args.space.now in
    let in_vs = places_within (length vs) ks k c.requires c.loop-k-test.true in
    let e = able_at K t P vs ks k c.index-in_links-places.result c.can_pass.result true c.loop-k-test.true in_vs c.index-in_links-places.is
    c.can_pass.ensures c.if-can_pass.true in
    let lt : k < length (seen vs ks) = omega (arith, length_seen vs ks, c.loop-k-test.true) in
    λ alone more. two_found alone more (able_now K t P) (seen vs ks) k c.in-Some.field-0 c.loop-k.only lt e c.in-Some.is c.loop-k.invariant

pub loop-k-preserved : goal.loop-k-preserved
loop-k-preserved c =
    let vs = c.args.in_links.now in
    let ks = c.args.places.now in
    let k = c.loop-k.k in
    let K = c.args.turn.now.stuck in
    let t = c.args.turn.now.second in
    let P = places_in c.args.space.now in
    let v = c.index-in_links-places in
    let in_vs = places_within (length vs) ks k c.requires c.loop-k-test.true in
    let lt : k < length (seen vs ks) = omega (arith, length_seen vs ks, c.loop-k-test.true) in
    elim c.if-can_pass.branch [
      | then-can_pass+in-None w ↦
          found_first (able_now K t P) (seen vs ks) k c.loop-k.only c.if-can_pass.only lt
          (able_at K t P vs ks k v.result c.can_pass.result true c.loop-k-test.true in_vs v.is c.can_pass.ensures w.if-can_pass.true) w.in-None.is
          w.only-is c.loop-k.invariant
      | else-can_pass w ↦
          found_none (able_now K t P) (seen vs ks) k c.loop-k.only c.if-can_pass.only lt
          (able_at K t P vs ks k v.result c.can_pass.result false c.loop-k-test.true in_vs v.is c.can_pass.ensures w.if-can_pass.false) w.only-is
          c.loop-k.invariant
    ]
