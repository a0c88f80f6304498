use Rattle.records.proofs.Common.{List, ap, ℕ, ◌∙◌, arith, with_name}
use Rattle.records.proofs.InTurn.{read_none, read_more, read_fault, read_all, read_count}
use Rattle.network.specs.Links.{link_reason, link_of}
use Rattle.network.proofs.links.read_body.Goals as goal

pub loop-place-init : goal.loop-place-init
loop-place-init c = record {
  so_far = read_none 0 (link_of c.args.nodes.now) (link_reason c.args.nodes.now) c.args.rows.now _ _ c.in-Ok.ensures.names c.in-Ok.ensures.links;
  nodes = c.in-Ok.ensures.nodes ∙ c.len.ensures.count;
}

pub loop-place-preserved : goal.loop-place-preserved
loop-place-preserved c =
    let nodes = c.args.nodes.now in
    let before = c.loop-place.read in
    let so_far = c.loop-place.invariant.so_far in
    record {
      so_far = read_more 0 (link_of nodes) (link_reason nodes) c.args.rows.now c.loop-place.place before.names _ before.links.items _ c.index-rows-place.result c.in-Ok-link_in.link
          so_far c.loop-place-test.true c.index-rows-place.is c.in-Ok-link_in.ensures.link c.in-Ok-link_in.ensures.fresh
          (c.in-Ok-with_link.ensures.names ∙ ap (λ (name : List ℕ). with_name before.names name) c.field.ensures) c.in-Ok-with_link.ensures.links;
      nodes = c.in-Ok-with_link.ensures.nodes ∙ c.loop-place.invariant.nodes;
    }

pub returns-in-Err-clause-read : goal.returns-in-Err-clause-read
returns-in-Err-clause-read c =
    read_fault (λ r. r) _ 0 (link_of c.args.nodes.now) (link_reason c.args.nodes.now) c.args.rows.now c.loop-place.place c.loop-place.read.names c.loop-place.read.links.items c.index-rows-place.result c.in-Err.reason _
    c.loop-place.invariant.so_far c.loop-place-test.true c.index-rows-place.is c.in-Err.ensures.link c.fault.ensures

pub returns-clause-read : goal.returns-clause-read
returns-clause-read c =
    let all = read_all 0 (link_of c.args.nodes.now) (link_reason c.args.nodes.now) c.args.rows.now c.loop-place.place c.loop-place.read.names c.loop-place.read.links.items c.loop-place.invariant.so_far (omega arith) in
    (all.0, cc (all.1, all.2))

pub returns-clause-each : goal.returns-clause-each
returns-clause-each c =
    let count = read_count 0 (link_of c.args.nodes.now) (link_reason c.args.nodes.now) c.args.rows.now c.loop-place.place c.loop-place.read.names c.loop-place.read.links.items c.loop-place.invariant.so_far (omega arith) in
    omega (arith, count.0, count.1)
