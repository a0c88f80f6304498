use Rattle.std.proofs.Common.{◌++◌, List, [], ap, sym, ◌∙◌, rules}
use Rattle.std.proofs.lemmas.{Iterator.Adapters.YieldsList-from_vec, Iterator.Consumers.YieldsList-end, List.flat_map_more, List.map-id}
use Rattle.std.specs.List.{flat_map}
use Rattle.car_routes.proofs.Finding.{WayList}
use Rattle.car_routes.proofs.searches.joined.Goals as goal

pub loop-part-preserved : goal.loop-part-preserved
loop-part-preserved c =
    c.in_ok-append.ensures.items ∙ ap (λ (ws : List WayList). ws ++ c.part.inside.rows.items) c.loop-part.invariant
    ∙ ap (λ (ws : List WayList). flat_map (λ (part : List WayList). part) c.loop-part.yielded ++ ws) c.part.view_is
    ∙ flat_map_more (λ (part : List WayList). part) [] c.loop-part.yielded c.in-Some.part

pub returns : goal.returns
returns c =
    let end = YieldsList-end (YieldsList-from_vec {s = c.into_iter-part-iterator.result} c.args.parts.items (search rules) (search rules))
    c.loop-part.yielded c.loop-part.part-iterator c.loop-part.yielded_by c.next.result c.next.new.self c.in-None.is c.next.ensures.steps in
    c.loop-part.invariant ∙ ap (λ (parts : List (List WayList)). flat_map (λ (part : List WayList). part) parts)
    (sym (map-id c.loop-part.yielded) ∙ end.0)
