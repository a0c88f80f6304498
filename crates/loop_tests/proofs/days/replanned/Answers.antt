use Rattle.std.proofs.{Common.ℕ, Common.length, Common.sym, Common.◌∙◌, Common.ap, Common.arith, lemmas.List.length-map}
use Rattle.router.{proofs.LegWays.ends_count, specs.Graphs.Graph}
use Rattle.replanning.specs.Persons.{all_are_on}
use Rattle.loop_tests.proofs.days.replanned.Goals as goal

pub replan-requires-clause-basis : goal.replan-requires-clause-basis
replan-requires-clause-basis g c κs within =
    let links = c.args.network.now.links in
    record {
      times =
          ap length c.in_ok-times.ensures ∙ length-map links _ ∙ sym (ends_count links)
          ∙ sym (ap (λ (n : Graph). length n.ends) c.in_ok-adjacency.ensures);
      basis = record { learning = c.requires.learning; end_second = omega arith };
    }

pub replan-requires-clause-on : goal.replan-requires-clause-on
replan-requires-clause-on g c κs within =
    ap (λ (n : ℕ). all_are_on n c.in_ok-memories.field-0.items)
    (ap (λ (n : Graph). length n.ends) c.in_ok-adjacency.ensures ∙ ends_count c.args.network.now.links ∙ c.requires.links)
    ∙ c.in_ok-memories.ensures.on
