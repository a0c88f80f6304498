use Rattle.std.proofs.{Common.◌≡◌, Common.◌∙◌, Common.length, Common.refl, Common.rules, Common.arith, lemmas.Grind.common_steps}
use Rattle.event_handler.specs.Handling.{links_in}
use Rattle.law_in_range.proofs.Dawn.{day_in_book}
use Rattle.written_day.proofs.Handled.{can_handle}
use Rattle.written_day.proofs.writing.handler_for.Goals as goal

pub returns-clause-takes : goal.returns-clause-takes
returns-clause-takes c =
    let links : links_in c.in_ok-handler.handler ≡ length c.args.day.now.town.now.network.links =
    first_of (search rules, grind (arith, common_steps), cc) in
    λ scoring. record {
      named = day_in_book c.args.day.now _ c.requires refl;
      new = c.in_ok-handler.ensures.handled scoring;
      all = can_handle c.args.day.now c.in_ok-handler.handler c.requires
          (c.in_ok-handler.ensures.kinds ∙ c.deref.ensures.value ∙ c.in_ok-kinds.ensures) links;
    }
