use Rattle.std.proofs.Common.{◌∙◌, List, ap, ◌++◌, map}
use Rattle.node_move.specs.declared.crossings.Entering.{Entering}
use Rattle.law_parcels.specs.Sending.{sent_rows}
use Rattle.part_nodes.specs.Phase.{entering_of}
use Rattle.partition.specs.Owned.{owner_in}
use Rattle.town.specs.Views.{setup}
use Rattle.parted_day.proofs.Telling.{all_told_in}
use Rattle.parted_day.proofs.turns.take_turns.Goals as goal

pub returns-clause-events : goal.returns-clause-events
returns-clause-events c =
    all_told_in (setup c.args.run.now.day.now) (owner_in c.args.run.now.owner.now.of_node) c.args.partition c.args.second
    c.args.told.now.events.items c.set_out.new.events.items c.cross.new.told.events.items c.drive.new.told.events.items
    c.in_ok-looked.ensures.events c.in_ok-cross.ensures.events c.in_ok-freed.ensures.events

pub returns-clause-leaving : goal.returns-clause-leaving
returns-clause-leaving c =
    let S = setup c.args.run.now.day.now in
    let own = owner_in c.args.run.now.owner.now.of_node in
    record {
      entering = c.in_ok-cross.ensures.out
          ∙ ap (λ (es : List Entering). es ++ map entering_of (sent_rows S own c.args.partition c.args.second))
          c.new-entering.ensures.items;
      looked = c.in_ok-looked.ensures.looked;
      others = c.in_ok-looked.ensures.others;
      freed = c.in_ok-freed.ensures.freed;
    }
