use Rattle.network.proofs.InLinks.{counted_push, few_push}
use Rattle.network.proofs.links_read.with_link.Goals as goal

pub invariant_of-result : goal.invariant_of-result
invariant_of-result c =
    let read = c.args.read in
    record {
      counted = counted_push read.into.items read.links.items c.add_row.new.rows.items c.args.link c.index_mut.result.now read.counted c.requires.node c.index_mut.ensures.value c.in_ok-add_row.ensures.rows;
      few = few_push read.links.items c.add_row.new.rows.items c.args.link read.few c.requires.room c.in_ok-add_row.ensures.rows;
    }
