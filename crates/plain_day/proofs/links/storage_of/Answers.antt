use Rattle.plain_day.proofs.Numbers.{storage_is}
use Rattle.plain_day.proofs.links.storage_of.Goals as goal

pub returns : goal.returns
returns c =
    storage_is c.args.day.now c.args.link c.link_row-row.result c.seconds_of-seconds.result c.gain_of-gain.result c.storage.result
    c.link_row-row.ensures.row c.seconds_of-seconds.ensures.value c.gain_of-gain.ensures.value c.storage.ensures.value
