use Rattle.std.proofs.Common.{◌≡◌, drop}
use Rattle.law_parts_of_days.specs.Riding.{put_links}
use Rattle.parted_day.proofs.riding.put_links.Given as goal

abbrev pub invariant-loop-link : goal.invariant-loop-link
invariant-loop-link l = put_links (drop l.link-index l.links) l.table ≡ put_links l.links l.initial.table
