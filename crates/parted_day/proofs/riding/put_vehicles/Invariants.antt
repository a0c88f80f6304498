use Rattle.std.proofs.Common.{◌≡◌, drop}
use Rattle.queue_link.specs.Links.{all_rows}
use Rattle.law_parts_of_days.specs.Riding.{put_rows}
use Rattle.parted_day.proofs.riding.put_vehicles.Given as goal

abbrev pub invariant-loop-place : goal.invariant-loop-place
invariant-loop-place l =
    let number = l.link.numbers.link in
    let rows = all_rows l.link.lists in
    put_rows number (drop l.place rows) l.table ≡ put_rows number rows l.initial.table
