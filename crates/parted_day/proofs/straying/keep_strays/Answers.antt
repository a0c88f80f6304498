use Rattle.std.proofs.Common.{◌∙◌, List, ap, sym, arith, length}
use Rattle.step_core.specs.declared.part.Border.{Border}
use Rattle.divided_day.specs.Borders.{borders_of}
use Rattle.partition.specs.Owned.{owner_in}
use Rattle.town.specs.Views.{setup}
use Rattle.parted_day.proofs.{Kept.none_more, Kept.one_more, Kept.same_right, Lags.none_early}
use Rattle.parted_day.proofs.straying.keep_strays.Goals as goal

pub returns-then-left-gt-MAX_LAG : goal.returns-then-left-gt-MAX_LAG
returns-then-left-gt-MAX_LAG c =
    let run = c.args.run.now in
    let S = setup run.day.now in
    let own = owner_in run.owner.now.of_node in
    let parts = run.owner.now.parts in
    let p = c.args.partition in
    let t = c.args.second in
    none_more S own parts p t c.args.strays.now.items c.requires.before
    (none_early run.day.now own p t (borders_of S own parts p) (omega (c.if-left-gt-MAX_LAG.true, c.saturating_sub-left.ensures, arith)))

pub keep_parcels-requires-clause-count : goal.keep_parcels-requires-clause-count
keep_parcels-requires-clause-count c =
    let is = c.neighbours_of-borders.ensures in
    c.requires.count ∙ sym (ap (λ (bs : List Border). length bs) is)

pub keep_parcels-requires-clause-borders : goal.keep_parcels-requires-clause-borders
keep_parcels-requires-clause-borders c = c.neighbours_of-borders.ensures

pub keep_parcels-requires-clause-right : goal.keep_parcels-requires-clause-right
keep_parcels-requires-clause-right c =
    let run = c.args.run.now in
    let is = c.neighbours_of-borders.ensures in
    same_right (setup run.day.now) (owner_in run.owner.now.of_node) c.args.partition c.args.second _ _ c.args.parcels.now is c.requires.right

pub returns : goal.returns
returns c =
    let run = c.args.run.now in
    let S = setup run.day.now in
    let own = owner_in run.owner.now.of_node in
    one_more S own run.owner.now.parts c.args.partition c.args.second c.neighbours_of-borders.result.now c.args.strays.now.items
    c.keep_parcels.new.strays.items c.neighbours_of-borders.ensures c.requires.before
    c.in_ok-keep_parcels.ensures
