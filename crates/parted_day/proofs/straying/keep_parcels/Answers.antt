use Rattle.std.proofs.Common.{◌<◌, ◌≤◌, length, arith}
use Rattle.partition.specs.Owned.{owner_in}
use Rattle.town.specs.Views.{setup}
use Rattle.parted_day.proofs.Kept.{is_near, is_right, over_next, over_whole}
use Rattle.parted_day.proofs.straying.keep_parcels.Goals as goal

pub keep_parcel-requires-clause-near : goal.keep_parcel-requires-clause-near
keep_parcel-requires-clause-near c =
    let run = c.args.run.now in
    let lt : c.loop-place.place < length c.args.borders.now = omega (arith, c.loop-place-test.true, c.requires.count) in
    is_near (setup run.day.now) (owner_in run.owner.now.of_node) run.owner.now.parts c.args.partition c.loop-place.place c.args.borders.now
    c.requires.borders lt

pub keep_parcel-requires-clause-right : goal.keep_parcel-requires-clause-right
keep_parcel-requires-clause-right c =
    let run = c.args.run.now in
    is_right (setup run.day.now) (owner_in run.owner.now.of_node) c.args.partition c.args.second c.loop-place.place c.args.borders.now
    c.args.parcels.now c.index-parcels-place.result c.requires.count c.loop-place-test.true c.index-parcels-place.is c.requires.right

pub loop-place-preserved : goal.loop-place-preserved
loop-place-preserved c =
    let run = c.args.run.now in
    let lt : c.loop-place.place < length c.args.borders.now = omega (arith, c.loop-place-test.true, c.requires.count) in
    over_next (setup run.day.now) (owner_in run.owner.now.of_node) c.args.partition c.args.second c.loop-place.place c.args.borders.now
    c.loop-place.strays.items c.keep_parcel.new.strays.items _ lt c.in_ok-keep_parcel.ensures c.loop-place.invariant

pub returns : goal.returns
returns c =
    let run = c.args.run.now in
    let le : length c.args.borders.now ≤ c.loop-place.place = omega (arith, c.loop-place-test.false, c.requires.count) in
    over_whole (setup run.day.now) (owner_in run.owner.now.of_node) c.args.partition c.args.second c.loop-place.place c.args.borders.now
    c.loop-place.strays.items _ le c.loop-place.invariant
