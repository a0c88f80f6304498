use Rattle.std.{proofs.Common.List, proofs.Common.ap, proofs.Common.◌∙◌, proofs.Common.◌++◌, specs.List.flat_map, specs.Prelude.map}
use Rattle.part_seconds.specs.declared.contents.{Contents.Contents, Moved.Moved, Teleported.Teleported}
use Rattle.parted_day.{proofs.Pushed.parcel_pushed, specs.Strays.moved_strays, specs.Strays.teleported_stray}
use Rattle.parted_day.proofs.straying.push_contents.Goals as goal

pub returns : goal.returns
returns c = λ S.
    let old = c.args.strays.now.items in
    let mid = c.push_vehicles.new.strays.items in
    let x = c.args.contents.now in
    parcel_pushed S c.args.second x.vehicles x.teleported old mid c.push_teleported.new.strays.items
    (c.in_ok-push_vehicles.ensures
    ∙ ap (λ (ms : List Moved). old ++ flat_map moved_strays ms)
    (c.deref.ensures.value ∙ ap (λ (y : Contents). y.vehicles) c.contents.view_is))
    (c.in_ok-push_teleported.ensures
    ∙ ap (λ (fs : List Teleported). mid ++ map (teleported_stray c.args.second) fs)
    (c.deref-2.ensures.value ∙ ap (λ (y : Contents). y.teleported) c.contents.view_is))
