use Rattle.std.proofs.Common.{subst}
use Rattle.part_seconds.specs.declared.contents.Contents.{Contents}
use Rattle.parted_day.{proofs.Nothing.nothing_comes, specs.Absorbed.HasAbsorbedParcel}
use Rattle.parted_day.proofs.absorbing_parcel.absorb_parcel.Goals as goal

pub returns-in_default : goal.returns-in_default
returns-in_default c =
    nothing_comes c.args.run.now.day.now c.args.run.now.link_slots.now c.args.second c.args.parcel c.args.area.now c.in_default.ensures
    c.requires.looks

pub returns : goal.returns
returns c =
    subst (λ (x : Contents). HasAbsorbedParcel c.args.run.now.day.now c.args.run.now.link_slots.now c.args.second x c.args.area.now
    c.absorb_contents.new.area) c.in-Some.ensures c.in_ok-absorb_contents.ensures
