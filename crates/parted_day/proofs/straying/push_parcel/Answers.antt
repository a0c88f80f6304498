use Rattle.std.proofs.Common.{◌≡◌, ◌++◌, subst}
use Rattle.part_seconds.specs.{Contents.parcel_of, declared.contents.Contents.Contents}
use Rattle.parted_day.{proofs.Pushed.nothing_pushed, specs.Strays.strays_in}
use Rattle.parted_day.proofs.straying.push_parcel.Goals as goal

pub returns-in_default : goal.returns-in_default
returns-in_default c = λ S. nothing_pushed S c.args.second c.args.parcel.now c.args.strays.now.items c.in_default.ensures

pub returns : goal.returns
returns c = λ S.
    let s = c.args.second in
    subst (λ (x : Contents). c.push_contents.new.strays.items ≡ c.args.strays.now.items ++ strays_in s (parcel_of S s x)) c.in-Some.ensures
    (c.in_ok-push_contents.ensures S)
