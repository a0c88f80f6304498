use Rattle.town.specs.Views.{setup}
use Rattle.part_places.proofs.Starting.{none_taken}
use Rattle.part_places.proofs.places.Places.new.Goals as goal

pub returns : goal.returns
returns c = λ begins end among.
    none_taken (setup c.args.day.now) c.args.starts.now begins end _ c.in_ok-space.ensures.free c.in_ok-space.ensures.holes c.new.ensures among
