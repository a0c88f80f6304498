use Rattle.std.proofs.Common.{arith}
use Rattle.step_core.proofs.Heard.{no_further}
use Rattle.step_core.proofs.borders.place_of.Goals as goal

pub places-init : goal.places-init
places-init c =
    let least = c.min-behind.ensures in
    record {
      within = omega arith;
      past = λ k le lt. let far = no_further c.args.borders.now k c.requires lt in omega arith;
    }
