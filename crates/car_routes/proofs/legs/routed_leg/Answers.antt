use Rattle.std.proofs.Common.{◌++◌, List, ℕ, sym, ◌∙◌, ap, subst}
use Rattle.std.specs.Prelude.{option_to_list}
use Rattle.rows.specs.declared.plan.Leg.{Leg}
use Rattle.rows.specs.declared.plan.Leg.TheVariants as leg
use Rattle.car_routes.specs.{Found.AreNext, Plans.routed_leg, Wanted.wanted}
use Rattle.car_routes.proofs.legs.routed_leg.Goals as goal

pub returns-clause-leg : goal.returns-clause-leg
unfolding routed_leg
returns-clause-leg c = λ arrive rest alike next.
    let P : Leg → Type 0 = λ l. AreNext c.args.adjacency.now arrive c.args.found.now
    (option_to_list (wanted c.args.adjacency.now.ends c.args.here.link c.args.there l) ++ rest) in
    let got = c.in_ok-route.ensures.route arrive rest alike (subst P c.in-Car.is next) in (
      ap (λ (r : List ℕ). leg.Car r) got.0 ∙ sym (ap (routed_leg c.args.adjacency.now arrive c.args.here c.args.there) c.in-Car.is),
      got.1,
    )
