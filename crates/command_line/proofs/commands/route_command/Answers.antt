use Rattle.std.proofs.Common.{List, [], ◌∷◌, refl, arith, codes}
use Rattle.clap.specs.Words.{new_app}
use Rattle.limits.specs.declared.TheConstants.{LAST_SECOND}
use Rattle.command_line.proofs.Arguments.{Added, added, AreAdded, app_is, own_name, number_found}
use Rattle.command_line.proofs.commands.route_command.Goals as goal

pub returns-clause-app : goal.returns-clause-app
returns-clause-app c =
    let from : Added = added c.position-from.ensures c.in_ok-arg.ensures in
    let to : Added = added c.position-to.ensures c.in_ok-arg-2.ensures in
    let second : Added = added c.second_position-second.ensures c.in_ok-command.ensures in
    app_is from.old (from ∷ to ∷ second ∷ []) (new_app (codes "route")) (refl, (refl, (refl, tt))) c.described-bare.ensures.app

pub returns-clause-second : goal.returns-clause-second
returns-clause-second c = λ m parsed.
    let from : Added = added c.position-from.ensures c.in_ok-arg.ensures in
    let to : Added = added c.position-to.ensures c.in_ok-arg-2.ensures in
    let second : Added = added c.second_position-second.ensures c.in_ok-command.ensures in
    let all : List Added = from ∷ to ∷ second ∷ [] in
    let order : AreAdded from.old all = (refl, (refl, (refl, tt))) in
    number_found from.old all order c.described-bare.ensures.bare m parsed 2 second (omega arith) refl refl
    (own_name (codes "SECOND") (λ e. omega (arith, e)) (λ e. omega (arith, e)) (λ e. omega (arith, e))) refl refl 0 LAST_SECOND refl
