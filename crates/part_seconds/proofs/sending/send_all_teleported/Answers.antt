use Rattle.std.proofs.Common.{◌∙◌, ◌++◌, [], ◌∷◌, ℕ, List, ap, sym, append-nil}
use Rattle.partition.specs.Owned.{owner_in}
use Rattle.town.specs.Views.{setup}
use Rattle.part_seconds.proofs.{Lists.next_flat, Places.more_next, Places.more_none, Places.none_teleported, Places.next_teleported}
use Rattle.part_seconds.specs.Sending.{teleported_place, teleported_of, with_teleported, more_teleported, if_teleports}
use Rattle.part_seconds.proofs.sending.send_all_teleported.Goals as goal

pub loop-person-init : goal.loop-person-init
loop-person-init c = record {
  parcels = more_none _ c.args.parcels.now (λ k x. none_teleported x);
  gone = sym (append-nil c.args.gone.now.items);
}

pub loop-person-preserved : goal.loop-person-preserved
loop-person-preserved c =
    let S = setup c.args.exits.now.day.now in
    let own = owner_in c.args.exits.now.owner.now.of_node in
    let p = c.args.exits.now.partition in
    let borders = c.args.exits.now.borders.now in
    let t = c.args.second in
    let persons = c.args.persons.now in
    let n = c.in-Some.person in
    let before = c.loop-person.yielded in
    let was = c.loop-person.invariant in
    let one = c.in_ok-send_teleported.ensures in
    record {
      parcels =
          more_next (teleported_place S own p borders t persons n) (with_teleported (teleported_of persons n ∷ []))
          (more_teleported S own p borders t persons before) _ c.args.parcels.now c.loop-person.parcels _ was.parcels one.parcels
          (λ k x. next_teleported S own p borders t persons before n k x);
      gone =
          one.gone ∙ ap (λ (xs : List ℕ). xs ++ if_teleports S own p t persons n) was.gone
          ∙ next_flat (if_teleports S own p t persons) c.args.gone.now.items before n;
    }
