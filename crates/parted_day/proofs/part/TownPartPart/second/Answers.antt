use Rattle.std.proofs.Common.{◌∙◌, List, [], ◌++◌, ap, append-nil, arith, refl, sym}
use Rattle.std.specs.Prelude.{if◌then◌else◌}
use Rattle.events.specs.declared.event.Event.{Event}
use Rattle.partition.specs.Owned.{owner_in}
use Rattle.town.specs.Views.{setup}
use Rattle.parted_day.proofs.{Standing.empty_as, Standing.empty_has_nothing, Telling.told_next}
use Rattle.parted_day.proofs.part.TownPartPart.second.Goals.{Then-self}
use Rattle.parted_day.specs.{Rest.ChangesNothing, Turns.turns_told}
use Rattle.parted_day.proofs.part.TownPartPart.second.Goals as goal

-- where nothing came and nobody has anything to do
rested : (c : Then-self) →
    ChangesNothing c.args.run.now.day.now c.args.run.now.owner.now c.args.self.now.number c.args.self.now.done c.args.self.now.area
rested c =
    let run = c.args.run.now in
    let x = c.args.self.now in
    c.rest_changes_nothing.ensures run.day.now run.owner.now x.number x.done run.link_slots.now x.area x.inbox run.given run.slots
    c.requires.before_end c.requires.stands.stands c.requires.heard (c.has_some-came.ensures c.if-not-came.true)
    (c.quiet_until-self.ensures x.done (omega arith) c.if-self.true)

pub returns-then-self-clause-done : goal.returns-then-self-clause-done
returns-then-self-clause-done c =
    let run = c.args.run.now in
    let x = c.args.self.now in
    let rest = rested (goal.at.returns-then-self-clause-done c).Then-self in
    let kept : List Event = if run.streams then [] else x.told.events.items in
    record {
      number = refl;
      seconds = refl;
      holds = record {
        there = c.requires.stands.there;
        stands = rest.stands;
        quiet = λ u from before. c.quiet_until-self.ensures u (omega arith) before;
        events = told_next run.day.now run.owner.now run.given x.number x.done run.streams x.told.events.items
            c.forget_told.new.told.events.items c.requires.stands.events
            (c.forget_told.ensures.events ∙ sym (append-nil kept) ∙ ap (λ (es : List Event). kept ++ es) (sym rest.told));
        silent = c.forget_told.ensures.said ∙ c.requires.stands.silent;
        stray = rest.strays x.strays.items c.requires.stands.stray;
        whole = c.requires.stands.whole;
      };
      empty = record { many = c.requires.places; none = λ k lt. c.has_some-came.ensures c.if-not-came.true k };
      places = c.requires.gone.many;
    }

pub returns-then-self-clause-sent : goal.returns-then-self-clause-sent
returns-then-self-clause-sent c =
    (rested (goal.at.returns-then-self-clause-sent c).Then-self).sent c.args.self.now.outbox (empty_has_nothing _ c.args.self.now.outbox c.requires.gone)

pub returns-clause-done : goal.returns-clause-done
returns-clause-done c =
    let run = c.args.run.now in
    let day = run.day.now in
    let own = owner_in run.owner.now.of_node in
    let p = c.args.self.now.number in
    let t = c.args.self.now.done in
    record {
      number = refl;
      seconds = refl;
      holds = record {
        there = c.requires.stands.there;
        stands = c.in_ok-send_parcels.ensures.stands;
        quiet = λ u from before. absurd (omega arith);
        events = told_next day run.owner.now run.given p t run.streams c.args.self.now.told.events.items c.take_turns.new.told.events.items
            c.requires.stands.events
            (c.in_ok-leaving.ensures.events
            ∙ ap (λ (es : List Event). es ++ turns_told (setup day) own p t) c.forget_told.ensures.events);
        silent = c.in_ok-leaving.ensures.said;
        stray = c.in_ok-send_parcels.ensures.strays;
        whole = refl;
      };
      empty = empty_as _ _ _ c.requires.places c.in_ok-leaving.ensures.empty;
      places = c.in_ok-send_parcels.ensures.places;
    }
