use Rattle.std.proofs.Common.{◌∙◌, List, ap, sym, length}
use Rattle.partition.specs.Owned.{owner_in}
use Rattle.town.specs.Views.{setup}
use Rattle.law_in_range.{proofs.Days.one_each, specs.Setups.counts_in}
use Rattle.law_parts_of_days.proofs.Worlds.{fit_setup, sound_setup, consistent_setup}
use Rattle.divided_day.specs.Days.{borders_in}
use Rattle.step_core.specs.declared.part.Border.{Border}
use Rattle.part_seconds.specs.declared.contents.Contents.{Contents}
use Rattle.parted_day.proofs.{Going.next_stands, Sending.are_others, Sending.has_sent, Sending.sent_as, Standing.empty_has_nothing}
use Rattle.parted_day.proofs.turns.send_parcels.Goals as goal

pub invariant_of-exits : goal.invariant_of-exits
invariant_of-exits c =
    let run = c.args.run.now in
    let found = are_others run.day.now run.owner.now run.given c.args.partition _ c.neighbours_of-borders.ensures in
    record { ascend = found.ascend }

pub send-requires-clause-plans : goal.send-requires-clause-plans
send-requires-clause-plans c = one_each c.args.run.now.day.now c.args.area.now.persons.world c.requires.stands.persons.fit

pub send-requires-clause-others : goal.send-requires-clause-others
send-requires-clause-others c =
    are_others c.args.run.now.day.now c.args.run.now.owner.now c.args.run.now.given c.args.partition _ c.neighbours_of-borders.ensures

pub send-requires-clause-count : goal.send-requires-clause-count
send-requires-clause-count c = c.requires.gone.many ∙ sym (ap (λ (bs : List Border). length bs) c.neighbours_of-borders.ensures)

pub send-requires-clause-none : goal.send-requires-clause-none
send-requires-clause-none c = empty_has_nothing _ c.args.outbox.now c.requires.gone

pub keep_strays-requires-clause-count : goal.keep_strays-requires-clause-count
keep_strays-requires-clause-count c =
    ap (λ (xs : List Contents). length xs) c.parcels.ensures ∙ c.in_ok-send.ensures.count
    ∙ ap (λ (bs : List Border). length bs) c.neighbours_of-borders.ensures

pub keep_strays-requires-clause-right : goal.keep_strays-requires-clause-right
keep_strays-requires-clause-right c =
    let run = c.args.run.now in
    let day = run.day.now in
    let S = setup day in
    let own = owner_in run.owner.now.of_node in
    let borders = borders_in day run.owner.now c.args.partition in
    sent_as S own c.args.partition c.args.second borders _ _ c.parcels.ensures
    (has_sent S own c.args.partition c.args.second _ borders _ c.neighbours_of-borders.ensures c.in_ok-send.ensures.parcels)

pub returns-clause-stands : goal.returns-clause-stands
returns-clause-stands c =
    let run = c.args.run.now in
    let day = run.day.now in
    let own = owner_in run.owner.now.of_node in
    next_stands day own c.args.partition c.args.second run.given
    (c.own_worlds_go_on.ensures.lets_go (setup day) own run.owner.now.parts c.args.partition c.args.second (counts_in day)
    (sound_setup day run.given) (consistent_setup day run.given) run.owner.now.owned (fit_setup day run.given))
    c.args.area.now c.send.new.persons c.requires.stands c.in_ok-send.ensures.persons

pub returns-clause-places : goal.returns-clause-places
returns-clause-places c = c.in_ok-send.ensures.count ∙ ap (λ (bs : List Border). length bs) c.neighbours_of-borders.ensures

pub returns-clause-sent : goal.returns-clause-sent
returns-clause-sent c =
    let run = c.args.run.now in
    let day = run.day.now in
    has_sent (setup day) (owner_in run.owner.now.of_node) c.args.partition c.args.second _ (borders_in day run.owner.now c.args.partition) _
    c.neighbours_of-borders.ensures c.in_ok-send.ensures.parcels
