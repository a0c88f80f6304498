use Rattle.std.proofs.Common.{None}
use Rattle.rows.specs.declared.plan.Act.{Act}
use Rattle.plan_text.proofs.Pushing.{act_in_book, leg_in_book, act_alone, act_and_leg}
use Rattle.plan_text.proofs.writing.push_element.Goals as goal

abbrev any_act : Act
any_act = record { kind = 0; link = 0; end = None }

pub push_act-requires-clause-act : goal.push_act-requires-clause-act
push_act-requires-clause-act c = act_in_book c.args.book.now c.args.person c.args.index c.args.acts.now c.args.legs.now c.args.place any_act c.requires.named c.requires.place

pub returns-then-place-legs : goal.returns-then-place-legs
returns-then-place-legs c =
    act_alone c.args.book.now c.args.person c.args.index c.args.acts.now c.args.legs.now c.args.place any_act c.args.text.now.items c.push_act.new.text.items c.requires.place c.if-place-legs.true c.in_ok-push_act.ensures

pub push_leg-requires-clause-leg : goal.push_leg-requires-clause-leg
push_leg-requires-clause-leg c =
    rw c.index-legs-place.is (leg_in_book c.args.book.now c.args.person c.args.index c.args.acts.now c.args.legs.now c.args.place c.index-legs-place.result c.requires.named c.if-place-legs.false)

pub returns : goal.returns
returns c =
    act_and_leg c.args.book.now c.args.person c.args.index c.args.acts.now c.args.legs.now c.args.place any_act c.index-legs-place.result c.args.text.now.items c.push_act.new.text.items c.push_leg.new.text.items
    c.requires.place c.if-place-legs.false c.in_ok-push_act.ensures (rw (← c.index-legs-place.is) c.in_ok-push_leg.ensures)
