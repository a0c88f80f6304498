use Rattle.std.proofs.Common.{ap, ◌∙◌}
use Rattle.law_in_range.specs.Setups.{counts_in}
use Rattle.town.specs.Views.{setup}
use Rattle.plain_turns.specs.LinkState.{link_state_of}
use Rattle.plain_day.proofs.{Fitting.state_small, LinkTurns.turn_is}
use Rattle.plain_day.proofs.turns.busy_turn.Goals as goal

pub link_moves-requires-clause-small : goal.link_moves-requires-clause-small
link_moves-requires-clause-small c = (state_small (counts_in c.args.day.now) c.args.link c.args.world.now _ c.requires.fit c.in_ok-link_state.ensures).0

pub link_moves-requires-clause-small_wait : goal.link_moves-requires-clause-small_wait
link_moves-requires-clause-small_wait c = (state_small (counts_in c.args.day.now) c.args.link c.args.world.now _ c.requires.fit c.in_ok-link_state.ensures).1

pub link_moves-requires-clause-small_bay : goal.link_moves-requires-clause-small_bay
link_moves-requires-clause-small_bay c = (state_small (counts_in c.args.day.now) c.args.link c.args.world.now _ c.requires.fit c.in_ok-link_state.ensures).2

pub returns : goal.returns
returns c =
    turn_is (setup c.args.day.now) c.args.second c.args.link c.args.world.now c.rules-rules.result c.deref.result.now (link_state_of c.in_ok-link_state.link_state c.credit_of-credit.result)
    c.in_ok-moves.moves.items c.rules-rules.ensures.value (c.deref.ensures.value ∙ c.in_ok-waiters.ensures)
    (ap (λ k. link_state_of c.in_ok-link_state.link_state k) c.credit_of-credit.ensures ∙ c.in_ok-link_state.ensures) c.in_ok-moves.ensures
