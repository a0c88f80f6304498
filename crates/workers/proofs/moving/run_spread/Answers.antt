use Rattle.std.proofs.Common.{subst, subst₂, arith}
use denote.Exit.{no}
use denote.Param.{layout}
use denote.Param.Send.{sendable, arg_send, param_send}
use Rattle.workers.{proofs.Spreading.chunk_members, specs.Members.IsMember, specs.Members.Goes, specs.Members.Ran, specs.declared.members.Member.Member}
use Rattle.workers.proofs.moving.run_spread.Goals as goal

pub for_each_chunk_mut-requires-clause-accepts : goal.for_each_chunk_mut-requires-clause-accepts
for_each_chunk_mut-requires-clause-accepts g c κs within = λ start p is. (
  (
    c.requires.in_run,
    c.requires.board,
    chunk_members c.args.until g.T.Part.borders g.T.Part.nothing g.T.Part.see g.T.Part.stands g.T.Part.spent g.T.Part.right c.args.run.now
        c.args.board.now
        c.args.members.now p.now c.max-size.result start c.requires.members is,
  ),
  (
    param_send 0 _ (arg_send (layout g.row.T) no _ c.type_bounds.send-T),
    param_send 2 _ (arg_send (layout g.row.T-Run) no _ c.type_bounds.send-T-Run),
    param_send 3 _ (arg_send (layout g.row.T-Parcel) no _ c.type_bounds.send-T-Parcel),
    search (sendable, c.type_bounds.sync-G) depth 20,
    search (sendable, c.type_bounds.sync-T-Run) depth 20,
    search (sendable, c.type_bounds.sync-T-Parcel) depth 20,
  ),
)

pub returns : goal.returns
returns g c =
    let until = c.args.until in
    let borders = g.T.Part.borders in
    let nothing = g.T.Part.nothing in
    let see = g.T.Part.see in
    let stands = g.T.Part.stands in
    let spent = g.T.Part.spent in
    let right = g.T.Part.right in
    let run = c.args.run.now in
    let b = c.args.board.now in
    let by = c.for_each_chunk_mut.ensures.by_index in
    let same = c.for_each_chunk_mut.auto.s in
    let size = c.max-size.ensures in
    record {
      went = record {
        members = λ i d lt.
            let w = (by i d (omega arith)).1 in
            let r : Ran until borders nothing see stands spent right run b w.argument.now w.after_call.now = w.call in
            let long = r.went.go.long in let inside = w.offset_in_chunk in
            subst (λ (m : Member g.row.T.Denot g.row.T-Run.Denot g.row.T-Parcel.Denot). IsMember until borders nothing see stands spent
            right run b m)
            w.new_element (r.went.members w.offset d (omega arith));
        go = record {
          long = omega arith;
          each = λ i d lt.
              let w = (by i d lt).1 in
              let r : Ran until borders nothing see stands spent right run b w.argument.now w.after_call.now = w.call in
              subst₂ (λ (old new : Member g.row.T.Denot g.row.T-Run.Denot g.row.T-Parcel.Denot). Goes old new) w.old_element
              w.new_element
              (r.went.go.each w.offset d w.offset_in_chunk);
        };
      };
      size = c.max-size.result;
      some = omega arith;
      ran = λ n lt.
          let w = c.for_each_chunk_mut.ensures.chunks n lt in
          let r : Ran until borders nothing see stands spent right run b w.argument.now w.after_call.now = w.call in
          subst₂ (Ran until borders nothing see stands spent right run b) w.argument_is w.left r;
    }
