use Rattle.std.proofs.Common.{◌≢◌, ◌<◌, arith, ◌+◌, ◌∙◌, ap, sym, subst, List, [], ◌∷◌, ◌++◌, length, length-append, rules}
use Rattle.std.proofs.lemmas.Iterator.{Adapters.YieldsList-from_vec, Consumers.YieldsList-turn, Consumers.YieldsList-end}
use Rattle.cells.{proofs.Rings.mark_else, specs.Ports.had_port, specs.Rule.contains}
use Rattle.workers.{specs.Members.AreMembers, specs.Members.AreAll, specs.Members.AllEnd, specs.Sharing.ArePartsOf, proofs.Dealing.part_more}
use Rattle.workers.proofs.Starting.{members_more, all_more, level_more, each_front, last_at, each_all, map_itself}
use Rattle.workers.proofs.days.all_members.Goals as goal

pub of-requires-clause-there : goal.of-requires-clause-there
of-requires-clause-there g c κs within =
    let turn = YieldsList-turn (YieldsList-from_vec {s = c.into_iter-part-iterator.result} c.args.parts.items (search rules) (search rules))
    c.loop-part.yielded c.loop-part.part-iterator c.loop-part.yielded_by c.next.result c.next.new.self c.in-Some.part c.in-Some.is
    c.next.ensures.steps in
    let t : length c.loop-part.yielded < length c.args.parts.items = turn.0 in
    let many = c.requires.many in
    let counted = c.loop-part.invariant.counted in
    omega (arith, t, many, counted)

pub loop-part-preserved : goal.loop-part-preserved
loop-part-preserved g c =
    let borders = g.T.Part.borders in
    let nothing = g.T.Part.nothing in
    let see = g.T.Part.see in
    let stands = g.T.Part.stands in
    let spent = g.T.Part.spent in
    let right = g.T.Part.right in
    let b = c.args.board.now in
    let n = c.loop-part.number in
    let i = c.loop-part.invariant in
    let made = c.in_ok-of.ensures in
    let x = c.in_ok-of.field-0 in
    let ms = c.loop-part.members.items in
    record {
      hub = made.hub;
      free = λ q le. let ne : q ≢ n = λ e. absurd (omega arith) in
          ap (λ z. contains z q) made.had ∙ mark_else (contains (had_port c.loop-part.hub)) n q ne ∙ i.free q (omega arith);
      counted = (let h = i.counted in let n = length-append c.loop-part.yielded (c.in-Some.part ∷ []) in omega (arith, h, n));
      members = λ run board each.
          subst (λ z. AreMembers (g.T.Part.net run).end borders nothing see stands spent right run b z) (sym c.in_ok-push.ensures.items)
          (members_more (g.T.Part.net run).end borders nothing see stands spent right run b ms x
          (i.members run board (each_front nothing see (stands run) (λ p. length (borders run p)) c.loop-part.yielded c.in-Some.part each))
          (made.member run board (last_at nothing see (stands run) (λ p. length (borders run p)) n c.loop-part.yielded c.in-Some.part
          i.counted each)));
      all = subst (λ z. AreAll (n + 1) z) (sym c.in_ok-push.ensures.items) (all_more n ms x i.all made.start.0);
      own = subst (λ z. ArePartsOf z (n + 1) (c.loop-part.yielded ++ c.in-Some.part ∷ [])) (sym c.in_ok-push.ensures.items)
          (part_more ms x n c.loop-part.yielded c.in-Some.part i.own made.start.0 made.given);
      level = subst (λ z. AllEnd 0 z) (sym c.in_ok-push.ensures.items) (level_more 0 ms x i.level made.start.2 made.start.1);
    }

pub returns-clause-members : goal.returns-clause-members
returns-clause-members g c = λ run board each.
    let end = YieldsList-end (YieldsList-from_vec {s = c.into_iter-part-iterator.result} c.args.parts.items (search rules) (search rules))
    c.loop-part.yielded c.loop-part.part-iterator c.loop-part.yielded_by c.next.result c.next.new.self c.in-None.is c.next.ensures.steps in
    c.loop-part.invariant.members run board
    (each_all g.T.Part.nothing g.T.Part.see (g.T.Part.stands run) (λ p. length (g.T.Part.borders run p)) c.loop-part.yielded
    c.args.parts.items (sym (map_itself c.loop-part.yielded) ∙ end.0) each)

pub returns-clause-all : goal.returns-clause-all
returns-clause-all g c =
    let end = YieldsList-end (YieldsList-from_vec {s = c.into_iter-part-iterator.result} c.args.parts.items (search rules) (search rules))
    c.loop-part.yielded c.loop-part.part-iterator c.loop-part.yielded_by c.next.result c.next.new.self c.in-None.is c.next.ensures.steps in
    subst (λ k. AreAll k c.loop-part.members.items) (c.loop-part.invariant.counted ∙ ap length (sym (map_itself c.loop-part.yielded) ∙ end.0))
    c.loop-part.invariant.all

pub returns-clause-parts : goal.returns-clause-parts
returns-clause-parts g c =
    let end = YieldsList-end (YieldsList-from_vec {s = c.into_iter-part-iterator.result} c.args.parts.items (search rules) (search rules))
    c.loop-part.yielded c.loop-part.part-iterator c.loop-part.yielded_by c.next.result c.next.new.self c.in-None.is c.next.ensures.steps in
    subst (λ (l : List g.row.T.Denot). ArePartsOf c.loop-part.members.items (length l) l) (sym (map_itself c.loop-part.yielded) ∙ end.0)
    (subst (λ k. ArePartsOf c.loop-part.members.items k c.loop-part.yielded) c.loop-part.invariant.counted c.loop-part.invariant.own)
