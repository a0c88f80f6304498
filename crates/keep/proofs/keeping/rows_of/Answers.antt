use Rattle.std.proofs.Common.{◌<◌, ◌≤◌, ◌++◌, length, take, sym, ap, subst, ◌∙◌, arith}
use Rattle.std.proofs.lemmas.List.{take_all, Elements.All-more, Elements.All-same}
use Rattle.plan_memory.specs.Memories.{MemoryRows}
use Rattle.keep.{proofs.Pushing.persons-more, specs.Fitting.IsReadable, specs.Kept.own_rows, specs.Kept.persons_rows}
use Rattle.keep.proofs.keeping.rows_of.Goals as goal

pub loop-person-preserved : goal.loop-person-preserved
loop-person-preserved c =
    let book = c.args.book.now in
    let memories = c.args.memories.now in
    let i = c.loop-person.person in
    let m = c.index-memories-person.result in
    let is = c.index-memories-person.is in
    let P : MemoryRows → Type 0 = IsReadable book in
    let here : i < length memories = omega (arith, c.len-person-end.ensures.count, c.requires.persons, c.loop-person-test.true) in
    record {
      rows = persons-more book memories i m c.loop-person.rows.items c.push_own.new.rows.items (persons_rows book 0 memories) here
          (c.in_ok-push_own.ensures.rows ∙ ap (λ (own : MemoryRows). c.loop-person.rows.items ++ own_rows book i own) is)
          c.loop-person.invariant.rows;
      sound = All-more P memories i m here c.loop-person.invariant.sound (subst P is c.in_ok-push_own.ensures.sound);
    }

pub returns-clause-sound : goal.returns-clause-sound
returns-clause-sound c =
    let memories = c.args.memories.now in
    let i = c.loop-person.person in
    let done : length memories ≤ i = omega (arith, c.len-person-end.ensures.count, c.requires.persons, c.loop-person-test.false) in
    All-same (IsReadable c.args.book.now) memories (take i memories) (sym (take_all i memories done)) c.loop-person.invariant.sound
