use Rattle.std.proofs.Common.{rules, arith, ◌≡◌, ◌<◌, ◌∷◌, ℕ, Bool, length, Option, Some, vec_len, inl, inr, refl, sym, ◌∙◌, ap}
use Rattle.std.specs.{List.Sorted.IsPermutation, Option.option_eq, Prelude.nat_eq, Prelude.All, Prelude.Contains}
use Rattle.walks.specs.Rounds.{Labels, label_at}
use Rattle.router.proofs.Searching.{Queue, pop_within, pop_there, pop_others, pop_kept, pop_fewer, stands, stands_no_more}
use Rattle.router.specs.declared.waiting.Entry.{Entry}
use Rattle.router.proofs.frontier.next.Goals as goal

-- the node of an entry that was taken has a label
here : (entry : Entry) (first before after : Queue) (old labels : Labels) → All (λ (e : Entry). e.node < length old) first
    → ((other : Entry) → Contains before other → Contains first other) → IsPermutation before (entry ∷ after) → labels ≡ old
    → entry.node < length labels
here entry first before after old labels there others taken same =
    let within = pop_within entry first before after (length old) there others taken in
    let count = ap (λ (ls : Labels). length ls) same in
    omega arith

-- the label was read and compared
compared : (label read : Option ℕ) (second : ℕ) (equal : Bool) → equal ≡ option_eq nat_eq read (Some second) → read ≡ label
    → equal ≡ option_eq nat_eq label (Some second)
compared label read second equal is same = is ∙ ap (λ (o : Option ℕ). option_eq nat_eq o (Some second)) same

pub index-requires : goal.index-requires
index-requires c =
    let within = here c.in-Some.entry c.args.frontier.now.queue c.loop-entry.frontier.queue c.pop.new.self
    c.args.frontier.now.labels.items c.loop-entry.frontier.labels.items c.requires c.loop-entry.invariant.others
    c.in-Some.ensures.some.others c.loop-entry.invariant.labels in
    let count : vec_len c.loop-entry.frontier.labels ≡ length c.loop-entry.frontier.labels.items = search rules in
    omega arith

pub returns-then-eq-clause-some : goal.returns-then-eq-clause-some
returns-then-eq-clause-some c =
    let before = c.loop-entry.frontier.queue in
    let after = c.pop.new.self in
    let taken = c.in-Some.ensures.some in
    let few = pop_fewer c.in-Some.entry before after taken.others in
    let fewer = c.loop-entry.invariant.fewer in
    record {
      goes_on = record { from = c.loop-entry.invariant.goes_on.from; second = c.loop-entry.invariant.goes_on.second };
      horizon = refl;
      labels = c.loop-entry.invariant.labels;
      was_there = c.loop-entry.invariant.others c.in-Some.entry (pop_there c.in-Some.entry before after taken.others);
      stands = stands c.loop-entry.frontier.labels.items c.in-Some.entry.node c.in-Some.entry.second c.index.result.now
          c.eq.result (here c.in-Some.entry c.args.frontier.now.queue c.loop-entry.frontier.queue c.pop.new.self
          c.args.frontier.now.labels.items c.loop-entry.frontier.labels.items c.requires c.loop-entry.invariant.others
          c.in-Some.ensures.some.others c.loop-entry.invariant.labels) c.index.ensures (compared c.index.result.now c.get.result c.in-Some.entry.second c.eq.result c.eq.ensures c.get.ensures) c.if-eq.true;
      earliest = taken.earliest;
      others = λ other there. c.loop-entry.invariant.others other
          (pop_others c.in-Some.entry other before after taken.others there);
      kept = λ at node there is. pop_kept c.in-Some.entry at node before after taken.others
          (c.loop-entry.invariant.kept at node there is);
      fewer = omega arith;
    }

pub loop-entry-smaller : goal.loop-entry-smaller
loop-entry-smaller c =
    let few = pop_fewer c.in-Some.entry c.loop-entry.frontier.queue c.pop.new.self c.in-Some.ensures.some.others in
    omega arith

pub loop-entry-preserved : goal.loop-entry-preserved
loop-entry-preserved c =
    let before = c.loop-entry.frontier.queue in
    let after = c.pop.new.self in
    let taken = c.in-Some.ensures.some in
    let few = pop_fewer c.in-Some.entry before after taken.others in
    let fewer = c.loop-entry.invariant.fewer in
    record {
      labels = c.loop-entry.invariant.labels;
      goes_on = record { from = c.loop-entry.invariant.goes_on.from; second = c.loop-entry.invariant.goes_on.second };
      others = λ other there. c.loop-entry.invariant.others other
          (pop_others c.in-Some.entry other before after taken.others there);
      kept = λ at node there is.
          elim (pop_kept c.in-Some.entry at node before after taken.others (c.loop-entry.invariant.kept at node there is)) [
            | inl own ↦
                let stale = stands_no_more c.loop-entry.frontier.labels.items c.in-Some.entry.node c.in-Some.entry.second
                c.index.result.now c.eq.result (here c.in-Some.entry c.args.frontier.now.queue c.loop-entry.frontier.queue c.pop.new.self
                c.args.frontier.now.labels.items c.loop-entry.frontier.labels.items c.requires c.loop-entry.invariant.others
                c.in-Some.ensures.some.others c.loop-entry.invariant.labels) c.index.ensures (compared c.index.result.now c.get.result c.in-Some.entry.second c.eq.result c.eq.ensures c.get.ensures) c.if-eq.false in
                absurd (stale (ap (λ (n : ℕ). label_at c.loop-entry.frontier.labels.items n) (sym own.0) ∙ is ∙ ap
                (λ (n : ℕ). Some n) own.1))
            | inr still ↦ still
          ];
      fewer = omega arith;
    }
