use Rattle.std.{proofs.Common.◌≡◌, proofs.Common.ℕ, proofs.Common.List, proofs.Common.length, specs.Prelude.Bool, specs.Prelude.true}
use Rattle.traffic.specs.declared.world.Waiter.{Waiter}
use Rattle.queue_link.specs.Numbers.{rules_of}
use Rattle.link_seconds.specs.Seconds.{AreShort, AreReady, HaveLines, StopThere, LeadsOn}
use Rattle.link_seconds.proofs.seconds.all_turns.Given as goal

abbrev pub invariant-turns : goal.invariant-turns
invariant-turns l = record {
  leads : (lies : ℕ → Bool) (ws : List Waiter) → HaveLines lies l.initial.lines ws → StopThere lies l.initial.link
      → LeadsOn lies true (rules_of l.initial.link.numbers l.dwell) l.second l.initial.link.numbers.link ws
      l.initial.link.lists l.initial.said.items l.initial.lines l.link.lists l.said.items l.lines;
  there : (lies : ℕ → Bool) → StopThere lies l.initial.link → StopThere lies l.link;
  same : l.link ≡ record l.initial.link { lists = l.link.lists };
  ready : AreReady (length l.lines) l.link;
  short : AreShort l.lines;
}
