use Rattle.std.{proofs.Common.◌≡◌, proofs.Common.◌++◌, proofs.Common.ℕ, proofs.Common.length, specs.Prelude.filter}
use Rattle.node_seconds.specs.Networks.{slot_in, accepted_all, wakes_after_all, goes_out}
use Rattle.node_seconds.proofs.entering.enter_links.Given as goal

abbrev pub invariant-loop-vehicle : goal.invariant-loop-vehicle
invariant-loop-vehicle l = record {
  links : l.links ≡ accepted_all (slot_in l.link_slots l.initial.links) l.second l.yielded l.initial.links;
  wakes :
      l.wakes ≡ wakes_after_all (slot_in l.link_slots l.initial.links) l.end l.second l.yielded l.initial.links l.initial.wakes;
  count : length l.wakes ≡ length l.links;
  out : l.out.items ≡ l.initial.out.items ++ filter (goes_out (slot_in l.link_slots l.initial.links)) l.yielded;
  slots : (m : ℕ) → slot_in l.link_slots l.links m ≡ slot_in l.link_slots l.initial.links m;
}
