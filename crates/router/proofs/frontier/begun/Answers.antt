use Rattle.std.proofs.Common.{ℕ, List, ◌∷◌, length, Option, Some, ap, subst, ◌∙◌}
use Rattle.std.specs.{List.Sorted.IsPermutation, Prelude.slice_set}
use Rattle.router.{proofs.Searching.start_search, specs.Frontiers.queued, specs.declared.waiting.Entry.Entry}
use Rattle.router.proofs.frontier.begun.Goals as goal

pub returns-clause-search : goal.returns-clause-search
returns-clause-search c ends arrive = record {
  search = start_search (length c.args.labels.items) ends arrive c.args.from c.args.second _ c.push.new.self c.requires.from c.requires.second
      (ap (λ (label : Option ℕ). slice_set c.args.labels.items c.args.from label) c.some.ensures
      ∙ ap (λ (ls : List (Option ℕ)). slice_set ls c.args.from (Some c.args.second)) c.requires.none)
      (subst (λ (q : List Entry). IsPermutation (queued c.args.second c.args.from ∷ q) c.push.new.self) c.requires.nobody
      c.in_ok-push.ensures);
}
