use Rattle.std.proofs.Common.{◌≡◌, ◌∙◌, ◌<◌, ℕ, List, ap, arith, length}
use Rattle.draws.specs.Choices.{pick}
use Rattle.traffic.specs.Lists.{without_at}
use Rattle.node_move.proofs.Places.{without_is}
use Rattle.node_move.proofs.candidates.Candidates.take.Goals as goal

pub returns-clause-places : goal.returns-clause-places
returns-clause-places c =
    let ws = c.args.self.now.weights.items in
    let ks = c.args.self.now.places.items in
    let lt : c.pick-k.result < length ks
    = omega (arith, c.pick-k.ensures.within, ap (λ (xs : List ℕ). length xs) c.deref.ensures.value, c.requires.even) in
    let k : c.pick-k.result ≡ pick ws c.args.word = c.pick-k.ensures.value ∙ ap (λ (xs : List ℕ). pick xs c.args.word) c.deref.ensures.value in
    c.remove-2.ensures.items ∙ without_is c.pick-k.result ks lt ∙ ap (λ (m : ℕ). without_at m ks) k

pub returns-clause-weights : goal.returns-clause-weights
returns-clause-weights c =
    let ws = c.args.self.now.weights.items in
    let lt : c.pick-k.result < length ws
    = omega (arith, c.pick-k.ensures.within, ap (λ (xs : List ℕ). length xs) c.deref.ensures.value) in
    let k : c.pick-k.result ≡ pick ws c.args.word = c.pick-k.ensures.value ∙ ap (λ (xs : List ℕ). pick xs c.args.word) c.deref.ensures.value in
    c.remove.ensures.items ∙ without_is c.pick-k.result ws lt ∙ ap (λ (m : ℕ). without_at m ws) k
