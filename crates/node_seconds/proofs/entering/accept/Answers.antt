use Rattle.std.proofs.Common.{◌∙◌, ◌++◌, [], ◌∷◌, ℕ, ap, sym, append-nil}
use Rattle.std.specs.Prelude.{Option, if◌then◌else◌}
use Rattle.node_seconds.{proofs.Lanes.slot_is, specs.Networks.put_queued, specs.Networks.wake_queued, specs.Networks.is_nowhere}
use Rattle.node_seconds.proofs.entering.accept.Goals as goal

pub queue_up-requires-clause-there : goal.queue_up-requires-clause-there
queue_up-requires-clause-there c =
    (slot_is c.args.link_slots.now c.args.links.now c.args.entering.link c.in-Some.slot (sym c.in-Some.ensures)).1

pub returns-in_ok-queue_up-in-Some-clause-links : goal.returns-in_ok-queue_up-in-Some-clause-links
returns-in_ok-queue_up-in-Some-clause-links c =
    c.in_ok-queue_up-in-Some.ensures.links ∙ ap (λ (o : Option ℕ). put_queued c.args.second c.args.entering o c.args.links.now) c.in-Some.ensures

pub returns-in_ok-queue_up-in-Some-clause-wakes : goal.returns-in_ok-queue_up-in-Some-clause-wakes
returns-in_ok-queue_up-in-Some-clause-wakes c =
    c.in_ok-queue_up-in-Some.ensures.wakes
    ∙ ap (λ (o : Option ℕ). wake_queued c.args.end c.args.second o c.args.links.now c.args.wakes.now) c.in-Some.ensures

pub returns-in_ok-push-in-None-clause-links : goal.returns-in_ok-push-in-None-clause-links
returns-in_ok-push-in-None-clause-links c =
    ap (λ (o : Option ℕ). put_queued c.args.second c.args.entering o c.args.links.now) c.in-None.ensures

pub returns-in_ok-push-in-None-clause-wakes : goal.returns-in_ok-push-in-None-clause-wakes
returns-in_ok-push-in-None-clause-wakes c =
    ap (λ (o : Option ℕ). wake_queued c.args.end c.args.second o c.args.links.now c.args.wakes.now) c.in-None.ensures

pub returns-in_ok-push-in-None-clause-out : goal.returns-in_ok-push-in-None-clause-out
returns-in_ok-push-in-None-clause-out c =
    c.in_ok-push-in-None.ensures.items
    ∙ ap (λ (o : Option ℕ). c.args.out.now.items ++ (if is_nowhere o then c.args.entering ∷ [] else [])) c.in-None.ensures

pub returns-in_ok-queue_up-in-Some-clause-out : goal.returns-in_ok-queue_up-in-Some-clause-out
returns-in_ok-queue_up-in-Some-clause-out c =
    sym (append-nil c.args.out.now.items)
    ∙ ap (λ (o : Option ℕ). c.args.out.now.items ++ (if is_nowhere o then c.args.entering ∷ [] else [])) c.in-Some.ensures
