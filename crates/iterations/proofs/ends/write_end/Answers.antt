use Rattle.iterations.{proofs.Outside.one_then, proofs.Outside.same_steps, proofs.Outside.two_effects, specs.Acts.end_effects}
use Rattle.iterations.proofs.ends.write_end.Goals as goal

pub returns-in-Ok-clause-performed : goal.returns-in-Ok-clause-performed
unfolding end_effects
returns-in-Ok-clause-performed g c =
    same_steps _ _ _ _ _ (two_effects _ _ _ _) (one_then _ _ _ _ _ _ _ c.in-Ok.ensures.performed c.write_done.ensures.performed)
