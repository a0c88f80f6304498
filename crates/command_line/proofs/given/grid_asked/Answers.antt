use Rattle.command_line.proofs.Words.{grid_with}
use Rattle.command_line.proofs.given.grid_asked.Goals as goal

pub returns-clause-command : goal.returns-clause-command
returns-clause-command c = grid_with _ _ _ _ _ _ c.size_given.ensures.number c.seed_given.ensures c.last_iteration_given.ensures.number

pub returns-clause-in_range : goal.returns-clause-in_range
returns-clause-in_range c = record {
  least = c.size_given.ensures.in_range.0;
  most = c.size_given.ensures.in_range.1;
  last = c.last_iteration_given.ensures.in_range;
}
