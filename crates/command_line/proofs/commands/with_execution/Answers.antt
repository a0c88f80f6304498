use Rattle.command_line.proofs.commands.with_execution.Goals as goal

pub returns : goal.returns
returns c = record {
  partitions = c.count_option-partitions.result;
  workers = c.count_option-workers.result;
  stream = c.flag-stream.result;
  divided = c.in_ok-divided.divided;
  spread = c.in_ok-spread.spread;
  is_partitions = c.count_option-partitions.ensures;
  is_workers = c.count_option-workers.ensures;
  is_stream = c.flag-stream.ensures;
  adds_partitions = c.in_ok-divided.ensures;
  adds_workers = c.in_ok-spread.ensures;
  adds_stream = c.in_ok-streamed.ensures;
}
