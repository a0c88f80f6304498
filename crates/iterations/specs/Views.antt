-- What a run is made from, as the definitions see it.
use Rattle.iterations.specs.{Runs.RunRows, declared.run.RunInput.RunInput}
use Rattle.scoring.specs.Tables.{scoring_rows}
use Rattle.town.specs.Views.{rows_of}

abbrev pub run_rows : {G : Type 0} → RunInput G → RunRows
run_rows run = record {
  town = rows_of run.town.now;
  scoring = scoring_rows run.tables.now;
  learning = run.learning;
  last_iteration = run.last_iteration;
  keeps = run.keeps;
}
