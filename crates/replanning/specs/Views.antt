-- What persons replan by, as the definitions see it.
use Rattle.std.specs.Prelude.{◌≡◌, length}
use Rattle.replanning.specs.{Persons.Basis, Persons.IsBasis, declared.replanning.Replanning.Replanning}
use Rattle.travel_times.specs.Times.{arrivals}

abbrev pub basis_of : Replanning → Basis
basis_of r = record {
  graph = r.adjacency.now;
  arrive = arrivals r.times.now;
  learning = r.learning;
  seed = r.seed;
  end_second = r.end_second;
  iteration = r.iteration;
}

-- there are travel times for each link, and all else is in its range
pub record IsReplanning (r : Replanning) : Type 0 where
  pub times : length r.times.now ≡ length r.adjacency.now.ends
  pub basis : IsBasis (basis_of r)
