use Rattle.std.proofs.Common.{List, [], ◌∷◌, refl, arith, codes}
use Rattle.clap.specs.Words.{found_of, new_app}
use Rattle.learning.specs.declared.TheConstants.{LAST_ITERATION}
use Rattle.limits.specs.declared.TheConstants.{MAX_PARTITIONS}
use Rattle.workload.specs.declared.TheConstants.{LEAST_SIZE, MOST_SIZE}
use Rattle.command_line.proofs.Arguments.{Added, added, AreAdded, app_is, own_name, number_found, long_number_found, option_found, flag_found, partitions_added}
use Rattle.command_line.proofs.Arguments.{workers_added, stream_added, partitions_own, workers_own, stream_own}
use Rattle.command_line.specs.Given.{HasGrid, HasExecution}
use Rattle.command_line.proofs.commands.generate_command.Goals as goal

pub returns-clause-app : goal.returns-clause-app
returns-clause-app c =
    let size : Added = added c.size_position-size.ensures c.in_ok-arg.ensures in
    let seed : Added = added c.seed_position-seed.ensures c.in_ok-arg-2.ensures in
    let last : Added = added c.iteration_option-last_iteration.ensures c.in_ok-grid.ensures in
    let partitions : Added = partitions_added _ _ c.in_ok-command.ensures in
    let workers : Added = workers_added _ _ c.in_ok-command.ensures in
    let stream : Added = stream_added _ _ c.in_ok-command.ensures in
    let all : List Added = size ∷ seed ∷ last ∷ partitions ∷ workers ∷ stream ∷ [] in
    app_is size.old all (new_app (codes "generate")) (refl, (refl, (refl, (refl, (refl, (refl, tt)))))) c.described-bare.ensures.app

pub returns-clause-numbers : goal.returns-clause-numbers
returns-clause-numbers c = λ m parsed.
    let size : Added = added c.size_position-size.ensures c.in_ok-arg.ensures in
    let seed : Added = added c.seed_position-seed.ensures c.in_ok-arg-2.ensures in
    let last : Added = added c.iteration_option-last_iteration.ensures c.in_ok-grid.ensures in
    let partitions : Added = partitions_added _ _ c.in_ok-command.ensures in
    let workers : Added = workers_added _ _ c.in_ok-command.ensures in
    let stream : Added = stream_added _ _ c.in_ok-command.ensures in
    let all : List Added = size ∷ seed ∷ last ∷ partitions ∷ workers ∷ stream ∷ [] in
    let order : AreAdded size.old all = (refl, (refl, (refl, (refl, (refl, (refl, tt)))))) in
    let bare = c.described-bare.ensures.bare in
    let grid : HasGrid (found_of m) = record {
      size = number_found size.old all order bare m parsed 0 size (omega arith) refl refl
          (own_name (codes "SIZE") (λ e. omega (arith, e)) (λ e. omega (arith, e)) (λ e. omega (arith, e)))
          refl refl LEAST_SIZE MOST_SIZE refl;
      seed = long_number_found size.old all order bare m parsed 1 seed (omega arith) refl refl
          (own_name (codes "SEED") (λ e. omega (arith, e)) (λ e. omega (arith, e)) (λ e. omega (arith, e))) refl refl refl;
      last = option_found size.old all order bare m parsed 2 last (omega arith) refl refl
          (own_name (codes "last-iteration") (λ e. omega (arith, e)) (λ e. omega (arith, e)) (λ e. omega (arith, e))) 0 LAST_ITERATION refl;
    } in
    let execution : HasExecution (found_of m) = record {
      partitions = option_found size.old all order bare m parsed 3 partitions (omega arith) refl refl partitions_own 1 MAX_PARTITIONS refl;
      workers = option_found size.old all order bare m parsed 4 workers (omega arith) refl refl workers_own 1 MAX_PARTITIONS refl;
      stream = flag_found size.old all order bare m parsed 5 stream (omega arith) refl refl stream_own refl;
    } in
    (grid, execution)
