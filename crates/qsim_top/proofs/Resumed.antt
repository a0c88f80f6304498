-- Going on from what is kept.
use Rattle.std.proofs.Common.{◌≡◌, ◌≤◌, ℕ, true, false, List, [], ◌∷◌, Option, None, Some, Ok, Err, refl, sym, ◌∙◌, ap, subst, inl, inr, arith}
use Rattle.std.{proofs.lemmas.Bool.and_from, proofs.lemmas.List.Elements.recursion_from_All, specs.List.AllByRecursion as Each, specs.Prelude.option_map}
use Rattle.edge_files.proofs.{Worlds.does_then, Worlds.part_then, Worlds.part_nothing, Written.writes_nothing}
use Rattle.edge_files.specs.{Causes.KeepHasCause, Effects.all_steps, Keeping.Kept, Keeping.Told, Keeping.Stays, Keeping.StaysTold, Keeping.StaysIfTold}
use Rattle.edge_files.specs.World.{World, Written, Step, outside, KeptBecomesIfTold, Does, DoesPart}
use Rattle.edge_files.specs.declared.keeping.{KeepFail.KeepFail, KeptRow.KeptRow}
use Rattle.edge_files.specs.declared.keeping.KeepFail.TheVariants as fail
use Rattle.keep.proofs.Either.{one_place}
use Rattle.keep.specs.{Fitting.IsKeptMemory, Fitting.AreMemories, Fitting.AreRowsOf, Fitting.IsForeignAt, Fitting.IsRead, declared.reading.KeptError.KeptError}
use Rattle.keep.specs.declared.reading.KeptError.TheVariants as kept_stop
use Rattle.plan_memory.specs.Memories.{MemoryRows}
use Rattle.law_replanning.specs.Memories.{hold_fitting, all_hold_fitting}
use Rattle.learning.specs.Ranges.{AreInRange}
use Rattle.iterations.specs.{Performed.Moment, Performed.moment, Runs.RunRows, Runs.CanRun}
use Rattle.scenario.specs.FilesToScenario.{ScenarioRows}
use Rattle.town.specs.Rows.{TownRows}
use Rattle.command_line.specs.declared.commands.Command.TheVariants as command
use Rattle.qsim_top.specs.{declared.answers.Answer.Answer, declared.answers.Status.Status, Answer.report, Answer.resumed_answer, Answer.Resumes, Answer.Answers}
use Rattle.qsim_top.specs.{Came.HasCauses, Came.IsCarriedOut, Came.IsWorked, declared.resuming.Held.Held, Held.held_view, Held.IsHeld, Held.IsResumed}
use Rattle.qsim_top.{specs.Texts.nothing_kept_line, specs.Texts.foreign_line, proofs.Ending.wanting_causes, proofs.Worked.ends_of_work}
use Rattle.qsim_top.specs.declared.answers.Status.TheVariants as status

-- MEMORIES THAT WERE KEPT
each_fits : (T : TownRows) (memories : List MemoryRows) → Each (IsKeptMemory T) memories → all_hold_fitting T memories ≡ true
each_fits T [] all = refl
each_fits T (m ∷ memories) all =
    and_from (hold_fitting T m) (all_hold_fitting T memories) all.0.fit (each_fits T memories all.1)

-- a run can go on with them
pub can_go_on : (R : RunRows) (memories : List MemoryRows) → AreInRange R.learning → AreMemories R.town memories → CanRun R memories
can_go_on R memories learning are = record {
  learning = learning;
  each = are.count;
  fit = each_fits R.town memories (recursion_from_All (IsKeptMemory R.town) memories are.each);
}

-- WHAT IS HELD

pub held_as : (told : Told) (f held : Option Held) → f ≡ held → IsHeld told (option_map held_view f) → IsHeld told (option_map held_view held)
held_as told f held is same = subst (λ (o : Option Held). IsHeld told (option_map held_view o)) is same

-- WHAT COMES OF IT
as_answer : (a told : Answer) (came : Status) (old new : World) → a ≡ told → Answers told came old new → Answers a came old new
as_answer a told came old new same did = subst (λ (b : Answer). Answers b came old new) (sym same) did

-- memories were read
pub resumed_by : (S : ScenarioRows) (kept : Kept) (memories : List MemoryRows) (came : Status) (old new : Moment)
    → AreRowsOf S.town kept.rows memories → ((others : List MemoryRows) → AreRowsOf S.town kept.rows others → others ≡ memories)
    → IsCarriedOut true (resumed_answer S kept.iteration memories) came old new → IsResumed S (Some kept) came old new
resumed_by S kept memories came old new are only did = record {
  acts = λ a resumes. one a resumes;
  of_work = ends_of_work command.Resume true came status.Done (λ is. refl) refl did.ends;
  causes = did.causes;
}
  where
    one : (a : Answer) → Resumes S (Some kept) a → Answers a came old.world new.world
    one a (inl (others, rows, is)) =
        as_answer a (resumed_answer S kept.iteration memories) came old.world new.world
        (is ∙ ap (resumed_answer S kept.iteration) (only others rows)) did.acts
    one a (inr (place, foreign, is)) = absurd (foreign.unfit memories are)

-- what is told of rows that are foreign
pub foreign_read : (T : TownRows) (rows : List KeptRow) (why : KeptError) (place : ℕ) → why ≡ kept_stop.Foreign place
    → IsRead T rows (Err why) → IsForeignAt T rows place
foreign_read T rows why place is read = subst (λ (stop : KeptError). IsRead T rows (Err stop)) is read

-- a row was foreign
pub foreign_by : (S : ScenarioRows) (kept : Kept) (place : ℕ) (came : Status) (old new : Moment) → IsForeignAt S.town kept.rows place
    → IsCarriedOut false (report status.Foreign (foreign_line place)) came old new → IsResumed S (Some kept) came old new
foreign_by S kept place came old new foreign did = record {
  acts = λ a resumes. one a resumes;
  of_work = ends_of_work command.Resume false came status.Foreign (λ is. cc) refl did.ends;
  causes = did.causes;
}
  where
    one : (a : Answer) → Resumes S (Some kept) a → Answers a came old.world new.world
    one a (inl (others, rows, is)) = absurd (foreign.unfit others rows)
    one a (inr (there, also, is)) =
        as_answer a (report status.Foreign (foreign_line place)) came old.world new.world
        (is ∙ ap (λ (n : ℕ). report status.Foreign (foreign_line n)) (one_place S.town kept.rows there place also foreign)) did.acts

pub wanting_resumed : (S : ScenarioRows) (kept : Option Kept) (m : Moment) → IsResumed S kept status.NoMemory m m
wanting_resumed S kept m = record {
  acts = λ a resumes. part_nothing m.world (all_steps a.effects);
  of_work = refl;
  causes = wanting_causes m;
}

-- nothing was kept
pub nothing_resumed : (S : ScenarioRows) (came : Status) (old new : Moment) → IsCarriedOut false (report status.NothingKept nothing_kept_line) came old new
    → IsResumed S None came old new
nothing_resumed S came old new did = record {
  acts = λ a resumes. as_answer a (report status.NothingKept nothing_kept_line) came old.world new.world resumes did.acts;
  of_work = ends_of_work command.Resume false came status.NothingKept (λ is. cc) refl did.ends;
  causes = did.causes;
}

-- THE KEEPER FIRST
stays_world : (w : Written) (a b : Told) → Stays a b → Does (outside w a) (outside w b) []
stays_world w None b stays = record { files = writes_nothing w; keeper = tt }
stays_world w (Some kept) b stays = record { files = writes_nothing w; keeper = stays }

becomes_if : (a b : Told) → StaysIfTold a b → KeptBecomesIfTold a b []
becomes_if None b stays = tt
becomes_if (Some kept) None stays = tt
becomes_if (Some kept) (Some after) stays = stays

refused_world : (w : Written) (a b : Told) (steps : List Step) → StaysIfTold a b → DoesPart (outside w a) (outside w b) steps
refused_world w a b steps stays = record { done = []; rest = steps; front = refl; files = writes_nothing w; keeper = becomes_if a b stays }

answers_behind : (a : Answer) (came : Status) (old mid new : World) → Does old mid [] → Answers a came mid new → Answers a came old new
answers_behind a status.Done old mid new did (is, does) = (is, does_then old mid new [] (all_steps a.effects) did does)
answers_behind a status.Usage old mid new did (is, does) = (is, does_then old mid new [] (all_steps a.effects) did does)
answers_behind a status.Refused old mid new did (is, does) = (is, does_then old mid new [] (all_steps a.effects) did does)
answers_behind a status.NothingKept old mid new did (is, does) = (is, does_then old mid new [] (all_steps a.effects) did does)
answers_behind a status.Foreign old mid new did (is, does) = (is, does_then old mid new [] (all_steps a.effects) did does)
answers_behind a status.NoWay old mid new did (is, does) = (is, does_then old mid new [] (all_steps a.effects) did does)
answers_behind a status.ReadFault old mid new did does = does_then old mid new [] [] did does
answers_behind a status.WriteFault old mid new did part = part_then old mid new [] (all_steps a.effects) did part
answers_behind a status.NoMemory old mid new did part = part_then old mid new [] (all_steps a.effects) did part
answers_behind a status.KeepFault old mid new did part = part_then old mid new [] (all_steps a.effects) did part

told_behind : (a b c : Told) → Stays a b → StaysTold b c → StaysTold a c
told_behind None b c stays told = tt
told_behind (Some kept) b c stays told = subst (λ (t : Told). StaysTold t c) stays told

causes_behind : (came : Status) (w : Written) (a b : Told) (writes k l : ℕ) (new : Moment) → Stays a b → k ≤ l
    → HasCauses came (moment w b writes l) new → HasCauses came (moment w a writes k) new
causes_behind came w a b writes k l new stays later causes =
    let late = causes.keep_later in
    record {
      write_later = causes.write_later;
      keep_later = omega arith;
      write = causes.write;
      keep = λ is. let rose = causes.keep is in omega (arith, rose);
      read = causes.read;
      told = λ is. told_behind a b new.world.kept stays (causes.told is);
      reports = causes.reports;
    }

-- the keeper told what it holds, and then it was gone on from that
pub worked_behind : {A : Type 0} (S : ScenarioRows) (held : Option Kept) (came : Status) (w : Written) (a b : Told) (writes k l : ℕ) (new : Moment) (x : A)
    → IsHeld a held → Stays a b → KeepHasCause k l (Ok x) → IsResumed S held came (moment w b writes l) new
    → IsWorked command.Resume S came (moment w a writes k) new
worked_behind S held came w a b writes k l new x is stays cause did = record {
  acts = λ kept answer told works.
      answers_behind answer came (outside w a) (outside w b) new.world (stays_world w a b stays)
      (did.acts answer (subst (λ (o : Option Kept). Resumes S o answer) (sym (is kept told)) works));
  of_work = did.of_work;
  causes = causes_behind came w a b writes k l new stays cause.later did.causes;
}

-- the keeper failed, or memory was wanting
pub keeper_failed : {A : Type 0} (S : ScenarioRows) (w : Written) (a b : Told) (writes k l : ℕ) (e : KeepFail) → e ≡ fail.Failed
    → StaysIfTold a b → KeepHasCause {T = A} k l (Err e) → IsWorked command.Resume S status.KeepFault (moment w a writes k) (moment w b writes l)
keeper_failed S w a b writes k l e same stays cause = record {
  acts = λ kept answer told works. refused_world w a b (all_steps answer.effects) stays;
  of_work = refl;
  causes = record {
    write_later = omega arith;
    keep_later = cause.later;
    write = λ is. cc;
    keep = λ is. cause.failed (ap Err same);
    read = λ is. cc;
    told = λ is. cc;
    reports = λ is. cc;
  };
}

pub keeper_wanting : {A : Type 0} (S : ScenarioRows) (w : Written) (a b : Told) (writes k l : ℕ) (e : KeepFail) → StaysIfTold a b
    → KeepHasCause {T = A} k l (Err e) → IsWorked command.Resume S status.NoMemory (moment w a writes k) (moment w b writes l)
keeper_wanting S w a b writes k l e stays cause = record {
  acts = λ kept answer told works. refused_world w a b (all_steps answer.effects) stays;
  of_work = refl;
  causes = record {
    write_later = omega arith;
    keep_later = cause.later;
    write = λ is. cc;
    keep = λ is. cc;
    read = λ is. cc;
    told = λ is. cc;
    reports = λ is. cc;
  };
}
