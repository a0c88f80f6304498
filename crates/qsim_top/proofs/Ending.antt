-- What comes of an answer, by what came of its effects.
use Rattle.std.proofs.Common.{◌≡◌, ◌⊎◌, ◌≤◌, Bool, true, false, List, Result, Ok, Err, OnOk, OnErr, refl, sym, ◌∙◌, ap, subst, inl, inr, arith}
use Rattle.std.specs.{List.list_all, Prelude.IfOk}
use Rattle.edge_files.specs.{Causes.Rose, Effects.all_steps, Effects.has_save, Keeping.StaysTold, World.World, World.Does, World.DoesPart}
use Rattle.edge_files.specs.declared.effects.{Effect.Effect, EffectError.EffectError}
use Rattle.edge_files.specs.declared.effects.EffectError.TheVariants as error
use Rattle.iterations.specs.Performed.{Moment, IsPerformed}
use Rattle.qsim_top.proofs.Reports.{only_reports}
use Rattle.qsim_top.specs.Answer.{is_whole, is_of_words, is_report, reports_alone, Answers, IsSound, IsAnswer}
use Rattle.qsim_top.specs.{Came.status_after, Came.is_fault, Came.HasCauses, Came.IsCarriedOut, declared.answers.Answer.Answer, declared.answers.Status.Status}
use Rattle.qsim_top.specs.declared.answers.Status.TheVariants as status

-- a status of an answer is none of the others
whole_is_not : (came other : Status) → is_whole came ≡ true → is_whole other ≡ false → came ≡ other → ⊥
whole_is_not came other whole none is = let bad : true ≡ false = sym whole ∙ ap is_whole is ∙ none in absurd (cc)

-- with a status of an answer all was done
done_as : (a : Answer) (came : Status) (old new : World) → is_whole came ≡ true → a.status ≡ came → Does old new (all_steps a.effects)
    → Answers a came old new
done_as a status.Done old new whole is does = (is, does)
done_as a status.Usage old new whole is does = (is, does)
done_as a status.Refused old new whole is does = (is, does)
done_as a status.NothingKept old new whole is does = (is, does)
done_as a status.Foreign old new whole is does = (is, does)
done_as a status.NoWay old new whole is does = (is, does)
done_as a status.ReadFault old new whole is does = absurd (cc)
done_as a status.WriteFault old new whole is does = absurd (cc)
done_as a status.NoMemory old new whole is does = absurd (cc)
done_as a status.KeepFault old new whole is does = absurd (cc)

-- an answer whose status says that all is done, and which writes to the report alone where it tells why nothing was
pub ended : (keeps : Bool) (a : Answer) (old new : Moment) (r : Result (Unit {0}) EffectError) → is_whole a.status ≡ true
    → (reports_alone a.status ≡ true → list_all is_report a.effects ≡ true) → IsPerformed keeps old new (all_steps a.effects) r
    → IsCarriedOut keeps a (status_after a.status r) old new
ended keeps a old new (Ok done) whole alone did = record {
  acts = done_as a a.status old.world new.world whole refl did.done;
  ends = inr refl;
  causes = record {
    write_later = did.write_later;
    keep_later = did.keep_later;
    write = λ is. absurd (whole_is_not a.status status.WriteFault whole refl is);
    keep = λ is. absurd (whole_is_not a.status status.KeepFault whole refl is);
    read = λ is. whole_is_not a.status status.ReadFault whole refl is;
    told = λ is. absurd (whole_is_not a.status status.WriteFault whole refl is);
    reports = λ is. only_reports old.world new.world a.effects (alone is) did.done;
  };
}
ended keeps a old new (Err error.WriteFailed) whole alone did = record {
  acts = did.part;
  ends = inl refl;
  causes = record {
    write_later = did.write_later;
    keep_later = did.keep_later;
    write = λ is. did.write_failed refl;
    keep = λ is. cc;
    read = λ is. cc;
    told = λ is. did.told refl;
    reports = λ is. cc;
  };
}
ended keeps a old new (Err error.KeepFailed) whole alone did = record {
  acts = did.part;
  ends = inl (did.keep_failed refl).0;
  causes = record {
    write_later = did.write_later;
    keep_later = did.keep_later;
    write = λ is. cc;
    keep = λ is. (did.keep_failed refl).1;
    read = λ is. cc;
    told = λ is. cc;
    reports = λ is. cc;
  };
}
ended keeps a old new (Err error.NoMemory) whole alone did = record {
  acts = did.part;
  ends = inl refl;
  causes = record {
    write_later = did.write_later;
    keep_later = did.keep_later;
    write = λ is. cc;
    keep = λ is. cc;
    read = λ is. cc;
    told = λ is. cc;
    reports = λ is. cc;
  };
}

-- the same of a status that is that one
pub ended_as : (keeps : Bool) (a : Answer) (came : Status) (old new : Moment) (r : Result (Unit {0}) EffectError) → came ≡ status_after a.status r
    → is_whole a.status ≡ true → (reports_alone a.status ≡ true → list_all is_report a.effects ≡ true)
    → IsPerformed keeps old new (all_steps a.effects) r → IsCarriedOut keeps a came old new
ended_as keeps a came old new r is whole alone did =
    subst (λ (s : Status). IsCarriedOut keeps a s old new) (sym is) (ended keeps a old new r whole alone did)

only_writes : (r : Result (Unit {0}) EffectError) → OnErr r (r ≡ Err error.WriteFailed) → r ≡ Err error.KeepFailed → ⊥
only_writes (Ok x) only is = cc
only_writes (Err e) only is = cc

-- effects that keep nothing are performed
pub performed : (effects : List Effect) (old new : Moment) (r : Result (Unit {0}) EffectError) → has_save effects ≡ false
    → OnOk r (Does old.world new.world (all_steps effects)) → OnErr r (DoesPart old.world new.world (all_steps effects))
    → old.writes ≤ new.writes → old.keeps ≤ new.keeps → (r ≡ Err error.WriteFailed → Rose old.writes new.writes)
    → (r ≡ Err error.WriteFailed → StaysTold old.world.kept new.world.kept) → (has_save effects ≡ false → OnErr r (r ≡ Err error.WriteFailed))
    → IsPerformed false old new (all_steps effects) r
performed effects old new r none done part writes keeps failed told only = record {
  done = done;
  part = part;
  write_later = writes;
  keep_later = keeps;
  write_failed = failed;
  keep_failed = λ is. absurd (only_writes r (only none) is);
  told = told;
}

-- a sound answer whose effects these are
pub carried : (a : Answer) (came : Status) (effects : List Effect) (old new : Moment) (r : Result (Unit {0}) EffectError)
    → came ≡ status_after a.status r → effects ≡ a.effects → IsSound a
    → OnOk r (Does old.world new.world (all_steps effects)) → OnErr r (DoesPart old.world new.world (all_steps effects))
    → old.writes ≤ new.writes → old.keeps ≤ new.keeps → (r ≡ Err error.WriteFailed → Rose old.writes new.writes)
    → (r ≡ Err error.WriteFailed → StaysTold old.world.kept new.world.kept) → (has_save effects ≡ false → OnErr r (r ≡ Err error.WriteFailed))
    → IsCarriedOut false a came old new
carried a came effects old new r is same sound done part writes keeps failed told only =
    ended_as false a came old new r is sound.whole sound.alone
    (subst (λ (l : List Effect). IsPerformed false old new (all_steps l) r) same
    (performed effects old new r (ap has_save same ∙ sound.kept) done part writes keeps failed told only))

-- memory was wanting, and nothing was done
pub wanting_causes : (m : Moment) → HasCauses status.NoMemory m m
wanting_causes m = record {
  write_later = omega arith;
  keep_later = omega arith;
  write = λ is. cc;
  keep = λ is. cc;
  read = λ is. cc;
  told = λ is. cc;
  reports = λ is. cc;
}

-- an answer for which there was memory
pub told_same : {E : Type 0} (r : Result Answer E) (told : Answer) → IfOk r (IsAnswer told) → IfOk r (λ a. a ≡ told)
told_same (Ok a) told is = is.same
told_same (Err e) told is = tt

-- words are answered neither with a refusal of a scenario nor with a failure of the keeper
pub not_of_words : (whole came other : Status) → is_of_words whole ≡ true → is_of_words other ≡ false → is_fault false other ≡ false
    → (is_fault false came ≡ true) ⊎ (came ≡ whole) → came ≡ other → ⊥
not_of_words whole came other of none no_fault (inl fault) is =
    let bad : true ≡ false = sym fault ∙ ap (is_fault false) is ∙ no_fault in absurd (cc)
not_of_words whole came other of none no_fault (inr same) is =
    let bad : true ≡ false = sym of ∙ ap is_of_words (sym same ∙ is) ∙ none in absurd (cc)
