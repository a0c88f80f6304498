-- What is told of a keeper in memory is what keepers promise.
use Rattle.std.proofs.Common.{◌≡◌, ℕ, Bool, true, false, cond, List, ◌++◌, Option, Some, Result, Ok, Err, OnOk, OnErr, refl, sym, ap, ◌∙◌, subst, inl}
use Rattle.std.{proofs.Common.arith, specs.Prelude.option_map, specs.Prelude.IfOk, specs.Prelude.MatchResult}
use Rattle.edge_files.specs.{Causes.up, Causes.KeepHasCause, InMemory.CallCounts, InMemory.next_fails, InMemory.passed_call, InMemory.failed_call}
use Rattle.edge_files.specs.Keeping.{Kept, rows_of, Told, Becomes, Stays, StaysIfTold, KeepsOrBecomes, IsTold, Loads}
use Rattle.edge_files.specs.declared.keeping.{KeepFail.KeepFail, KeptRow.KeptRow}
use Rattle.edge_files.specs.declared.keeping.KeepFail.TheVariants as fail
use Rattle.keep.specs.InMemory.{KeeperHeld, after_call}

module _ {T : Type 0} (old new : KeeperHeld) (result : Result T KeepFail) where
  cause_failed : new.calls ≡ failed_call old.calls → KeepHasCause old.calls.faults new.calls.faults result
  cause_failed is =
      let count : new.calls.faults ≡ up old.calls.faults = ap (λ (c : CallCounts). c.faults) is in
      record { later = omega (arith, count); failed = λ _. omega (arith, count) }

  cause_passed : new.calls ≡ passed_call old.calls → (result ≡ Err fail.Failed → ⊥) → KeepHasCause old.calls.faults new.calls.faults result
  cause_passed is not =
      let count : new.calls.faults ≡ old.calls.faults = ap (λ (c : CallCounts). c.faults) is in
      record { later = omega (arith, count); failed = λ failed. absurd (not failed) }

ok_not : {T : Type 0} (x : T) → ◌≡◌ {A = Result T KeepFail} (Ok x) (Err fail.Failed) → ⊥
ok_not x e = cc

memory_not : {T : Type 0} → ◌≡◌ {A = Result T KeepFail} (Err fail.NoMemory) (Err fail.Failed) → ⊥
memory_not e = cc

-- ---- save

pub record SaveTells {T : Type 0} (old new : KeeperHeld) (now : Kept) (result : Result T KeepFail) : Type 0 where
  pub ok : OnOk result (Becomes (Some old.kept) (Some new.kept) (Some now))
  pub err : OnErr result (KeepsOrBecomes (Some old.kept) (Some new.kept) now)
  pub cause : KeepHasCause old.calls.faults new.calls.faults result

abbrev pub saved : KeeperHeld → Kept → KeeperHeld
saved old now = record { kept = Some now; calls = passed_call old.calls }

module _ {T : Type 0} (old new : KeeperHeld) (now : Kept) where
  by_answer : (result : Result T KeepFail) → next_fails old.calls ≡ false
      → MatchResult result (λ _. new ≡ saved old now) (λ e. (e ≡ fail.NoMemory) × (new ≡ after_call old)) → SaveTells old new now result
  by_answer (Ok x) passes is = record {
    ok = ap (λ (h : KeeperHeld). let told : Told = Some h.kept in told) is;
    err = tt;
    cause = cause_passed old new (Ok x) (ap (λ (h : KeeperHeld). h.calls) is) (ok_not x);
  }
  by_answer (Err e) passes is =
      let calls : new.calls ≡ passed_call old.calls =
      ap (λ (h : KeeperHeld). h.calls) is.1 ∙ ap (λ (b : Bool). cond b (failed_call old.calls) (passed_call old.calls)) passes in
      record {
        ok = tt;
        err = inl (ap (λ (h : KeeperHeld). h.kept) is.1);
        cause = cause_passed old new (Err e) calls (λ failed. memory_not {T = T} (ap Err (sym is.0) ∙ failed));
      }

  by_failure : (result : Result T KeepFail) → next_fails old.calls ≡ true → (result ≡ Err fail.Failed) × (new ≡ after_call old) → SaveTells old new now result
  by_failure result fails is =
      let calls : new.calls ≡ failed_call old.calls =
      ap (λ (h : KeeperHeld). h.calls) is.1 ∙ ap (λ (b : Bool). cond b (failed_call old.calls) (passed_call old.calls)) fails in
      record {
        ok = subst (λ (r : Result T KeepFail). OnOk r (Becomes (Some old.kept) (Some new.kept) (Some now))) (sym is.0) tt;
        err = subst (λ (r : Result T KeepFail). OnErr r (KeepsOrBecomes (Some old.kept) (Some new.kept) now)) (sym is.0)
            (inl (ap (λ (h : KeeperHeld). h.kept) is.1));
        cause = cause_failed old new result calls;
      }

  pub save_tells : (result : Result T KeepFail)
      → (next_fails old.calls ≡ true → (result ≡ Err fail.Failed) × (new ≡ after_call old))
      → (next_fails old.calls ≡ false → MatchResult result (λ _. new ≡ saved old now) (λ e. (e ≡ fail.NoMemory) × (new ≡ after_call old)))
      → SaveTells old new now result
  save_tells result fails saves = by (next_fails old.calls) refl
    where
      by : (b : Bool) → next_fails old.calls ≡ b → SaveTells old new now result
      by true is = by_failure result is (fails is)
      by false is = by_answer result is (saves is)

-- ---- last

pub record LastTells (old new : KeeperHeld) (result : Result (Option ℕ) KeepFail) : Type 0 where
  pub last : IfOk result (λ last. IsTold (Some old.kept) last)
  pub ok : OnOk result (Stays (Some old.kept) (Some new.kept))
  pub err : OnErr result (StaysIfTold (Some old.kept) (Some new.kept))
  pub cause : KeepHasCause old.calls.faults new.calls.faults result

kept_stays : (old new : KeeperHeld) → new ≡ after_call old → new.kept ≡ old.kept
kept_stays old new is = ap (λ (h : KeeperHeld). h.kept) is

calls_after : (old new : KeeperHeld) (b : Bool) → next_fails old.calls ≡ b → new ≡ after_call old
    → new.calls ≡ cond b (failed_call old.calls) (passed_call old.calls)
calls_after old new b is after = ap (λ (h : KeeperHeld). h.calls) after ∙ ap (λ (c : Bool). cond c (failed_call old.calls) (passed_call old.calls)) is

pub last_tells : (old new : KeeperHeld) (result : Result (Option ℕ) KeepFail)
    → (next_fails old.calls ≡ true → result ≡ Err fail.Failed)
    → (next_fails old.calls ≡ false → result ≡ Ok (option_map (λ (k : Kept). k.iteration) old.kept))
    → new ≡ after_call old → LastTells old new result
last_tells old new result fails tells after = by (next_fails old.calls) refl
  where
    by : (b : Bool) → next_fails old.calls ≡ b → LastTells old new result
    by true is =
        let failed : LastTells old new (Err fail.Failed) = record {
          last = tt;
          ok = tt;
          err = kept_stays old new after;
          cause = cause_failed old new (Err fail.Failed) (calls_after old new true is after);
        } in
        subst (LastTells old new) (sym (fails is)) failed
    by false is =
        let told = option_map (λ (k : Kept). k.iteration) old.kept in
        let passed : LastTells old new (Ok told) = record {
          last = refl;
          ok = ap (λ (k : Option Kept). let t : Told = Some k in t) (kept_stays old new after);
          err = tt;
          cause = cause_passed old new (Ok told) (calls_after old new false is after) (ok_not told);
        } in
        subst (LastTells old new) (sym (tells is)) passed

-- ---- load

pub record LoadTells {T : Type 0} (old new : KeeperHeld) (before after : List KeptRow) (result : Result T KeepFail) : Type 0 where
  pub loads : OnOk result (Loads (Some old.kept) before after)
  pub ok : OnOk result (Stays (Some old.kept) (Some new.kept))
  pub err : OnErr result (StaysIfTold (Some old.kept) (Some new.kept))
  pub cause : KeepHasCause old.calls.faults new.calls.faults result

module _ {T : Type 0} (old new : KeeperHeld) (before after : List KeptRow) (same : new ≡ after_call old) where
  by_rows : (result : Result T KeepFail) → next_fails old.calls ≡ false
      → MatchResult result (λ _. after ≡ before ++ rows_of old.kept) (λ e. e ≡ fail.NoMemory) → LoadTells old new before after result
  by_rows (Ok x) passes is = record {
    loads = is;
    ok = ap (λ (k : Option Kept). let t : Told = Some k in t) (kept_stays old new same);
    err = tt;
    cause = cause_passed old new (Ok x) (calls_after old new false passes same) (ok_not x);
  }
  by_rows (Err e) passes is = record {
    loads = tt;
    ok = tt;
    err = kept_stays old new same;
    cause = cause_passed old new (Err e) (calls_after old new false passes same) (λ failed. memory_not {T = T} (ap Err (sym is) ∙ failed));
  }

  unloaded : (result : Result T KeepFail) → next_fails old.calls ≡ true → result ≡ Err fail.Failed → LoadTells old new before after result
  unloaded result fails is =
      let failed : LoadTells {T = T} old new before after (Err fail.Failed) = record {
        loads = tt;
        ok = tt;
        err = kept_stays old new same;
        cause = cause_failed old new (Err fail.Failed) (calls_after old new true fails same);
      } in
      subst (λ (r : Result T KeepFail). LoadTells old new before after r) (sym is) failed

  pub load_tells : (result : Result T KeepFail)
      → (next_fails old.calls ≡ true → (result ≡ Err fail.Failed) × (after ≡ before))
      → (next_fails old.calls ≡ false → MatchResult result (λ _. after ≡ before ++ rows_of old.kept) (λ e. e ≡ fail.NoMemory))
      → LoadTells old new before after result
  load_tells result fails loads = by (next_fails old.calls) refl
    where
      by : (b : Bool) → next_fails old.calls ≡ b → LoadTells old new before after result
      by true is = unloaded result is (fails is).0
      by false is = by_rows result is (loads is)
