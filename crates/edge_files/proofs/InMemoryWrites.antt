-- What is told of writes in memory is what outputs promise.
use Rattle.std.proofs.Common.{◌≡◌, ◌==◌, ◌⊎◌, ℕ, ◌≤◌, ◌<◌, List, [], ◌∷◌, ◌++◌, Bool, true, false, cond, length, take, get_or, set, Option, None, Some, Result}
use Rattle.std.proofs.Common.{Ok, Err, IsErr, IfOk, refl, sym, ◌∙◌, ap, subst, inl, inr, arith}
use Rattle.std.proofs.lemmas.{Bool.cases_eq, Bool.cases_Bool, Bool.eq-eqb, Bool.ne_eqb, Bool.false≢true, List.get_or-set_other, List.get_or-set_same}
use Rattle.std.{proofs.lemmas.List.append-nil, specs.Io.WritesAtMost}
use Rattle.edge_files.{proofs.InMemoryReads.nat_lt_zero, proofs.Written.writes_nothing, specs.Causes.up, specs.Causes.HasCause, specs.Files.out_place}
use Rattle.edge_files.specs.InMemory.{next_fails, written_to, with_more, fits, OutputsHeld, write_count, refused_write, TakesOrFails}
use Rattle.edge_files.specs.World.{Written, byte_steps, is_same, bytes_of, Writes, WriteDid}
use Rattle.edge_files.specs.declared.files.{Failed.Failed, OutFile.OutFile}

abbrev no_bytes : List ℕ
no_bytes = []

same_both : (b : Bool) → cond b [] [] ≡ no_bytes
same_both true = refl
same_both false = refl

chosen_more : (b : Bool) (x : ℕ) (xs : List ℕ) → cond b (x ∷ cond b xs []) (cond b xs []) ≡ cond b (x ∷ xs) []
chosen_more true x xs = refl
chosen_more false x xs = refl

-- the bytes that go to a file, of a piece for one file
bytes_of-byte_steps : (file to : OutFile) (piece : List ℕ) → bytes_of file (byte_steps to piece) ≡ cond (is_same file to) piece []
bytes_of-byte_steps file to [] = sym (same_both (is_same file to))
bytes_of-byte_steps file to (x ∷ piece) =
    ap (λ (l : List ℕ). cond (is_same file to) (x ∷ l) l) (bytes_of-byte_steps file to piece)
    ∙ chosen_more (is_same file to) x piece

grown_here : (b : Bool) (xs bytes : List ℕ) → b ≡ true → xs ++ bytes ≡ xs ++ cond b bytes []
grown_here true xs bytes is = refl
grown_here false xs bytes is = absurd (false≢true is)

grown_there : (b : Bool) (xs bytes : List ℕ) → b ≡ false → xs ≡ xs ++ cond b bytes []
grown_there true xs bytes is = absurd (false≢true (sym is))
grown_there false xs bytes is = sym (append-nil xs)

grown : (files : List (List ℕ)) (i j : ℕ) (bytes : List ℕ) → i < length files → get_or (set files i (get_or files i [] ++ bytes)) j [] ≡ get_or files j [] ++ cond (j == i) bytes []
grown files i j bytes less = elim (cases_eq j i) [
  | inl same ↦ ap (λ (k : ℕ). get_or (set files i (get_or files i [] ++ bytes)) k []) same
      ∙ get_or-set_same files i (get_or files i [] ++ bytes) [] less
      ∙ ap (λ (k : ℕ). get_or files k [] ++ bytes) (sym same)
      ∙ grown_here (j == i) (get_or files j []) bytes (eq-eqb j i same)
  | inr differs ↦ get_or-set_other files i j (get_or files i [] ++ bytes) [] differs
      ∙ grown_there (j == i) (get_or files j []) bytes (ne_eqb j i differs)
]

out_place_below : (file : OutFile) → out_place file < 4
out_place_below file = grind arith

more_writes : (files : List (List ℕ)) (file : OutFile) (bytes : List ℕ) → length files ≡ 4 → Writes (λ f. Some (written_to files f)) (λ f. Some (written_to (with_more files file bytes) f)) (byte_steps file bytes)
more_writes files file bytes four = record {
  each = λ other. grown files (out_place file) (out_place other) bytes (omega (arith, out_place_below file, four))
      ∙ ap (λ (l : List ℕ). written_to files other ++ l) (sym (bytes_of-byte_steps other file bytes));
}

-- what outputs promise of a write
pub record WriteTells (old new : Written) (before now : ℕ) (file : OutFile) (piece : List ℕ) (result : Result ℕ Failed) : Type 0 where
  pub bound : WritesAtMost result piece
  pub some : 0 < length piece → IfOk result (λ n. 0 < n)
  pub bytes : WriteDid old new file result piece
  pub empty : length piece ≡ 0 → result ≡ Ok 0
  pub cause : HasCause before now result

-- a write of no bytes
empty_tells : (old : OutputsHeld) (file : OutFile) (piece : List ℕ) → length piece ≡ 0 → WriteTells (λ f. Some (written_to old.written f)) (λ f. Some (written_to old.written f)) old.calls.faults old.calls.faults file piece (Ok 0)
empty_tells old file piece none = record {
  bound = omega arith;
  some = λ some. absurd (nat_lt_zero (length piece) none some);
  bytes = writes_nothing (λ f. Some (written_to old.written f));
  empty = λ none. refl;
  cause = record { later = omega arith; failed = tt };
}

-- a write that failed took nothing
failed_tells : (old : OutputsHeld) (file : OutFile) (piece : List ℕ) (result : Result ℕ Failed) → 0 < length piece → IsErr result → WriteTells (λ f. Some (written_to old.written f)) (λ f. Some (written_to old.written f)) old.calls.faults (up old.calls.faults) file piece result
failed_tells old file piece (Ok n) some is = absurd (false≢true is)
failed_tells old file piece (Err e) some is = record {
  bound = tt;
  some = λ some. tt;
  bytes = writes_nothing (λ f. Some (written_to old.written f));
  empty = λ none. absurd (nat_lt_zero (length piece) none some);
  cause = record { later = omega arith; failed = omega arith };
}

refused_tells : (old new : OutputsHeld) (file : OutFile) (piece : List ℕ) (result : Result ℕ Failed) → 0 < length piece → IsErr result → new ≡ refused_write old → WriteTells (λ f. Some (written_to old.written f)) (λ f. Some (written_to new.written f)) old.calls.faults new.calls.faults file piece result
refused_tells old new file piece result some is same =
    subst (λ (h : OutputsHeld). WriteTells (λ f. Some (written_to old.written f)) (λ f. Some (written_to h.written f)) old.calls.faults h.calls.faults file piece result) (sym same)
    (failed_tells old file piece result some is)

fits_within : (room : Option ℕ) (taken wanted : ℕ) → fits room taken wanted ≤ wanted
fits_within None taken wanted = omega arith
fits_within (Some total) taken wanted = omega arith

takes_tells : (old new : OutputsHeld) (file : OutFile) (piece : List ℕ) (result : Result ℕ Failed) → 0 < length piece → 0 < write_count old (length piece) → TakesOrFails old new file piece result → WriteTells (λ f. Some (written_to old.written f)) (λ f. Some (written_to new.written f)) old.calls.faults new.calls.faults file piece result
takes_tells old new file piece (Ok n) some room takes =
    subst (λ (h : OutputsHeld). WriteTells (λ f. Some (written_to old.written f)) (λ f. Some (written_to h.written f)) old.calls.faults h.calls.faults file piece (Ok n)) (sym takes.answer.1) (record {
      bound = omega (arith, takes.answer.0, fits_within old.room old.taken (length piece));
      some = λ some. omega (arith, takes.answer.0, room);
      bytes = more_writes old.written file (take n piece) takes.files;
      empty = λ none. absurd (nat_lt_zero (length piece) none some);
      cause = record { later = omega arith; failed = tt };
    })
takes_tells old new file piece (Err e) some room takes = refused_tells old new file piece (Err e) some refl takes.answer

-- what the contract of a write in memory says is what outputs promise
pub write_tells : (old new : OutputsHeld) (file : OutFile) (piece : List ℕ) (result : Result ℕ Failed)
    → (length piece ≡ 0 → (result ≡ Ok 0) × (new ≡ old))
    → (0 < length piece → (next_fails old.calls ≡ true) ⊎ (write_count old (length piece) ≡ 0) → IsErr result × (new ≡ refused_write old))
    → (next_fails old.calls ≡ false → 0 < write_count old (length piece) → TakesOrFails old new file piece result)
    → WriteTells (λ f. Some (written_to old.written f)) (λ f. Some (written_to new.written f)) old.calls.faults new.calls.faults file piece result
write_tells old new file piece result empty fails takes = elim (cases_eq (length piece) 0) [
  | inl none ↦ subst (λ (h : OutputsHeld). WriteTells (λ f. Some (written_to old.written f)) (λ f. Some (written_to h.written f)) old.calls.faults h.calls.faults file piece result) (sym (empty none).1)
      (subst (λ (r : Result ℕ Failed). WriteTells (λ f. Some (written_to old.written f)) (λ f. Some (written_to old.written f)) old.calls.faults old.calls.faults file piece r) (sym (empty none).0)
      (empty_tells old file piece none))
  | inr some ↦ some_tells (omega (arith, some)) (cases_Bool (next_fails old.calls)) (cases_eq (write_count old (length piece)) 0)
]
  where
    some_tells : 0 < length piece → (next_fails old.calls ≡ true) ⊎ (next_fails old.calls ≡ false) → (write_count old (length piece) ≡ 0) ⊎ (write_count old (length piece) ≡ 0 → ⊥)
        → WriteTells (λ f. Some (written_to old.written f)) (λ f. Some (written_to new.written f)) old.calls.faults new.calls.faults file piece result
    some_tells some (inl fail) room = let failed = fails some (inl fail) in refused_tells old new file piece result some failed.0 failed.1
    some_tells some (inr pass) (inl none) = let failed = fails some (inr none) in refused_tells old new file piece result some failed.0 failed.1
    some_tells some (inr pass) (inr room) =
        let roomy : 0 < write_count old (length piece) = omega (arith, room) in
        takes_tells old new file piece result some roomy (takes pass roomy)
