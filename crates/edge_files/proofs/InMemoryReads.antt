-- What is told of reads and writes in memory is what inputs and outputs promise.
use Rattle.std.proofs.Common.{◌≡◌, ◌≢◌, ℕ, zero, suc, ◌≤◌, ◌<◌, List, [], ◌∷◌, ◌++◌, true, false, length, min, take, drop, get_or, set, Some, Result, Ok, Err}
use Rattle.std.proofs.Common.{IsErr, refl, sym, ◌∙◌, ap, subst, inl, inr, arith, take-append-drop, length-append, length-take, length-drop}
use Rattle.std.proofs.lemmas.{Bool.cases_eq, Bool.cases_Bool, Bool.false≢true, List.get_or-set_other, List.take_at, List.drop_all, List.length-take-le}
use Rattle.std.specs.Io.{ReadsAtMost, KnownBytes.ReadConsumes}
use Rattle.edge_files.{proofs.Placed.same_place, specs.Causes.up, specs.Causes.Rose, specs.Causes.HasCause, specs.Files.in_place}
use Rattle.edge_files.specs.InMemory.{CallCounts, next_fails, passed_call, failed_call, left_of, with_left, read_count, InputsHeld, Reads}
use Rattle.edge_files.specs.{Inputs.Left, Inputs.OthersStay, declared.files.Failed.Failed, declared.files.InFile.InFile}

-- what inputs promise of a read
pub record ReadTells (old new : Left) (before now : ℕ) (file : InFile) (into after : List ℕ) (result : Result ℕ Failed) : Type 0 where
  pub bound : ReadsAtMost result after
  pub bytes : ReadConsumes (old file) (new file) result after
  pub others : OthersStay old new file
  pub empty : length into ≡ 0 → result ≡ Ok 0
  pub cause : HasCause before now result

others_left : (files : List (List ℕ)) (f other : InFile) (bytes : List ℕ) → other ≢ f → left_of (with_left files f bytes) other ≡ left_of files other
others_left files f other bytes differs =
    get_or-set_other files (in_place f) (in_place other) bytes [] (λ same. differs (same_place other f same))

-- what a file has left after so many bytes were taken, also of a file that there is not
dropped : (files : List (List ℕ)) (i n : ℕ) → get_or (set files i (drop n (get_or files i []))) i [] ≡ drop n (get_or files i [])
dropped [] i zero = refl
dropped [] i (suc n) = refl
dropped (x ∷ files) zero n = refl
dropped (x ∷ files) (suc i) n = dropped files i n

pub nat_lt_zero : (n : ℕ) → n ≡ 0 → 0 < n → ⊥
nat_lt_zero n none some = omega (arith, none, some)

-- what stands in front of a slice that was given some bytes
front_given : (n : ℕ) (xs ys : List ℕ) → n ≤ length xs → take n (take n xs ++ ys) ≡ take n xs
front_given n xs ys within = take_at (take n xs) ys n (length-take-le n xs within)

length_given : (xs into : List ℕ) → length (take (min (length xs) (length into)) xs ++ drop (min (length xs) (length into)) into) ≡ length into
length_given xs into =
    length-append (take (min (length xs) (length into)) xs) (drop (min (length xs) (length into)) into)
    ∙ omega (arith, length-take (min (length xs) (length into)) xs, length-drop (min (length xs) (length into)) into)

module _ (old new : List (List ℕ)) (f : InFile) (into after : List ℕ) (result : Result ℕ Failed) (reads : Reads old new f into after result) where
  left_is : left_of new f ≡ drop (read_count old f (length into)) (left_of old f)
  left_is = ap (λ (files : List (List ℕ)). left_of files f) reads.left ∙ dropped old (in_place f) (read_count old f (length into))

  front_is : take (read_count old f (length into)) after ≡ take (read_count old f (length into)) (left_of old f)
  front_is = ap (take (read_count old f (length into))) reads.given
      ∙ front_given (read_count old f (length into)) (left_of old f) (drop (read_count old f (length into)) into) (omega arith)

  length_is : length after ≡ length into
  length_is = ap length reads.given ∙ length_given (left_of old f) into

  pub reads_tells : (before now : ℕ) → before ≤ now → ReadTells (λ g. Some (left_of old g)) (λ g. Some (left_of new g)) before now f into after result
  reads_tells before now later = subst (λ (r : Result ℕ Failed). ReadTells (λ g. Some (left_of old g)) (λ g. Some (left_of new g)) before now f into after r) (sym reads.count) (record {
    bound = (omega (arith, length_is), sym (length-take-le (read_count old f (length into)) after (omega (arith, length_is))));
    bytes = (
      sym (take-append-drop (read_count old f (length into)) (left_of old f))
          ∙ ap (λ (l : List ℕ). l ++ drop (read_count old f (length into)) (left_of old f)) (sym front_is)
          ∙ ap (λ (l : List ℕ). take (read_count old f (length into)) after ++ l) (sym left_is),
      λ none room. left_is ∙ drop_all (read_count old f (length into)) (left_of old f) (omega (arith, length_is, none, room)),
    );
    others = λ other differs. ap Some (ap (λ (files : List (List ℕ)). left_of files other) reads.left ∙ others_left old f other (drop (read_count old f (length into)) (left_of old f)) differs);
    empty = λ none. ap Ok (omega (arith, none));
    cause = record { later = later; failed = tt };
  })

-- a read with no room
empty_tells : (files : List (List ℕ)) (count : ℕ) (f : InFile) (into after : List ℕ) → length into ≡ 0 → after ≡ into → ReadTells (λ g. Some (left_of files g)) (λ g. Some (left_of files g)) count count f into after (Ok 0)
empty_tells files count f into after none same = record {
  bound = (omega arith, sym (length-take-le 0 after (omega arith)));
  bytes = (refl, λ zero room. absurd (nat_lt_zero (length after) (ap length same ∙ none) room));
  others = λ other differs. refl;
  empty = λ none. refl;
  cause = record { later = omega arith; failed = tt };
}

-- a read that failed took nothing
failed_tells : (files : List (List ℕ)) (before now : ℕ) (f : InFile) (into after : List ℕ) (result : Result ℕ Failed) → 0 < length into → IsErr result → before ≤ now → Rose before now → ReadTells (λ g. Some (left_of files g)) (λ g. Some (left_of files g)) before now f into after result
failed_tells files before now f into after (Ok n) room is later rose = absurd (false≢true is)
failed_tells files before now f into after (Err e) room is later rose = record {
  bound = tt;
  bytes = refl;
  others = λ other differs. refl;
  empty = λ none. absurd (nat_lt_zero (length into) none room);
  cause = record { later = later; failed = rose };
}

-- what the contract of a read in memory says is what inputs promise
pub read_tells : (old new : InputsHeld) (f : InFile) (into after : List ℕ) (result : Result ℕ Failed)
    → (length into ≡ 0 → (result ≡ Ok 0) × (new ≡ old) × (after ≡ into))
    → (0 < length into → next_fails old.calls ≡ true → IsErr result × (new ≡ record { left = old.left; calls = failed_call old.calls }) × (after ≡ into))
    → (0 < length into → next_fails old.calls ≡ false → Reads old.left new.left f into after result × (new.calls ≡ passed_call old.calls))
    → ReadTells (λ g. Some (left_of old.left g)) (λ g. Some (left_of new.left g)) old.calls.faults new.calls.faults f into after result
read_tells old new f into after result empty fails reads = elim (cases_eq (length into) 0) [
  | inl none ↦ subst (λ (h : InputsHeld). ReadTells (λ g. Some (left_of old.left g)) (λ g. Some (left_of h.left g)) old.calls.faults h.calls.faults f into after result) (sym (empty none).1)
      (subst (λ (r : Result ℕ Failed). ReadTells (λ g. Some (left_of old.left g)) (λ g. Some (left_of old.left g)) old.calls.faults old.calls.faults f into after r) (sym (empty none).0)
      (empty_tells old.left old.calls.faults f into after none (empty none).2))
  | inr some ↦ elim (cases_Bool (next_fails old.calls)) [
    | inl fail ↦ subst (λ (h : InputsHeld). ReadTells (λ g. Some (left_of old.left g)) (λ g. Some (left_of h.left g)) old.calls.faults h.calls.faults f into after result) (sym (fails (omega (arith, some)) fail).1)
        (failed_tells old.left old.calls.faults (up old.calls.faults) f into after result (omega (arith, some)) (fails (omega (arith, some)) fail).0 (omega arith) (omega arith))
    | inr pass ↦ reads_tells old.left new.left f into after result (reads (omega (arith, some)) pass).0 old.calls.faults new.calls.faults
        (subst (λ (k : CallCounts). old.calls.faults ≤ k.faults) (sym (reads (omega (arith, some)) pass).1) (omega arith))
  ]
]
