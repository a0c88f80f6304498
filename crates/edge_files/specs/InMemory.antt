-- Inputs and outputs that are kept in memory, of which chosen calls fail.
use Rattle.std.specs.{List.list_any, List.slice_index_or, Prelude.◌≡◌}
use Rattle.std.specs.Prelude.{◌+◌, ◌-◌, ◌^◌, ◌==◌, ◌++◌, ℕ, List, [], Bool, Option, None, Some, Result, Ok, min, length, take, drop, slice_set, MatchResult}
use Rattle.edge_files.specs.{Causes.up, Files.in_place, Files.out_place}
use Rattle.edge_files.specs.declared.files.{Failed.Failed, InFile.InFile, OutFile.OutFile}

-- which calls are to fail, how many were made with a nonempty slice or piece, and how many failed
pub record CallCounts : Type 0 where
  pub failing : List ℕ
  pub made : ℕ
  pub faults : ℕ

-- no call was made, and none is to fail
abbrev pub no_calls : CallCounts
no_calls = record { failing = []; made = 0; faults = 0 }

-- whether the next call is to fail: its number, counted from 1, is among those
abbrev pub next_fails : CallCounts → Bool
next_fails calls = list_any (λ n. n == up calls.made) calls.failing

-- one more call, which did not fail
abbrev pub passed_call : CallCounts → CallCounts
passed_call calls = record { failing = calls.failing; made = up calls.made; faults = calls.faults }

-- one more call, which failed
abbrev pub failed_call : CallCounts → CallCounts
failed_call calls = record { failing = calls.failing; made = up calls.made; faults = up calls.faults }

-- what is left of a file, of those of all files in their order
abbrev pub left_of : List (List ℕ) → InFile → List ℕ
left_of files file = slice_index_or files (in_place file) []

-- one file has these bytes left, and the others what they had
abbrev pub with_left : List (List ℕ) → InFile → List ℕ → List (List ℕ)
with_left files file bytes = slice_set files (in_place file) bytes

-- what was written to a file, of that to all files in their order
abbrev pub written_to : List (List ℕ) → OutFile → List ℕ
written_to files file = slice_index_or files (out_place file) []

-- one file has grown by these bytes
abbrev pub with_more : List (List ℕ) → OutFile → List ℕ → List (List ℕ)
with_more files file bytes = slice_set files (out_place file) (written_to files file ++ bytes)

-- inputs in memory: what is left of each file, and the calls
pub record InputsHeld : Type 0 where
  pub left : List (List ℕ)
  pub calls : CallCounts

-- how many bytes a read takes: as many as there are and as there is room for
abbrev pub read_count : List (List ℕ) → InFile → ℕ → ℕ
read_count files file room = min (length (left_of files file)) room

-- a read moved the next bytes of a file to the front of the slice
pub record Reads (old new : List (List ℕ)) (file : InFile) (into after : List ℕ) (result : Result ℕ Failed) : Type 0 where
  pub count : result ≡ Ok (read_count old file (length into))
  pub given : after ≡ take (read_count old file (length into)) (left_of old file) ++ drop (read_count old file (length into)) into
  pub left : new ≡ with_left old file (drop (read_count old file (length into)) (left_of old file))

-- outputs in memory: what was written to each file, how much in all, the total room if there is a bound, and the calls
pub record OutputsHeld : Type 0 where
  pub written : List (List ℕ)
  pub taken : ℕ
  pub room : Option ℕ
  pub calls : CallCounts

-- how many of the next bytes there is room for
abbrev pub fits : Option ℕ → ℕ → ℕ → ℕ
fits None taken wanted = wanted
fits (Some total) taken wanted = min wanted (total - taken)

-- how many bytes of a piece of this length a write takes
abbrev pub write_count : OutputsHeld → ℕ → ℕ
write_count held wanted = fits held.room held.taken wanted

-- the write failed: it was counted, and nothing else changed
abbrev pub refused_write : OutputsHeld → OutputsHeld
refused_write held = record { written = held.written; taken = held.taken; room = held.room; calls = failed_call held.calls }

-- the write took these bytes
abbrev pub taken_write : OutputsHeld → OutFile → List ℕ → OutputsHeld
taken_write held file bytes = record {
  written = with_more held.written file bytes;
  taken = min (held.taken + length bytes) (2 ^ 64 - 1);
  room = held.room;
  calls = passed_call held.calls;
}

-- the write took all that there is room for, or failed for want of memory; there are four files
pub record TakesOrFails (old new : OutputsHeld) (file : OutFile) (piece : List ℕ) (result : Result ℕ Failed) : Type 0 where
  pub files : length old.written ≡ 4
  pub answer : MatchResult result
      (λ n. (n ≡ write_count old (length piece)) × (new ≡ taken_write old file (take n piece)))
      (λ _. new ≡ refused_write old)
