-- Texts behind the events, one after the other.
use Rattle.std.proofs.Common.{◌≡◌, ℕ, ◌≤◌, List, [], ◌++◌, Ok, Err, refl, sym, ap, ◌∙◌, append_assoc, append-nil, arith}
use Rattle.std.proofs.lemmas.List.{map-append}
use Rattle.edge_files.specs.declared.files.OutFile.TheVariants as out
use Rattle.edge_files.proofs.Written.{writes_nothing, writes_then, writes_as}
use Rattle.edge_files.specs.{Causes.Rose, World.Written, World.Byte, World.byte_steps, World.Writes, World.WritesPart}
use Rattle.events.specs.{Lines.event_lines, declared.event.Book.Book, declared.event.Event.Event}
use Rattle.scoring.specs.Tables.{ScoringRows}
use Rattle.event_writer.specs.{Writing.IsWritten, Writing.AreWritten, declared.writing.StreamError.StreamError}
use Rattle.event_writer.specs.declared.writing.StreamError.TheVariants as error

bytes_then : (xs ys : List ℕ) → byte_steps out.Events xs ++ byte_steps out.Events ys ≡ byte_steps out.Events (xs ++ ys)
bytes_then xs ys = sym (map-append (Byte out.Events) xs ys)

pub texts_then : (a b c : Written) (xs ys : List ℕ) → Writes a b (byte_steps out.Events xs) → Writes b c (byte_steps out.Events ys)
    → Writes a c (byte_steps out.Events (xs ++ ys))
texts_then a b c xs ys first second = writes_as a c _ _ (bytes_then xs ys) (writes_then a b c _ _ first second)

-- a front of what comes behind what was written is a front of both, and of more
part_then : (a b c : Written) (xs ys rest : List ℕ) → Writes a b (byte_steps out.Events xs) → WritesPart b c out.Events ys
    → WritesPart a c out.Events ((xs ++ ys) ++ rest)
part_then a b c xs ys rest first part = record {
  done = xs ++ part.done;
  rest = part.rest ++ rest;
  front =
      sym (append_assoc (xs ++ part.done) part.rest rest)
      ∙ ap (λ (l : List ℕ). l ++ rest) (append_assoc xs part.done part.rest ∙ ap (λ (l : List ℕ). xs ++ l) part.front);
  writes = texts_then a b c xs part.done first part.writes;
}

part_nothing : (a : Written) (xs : List ℕ) → WritesPart a a out.Events xs
part_nothing a xs = record { done = []; rest = xs; front = refl; writes = writes_nothing a }

part_whole : (a b : Written) (xs : List ℕ) → Writes a b (byte_steps out.Events xs) → WritesPart a b out.Events xs
part_whole a b xs writes = record { done = xs; rest = []; front = append-nil xs; writes = writes }

-- memory was wanting before anything was written
pub none_written : {T : Type 0} (a : Written) (n : ℕ) (xs : List ℕ) → IsWritten {T = T} a a n n xs (Err error.NoMemory)
none_written a n xs = record { done = tt; part = part_nothing a xs; later = omega arith; failed = λ is. absurd (cc) }

-- nor anything seen
pub none_seen : (R : ScoringRows) (book : Book) (events : List Event) (kinds : List ℕ) (count : ℕ) (a : Written) (n : ℕ)
    → AreWritten R book events kinds count a a n n (Err error.NoMemory)
none_seen R book events kinds count a n = record { written = none_written a n (event_lines events book); seen = tt; links = tt }

-- or behind what was written whole
pub written_but : {A B : Type 0} (a b : Written) (n m : ℕ) (xs : List ℕ) (x : A) → IsWritten a b n m xs (Ok x)
    → IsWritten {T = B} a b n m xs (Err error.NoMemory)
written_but a b n m xs x did = record {
  done = tt;
  part = part_whole a b xs did.done;
  later = did.later;
  failed = λ is. absurd (cc);
}

-- what failed failed, whatever is answered otherwise, and is a front of more
pub failed_behind : {A B : Type 0} (a b c : Written) (n m k : ℕ) (xs ys rest : List ℕ) (e : StreamError)
    → Writes a b (byte_steps out.Events xs)
    → n ≤ m → IsWritten {T = A} b c m k ys (Err e) → IsWritten {T = B} a c n k ((xs ++ ys) ++ rest) (Err e)
failed_behind a b c n m k xs ys rest e first before did = record {
  done = tt;
  part = part_then a b c xs ys rest first did.part;
  later = let l = did.later in omega (arith, before);
  failed = λ is.
      let same : e ≡ error.WriteFailed = cc in
      let rose : Rose m k = did.failed (ap Err same) in
      omega (arith, rose, before);
}

-- want of memory behind what was written of more
pub wanting_behind : {B : Type 0} (a b : Written) (n m : ℕ) (xs rest : List ℕ) → Writes a b (byte_steps out.Events xs) → n ≤ m
    → IsWritten {T = B} a b n m (xs ++ rest) (Err error.NoMemory)
wanting_behind a b n m xs rest first before = record {
  done = tt;
  part = record { done = xs; rest = rest; front = refl; writes = first };
  later = before;
  failed = λ is. absurd (cc);
}
