-- Steps in turn: for callers that perform more than once.
use Rattle.std.proofs.Common.{◌≡◌, ℕ, List, [], ◌∷◌, ◌++◌, Option, None, Some, refl, sym, ◌∙◌, ap, subst, append_assoc, inl, inr}
use Rattle.std.proofs.{KnownBytes.Appends-nil, lemmas.Grind.flat_map-append, lemmas.List.append-nil, lemmas.List.map-append}
use Rattle.edge_files.{proofs.Written.writes_nothing, proofs.Written.writes_then, specs.Effects.steps_of, specs.Effects.all_steps}
use Rattle.edge_files.specs.Keeping.{Kept, Told, StaysTold, Becomes, KeepsOrBecomes}
use Rattle.edge_files.specs.World.{Written, Step, Byte, Saved, World, outside, byte_steps, kept_after, KeptBecomes, KeptBecomesIfTold, Writes, WritesPart, Does}
use Rattle.edge_files.specs.{World.DoesPart, declared.effects.Effect.Effect, declared.files.OutFile.OutFile}

kept_after-append : (xs ys : List Step) (before : Option Kept) → kept_after before (xs ++ ys) ≡ kept_after (kept_after before xs) ys
kept_after-append [] ys before = refl
kept_after-append (Byte to b ∷ xs) ys before = kept_after-append xs ys before
kept_after-append (Saved kept ∷ xs) ys before = kept_after-append xs ys (Some kept)

kept_nothing : (a : Told) → KeptBecomes a a []
kept_nothing None = tt
kept_nothing (Some kept) = refl

kept_then : (a b c : Told) (xs ys : List Step) → KeptBecomes a b xs → KeptBecomes b c ys → KeptBecomes a c (xs ++ ys)
kept_then None b c xs ys first second = tt
kept_then (Some before) b c xs ys first second =
    let told : KeptBecomes (Some (kept_after before xs)) c ys = subst (λ (t : Told). KeptBecomes t c ys) first second in
    told ∙ ap (λ (k : Option Kept). Some k) (sym (kept_after-append xs ys before))

kept_if_told : (a b : Told) (xs : List Step) → KeptBecomes a b xs → KeptBecomesIfTold a b xs
kept_if_told None b xs becomes = tt
kept_if_told (Some before) b xs becomes = subst (λ (t : Told). KeptBecomesIfTold (Some before) t xs) (sym becomes) refl

if_told_then : (before : Option Kept) (c : Told) (xs ys : List Step) → KeptBecomesIfTold (Some (kept_after before xs)) c ys → KeptBecomesIfTold (Some before) c (xs ++ ys)
if_told_then before None xs ys second = tt
if_told_then before (Some after) xs ys second = second ∙ sym (kept_after-append xs ys before)

kept_then_if_told : (a b c : Told) (xs ys : List Step) → KeptBecomes a b xs → KeptBecomesIfTold b c ys → KeptBecomesIfTold a c (xs ++ ys)
kept_then_if_told None b c xs ys first second = tt
kept_then_if_told (Some before) b c xs ys first second =
    if_told_then before c xs ys (subst (λ (t : Told). KeptBecomesIfTold t c ys) first second)

-- what a call that told on went through is told after it
pub told_then : (a b c : Told) (xs : List Step) → KeptBecomes a b xs → StaysTold b c → StaysTold a c
told_then None b c xs first second = tt
told_then (Some before) b None xs first second = subst (λ (t : Told). StaysTold t None) first second
told_then (Some before) b (Some after) xs first second = tt

pub does_nothing : (a : World) → Does a a []
does_nothing a = record { files = writes_nothing a.written; keeper = kept_nothing a.kept }

pub does_then : (a b c : World) (xs ys : List Step) → Does a b xs → Does b c ys → Does a c (xs ++ ys)
does_then a b c xs ys first second = record {
  files = writes_then a.written b.written c.written xs ys first.files second.files;
  keeper = kept_then a.kept b.kept c.kept xs ys first.keeper second.keeper;
}

-- a front of what comes second is one of both
pub part_then : (a b c : World) (xs ys : List Step) → Does a b xs → DoesPart b c ys → DoesPart a c (xs ++ ys)
part_then a b c xs ys first second = record {
  done = xs ++ second.done;
  rest = second.rest;
  front = append_assoc xs second.done second.rest ∙ ap (λ (l : List Step). xs ++ l) second.front;
  files = writes_then a.written b.written c.written xs second.done first.files second.files;
  keeper = kept_then_if_told a.kept b.kept c.kept xs second.done first.keeper second.keeper;
}

-- a front of what comes first is one of both
pub part_first : (a b : World) (xs ys : List Step) → DoesPart a b xs → DoesPart a b (xs ++ ys)
part_first a b xs ys part = record {
  done = part.done;
  rest = part.rest ++ ys;
  front = sym (append_assoc part.done part.rest ys) ∙ ap (λ (l : List Step). l ++ ys) part.front;
  files = part.files;
  keeper = part.keeper;
}

pub part_whole : (a b : World) (xs : List Step) → Does a b xs → DoesPart a b xs
part_whole a b xs does = record {
  done = xs;
  rest = [];
  front = append-nil xs;
  files = does.files;
  keeper = kept_if_told a.kept b.kept xs does.keeper;
}

pub part_nothing : (a : World) (xs : List Step) → DoesPart a a xs
part_nothing a xs = part_first a a [] xs (part_whole a a [] (does_nothing a))

-- effects of which the rest is still to be performed
pub record Performing (old now : World) (all rest : List Step) : Type 0 where
  pub front : List Step
  pub split : front ++ rest ≡ all
  pub does : Does old now front

pub performing_more : (a b c : World) (all one rest : List Step) → Performing a b all (one ++ rest) → Does b c one → Performing a c all rest
performing_more a b c all one rest so_far does = record {
  front = so_far.front ++ one;
  split = append_assoc so_far.front one rest ∙ so_far.split;
  does = does_then a b c so_far.front one so_far.does does;
}

pub performing_part : (a b c : World) (all one rest : List Step) → Performing a b all (one ++ rest) → DoesPart b c one → DoesPart a c all
performing_part a b c all one rest so_far part = subst (λ (l : List Step). DoesPart a c l) so_far.split
    (part_then a b c so_far.front (one ++ rest) so_far.does (part_first b c one rest part))

kept_after-bytes : (file : OutFile) (bytes : List ℕ) (before : Option Kept) → kept_after before (byte_steps file bytes) ≡ before
kept_after-bytes file [] before = refl
kept_after-bytes file (b ∷ bytes) before = kept_after-bytes file bytes before

kept_bytes : (a : Told) (file : OutFile) (bytes : List ℕ) → KeptBecomes a a (byte_steps file bytes)
kept_bytes None file bytes = tt
kept_bytes (Some before) file bytes = ap (λ (k : Option Kept). Some k) (sym (kept_after-bytes file bytes before))

writes_no_byte : (w : Written) (kept : Kept) → Writes w w (Saved kept ∷ [])
writes_no_byte w kept = record { each = λ file. Appends-nil (w file) }

-- what was written while the keeper was left alone
pub writes_does : (a b : Written) (kept : Told) (file : OutFile) (piece : List ℕ) → Writes a b (byte_steps file piece) → Does (outside a kept) (outside b kept) (byte_steps file piece)
writes_does a b kept file piece writes = record { files = writes; keeper = kept_bytes kept file piece }

pub writes_part_does : (a b : Written) (kept : Told) (file : OutFile) (piece : List ℕ) → WritesPart a b file piece → DoesPart (outside a kept) (outside b kept) (byte_steps file piece)
writes_part_does a b kept file piece part = record {
  done = byte_steps file part.done;
  rest = byte_steps file part.rest;
  front = sym (map-append (Byte file) part.done part.rest) ∙ ap (λ (l : List ℕ). byte_steps file l) part.front;
  files = part.writes;
  keeper = kept_if_told kept kept (byte_steps file part.done) (kept_bytes kept file part.done);
}

-- what was saved while the files were left alone
pub save_does : (w : Written) (a b : Told) (now : Kept) → Becomes a b (Some now) → Does (outside w a) (outside w b) (Saved now ∷ [])
save_does w None b now becomes = record { files = writes_no_byte w now; keeper = tt }
save_does w (Some before) b now becomes = record { files = writes_no_byte w now; keeper = becomes }

pub save_part_does : (w : Written) (a b : Told) (now : Kept) → KeepsOrBecomes a b now → DoesPart (outside w a) (outside w b) (Saved now ∷ [])
save_part_does w None b now keeps = record { done = []; rest = Saved now ∷ []; front = refl; files = writes_nothing w; keeper = tt }
save_part_does w (Some before) None now keeps = record { done = []; rest = Saved now ∷ []; front = refl; files = writes_nothing w; keeper = tt }
save_part_does w (Some before) (Some after) now (inl same) = record { done = []; rest = Saved now ∷ []; front = refl; files = writes_nothing w; keeper = same }
save_part_does w (Some before) (Some after) now (inr becomes) = record { done = Saved now ∷ []; rest = []; front = refl; files = writes_no_byte w now; keeper = becomes }

pub all_steps-append : (first second : List Effect) → all_steps (first ++ second) ≡ all_steps first ++ all_steps second
all_steps-append first second = flat_map-append steps_of first second
