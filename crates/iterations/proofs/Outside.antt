-- What comes of effects that are done one after the other.
use Rattle.std.proofs.Common.{◌≡◌, ℕ, ◌≤◌, Bool, List, [], ◌∷◌, ◌++◌, Result, Ok, Err, OnOk, true, false, refl, sym, ◌∙◌, ap, subst, arith}
use Rattle.std.proofs.lemmas.List.{append-nil, map-append}
use Rattle.edge_files.proofs.Worlds.{does_nothing, does_then, part_then, part_first, part_whole, part_nothing, told_then, Performing, performing_more}
use Rattle.edge_files.specs.{Causes.Rose, Effects.all_steps, World.Step, World.Byte, World.byte_steps, World.Does}
use Rattle.edge_files.specs.declared.{effects.EffectError.EffectError, files.OutFile.OutFile}
use Rattle.edge_files.specs.declared.effects.EffectError.TheVariants as error
use Rattle.edge_files.specs.declared.effects.Effect.TheVariants as effect
use Rattle.iterations.specs.Performed.{Moment, IsPerformed, IsWritten}

rose_later : (before then' now : ℕ) → before ≤ then' → Rose then' now → Rose before now
rose_later before then' now later rose = omega (arith, rose)

-- want of memory before anything was done
pub none_done : {T : Type 0} {k : Bool} (a : Moment) (steps : List Step) → IsPerformed {T = T} k a a steps (Err error.NoMemory)
none_done a steps = record {
  done = tt;
  part = part_nothing a.world steps;
  write_later = omega arith;
  keep_later = omega arith;
  write_failed = λ is. absurd (cc);
  keep_failed = λ is. absurd (cc);
  told = λ is. absurd (cc);
}

-- steps that were done
pub all_done : {T : Type 0} {k : Bool} (a b : Moment) (steps : List Step) (value : T) → Does a.world b.world steps → a.writes ≤ b.writes
    → a.keeps ≤ b.keeps → IsPerformed k a b steps (Ok value)
all_done a b steps value does writes keeps = record {
  done = does;
  part = tt;
  write_later = writes;
  keep_later = keeps;
  write_failed = λ is. absurd (cc);
  keep_failed = λ is. absurd (cc);
  told = λ is. absurd (cc);
}

-- what was written while the keeper was left alone, is done also where the keeper may be called
pub written : {T : Type 0} (k : Bool) (a b : Moment) (steps : List Step) (r : Result T EffectError) → IsWritten a b steps r
    → IsPerformed k a b steps r
written k a b steps r did = record {
  done = did.done;
  part = did.part;
  write_later = did.write_later;
  keep_later = did.keep_later;
  write_failed = did.write_failed;
  keep_failed = λ is. let never : false ≡ true = (did.keep_failed is).0 in absurd (cc);
  told = did.told;
}

module _ {A B : Type 0} {k : Bool} (a b : Moment) (steps : List Step) where
  -- what was done whole was so, whatever is answered
  pub done_with : (x : A) (y : B) → IsPerformed k a b steps (Ok x) → IsPerformed k a b steps (Ok y)
  done_with x y did = all_done a b steps y did.done did.write_later did.keep_later

  -- memory was wanting behind what was done whole
  pub done_but : (x : A) → IsPerformed k a b steps (Ok x) → IsPerformed {T = B} k a b steps (Err error.NoMemory)
  done_but x did = record {
    done = tt;
    part = part_whole a.world b.world steps did.done;
    write_later = did.write_later;
    keep_later = did.keep_later;
    write_failed = λ is. absurd (cc);
    keep_failed = λ is. absurd (cc);
    told = λ is. absurd (cc);
  }

  -- what failed failed, whatever is answered otherwise
  pub failed_as : (e : EffectError) → IsPerformed {T = A} k a b steps (Err e) → IsPerformed {T = B} k a b steps (Err e)
  failed_as e did = record {
    done = tt;
    part = did.part;
    write_later = did.write_later;
    keep_later = did.keep_later;
    write_failed = λ is. let same : e ≡ error.WriteFailed = cc in did.write_failed (ap Err same);
    keep_failed = λ is. let same : e ≡ error.KeepFailed = cc in did.keep_failed (ap Err same);
    told = λ is. let same : e ≡ error.WriteFailed = cc in did.told (ap Err same);
  }

-- the same steps
pub same_steps : {T : Type 0} {k : Bool} (a b : Moment) (steps others : List Step) (r : Result T EffectError) → steps ≡ others
    → IsPerformed k a b steps r → IsPerformed k a b others r
same_steps {T} {k} a b steps others r same did = subst (λ (l : List Step). IsPerformed k a b l r) same did

-- what failed in the first part has failed in the whole
pub first_failed : {A B : Type 0} {k : Bool} (a b : Moment) (steps later : List Step) (e : EffectError)
    → IsPerformed {T = A} k a b steps (Err e) → IsPerformed {T = B} k a b (steps ++ later) (Err e)
first_failed {A} {B} {k} a b steps later e did =
    let same : IsPerformed {T = B} k a b steps (Err e) = failed_as {A = A} {B = B} a b steps e did in
    record {
      done = tt;
      part = part_first a.world b.world steps later did.part;
      write_later = same.write_later;
      keep_later = same.keep_later;
      write_failed = same.write_failed;
      keep_failed = same.keep_failed;
      told = same.told;
    }

-- one part after the other
pub one_then : {A B : Type 0} {j k : Bool} (a b c : Moment) (steps later : List Step) (x : A) (r : Result B EffectError)
    → IsPerformed j a b steps (Ok x) → IsPerformed k b c later r → IsPerformed k a c (steps ++ later) r
one_then a b c steps later x (Ok y) first second =
    let w = first.write_later in
    let v = second.write_later in
    let p = first.keep_later in
    let q = second.keep_later in
    all_done a c (steps ++ later) y (does_then a.world b.world c.world steps later first.done second.done) (omega arith) (omega arith)
one_then {A} {B} {j} {k} a b c steps later x (Err e) first second =
    let w = first.write_later in
    let v = second.write_later in
    let p = first.keep_later in
    let q = second.keep_later in
    record {
      done = tt;
      part = part_then a.world b.world c.world steps later first.done second.part;
      write_later = omega arith;
      keep_later = omega arith;
      write_failed = λ is. rose_later a.writes b.writes c.writes first.write_later (second.write_failed is);
      keep_failed = λ is.
          let own : (k ≡ true) × Rose b.keeps c.keeps = second.keep_failed is in
          (own.0, rose_later a.keeps b.keeps c.keeps first.keep_later own.1);
      told = λ is. told_then a.world.kept b.world.kept c.world.kept steps first.done.keeper (second.told is);
    }

-- LOOPS
-- so far a front of all steps was done, and these are left
pub record IsGoing (old now : Moment) (all rest : List Step) : Type 0 where
  pub performing : Performing old.world now.world all rest
  pub write_later : old.writes ≤ now.writes
  pub keep_later : old.keeps ≤ now.keeps

pub going_first : (a : Moment) (all rest : List Step) → rest ≡ all → IsGoing a a all rest
going_first a all rest is = subst (λ (l : List Step). IsGoing a a all l) (sym is) (record {
  performing = record { front = []; split = refl; does = does_nothing a.world };
  write_later = omega arith;
  keep_later = omega arith;
})

-- the front that was done
so_far : {k : Bool} (a b : Moment) (all rest : List Step) (going : IsGoing a b all rest)
    → IsPerformed {T = Unit {0}} k a b going.performing.front (Ok tt)
so_far a b all rest going =
    all_done a b going.performing.front tt going.performing.does going.write_later going.keep_later

-- the rest is done at once
pub going_last : {T : Type 0} {k : Bool} (a b c : Moment) (all rest : List Step) (r : Result T EffectError) → IsGoing a b all rest
    → IsPerformed k b c rest r → IsPerformed k a c all r
going_last {T} {k} a b c all rest r going did =
    let front = going.performing.front in
    same_steps a c (front ++ rest) all r going.performing.split
    (one_then {A = Unit {0}} {j = k} a b c front rest tt r (so_far {k = k} a b all rest going) did)

pub going_on : {T : Type 0} {k : Bool} (a b c : Moment) (all one rest : List Step) (x : T) → IsGoing a b all (one ++ rest)
    → IsPerformed k b c one (Ok x) → IsGoing a c all rest
going_on a b c all one rest x going did =
    let w = going.write_later in
    let v = did.write_later in
    let p = going.keep_later in
    let q = did.keep_later in
    record {
      performing = performing_more a.world b.world c.world all one rest going.performing did.done;
      write_later = omega arith;
      keep_later = omega arith;
    }

pub going_failed : {A B : Type 0} {k : Bool} (a b c : Moment) (all one rest : List Step) (e : EffectError)
    → IsGoing a b all (one ++ rest) → IsPerformed {T = A} k b c one (Err e) → IsPerformed {T = B} k a c all (Err e)
going_failed {A} {B} {k} a b c all one rest e going did =
    going_last a b c all (one ++ rest) (Err e) going (first_failed {A = A} {B = B} b c one rest e did)

-- memory was wanting in the midst of it
pub going_wanting : {T : Type 0} {k : Bool} (a b : Moment) (all rest : List Step) → IsGoing a b all rest
    → IsPerformed {T = T} k a b all (Err error.NoMemory)
going_wanting {T} {k} a b all rest going = going_last {T = T} {k = k} a b b all rest (Err error.NoMemory) going (none_done b rest)

-- TEXTS IN PIECES
pub bytes_then : (file : OutFile) (front back text : List ℕ) → text ≡ front ++ back → byte_steps file front ++ byte_steps file back ≡ byte_steps file text
bytes_then file front back text is = sym (map-append (Byte file) front back) ∙ ap (byte_steps file) (sym is)

pub text_then : {A B : Type 0} {j k : Bool} (a b c : Moment) (file : OutFile) (front back text : List ℕ) (x : A) (r : Result B EffectError)
    → text ≡ front ++ back → IsPerformed j a b (byte_steps file front) (Ok x) → IsPerformed k b c (byte_steps file back) r
    → IsPerformed k a c (byte_steps file text) r
text_then a b c file front back text x r is first second =
    same_steps a c (byte_steps file front ++ byte_steps file back) (byte_steps file text) r (bytes_then file front back text is)
    (one_then a b c (byte_steps file front) (byte_steps file back) x r first second)

pub text_failed : {A B : Type 0} {k : Bool} (a b : Moment) (file : OutFile) (front back text : List ℕ) (e : EffectError)
    → text ≡ front ++ back → IsPerformed {T = A} k a b (byte_steps file front) (Err e) → IsPerformed {T = B} k a b (byte_steps file text) (Err e)
text_failed {A} {B} a b file front back text e is did =
    same_steps a b (byte_steps file front ++ byte_steps file back) (byte_steps file text) (Err e) (bytes_then file front back text is)
    (first_failed {A = A} {B = B} a b (byte_steps file front) (byte_steps file back) e did)

pub two_effects : (one other : OutFile) (text more : List ℕ)
    → byte_steps one text ++ byte_steps other more ≡ all_steps (effect.Write one text ∷ effect.Write other more ∷ [])
two_effects one other text more = ap (λ (l : List Step). byte_steps one text ++ l) (sym (append-nil (byte_steps other more)))

pub going_text : {A : Type 0} {k : Bool} (a b c : Moment) (all : List Step) (file : OutFile) (rest front back : List ℕ) (x : A) → rest ≡ front ++ back
    → IsGoing a b all (byte_steps file rest) → IsPerformed k b c (byte_steps file front) (Ok x) → IsGoing a c all (byte_steps file back)
going_text a b c all file rest front back x is going did =
    going_on a b c all (byte_steps file front) (byte_steps file back) x
    (subst (λ (l : List Step). IsGoing a b all l) (sym (bytes_then file front back rest is)) going) did

-- no text is left
pub going_over : {T : Type 0} {k : Bool} (a b : Moment) (all : List Step) (file : OutFile) (text : List ℕ) (x : T) → text ≡ []
    → IsGoing a b all (byte_steps file text) → IsPerformed k a b all (Ok x)
going_over {T} {k} a b all file text x none going =
    going_last {T = T} {k = k} a b b all (byte_steps file text) (Ok x) going
    (subst (λ (l : List ℕ). IsPerformed {T = T} k b b (byte_steps file l) (Ok x)) (sym none)
    (all_done b b [] x (does_nothing b.world) (omega arith) (omega arith)))

pub going_text_failed : {A B : Type 0} {k : Bool} (a b c : Moment) (all : List Step) (file : OutFile) (rest front back : List ℕ) (e : EffectError)
    → rest ≡ front ++ back → IsGoing a b all (byte_steps file rest) → IsPerformed {T = A} k b c (byte_steps file front) (Err e)
    → IsPerformed {T = B} k a c all (Err e)
going_text_failed {A} {B} a b c all file rest front back e is going did =
    going_failed {A = A} {B = B} a b c all (byte_steps file front) (byte_steps file back) e
    (subst (λ (l : List Step). IsGoing a b all l) (sym (bytes_then file front back rest is)) going) did

-- what a call did where it gave no error
pub ok_then : {A E : Type 0} (P Q : Type 0) (r : Result A E) → OnOk r P → (P → Q) → OnOk r Q
ok_then P Q (Ok x) did turn = turn did
ok_then P Q (Err e) did turn = tt
