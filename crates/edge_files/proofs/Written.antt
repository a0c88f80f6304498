-- How writes go on.
use Rattle.std.proofs.Common.{◌≡◌, ◌≤◌, ℕ, List, length, [], ◌∷◌, ◌++◌, take, drop, Bool, true, false, cond, refl, sym, ◌∙◌, ap, subst, append_assoc}
use Rattle.std.proofs.{Common.take-append-drop, KnownBytes.Appends-nil, KnownBytes.Appends-trans, lemmas.List.append-nil, lemmas.List.map-append}
use Rattle.std.{proofs.lemmas.List.take-append-le, specs.Io.KnownBytes.Appends}
use Rattle.edge_files.specs.declared.files.OutFile.{OutFile}
use Rattle.edge_files.specs.World.{Written, Step, Byte, Saved, byte_steps, is_same, bytes_of, Writes, WritesPart}

chosen-append : (b : Bool) (x : ℕ) (xs ys : List ℕ) → cond b (x ∷ (xs ++ ys)) (xs ++ ys) ≡ cond b (x ∷ xs) xs ++ ys
chosen-append true x xs ys = refl
chosen-append false x xs ys = refl

pub bytes_of-append : (file : OutFile) (xs ys : List Step) → bytes_of file (xs ++ ys) ≡ bytes_of file xs ++ bytes_of file ys
bytes_of-append file [] ys = refl
bytes_of-append file (Byte to b ∷ xs) ys =
    ap (λ (l : List ℕ). cond (is_same file to) (b ∷ l) l) (bytes_of-append file xs ys)
    ∙ chosen-append (is_same file to) b (bytes_of file xs) (bytes_of file ys)
bytes_of-append file (Saved kept ∷ xs) ys = bytes_of-append file xs ys

pub writes_nothing : (a : Written) → Writes a a []
writes_nothing a = record { each = λ file. Appends-nil (a file) }

pub writes_then : (a b c : Written) (xs ys : List Step) → Writes a b xs → Writes b c ys → Writes a c (xs ++ ys)
writes_then a b c xs ys first second = record {
  each = λ file. subst (λ (l : List ℕ). Appends (a file) (c file) l) (sym (bytes_of-append file xs ys))
      (Appends-trans (a file) (b file) (c file) (bytes_of file xs) (bytes_of file ys) (first.each file) (second.each file));
}

pub writes_as : (a b : Written) (xs ys : List Step) → xs ≡ ys → Writes a b xs → Writes a b ys
writes_as a b xs ys same writes = subst (λ (l : List Step). Writes a b l) same writes

-- a piece of which the rest is still to be written
pub record Writing (old now : Written) (file : OutFile) (piece rest : List ℕ) : Type 0 where
  pub front : List ℕ
  pub split : front ++ rest ≡ piece
  pub writes : Writes old now (byte_steps file front)

pub writing_more : (a b c : Written) (file : OutFile) (piece rest : List ℕ) (n : ℕ) → Writing a b file piece rest → Writes b c (byte_steps file (take n rest)) → Writing a c file piece (drop n rest)
writing_more a b c file piece rest n so_far took = record {
  front = so_far.front ++ take n rest;
  split = append_assoc so_far.front (take n rest) (drop n rest) ∙ ap (λ (l : List ℕ). so_far.front ++ l) (take-append-drop n rest) ∙ so_far.split;
  writes = writes_as a c _ _ (sym (map-append (Byte file) so_far.front (take n rest))) (writes_then a b c (byte_steps file so_far.front) (byte_steps file (take n rest)) so_far.writes took);
}

-- the first n bytes of a front of the rest, of k bytes, are those of the rest
take_of_front : (k n : ℕ) (rest : List ℕ) → n ≤ length (take k rest) → take n (take k rest) ≡ take n rest
take_of_front k n rest h = sym (take-append-le n (take k rest) (drop k rest) h) ∙ ap (λ (l : List ℕ). take n l) (take-append-drop k rest)

pub writing_front : (a b c : Written) (file : OutFile) (piece rest front : List ℕ) (k n : ℕ) → Writing a b file piece rest → front ≡ take k rest → n ≤ length front → Writes b c (byte_steps file (take n front)) → Writing a c file piece (drop n rest)
writing_front a b c file piece rest front k n so_far is h took =
    let within = subst (λ (l : List ℕ). n ≤ length l) is h in
    let took_front = subst (λ (l : List ℕ). Writes b c (byte_steps file (take n l))) is took in
    writing_more a b c file piece rest n so_far (subst (λ (l : List ℕ). Writes b c (byte_steps file l)) (take_of_front k n rest within) took_front)

pub writing_part : (a b c : Written) (file : OutFile) (piece rest : List ℕ) → Writing a b file piece rest → Writes b c [] → WritesPart a c file piece
writing_part a b c file piece rest so_far nothing = record {
  done = so_far.front;
  rest = rest;
  front = so_far.split;
  writes = writes_as a c _ _ (append-nil (byte_steps file so_far.front)) (writes_then a b c (byte_steps file so_far.front) [] so_far.writes nothing);
}
