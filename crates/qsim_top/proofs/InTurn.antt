-- Files are read one after the other.
use Rattle.scenario.proofs.Common.{InFile, Texts}
use Rattle.traffic.proofs.Common.{◌≡◌, ℕ, List, ◌∙◌, length, ap, refl, sym, [], ◌∷◌, arith, ◌<◌, true, ◌+◌, Bool, inl, inr, ◌≤◌, suc, zero, get_or, ◌≢◌}
use Rattle.traffic.proofs.Common.{and_parts, cases_lt, eqb-true, Some, Option, ◌&&◌, nat_eq}
use Rattle.std.proofs.lemmas.List.{get_or_default}
use Rattle.edge_files.specs.{Files.in_place, Inputs.Left, Inputs.OthersStay, declared.files.TheConstants.SCENARIO_FILES}
use Rattle.qsim_top.specs.Contents.{Contents, AreLeft, AreAlike, text_of, texts_in}

-- the files have these places, one after the other
are_placed : ℕ → List InFile → Bool
are_placed n [] = true
are_placed n (file ∷ files) = nat_eq (in_place file) n && are_placed (suc n) files

place_at : (files : List InFile) (n k : ℕ) (d : InFile) → k < length files → are_placed n files ≡ true → in_place (get_or files k d) ≡ n + k
unfolding are_placed
place_at [] n k d less placed = absurd (omega arith)
place_at (file ∷ files) n zero d less placed = let first = eqb-true (in_place file) n (and_parts _ _ placed).0 in omega arith
place_at (file ∷ files) n (suc k) d less placed = let later = place_at files (suc n) k d (omega arith) (and_parts _ _ placed).1 in omega arith

-- the place of a file of a scenario is its place in the order in which they are read
pub placed : (k : ℕ) (d : InFile) → k < length SCENARIO_FILES → in_place (get_or SCENARIO_FILES k d) ≡ k
unfolding are_placed
placed k d less = let at = place_at SCENARIO_FILES 0 k d less refl in omega arith

-- two files at different places are different
others : (a b : InFile) (n k : ℕ) → in_place a ≡ n → in_place b ≡ k → (n ≡ k → ⊥) → a ≢ b
others a b n k at_a at_b differ same = differ (sym at_a ∙ ap in_place same ∙ at_b)

-- the first n files are these
pub record PutTo (texts wanted : Texts) (n : ℕ) : Type 0 where
  pub put : (k : ℕ) (d : InFile) → k < n → texts (get_or SCENARIO_FILES k d) ≡ wanted (get_or SCENARIO_FILES k d)

pub put_none : (texts wanted : Texts) → PutTo texts wanted 0
put_none texts wanted = record { put = λ k d less. absurd (omega arith) }

here : (n k : ℕ) (e d file : InFile) → n < length SCENARIO_FILES → file ≡ get_or SCENARIO_FILES n e → k ≡ n → get_or SCENARIO_FILES k d ≡ file
here n k e d file less is same = ap (λ (m : ℕ). get_or SCENARIO_FILES m d) same ∙ get_or_default SCENARIO_FILES n d e less ∙ sym is

-- one more file
pub put_more : (texts more wanted : Texts) (n : ℕ) (e file : InFile) → PutTo texts wanted n → n < length SCENARIO_FILES → file ≡ get_or SCENARIO_FILES n e
    → more file ≡ wanted file → ((other : InFile) → other ≢ file → more other ≡ texts other) → PutTo more wanted (n + 1)
put_more texts more wanted n e file so_far less is put kept =
    let place : in_place file ≡ n = ap in_place is ∙ placed n e less in
    record {
      put = λ k d within. elim (cases_lt k n) [
        | inl earlier ↦ kept (get_or SCENARIO_FILES k d) (others (get_or SCENARIO_FILES k d) file k n (placed k d (omega arith)) place (λ same. omega arith))
            ∙ so_far.put k d earlier
        | inr last ↦
            let same : k ≡ n = omega arith in
            ap more (here n k e d file less is same) ∙ put ∙ ap wanted (sym (here n k e d file less is same))
      ];
    }

-- all files are these
pub put_all : (texts wanted : Texts) (n : ℕ) → PutTo texts wanted n → length SCENARIO_FILES ≤ n → AreAlike texts wanted
put_all texts wanted n so_far all = λ k d less. so_far.put k d (omega arith)

-- the first n files were read, and of the others as much is left as at first
pub record ReadTo (before now : Left) (texts : Texts) (n : ℕ) : Type 0 where
  pub read : (contents : Contents) → AreLeft before contents → PutTo texts (texts_in contents) n
  pub left : (k : ℕ) (d : InFile) → n ≤ k → k < length SCENARIO_FILES → now (get_or SCENARIO_FILES k d) ≡ before (get_or SCENARIO_FILES k d)

pub read_none : (before : Left) (texts : Texts) → ReadTo before before texts 0
read_none before texts = record { read = λ contents left. put_none texts (texts_in contents); left = λ k d more less. refl }

-- one more file
pub read_more : (before now after : Left) (texts more : Texts) (n : ℕ) (e file : InFile) (text : Option (List ℕ)) → ReadTo before now texts n → n < length SCENARIO_FILES → file ≡ get_or SCENARIO_FILES n e
    → ((bytes : List ℕ) → now file ≡ Some bytes → text ≡ text_of bytes) → OthersStay now after file → more file ≡ text → ((other : InFile) → other ≢ file → more other ≡ texts other) → ReadTo before after more (n + 1)
read_more before now after texts more n e file text so_far less is given stay put kept =
    let place : in_place file ≡ n = ap in_place is ∙ placed n e less in
    record {
      read = λ contents left.
          let told : now file ≡ Some (contents file) = ap now is ∙ so_far.left n e (omega arith) less ∙ left n e less ∙ ap (λ (f : InFile). Some (contents f)) (sym is) in
          put_more texts more (texts_in contents) n e file (so_far.read contents left) less is (put ∙ given (contents file) told) kept;
      left = λ k d later within.
          stay (get_or SCENARIO_FILES k d) (others (get_or SCENARIO_FILES k d) file k n (placed k d within) place (λ same. omega arith)) ∙ so_far.left k d (omega arith) within;
    }

-- all files were read
pub read_all : (before now : Left) (texts : Texts) (n : ℕ) → ReadTo before now texts n → length SCENARIO_FILES ≤ n → (contents : Contents) → AreLeft before contents → AreAlike texts (texts_in contents)
read_all before now texts n read all contents left = put_all texts (texts_in contents) n (read.read contents left) all
